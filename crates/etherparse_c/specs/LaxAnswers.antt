-- Description of lax packets for C, and the answer of `etherparse_2_slice_lax`.
use Rattle.std.specs.Prelude.{◌≡◌, ℕ, ◌+◌, ◌==◌, ◌&&◌, nat_lt, if◌then◌else◌, List, [], ◌∷◌, length, ◌⊎◌, Option, Some, None}
use Rattle.etherparse.specs.Bytes.{bit}
use Rattle.etherparse.specs.FrameBytes.{last_payload}
use Rattle.etherparse.specs.Lax.{IsLax}
use Rattle.etherparse.specs.LaxLayers.{LaxLayers}
use Rattle.etherparse.specs.LaxRefusals.{RefusesLax}
use Rattle.etherparse.specs.Layers.{Layers}
use Rattle.etherparse.specs.LinkExtensions.{LinkExtension, vlan, macsec}
use Rattle.etherparse.specs.Macsec.{macsec_payload_bytes, ptype_len}
use Rattle.etherparse.specs.Readings.{limited_by}
use Rattle.etherparse.specs.StrictFrames.{layers_in}
use Rattle.etherparse.specs.TransportParts.{TransportLayer}
use Rattle.etherparse.specs.Types.Entry.{Entry}
use Rattle.etherparse.specs.Types.Layer.{Layer}
use Rattle.etherparse.specs.Types.LenSource.{LenSource}
use Rattle.etherparse.specs.Types.LenSource.TheVariants as source
use Rattle.etherparse.specs.Types.SliceError.{SliceError}
use Rattle.etherparse.specs.Types.TransportHeader.{TransportHeader}
use Rattle.etherparse.specs.Types.TransportHeader.TheVariants as transport
use Rattle.etherparse_c.specs.declared.packet.Packet.{Packet}
use Rattle.etherparse_c.specs.declared.packet.Refusal.{Refusal}
use Rattle.etherparse_c.specs.Description.{description, net_end, no_refusal, payload_offset, source_number}
use Rattle.etherparse_c.specs.Places.{AreAt}
use Rattle.etherparse_c.specs.RefusalNumbers.{refusal_part}
use Rattle.etherparse_c.specs.SliceAnswers.{no_description, refused_packet}

-- ---- the limit of the payload

-- The limit of a tag's payload, if `outer` is the limit of the bytes that contain the tag: its short length, if it is
-- not 0 and counts exactly the bytes after the SecTAG that are present; otherwise `outer`.
abbrev pub tag_end : LenSource → LinkExtension → LenSource
tag_end outer (vlan tag payload) = outer
tag_end outer (macsec tag payload) =
    if nat_lt 0 tag.short_len && tag.short_len == ptype_len tag.ptype + length (macsec_payload_bytes payload)
    then source.MacsecShortLength else outer

-- the limit of the bytes after some tags, each in the payload of the one before it
abbrev pub tags_end : LenSource → List LinkExtension → LenSource
tags_end outer [] = outer
tags_end outer (extension ∷ others) = tags_end (tag_end outer extension) others

-- the limit of a transport header's payload: the length of UDP, if it counts exactly the header and this payload
abbrev pub lax_header_end : TransportHeader → List ℕ → LenSource
lax_header_end (transport.Udp header) payload =
    if header.length == 8 + length payload then source.UdpHeaderLen else source.Slice
lax_header_end (transport.Tcp header) payload = source.Slice
lax_header_end (transport.Icmpv4 header) payload = source.Slice
lax_header_end (transport.Icmpv6 header) payload = source.Slice

abbrev pub lax_transport_end : Option TransportLayer → LenSource
lax_transport_end None = source.Slice
lax_transport_end (Some layer) = lax_header_end layer.header layer.payload

-- the limit of the last layer's payload: the innermost length field in effect, or else the input
abbrev pub lax_end : Layers → LenSource
lax_end layers =
    limited_by (limited_by (tags_end source.Slice layers.link_exts) (net_end layers.net))
    (lax_transport_end layers.transport)

-- ---- the whole packet

-- the error at which parsing stopped, if any
abbrev pub stop_part : Option (SliceError × Layer) → Refusal
stop_part None = no_refusal
stop_part (Some stop) = refusal_part stop.0

-- the description of a lax packet: that of a frame with its layers, except for what limits the payload, whether bytes
-- of it are missing, and the error at which parsing stopped
abbrev pub lax_description : LaxLayers → Packet
lax_description read = record (description (layers_in read)) {
  payload = record {
    len_source = source_number (lax_end (layers_in read));
    incomplete = bit read.net.inside.incomplete;
    offset = payload_offset (layers_in read);
    len = length (last_payload (layers_in read));
  };
  refusal = stop_part read.net.inside.stop;
}

-- The bytes are parsed laxly into these layers, and the packet describes them and their offsets (`AreAt`).
pub record DescribesLax (entry : Entry) (bytes : List ℕ) (read : LaxLayers) (packet : Packet) : Type 0 where
  pub is : IsLax entry bytes read
  pub numbers : packet ≡ lax_description read
  pub places : AreAt bytes (layers_in read) packet

-- The status is 0, and the packet describes the valid layers; or it is 1, and the packet has the error of the first
-- header. If the entry is unknown, the status is 2, and the packet has no layers and no error.
abbrev pub IsLaxAnswer : Option Entry → List ℕ → ℕ → Packet → Type 0
IsLaxAnswer None bytes status packet = (status ≡ 2) × (packet ≡ no_description)
IsLaxAnswer (Some entry) bytes status packet =
    ((status ≡ 0) × ((read : LaxLayers) × DescribesLax entry bytes read packet))
    ⊎ ((status ≡ 1) × ((error : SliceError) × RefusesLax entry bytes error × (packet ≡ refused_packet error)))
