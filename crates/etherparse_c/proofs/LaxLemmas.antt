-- A frame has the same description when it is parsed laxly: each length field that counts its payload limits it.
use Rattle.std.proofs.Common.{◌≡◌, ◌==◌, ◌&&◌, ◌||◌, nat_lt, if◌then◌else◌, ℕ, zero, suc, ◌+◌, ◌<◌, Bool, false, List, [], ◌∷◌, length, map, Option, Some, None, refl, sym, ap, subst, ◌∙◌, inl, inr, arith}
use Rattle.std.proofs.lemmas.Grind.{common_steps}
use Rattle.etherparse.specs.Bytes.{bit}
use Rattle.etherparse.specs.Frame.{NetKind, any_ip, IsFrame, IsInside, IsNetPart, IsTransportAfterNet, most_link_exts, net_kind}
use Rattle.etherparse.specs.FrameBytes.{last_payload}
use Rattle.etherparse.specs.IpPayload.{IpPayload}
use Rattle.etherparse.specs.LaxLayers.{LaxLayers}
use Rattle.etherparse.specs.LaxViews.{extension_incomplete, lax_extension_of, lax_extensions_of}
use Rattle.etherparse.specs.Layers.{Layers, NetLayer, net_payload}
use Rattle.etherparse.specs.LinkExtensions.{LinkExtension, vlan, macsec, extension_payload, extension_type}
use Rattle.etherparse.specs.LinuxSll.{protocol_ether_type}
use Rattle.etherparse.specs.Macsec.{macsec_payload_bytes, ptype_len}
use Rattle.etherparse.specs.Payloads.{extensions_len_source, have_short_len}
use Rattle.etherparse.specs.Readings.{limited_by, slices}
use Rattle.etherparse.specs.StrictFrames.{IsWhole, extension_in, layers_in}
use Rattle.etherparse.specs.TransportParts.{TransportLayer, IsTransportLayer}
use Rattle.etherparse.specs.Types.Entry.{Entry}
use Rattle.etherparse.specs.Types.Entry.TheVariants.{Ethernet as ethernet, LinuxSll as linux_sll, EtherType as ether_type, Ip as ip}
use Rattle.etherparse.specs.Types.EtherType.{EtherType}
use Rattle.etherparse.specs.Types.LaxLinkExtSlice.{LaxLinkExtSlice}
use Rattle.etherparse.specs.Types.LenSource.{LenSource}
use Rattle.etherparse.specs.Types.LenSource.TheVariants as source
use Rattle.etherparse.specs.Types.TransportHeader.{TransportHeader}
use Rattle.etherparse.specs.Types.TransportHeader.TheVariants as transport
use Rattle.etherparse_c.specs.Description.{description, header_end, net_end, payload_end, payload_offset, source_number, transport_end}
use Rattle.etherparse_c.specs.LaxAnswers.{lax_description, lax_end, lax_header_end, lax_transport_end, stop_part}
use Rattle.etherparse_c.specs.LaxAnswers.{tags_end}

-- ---- tags

-- The extensions of lax slices do not depend on whether bytes are missing.
pub extensions_same : (outer : Bool) (slices : List LaxLinkExtSlice)
    → map extension_in (lax_extensions_of outer slices) ≡ map lax_extension_of slices
extensions_same outer [] = refl
extensions_same outer (slice ∷ others) =
    ap (λ (more : List LinkExtension). lax_extension_of slice ∷ more)
    (extensions_same (extension_incomplete outer slice) others)

-- There are as many extensions as slices.
pub extensions_count : (outer : Bool) (slices : List LaxLinkExtSlice)
    → length (map extension_in (lax_extensions_of outer slices)) ≡ length slices
extensions_count outer [] = refl
extensions_count outer (slice ∷ others) = ap suc (extensions_count (extension_incomplete outer slice) others)

-- A short length that is not 0 and counts exactly the bytes that are present limits them.
limits_by_short_len : (outer : LenSource) (short_len present : ℕ) → 0 < short_len → short_len ≡ present
    → (if nat_lt 0 short_len && short_len == present then source.MacsecShortLength else outer)
    ≡ source.MacsecShortLength
limits_by_short_len outer short_len present some same = grind (arith, common_steps)

-- A short length of 0 limits nothing.
limits_nothing : (outer : LenSource) (short_len present : ℕ) → short_len ≡ 0
    → (if nat_lt 0 short_len && short_len == present then source.MacsecShortLength else outer) ≡ outer
limits_nothing outer short_len present none = grind (arith, common_steps)

-- Limit of the bytes after some tags: a short length, if any of the tags has one other than 0; otherwise `outer`.
abbrev lax_exts_len_source : LenSource → List LinkExtension → LenSource
lax_exts_len_source outer extensions = if have_short_len extensions then source.MacsecShortLength else outer

-- Limit of the bytes after a tag, whose short length is positive or 0, and the tags after it.
some_short : (outer : LenSource) (short_len : ℕ) (others : List LinkExtension) → 0 < short_len
    → lax_exts_len_source source.MacsecShortLength others
    ≡ (if nat_lt 0 short_len || have_short_len others then source.MacsecShortLength else outer)
some_short outer short_len others some = grind (arith, common_steps)

no_short : (outer : LenSource) (short_len : ℕ) (others : List LinkExtension) → short_len ≡ 0
    → lax_exts_len_source outer others
    ≡ (if nat_lt 0 short_len || have_short_len others then source.MacsecShortLength else outer)
no_short outer short_len others none = grind (arith, common_steps)

-- In a frame each short length that is not 0 limits the payload of its tag.
tags_end_same : (most : ℕ) (type : Option EtherType) (bytes : List ℕ) (extensions : List LinkExtension)
    (net : Option NetLayer) (transport : Option TransportLayer) (outer : LenSource)
    → IsInside slices most type bytes extensions net transport
    → tags_end outer extensions ≡ lax_exts_len_source outer extensions
tags_end_same most None bytes extensions net transport outer part =
    subst (λ (x : List LinkExtension). tags_end outer x ≡ lax_exts_len_source outer x) (sym part.0) refl
tags_end_same zero (Some type) bytes [] net transport outer part = refl
tags_end_same zero (Some type) bytes (extension ∷ others) net transport outer part = absurd part
tags_end_same (suc most) (Some type) bytes [] net transport outer part = refl
tags_end_same (suc most) (Some type) bytes (vlan tag payload ∷ others) net transport outer part =
    tags_end_same most (extension_type (vlan tag payload)) payload others net transport outer part.1
tags_end_same (suc most) (Some type) bytes (macsec tag payload ∷ others) net transport outer part =
    let present = ptype_len tag.ptype + length (macsec_payload_bytes payload) in
    let after_tag : (end : LenSource) → tags_end end others ≡ lax_exts_len_source end others =
    λ end. tags_end_same most (extension_type (macsec tag payload)) (macsec_payload_bytes payload) others net transport
    end part.1 in
    elim part.0.1.1.cut [
      | inl some ↦
          ap (λ (end : LenSource). tags_end end others) (limits_by_short_len outer tag.short_len present some.0 some.1)
          ∙ after_tag source.MacsecShortLength ∙ some_short outer tag.short_len others some.0
      | inr none ↦
          ap (λ (end : LenSource). tags_end end others) (limits_nothing outer tag.short_len present none.0)
          ∙ after_tag outer ∙ no_short outer tag.short_len others none.0
    ]

-- ---- the transport layer

-- A length of UDP that counts exactly the header and the payload limits the payload.
udp_length_limits : (len n : ℕ) → len ≡ 8 + n
    → (if len == 8 + n then source.UdpHeaderLen else source.Slice)
    ≡ (if len == 0 then source.Slice else source.UdpHeaderLen)
udp_length_limits len n same = grind (arith, common_steps)

-- A length of 0 limits nothing.
udp_length_zero : (len n : ℕ) → len ≡ 0
    → (if len == 8 + n then source.UdpHeaderLen else source.Slice)
    ≡ (if len == 0 then source.Slice else source.UdpHeaderLen)
udp_length_zero len n none = grind (arith, common_steps)

header_end_same : (number : ℕ) (bytes : List ℕ) (header : TransportHeader) (payload : List ℕ)
    → IsTransportLayer slices number bytes header payload → lax_header_end header payload ≡ header_end header
header_end_same number bytes (transport.Udp header) payload is = elim is.1.1.cut [
  | inl counts ↦ udp_length_limits header.length (length payload) counts
  | inr none ↦ udp_length_zero header.length (length payload) none.0
]
header_end_same number bytes (transport.Tcp header) payload is = refl
header_end_same number bytes (transport.Icmpv4 header) payload is = refl
header_end_same number bytes (transport.Icmpv6 header) payload is = refl

transport_end_same : (payload : Option IpPayload) (layer : Option TransportLayer)
    → IsTransportAfterNet slices payload layer → lax_transport_end layer ≡ transport_end layer
transport_end_same None layer none =
    subst (λ (l : Option TransportLayer). lax_transport_end l ≡ transport_end l) (sym none) refl
transport_end_same (Some payload) None is = refl
transport_end_same (Some payload) (Some layer) is =
    header_end_same payload.number payload.bytes layer.header layer.payload is.1

net_part_end_same : (kind : Option NetKind) (bytes : List ℕ) (net : Option NetLayer) (layer : Option TransportLayer)
    → IsNetPart slices kind bytes net layer → lax_transport_end layer ≡ transport_end layer
net_part_end_same None bytes net layer part =
    subst (λ (l : Option TransportLayer). lax_transport_end l ≡ transport_end l) (sym part.1) refl
net_part_end_same (Some kind) bytes net layer part = transport_end_same (net_payload part.0) layer part.3

inside_end_same : (most : ℕ) (type : Option EtherType) (bytes : List ℕ) (extensions : List LinkExtension)
    (net : Option NetLayer) (layer : Option TransportLayer) → IsInside slices most type bytes extensions net layer
    → lax_transport_end layer ≡ transport_end layer
inside_end_same most None bytes extensions net layer part =
    subst (λ (l : Option TransportLayer). lax_transport_end l ≡ transport_end l) (sym part.2) refl
inside_end_same zero (Some type) bytes [] net layer part = net_part_end_same (net_kind type) bytes net layer part
inside_end_same zero (Some type) bytes (extension ∷ others) net layer part = absurd part
inside_end_same (suc most) (Some type) bytes [] net layer part =
    net_part_end_same (net_kind type) bytes net layer part.1
inside_end_same (suc most) (Some type) bytes (extension ∷ others) net layer part =
    inside_end_same most (extension_type extension) (extension_payload extension) others net layer part.1

-- ---- the whole packet

payload_end_same : (layers : Layers) → tags_end source.Slice layers.link_exts ≡ extensions_len_source layers.link_exts
    → lax_transport_end layers.transport ≡ transport_end layers.transport → lax_end layers ≡ payload_end layers
payload_end_same layers tags inside = λ i. limited_by (limited_by (tags i) (net_end layers.net)) (inside i)

frame_end_same : (entry : Entry) (bytes : List ℕ) (layers : Layers) → IsFrame entry bytes layers
    → lax_end layers ≡ payload_end layers
frame_end_same ethernet bytes layers (frame, is, link, inside) =
    let type = Some frame.header.ether_type in
    payload_end_same layers
    (tags_end_same most_link_exts type frame.payload layers.link_exts layers.net layers.transport source.Slice inside)
    (inside_end_same most_link_exts type frame.payload layers.link_exts layers.net layers.transport inside)
frame_end_same linux_sll bytes layers (frame, is, link, inside) =
    let type = protocol_ether_type frame.header.protocol_type in
    payload_end_same layers
    (tags_end_same most_link_exts type frame.payload layers.link_exts layers.net layers.transport source.Slice inside)
    (inside_end_same most_link_exts type frame.payload layers.link_exts layers.net layers.transport inside)
frame_end_same (ether_type type) bytes layers (link, inside) =
    payload_end_same layers
    (tags_end_same most_link_exts (Some type) bytes layers.link_exts layers.net layers.transport source.Slice inside)
    (inside_end_same most_link_exts (Some type) bytes layers.link_exts layers.net layers.transport inside)
frame_end_same ip bytes layers (no_link, no_tags, part) =
    payload_end_same layers
    (subst (λ (x : List LinkExtension). tags_end source.Slice x ≡ extensions_len_source x) (sym no_tags) refl)
    (net_part_end_same (Some any_ip) bytes layers.net layers.transport part)

-- A lax packet that is complete and was parsed to its end has the description of a frame with its layers.
complete_same : (read : LaxLayers) → lax_end (layers_in read) ≡ payload_end (layers_in read)
    → read.net.inside.incomplete ≡ false → read.net.inside.stop ≡ None
    → lax_description read ≡ description (layers_in read)
complete_same read end complete stop = λ i. record (description (layers_in read)) {
  payload = record {
    len_source = source_number (end i);
    incomplete = bit (complete i);
    offset = payload_offset (layers_in read);
    len = length (last_payload (layers_in read));
  };
  refusal = stop_part (stop i);
}

pub described_the_same : (entry : Entry) (bytes : List ℕ) (layers : Layers) (read : LaxLayers)
    → IsFrame entry bytes layers → layers_in read ≡ layers → IsWhole read → lax_description read ≡ description layers
described_the_same entry bytes layers read frame same entire =
    let end = subst (λ (l : Layers). lax_end l ≡ payload_end l) (sym same) (frame_end_same entry bytes layers frame) in
    complete_same read end entire.inside entire.stop ∙ ap description same
