-- Length fields of headers, which state where the payload of a layer ends.
use Rattle.std.specs.Prelude.{◌≡◌, ◌==◌, ◌&&◌, ◌+◌, ◌≤◌, nat_le, if◌then◌else◌, ℕ, List, [], ◌∷◌, ◌++◌, length, Option, Some, None}
use Rattle.ep_link.specs.declared.link_ext.link_ext_header.LinkExtHeader.TheVariants.{Macsec}
use Rattle.ep_link.specs.Arp.{arp_len}
use Rattle.ep_link.specs.LinkExtensions.{LinkExtension, extension_payload}
use Rattle.ep_link.specs.LinkSlices.{LinkLayer, link_layer_header_len, link_layer_payload}
use Rattle.ep_transport.specs.declared.transport_header.TransportHeader.TheVariants.{Udp}
use Rattle.ep_packet.specs.FrameBytes.{last_payload}
use Rattle.ep_packet.specs.Layers.{Layers}
use Rattle.ep_packet.specs.Offsets.{link_len, payload_offset, tag_len}
use Rattle.ep_lax.specs.LaxHeaders.{LayerHeader, of_tag, of_ipv4, of_ipv6, of_arp, of_transport, frame_headers, header_len, tag_header}
use Rattle.ep_lax.specs.LaxMacsec.{macsec_stated_len}

-- The length in bytes of a layer, header and payload, that its header states, if any. A value of 0 states none in the
-- short length of MACsec, the payload length of IPv6 and the length of UDP.
abbrev pub stated_len : LayerHeader → Option ℕ
stated_len (of_tag (Macsec tag)) = if tag.short_len == 0 then None else Some (macsec_stated_len tag)
stated_len (of_ipv4 header) = Some header.total_len
stated_len (of_ipv6 header) = if header.payload_length == 0 then None else Some (40 + header.payload_length)
stated_len (of_transport (Udp header)) = if header.length == 0 then None else Some header.length
stated_len _ = None

-- The length that a header of `len` bytes states, if any, includes the header.
abbrev pub IncludesHeader : ℕ → Option ℕ → Type 0
IncludesHeader len None = Unit {0}
IncludesHeader len (Some stated) = len ≤ stated

-- Each length that one of these headers states includes the header.
abbrev pub IncludeHeaders : List LayerHeader → Type 0
IncludeHeaders [] = Unit {0}
IncludeHeaders (header ∷ others) = IncludesHeader (header_len header) (stated_len header) × IncludeHeaders others

-- ---- ends of payloads

-- The offset at which the payload of a layer ends. The layer starts at `offset`, in bytes that end at `end`. Its header
-- has `len` bytes and states this length, if any. The length applies if it includes the header and ends within the
-- bytes. Otherwise the payload ends with the bytes.
abbrev pub end_by_length : ℕ → ℕ → ℕ → Option ℕ → ℕ
end_by_length offset len end None = end
end_by_length offset len end (Some stated) =
    if nat_le len stated && nat_le (offset + stated) end then offset + stated else end

-- The offset at which the payload of a layer with this header ends. The layer starts at `offset`, in bytes that end at
-- `end`. The payload of an ARP packet is empty.
abbrev pub layer_end : ℕ → ℕ → LayerHeader → ℕ
layer_end offset end (of_arp packet) = offset + arp_len packet
layer_end offset end header = end_by_length offset (header_len header) end (stated_len header)

-- The offset at which the payload of the last of these headers ends. The first header starts at `offset`, in bytes that
-- end at `end`. Each other header is in the payload of the one before it.
abbrev pub last_layer_end : ℕ → ℕ → List LayerHeader → ℕ
last_layer_end offset end [] = end
last_layer_end offset end (header ∷ others) =
    last_layer_end (offset + header_len header) (layer_end offset end header) others

-- ---- bytes of payloads

-- The bytes of a packet from offset `start` to offset `end`.
pub record IsByteRange (packet : List ℕ) (start end : ℕ) (bytes : List ℕ) : Type 0 where
  pub front : List ℕ
  pub left : List ℕ
  pub parts : packet ≡ front ++ (bytes ++ left)
  pub starts : length front ≡ start
  pub ends : start + length bytes ≡ end

-- The payload of the link layer, if present, has all bytes of the packet after the link header.
abbrev pub IsLinkPayload : List ℕ → Option LinkLayer → Type 0
IsLinkPayload packet None = Unit {0}
IsLinkPayload packet (Some layer) =
    IsByteRange packet (link_layer_header_len layer) (length packet) (link_layer_payload layer)

-- The payloads of link extensions have the bytes of the packet from the end of their tag to the end of the layer. The
-- first tag starts at `offset`, in bytes that end at `end`.
abbrev pub AreTagPayloads : List ℕ → ℕ → ℕ → List LinkExtension → Type 0
AreTagPayloads packet offset end [] = Unit {0}
AreTagPayloads packet offset end (extension ∷ others) =
    let start = offset + tag_len extension in
    let tag_end = layer_end offset end (tag_header extension) in
    IsByteRange packet start tag_end (extension_payload extension) × AreTagPayloads packet start tag_end others

-- The payload of the last of these layers has the bytes of the packet from the end of the headers to the end of the
-- layer.
abbrev pub IsLastPayload : List ℕ → Layers → Type 0
IsLastPayload packet layers = IsByteRange packet (payload_offset layers)
    (last_layer_end 0 (length packet) (frame_headers layers)) (last_payload layers)

-- The payload of each layer has the bytes of the packet from the end of its headers to the end that its length field
-- states, if the field applies, or else to the end of the payload around it. The payload of the network layer includes
-- the transport layer.
pub record ArePayloads (packet : List ℕ) (layers : Layers) : Type 0 where
  pub link : IsLinkPayload packet layers.link
  pub tags : AreTagPayloads packet (link_len layers.link) (length packet) layers.link_exts
  pub net : IsLastPayload packet (record layers { transport = None })
  pub transport : IsLastPayload packet layers
