-- Lengths of the headers of a frame, and the offset of its payload.
use Rattle.std.specs.Prelude.{ℕ, ◌+◌, List, [], ◌∷◌, Option, Some, None}
use Rattle.ep_ext.specs.ExtensionParts.{ExtensionPart, part_len}
use Rattle.ep_ip.specs.Ipv4.{ipv4_header_len}
use Rattle.ep_link.specs.Arp.{arp_len}
use Rattle.ep_link.specs.LinkExtensions.{LinkExtension, extension_header, link_ext_header_len}
use Rattle.ep_link.specs.LinkSlices.{LinkLayer, link_layer_header_len}
use Rattle.ep_transport.specs.TransportHeaders.{transport_header_len}
use Rattle.ep_transport.specs.TransportParts.{TransportLayer}
use Rattle.ep_packet.specs.Layers.{Layers, NetLayer, ipv4, ipv6, arp}

-- Length of a link header in bytes; 0 if there is none.
abbrev pub link_len : Option LinkLayer → ℕ
link_len None = 0
link_len (Some layer) = link_layer_header_len layer

-- Length in bytes of the tag of a link extension.
abbrev pub tag_len : LinkExtension → ℕ
tag_len extension = link_ext_header_len (extension_header extension)

-- Length in bytes of a list of tags.
abbrev pub tags_len : List LinkExtension → ℕ
tags_len [] = 0
tags_len (extension ∷ others) = tag_len extension + tags_len others

-- Length in bytes of a list of extension headers.
abbrev pub parts_len : List ExtensionPart → ℕ
parts_len [] = 0
parts_len (part ∷ others) = part_len part + parts_len others

-- Length in bytes of an IP header and its extension headers, or of an ARP packet.
abbrev pub net_layer_len : NetLayer → ℕ
net_layer_len (ipv4 header extensions payload) = ipv4_header_len header + parts_len extensions
net_layer_len (ipv6 header extensions payload) = 40 + parts_len extensions
net_layer_len (arp packet) = arp_len packet

-- Length in bytes of the headers of the network layer; 0 if there is none.
abbrev pub net_len : Option NetLayer → ℕ
net_len None = 0
net_len (Some layer) = net_layer_len layer

-- Length of a transport header in bytes; 0 if there is none.
abbrev pub transport_len : Option TransportLayer → ℕ
transport_len None = 0
transport_len (Some layer) = transport_header_len layer.header

-- Offset of the payload of the last layer: the summed length of all headers, in bytes.
abbrev pub payload_offset : Layers → ℕ
payload_offset layers =
    link_len layers.link + tags_len layers.link_exts + net_len layers.net + transport_len layers.transport
