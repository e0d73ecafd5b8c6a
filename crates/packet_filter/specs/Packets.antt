-- Packets that filters are matched against, and the fields of their layers.
use Rattle.std.specs.Prelude.{ℕ, ◌+◌, ◌==◌, ◌&&◌, ◌||◌, if◌then◌else◌, Bool, true, false}
use Rattle.std.specs.Prelude.{List, [], ◌∷◌, length, map, drop, Option, Some, None, option_map, option_and_then}
use Rattle.std.specs.List.{list_any}
use Rattle.std.specs.Option.{option_map_or}
use Rattle.ep_base.specs.EtherTypes.{ipv4_type, ipv6_type, arp_type}
use Rattle.ep_base.specs.IpNumbers.{icmpv4_number, tcp_number, udp_number, icmpv6_number}
use Rattle.ep_base.specs.IpPayload.{IpPayload}
use Rattle.ep_base.specs.declared.ether_type.EtherType.{EtherType}
use Rattle.ep_ext.specs.ExtensionParts.{part_next}
use Rattle.ep_link.specs.Arp.{Arp}
use Rattle.ep_link.specs.EtherPayloads.{EtherPayload}
use Rattle.ep_link.specs.LinkExtensions.{LinkExtension, extension_type}
use Rattle.ep_link.specs.LinkSlices.{LinkLayer, ethernet2, link_ether_payload}
use Rattle.ep_packet.specs.Layers.{NetLayer, ipv4, ipv6, arp, net_payload}
use Rattle.ep_packet.specs.Offsets.{link_len, tags_len}
use Rattle.ep_packet.specs.PayloadStarts.{begins_payload}
use Rattle.ep_lax.specs.LaxLayers.{LaxLayers}
use Rattle.ep_lax.specs.StrictFrames.{extension_in}
use Rattle.filter_tokens.specs.declared.primitive.AddressLayer.{AddressLayer}
use Rattle.filter_tokens.specs.declared.primitive.AddressLayer.TheVariants as of
use Rattle.filter_tokens.specs.declared.primitive.FieldLayer.{FieldLayer}
use Rattle.filter_tokens.specs.declared.primitive.FieldLayer.TheVariants as field
use Rattle.filter_tokens.specs.declared.primitive.IpVersion.{IpVersion}
use Rattle.filter_tokens.specs.declared.primitive.IpVersion.TheVariants as version

-- ---- packets

-- The bytes of an IP payload that begins with a transport header, and the IP number of that header.
pub record Transport : Type 0 where
  pub number : ℕ
  pub bytes : List ℕ

-- A packet: its layers, the bytes they were read from, its original length, and its transport header with the bytes
-- after it. The header may be truncated.
pub record Packet : Type 0 where
  pub layers : LaxLayers
  pub bytes : List ℕ
  pub len : ℕ
  pub transport : Option Transport

-- The payload of an IP packet.
abbrev pub transport_of : IpPayload → Transport
transport_of payload = record { number = payload.number; bytes = payload.bytes }

-- The payload of an IP packet, if it begins with a transport header: the packet is no later fragment.
abbrev pub transport_in : NetLayer → Option Transport
transport_in layer = if begins_payload layer then option_map transport_of (net_payload layer) else None

-- A packet as it was read.
abbrev pub packet_of : LaxLayers → List ℕ → ℕ → Packet
packet_of layers bytes len =
    record { layers = layers; bytes = bytes; len = len; transport = option_and_then transport_in layers.net.layer }

-- A packet whose IP payload was reassembled from fragments, with the IP number and the bytes of that payload.
abbrev pub reassembled_packet : LaxLayers → List ℕ → ℕ → ℕ → List ℕ → Packet
reassembled_packet layers bytes len number payload =
    let transport : Transport = record { number = number; bytes = payload } in
    record { layers = layers; bytes = bytes; len = len; transport = Some transport }

-- ---- ether types, IP numbers, addresses

-- The ether type of a network layer, if it is IP.
abbrev pub ip_type : NetLayer → Option ℕ
ip_type (ipv4 header extensions payload) = Some ipv4_type
ip_type (ipv6 header extensions payload) = Some ipv6_type
ip_type (arp packet) = None

-- The number of an ether type, if it is known.
abbrev pub type_number : Option EtherType → Option ℕ
type_number None = None
type_number (Some type) = Some type.0

-- The number of the ether type of a payload.
abbrev pub payload_type : EtherPayload → ℕ
payload_type payload = payload.ether_type.0

-- The ether type of a link layer, if it has one; without a link layer, that of the IP version.
abbrev pub link_type : Option LinkLayer → Option NetLayer → Option ℕ
link_type (Some layer) net = option_map payload_type (link_ether_payload layer)
link_type None None = None
link_type None (Some net) = ip_type net

-- The ether type of the payload of a tag, if it is known.
abbrev pub tag_type : LinkExtension → Option ℕ
tag_type extension = type_number (extension_type extension)

-- The VLAN and MACsec tags of a packet, from the outside in.
abbrev pub tags_in : LaxLayers → List LinkExtension
tags_in layers = map extension_in layers.link_exts

-- True if an ether type is known, and has this number.
abbrev pub is_type : ℕ → Option ℕ → Bool
is_type number None = false
is_type number (Some other) = other == number

-- True if this is the ether type of the link layer, or of the payload of a tag.
abbrev pub has_type : ℕ → LaxLayers → Bool
has_type number layers =
    is_type number (link_type layers.link layers.net.layer)
    || list_any (λ extension. is_type number (tag_type extension)) (tags_in layers)

-- The ether type after all tags, if it is known. `type` is the ether type before them.
abbrev pub type_after : Option ℕ → List LinkExtension → Option ℕ
type_after type [] = type
type_after type (extension ∷ others) = type_after (tag_type extension) others

-- True if a network layer is of this IP version.
abbrev pub is_version : IpVersion → NetLayer → Bool
is_version version.Any (ipv4 header extensions payload) = true
is_version version.Any (ipv6 header extensions payload) = true
is_version version.V4 (ipv4 header extensions payload) = true
is_version version.V6 (ipv6 header extensions payload) = true
is_version ip layer = false

-- The protocol or next header number of an IP header and of each of its extension headers.
abbrev pub ip_numbers : NetLayer → List ℕ
ip_numbers (ipv4 header extensions payload) = header.protocol.0 ∷ map part_next extensions
ip_numbers (ipv6 header extensions payload) = header.next_header.0 ∷ map part_next extensions
ip_numbers (arp packet) = []

-- True if the protocol addresses of an ARP packet are IPv4 addresses.
abbrev pub is_for_ipv4 : Arp → Bool
is_for_ipv4 packet = packet.proto_addr_type.0 == ipv4_type && length packet.sender_protocol_addr == 4

-- The sender and target protocol address of an ARP packet, if they are IPv4 addresses.
abbrev pub arp_addresses : Arp → List (List ℕ)
arp_addresses packet =
    if is_for_ipv4 packet then packet.sender_protocol_addr ∷ packet.target_protocol_addr ∷ [] else []

-- The source and the destination address of a network layer; of ARP for IPv4, those of sender and target.
abbrev pub addresses_of : AddressLayer → NetLayer → List (List ℕ)
addresses_of of.Any (ipv4 header extensions payload) = header.source ∷ header.destination ∷ []
addresses_of of.Ipv4 (ipv4 header extensions payload) = header.source ∷ header.destination ∷ []
addresses_of of.Any (ipv6 header extensions payload) = header.source ∷ header.destination ∷ []
addresses_of of.Ipv6 (ipv6 header extensions payload) = header.source ∷ header.destination ∷ []
addresses_of of.Any (arp packet) = arp_addresses packet
addresses_of of.Arp (arp packet) = arp_addresses packet
addresses_of layer net = []

-- ---- bytes of layers

-- The bytes of a frame that begins with Ethernet II.
abbrev pub ethernet_bytes : Packet → Option LinkLayer → Option (List ℕ)
ethernet_bytes packet (Some (ethernet2 header payload)) = Some packet.bytes
ethernet_bytes packet layer = None

-- The bytes after the link layer and its tags, if they have this ether type.
abbrev pub bytes_of_type : ℕ → Packet → Option (List ℕ)
bytes_of_type type packet =
    if is_type type (type_after (link_type packet.layers.link packet.layers.net.layer) (tags_in packet.layers))
    then Some (drop (link_len packet.layers.link + tags_len (tags_in packet.layers)) packet.bytes) else None

-- The bytes of the transport header and after it, if it has this IP number.
abbrev pub bytes_of_number : ℕ → Option Transport → Option (List ℕ)
bytes_of_number number None = None
bytes_of_number number (Some transport) = if transport.number == number then Some transport.bytes else None

-- The bytes of the transport header and after it, if it has this IP number and is the payload of this IP version.
abbrev pub bytes_of_version : IpVersion → ℕ → Packet → Option (List ℕ)
bytes_of_version ip number packet =
    if option_map_or (is_version ip) packet.layers.net.layer false then bytes_of_number number packet.transport
    else None

-- SCTP (RFC 9260)
abbrev pub sctp_number : ℕ
sctp_number = 132

-- The bytes of a layer, if the packet has it.
abbrev pub bytes_of : FieldLayer → Packet → Option (List ℕ)
bytes_of field.Ethernet packet = ethernet_bytes packet packet.layers.link
bytes_of field.Ipv4 packet = bytes_of_type ipv4_type packet
bytes_of field.Ipv6 packet = bytes_of_type ipv6_type packet
bytes_of field.Arp packet = bytes_of_type arp_type packet
bytes_of field.Tcp packet = bytes_of_number tcp_number packet.transport
bytes_of field.Udp packet = bytes_of_number udp_number packet.transport
bytes_of field.Sctp packet = bytes_of_number sctp_number packet.transport
bytes_of field.Icmpv4 packet = bytes_of_version version.V4 icmpv4_number packet
bytes_of field.Icmpv6 packet = bytes_of_version version.V6 icmpv6_number packet
