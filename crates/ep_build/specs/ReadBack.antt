-- Reading back a built frame: in both readings, by each entry of its first layer.
use Rattle.std.specs.Prelude.{◌≡◌, ◌⊎◌, ℕ, ◌≤◌, false, List, [], ◌++◌, Some, None}
use Rattle.ep_base.specs.EtherTypes.{arp_type}
use Rattle.ep_base.specs.IpPayload.{IpPayload}
use Rattle.ep_base.specs.Readings.{Reading}
use Rattle.ep_base.specs.Tables.{first_row}
use Rattle.ep_link.specs.Arp.{Arp}
use Rattle.ep_packet.specs.Frame.{IsFrameIn}
use Rattle.ep_packet.specs.IpHeaders.{headers_fragment}
use Rattle.ep_packet.specs.declared.entry.Entry.{Entry}
use Rattle.ep_packet.specs.declared.entry.Entry.TheVariants.{Ethernet as ethernet, LinuxSll as linux_sll, EtherType as ether_type, Ip as ip}
use Rattle.ep_packet.specs.Layers.{Layers, arp, ip_payload_in}
use Rattle.ep_packet.specs.declared.ip_headers.IpHeaders.{IpHeaders}
use Rattle.ep_packet.specs.declared.ip_headers.IpHeaders.TheVariants as version
use Rattle.ep_transport.specs.Icmpv4.{icmpv4_rows}
use Rattle.ep_transport.specs.PseudoHeaders.{segment_checksum_ipv4, segment_checksum_ipv6}
use Rattle.ep_transport.specs.TransportHeaders.{EncodesTransportHeader, transport_bytes}
use Rattle.ep_transport.specs.TransportParts.{TransportLayer}
use Rattle.ep_transport.specs.declared.transport_header.TransportHeader.{TransportHeader}
use Rattle.ep_transport.specs.declared.transport_header.TransportHeader.TheVariants as transport
use Rattle.ep_build.specs.BuiltFrames.{Inside, ip_packet, transport_packet, arp_packet, as_ether_type, built_frame}
use Rattle.ep_build.specs.BuiltFrames.{arp_frame_headers, transport_frame_headers, inside_type, transport_between}
use Rattle.ep_build.specs.declared.link_part.LinkPart.{LinkPart}
use Rattle.ep_build.specs.declared.link_part.LinkPart.TheVariants as link

-- ---- entries of the first layer

-- The entries of a frame without a link part: its ether type, and for an IP packet also IP of either version.
abbrev pub IsBareEntry : Inside → Entry → Type 0
IsBareEntry (ip_packet headers last) entry =
    (entry ≡ ip) ⊎ (entry ≡ ether_type (as_ether_type (inside_type (ip_packet headers last))))
IsBareEntry (transport_packet headers upper) entry =
    (entry ≡ ip) ⊎ (entry ≡ ether_type (as_ether_type (inside_type (transport_packet headers upper))))
IsBareEntry (arp_packet packet) entry = entry ≡ ether_type (as_ether_type arp_type)

-- The entries of a frame. A Linux cooked capture header is read back if its packet type is a known one.
abbrev pub IsEntryOf : LinkPart → Inside → Entry → Type 0
IsEntryOf link.Absent inside entry = IsBareEntry inside entry
IsEntryOf (link.Ethernet2 header) inside entry = entry ≡ ethernet
IsEntryOf (link.Tagged header both) inside entry = entry ≡ ethernet
IsEntryOf (link.LinuxSll header) inside entry = (header.packet_type.0 ≤ 7) × (entry ≡ linux_sll)

-- ---- ARP

-- The bytes are a frame in this reading, with this ARP packet.
pub record HoldsArp (reading : Reading) (entry : Entry) (bytes : List ℕ) (packet : Arp) : Type 0 where
  pub layers : Layers
  pub is : IsFrameIn reading entry bytes layers
  pub net : layers.net ≡ Some (arp packet)

-- The frame of an ARP packet is read back.
abbrev pub IsArpReadBack : LinkPart → Arp → Type 0
IsArpReadBack part packet = (reading : Reading) (entry : Entry) → IsEntryOf part (arp_packet packet) entry
    → HoldsArp reading entry (built_frame (arp_frame_headers part packet) []) packet

-- ---- transport layers

-- Bytes of a transport header as it is written, and of the payload.
abbrev pub message_of : IpHeaders → TransportHeader → List ℕ → List ℕ
message_of headers upper payload = transport_bytes (transport_between headers payload upper) ++ payload

-- An ICMPv4 message has the length of its type: a timestamp message has 20 bytes.
abbrev pub HasItsLength : TransportHeader → List ℕ → Type 0
HasItsLength (transport.Udp header) message = Unit {0}
HasItsLength (transport.Tcp header) message = Unit {0}
HasItsLength (transport.Icmpv4 header) message = first_row (icmpv4_rows message) ≡ None
HasItsLength (transport.Icmpv6 header) message = Unit {0}

-- The checksum of a TCP header is that of the segment, between the addresses of IP headers.
abbrev pub SumsUp : IpHeaders → TransportHeader → List ℕ → Type 0
SumsUp (version.Ipv4 header extensions) (transport.Tcp segment) message =
    segment.checksum ≡ segment_checksum_ipv4 header.source header.destination message
SumsUp (version.Ipv6 header extensions) (transport.Tcp segment) message =
    segment.checksum ≡ segment_checksum_ipv6 header.source header.destination message
SumsUp headers (transport.Udp datagram) message = Unit {0}
SumsUp headers (transport.Icmpv4 echo) message = Unit {0}
SumsUp headers (transport.Icmpv6 echo) message = Unit {0}

-- The bytes are a frame in this reading, with the transport layer of this message: the bytes of its header, except
-- reserved bits and unused bytes, and its payload. The TCP checksum is that of the message.
pub record HoldsTransport (reading : Reading) (entry : Entry) (bytes : List ℕ) (headers : IpHeaders)
    (message : List ℕ) : Type 0 where
  pub layers : Layers
  pub is : IsFrameIn reading entry bytes layers
  pub payload : IpPayload
  pub has_payload : ip_payload_in layers ≡ Some payload
  pub is_payload : payload.bytes ≡ message
  pub transport : TransportLayer
  pub has_transport : layers.transport ≡ Some transport
  pub header : List ℕ
  pub encodes : EncodesTransportHeader transport.header header
  pub parts : message ≡ header ++ transport.payload
  pub sums : SumsUp headers transport.header message

-- The frame of a transport header is read back, if it is no fragment and an ICMPv4 message has the length of its type.
-- A raw ICMP type may be read as a known one, as another header with equal bytes.
abbrev pub IsReadBack : LinkPart → IpHeaders → TransportHeader → List ℕ → Type 0
IsReadBack part headers upper payload =
    headers_fragment headers ≡ false → HasItsLength upper (message_of headers upper payload)
    → (reading : Reading) (entry : Entry) → IsEntryOf part (transport_packet headers upper) entry
    → HoldsTransport reading entry (built_frame (transport_frame_headers part headers upper) payload) headers
    (message_of headers upper payload)
