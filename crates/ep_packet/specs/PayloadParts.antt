-- The payload after the headers of a packet, and its bytes.
use Rattle.std.specs.Prelude.{ℕ, List, [], Option, Some, None}
use Rattle.ep_base.specs.IpPayload.{IpPayload, ip_payload_of}
use Rattle.ep_link.specs.EtherPayloads.{EtherPayload, ether_payload_of}
use Rattle.ep_transport.specs.declared.transport_header.TransportHeader.{TransportHeader}
use Rattle.ep_transport.specs.declared.transport_header.TransportHeader.TheVariants as header
use Rattle.ep_transport.specs.TransportParts.{TransportLayer}
use Rattle.ep_packet.specs.declared.payload_slice.PayloadSlice.{PayloadSlice}
use Rattle.ep_packet.specs.declared.payload_slice.PayloadSlice.TheVariants as slice
use Rattle.ep_packet.specs.FrameBytes.{link_payload, payload_after_exts}
use Rattle.ep_packet.specs.Layers.{Layers, NetLayer, ipv4, ipv6, arp}
use Rattle.ep_packet.specs.Payloads.{ether_payload_in}

-- A payload as plain data, by the layer it belongs to: none after an ARP packet; that of a link layer or link
-- extension, of known or unknown type; that of an IP packet; that of a transport layer.
pub data PayloadPart : Type 0 where
  empty : PayloadPart
  ether : EtherPayload → PayloadPart
  macsec_modified : List ℕ → PayloadPart
  ip : IpPayload → PayloadPart
  udp : List ℕ → PayloadPart
  tcp : List ℕ → PayloadPart
  icmpv4 : List ℕ → PayloadPart
  icmpv6 : List ℕ → PayloadPart

-- The payload that a slice shows.
abbrev pub payload_part_of : PayloadSlice → PayloadPart
payload_part_of slice.Empty = empty
payload_part_of (slice.Ether payload) = ether (ether_payload_of payload)
payload_part_of (slice.MacsecMod bytes) = macsec_modified bytes.now
payload_part_of (slice.Ip payload) = ip (ip_payload_of payload)
payload_part_of (slice.Udp bytes) = udp bytes.now
payload_part_of (slice.Tcp bytes) = tcp bytes.now
payload_part_of (slice.Icmpv4 bytes) = icmpv4 bytes.now
payload_part_of (slice.Icmpv6 bytes) = icmpv6 bytes.now

-- Bytes of a payload.
abbrev pub payload_part_bytes : PayloadPart → List ℕ
payload_part_bytes empty = []
payload_part_bytes (ether payload) = payload.bytes
payload_part_bytes (macsec_modified bytes) = bytes
payload_part_bytes (ip payload) = payload.bytes
payload_part_bytes (udp bytes) = bytes
payload_part_bytes (tcp bytes) = bytes
payload_part_bytes (icmpv4 bytes) = bytes
payload_part_bytes (icmpv6 bytes) = bytes

-- ---- payload after the layers of a frame

-- The bytes as the payload of a transport header.
abbrev pub transport_payload_part : TransportHeader → List ℕ → PayloadPart
transport_payload_part (header.Udp datagram) bytes = udp bytes
transport_payload_part (header.Tcp segment) bytes = tcp bytes
transport_payload_part (header.Icmpv4 message) bytes = icmpv4 bytes
transport_payload_part (header.Icmpv6 message) bytes = icmpv6 bytes

-- The payload of a network layer without a transport layer.
abbrev pub net_payload_part : NetLayer → PayloadPart
net_payload_part (ipv4 header extensions payload) = ip payload
net_payload_part (ipv6 header extensions payload) = ip payload
net_payload_part (arp packet) = empty

-- The payload of the last layer. Without network and transport layer it is `unread`.
abbrev pub innermost_part : PayloadPart → Option NetLayer → Option TransportLayer → PayloadPart
innermost_part unread net (Some transport) = transport_payload_part transport.header transport.payload
innermost_part unread (Some net) None = net_payload_part net
innermost_part unread None None = unread

-- A payload of known type, or else the given bytes, as a payload of unknown type.
abbrev pub open_part : Option EtherPayload → List ℕ → PayloadPart
open_part None bytes = macsec_modified bytes
open_part (Some payload) bytes = ether payload

-- The payload after the link layer and its extensions. One of unknown type is `macsec_modified`.
abbrev pub open_part_in : Layers → PayloadPart
open_part_in layers =
    open_part (ether_payload_in layers) (payload_after_exts (link_payload layers.link) layers.link_exts)

-- The payload of the last layer of a frame.
abbrev pub payload_part_in : Layers → PayloadPart
payload_part_in layers = innermost_part (open_part_in layers) layers.net layers.transport
