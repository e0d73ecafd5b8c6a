-- Contents of ARP packets and ARP packet slices.
use Rattle.std.specs.Prelude.{ℕ, List}
use Rattle.ep_link.specs.declared.arp.arp_packet.ArpPacket.{ArpPacket}
use Rattle.ep_link.specs.declared.arp.arp_packet_slice.ArpPacketSlice.{ArpPacketSlice}
use Rattle.ep_link.specs.Arp.{Arp, arp_packet_of, arp_parts}

-- the plain data of a packet
abbrev pub arp_of : ArpPacket → Arp
arp_of packet = record {
  hw_addr_type = packet.hw_addr_type;
  proto_addr_type = packet.proto_addr_type;
  operation = packet.operation;
  sender_hw_addr = packet.sender_hw_addr;
  sender_protocol_addr = packet.sender_protocol_addr;
  target_hw_addr = packet.target_hw_addr;
  target_protocol_addr = packet.target_protocol_addr;
}

-- the bytes of the packet in a slice
abbrev pub arp_slice_bytes : ArpPacketSlice → List ℕ
arp_slice_bytes slice = slice.bytes.slice.now

-- the plain data of the packet in a slice
abbrev pub arp_slice_packet : ArpPacketSlice → Arp
arp_slice_packet slice = arp_packet_of (arp_slice_bytes slice)

-- the plain data of the packet in a slice, and the bytes after it
abbrev pub arp_slice_parts : ArpPacketSlice → List ℕ → Arp × List ℕ
arp_slice_parts slice left = arp_parts (arp_slice_bytes slice) left
