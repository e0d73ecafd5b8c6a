-- ARP, the Address Resolution Protocol (RFC 826).
use Rattle.std.specs.Prelude.{◌≡◌, ℕ, ◌+◌, ◌*◌, ◌^◌, ◌<◌, ◌≤◌, ◌==◌, ◌&&◌, if◌then◌else◌, Bool, not, nat_le, nat_lt}
use Rattle.std.specs.Prelude.{List, [], ◌∷◌, ◌++◌, Option, Some, None, codes, length, slice_index, slice_range}
use Rattle.std.specs.Int.{w16, to_be_bytes}
use Rattle.ep_base.specs.Bytes.{AreBytes, word_at}
use Rattle.ep_base.specs.Readings.{len_error}
use Rattle.ep_base.specs.Tables.{Refuses}
use Rattle.ep_base.specs.declared.ether_type.EtherType.{EtherType}
use Rattle.ep_base.specs.declared.err.len_error.LenError.{LenError}
use Rattle.ep_base.specs.declared.err.layer.Layer.TheVariants as layer
use Rattle.ep_base.specs.declared.len_source.LenSource.{LenSource}
use Rattle.ep_base.specs.declared.len_source.LenSource.TheVariants as source
use Rattle.ep_link.specs.declared.arp.arp_hardware_id.ArpHardwareId.{ArpHardwareId}
use Rattle.ep_link.specs.declared.arp.arp_operation.ArpOperation.{ArpOperation}
use Rattle.ep_link.specs.declared.err.arp.arp_hw_addr_error.ArpHwAddrError.TheVariants as hw_error
use Rattle.ep_link.specs.declared.err.arp.arp_proto_addr_error.ArpProtoAddrError.TheVariants as proto_error
use Rattle.ep_link.specs.declared.err.arp.arp_new_error.ArpNewError.{ArpNewError}
use Rattle.ep_link.specs.declared.err.arp.arp_new_error.ArpNewError.TheVariants as new_error

-- The name of the constant of an operation, or None if there is no constant.
abbrev pub arp_operation_name : ℕ → Option (List ℕ)
arp_operation_name operation =
    if operation == 1 then Some (codes "REQUEST") else (if operation == 2 then Some (codes "REPLY") else None)

-- An ARP packet as plain data, each address as its bytes.
pub record Arp : Type 0 where
  pub hw_addr_type : ArpHardwareId
  pub proto_addr_type : EtherType
  pub operation : ArpOperation
  pub sender_hw_addr : List ℕ
  pub sender_protocol_addr : List ℕ
  pub target_hw_addr : List ℕ
  pub target_protocol_addr : List ℕ

-- Each field fits its width, and the addresses of sender and target have equal lengths.
pub record FitsArp (packet : Arp) : Type 0 where
  pub hw_addr_type : packet.hw_addr_type.0 < 2 ^ 16
  pub proto_addr_type : packet.proto_addr_type.0 < 2 ^ 16
  pub operation : packet.operation.0 < 2 ^ 16
  pub hw_addr_len : length packet.sender_hw_addr ≤ 255
  pub same_hw_addr_len : length packet.target_hw_addr ≡ length packet.sender_hw_addr
  pub protocol_addr_len : length packet.sender_protocol_addr ≤ 255
  pub same_protocol_addr_len : length packet.target_protocol_addr ≡ length packet.sender_protocol_addr
  pub sender_hw_addr : AreBytes packet.sender_hw_addr
  pub sender_protocol_addr : AreBytes packet.sender_protocol_addr
  pub target_hw_addr : AreBytes packet.target_hw_addr
  pub target_protocol_addr : AreBytes packet.target_protocol_addr

-- The length of a packet in bytes.
abbrev pub arp_len : Arp → ℕ
arp_len packet = 8 + 2 * length packet.sender_hw_addr + 2 * length packet.sender_protocol_addr

-- The wire bytes of a packet: hardware and protocol type, the two address lengths, the operation, and the addresses of
-- sender and target.
abbrev pub arp_bytes : Arp → List ℕ
arp_bytes packet =
    to_be_bytes w16 packet.hw_addr_type.0 ++ to_be_bytes w16 packet.proto_addr_type.0
    ++ length packet.sender_hw_addr ∷ length packet.sender_protocol_addr ∷ []
    ++ to_be_bytes w16 packet.operation.0
    ++ packet.sender_hw_addr ++ packet.sender_protocol_addr ++ packet.target_hw_addr ++ packet.target_protocol_addr

-- The bytes are an ARP packet and the bytes after it.
pub record IsArp (bytes : List ℕ) (read : Arp × List ℕ) : Type 0 where
  pub fits : FitsArp read.0
  pub parts : bytes ≡ arp_bytes read.0 ++ read.1

-- The length of the packet according to its two address lengths, bytes 4 and 5.
abbrev pub arp_len_of : List ℕ → ℕ
arp_len_of bytes = 8 + 2 * slice_index bytes 4 + 2 * slice_index bytes 5

-- The refusal table of ARP packets.
abbrev pub arp_rows : List ℕ → List (Bool × LenError)
arp_rows bytes =
    let whole = arp_len_of bytes in
    (nat_lt (length bytes) 8, len_error 8 (length bytes) source.Slice layer.Arp)
    ∷ (nat_lt (length bytes) whole, len_error whole (length bytes) source.ArpAddrLengths layer.Arp)
    ∷ []

-- The bytes are rejected with the error of the first row that holds.
abbrev pub RefusesArp : List ℕ → LenError → Type 0
RefusesArp bytes = Refuses (arp_rows bytes)

-- The length source of an error for truncated bytes: the address lengths if the error is of the ARP packet at offset
-- `start` and at least 8 bytes of the packet are available, and the end of the slice otherwise.
abbrev pub arp_truncation_limit : ℕ → LenError → LenSource
arp_truncation_limit start error =
    if (error.layer_start_offset == start) && nat_le 8 error.len then source.ArpAddrLengths else source.Slice

-- The packet at the start of the bytes.
abbrev pub arp_packet_of : List ℕ → Arp
arp_packet_of bytes =
    let hw = slice_index bytes 4 in
    let protocol = slice_index bytes 5 in
    record {
      hw_addr_type = record { 0 = word_at bytes 0 };
      proto_addr_type = record { 0 = word_at bytes 2 };
      operation = record { 0 = word_at bytes 6 };
      sender_hw_addr = slice_range bytes 8 (8 + hw);
      sender_protocol_addr = slice_range bytes (8 + hw) (8 + hw + protocol);
      target_hw_addr = slice_range bytes (8 + hw + protocol) (8 + 2 * hw + protocol);
      target_protocol_addr = slice_range bytes (8 + 2 * hw + protocol) (8 + 2 * hw + 2 * protocol);
    }

-- The packet that the bytes are, and the bytes after it.
abbrev pub arp_parts : List ℕ → List ℕ → Arp × List ℕ
arp_parts bytes left = (arp_packet_of bytes, left)

-- The refusal table of new packets with these addresses.
abbrev pub arp_address_rows : List ℕ → List ℕ → List ℕ → List ℕ → List (Bool × ArpNewError)
arp_address_rows sender_hw sender_protocol target_hw target_protocol =
    let hw = length sender_hw in
    let other_hw = length target_hw in
    let protocol = length sender_protocol in
    let other_protocol = length target_protocol in
    (not (hw == other_hw), new_error.HwAddr (hw_error.LenNonMatching hw other_hw))
    ∷ (nat_lt 255 hw, new_error.HwAddr (hw_error.LenTooBig hw))
    ∷ (not (protocol == other_protocol), new_error.ProtoAddr (proto_error.LenNonMatching protocol other_protocol))
    ∷ (nat_lt 255 protocol, new_error.ProtoAddr (proto_error.LenTooBig protocol))
    ∷ []

-- The addresses are rejected with the error of the first row that holds.
abbrev pub RefusesArpAddresses : List ℕ → List ℕ → List ℕ → List ℕ → ArpNewError → Type 0
RefusesArpAddresses sender_hw sender_protocol target_hw target_protocol =
    Refuses (arp_address_rows sender_hw sender_protocol target_hw target_protocol)
