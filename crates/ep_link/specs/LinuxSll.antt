-- Linux cooked captures (SLL v1).
use Rattle.std.specs.Prelude.{◌≡◌, ℕ, ◌^◌, ◌<◌, ◌≤◌, ◌⊎◌, ◌==◌, ◌||◌, Bool, not, nat_lt, if◌then◌else◌}
use Rattle.std.specs.Prelude.{Option, Some, None, List, [], ◌∷◌, ◌++◌, length, drop, slice_range}
use Rattle.std.specs.Int.{w16, to_be_bytes}
use Rattle.ep_base.specs.Bytes.{AreBytes, word_at}
use Rattle.ep_base.specs.Readings.{len_error}
use Rattle.ep_base.specs.Tables.{Parts, Refuses, parts_of}
use Rattle.ep_base.specs.declared.ether_type.EtherType.{EtherType}
use Rattle.ep_base.specs.declared.err.layer.Layer.TheVariants as layer
use Rattle.ep_base.specs.declared.len_source.LenSource.TheVariants as source
use Rattle.ep_base.specs.declared.err.linux_sll.HeaderError.TheVariants as content
use Rattle.ep_base.specs.declared.err.linux_sll.HeaderSliceError.{HeaderSliceError}
use Rattle.ep_base.specs.declared.err.linux_sll.HeaderSliceError.TheVariants as header_error
use Rattle.ep_link.specs.declared.link.linux_sll_protocol_type.LinuxSllProtocolType.{LinuxSllProtocolType}
use Rattle.ep_link.specs.declared.link.linux_sll_protocol_type.LinuxSllProtocolType.TheVariants as protocol
use Rattle.ep_link.specs.declared.link.linux_sll_header.LinuxSllHeader.{LinuxSllHeader}

-- ---- hardware types (ARPHRD)

-- Ethernet.
abbrev pub ethernet_hardware : ℕ
ethernet_hardware = 1

-- Frame Relay access device.
abbrev pub frame_relay_hardware : ℕ
frame_relay_hardware = 770

-- Loopback device.
abbrev pub loopback_hardware : ℕ
loopback_hardware = 772

-- GRE tunnel over IP.
abbrev pub gre_hardware : ℕ
gre_hardware = 778

-- IEEE 802.11 with a radiotap header.
abbrev pub radiotap_hardware : ℕ
radiotap_hardware = 803

-- Netlink.
abbrev pub netlink_hardware : ℕ
netlink_hardware = 824

-- Hardware types whose protocol field is an ether type, or a Linux specific number below the least ether type.
abbrev pub HasEtherTypes : ℕ → Type 0
HasEtherTypes hardware = (hardware ≡ ethernet_hardware) ⊎ (hardware ≡ loopback_hardware)

-- Hardware types whose protocol field is ignored.
abbrev pub HasNoProtocol : ℕ → Type 0
HasNoProtocol hardware = (hardware ≡ frame_relay_hardware) ⊎ (hardware ≡ radiotap_hardware)

-- True if the protocol field of the hardware type can be interpreted.
abbrev pub knows_hardware : ℕ → Bool
knows_hardware hardware =
    (hardware == ethernet_hardware) || (hardware == loopback_hardware) || (hardware == frame_relay_hardware)
    || (hardware == radiotap_hardware) || (hardware == gre_hardware) || (hardware == netlink_hardware)

-- ---- the protocol field

-- The least ether type (IEEE 802.3, 3.2.6).
abbrev pub least_ether_type : ℕ
least_ether_type = 0x0600

-- The hardware type allows the protocol type: an ether type, a Linux specific number below the least ether type, an
-- ignored number, a netlink protocol or a GRE protocol.
abbrev pub IsProtocolOf : ℕ → LinuxSllProtocolType → Type 0
IsProtocolOf hardware (protocol.EtherType type) = HasEtherTypes hardware × (least_ether_type ≤ type.0)
IsProtocolOf hardware (protocol.LinuxNonstandardEtherType number) = HasEtherTypes hardware × (number < least_ether_type)
IsProtocolOf hardware (protocol.Ignored number) = HasNoProtocol hardware
IsProtocolOf hardware (protocol.NetlinkProtocolType number) = hardware ≡ netlink_hardware
IsProtocolOf hardware (protocol.GenericRoutingEncapsulationProtocolType number) = hardware ≡ gre_hardware

-- The number in the protocol field.
abbrev pub protocol_number : LinuxSllProtocolType → ℕ
protocol_number (protocol.EtherType type) = type.0
protocol_number (protocol.LinuxNonstandardEtherType number) = number
protocol_number (protocol.Ignored number) = number
protocol_number (protocol.NetlinkProtocolType number) = number
protocol_number (protocol.GenericRoutingEncapsulationProtocolType number) = number

-- ---- packets

-- The packet type is at most 7, each other field fits its width, and the hardware type allows the protocol type.
pub record FitsLinuxSll (header : LinuxSllHeader) : Type 0 where
  pub packet_type : header.packet_type.0 ≤ 7
  pub arp_hrd_type : header.arp_hrd_type.0 < 2 ^ 16
  pub sender_address_valid_length : header.sender_address_valid_length < 2 ^ 16
  pub sender_address_length : length header.sender_address ≡ 8
  pub sender_address : AreBytes header.sender_address
  pub protocol : protocol_number header.protocol_type < 2 ^ 16
  pub kind : IsProtocolOf header.arp_hrd_type.0 header.protocol_type

-- The length of a header in bytes.
abbrev pub linux_sll_header_len : ℕ
linux_sll_header_len = 16

-- The wire bytes of a header.
abbrev pub linux_sll_bytes : LinuxSllHeader → List ℕ
linux_sll_bytes header =
    to_be_bytes w16 header.packet_type.0 ++ to_be_bytes w16 header.arp_hrd_type.0
    ++ to_be_bytes w16 header.sender_address_valid_length ++ header.sender_address
    ++ to_be_bytes w16 (protocol_number header.protocol_type)

-- The bytes are a header and its payload, without trailing bytes.
pub record IsLinuxSll (bytes : List ℕ) (packet : Parts LinuxSllHeader) : Type 0 where
  pub fits : FitsLinuxSll packet.header
  pub parts : bytes ≡ (linux_sll_bytes packet.header ++ packet.payload) ++ packet.left
  pub cut : packet.left ≡ []

-- The refusal table of Linux cooked captures.
abbrev pub linux_sll_rows : List ℕ → List (Bool × HeaderSliceError)
linux_sll_rows bytes =
    let packet_type = word_at bytes 0 in
    let hardware = word_at bytes 2 in
    (nat_lt (length bytes) 16, header_error.Len (len_error 16 (length bytes) source.Slice layer.LinuxSllHeader))
    ∷ (nat_lt 7 packet_type, header_error.Content (content.UnsupportedPacketTypeField packet_type))
    ∷ (not (knows_hardware hardware), header_error.Content (content.UnsupportedArpHardwareId hardware))
    ∷ []

-- The bytes are rejected with the error of the first row that holds.
abbrev pub RefusesLinuxSll : List ℕ → HeaderSliceError → Type 0
RefusesLinuxSll bytes = Refuses (linux_sll_rows bytes)

-- The protocol type of a number for a supported hardware type.
abbrev pub protocol_of : ℕ → ℕ → LinuxSllProtocolType
protocol_of hardware number =
    if hardware == netlink_hardware then protocol.NetlinkProtocolType number else
    (if hardware == gre_hardware then protocol.GenericRoutingEncapsulationProtocolType number else
    (if (hardware == frame_relay_hardware) || (hardware == radiotap_hardware) then protocol.Ignored number else
    (if nat_lt number least_ether_type then protocol.LinuxNonstandardEtherType number else
    protocol.EtherType (record { 0 = number }))))

-- The header at the start of at least 16 bytes.
abbrev pub linux_sll_header_of : List ℕ → LinuxSllHeader
linux_sll_header_of bytes = record {
  packet_type = record { 0 = word_at bytes 0 };
  arp_hrd_type = record { 0 = word_at bytes 2 };
  sender_address_valid_length = word_at bytes 4;
  sender_address = slice_range bytes 6 14;
  protocol_type = protocol_of (word_at bytes 2) (word_at bytes 14);
}

-- The packet that the bytes are, and the bytes after it.
abbrev pub linux_sll_parts : List ℕ → List ℕ → Parts LinuxSllHeader
linux_sll_parts bytes left = parts_of (linux_sll_header_of bytes) (drop 16 bytes) left

-- The ether type of the payload, or None if the protocol is not an ether type.
abbrev pub protocol_ether_type : LinuxSllProtocolType → Option EtherType
protocol_ether_type (protocol.EtherType type) = Some type
protocol_ether_type (protocol.LinuxNonstandardEtherType number) = None
protocol_ether_type (protocol.Ignored number) = None
protocol_ether_type (protocol.NetlinkProtocolType number) = None
protocol_ether_type (protocol.GenericRoutingEncapsulationProtocolType number) = None
