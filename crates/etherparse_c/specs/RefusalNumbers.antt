-- Numbers of errors, as C gets them.
use Rattle.std.specs.Prelude.{ℕ}
use Rattle.etherparse.specs.Types.IpHeaderError.TheVariants as ip_error
use Rattle.etherparse.specs.Types.IpAuthHeaderError.TheVariants as auth_error
use Rattle.etherparse.specs.Types.Ipv4HeaderError.TheVariants as ipv4_error
use Rattle.etherparse.specs.Types.Ipv6HeaderError.TheVariants as ipv6_error
use Rattle.etherparse.specs.Types.Ipv6ExtsHeaderError.TheVariants as exts_error
use Rattle.etherparse.specs.Types.Layer.{Layer}
use Rattle.etherparse.specs.Types.Layer.TheVariants as layer
use Rattle.etherparse.specs.Types.LenError.{LenError}
use Rattle.etherparse.specs.Types.LinuxSllHeaderError.TheVariants as linux_sll_error
use Rattle.etherparse.specs.Types.MacsecHeaderError.TheVariants as macsec_error
use Rattle.etherparse.specs.Types.TcpHeaderError.TheVariants as tcp_error
use Rattle.etherparse.specs.Types.SliceError.{SliceError}
use Rattle.etherparse.specs.Types.SliceError.TheVariants.{Len, LinuxSll, Macsec, Ip, Ipv4, Ipv6, Ipv4Exts, Ipv6Exts, Tcp}
use Rattle.etherparse_c.specs.declared.packet.Refusal.{Refusal}
use Rattle.etherparse_c.specs.Description.{no_refusal, source_number}

-- the number of a layer
abbrev pub layer_number : Layer → ℕ
layer_number layer.Ethernet2Header = 1
layer_number layer.LinuxSllHeader = 2
layer_number layer.VlanHeader = 3
layer_number layer.MacsecHeader = 4
layer_number layer.MacsecPacket = 5
layer_number layer.Arp = 6
layer_number layer.IpHeader = 7
layer_number layer.Ipv4Header = 8
layer_number layer.Ipv4Packet = 9
layer_number layer.IpAuthHeader = 10
layer_number layer.Ipv6Header = 11
layer_number layer.Ipv6Packet = 12
layer_number layer.Ipv6ExtHeader = 13
layer_number layer.Ipv6FragHeader = 14
layer_number layer.UdpHeader = 15
layer_number layer.UdpPayload = 16
layer_number layer.TcpHeader = 17
layer_number layer.Icmpv4 = 18
layer_number layer.Icmpv4Timestamp = 19
layer_number layer.Icmpv4TimestampReply = 20
layer_number layer.Icmpv6 = 21

-- the numbers of a length error
abbrev pub len_part : LenError → Refusal
len_part error = record {
  kind = 1;
  layer = layer_number error.layer;
  len_source = source_number error.len_source;
  number = 0;
  required_len = error.required_len;
  len = error.len;
  layer_start_offset = error.layer_start_offset;
}

-- the numbers of an error in a field: its kind, and the field's value for the kinds that have one
abbrev pub content_part : ℕ → ℕ → Refusal
content_part kind number = record no_refusal { kind = kind; number = number }

-- the numbers of an error
abbrev pub refusal_part : SliceError → Refusal
refusal_part (Len error) = len_part error
refusal_part (LinuxSll (linux_sll_error.UnsupportedPacketTypeField number)) = content_part 2 number
refusal_part (LinuxSll (linux_sll_error.UnsupportedArpHardwareId number)) = content_part 3 number
refusal_part (Macsec macsec_error.UnexpectedVersion) = content_part 4 0
refusal_part (Macsec macsec_error.InvalidUnmodifiedShortLen) = content_part 5 0
refusal_part (Ip (ip_error.UnsupportedIpVersion version)) = content_part 6 version
refusal_part (Ip (ip_error.Ipv4HeaderLengthSmallerThanHeader ihl)) = content_part 7 ihl
refusal_part (Ipv4 (ipv4_error.UnexpectedVersion version)) = content_part 8 version
refusal_part (Ipv4 (ipv4_error.HeaderLengthSmallerThanHeader ihl)) = content_part 9 ihl
refusal_part (Ipv6 (ipv6_error.UnexpectedVersion version)) = content_part 10 version
refusal_part (Ipv4Exts auth_error.ZeroPayloadLen) = content_part 11 0
refusal_part (Ipv6Exts exts_error.HopByHopNotAtStart) = content_part 12 0
refusal_part (Ipv6Exts (exts_error.IpAuth auth_error.ZeroPayloadLen)) = content_part 13 0
refusal_part (Tcp (tcp_error.DataOffsetTooSmall data_offset)) = content_part 14 data_offset
