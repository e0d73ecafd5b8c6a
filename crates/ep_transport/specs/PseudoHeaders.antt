-- Transport checksums with their pseudo headers (IPv4: RFC 768 and RFC 9293, 3.1; IPv6: RFC 8200, 8.1), and the errors
-- for messages that are too long for the length of the pseudo header.
use Rattle.std.specs.Prelude.{ℕ, ◌+◌, ◌-◌, nat_lt, Bool, List, [], ◌∷◌, ◌++◌, length, take, drop}
use Rattle.std.specs.Int.{w16, w32, to_be_bytes}
use Rattle.ep_base.specs.Checksum.{checksum_of, no_zero}
use Rattle.ep_base.specs.IpNumbers.{udp_number, tcp_number}
use Rattle.ep_base.specs.declared.err.value_too_big.ValueTooBigError.{ValueTooBigError}
use Rattle.ep_base.specs.declared.err.value_type.ValueType.{ValueType}
use Rattle.ep_base.specs.declared.err.value_type.ValueType.TheVariants as value_type
use Rattle.ep_transport.specs.declared.udp_header.UdpHeader.{UdpHeader}
use Rattle.ep_transport.specs.declared.tcp_header.TcpHeader.{TcpHeader}
use Rattle.ep_transport.specs.Udp.{udp_bytes}
use Rattle.ep_transport.specs.Tcp.{tcp_bytes, tcp_header_len}

-- the IPv4 pseudo header: the addresses, a zero byte, the protocol number, and the length of the message
abbrev pub pseudo_header_ipv4 : List ℕ → List ℕ → ℕ → ℕ → List ℕ
pseudo_header_ipv4 source destination number len = source ++ (destination ++ 0 ∷ number ∷ to_be_bytes w16 len)

-- the IPv6 pseudo header: the addresses, the length of the message, three zero bytes, and the next header
abbrev pub pseudo_header_ipv6 : List ℕ → List ℕ → ℕ → ℕ → List ℕ
pseudo_header_ipv6 source destination number len =
    source ++ (destination ++ (to_be_bytes w32 len ++ 0 ∷ 0 ∷ 0 ∷ number ∷ []))

-- ---- messages with the checksum field set to 0

-- the bytes of a UDP datagram with the checksum field set to 0
abbrev pub udp_message : UdpHeader → List ℕ → List ℕ
udp_message header payload = udp_bytes (record header { checksum = 0 }) ++ payload

-- the bytes of a TCP segment with the checksum field set to 0
abbrev pub tcp_message : TcpHeader → List ℕ → List ℕ
tcp_message header payload = tcp_bytes (record header { checksum = 0 }) ++ payload

-- the bytes of a TCP segment with the checksum field replaced by 0
abbrev pub tcp_bytes_without_checksum : List ℕ → List ℕ
tcp_bytes_without_checksum bytes = take 16 bytes ++ 0 ∷ 0 ∷ drop 18 bytes

-- ---- checksums

-- the UDP checksum for IPv4; the length in the pseudo header is the length field of the UDP header, and 0 becomes 65535
abbrev pub udp_checksum_ipv4 : List ℕ → List ℕ → UdpHeader → List ℕ → ℕ
udp_checksum_ipv4 source destination header payload =
    no_zero (checksum_of (pseudo_header_ipv4 source destination udp_number header.length ++ udp_message header payload))

-- the UDP checksum for IPv6, whose pseudo header has a 32-bit length
abbrev pub udp_checksum_ipv6 : List ℕ → List ℕ → UdpHeader → List ℕ → ℕ
udp_checksum_ipv6 source destination header payload =
    no_zero (checksum_of (pseudo_header_ipv6 source destination udp_number header.length ++ udp_message header payload))

-- the TCP checksum for IPv4; the length in the pseudo header is that of the segment
abbrev pub tcp_checksum_ipv4 : List ℕ → List ℕ → TcpHeader → List ℕ → ℕ
tcp_checksum_ipv4 source destination header payload =
    checksum_of (pseudo_header_ipv4 source destination tcp_number (tcp_header_len header + length payload)
    ++ tcp_message header payload)

-- the TCP checksum for IPv6; the length in the pseudo header is that of the segment
abbrev pub tcp_checksum_ipv6 : List ℕ → List ℕ → TcpHeader → List ℕ → ℕ
tcp_checksum_ipv6 source destination header payload =
    checksum_of (pseudo_header_ipv6 source destination tcp_number (tcp_header_len header + length payload)
    ++ tcp_message header payload)

-- the TCP checksum for IPv4 of a segment given as bytes
abbrev pub segment_checksum_ipv4 : List ℕ → List ℕ → List ℕ → ℕ
segment_checksum_ipv4 source destination bytes =
    checksum_of (pseudo_header_ipv4 source destination tcp_number (length bytes) ++ tcp_bytes_without_checksum bytes)

-- the TCP checksum for IPv6 of a segment given as bytes
abbrev pub segment_checksum_ipv6 : List ℕ → List ℕ → List ℕ → ℕ
segment_checksum_ipv6 source destination bytes =
    checksum_of (pseudo_header_ipv6 source destination tcp_number (length bytes) ++ tcp_bytes_without_checksum bytes)

-- ---- errors for messages that are too long for the length of the pseudo header

-- the error for more than `most` bytes
abbrev pub length_rows : ℕ → ValueType → List ℕ → List (Bool × ValueTooBigError ℕ)
length_rows most value_type bytes =
    (nat_lt most (length bytes), record { actual = length bytes; max_allowed = most; value_type = value_type }) ∷ []

-- the error for a UDP payload after the header of 8 bytes; the length has 16 bits
abbrev pub udp_length_rows_ipv4 : List ℕ → List (Bool × ValueTooBigError ℕ)
udp_length_rows_ipv4 payload = length_rows 65527 value_type.UdpPayloadLengthIpv4 payload

-- the error for a UDP payload after the header of 8 bytes; the length has 32 bits
abbrev pub udp_length_rows_ipv6 : List ℕ → List (Bool × ValueTooBigError ℕ)
udp_length_rows_ipv6 payload = length_rows 4294967287 value_type.UdpPayloadLengthIpv6 payload

-- the error for a TCP payload after this header with its options in IPv4
abbrev pub tcp_length_rows_ipv4 : TcpHeader → List ℕ → List (Bool × ValueTooBigError ℕ)
tcp_length_rows_ipv4 header payload =
    length_rows (65535 - tcp_header_len header) value_type.TcpPayloadLengthIpv4 payload

-- the error for a TCP payload after this header with its options in IPv6
abbrev pub tcp_length_rows_ipv6 : TcpHeader → List ℕ → List (Bool × ValueTooBigError ℕ)
tcp_length_rows_ipv6 header payload =
    length_rows (4294967295 - tcp_header_len header) value_type.TcpPayloadLengthIpv6 payload

-- the error for the bytes of a TCP segment in IPv4
abbrev pub segment_length_rows_ipv4 : List ℕ → List (Bool × ValueTooBigError ℕ)
segment_length_rows_ipv4 bytes = length_rows 65535 value_type.TcpPayloadLengthIpv4 bytes

-- the error for the bytes of a TCP segment in IPv6
abbrev pub segment_length_rows_ipv6 : List ℕ → List (Bool × ValueTooBigError ℕ)
segment_length_rows_ipv6 bytes = length_rows 4294967295 value_type.TcpPayloadLengthIpv6 bytes

-- the error for an ICMPv6 payload after the header of 8 bytes
abbrev pub icmpv6_length_rows : List ℕ → List (Bool × ValueTooBigError ℕ)
icmpv6_length_rows payload = length_rows 4294967287 value_type.Icmpv6PayloadLength payload
