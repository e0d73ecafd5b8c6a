-- Transport headers of any protocol.
use Rattle.std.specs.Prelude.{◌≡◌, ℕ, Bool, true, List, [], ◌∷◌, Option, Some, None}
use Rattle.ep_base.specs.declared.err.value_too_big.ValueTooBigError.{ValueTooBigError}
use Rattle.ep_ip.specs.declared.ipv4_header.Ipv4Header.{Ipv4Header}
use Rattle.ep_ip.specs.declared.ipv6_header.Ipv6Header.{Ipv6Header}
use Rattle.ep_base.specs.Checksum.{checksum_of}
use Rattle.ep_base.specs.Tables.{rows_as}
use Rattle.ep_transport.specs.declared.udp_header.UdpHeader.{UdpHeader}
use Rattle.ep_transport.specs.declared.tcp_header.TcpHeader.{TcpHeader}
use Rattle.ep_transport.specs.declared.icmpv4_header.Icmpv4Header.{Icmpv4Header}
use Rattle.ep_transport.specs.declared.icmpv6_header.Icmpv6Header.{Icmpv6Header}
use Rattle.ep_transport.specs.declared.transport_header.TransportHeader.{TransportHeader}
use Rattle.ep_transport.specs.declared.transport_header.TransportHeader.TheVariants.{Udp, Tcp, Icmpv4, Icmpv6}
use Rattle.ep_transport.specs.declared.transport_checksum_error.TransportChecksumError.{TransportChecksumError}
use Rattle.ep_transport.specs.declared.transport_checksum_error.TransportChecksumError.TheVariants.{PayloadLen, Icmpv6InIpv4}
use Rattle.ep_transport.specs.Udp.{FitsUdp, udp_bytes}
use Rattle.ep_transport.specs.Tcp.{EncodesTcp, tcp_bytes, tcp_header_len}
use Rattle.ep_transport.specs.Icmpv4.{EncodesIcmpv4, icmpv4_bytes, icmpv4_kind, icmpv4_len, icmpv4_message}
use Rattle.ep_transport.specs.Icmpv6.{EncodesIcmpv6, icmpv6_bytes, icmpv6_checksum}
use Rattle.ep_transport.specs.PseudoHeaders.{udp_checksum_ipv4, udp_checksum_ipv6, tcp_checksum_ipv4, tcp_checksum_ipv6}
use Rattle.ep_transport.specs.PseudoHeaders.{udp_length_rows_ipv4, udp_length_rows_ipv6, tcp_length_rows_ipv4, tcp_length_rows_ipv6, icmpv6_length_rows}

-- ---- header of one protocol

-- the UDP header, or `None` for another protocol
abbrev pub udp_header_in : TransportHeader → Option UdpHeader
udp_header_in (Udp header) = Some header
udp_header_in _ = None

-- the TCP header, or `None` for another protocol
abbrev pub tcp_header_in : TransportHeader → Option TcpHeader
tcp_header_in (Tcp header) = Some header
tcp_header_in _ = None

-- the ICMP header, or `None` for another protocol
abbrev pub icmpv4_header_in : TransportHeader → Option Icmpv4Header
icmpv4_header_in (Icmpv4 header) = Some header
icmpv4_header_in _ = None

-- the ICMPv6 header, or `None` for another protocol
abbrev pub icmpv6_header_in : TransportHeader → Option Icmpv6Header
icmpv6_header_in (Icmpv6 header) = Some header
icmpv6_header_in _ = None

-- ---- bytes

-- the wire bytes of a header as written
abbrev pub transport_bytes : TransportHeader → List ℕ
transport_bytes (Udp header) = udp_bytes header
transport_bytes (Tcp header) = tcp_bytes header
transport_bytes (Icmpv4 header) = icmpv4_bytes header
transport_bytes (Icmpv6 header) = icmpv6_bytes header

-- the length of a header in bytes
abbrev pub transport_header_len : TransportHeader → ℕ
transport_header_len (Udp header) = 8
transport_header_len (Tcp header) = tcp_header_len header
transport_header_len (Icmpv4 header) = icmpv4_len (icmpv4_kind header.icmp_type)
transport_header_len (Icmpv6 header) = 8

-- The bytes are the header, with any value of reserved bits and unused bytes.
abbrev pub EncodesTransportHeader : TransportHeader → List ℕ → Type 0
EncodesTransportHeader (Udp header) bytes = FitsUdp header × (bytes ≡ udp_bytes header)
EncodesTransportHeader (Tcp header) bytes = EncodesTcp bytes header
EncodesTransportHeader (Icmpv4 header) bytes = EncodesIcmpv4 bytes header
EncodesTransportHeader (Icmpv6 header) bytes = EncodesIcmpv6 bytes header

-- ---- checksum

-- the errors of computing a checksum for IPv4: the payload is too long, or the protocol is ICMPv6
abbrev pub checksum_rows_ipv4 : TransportHeader → List ℕ → List (Bool × TransportChecksumError)
checksum_rows_ipv4 (Udp header) payload = rows_as PayloadLen (udp_length_rows_ipv4 payload)
checksum_rows_ipv4 (Tcp header) payload = rows_as PayloadLen (tcp_length_rows_ipv4 header payload)
checksum_rows_ipv4 (Icmpv4 header) payload = []
checksum_rows_ipv4 (Icmpv6 header) payload = (true, Icmpv6InIpv4) ∷ []

-- the errors of computing a checksum for IPv6: the payload is too long
abbrev pub checksum_rows_ipv6 : TransportHeader → List ℕ → List (Bool × ValueTooBigError ℕ)
checksum_rows_ipv6 (Udp header) payload = udp_length_rows_ipv6 payload
checksum_rows_ipv6 (Tcp header) payload = tcp_length_rows_ipv6 header payload
checksum_rows_ipv6 (Icmpv4 header) payload = []
checksum_rows_ipv6 (Icmpv6 header) payload = icmpv6_length_rows payload

-- an ICMP header with its checksum, which includes no pseudo header and does not depend on the IP header
abbrev pub with_icmpv4_checksum : List ℕ → Icmpv4Header → TransportHeader
with_icmpv4_checksum payload header =
    Icmpv4 (record header { checksum = checksum_of (icmpv4_message header payload) })

-- a header with its checksum for this IPv4 header and payload; an ICMPv6 header is unchanged
abbrev pub with_checksum_ipv4 : Ipv4Header → List ℕ → TransportHeader → TransportHeader
with_checksum_ipv4 ip payload (Udp header) =
    Udp (record header { checksum = udp_checksum_ipv4 ip.source ip.destination header payload })
with_checksum_ipv4 ip payload (Tcp header) =
    Tcp (record header { checksum = tcp_checksum_ipv4 ip.source ip.destination header payload })
with_checksum_ipv4 ip payload (Icmpv4 header) = with_icmpv4_checksum payload header
with_checksum_ipv4 ip payload (Icmpv6 header) = Icmpv6 header

-- a header with its checksum for this IPv6 header and payload
abbrev pub with_checksum_ipv6 : Ipv6Header → List ℕ → TransportHeader → TransportHeader
with_checksum_ipv6 ip payload (Udp header) =
    Udp (record header { checksum = udp_checksum_ipv6 ip.source ip.destination header payload })
with_checksum_ipv6 ip payload (Tcp header) =
    Tcp (record header { checksum = tcp_checksum_ipv6 ip.source ip.destination header payload })
with_checksum_ipv6 ip payload (Icmpv4 header) = with_icmpv4_checksum payload header
with_checksum_ipv6 ip payload (Icmpv6 header) =
    Icmpv6 (record header { checksum = icmpv6_checksum ip.source ip.destination header payload })
