-- Text of transport layers, each after a space.
use Rattle.std.specs.Prelude.{ℕ, ◌==◌, ◌&&◌, nat_le, nat_lt, Bool, if◌then◌else◌, List, [], ◌∷◌, ◌++◌, length, codes}
use Rattle.std.specs.Fmt.{decimal}
use Rattle.etherparse.specs.Bytes.{word_at}
use Rattle.etherparse.specs.IpNumbers.{tcp_number, udp_number}
use Rattle.etherparse.specs.Tcp.{tcp_header_of}
use Rattle.etherparse.specs.Types.TcpHeader.{TcpHeader}
use Rattle.etherparse.specs.Types.TransportHeader.{TransportHeader}
use Rattle.etherparse.specs.Types.TransportHeader.TheVariants as header
use Rattle.etherparse.specs.Types.UdpHeader.{UdpHeader}
use Rattle.etherparse.specs.TransportParts.{TransportLayer}
use Rattle.packet_text.specs.IcmpTexts.{icmpv4_text, icmpv6_text}

-- the length of a payload
abbrev pub len_text : List ℕ → List ℕ
len_text payload = codes " len " ++ decimal (length payload)

-- the source and the destination port
abbrev pub ports_text : ℕ → ℕ → List ℕ
ports_text source destination = decimal source ++ codes " > " ++ decimal destination

-- the letter of a flag, if it is set
abbrev pub flag_text : Bool → ℕ → List ℕ
flag_text set letter = if set then letter ∷ [] else []

-- the letters of the TCP flags that are set: SYN, FIN, RST, PSH, ACK, URG, ECE, CWR, NS
unfoldable pub flags_text : TcpHeader → List ℕ
flags_text tcp =
    flag_text tcp.syn 83 ++ flag_text tcp.fin 70 ++ flag_text tcp.rst 82 ++ flag_text tcp.psh 80 ++ flag_text tcp.ack 65
    ++ flag_text tcp.urg 85 ++ flag_text tcp.ece 69 ++ flag_text tcp.cwr 67 ++ flag_text tcp.ns 78

-- the acknowledgment number, if the ACK flag is set
abbrev pub acknowledgment_text : TcpHeader → List ℕ
acknowledgment_text tcp = if tcp.ack then codes " ack " ++ decimal tcp.acknowledgment_number else []

-- the flags and the sequence numbers
unfoldable pub state_text : TcpHeader → List ℕ
state_text tcp =
    codes " [" ++ flags_text tcp ++ (codes "] seq " ++ decimal tcp.sequence_number) ++ acknowledgment_text tcp

-- a TCP header: ports, flags and sequence numbers
abbrev pub tcp_text : TcpHeader → List ℕ
tcp_text tcp = codes " tcp " ++ ports_text tcp.source_port tcp.destination_port ++ state_text tcp

-- a UDP header: ports
abbrev pub udp_text : UdpHeader → List ℕ
udp_text udp = codes " udp " ++ ports_text udp.source_port udp.destination_port

-- a transport header
abbrev pub transport_header_text : TransportHeader → List ℕ
transport_header_text (header.Udp udp) = udp_text udp
transport_header_text (header.Tcp tcp) = tcp_text tcp
transport_header_text (header.Icmpv4 icmp) = icmpv4_text icmp.icmp_type
transport_header_text (header.Icmpv6 icmp) = icmpv6_text icmp.icmp_type

-- a word if the length field of UDP is 0 and bytes are after the header
abbrev pub no_length_text : TransportHeader → List ℕ → List ℕ
no_length_text (header.Udp udp) payload =
    if (udp.length == 0) && nat_lt 0 (length payload) then codes " length 0" else []
no_length_text (header.Tcp tcp) payload = []
no_length_text (header.Icmpv4 icmp) payload = []
no_length_text (header.Icmpv6 icmp) payload = []

-- a transport layer: its header, and the length of its payload
abbrev pub transport_text : TransportLayer → List ℕ
transport_text layer =
    transport_header_text layer.header ++ no_length_text layer.header layer.payload ++ len_text layer.payload

-- ---- headers that are not parsed

-- the ports at the start of a UDP or TCP header, bytes 0 to 3
abbrev pub ports_at : List ℕ → List ℕ
ports_at bytes = ports_text (word_at bytes 0) (word_at bytes 2)

-- the flags and the sequence numbers of TCP, if the first 14 bytes are captured
abbrev pub state_at : List ℕ → List ℕ
state_at bytes = if nat_le 14 (length bytes) then state_text (tcp_header_of bytes) else []

-- the known fields of a UDP header
abbrev pub udp_start_text : List ℕ → List ℕ
udp_start_text bytes = codes " udp " ++ ports_at bytes

-- the known fields of a TCP header
abbrev pub tcp_start_text : List ℕ → List ℕ
tcp_start_text bytes = codes " tcp " ++ ports_at bytes ++ state_at bytes

-- the known fields of a header of this protocol: UDP or TCP, if the 4 bytes of the ports are captured
abbrev pub header_start_text : ℕ → List ℕ → List ℕ
header_start_text number bytes =
    if nat_lt (length bytes) 4 then [] else
    (if number == udp_number then udp_start_text bytes else
    (if number == tcp_number then tcp_start_text bytes else []))
