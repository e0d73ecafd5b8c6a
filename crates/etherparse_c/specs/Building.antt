-- Answers of the calls that build a frame.
use Rattle.std.specs.Prelude.{◌≡◌, ◌==◌, ◌<◌, ◌≤◌, not, Bool, if◌then◌else◌, ℕ, List, ◌++◌, length, drop, bit_and, ◌⊎◌, Option, Some, None}
use Rattle.etherparse.specs.BuiltFrames.{FrameHeaders, built_frame, transport_frame_headers}
use Rattle.etherparse.specs.BuildErrors.{IsBuildable, RefusesBuild}
use Rattle.etherparse.specs.Steps.{ipv4_headers_between, ipv6_headers_between, no_type}
use Rattle.etherparse.specs.Types.LinkPart.{LinkPart}
use Rattle.etherparse.specs.Types.LinkPart.TheVariants as link
use Rattle.etherparse.specs.Types.BuildWriteError.{BuildWriteError}
use Rattle.etherparse.specs.Types.IpHeaders.{IpHeaders}
use Rattle.etherparse.specs.Tcp.{default_tcp_header}
use Rattle.etherparse.specs.Types.TransportHeader.{TransportHeader}
use Rattle.etherparse.specs.Types.TransportHeader.TheVariants as transport
use Rattle.etherparse.specs.Types.Icmpv4Type.{Icmpv4Type}
use Rattle.etherparse.specs.Types.Icmpv4Type.TheVariants as v4
use Rattle.etherparse.specs.Types.Icmpv6Type.{Icmpv6Type}
use Rattle.etherparse.specs.Types.Icmpv6Type.TheVariants as v6
use Rattle.etherparse_c.specs.declared.route.Route.{Route}
use Rattle.etherparse_c.specs.declared.route.TcpFields.{TcpFields}

-- the link header of a route: none, or an Ethernet II header with its addresses
abbrev pub route_link : Route → LinkPart
route_link route =
    if route.with_ethernet == 0 then link.Absent
    else link.Ethernet2
    (record { source = route.ethernet_source; destination = route.ethernet_destination; ether_type = no_type })

-- the IP headers of a route, if its version is 4 or 6
abbrev pub route_headers : Route → Option IpHeaders
route_headers route =
    if route.version == 4
    then Some (ipv4_headers_between route.ipv4_source route.ipv4_destination route.hop_limit)
    else if route.version == 6
    then Some (ipv6_headers_between route.ipv6_source route.ipv6_destination route.hop_limit)
    else None

-- a UDP header with these ports
abbrev pub udp_between : ℕ → ℕ → TransportHeader
udp_between source_port destination_port = transport.Udp
    (record { source_port = source_port; destination_port = destination_port; length = 0; checksum = 0 })

-- Answer of a call that builds the frame of these headers and a payload. The status is 0, and the frame is at the start
-- of the buffer; 3, and the buffer is too small for it; 4, and the payload is too long for the headers' length fields;
-- or 5, and an allocation failed for a frame that no row rejects. The buffer is changed at 0 only; the length of the
-- frame is stored at 0 and 3.
abbrev pub IsBuilt : FrameHeaders → List ℕ → List ℕ → List ℕ → ℕ → ℕ → Type 0
IsBuilt frame payload old new written status =
    let built = built_frame frame payload in
    ((status ≡ 0) × IsBuildable frame (length payload) × (length built ≤ length old)
    × (new ≡ built ++ drop (length built) old) × (written ≡ length built))
    ⊎ ((status ≡ 3) × IsBuildable frame (length payload) × (length old < length built)
    × (new ≡ old) × (written ≡ length built))
    ⊎ ((status ≡ 4) × ((error : BuildWriteError) × RefusesBuild frame (length payload) error)
    × (new ≡ old) × (written ≡ 0))
    ⊎ ((status ≡ 5) × IsBuildable frame (length payload) × (new ≡ old) × (written ≡ 0))

-- Answer of a call that builds the frame of a link header, IP headers and a transport header. If the version of the
-- route is neither 4 nor 6, the status is 2, and the buffer is unchanged.
abbrev pub IsBuildAnswerBy : LinkPart → TransportHeader → Option IpHeaders → List ℕ → List ℕ → List ℕ → ℕ → ℕ → Type 0
IsBuildAnswerBy link header None payload old new written status = (status ≡ 2) × (new ≡ old) × (written ≡ 0)
IsBuildAnswerBy link header (Some headers) payload old new written status =
    IsBuilt (transport_frame_headers link headers header) payload old new written status

abbrev pub IsBuildAnswer : Route → TransportHeader → List ℕ → List ℕ → List ℕ → ℕ → ℕ → Type 0
IsBuildAnswer route header = IsBuildAnswerBy (route_link route) header (route_headers route)

-- whether a flag is set in a number
abbrev pub has_flag : ℕ → ℕ → Bool
has_flag flags mask = not (bit_and flags mask == 0)

-- a TCP header with these fields, without options
unfoldable pub tcp_of : TcpFields → TransportHeader
tcp_of fields = transport.Tcp (record default_tcp_header {
  source_port = fields.source_port;
  destination_port = fields.destination_port;
  sequence_number = fields.sequence_number;
  acknowledgment_number = fields.acknowledgment_number;
  fin = has_flag fields.flags 1;
  syn = has_flag fields.flags 2;
  rst = has_flag fields.flags 4;
  psh = has_flag fields.flags 8;
  ack = has_flag fields.flags 16;
  urg = has_flag fields.flags 32;
  ece = has_flag fields.flags 64;
  cwr = has_flag fields.flags 128;
  window_size = fields.window_size;
  urgent_pointer = fields.urgent_pointer;
})

-- an ICMP echo message: a request or a reply, with this identifier and sequence number (RFC 792)
abbrev pub icmpv4_echo : ℕ → ℕ → ℕ → Icmpv4Type
icmpv4_echo is_reply id seq =
    if is_reply == 0 then v4.EchoRequest (record { id = id; seq = seq })
    else v4.EchoReply (record { id = id; seq = seq })

abbrev pub icmpv6_echo : ℕ → ℕ → ℕ → Icmpv6Type
icmpv6_echo is_reply id seq =
    if is_reply == 0 then v6.EchoRequest (record { id = id; seq = seq })
    else v6.EchoReply (record { id = id; seq = seq })

-- an echo message of ICMP or ICMPv6
abbrev pub echo_header : Bool → ℕ → ℕ → ℕ → TransportHeader
echo_header is_ipv4 is_reply id seq =
    if is_ipv4
    then transport.Icmpv4 (record { icmp_type = icmpv4_echo is_reply id seq; checksum = 0 })
    else transport.Icmpv6 (record { icmp_type = icmpv6_echo is_reply id seq; checksum = 0 })

-- the echo message of the route's IP version
abbrev pub echo_of : Route → ℕ → ℕ → ℕ → TransportHeader
echo_of route is_reply id seq = echo_header (route.version == 4) is_reply id seq
