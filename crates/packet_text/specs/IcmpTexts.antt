-- Names of the types and codes of ICMPv4 (RFC 792, 950, 1108, 1122, 1256, 1812, 2521, 8335) and of ICMPv6 (RFC 2710,
-- 3122, 3810, 3971, 4286, 4443, 4861, 6275, 6550, 7112, 8335), and the fields of messages.
use Rattle.std.specs.Prelude.{ℕ, ◌==◌, nat_lt, if◌then◌else◌, List, [], ◌++◌, Option, Some, None, codes}
use Rattle.std.specs.Fmt.{decimal}
use Rattle.etherparse.specs.Types.IcmpEchoHeader.{IcmpEchoHeader}
use Rattle.etherparse.specs.Types.Icmpv4Type.{Icmpv4Type}
use Rattle.etherparse.specs.Types.Icmpv4Type.TheVariants as message4
use Rattle.etherparse.specs.Types.Icmpv6Type.{Icmpv6Type}
use Rattle.etherparse.specs.Types.Icmpv6Type.TheVariants as message6
use Rattle.etherparse.specs.Icmpv4.{icmpv4_code_u8, icmpv4_type_u8}
use Rattle.etherparse.specs.Icmpv6.{icmpv6_code_u8, icmpv6_type_u8}
use Rattle.packet_text.specs.Addresses.{ipv4_text}

-- the name of an ICMPv4 type
abbrev pub icmpv4_type_name : ℕ → Option (List ℕ)
icmpv4_type_name type =
    if type == 0 then Some (codes "echo-reply") else
    (if type == 3 then Some (codes "destination-unreachable") else
    (if type == 4 then Some (codes "source-quench") else
    (if type == 5 then Some (codes "redirect") else
    (if type == 8 then Some (codes "echo-request") else
    (if type == 9 then Some (codes "router-advertisement") else
    (if type == 10 then Some (codes "router-solicitation") else
    (if type == 11 then Some (codes "time-exceeded") else
    (if type == 12 then Some (codes "parameter-problem") else
    (if type == 13 then Some (codes "timestamp-request") else
    (if type == 14 then Some (codes "timestamp-reply") else
    (if type == 17 then Some (codes "address-mask-request") else
    (if type == 18 then Some (codes "address-mask-reply") else
    (if type == 40 then Some (codes "photuris") else
    (if type == 42 then Some (codes "extended-echo-request") else
    (if type == 43 then Some (codes "extended-echo-reply") else None)))))))))))))))

-- the name of a code of Destination Unreachable (ICMPv4 type 3)
abbrev pub icmpv4_unreachable_name : ℕ → Option (List ℕ)
icmpv4_unreachable_name code =
    if code == 0 then Some (codes "network") else
    (if code == 1 then Some (codes "host") else
    (if code == 2 then Some (codes "protocol") else
    (if code == 3 then Some (codes "port") else
    (if code == 4 then Some (codes "fragmentation-needed") else
    (if code == 5 then Some (codes "source-route-failed") else
    (if code == 6 then Some (codes "network-unknown") else
    (if code == 7 then Some (codes "host-unknown") else
    (if code == 8 then Some (codes "source-isolated") else
    (if code == 9 then Some (codes "network-prohibited") else
    (if code == 10 then Some (codes "host-prohibited") else
    (if code == 11 then Some (codes "network-service") else
    (if code == 12 then Some (codes "host-service") else
    (if code == 13 then Some (codes "prohibited") else
    (if code == 14 then Some (codes "precedence-violation") else
    (if code == 15 then Some (codes "precedence-cutoff") else None)))))))))))))))

-- the name of a code of Redirect (ICMPv4 type 5)
abbrev pub icmpv4_redirect_name : ℕ → Option (List ℕ)
icmpv4_redirect_name code =
    if code == 0 then Some (codes "network") else
    (if code == 1 then Some (codes "host") else
    (if code == 2 then Some (codes "network-service") else
    (if code == 3 then Some (codes "host-service") else None)))

-- the name of a code of Time Exceeded, of ICMPv4 and ICMPv6
abbrev pub exceeded_name : ℕ → Option (List ℕ)
exceeded_name code =
    if code == 0 then Some (codes "in-transit") else (if code == 1 then Some (codes "reassembly") else None)

-- the name of a code of Parameter Problem (ICMPv4 type 12)
abbrev pub icmpv4_problem_name : ℕ → Option (List ℕ)
icmpv4_problem_name code =
    if code == 0 then Some (codes "pointer") else
    (if code == 1 then Some (codes "missing-option") else
    (if code == 2 then Some (codes "bad-length") else None))

-- the name of an ICMPv4 code
abbrev pub icmpv4_code_name : ℕ → ℕ → Option (List ℕ)
icmpv4_code_name type code =
    if type == 3 then icmpv4_unreachable_name code else
    (if type == 5 then icmpv4_redirect_name code else
    (if type == 11 then exceeded_name code else
    (if type == 12 then icmpv4_problem_name code else None)))

-- the name of an ICMPv6 error type
abbrev pub icmpv6_error_name : ℕ → Option (List ℕ)
icmpv6_error_name type =
    if type == 1 then Some (codes "destination-unreachable") else
    (if type == 2 then Some (codes "packet-too-big") else
    (if type == 3 then Some (codes "time-exceeded") else
    (if type == 4 then Some (codes "parameter-problem") else None)))

-- the name of an ICMPv6 informational type below 144
abbrev pub icmpv6_neighbor_name : ℕ → Option (List ℕ)
icmpv6_neighbor_name type =
    if type == 128 then Some (codes "echo-request") else
    (if type == 129 then Some (codes "echo-reply") else
    (if type == 130 then Some (codes "listener-query") else
    (if type == 131 then Some (codes "listener-report") else
    (if type == 132 then Some (codes "listener-done") else
    (if type == 133 then Some (codes "router-solicitation") else
    (if type == 134 then Some (codes "router-advertisement") else
    (if type == 135 then Some (codes "neighbor-solicitation") else
    (if type == 136 then Some (codes "neighbor-advertisement") else
    (if type == 137 then Some (codes "redirect") else
    (if type == 141 then Some (codes "inverse-neighbor-solicitation") else
    (if type == 142 then Some (codes "inverse-neighbor-advertisement") else
    (if type == 143 then Some (codes "listener-report-v2") else None))))))))))))

-- the name of an ICMPv6 informational type from 144 on
abbrev pub icmpv6_further_name : ℕ → Option (List ℕ)
icmpv6_further_name type =
    if type == 144 then Some (codes "home-agent-address-request") else
    (if type == 145 then Some (codes "home-agent-address-reply") else
    (if type == 146 then Some (codes "mobile-prefix-solicitation") else
    (if type == 147 then Some (codes "mobile-prefix-advertisement") else
    (if type == 148 then Some (codes "certification-path-solicitation") else
    (if type == 149 then Some (codes "certification-path-advertisement") else
    (if type == 151 then Some (codes "multicast-router-advertisement") else
    (if type == 152 then Some (codes "multicast-router-solicitation") else
    (if type == 153 then Some (codes "multicast-router-termination") else
    (if type == 160 then Some (codes "extended-echo-request") else
    (if type == 161 then Some (codes "extended-echo-reply") else None))))))))))

-- the name of an ICMPv6 type
abbrev pub icmpv6_type_name : ℕ → Option (List ℕ)
icmpv6_type_name type =
    if nat_lt type 128 then icmpv6_error_name type else
    (if nat_lt type 144 then icmpv6_neighbor_name type else icmpv6_further_name type)

-- the name of a code of Destination Unreachable (ICMPv6 type 1)
abbrev pub icmpv6_unreachable_name : ℕ → Option (List ℕ)
icmpv6_unreachable_name code =
    if code == 0 then Some (codes "no-route") else
    (if code == 1 then Some (codes "prohibited") else
    (if code == 2 then Some (codes "beyond-scope") else
    (if code == 3 then Some (codes "address") else
    (if code == 4 then Some (codes "port") else
    (if code == 5 then Some (codes "source-policy") else
    (if code == 6 then Some (codes "reject-route") else
    (if code == 7 then Some (codes "source-routing-header") else None)))))))

-- the name of a code of Parameter Problem (ICMPv6 type 4)
abbrev pub icmpv6_problem_name : ℕ → Option (List ℕ)
icmpv6_problem_name code =
    if code == 0 then Some (codes "erroneous-header") else
    (if code == 1 then Some (codes "unrecognized-next-header") else
    (if code == 2 then Some (codes "unrecognized-option") else
    (if code == 3 then Some (codes "incomplete-header-chain") else None)))

-- the name of an ICMPv6 code
abbrev pub icmpv6_code_name : ℕ → ℕ → Option (List ℕ)
icmpv6_code_name type code =
    if type == 1 then icmpv6_unreachable_name code else
    (if type == 3 then exceeded_name code else
    (if type == 4 then icmpv6_problem_name code else None))

-- the name of a type, or its number if it has no name
abbrev pub message_type_text : Option (List ℕ) → ℕ → List ℕ
message_type_text (Some name) type = codes " " ++ name
message_type_text None type = codes " type " ++ decimal type

-- the name of a code, or its number if it has no name; code 0 without a name is left out
abbrev pub code_text : Option (List ℕ) → ℕ → List ℕ
code_text (Some name) code = codes " " ++ name
code_text None code = if code == 0 then [] else codes " code " ++ decimal code

-- the identifier and the sequence number of an echo
abbrev pub echo_text : IcmpEchoHeader → List ℕ
echo_text echo = codes " id " ++ decimal echo.id ++ codes " seq " ++ decimal echo.seq

-- the fields of an ICMPv4 message after its type and code: the identifier and the sequence number of an echo or
-- timestamp message, the MTU of the next hop, a gateway address, the pointer to the wrong byte
abbrev pub icmpv4_content_text : Icmpv4Type → List ℕ
icmpv4_content_text (message4.Unknown type code bytes5to8) = []
icmpv4_content_text (message4.EchoReply echo) = echo_text echo
icmpv4_content_text (message4.DestinationUnreachable code next_hop_mtu) =
    if code == 4 then codes " mtu " ++ decimal next_hop_mtu else []
icmpv4_content_text (message4.Redirect code gateway) = codes " to " ++ ipv4_text gateway
icmpv4_content_text (message4.EchoRequest echo) = echo_text echo
icmpv4_content_text (message4.TimeExceeded code) = []
icmpv4_content_text (message4.ParameterProblem code pointer) =
    if code == 0 then codes " " ++ decimal pointer else []
icmpv4_content_text (message4.TimestampRequest times) = codes " id " ++ decimal times.id ++ codes " seq " ++ decimal times.seq
icmpv4_content_text (message4.TimestampReply times) = codes " id " ++ decimal times.id ++ codes " seq " ++ decimal times.seq

-- an ICMPv4 message: its type, its code and its further fields
abbrev pub icmpv4_text : Icmpv4Type → List ℕ
icmpv4_text message =
    let type = icmpv4_type_u8 message in
    let code = icmpv4_code_u8 message in
    codes " icmpv4" ++ message_type_text (icmpv4_type_name type) type ++ code_text (icmpv4_code_name type code) code
    ++ icmpv4_content_text message

-- the fields of an ICMPv6 message after its type and code: the identifier and the sequence number of an echo, the MTU,
-- the pointer to the wrong byte
abbrev pub icmpv6_content_text : Icmpv6Type → List ℕ
icmpv6_content_text (message6.Unknown type code bytes5to8) = []
icmpv6_content_text (message6.DestinationUnreachable code) = []
icmpv6_content_text (message6.PacketTooBig mtu) = codes " mtu " ++ decimal mtu
icmpv6_content_text (message6.TimeExceeded code) = []
icmpv6_content_text (message6.ParameterProblem code pointer) = codes " pointer " ++ decimal pointer
icmpv6_content_text (message6.EchoRequest echo) = echo_text echo
icmpv6_content_text (message6.EchoReply echo) = echo_text echo

-- an ICMPv6 message: its type, its code and its further fields
abbrev pub icmpv6_text : Icmpv6Type → List ℕ
icmpv6_text message =
    let type = icmpv6_type_u8 message in
    let code = icmpv6_code_u8 message in
    codes " icmpv6" ++ message_type_text (icmpv6_type_name type) type ++ code_text (icmpv6_code_name type code) code
    ++ icmpv6_content_text message
