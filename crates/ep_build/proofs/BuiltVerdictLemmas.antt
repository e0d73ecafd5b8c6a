-- The checksums of a built frame are valid.
use Rattle.std.proofs.Common.{◌≡◌, ℕ, zero, suc, ◌+◌, ◌-◌, ◌%◌, ◌^◌, ◌==◌, ◌≤◌, nat_lt, if◌then◌else◌, Bool, true}
use Rattle.std.proofs.Common.{false, List, [], ◌∷◌, ◌++◌, length, take, drop, None, refl, sym, ap, ◌∙◌, arith}
use Rattle.std.specs.Int.{w16, to_be_bytes}
use Rattle.std.proofs.lemmas.Grind.{common_steps}
use Rattle.std.proofs.lemmas.List.{length-append}
use Rattle.ep_base.specs.Checksum.{checksum_of, no_zero, ones_sum}
use Rattle.ep_base.specs.IpNumbers.{icmpv6_number, tcp_number, udp_number}
use Rattle.ep_base.specs.Tables.{first_row}
use Rattle.ep_ip.specs.declared.ipv4_header.Ipv4Header.{Ipv4Header}
use Rattle.ep_ip.specs.Ipv4.{ipv4_bytes, ipv4_checksum}
use Rattle.ep_packet.specs.IpHeaders.{FitIpHeaders, ip_extensions_len, most_after_header}
use Rattle.ep_packet.specs.Verdicts.{sum_verdict, verdict_ipv4, verdict_ipv6}
use Rattle.ep_packet.specs.declared.checksum_verdict.ChecksumVerdict.{ChecksumVerdict}
use Rattle.ep_packet.specs.declared.checksum_verdict.ChecksumVerdict.TheVariants.{Valid, Invalid, Absent, Unknown}
use Rattle.ep_packet.specs.declared.ip_headers.IpHeaders.{IpHeaders}
use Rattle.ep_packet.specs.declared.ip_headers.IpHeaders.TheVariants as version
use Rattle.ep_transport.specs.Icmpv4.{icmpv4_bytes, icmpv4_code_u8, icmpv4_message, icmpv4_rest_with, icmpv4_type_u8}
use Rattle.ep_transport.specs.Icmpv6.{icmpv6_bytes, icmpv6_checksum, icmpv6_code_u8, icmpv6_rest_with, icmpv6_type_u8}
use Rattle.ep_transport.specs.PseudoHeaders.{pseudo_header_ipv4, pseudo_header_ipv6, tcp_checksum_ipv4}
use Rattle.ep_transport.specs.PseudoHeaders.{tcp_checksum_ipv6, udp_checksum_ipv4, udp_checksum_ipv6}
use Rattle.ep_transport.specs.Tcp.{tcp_bytes, tcp_header_len}
use Rattle.ep_transport.specs.TransportHeaders.{transport_header_len}
use Rattle.ep_transport.specs.Udp.{udp_bytes}
use Rattle.ep_transport.specs.declared.icmpv4_header.Icmpv4Header.{Icmpv4Header}
use Rattle.ep_transport.specs.declared.icmpv6_header.Icmpv6Header.{Icmpv6Header}
use Rattle.ep_transport.specs.declared.tcp_header.TcpHeader.{TcpHeader}
use Rattle.ep_transport.specs.declared.transport_header.TransportHeader.{TransportHeader}
use Rattle.ep_transport.specs.declared.transport_header.TransportHeader.TheVariants as transport
use Rattle.ep_transport.specs.declared.udp_header.UdpHeader.{UdpHeader}
use Rattle.ep_transport.proofs.SumLemmas.{filled, filled_no_zero}
use Rattle.ep_build.specs.BuildErrors.{IsBuildable, is_icmpv6_in_ipv4}
use Rattle.ep_build.specs.BuiltFrames.{transport_between, transport_frame_headers}
use Rattle.ep_build.specs.BuiltVerdicts.{written_verdict}
use Rattle.ep_build.specs.Fits.{FitsTransport}
use Rattle.ep_build.specs.declared.link_part.LinkPart.{LinkPart}
use Rattle.ep_build.proofs.TransportReadBackLemmas.{tcp_len}

-- ---- sums

valid_sum : (bytes : List ℕ) → ones_sum bytes ≡ 65535 → sum_verdict bytes ≡ Valid
valid_sum bytes is = ap (λ (n : ℕ). if n == 65535 then Valid else Invalid) is

-- A length that fits the pseudo header, and a sum of 65535, are valid.
valid_within : (most len : ℕ) (bytes : List ℕ) → len ≤ most → ones_sum bytes ≡ 65535
    → (if nat_lt most len then Unknown else sum_verdict bytes) ≡ Valid
valid_within most len bytes fits is =
    let within : nat_lt most len ≡ false = grind (arith, common_steps) in
    ap (λ (long : Bool). if long then Unknown else sum_verdict bytes) within ∙ valid_sum bytes is

-- The verdict about a message of `len` bytes between two addresses.
abbrev verdict_at_4 : List ℕ → List ℕ → ℕ → List ℕ → ℕ → ChecksumVerdict
verdict_at_4 source destination number message len =
    if nat_lt 65535 len then Unknown else sum_verdict (pseudo_header_ipv4 source destination number len ++ message)

abbrev verdict_at_6 : List ℕ → List ℕ → ℕ → List ℕ → ℕ → ChecksumVerdict
verdict_at_6 source destination number message len =
    if nat_lt 4294967295 len then Unknown
    else sum_verdict (pseudo_header_ipv6 source destination number len ++ message)

equals_itself : (n : ℕ) → (n == n) ≡ true
equals_itself n = grind (arith, common_steps)

-- A message that its length field counts is valid if it is at that length.
valid_counted : (len : ℕ) (message : List ℕ) (verdict_at : ℕ → ChecksumVerdict) → len ≡ length message
    → verdict_at len ≡ Valid → (if len == length message then verdict_at (length message) else Unknown) ≡ Valid
valid_counted len message verdict_at counts valid =
    ap (λ (n : ℕ). if len == n then verdict_at n else Unknown) (sym counts)
    ∙ ap (λ (same : Bool). if same then verdict_at len else Unknown) (equals_itself len) ∙ valid

even_4 : (source destination : List ℕ) (number len : ℕ) → length source ≡ 4 → length destination ≡ 4
    → length (pseudo_header_ipv4 source destination number len) % 2 ≡ 0
even_4 source destination number len is_source is_destination = grind (arith, common_steps)

even_6 : (source destination : List ℕ) (number len : ℕ) → length source ≡ 16 → length destination ≡ 16
    → length (pseudo_header_ipv6 source destination number len) % 2 ≡ 0
even_6 source destination number len is_source is_destination = grind (arith, common_steps)

-- ---- IPv4 header

pub header_is_valid : (header : Ipv4Header)
    → sum_verdict (ipv4_bytes (record header { header_checksum = ipv4_checksum header })) ≡ Valid
header_is_valid header = valid_sum (ipv4_bytes (record header { header_checksum = ipv4_checksum header }))
    (filled [] (take 10 (ipv4_bytes header)) ((header.source ++ header.destination) ++ header.options) refl refl)

-- ---- messages

-- A UDP checksum is never written as 0.
not_absent : (n : ℕ) → (no_zero n == 0) ≡ false
not_absent zero = refl
not_absent (suc n) = grind (arith, common_steps)

udp_4 : (source destination : List ℕ) (header : UdpHeader) (payload : List ℕ) → length source ≡ 4
    → length destination ≡ 4 → header.length ≤ 65535 → header.length ≡ 8 + length payload
    → let present = record header { checksum = udp_checksum_ipv4 source destination header payload } in
    verdict_ipv4 source destination (transport.Udp present) (udp_bytes present ++ payload) ≡ Valid
udp_4 source destination header payload is_source is_destination fits counts =
    let present = record header { checksum = udp_checksum_ipv4 source destination header payload } in
    let message = udp_bytes present ++ payload in
    let pseudo = pseudo_header_ipv4 source destination udp_number header.length in
    let head = to_be_bytes w16 header.source_port ++ to_be_bytes w16 header.destination_port
    ++ to_be_bytes w16 header.length in
    let even = even_4 source destination udp_number header.length is_source is_destination in
    let sum : ones_sum (pseudo ++ message) ≡ 65535 = filled_no_zero pseudo head payload even refl in
    let valid : verdict_at_4 source destination udp_number message header.length ≡ Valid =
    valid_within 65535 header.length (pseudo ++ message) fits sum in
    ap (λ (absent : Bool). if absent then Absent
    else if header.length == length message then
    verdict_at_4 source destination udp_number message (length message)
    else Unknown) (not_absent _)
    ∙ valid_counted header.length message (verdict_at_4 source destination udp_number message)
    (omega (arith, counts)) valid

udp_6 : (source destination : List ℕ) (header : UdpHeader) (payload : List ℕ) → length source ≡ 16
    → length destination ≡ 16 → header.length ≤ 65535 → header.length ≡ 8 + length payload
    → let present = record header { checksum = udp_checksum_ipv6 source destination header payload } in
    verdict_ipv6 source destination (transport.Udp present) (udp_bytes present ++ payload) ≡ Valid
udp_6 source destination header payload is_source is_destination fits counts =
    let present = record header { checksum = udp_checksum_ipv6 source destination header payload } in
    let message = udp_bytes present ++ payload in
    let pseudo = pseudo_header_ipv6 source destination udp_number header.length in
    let head = to_be_bytes w16 header.source_port ++ to_be_bytes w16 header.destination_port
    ++ to_be_bytes w16 header.length in
    let even = even_6 source destination udp_number header.length is_source is_destination in
    let sum : ones_sum (pseudo ++ message) ≡ 65535 = filled_no_zero pseudo head payload even refl in
    let within : header.length ≤ 4294967295 = omega (arith, fits) in
    let valid : verdict_at_6 source destination udp_number message header.length ≡ Valid =
    valid_within 4294967295 header.length (pseudo ++ message) within sum in
    ap (λ (zero : Bool). if zero then Invalid
    else if header.length == length message then
    verdict_at_6 source destination udp_number message (length message)
    else Unknown) (not_absent _)
    ∙ valid_counted header.length message (verdict_at_6 source destination udp_number message)
    (omega (arith, counts)) valid

tcp_4 : (source destination : List ℕ) (header : TcpHeader) (payload : List ℕ) → length source ≡ 4
    → length destination ≡ 4 → tcp_header_len header + length payload ≤ 65535
    → let present = record header { checksum = tcp_checksum_ipv4 source destination header payload } in
    verdict_ipv4 source destination (transport.Tcp present) (tcp_bytes present ++ payload) ≡ Valid
tcp_4 source destination header payload is_source is_destination fits =
    let present = record header { checksum = tcp_checksum_ipv4 source destination header payload } in
    let message = tcp_bytes present ++ payload in
    let len = tcp_header_len header + length payload in
    let pseudo = pseudo_header_ipv4 source destination tcp_number len in
    let even = even_4 source destination tcp_number len is_source is_destination in
    let sum : ones_sum (pseudo ++ message) ≡ 65535 =
    filled pseudo (take 16 (tcp_bytes header)) (drop 18 (tcp_bytes header ++ payload)) even refl in
    ap (verdict_at_4 source destination tcp_number message) (tcp_len present payload)
    ∙ valid_within 65535 len (pseudo ++ message) fits sum

tcp_6 : (source destination : List ℕ) (header : TcpHeader) (payload : List ℕ) → length source ≡ 16
    → length destination ≡ 16 → tcp_header_len header + length payload ≤ 65535
    → let present = record header { checksum = tcp_checksum_ipv6 source destination header payload } in
    verdict_ipv6 source destination (transport.Tcp present) (tcp_bytes present ++ payload) ≡ Valid
tcp_6 source destination header payload is_source is_destination fits =
    let present = record header { checksum = tcp_checksum_ipv6 source destination header payload } in
    let message = tcp_bytes present ++ payload in
    let len = tcp_header_len header + length payload in
    let pseudo = pseudo_header_ipv6 source destination tcp_number len in
    let even = even_6 source destination tcp_number len is_source is_destination in
    let sum : ones_sum (pseudo ++ message) ≡ 65535 =
    filled pseudo (take 16 (tcp_bytes header)) (drop 18 (tcp_bytes header ++ payload)) even refl in
    let within : len ≤ 4294967295 = omega (arith, fits) in
    ap (verdict_at_6 source destination tcp_number message) (tcp_len present payload)
    ∙ valid_within 4294967295 len (pseudo ++ message) within sum

icmpv4_is_valid : (header : Icmpv4Header) (payload : List ℕ)
    → sum_verdict (icmpv4_bytes (record header { checksum = checksum_of (icmpv4_message header payload) }) ++ payload)
    ≡ Valid
icmpv4_is_valid header payload = valid_sum _
    (filled [] (icmpv4_type_u8 header.icmp_type ∷ icmpv4_code_u8 header.icmp_type ∷ [])
    (icmpv4_rest_with (0 ∷ 0 ∷ 0 ∷ 0 ∷ []) header.icmp_type ++ payload) refl refl)

icmpv6_6 : (source destination : List ℕ) (header : Icmpv6Header) (payload : List ℕ) → length source ≡ 16
    → length destination ≡ 16 → 8 + length payload ≤ 65535
    → let present = record header { checksum = icmpv6_checksum source destination header payload } in
    length (icmpv6_bytes present) ≡ 8
    → verdict_ipv6 source destination (transport.Icmpv6 present) (icmpv6_bytes present ++ payload) ≡ Valid
icmpv6_6 source destination header payload is_source is_destination fits is_long =
    let present = record header { checksum = icmpv6_checksum source destination header payload } in
    let message = icmpv6_bytes present ++ payload in
    let len = 8 + length payload in
    let pseudo = pseudo_header_ipv6 source destination icmpv6_number len in
    let even = even_6 source destination icmpv6_number len is_source is_destination in
    let sum : ones_sum (pseudo ++ message) ≡ 65535 =
    filled pseudo (icmpv6_type_u8 header.icmp_type ∷ icmpv6_code_u8 header.icmp_type ∷ [])
    (icmpv6_rest_with (0 ∷ 0 ∷ 0 ∷ 0 ∷ []) header.icmp_type ++ payload) even refl in
    let within : len ≤ 4294967295 = omega (arith, fits) in
    let is_len : length message ≡ len = omega (arith, is_long, length-append (icmpv6_bytes present) payload) in
    ap (verdict_at_6 source destination icmpv6_number message) is_len
    ∙ valid_within 4294967295 len (pseudo ++ message) within sum

-- ---- all messages

-- The rows of the table that are not met, for a frame with a transport header.
rows_not_met : {E : Type 0} (total most : ℕ) (last : Bool) (first second third : E)
    → first_row ((nat_lt (2 ^ 64 - 1) total, first) ∷ (nat_lt most total, second) ∷ (last, third) ∷ []) ≡ None
    → (total ≤ most) × (last ≡ false)
rows_not_met total most last first second third none =
    (grind (arith, common_steps), grind (arith, common_steps))

-- The length of header and payload fits the pseudo header.
pub bound : (part : LinkPart) (headers : IpHeaders) (upper : TransportHeader) (payload : List ℕ)
    → IsBuildable (transport_frame_headers part headers upper) (length payload)
    → (transport_header_len upper + length payload + ip_extensions_len headers ≤ most_after_header headers)
    × (is_icmpv6_in_ipv4 headers upper ≡ false)
bound part headers upper payload buildable =
    rows_not_met (transport_header_len upper + length payload + ip_extensions_len headers) (most_after_header headers)
    (is_icmpv6_in_ipv4 headers upper) _ _ _ buildable

pub message_is_valid : (part : LinkPart) (headers : IpHeaders) (upper : TransportHeader) (payload : List ℕ)
    → FitIpHeaders headers → FitsTransport (transport_between headers payload upper)
    → IsBuildable (transport_frame_headers part headers upper) (length payload)
    → written_verdict headers upper payload ≡ Valid
message_is_valid part (version.Ipv4 ip extensions) (transport.Udp header) payload fit fits buildable =
    let most = (bound part (version.Ipv4 ip extensions) (transport.Udp header) payload buildable).0 in
    udp_4 ip.source ip.destination (record header { length = 8 + length payload }) payload fit.0.source_len
    fit.0.destination_len (omega (arith, most)) refl
message_is_valid part (version.Ipv6 ip extensions) (transport.Udp header) payload fit fits buildable =
    let most = (bound part (version.Ipv6 ip extensions) (transport.Udp header) payload buildable).0 in
    udp_6 ip.source ip.destination (record header { length = 8 + length payload }) payload fit.0.source_len
    fit.0.destination_len (omega (arith, most)) refl
message_is_valid part (version.Ipv4 ip extensions) (transport.Tcp header) payload fit fits buildable =
    let most = (bound part (version.Ipv4 ip extensions) (transport.Tcp header) payload buildable).0 in
    tcp_4 ip.source ip.destination header payload fit.0.source_len fit.0.destination_len (omega (arith, most))
message_is_valid part (version.Ipv6 ip extensions) (transport.Tcp header) payload fit fits buildable =
    let most = (bound part (version.Ipv6 ip extensions) (transport.Tcp header) payload buildable).0 in
    tcp_6 ip.source ip.destination header payload fit.0.source_len fit.0.destination_len (omega (arith, most))
message_is_valid part (version.Ipv4 ip extensions) (transport.Icmpv4 header) payload fit fits buildable =
    icmpv4_is_valid header payload
message_is_valid part (version.Ipv6 ip extensions) (transport.Icmpv4 header) payload fit fits buildable =
    icmpv4_is_valid header payload
message_is_valid part (version.Ipv4 ip extensions) (transport.Icmpv6 header) payload fit fits buildable =
    let not_built = (bound part (version.Ipv4 ip extensions) (transport.Icmpv6 header) payload buildable).1 in
    absurd (cc)
message_is_valid part (version.Ipv6 ip extensions) (transport.Icmpv6 header) payload fit fits buildable =
    let most = (bound part (version.Ipv6 ip extensions) (transport.Icmpv6 header) payload buildable).0 in
    icmpv6_6 ip.source ip.destination header payload fit.0.source_len fit.0.destination_len (omega (arith, most)) fits
