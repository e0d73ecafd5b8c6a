-- Verdicts about checksums.
use Rattle.std.proofs.Common.{◌≡◌, ℕ, zero, suc, ◌+◌, ◌-◌, ◌==◌, ◌||◌, ◌≤◌, nat_lt, if◌then◌else◌, Bool, false}
use Rattle.std.proofs.Common.{List, [], ◌∷◌, ◌++◌, drop, take, length, slice_index, Option, Some, refl, sym, ap, ◌∙◌, arith}
use Rattle.std.proofs.Math.Seq.{take-append_seam}
use Rattle.std.proofs.lemmas.Grind.{common_steps}
use Rattle.ep_base.specs.Checksum.{ones_sum}
use Rattle.ep_base.specs.IpPayload.{IpPayload}
use Rattle.ep_ext.specs.ExtensionParts.{ExtensionPart}
use Rattle.ep_ext.specs.ShownChains.{shown_parts, shown_parts_in}
use Rattle.ep_ip.specs.declared.ipv4_header.Ipv4Header.{Ipv4Header}
use Rattle.ep_ip.specs.declared.ipv4_header_slice.Ipv4HeaderSlice.{Ipv4HeaderSlice}
use Rattle.ep_ip.specs.Ipv4.{ipv4_header_len}
use Rattle.ep_ip.specs.Ipv4Slices.{ipv4_header_slice_bytes, ipv4_header_slice_header}
use Rattle.ep_transport.specs.declared.transport_header.TransportHeader.{TransportHeader}
use Rattle.ep_packet.specs.Layers.{ipv4}
use Rattle.ep_packet.specs.Verdicts.{has_routing, has_source_route, has_source_route_after, is_source_route, sum_verdict}
use Rattle.ep_packet.specs.Verdicts.{transport_verdict}
use Rattle.ep_packet.specs.declared.checksum_verdict.ChecksumVerdicts.{ChecksumVerdicts}
use Rattle.ep_packet.specs.declared.checksum_verdict.ChecksumVerdict.{ChecksumVerdict}
use Rattle.ep_packet.specs.declared.checksum_verdict.ChecksumVerdict.TheVariants.{Valid, Invalid, Unknown}

-- The verdict about a message whose length fits the pseudo header is that about its sum.
pub verdict_by_sum : (most len sum : ℕ) (bytes : List ℕ) (verdict : ChecksumVerdict) → len ≤ most
    → sum ≡ ones_sum bytes → verdict ≡ (if sum == 65535 then Valid else Invalid)
    → verdict ≡ (if nat_lt most len then Unknown else sum_verdict bytes)
verdict_by_sum most len sum bytes verdict fits is_sum is =
    let within : nat_lt most len ≡ false = grind (arith, common_steps) in
    is ∙ ap (λ (n : ℕ). if n == 65535 then Valid else Invalid) is_sum
    ∙ sym (ap (λ (long : Bool). if long then Unknown else sum_verdict bytes) within)

-- The bytes of an IPv4 header are the first of its packet, up to the length of the header.
pub header_len_is : (header : Ipv4HeaderSlice)
    → length (ipv4_header_slice_bytes header) ≡ ipv4_header_len (ipv4_header_slice_header header)
header_len_is header =
    let words = header.bytes.words in
    let complete = header.bytes.whole in
    grind (arith, common_steps)

header_bytes_are : (slice : Ipv4HeaderSlice) (header : Ipv4Header) (content all : List ℕ)
    → ipv4_header_slice_header slice ≡ header → ipv4_header_slice_bytes slice ++ content ≡ all
    → ipv4_header_slice_bytes slice ≡ take (ipv4_header_len header) all
header_bytes_are slice header content all headers parts =
    let own = ipv4_header_slice_bytes slice in
    sym (take-append_seam own content)
    ∙ ap (λ (n : ℕ). take n (own ++ content)) (header_len_is slice ∙ ap ipv4_header_len headers)
    ∙ ap (take (ipv4_header_len header)) parts

-- The verdicts about an IPv4 packet with this header are those about its bytes and an equal payload.
pub ipv4_verdicts : (shown : ChecksumVerdicts) (slice : Ipv4HeaderSlice) (header : Ipv4Header) (content all : List ℕ)
    (extensions : List ExtensionPart) (payload same : IpPayload) (incomplete : Bool)
    (message : Option (TransportHeader × List ℕ))
    → shown.ipv4_header ≡ Some (sum_verdict (ipv4_header_slice_bytes slice))
    → shown.transport ≡ transport_verdict
    (Some (ipv4 (ipv4_header_slice_header slice) extensions payload)) incomplete message
    → ipv4_header_slice_bytes slice ++ content ≡ all → ipv4_header_slice_header slice ≡ header → payload ≡ same
    → shown ≡ record {
      ipv4_header = Some (sum_verdict (take (ipv4_header_len header) all));
      transport = transport_verdict (Some (ipv4 header extensions same)) incomplete message;
    }
ipv4_verdicts shown slice header content all extensions payload same incomplete message is_header is_transport parts
    headers payloads =
    let of_header = is_header
    ∙ ap (λ b. Some (sum_verdict b)) (header_bytes_are slice header content all headers parts) in
    let of_transport = is_transport
    ∙ ap (λ (h : Ipv4Header). transport_verdict (Some (ipv4 h extensions payload)) incomplete message) headers
    ∙ ap (λ (p : IpPayload). transport_verdict (Some (ipv4 header extensions p)) incomplete message) payloads in
    λ i. record { ipv4_header = of_header i; transport = of_transport i }

-- ---- source routes

-- The options after skipped bytes have a source route if and only if the list without these bytes does.
skipped_source_route : (n : ℕ) (options : List ℕ) → has_source_route_after n options ≡ has_source_route (drop n options)
skipped_source_route zero options = refl
skipped_source_route (suc n) [] = refl
skipped_source_route (suc n) (kind ∷ rest) = skipped_source_route n rest

-- After an option of one byte, the remaining options have a source route if and only if all have one.
pub after_single : (options : List ℕ) → 2 ≤ length options → slice_index options 0 ≡ 1
    → has_source_route (drop 1 options) ≡ has_source_route options
after_single [] long is = absurd (omega arith)
after_single (kind ∷ []) long is = absurd (omega arith)
after_single (kind ∷ len ∷ rest) long is = ap (λ (k : ℕ). has_source_route (k ∷ len ∷ rest)) (sym is)

-- After an option that is no source route, the remaining options have one if and only if all have one.
pub after_option : (options : List ℕ) (n : ℕ) → 2 ≤ length options → n ≡ slice_index options 1
    → (slice_index options 0 == 0) ≡ false → (slice_index options 0 == 1) ≡ false → 2 ≤ n → n ≤ length options
    → is_source_route (slice_index options 0) ≡ false
    → has_source_route (drop n options) ≡ has_source_route options
after_option [] n some is not_end not_single long fits none = absurd (omega arith)
after_option (kind ∷ []) n some is not_end not_single long fits none = absurd (omega arith)
after_option (kind ∷ len ∷ rest) n some is not_end not_single long fits none =
    let complete : (nat_lt len 2 || nat_lt (2 + length rest) len) ≡ false = grind (arith, common_steps) in
    let all : has_source_route (kind ∷ len ∷ rest) ≡ has_source_route_after (len - 1) (len ∷ rest) =
    rw (not_end, not_single, complete, none) refl in
    let next : n ≡ suc (len - 1) = omega arith in
    ap (λ (k : ℕ). has_source_route (drop k (kind ∷ len ∷ rest))) next
    ∙ sym (all ∙ skipped_source_route (len - 1) (len ∷ rest))

-- ---- routing headers

-- No routing header is among no bytes.
pub no_routing : (number : ℕ) (bytes : List ℕ) → length bytes ≡ 0 → false ≡ has_routing (shown_parts number bytes)
unfolding shown_parts shown_parts_in
no_routing number [] empty = refl
no_routing number (byte ∷ bytes) empty = absurd (omega arith)
