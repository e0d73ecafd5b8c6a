use Rattle.std.proofs.Common.{◌≡◌, ◌+◌, ◌-◌, ◌%◌, ◌++◌, ℕ, length, ap, ◌∙◌, sym, append_assoc, arith}
use Rattle.std.proofs.lemmas.List.{length-append}
use Rattle.std.proofs.lemmas.Grind.{common_steps}
use Rattle.ep_base.specs.Checksum.{ones_sum}
use Rattle.ep_base.specs.IpNumbers.{icmpv6_number}
use Rattle.ep_transport.specs.Icmpv6.{icmpv6_bytes}
use Rattle.ep_transport.specs.PseudoHeaders.{pseudo_header_ipv6}
use Rattle.ep_base.proofs.SumLemmas.{sum_more}
use Rattle.ep_transport.proofs.SumLemmas.{sum_piece}
use Rattle.ep_transport.proofs.icmpv6_header.Icmpv6Header.update_checksum.Goals as goal

pub returns : goal.returns
returns c =
    let header = c.args.self.now in
    let payload = c.args.payload.now in
    let prefix = pseudo_header_ipv6 c.args.source c.args.destination icmpv6_number (8 + length payload) in
    let bytes = icmpv6_bytes (record header { checksum = 0 }) in
    let first =
    sum_piece prefix bytes _ _ _ c.sum_ipv6.ensures.sum c.sum_ipv6.ensures.even c.to_bytes.ensures c.add_slice.ensures in
    let len : length bytes ≡ 8 = sym (ap length c.to_bytes.ensures) ∙ omega (arith, c.to_bytes.type_inv) in
    let even : length (prefix ++ bytes) % 2 ≡ 0 =
    omega (arith, c.sum_ipv6.ensures.even, len, length-append prefix bytes) in
    let second = sum_more (prefix ++ bytes) payload _ _ first even c.add_slice-2.ensures in
    let sum =
    c.ones_complement-self.ensures
    ∙ ap (λ (n : ℕ). 65535 - n) (second ∙ ap ones_sum (append_assoc prefix bytes payload)) in
    (grind (arith, common_steps), λ i. record { icmp_type = header.icmp_type; checksum = sum i })

pub returns-in_err-check_len : goal.returns-in_err-check_len
returns-in_err-check_len c = grind (arith, common_steps)
