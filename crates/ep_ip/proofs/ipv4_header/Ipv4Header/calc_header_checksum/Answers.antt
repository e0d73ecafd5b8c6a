use Rattle.std.proofs.Common.{◌≡◌, ◌-◌, ◌%◌, ℕ, length, sym, ap, ap₂, ◌∙◌, arith}
use Rattle.ep_base.specs.Checksum.{ones_add, ones_sum}
use Rattle.ep_base.proofs.SumLemmas.{ones_sum-append, ones_add-none}
use Rattle.ep_ip.proofs.ipv4_header.Ipv4Header.calc_header_checksum.Goals as goal

pub returns : goal.returns
returns c =
    let fixed = c.fixed_bytes.result in
    let even : length fixed % 2 ≡ 0 = omega (arith, c.fixed_bytes.ensures.len) in
    let first = c.add_slice.ensures ∙ ap (λ (n : ℕ). ones_add n (ones_sum fixed)) c.new.ensures ∙ ones_add-none fixed in
    let both = c.add_slice-2.ensures ∙ ap₂ ones_add first (ap ones_sum c.as_slice.ensures.value) in
    let complete = sym (ones_sum-append fixed c.args.self.now.options even) ∙ ap ones_sum c.fixed_bytes.ensures.bytes in
    c.ones_complement.ensures ∙ ap (λ (n : ℕ). 65535 - n) (both ∙ complete)
