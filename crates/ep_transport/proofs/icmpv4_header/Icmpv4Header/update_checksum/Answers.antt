use Rattle.std.proofs.Common.{◌≡◌, ◌-◌, ◌%◌, ℕ, length, ap, ◌∙◌, sym}
use Rattle.ep_base.specs.Checksum.{ones_sum, ones_add}
use Rattle.ep_base.proofs.SumLemmas.{ones_add-none, sum_more}
use Rattle.ep_transport.specs.Icmpv4.{icmpv4_bytes, icmpv4_kind}
use Rattle.ep_transport.proofs.Icmpv4Lemmas.{len_even}
use Rattle.ep_transport.proofs.icmpv4_header.Icmpv4Header.update_checksum.Goals as goal

pub returns : goal.returns
returns c =
    let header = c.args.self.now in
    let prefix = icmpv4_bytes (record header { checksum = 0 }) in
    let payload = c.args.payload.now in
    let written = c.as_slice.result.now in
    let same : written ≡ prefix = c.as_slice.ensures.value ∙ c.to_bytes-bytes.ensures.bytes in
    let even : length prefix % 2 ≡ 0 =
    ap (λ (n : ℕ). n % 2) (sym (ap length c.to_bytes-bytes.ensures.bytes) ∙ c.to_bytes-bytes.ensures.len)
    ∙ len_even (icmpv4_kind header.icmp_type) in
    let first =
    c.add_slice.ensures ∙ ap (λ (n : ℕ). ones_add n (ones_sum written)) c.new.ensures ∙ ones_add-none written
    ∙ ap ones_sum same in
    let second = sum_more prefix payload _ _ first even c.add_slice-2.ensures in
    let sum = c.ones_complement-self.ensures ∙ ap (λ (n : ℕ). 65535 - n) second in
    λ i. record { icmp_type = header.icmp_type; checksum = sum i }
