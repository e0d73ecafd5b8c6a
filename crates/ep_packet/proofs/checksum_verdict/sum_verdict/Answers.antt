use Rattle.std.proofs.Common.{◌==◌, if◌then◌else◌, ℕ, ap, ◌∙◌}
use Rattle.ep_base.specs.Checksum.{ones_add, ones_sum, word_sum}
use Rattle.ep_base.proofs.SumLemmas.{ones_add-none}
use Rattle.ep_packet.specs.declared.checksum_verdict.ChecksumVerdict.TheVariants.{Valid, Invalid}
use Rattle.ep_packet.proofs.LittleEndianLemmas.{first_words}
use Rattle.ep_packet.proofs.checksum_verdict.sum_verdict.Goals as goal

pub returns-then-bytes-ge-LONG : goal.returns-then-bytes-ge-LONG
returns-then-bytes-ge-LONG c =
    let bytes = c.args.bytes.now in
    c.verdict_of_sum.ensures
    ∙ ap (λ (n : ℕ). if n == 65535 then Valid else Invalid)
    (c.add_slice.ensures ∙ ap (λ (n : ℕ). ones_add n (ones_sum bytes)) c.new.ensures ∙ ones_add-none bytes)

pub returns : goal.returns
unfolding ones_sum
returns c =
    c.verdict_of_words.ensures
    ∙ ap (λ (n : ℕ). if n == 65535 then Valid else Invalid)
    (first_words c.add_little_endian.result (word_sum c.args.bytes.now) c.add_little_endian.ensures.value)
