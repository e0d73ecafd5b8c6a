use Rattle.std.proofs.Common.{◌≡◌, ◌∙◌, ℕ, ◌+◌, ◌*◌, ap, arith, refl, zero-add}
use Rattle.ep_base.specs.Checksum.{residue, word_sum}
use Rattle.ep_base.proofs.SumLemmas.{sum_with_last, sum_with_piece}
use Rattle.ep_packet.proofs.LittleEndianLemmas.{turned_of_32}
use Rattle.ep_packet.proofs.little_endian_sum.last_word.Goals as goal

pub returns-in-Some-clause-value : goal.returns-in-Some-clause-value
returns-in-Some-clause-value c =
    let piece = c.in-Some.piece.now in
    let bytes = c.args.bytes.now in
    let word = c.from_le_bytes.result in
    let half = c.last_half.result in
    let parts : residue (256 * (word + half)) ≡ residue (256 * word + 256 * half) = ap residue (omega arith) in
    sum_with_last (256 * word) (256 * half) _ _ parts c.last_half.ensures.value
    ∙ sum_with_piece 4 0 (256 * word) (256 * word) piece c.in-Some.after.now bytes refl c.in-Some.ensures.cases
    (ap residue (omega arith))
    (λ long. ap (λ (n : ℕ). residue (256 * n)) c.from_le_bytes.ensures ∙ turned_of_32 piece long)
    ∙ ap residue (zero-add (word_sum bytes))
