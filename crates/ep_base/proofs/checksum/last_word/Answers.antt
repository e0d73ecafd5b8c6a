use Rattle.std.proofs.Common.{◌≡◌, ◌∙◌, ◌+◌, ◌*◌, ap, arith, refl, sym, zero-add}
use Rattle.ep_base.specs.Checksum.{residue, word_sum}
use Rattle.ep_base.proofs.ResidueLemmas.{residue_last, residue_unique}
use Rattle.ep_base.proofs.SumLemmas.{sum_with_piece, words_of_32}
use Rattle.ep_base.proofs.checksum.last_word.Goals as goal

pub returns-in-Some : goal.returns-in-Some
returns-in-Some c =
    let piece = c.in-Some.piece.now in
    let after = c.in-Some.after.now in
    let word = c.from_be_bytes.result in
    let half = c.last_half.result in
    let lower : residue (word * 4294967296 + half) ≡ residue (word + half) =
    residue_unique _ _ 0 (65537 * word) (omega arith) (λ z. omega arith) (λ z. omega arith) in
    let rest : residue (word + half) ≡ residue (word + word_sum after) =
    sym (residue_last word half) ∙ ap (λ x. residue (word + x)) c.last_half.ensures.value
    ∙ residue_last word (word_sum after) in
    lower ∙ rest
    ∙ sum_with_piece 4 0 word word piece after c.args.bytes.now refl c.in-Some.ensures.cases (ap residue (omega arith))
    (λ long. ap residue c.from_be_bytes.ensures ∙ words_of_32 piece long)
    ∙ ap residue (zero-add (word_sum c.args.bytes.now))
