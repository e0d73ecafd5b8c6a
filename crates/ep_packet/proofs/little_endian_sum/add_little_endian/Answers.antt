use Rattle.std.proofs.Common.{◌≡◌, ◌∙◌, ℕ, ◌+◌, ◌*◌, ap, arith, refl}
use Rattle.ep_base.specs.Checksum.{residue}
use Rattle.ep_base.proofs.SumLemmas.{sum_with_last, sum_with_piece, turned_of_64}
use Rattle.ep_packet.proofs.little_endian_sum.add_little_endian.Goals as goal

pub loop-piece-preserved : goal.loop-piece-preserved
loop-piece-preserved c =
    let piece = c.in-Some.piece.now in
    let cut = c.in-Some.ensures.cases in
    let sum = c.loop-piece.sum in
    let word = c.from_le_bytes.result in
    let added : residue (256 * (sum + word)) ≡ residue (256 * sum + 256 * word) = ap residue (omega arith) in
    record {
      fits = omega (arith, cut.2);
      same =
          sum_with_piece 8 (256 * sum) (256 * word) _ piece _ c.loop-piece.rest.now refl cut added
          (λ long. ap (λ (n : ℕ). residue (256 * n)) c.from_le_bytes.ensures ∙ turned_of_64 piece long)
          ∙ c.loop-piece.invariant.same;
    }

pub returns-clause-value : goal.returns-clause-value
returns-clause-value c =
    let sum = c.loop-piece.sum in
    let word = c.last_word.result in
    let added : residue (256 * (sum + word)) ≡ residue (256 * sum + 256 * word) = ap residue (omega arith) in
    sum_with_last (256 * sum) (256 * word) _ _ added c.last_word.ensures.value ∙ c.loop-piece.invariant.same
