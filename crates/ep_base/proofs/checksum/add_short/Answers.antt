use Rattle.std.proofs.Common.{◌∙◌, ap, arith, refl}
use Rattle.ep_base.specs.Checksum.{residue}
use Rattle.ep_base.proofs.SumLemmas.{sum_with_piece, words_of_64}
use Rattle.ep_base.proofs.checksum.add_short.Goals as goal

pub loop-piece-preserved : goal.loop-piece-preserved
loop-piece-preserved c =
    let piece = c.in-Some.piece.now in
    let cut = c.in-Some.ensures.cases in
    record {
      fits = omega (arith, cut.2);
      same =
          sum_with_piece 8 c.loop-piece.sum c.from_be_bytes.result _ piece _ c.loop-piece.rest.now refl cut refl
          (λ long. ap residue c.from_be_bytes.ensures ∙ words_of_64 piece long)
          ∙ c.loop-piece.invariant.same;
    }
