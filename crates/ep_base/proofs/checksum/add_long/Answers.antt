use Rattle.std.proofs.lemmas.Grind.{common_steps}
use Rattle.std.proofs.Common.{◌∙◌, ◌*◌, ◌/◌, arith, refl}
use Rattle.ep_base.proofs.SumLemmas.{sum_with_piece}
use Rattle.ep_base.proofs.checksum.add_long.Goals as goal

pub loop-rest-preserved : goal.loop-rest-preserved
loop-rest-preserved c =
    let cut = c.split_at.ensures in
    let n = c.min.result / 8 * 8 in
    record {
      fits = omega (arith, cut.back_len, c.loop-rest.invariant.fits);
      same =
          sum_with_piece n c.loop-rest.sum c.block_sum.result _ c.split_at.result.0.now _ c.loop-rest.rest.now
          (omega arith) (cut.front, cut.back, cut.back_len) refl (λ long. c.block_sum.ensures)
          ∙ c.loop-rest.invariant.same;
    }

pub block_sum-requires-clause-short : goal.block_sum-requires-clause-short
block_sum-requires-clause-short c = grind (arith, common_steps)
