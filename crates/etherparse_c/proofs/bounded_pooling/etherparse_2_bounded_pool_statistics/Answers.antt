use Rattle.std.proofs.Common.{ap, refl, subst, ◌∙◌}
use Rattle.etherparse.specs.BoundedCounts.{AddUp}
use Rattle.etherparse.specs.BoundedPools.{open_in, statistics_in}
use Rattle.etherparse_c.specs.declared.bounded_state.BoundedState.{BoundedState}
use Rattle.etherparse_c.specs.BoundedPoolAnswers.{statistics_part}
use Rattle.etherparse_c.proofs.BoundedAnswerLemmas.{reads_bounded}
use Rattle.etherparse_c.proofs.bounded_pooling.etherparse_2_bounded_pool_statistics.Goals as goal

pub returns : goal.returns
returns c =
    let counters = λ (state : BoundedState). statistics_in state.pool in
    let shown = c.statistics_of.ensures in
    let sums =
    subst (λ (state : BoundedState). AddUp (counters state) (open_in state.pool)) c.deref.ensures shown.sums in
    reads_bounded c.take_state-state.result.value c.take_state-state.ensures c.pointer_to-pool.ensures
    (record {
      same = refl;
      returned = shown.returned ∙ ap (λ (state : BoundedState). statistics_part (counters state)) c.deref.ensures;
      sums = sums;
    })
