use Rattle.std.proofs.Common.{ap, refl, ◌∙◌}
use Rattle.etherparse.specs.BoundedPools.{limits_in}
use Rattle.etherparse_c.specs.declared.bounded_state.BoundedState.{BoundedState}
use Rattle.etherparse_c.specs.BoundedPoolAnswers.{limits_part}
use Rattle.etherparse_c.proofs.BoundedAnswerLemmas.{reads_bounded}
use Rattle.etherparse_c.proofs.bounded_pooling.etherparse_2_bounded_pool_limits.Goals as goal

pub returns : goal.returns
returns c =
    let shown = c.limits_in.ensures in
    reads_bounded c.take_state-state.result.value c.take_state-state.ensures c.pointer_to-pool.ensures
    (record {
      same = refl;
      returned = shown ∙ ap (λ (state : BoundedState). limits_part (limits_in state.pool)) c.deref.ensures;
    })
