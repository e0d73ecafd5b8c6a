use Rattle.std.proofs.Common.{ap, refl, subst, ◌∙◌}
use Rattle.etherparse.specs.BoundedPools.{IsBounded}
use Rattle.etherparse_c.specs.declared.bounded_state.BoundedState.{BoundedState}
use Rattle.etherparse_c.specs.BoundedPoolAnswers.{bounded_bytes}
use Rattle.etherparse_c.proofs.BoundedAnswerLemmas.{reads_bounded}
use Rattle.etherparse_c.proofs.bounded_pooling.etherparse_2_bounded_pool_held_bytes.Goals as goal

pub returns : goal.returns
returns c =
    let bounded =
    subst (λ (state : BoundedState). IsBounded state.pool) c.deref.ensures c.held_bytes-count.ensures.bounded in
    reads_bounded c.take_state-state.result.value c.take_state-state.ensures c.pointer_to-pool.ensures
    (record { same = refl; returned = c.held_bytes-count.ensures.room ∙ ap bounded_bytes c.deref.ensures }, bounded)
