use Rattle.std.proofs.Common.{ap, refl, subst, ◌∙◌}
use Rattle.etherparse.specs.BoundedPools.{IsBounded}
use Rattle.etherparse_c.specs.declared.bounded_state.BoundedState.{BoundedState}
use Rattle.etherparse_c.specs.BoundedPoolAnswers.{open_streams}
use Rattle.etherparse_c.proofs.BoundedAnswerLemmas.{reads_bounded}
use Rattle.etherparse_c.proofs.bounded_pooling.etherparse_2_bounded_pool_streams.Goals as goal

pub returns : goal.returns
returns c =
    let bounded =
    subst (λ (state : BoundedState). IsBounded state.pool) c.deref.ensures c.stream_count-count.ensures.bounded in
    reads_bounded c.take_state-state.result.value c.take_state-state.ensures c.pointer_to-pool.ensures
    (record { same = refl; returned = c.stream_count-count.ensures.count ∙ ap open_streams c.deref.ensures }, bounded)
