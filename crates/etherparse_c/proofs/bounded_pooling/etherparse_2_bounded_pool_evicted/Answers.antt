use Rattle.std.proofs.Common.{refl, subst}
use Rattle.std.specs.Prelude.{slice_get}
use Rattle.etherparse.specs.BoundedPools.{evicted_in}
use Rattle.etherparse_c.specs.declared.bounded_state.BoundedState.{BoundedState}
use Rattle.etherparse_c.specs.BoundedPoolAnswers.{IsEvictedStored}
use Rattle.etherparse_c.proofs.BoundedAnswerLemmas.{reads_bounded}
use Rattle.etherparse_c.proofs.bounded_pooling.etherparse_2_bounded_pool_evicted.Goals as goal

pub returns : goal.returns
returns c =
    reads_bounded c.take_state-state.result.value c.take_state-state.ensures c.pointer_to-pool.ensures
    (record {
      same = refl;
      stored = subst
          (λ (state : BoundedState). IsEvictedStored (slice_get (evicted_in state.pool) c.args.index)
          c.args.evicted.now c.store_evicted-status.new.evicted c.store_evicted-status.result)
          c.deref.ensures c.store_evicted-status.ensures;
    })
