use Rattle.std.proofs.Common.{ap, refl, ◌∙◌}
use Rattle.etherparse_c.specs.BoundedPoolAnswers.{evicted_count}
use Rattle.etherparse_c.proofs.BoundedAnswerLemmas.{reads_bounded}
use Rattle.etherparse_c.proofs.bounded_pooling.etherparse_2_bounded_pool_evicted_count.Goals as goal

pub returns : goal.returns
returns c = reads_bounded c.take_state-state.result.value c.take_state-state.ensures c.pointer_to-pool.ensures
    (record { same = refl; returned = c.evicted_count-count.ensures ∙ ap evicted_count c.deref.ensures })
