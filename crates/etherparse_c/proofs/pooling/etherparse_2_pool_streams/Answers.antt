use Rattle.std.proofs.Common.{ap, ◌∙◌}
use Rattle.etherparse_c.specs.PoolAnswers.{streams_in}
use Rattle.etherparse_c.proofs.AnswerLemmas.{returns_number}
use Rattle.etherparse_c.proofs.pooling.etherparse_2_pool_streams.Goals as goal

pub returns : goal.returns
returns c = returns_number c.take_state-state.result.value c.take_state-state.ensures c.pointer_to-pool.ensures
    (c.stream_count-count.ensures ∙ ap streams_in c.deref.ensures)
