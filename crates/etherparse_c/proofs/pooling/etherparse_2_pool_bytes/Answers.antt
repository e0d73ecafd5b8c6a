use Rattle.std.proofs.Common.{ap, ◌∙◌}
use Rattle.etherparse_c.specs.PoolAnswers.{bytes_in}
use Rattle.etherparse_c.proofs.AnswerLemmas.{returns_number}
use Rattle.etherparse_c.proofs.pooling.etherparse_2_pool_bytes.Goals as goal

pub returns : goal.returns
returns c = returns_number c.take_state-state.result.value c.take_state-state.ensures c.pointer_to-pool.ensures
    (c.held_bytes-count.ensures ∙ ap bytes_in c.deref.ensures)
