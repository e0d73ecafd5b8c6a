use Rattle.std.proofs.Common.{vec_capacity}
use Rattle.ep_defrag.specs.Pools.{answer_is_allocation_failure}
use Rattle.ep_defrag.proofs.FrameLemmas.{IsCalled, pool_says}
use Rattle.ep_defrag.proofs.LoopLemmas.{Answered}
use Rattle.ep_defrag.proofs.pool_run.run_calls_with_limit.Given as goal

abbrev pub invariant-loop-call : goal.invariant-loop-call
invariant-loop-call g l =
    Answered g.F.Fn l.keep g.CustomChannelId.PartialEq.eq l.fn.max IsCalled pool_says answer_is_allocation_failure
    l.fn.calls.items l.yielded l.call-iterator.rest.items l.answers.items (vec_capacity l.answers) l.pool
