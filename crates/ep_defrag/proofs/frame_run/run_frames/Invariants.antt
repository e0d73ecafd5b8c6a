use Rattle.std.proofs.Common.{vec_capacity}
use Rattle.ep_defrag.specs.FrameCalls.{IsOnlyRead, read_answer, frame_answer_is_allocation_failure}
use Rattle.ep_defrag.proofs.LoopLemmas.{Answered}
use Rattle.ep_defrag.proofs.frame_run.run_frames.Given as goal

abbrev pub invariant-loop-call : goal.invariant-loop-call
invariant-loop-call g l =
    Answered g.F.Fn l.keep g.CustomChannelId.PartialEq.eq 65535 IsOnlyRead read_answer
    frame_answer_is_allocation_failure
    l.fn.calls.items l.yielded l.call-iterator.rest.items l.answers.items (vec_capacity l.answers) l.pool
