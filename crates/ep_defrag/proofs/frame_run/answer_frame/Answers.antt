use Rattle.std.proofs.lemmas.Result.{err_from_is_err_and}
use Rattle.ep_defrag.specs.Pools.{plain_call}
use Rattle.ep_defrag.proofs.frame_run.answer_frame.Goals as goal

pub returns-in_err-answer_next-in-Ok-clause-memory : goal.returns-in_err-answer_next-in-Ok-clause-memory
returns-in_err-answer_next-in-Ok-clause-memory g c =
    rw (err_from_is_err_and c.from_residual.result c.from_residual.ensures.1).1
    (λ table holds.
    (plain_call c.in-Ok.call, c.in-Ok.ensures.is, c.in_err-answer_next-in-Ok.ensures.memory table holds))

pub returns-in_ok-answer_next-in-Ok-clause-holds : goal.returns-in_ok-answer_next-in-Ok-clause-holds
returns-in_ok-answer_next-in-Ok-clause-holds g c = λ read reads decide decided table holds.
    rw (c.in-Ok.ensures.only read reads) (c.in_ok-answer_next-in-Ok.ensures.holds decide decided table holds)
