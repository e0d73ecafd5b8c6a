use Rattle.std.proofs.Common.{refl}
use Rattle.std.proofs.lemmas.Result.{on_ok_weaker}
use Rattle.packet_dump.proofs.pool_lines.push_answer.Goals as goal

pub returns-in-Ok-Some-clause-text : goal.returns-in-Ok-Some-clause-text
returns-in-Ok-Some-clause-text c =
    let found = rw c.in-Ok-Some.is at c.in-Ok-Some.field-0-is in
    rw (c.in-Ok-Some.is, found) (on_ok_weaker c.push_payload.result
    (λ pushed. (_, (pushed.0, pushed.1, refl), pushed.2)) c.push_payload.ensures)

pub returns-in-Err-clause-text : goal.returns-in-Err-clause-text
returns-in-Err-clause-text c =
    rw c.in-Err.is (on_ok_weaker c.push_pool_error.result (λ pushed. (_, refl, pushed)) c.push_pool_error.ensures.text)
