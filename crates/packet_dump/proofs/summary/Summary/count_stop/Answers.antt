use Rattle.std.proofs.lemmas.Result.{on_ok_weaker}
use Rattle.packet_dump.specs.Summaries.{plain_of}
use Rattle.packet_dump.proofs.summary.Summary.count_stop.Goals as goal

pub returns-in-Some : goal.returns-in-Some
returns-in-Some c =
    let caused = plain_of c.count_cause.new.self in
    on_ok_weaker c.count.result
    (λ stopped. rw (c.in-Some.is, ← c.count_cause.ensures) (λ i. record caused { stopped = stopped i }))
    c.count.ensures
