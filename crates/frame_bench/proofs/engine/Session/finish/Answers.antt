use Rattle.std.proofs.Common.{◌<◌, ℕ, List, length, subst, arith}
use Rattle.std.proofs.lemmas.Grind.{common_steps}
use Rattle.frame_bench.specs.Answers.{IsAnswer}
use Rattle.frame_bench.proofs.StreamLemmas.{AnswersAfter-line}
use Rattle.frame_bench.proofs.engine.Session.finish.Goals as goal

pub returns-in_ok-push_line : goal.returns-in_ok-push_line
returns-in_ok-push_line c =
    let line = c.args.self.now.line.items in
    let some : 0 < length line = grind (arith, common_steps) in
    λ before kept.
    let answer = c.in_ok-push_line.ensures.answer before kept in
    let is = subst (λ (t : List ℕ). IsAnswer before t answer.0) c.as_slice.ensures.value answer.1 in
    rw (answer.2, c.clear.ensures.items) (AnswersAfter-line before line answer.0 some c.requires is)
