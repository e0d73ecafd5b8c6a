use Rattle.std.proofs.Common.{◌≡◌, ◌∷◌, ◌++◌, [], ℕ, List, ◌∙◌, subst, arith}
use Rattle.std.proofs.lemmas.Grind.{common_steps}
use Rattle.frame_bench.specs.Answers.{IsAnswer}
use Rattle.frame_bench.specs.LineCalls.{HoldsLines}
use Rattle.frame_bench.proofs.engine.Session.end_line.Goals as goal

pub returns-then-is_empty-clause-answer : goal.returns-then-is_empty-clause-answer
returns-then-is_empty-clause-answer c =
    let none : c.args.self.now.line.items ≡ [] = grind (arith, common_steps) in
    rw none c.in_ok-push_line.ensures.answer

pub returns-then-is_empty-clause-holds : goal.returns-then-is_empty-clause-holds
returns-then-is_empty-clause-holds c =
    let none : c.args.self.now.line.items ≡ [] = grind (arith, common_steps) in
    rw none c.in_ok-push_line.ensures.holds

pub returns-clause-answer : goal.returns-clause-answer
returns-clause-answer c =
    let line = c.as_slice.ensures.value ∙ c.in_ok-extend_from_slice.ensures.items in
    λ before kept.
    let answer = c.in_ok-push_line-2.ensures.answer before kept in
    (answer.0, subst (λ (t : List ℕ). IsAnswer before t answer.0) line answer.1, answer.2)

pub returns-clause-holds : goal.returns-clause-holds
returns-clause-holds c =
    let line = c.as_slice.ensures.value ∙ c.in_ok-extend_from_slice.ensures.items in
    λ before kept.
    subst (λ (t : List ℕ). HoldsLines (before ++ t ∷ []) c.push_line-2.new.pool) line
    (c.in_ok-push_line-2.ensures.holds before kept)
