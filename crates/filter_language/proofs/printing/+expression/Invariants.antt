use Rattle.std.proofs.Common.{◌≡◌, ◌≤◌, ◌+◌, ◌*◌, ◌++◌, ℕ, List, length}
use Rattle.filter_language.specs.Printing.{expression_text}
use Rattle.filter_language.specs.Trees.{Expr, steps_of}
use Rattle.filter_language.proofs.PrintingLemmas.{IsBody}
use Rattle.filter_language.proofs.printing.+expression.Given as goal

abbrev pub decreases-append_expression : goal.decreases-append_expression
decreases-append_expression l = 2 * length l.steps.now

abbrev pub decreases-append_right : goal.decreases-append_right
decreases-append_right l = 2 * length l.steps.now + 1

-- The text so far, with that of the steps that are left, is the text of the expression.
abbrev pub invariant-append_expression-loop-left : goal.invariant-append_expression-loop-left
invariant-append_expression-loop-left l =
    (length l.left ≤ length l.fn.steps)
    × ((e : Expr) → l.fn.steps ≡ steps_of e
    → (text : List ℕ) × IsBody l.left 0 l.ended text
    × (l.output.items ++ text ≡ l.fn.output.items ++ expression_text e))

abbrev pub decreases-append_expression-loop-left : goal.decreases-append_expression-loop-left
decreases-append_expression-loop-left l = length l.left
