use Rattle.std.proofs.Common.{◌≡◌, ◌≤◌, ◌+◌, ◌*◌, ◌++◌, ℕ, List, Option, length}
use Rattle.filter_language.specs.Printing.{canonical}
use Rattle.filter_language.specs.Trees.{Expr, steps_of_text}
use Rattle.filter_language.proofs.CanonicalLemmas.{IsForm}
use Rattle.filter_language.proofs.canonical.+canonical.Given as goal

abbrev pub decreases-append_canonical : goal.decreases-append_canonical
decreases-append_canonical l = 2 * length l.steps.now

abbrev pub decreases-append_right_operand : goal.decreases-append_right_operand
decreases-append_right_operand l = 2 * length l.steps.now + 1

-- The text so far, with the text of the steps that are left, is the canonical form.
abbrev pub invariant-append_canonical-loop-left : goal.invariant-append_canonical-loop-left
invariant-append_canonical-loop-left l =
    (length l.left ≤ length l.fn.steps)
    × ((tree : Option Expr) → l.fn.steps ≡ steps_of_text tree
    → (text : List ℕ) × IsForm l.left 0 text × (l.output.items ++ text ≡ l.fn.output.items ++ canonical tree))

abbrev pub decreases-append_canonical-loop-left : goal.decreases-append_canonical-loop-left
decreases-append_canonical-loop-left l = length l.left
