use Rattle.std.proofs.Common.{◌≡◌, ◌++◌, length}
use Rattle.filter_language.specs.Printing.{openings}
use Rattle.filter_language.specs.Trees.{Expr, steps_of}
use Rattle.filter_language.proofs.printing.append_openings.Given as goal

-- The steps that are left are those of an operand, whose openings are still to be appended.
abbrev pub invariant-loop-len : goal.invariant-loop-len
invariant-loop-len l =
    (e : Expr) → l.fn.steps ≡ steps_of e
    → (operand : Expr) × (l.inner ≡ steps_of operand)
    × (l.output.items ++ openings operand ≡ l.fn.output.items ++ openings e)

abbrev pub decreases-loop-len : goal.decreases-loop-len
decreases-loop-len l = length l.inner
