use Rattle.std.proofs.Common.{◌≡◌, length, false}
use Rattle.filter_language.proofs.PrintingLemmas.{ends_after}
use Rattle.filter_language.proofs.printing.ends_with_operator.Given as goal

-- The steps that are left decide as all of them do.
abbrev pub invariant-loop-left : goal.invariant-loop-left
invariant-loop-left l = ends_after l.left 0 l.ended ≡ ends_after l.fn.steps 0 false

abbrev pub decreases-loop-left : goal.decreases-loop-left
decreases-loop-left l = length l.left
