use Rattle.std.proofs.Common.{◌≡◌, ◌++◌, length}
use Rattle.filter_language.specs.Printing.{nots_in}
use Rattle.filter_language.proofs.canonical.nots_in.Given as goal

-- The list so far, with the entries of the steps that are left, is the list of all steps.
abbrev pub invariant-loop-left : goal.invariant-loop-left
invariant-loop-left l = l.nots.items ++ nots_in l.left 0 ≡ nots_in l.fn.steps 0

abbrev pub decreases-loop-left : goal.decreases-loop-left
decreases-loop-left l = length l.left
