use Rattle.std.proofs.Common.{◌≡◌, ◌++◌, length}
use Rattle.filter_language.specs.Printing.{nots_in, starts_text}
use Rattle.filter_language.proofs.canonical.append_starts.Given as goal

-- The parentheses so far, and the parentheses that are left, are all.
abbrev pub invariant-loop-is_not : goal.invariant-loop-is_not
invariant-loop-is_not l =
    l.output.items ++ starts_text l.nots.items ≡ l.fn.output.items ++ starts_text (nots_in l.fn.steps 0)

abbrev pub decreases-loop-is_not : goal.decreases-loop-is_not
decreases-loop-is_not l = length l.nots.items
