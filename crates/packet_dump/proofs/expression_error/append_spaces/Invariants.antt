use Rattle.std.proofs.Common.{◌≡◌, ◌++◌, length}
use Rattle.packet_dump.specs.ErrorTexts.{spaces}
use Rattle.packet_dump.proofs.expression_error.append_spaces.Given as goal

-- The spaces so far, with the spaces of the remaining bytes, are all that is appended.
abbrev pub invariant-loop-left : goal.invariant-loop-left
invariant-loop-left l =
    l.output.items ++ spaces l.left ≡ l.initial.output.items ++ spaces l.bytes

abbrev pub decreases-loop-left : goal.decreases-loop-left
decreases-loop-left l = length l.left
