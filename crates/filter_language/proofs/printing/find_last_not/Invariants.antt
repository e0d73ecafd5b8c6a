use Rattle.std.proofs.Common.{◌≡◌, ◌≤◌, ◌<◌, length, None}
use Rattle.std.specs.Option.{IfSome}
use Rattle.filter_language.proofs.PrintingLemmas.{last_after}
use Rattle.filter_language.proofs.printing.find_last_not.Given as goal

-- The steps that are left have the last `not`, or it was found before them.
abbrev pub invariant-loop-left : goal.invariant-loop-left
invariant-loop-left l =
    (last_after l.left 0 l.last ≡ last_after l.fn.steps 0 None) × (length l.left ≤ length l.fn.steps)
    × IfSome l.last (λ len. (0 < len) × (len ≤ length l.fn.steps))

abbrev pub decreases-loop-left : goal.decreases-loop-left
decreases-loop-left l = length l.left
