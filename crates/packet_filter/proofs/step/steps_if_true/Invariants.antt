use Rattle.std.proofs.Common.{◌≡◌, ℕ, true, drop, length}
use Rattle.packet_filter.specs.Packets.{Packet}
use Rattle.packet_filter.specs.Running.{value_after}
use Rattle.packet_filter.proofs.step.steps_if_true.Given as goal

-- The later steps lead to the value of all of them.
abbrev pub invariant-loop-later : goal.invariant-loop-later
invariant-loop-later l =
    ((n : ℕ) × (l.later ≡ drop n l.fn.steps))
    × ((packet : Packet) → value_after l.later 0 true packet ≡ value_after (drop l.fn.len l.fn.steps) 0 true packet)

abbrev pub decreases-loop-later : goal.decreases-loop-later
decreases-loop-later l = length l.later
