use Rattle.std.proofs.Common.{◌≡◌, ℕ, drop, length}
use Rattle.packet_filter.proofs.host_sets.later_sets.Given as goal

-- Sets at the start are passed over.
abbrev pub invariant-loop-later : goal.invariant-loop-later
invariant-loop-later l = (n : ℕ) × (l.later ≡ drop n l.fn.sets)

abbrev pub decreases-loop-later : goal.decreases-loop-later
decreases-loop-later l = length l.later
