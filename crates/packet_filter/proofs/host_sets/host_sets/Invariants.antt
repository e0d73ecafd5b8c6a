use Rattle.std.proofs.Common.{◌≡◌, ℕ, drop, length}
use Rattle.std.specs.List.{All}
use Rattle.packet_filter.specs.HostSets.{HasHostSet}
use Rattle.packet_filter.proofs.host_sets.host_sets.Given as goal

-- The steps have the sets so far.
abbrev pub invariant-loop-rest : goal.invariant-loop-rest
invariant-loop-rest l = ((n : ℕ) × (l.rest ≡ drop n l.steps)) × All (HasHostSet l.steps) l.sets.items

abbrev pub decreases-loop-rest : goal.decreases-loop-rest
decreases-loop-rest l = length l.rest
