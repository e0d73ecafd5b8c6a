use Rattle.std.proofs.Common.{◌≡◌, ℕ, drop, length}
use Rattle.std.specs.List.{All}
use Rattle.packet_filter.specs.HostSets.{HasHostSet}
use Rattle.packet_filter.specs.Meaning.{meaning}
use Rattle.packet_filter.specs.Running.{value_after}
use Rattle.packet_filter.specs.Shown.{shown_packet}
use Rattle.filter_language.specs.Trees.{tree_of}
use Rattle.packet_filter.proofs.filter.Filter.matches_subject.Given as goal

-- The steps that are left lead to the meaning of the filter, and the sets are sets of the filter.
abbrev pub invariant-loop-steps : goal.invariant-loop-steps
invariant-loop-steps l =
    (value_after l.steps 0 l.holds (shown_packet l.subject) ≡ meaning (tree_of l.fn.self) (shown_packet l.subject))
    × ((n : ℕ) × (l.steps ≡ drop n l.fn.self))
    × All (HasHostSet l.fn.self) l.sets

abbrev pub decreases-loop-steps : goal.decreases-loop-steps
decreases-loop-steps l = length l.steps
