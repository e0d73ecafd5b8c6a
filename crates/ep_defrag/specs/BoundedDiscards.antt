-- When a bounded pool answers `Discarded` to a fragment. `C` is the type of channels.
use Rattle.std.specs.Prelude.{◌≡◌, ℕ, ◌⊎◌, IsTrue, Option, Some, None, List}
use Rattle.ep_defrag.specs.declared.ip_defrag_error.IpDefragError.TheVariants.{ConflictingEnd}
use Rattle.ep_defrag.specs.declared.bounded_limits.DefragLimits.{DefragLimits}
use Rattle.ep_defrag.specs.declared.bounded_limits.OverlapPolicy.TheVariants.{Discard}
use Rattle.ep_defrag.specs.IpFragments.{IpFragment}
use Rattle.ep_defrag.specs.FragmentRefusals.{RefusesWithin, FitsWithin}
use Rattle.ep_defrag.specs.BoundedOverlaps.{contradicts}
use Rattle.ep_defrag.specs.BoundedSteps.{Row}

-- Holds if a fragment conflicts with accepted fragments of its stream: the refusal table rejects its end, within the
-- limit; or it fits, overlaps them, and does not only repeat their bytes (RFC 8200, 4.5 and RFC 5722, 4).
pub data IsInConflict (limit : ℕ) (accepted : List IpFragment) (fragment : IpFragment) : Type 0 where
  by_end : (previous_end conflicting_end : ℕ)
      → RefusesWithin limit accepted fragment (ConflictingEnd previous_end conflicting_end)
      → IsInConflict limit accepted fragment
  by_bytes : FitsWithin limit accepted fragment → IsTrue (contradicts accepted fragment)
      → IsInConflict limit accepted fragment

-- Holds if a fragment discards the open stream of its name: the policy is `Discard`, and the fragment conflicts with
-- the accepted fragments of the stream.
pub record DiscardsStream {C : Type 0} (limits : DefragLimits) (row : Row C) (fragment : IpFragment) : Type 0 where
  pub accepted : List IpFragment
  pub state : row.accepted ≡ Some accepted
  pub policy : limits.overlap ≡ Discard
  pub conflict : IsInConflict limits.payload accepted fragment

-- Holds if the table has the name of a fragment, and either the name is already discarded, or the fragment discards its
-- stream. A name that the table does not have is never discarded.
abbrev pub IsDiscarding : {C : Type 0} → DefragLimits → Option (Row C) → IpFragment → Type 0
IsDiscarding {C} limits found fragment =
    (row : Row C) × (found ≡ Some row) × ((row.accepted ≡ None) ⊎ DiscardsStream limits row fragment)
