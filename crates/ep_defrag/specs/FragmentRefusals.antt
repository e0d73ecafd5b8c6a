-- When a fragment is accepted after others, which error rejects it, and when it needs no allocation. No fragment may
-- end above a limit. Definitions with `within` in their name take the limit; the others use 65535, the limit of a
-- buffer.
use Rattle.std.specs.Prelude.{◌≡◌, ℕ, ◌%◌, ◌≤◌, Bool, true, false, not, ◌&&◌, ◌||◌, ◌==◌, nat_lt, Option, Some, None}
use Rattle.std.specs.Prelude.{List, [], ◌∷◌, ◌++◌, length, IsTrue}
use Rattle.ep_base.specs.Tables.{first_row}
use Rattle.ep_defrag.specs.declared.ip_defrag_error.IpDefragError.{IpDefragError}
use Rattle.ep_defrag.specs.declared.ip_defrag_error.IpDefragError.TheVariants.{UnalignedFragmentPayloadLen}
use Rattle.ep_defrag.specs.declared.ip_defrag_error.IpDefragError.TheVariants.{SegmentTooBig, ConflictingEnd}
use Rattle.ep_defrag.specs.declared.ip_defrag_error.IpDefragError.TheVariants.{AllocationFailure}
use Rattle.ep_defrag.specs.Ranges.{touches}
use Rattle.ep_defrag.specs.IpFragments.{IpFragment, is_final, fragment_end, range_of, is_touched, reach_of, end_of}
use Rattle.ep_defrag.specs.IpFragments.{assembled}

-- whether more fragments follow, and the length is not a multiple of 8
abbrev pub is_unaligned : IpFragment → Bool
is_unaligned fragment = fragment.more && not (length fragment.bytes % 8 == 0)

-- whether it ends after the known end, or is final and ends elsewhere
abbrev pub conflicts_with : ℕ → IpFragment → Bool
conflicts_with known_end fragment =
    nat_lt known_end (fragment_end fragment) || (is_final fragment && not (fragment_end fragment == known_end))

-- whether it is final, and ends below the greatest end of a fragment
abbrev pub ends_too_early : ℕ → IpFragment → Bool
ends_too_early reach fragment = is_final fragment && nat_lt (fragment_end fragment) reach

-- table row of the end; if no end is known, a final fragment must not end below the greatest end
abbrev pub end_row : Option ℕ → ℕ → IpFragment → Bool × IpDefragError
end_row None reach fragment = (ends_too_early reach fragment, ConflictingEnd reach (fragment_end fragment))
end_row (Some known_end) reach fragment =
    (conflicts_with known_end fragment, ConflictingEnd known_end (fragment_end fragment))

-- refusal table of a fragment, given the limit, the known end and the greatest end of an accepted fragment
abbrev pub fragment_rows : ℕ → Option ℕ → ℕ → IpFragment → List (Bool × IpDefragError)
fragment_rows limit known_end reach fragment =
    (nat_lt limit (fragment_end fragment), SegmentTooBig fragment.offset (length fragment.bytes) limit)
    ∷ (is_unaligned fragment, UnalignedFragmentPayloadLen fragment.offset (length fragment.bytes))
    ∷ end_row known_end reach fragment
    ∷ []

-- error of the first row that applies, none if the fragment fits
abbrev pub refusal_at_within : ℕ → Option ℕ → ℕ → IpFragment → Option IpDefragError
refusal_at_within limit known_end reach fragment = first_row (fragment_rows limit known_end reach fragment)

-- error within 65535 bytes, the limit unless another is given
abbrev pub refusal_at : Option ℕ → ℕ → IpFragment → Option IpDefragError
refusal_at known_end reach fragment = refusal_at_within 65535 known_end reach fragment

-- error of a fragment after a list of accepted ones, within a limit
abbrev pub refusal_within : ℕ → List IpFragment → IpFragment → Option IpDefragError
refusal_within limit accepted fragment = refusal_at_within limit (end_of accepted) (reach_of accepted) fragment

-- error of a fragment after a list of accepted ones, within 65535 bytes
abbrev pub refusal_of : List IpFragment → IpFragment → Option IpDefragError
refusal_of accepted fragment = refusal_within 65535 accepted fragment

-- Holds if the fragment is rejected with this error after the accepted ones, within the limit.
abbrev pub RefusesWithin : ℕ → List IpFragment → IpFragment → IpDefragError → Type 0
RefusesWithin limit accepted fragment error = refusal_within limit accepted fragment ≡ Some error

-- Holds if the fragment is rejected with this error after the accepted ones, within 65535 bytes.
abbrev pub RefusesFragment : List IpFragment → IpFragment → IpDefragError → Type 0
RefusesFragment accepted fragment error = RefusesWithin 65535 accepted fragment error

-- Holds if the fragment fits after the accepted ones, within the limit: no row applies.
abbrev pub FitsWithin : ℕ → List IpFragment → IpFragment → Type 0
FitsWithin limit accepted fragment = refusal_within limit accepted fragment ≡ None

-- Holds if the fragment fits after the accepted ones, within 65535 bytes.
abbrev pub Fits : List IpFragment → IpFragment → Type 0
Fits accepted fragment = FitsWithin 65535 accepted fragment

-- Holds if each fragment of the second list fits after the first list and the ones before it.
abbrev pub FitAfterWithin : ℕ → List IpFragment → List IpFragment → Type 0
FitAfterWithin limit earlier [] = Unit {0}
FitAfterWithin limit earlier (fragment ∷ later) =
    FitsWithin limit earlier fragment × FitAfterWithin limit (earlier ++ fragment ∷ []) later

-- Holds if each fragment fits after the ones before it, within the limit.
abbrev pub FitInTurnWithin : ℕ → List IpFragment → Type 0
FitInTurnWithin limit fragments = FitAfterWithin limit [] fragments

-- Holds if each fragment fits after the ones before it, within 65535 bytes.
abbrev pub FitInTurn : List IpFragment → Type 0
FitInTurn fragments = FitInTurnWithin 65535 fragments

-- Holds if the fragment ends within the reassembled bytes and overlaps or touches an accepted one: no vector has to
-- grow.
pub record IsInPlace (accepted : List IpFragment) (fragment : IpFragment) : Type 0 where
  pub within : fragment_end fragment ≤ length (assembled accepted)
  pub touching : (position : ℕ) × IsTrue (touches position (range_of fragment)) × IsTrue (is_touched accepted position)

-- Holds if the fragment fits and is not in place. Only then may an allocation fail.
abbrev pub MayNeedMemoryWithin : ℕ → List IpFragment → IpFragment → Type 0
MayNeedMemoryWithin limit accepted fragment = FitsWithin limit accepted fragment × (¬ IsInPlace accepted fragment)

-- Holds if the fragment fits within 65535 bytes and is not in place.
abbrev pub MayNeedMemory : List IpFragment → IpFragment → Type 0
MayNeedMemory accepted fragment = MayNeedMemoryWithin 65535 accepted fragment

-- whether an error is an allocation failure
abbrev pub is_allocation_failure : IpDefragError → Bool
is_allocation_failure (UnalignedFragmentPayloadLen offset payload_len) = false
is_allocation_failure (SegmentTooBig offset payload_len max) = false
is_allocation_failure (ConflictingEnd previous_end conflicting_end) = false
is_allocation_failure (AllocationFailure len) = true
