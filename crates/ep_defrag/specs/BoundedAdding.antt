-- How a stream of a bounded pool changes by a fragment.
use Rattle.std.specs.Prelude.{◌≡◌, ◌⊎◌, ℕ, Bool, true, false, Option, Some, None, is_some, List, [], ◌∷◌, ◌++◌}
use Rattle.ep_defrag.specs.declared.ip_defrag_error.IpDefragError.TheVariants.{AllocationFailure}
use Rattle.ep_defrag.specs.declared.bounded_limits.DefragLimits.{DefragLimits}
use Rattle.ep_defrag.specs.declared.bounded_defrag_error.BoundedDefragError.{BoundedDefragError}
use Rattle.ep_defrag.specs.declared.bounded_defrag_error.BoundedDefragError.TheVariants.{Rejected}
use Rattle.ep_defrag.specs.declared.held_stream.HeldStream.{HeldStream}
use Rattle.ep_defrag.specs.declared.held_stream.Added.{Added}
use Rattle.ep_defrag.specs.declared.held_stream.Added.TheVariants as added
use Rattle.ep_defrag.specs.IpFragments.{IpFragment, fragment_end, is_complete}
use Rattle.ep_defrag.specs.FragmentRefusals.{MayNeedMemoryWithin}
use Rattle.ep_defrag.specs.BoundedSteps.{is_rejected, discards, is_accepted, fate_in}
use Rattle.ep_defrag.specs.BoundedNames.{held_room, HoldsState}

-- Holds if a fragment is rejected with this error after these accepted ones, or an allocation for it fails.
abbrev pub RejectsOrStarves : DefragLimits → Option (List IpFragment) → IpFragment → BoundedDefragError → Type 0
RejectsOrStarves limits None fragment error = fate_in limits None fragment ≡ is_rejected error
RejectsOrStarves limits (Some accepted) fragment error =
    (fate_in limits (Some accepted) fragment ≡ is_rejected error)
    ⊎ ((fate_in limits (Some accepted) fragment ≡ is_accepted)
    × MayNeedMemoryWithin limits.payload accepted fragment
    × (error ≡ Rejected (AllocationFailure (fragment_end fragment))))

-- Holds if a stream is as before a fragment that it rejected with this error.
pub record StreamRejects (limits : DefragLimits) (old new : HeldStream) (fragment : IpFragment)
    (error : BoundedDefragError) : Type 0 where
  pub why : (accepted : Option (List IpFragment)) → HoldsState limits old.buffer accepted
      → RejectsOrStarves limits accepted fragment error
  pub keeps : (accepted : Option (List IpFragment)) → HoldsState limits old.buffer accepted
      → HoldsState limits new.buffer accepted
  pub state : is_some new.buffer ≡ is_some old.buffer
  pub room : held_room new ≡ held_room old
  pub first : new.first ≡ old.first
  pub last : new.last ≡ old.last

-- Holds if a fragment discards an open stream.
pub record StreamDiscards (limits : DefragLimits) (old new : HeldStream) (fragment : IpFragment) : Type 0 where
  pub why : (accepted : Option (List IpFragment)) → HoldsState limits old.buffer accepted
      → fate_in limits accepted fragment ≡ discards
  pub was_open : is_some old.buffer ≡ true
  pub freed : new.buffer ≡ None
  pub first : new.first ≡ old.first
  pub last : new.last ≡ old.last

-- Holds if an open stream accepts a fragment at a time, and is then complete or not.
pub record StreamAccepts (limits : DefragLimits) (old new : HeldStream) (fragment : IpFragment) (now : ℕ)
    (whole : Bool) : Type 0 where
  pub why : (accepted : List IpFragment) → HoldsState limits old.buffer (Some accepted)
      → fate_in limits (Some accepted) fragment ≡ is_accepted
  pub holds : (accepted : List IpFragment) → HoldsState limits old.buffer (Some accepted)
      → HoldsState limits new.buffer (Some (accepted ++ fragment ∷ []))
  pub complete : (accepted : List IpFragment) → HoldsState limits old.buffer (Some accepted)
      → is_complete (accepted ++ fragment ∷ []) ≡ whole
  pub was_open : is_some old.buffer ≡ true
  pub is_open : is_some new.buffer ≡ true
  pub first : new.first ≡ old.first
  pub last : new.last ≡ now

-- Holds if a stream changes by a fragment as the result says.
abbrev pub AddsFragment : DefragLimits → HeldStream → HeldStream → IpFragment → ℕ → Added → Type 0
AddsFragment limits old new fragment now (added.Rejected error) = StreamRejects limits old new fragment error
AddsFragment limits old new fragment now added.Discards = StreamDiscards limits old new fragment
AddsFragment limits old new fragment now added.Continues = StreamAccepts limits old new fragment now false
AddsFragment limits old new fragment now added.Completes = StreamAccepts limits old new fragment now true
