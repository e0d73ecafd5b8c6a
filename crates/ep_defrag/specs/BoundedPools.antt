-- Contents of a bounded pool, and after its calls.
use Rattle.std.specs.Prelude.{◌≡◌, ℕ, ◌≤◌, Bool, not, IsTrue}
use Rattle.std.specs.Prelude.{Option, Some, None, is_some, Result, Ok, List, [], length}
use Rattle.std.specs.List.{AllZip, filter}
use Rattle.std.specs.declared.hash.RandomState.{RandomState}
use Rattle.ep_defrag.specs.declared.ip_frag_id.IpFragId.{IpFragId}
use Rattle.ep_defrag.specs.declared.ip_defrag_payload_vec.IpDefragPayloadVec.{IpDefragPayloadVec}
use Rattle.ep_defrag.specs.declared.bounded_limits.DefragLimits.{DefragLimits}
use Rattle.ep_defrag.specs.declared.bounded_defrag_error.BoundedDefragError.{BoundedDefragError}
use Rattle.ep_defrag.specs.declared.evicted_stream.EvictedStream.{EvictedStream}
use Rattle.ep_defrag.specs.declared.defrag_statistics.DefragStatistics.{DefragStatistics}
use Rattle.ep_defrag.specs.declared.bounded_defrag_pool.BoundedDefragPool.{BoundedDefragPool}
use Rattle.ep_defrag.specs.IpFragments.{IpFragment}
use Rattle.ep_defrag.specs.FragmentRefusals.{MayNeedMemoryWithin}
use Rattle.ep_defrag.specs.Streams.{same_stream, PacketFragment, name_of}
use Rattle.ep_defrag.specs.BoundedLimits.{most_names}
use Rattle.ep_defrag.specs.BoundedNames.{HeldName, room_of_names, open_names, HoldsNames, Reports}
use Rattle.ep_defrag.specs.BoundedSteps.{Row, row_named}
use Rattle.ep_defrag.specs.BoundedSteps.{BoundedCall, gives_fragment, call_step}
use Rattle.ep_defrag.specs.BoundedSteps.{accepted_before, expires_for}
use Rattle.ep_defrag.specs.BoundedCounts.{statistics_with}
use Rattle.ep_defrag.specs.BoundedAnswers.{plain_bounded, is_starved}

-- ---- the contents of a pool

-- limits of a pool
abbrev pub limits_in : {C : Type 0} → BoundedDefragPool C → DefragLimits
limits_in pool = pool.0

-- names of its table, the one whose last accepted fragment is oldest first
abbrev pub names_in : {C : Type 0} → BoundedDefragPool C → List (HeldName C)
names_in pool = pool.1

-- names that its last call evicted or discarded
abbrev pub evicted_in : {C : Type 0} → BoundedDefragPool C → List (EvictedStream C)
evicted_in pool = pool.2

-- its counters
abbrev pub statistics_in : {C : Type 0} → BoundedDefragPool C → DefragStatistics
statistics_in pool = pool.3

-- keys of the hash of its names
abbrev pub keys_in : {C : Type 0} → BoundedDefragPool C → RandomState
keys_in pool = pool.4

-- memory of all streams of a pool
abbrev pub room_in : {C : Type 0} → BoundedDefragPool C → ℕ
room_in pool = room_of_names (names_in pool)

-- number of its open streams
abbrev pub open_in : {C : Type 0} → BoundedDefragPool C → ℕ
open_in pool = open_names (names_in pool)

-- Holds if a pool is within its limits, in names and in memory.
pub record IsBounded {C : Type 0} (pool : BoundedDefragPool C) : Type 0 where
  pub names : length (names_in pool) ≤ most_names (limits_in pool)
  pub room : room_in pool ≤ (limits_in pool).bytes

-- Holds if the pool has the names of the table.
abbrev pub HoldsRows : {C : Type 0} → (C → C → Bool) → BoundedDefragPool C → List (Row C) → Type 0
HoldsRows eq pool rows = HoldsNames eq (limits_in pool) (names_in pool) rows

-- ---- calls

-- Holds if the pool does what a call's step says, whatever fragments its streams accepted.
pub record DoesStep {C : Type 0} (eq : C → C → Bool) (old new : BoundedDefragPool C) (call : BoundedCall C)
    (number : ℕ) (granted : Option ℕ) (rows : List (Row C)) : Type 0 where
  pub holds : HoldsRows eq new (call_step (limits_in old) eq rows call number granted).rows
  pub evicted : AllZip (Reports eq) (evicted_in new) (call_step (limits_in old) eq rows call number granted).gone
  pub statistics : statistics_in new
      ≡ statistics_with (statistics_in old) call (call_step (limits_in old) eq rows call number granted)
  pub limits : limits_in new ≡ limits_in old

-- Holds if two pools have the names of one table, and equal limits and counters.
pub record AreAlike {C : Type 0} (eq : C → C → Bool) (a b : BoundedDefragPool C) (rows : List (Row C)) : Type 0 where
  pub first : HoldsRows eq a rows
  pub second : HoldsRows eq b rows
  pub limits : limits_in b ≡ limits_in a
  pub statistics : statistics_in b ≡ statistics_in a

-- Holds if two reports name the same stream, cause and time.
pub record ReportAlike {C : Type 0} (eq : C → C → Bool) (a b : EvictedStream C) : Type 0 where
  pub id : IsTrue (same_stream eq a.id b.id)
  pub cause : b.cause ≡ a.cause
  pub first : b.first ≡ a.first

-- Holds if the pool processes a fragment of an identifier with this result: as a step in which the allocator grants the
-- memory that the stream then has, or none if an allocation failed.
pub record TakesBounded {C : Type 0} (eq : C → C → Bool) (old new : BoundedDefragPool C) (name : IpFragId C)
    (fragment : IpFragment) (now : ℕ) (result : Result (Option IpDefragPayloadVec) BoundedDefragError) : Type 0 where
  pub step : (rows : List (Row C)) (number : ℕ) → HoldsRows eq old rows → (granted : Option ℕ)
      × DoesStep eq old new (gives_fragment (Some (name, fragment)) now) number granted rows
      × (plain_bounded result
      ≡ (call_step (limits_in old) eq rows (gives_fragment (Some (name, fragment)) now) number granted).answer)
      × (is_some granted ≡ not (is_starved result))
  -- An allocation fails only for a fragment that fits and is not in place.
  pub memory : IsTrue (is_starved result) → (rows : List (Row C)) → HoldsRows eq old rows
      → MayNeedMemoryWithin (limits_in old).payload
      (accepted_before (row_named eq name (filter (λ row. not (expires_for (limits_in old) eq now name row)) rows)))
      fragment

-- Holds if the pool processes a packet with this result. A packet without a fragment changes no name and no counter.
abbrev pub TakesBoundedFrame : {C : Type 0} → (C → C → Bool) → BoundedDefragPool C → BoundedDefragPool C
    → Option PacketFragment → ℕ → C → Result (Option IpDefragPayloadVec) BoundedDefragError → Type 0
TakesBoundedFrame eq old new None now channel result =
    (result ≡ Ok None) × (names_in new ≡ names_in old) × (evicted_in new ≡ []) × (limits_in new ≡ limits_in old)
    × (statistics_in new ≡ statistics_in old)
TakesBoundedFrame eq old new (Some carried) now channel result =
    TakesBounded eq old new (name_of carried channel) carried.fragment now result
