-- Changes of the names that a bounded pool holds, within one call.
use Rattle.std.specs.Prelude.{◌≡◌, ℕ, ◌+◌, ◌≤◌, Bool, not, ◌||◌, nat_lt, map, IsTrue, if◌then◌else◌, is_some, Result, Option, Some, None, List, [], ◌∷◌, ◌++◌, length, vec_len, vec_capacity, Contains}
use Rattle.std.specs.List.{AllZip, filter}
use Rattle.lru_table.specs.declared.slot.Slot.{Slot}
use Rattle.lru_table.specs.LruTable.{Entries, without}
use Rattle.ep_defrag.specs.declared.ip_defrag_buf.IpDefragBuf.{IpDefragBuf}
use Rattle.ep_defrag.specs.declared.ip_frag_id.IpFragId.{IpFragId}
use Rattle.ep_defrag.specs.declared.ip_defrag_payload_vec.IpDefragPayloadVec.{IpDefragPayloadVec}
use Rattle.ep_defrag.specs.declared.bounded_defrag_error.BoundedDefragError.{BoundedDefragError}
use Rattle.ep_defrag.specs.declared.bounded_limits.DefragLimits.{DefragLimits}
use Rattle.ep_defrag.specs.declared.defrag_statistics.DefragStatistics.{DefragStatistics}
use Rattle.ep_defrag.specs.declared.evicted_stream.EvictionCause.{EvictionCause}
use Rattle.ep_defrag.specs.declared.evicted_stream.EvictionCause.TheVariants.{Expired}
use Rattle.ep_defrag.specs.declared.held_stream.HeldStream.{HeldStream}
use Rattle.ep_defrag.specs.declared.evicted_stream.EvictedStream.{EvictedStream}
use Rattle.ep_defrag.specs.declared.departure.Departure.{Departure}
use Rattle.ep_defrag.specs.declared.departure.Departure.TheVariants.{Evicted}
use Rattle.ep_defrag.specs.declared.holdings.Holdings.{Holdings}
use Rattle.ep_defrag.specs.IpFragments.{IpFragment}
use Rattle.ep_defrag.specs.FragmentRefusals.{MayNeedMemoryWithin}
use Rattle.ep_defrag.specs.BoundedSteps.{Row, row_named, Gone, Step, is_expiry, is_overlap, is_for_streams, is_for_bytes}
use Rattle.ep_defrag.specs.BoundedSteps.{accepted_before, remaining, evicted_for_limits, fate_at, fated_step}
use Rattle.ep_defrag.specs.BoundedCounts.{counted, count_gone, with_departure, is_payload}
use Rattle.ep_defrag.specs.BoundedNames.{HeldName, names_of, open_names, HoldsRow, HoldsNames, Reports}
use Rattle.ep_defrag.specs.BoundedAnswers.{plain_bounded, is_starved}

-- names of the table
abbrev pub names_held : {C : Type 0} {e : _} {h : _} → Holdings C e h → List (HeldName C)
names_held holdings = names_of holdings.table

-- Holds if each name of the table can be reported once more.
abbrev pub CanReport : {C : Type 0} {e : _} {h : _} → Holdings C e h → Type 0
CanReport holdings = vec_len holdings.evicted + length holdings.table ≤ vec_capacity holdings.evicted

-- counters after a name left the table; a discarded one is not counted again
abbrev pub after_departure : DefragStatistics → Option IpDefragBuf → Departure → DefragStatistics
after_departure old None departure = old
after_departure old (Some buffer) departure = with_departure old departure

-- Holds if the name in a slot left the table.
pub record TakesName {C : Type 0} {e : _} {h : _} (old new : Holdings C e h) (slot : Slot) (departure : Departure)
    (name : HeldName C)
    : Type 0 where
  pub table : new.table ≡ without slot old.table
  pub statistics : new.statistics ≡ after_departure old.statistics name.1.buffer departure
  pub evicted : new.evicted ≡ old.evicted
  pub keys : new.keys ≡ old.keys

-- Holds if no name came and no stream grew: each entry of the new table is one of the old one.
pub record AreLeft {C : Type 0} {e : _} {h : _} (old new : Holdings C e h) : Type 0 where
  pub entries : (entry : Slot × HeldName C) → Contains new.table entry → Contains old.table entry
  pub few : length new.table ≤ length old.table
  pub room : new.held ≤ old.held
  pub keys : new.keys ≡ old.keys

-- report of a name
abbrev pub report_of : {C : Type 0} → HeldName C → EvictionCause → EvictedStream C
report_of name cause = record { id = name.0; cause = cause; first = name.1.first }

-- Holds if the name in a slot was evicted and reported.
pub record EvictsName {C : Type 0} {e : _} {h : _} (old new : Holdings C e h) (slot : Slot) (cause : EvictionCause)
    (name : HeldName C)
    : Type 0 where
  pub table : new.table ≡ without slot old.table
  pub statistics : new.statistics ≡ after_departure old.statistics name.1.buffer (Evicted cause)
  pub evicted : new.evicted.items ≡ old.evicted.items ++ report_of name cause ∷ []
  pub capacity : vec_capacity new.evicted ≡ vec_capacity old.evicted
  pub keys : new.keys ≡ old.keys

-- Holds if the names of the table left it for the caller of the pool.
pub record RemovesAll {C : Type 0} {e : _} {h : _} (old new : Holdings C e h) : Type 0 where
  pub table : new.table ≡ []
  pub statistics : new.statistics
      ≡ record old.statistics { removed = counted old.statistics.removed (open_names (names_of old.table)) }
  pub evicted : new.evicted ≡ old.evicted
  pub keys : new.keys ≡ old.keys

-- whether `expire` evicts a stream: its first accepted fragment came more than the age before now, or its last one more
-- than `idle`
abbrev pub is_stream_due : DefragLimits → ℕ → ℕ → HeldStream → Bool
is_stream_due limits now idle stream = nat_lt (stream.first + limits.age) now || nat_lt (stream.last + idle) now

-- entries of a table whose streams `expire` evicts
abbrev pub due_in : {C : Type 0} → DefragLimits → ℕ → ℕ → Entries (IpFragId C) HeldStream
    → Entries (IpFragId C) HeldStream
due_in limits now idle entries = filter (λ entry. is_stream_due limits now idle entry.1.1) entries

-- entries of a table that `expire` leaves
abbrev pub not_due_in : {C : Type 0} → DefragLimits → ℕ → ℕ → Entries (IpFragId C) HeldStream
    → Entries (IpFragId C) HeldStream
not_due_in limits now idle entries = filter (λ entry. not (is_stream_due limits now idle entry.1.1)) entries

-- Holds if the names that are due were evicted and reported in their order, and the others stay in theirs.
pub record EvictsDue {C : Type 0} {e : _} {h : _} (limits : DefragLimits) (now idle : ℕ) (old new : Holdings C e h)
    : Type 0 where
  pub table : new.table ≡ not_due_in limits now idle old.table
  pub statistics : new.statistics ≡ record old.statistics {
    expired = counted old.statistics.expired (open_names (names_of (due_in limits now idle old.table)));
  }
  pub evicted : new.evicted.items
      ≡ old.evicted.items ++ map (λ entry. report_of entry.1 Expired) (due_in limits now idle old.table)
  pub keys : new.keys ≡ old.keys

-- counters after these names were evicted or discarded
abbrev pub with_all_gone : {C : Type 0} → DefragStatistics → List (Gone C) → DefragStatistics
with_all_gone old gone = record old {
  discarded = counted old.discarded (count_gone is_overlap gone);
  expired = counted old.expired (count_gone is_expiry gone);
  evicted_for_streams = counted old.evicted_for_streams (count_gone is_for_streams gone);
  evicted_for_bytes = counted old.evicted_for_bytes (count_gone is_for_bytes gone);
}

-- Holds if the table now has these names, and those that were evicted are reported and counted.
pub record LeavesRows {C : Type 0} {e : _} {h : _} (eq : C → C → Bool) (limits : DefragLimits)
    (old new : Holdings C e h)
    (rows : List (Row C)) (gone : List (Gone C)) : Type 0 where
  pub names : AllZip (HoldsRow limits) (names_held new) rows
  pub evicted : (earlier : List (Gone C)) → AllZip (Reports eq) old.evicted.items earlier
      → AllZip (Reports eq) new.evicted.items (earlier ++ gone)
  pub statistics : new.statistics ≡ with_all_gone old.statistics gone

-- Holds if of these names the first ones were evicted, as few as the limits require.
abbrev pub EvictsForLimits : {C : Type 0} {e : _} {h : _} → (C → C → Bool) → DefragLimits → List (HeldName C)
    → Holdings C e h → Holdings C e h → Type 0
EvictsForLimits {C} eq limits names old new = (rows : List (Row C)) → AllZip (HoldsRow limits) names rows
    → LeavesRows eq limits old new (remaining limits rows) (evicted_for_limits limits rows)

-- step of a fragment whose name has not expired
abbrev pub step_within : {C : Type 0} → DefragLimits → (C → C → Bool) → List (Row C) → IpFragId C → IpFragment → ℕ → ℕ
    → Option ℕ → Step C
step_within limits eq rows name fragment now number granted =
    fated_step limits eq rows name fragment now number granted (fate_at limits (row_named eq name rows) fragment)

-- counters after a step of a fragment, without those of its answer
abbrev pub statistics_within : {C : Type 0} → DefragStatistics → Step C → DefragStatistics
statistics_within old step = record (with_all_gone old step.gone) {
  begun = counted old.begun (if step.begun then 1 else 0);
  completed = counted old.completed (if is_payload step.answer then 1 else 0);
}

-- Holds if a fragment was processed with this result as this step, for a name that had not expired.
pub record DoesFragmentStep {C : Type 0} {e : _} {h : _} (eq : C → C → Bool) (limits : DefragLimits)
    (old new : Holdings C e h)
    (result : Result (Option IpDefragPayloadVec) BoundedDefragError) (step : Step C) : Type 0 where
  pub names : AllZip (HoldsRow limits) (names_held new) step.rows
  pub evicted : (earlier : List (Gone C)) → AllZip (Reports eq) old.evicted.items earlier
      → AllZip (Reports eq) new.evicted.items (earlier ++ step.gone)
  pub statistics : new.statistics ≡ statistics_within old.statistics step
  pub answer : plain_bounded result ≡ step.answer

-- Holds if a fragment was processed with this result, whatever fragments the streams accepted, for a name that had not
-- expired.
pub record TakesFragmentStep {C : Type 0} {e : _} {h : _} (eq : C → C → Bool) (limits : DefragLimits)
    (old new : Holdings C e h)
    (name : IpFragId C) (fragment : IpFragment) (now : ℕ)
    (result : Result (Option IpDefragPayloadVec) BoundedDefragError) : Type 0 where
  pub step : (rows : List (Row C)) (number : ℕ) → HoldsNames eq limits (names_held old) rows → (granted : Option ℕ)
      × DoesFragmentStep eq limits old new result (step_within limits eq rows name fragment now number granted)
      × (is_some granted ≡ not (is_starved result))
  pub memory : IsTrue (is_starved result) → (rows : List (Row C)) → HoldsNames eq limits (names_held old) rows
      → MayNeedMemoryWithin limits.payload (accepted_before (row_named eq name rows)) fragment
