-- The names that a bounded pool holds, and what always holds of them.
use Rattle.std.specs.Prelude.{◌≡◌, ℕ, ◌≤◌, Bool, IsTrue, Option, Some, None, is_some, List, length, map, Contains}
use Rattle.std.specs.List.{AllZip, count_by, sum_by}
use Rattle.std.specs.Option.{option_map_or}
use Rattle.std.specs.Hash.{HashWrites}
use Rattle.std.specs.declared.hash.RandomState.{RandomState}
use Rattle.lru_table.specs.declared.slot.Slot.{Slot}
use Rattle.lru_table.specs.LruTable.{Entries}
use Rattle.ep_defrag.specs.declared.ip_defrag_buf.IpDefragBuf.{IpDefragBuf}
use Rattle.ep_defrag.specs.declared.ip_frag_id.IpFragId.{IpFragId}
use Rattle.ep_defrag.specs.declared.bounded_limits.DefragLimits.{DefragLimits}
use Rattle.ep_defrag.specs.declared.held_stream.HeldStream.{HeldStream}
use Rattle.ep_defrag.specs.declared.evicted_stream.EvictedStream.{EvictedStream}
use Rattle.ep_defrag.specs.IpFragments.{IpFragment}
use Rattle.ep_defrag.specs.FragmentRefusals.{FitInTurnWithin}
use Rattle.ep_defrag.specs.Buffers.{HoldsFragments}
use Rattle.ep_defrag.specs.Streams.{same_stream}
use Rattle.ep_defrag.specs.Capacities.{room_of}
use Rattle.ep_defrag.specs.KeyedHashes.{name_hash}
use Rattle.ep_defrag.specs.BoundedLimits.{most_names}
use Rattle.ep_defrag.specs.BoundedOverlaps.{all_kept}
use Rattle.ep_defrag.specs.BoundedSteps.{Row, Gone}

-- a name in the table: an identifier and the state of its stream
abbrev pub HeldName : Type 0 → Type 0
HeldName C = IpFragId C × HeldStream

-- names of the entries of a table, the one whose last accepted fragment is oldest first
abbrev pub names_of : {C : Type 0} → Entries (IpFragId C) HeldStream → List (HeldName C)
names_of entries = map (λ entry. entry.1) entries

-- Holds if each entry has the hash of its identifier under the keys, if a channel makes the writes `channel`.
abbrev pub AreHashed : {C : Type 0} → (C → HashWrites) → RandomState → Entries (IpFragId C) HeldStream → Type 0
AreHashed {C} channel keys entries = (entry : Slot × HeldName C) → Contains entries entry
    → entry.0.hash ≡ name_hash channel keys entry.1.0

-- memory of a stream in bytes, 0 if it is discarded
abbrev pub held_room : HeldStream → ℕ
held_room stream = option_map_or room_of stream.buffer 0

-- memory of the streams of these names
abbrev pub room_of_names : {C : Type 0} → List (HeldName C) → ℕ
room_of_names names = sum_by (λ name. held_room name.1) names

-- number of open streams among them
abbrev pub open_names : {C : Type 0} → List (HeldName C) → ℕ
open_names names = count_by (λ name. is_some name.1.buffer) names

-- Holds if the names are as many, and their streams use as much memory, as the limits allow.
pub record AreWithinLimits {C : Type 0} (limits : DefragLimits) (names : List (HeldName C)) : Type 0 where
  pub few : length names ≤ most_names limits
  pub small : room_of_names names ≤ limits.bytes

-- Holds if a buffer holds the accepted fragments, as the policy keeps them, and each fits within the limit.
pub record HoldsKept (limits : DefragLimits) (buffer : IpDefragBuf) (accepted : List IpFragment) : Type 0 where
  pub contents : HoldsFragments buffer (all_kept limits.overlap accepted)
  pub within : FitInTurnWithin limits.payload accepted

-- Holds if a stream is open with these accepted fragments, or discarded if there are none.
abbrev pub HoldsState : DefragLimits → Option IpDefragBuf → Option (List IpFragment) → Type 0
HoldsState limits None None = Unit {0}
HoldsState limits None (Some accepted) = ⊥
HoldsState limits (Some buffer) None = ⊥
HoldsState limits (Some buffer) (Some accepted) = HoldsKept limits buffer accepted

-- Holds if a name that a pool holds is this name of the table.
pub record HoldsRow {C : Type 0} (limits : DefragLimits) (held : HeldName C) (row : Row C) : Type 0 where
  pub id : held.0 ≡ row.id
  pub state : HoldsState limits held.1.buffer row.accepted
  pub room : held_room held.1 ≡ row.room
  pub first : held.1.first ≡ row.first
  pub last : held.1.last ≡ row.last

-- Holds if no two of these names are equal.
abbrev pub HeldNamesDiffer : {C : Type 0} → (C → C → Bool) → List (HeldName C) → Type 0
HeldNamesDiffer {C} eq names =
    (name : IpFragId C) → count_by (λ held. same_stream eq held.0 name) names ≤ 1

-- Holds if these names are those of the table, in its order, and no two are equal.
pub record HoldsNames {C : Type 0} (eq : C → C → Bool) (limits : DefragLimits) (names : List (HeldName C))
    (rows : List (Row C)) : Type 0 where
  pub differ : HeldNamesDiffer eq names
  pub each : AllZip (HoldsRow limits) names rows

-- Holds if this is the report of a name that was evicted or discarded. The identifier is equal, by the equality of
-- channels.
pub record Reports {C : Type 0} (eq : C → C → Bool) (reported : EvictedStream C) (gone : Gone C) : Type 0 where
  pub id : IsTrue (same_stream eq gone.row.id reported.id)
  pub cause : reported.cause ≡ gone.cause
  pub first : reported.first ≡ gone.row.first
