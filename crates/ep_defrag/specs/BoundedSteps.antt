-- Effect of a call on the table of a bounded pool. `C` is the type of channels, which `eq` compares.
use Rattle.std.specs.Prelude.{ℕ, ◌+◌, Bool, true, false, not, ◌&&◌, ◌||◌, nat_lt, nat_le, if◌then◌else◌}
use Rattle.std.specs.Prelude.{Option, Some, None, is_some, unwrap_or, List, [], ◌∷◌, ◌++◌, length, map}
use Rattle.std.specs.List.{filter, find, sum_by}
use Rattle.std.specs.Option.{option_map_or}
use Rattle.ep_defrag.specs.declared.ip_defrag_error.IpDefragError.{IpDefragError}
use Rattle.ep_defrag.specs.declared.ip_defrag_error.IpDefragError.TheVariants.{AllocationFailure}
use Rattle.ep_defrag.specs.declared.ip_frag_id.IpFragId.{IpFragId}
use Rattle.ep_defrag.specs.declared.bounded_limits.DefragLimits.{DefragLimits}
use Rattle.ep_defrag.specs.declared.bounded_defrag_error.BoundedDefragError.{BoundedDefragError}
use Rattle.ep_defrag.specs.declared.bounded_defrag_error.BoundedDefragError.TheVariants.{Rejected, Discarded, OverBudget}
use Rattle.ep_defrag.specs.declared.evicted_stream.EvictionCause.{EvictionCause}
use Rattle.ep_defrag.specs.declared.evicted_stream.EvictionCause.TheVariants.{Expired, Overlap, Streams, Bytes}
use Rattle.ep_defrag.specs.IpFragments.{IpFragment, fragment_end, assembled, is_complete}
use Rattle.ep_defrag.specs.FragmentRefusals.{refusal_within}
use Rattle.ep_defrag.specs.Streams.{same_stream}
use Rattle.ep_defrag.specs.Calls.{Payload, payload_of}
use Rattle.ep_defrag.specs.BoundedLimits.{most_names}
use Rattle.ep_defrag.specs.BoundedOverlaps.{contradicts, all_kept, discards_stream}

-- ---- the table

-- A name of the table: its identifier; the accepted fragments of its stream in their order, or none if it is discarded;
-- the memory of its stream in bytes, 0 if it is discarded; the times of its first and its last accepted fragment; and
-- the number of the call that accepted the last one. Tables are in the order of the last accepted fragments.
pub record Row (C : Type 0) : Type 0 where
  pub id : IpFragId C
  pub accepted : Option (List IpFragment)
  pub room : ℕ
  pub first : ℕ
  pub last : ℕ
  pub number : ℕ

-- whether the name has an open stream
abbrev pub is_open : {C : Type 0} → Row C → Bool
is_open row = is_some row.accepted

-- name of the table with this identifier, if there is one
abbrev pub row_named : {C : Type 0} → (C → C → Bool) → IpFragId C → List (Row C) → Option (Row C)
row_named eq name rows = find (λ row. same_stream eq row.id name) rows

-- names with other identifiers
abbrev pub other_rows : {C : Type 0} → (C → C → Bool) → IpFragId C → List (Row C) → List (Row C)
other_rows eq name rows = filter (λ row. not (same_stream eq row.id name)) rows

-- memory of all streams
abbrev pub room_held : {C : Type 0} → List (Row C) → ℕ
room_held rows = sum_by (λ row. row.room) rows

-- whether the number of these names and the memory of their streams are within the limits
abbrev pub are_within : {C : Type 0} → DefragLimits → List (Row C) → Bool
are_within limits rows = nat_le (length rows) (most_names limits) && nat_le (room_held rows) limits.bytes

-- ---- what leaves the table

-- whether the cause is the age of the stream
abbrev pub is_expiry : EvictionCause → Bool
is_expiry Expired = true
is_expiry Overlap = false
is_expiry Streams = false
is_expiry Bytes = false

-- whether the cause is that two versions of the payload came
abbrev pub is_overlap : EvictionCause → Bool
is_overlap Expired = false
is_overlap Overlap = true
is_overlap Streams = false
is_overlap Bytes = false

-- whether the cause is the number of names
abbrev pub is_for_streams : EvictionCause → Bool
is_for_streams Expired = false
is_for_streams Overlap = false
is_for_streams Streams = true
is_for_streams Bytes = false

-- whether the cause is the memory
abbrev pub is_for_bytes : EvictionCause → Bool
is_for_bytes Expired = false
is_for_bytes Overlap = false
is_for_bytes Streams = false
is_for_bytes Bytes = true

-- A name that was evicted, or discarded (`Overlap`), with its state before the call, and the cause.
pub record Gone (C : Type 0) : Type 0 where
  pub row : Row C
  pub cause : EvictionCause

abbrev pub gone_for : {C : Type 0} → EvictionCause → Row C → Gone C
gone_for cause row = record { row = row; cause = cause }

-- cause for which the first of these names is evicted: there are too many, or else their streams use too much memory
abbrev pub limit_cause : {C : Type 0} → DefragLimits → List (Row C) → EvictionCause
limit_cause limits rows = if nat_lt (most_names limits) (length rows) then Streams else Bytes

-- names that stay: without the first ones, as few of these as the limits require
abbrev pub remaining : {C : Type 0} → DefragLimits → List (Row C) → List (Row C)
remaining limits [] = []
remaining limits (row ∷ later) =
    if are_within limits (row ∷ later) then row ∷ later else remaining limits later

-- names that are evicted for the limits, in their order
abbrev pub evicted_for_limits : {C : Type 0} → DefragLimits → List (Row C) → List (Gone C)
evicted_for_limits limits [] = []
evicted_for_limits limits (row ∷ later) =
    if are_within limits (row ∷ later) then []
    else gone_for (limit_cause limits (row ∷ later)) row ∷ evicted_for_limits limits later

-- ---- expiry

-- whether the first accepted fragment came more than the age before now; never if now is earlier
abbrev pub is_expired : {C : Type 0} → DefragLimits → ℕ → Row C → Bool
is_expired limits now row = nat_lt (row.first + limits.age) now

-- whether `expire` evicts the name: it is expired, or its last accepted fragment came more than `idle` before now
abbrev pub is_due : {C : Type 0} → DefragLimits → ℕ → ℕ → Row C → Bool
is_due limits now idle row = is_expired limits now row || nat_lt (row.last + idle) now

-- whether a fragment of an identifier evicts the name
abbrev pub expires_for : {C : Type 0} → DefragLimits → (C → C → Bool) → ℕ → IpFragId C → Row C → Bool
expires_for limits eq now name row = same_stream eq row.id name && is_expired limits now row

-- ---- one call

-- answer to a fragment: an error, a complete payload, or nothing
pub data BoundedAnswer : Type 0 where
  fragment_rejected : BoundedDefragError → BoundedAnswer
  payload_complete : Payload → BoundedAnswer
  nothing_complete : BoundedAnswer

-- Effect of a call: the table after it, the names that it evicted or discarded, the names that it removed, whether a
-- stream began, the answer to its fragment, and the accepted fragments of the payload that it returned.
pub record Step (C : Type 0) : Type 0 where
  pub rows : List (Row C)
  pub gone : List (Gone C)
  pub removed : List (Row C)
  pub begun : Bool
  pub answer : BoundedAnswer
  pub completed : List IpFragment

-- step that leaves this table and answers nothing
abbrev pub quiet_step : {C : Type 0} → List (Row C) → Step C
quiet_step rows = record {
  rows = rows;
  gone = [];
  removed = [];
  begun = false;
  answer = nothing_complete;
  completed = [];
}

-- step that changes nothing and answers an error
abbrev pub rejecting_step : {C : Type 0} → List (Row C) → BoundedDefragError → Step C
rejecting_step rows error = record (quiet_step rows) { answer = fragment_rejected error }

-- result of the refusal table and the policy for a fragment
pub data Fate : Type 0 where
  is_rejected : BoundedDefragError → Fate
  discards : Fate
  is_accepted : Fate

abbrev pub fate_unless : Bool → Option IpDefragError → Fate
fate_unless true error = discards
fate_unless false (Some error) = is_rejected (Rejected error)
fate_unless false None = is_accepted

-- fate of a fragment after these accepted ones of its stream, none if it has not begun
abbrev pub fate_after : DefragLimits → List IpFragment → IpFragment → Fate
fate_after limits accepted fragment =
    let error = refusal_within limits.payload accepted fragment in
    fate_unless
    (discards_stream limits.overlap error (contradicts (all_kept limits.overlap accepted) fragment))
    error

-- fate of a fragment in its stream, or at a discarded name
abbrev pub fate_in : DefragLimits → Option (List IpFragment) → IpFragment → Fate
fate_in limits None fragment = is_rejected Discarded
fate_in limits (Some accepted) fragment = fate_after limits accepted fragment

-- fate of a fragment at its name, if the table has it
abbrev pub fate_at : {C : Type 0} → DefragLimits → Option (Row C) → IpFragment → Fate
fate_at limits None fragment = fate_after limits [] fragment
fate_at limits (Some row) fragment = fate_in limits row.accepted fragment

-- accepted fragments before this one
abbrev pub accepted_before : {C : Type 0} → Option (Row C) → List IpFragment
accepted_before row = option_map_or (λ found. unwrap_or found.accepted []) row []

-- name with one more accepted fragment
abbrev pub row_with : {C : Type 0} → Option (Row C) → IpFragId C → IpFragment → ℕ → ℕ → ℕ → Row C
row_with old name fragment now number room = record {
  id = option_map_or (λ row. row.id) old name;
  accepted = Some (accepted_before old ++ fragment ∷ []);
  room = room;
  first = option_map_or (λ row. row.first) old now;
  last = now;
  number = number;
}

-- discarded name: its data is freed, and it keeps its place
abbrev pub discarded_row : {C : Type 0} → Row C → Row C
discarded_row row = record row { accepted = None; room = 0 }

-- table in which the name is discarded
abbrev pub rows_discarding : {C : Type 0} → (C → C → Bool) → IpFragId C → List (Row C) → List (Row C)
rows_discarding eq name rows = map (λ row. if same_stream eq row.id name then discarded_row row else row) rows

abbrev pub discarding_step : {C : Type 0} → (C → C → Bool) → IpFragId C → List (Row C) → Step C
discarding_step eq name rows = record (rejecting_step (rows_discarding eq name rows) Discarded) {
  gone = map (gone_for Overlap) (filter (λ row. same_stream eq row.id name) rows);
}

-- payload of accepted fragments, by the policy
abbrev pub payload_by : {C : Type 0} → DefragLimits → IpFragId C → List IpFragment → Payload
payload_by limits name accepted =
    record (payload_of name accepted) { bytes = assembled (all_kept limits.overlap accepted) }

-- step of an accepted fragment: `others` are the names besides its own, `own` its own with the fragment
abbrev pub accepting_step : {C : Type 0} → DefragLimits → Option (Row C) → List (Row C) → Row C → List IpFragment
    → Step C
accepting_step limits old others own accepted =
    if is_complete accepted then record (quiet_step others) {
      begun = not (is_some old);
      answer = payload_complete (payload_by limits own.id accepted);
      completed = accepted;
    } else if nat_lt limits.bytes own.room then record (rejecting_step others OverBudget) {
      gone = gone_for Bytes (unwrap_or old own) ∷ [];
      begun = not (is_some old);
    } else record (quiet_step (remaining limits (others ++ own ∷ []))) {
      gone = evicted_for_limits limits (others ++ own ∷ []);
      begun = not (is_some old);
    }

-- step of a fragment by its fate, and by the allocator: it grants the memory that the stream then has, or none
abbrev pub fated_step : {C : Type 0} → DefragLimits → (C → C → Bool) → List (Row C) → IpFragId C → IpFragment → ℕ → ℕ
    → Option ℕ → Fate → Step C
fated_step limits eq rows name fragment now number granted (is_rejected error) = rejecting_step rows error
fated_step limits eq rows name fragment now number granted discards = discarding_step eq name rows
fated_step limits eq rows name fragment now number None is_accepted =
    rejecting_step rows (Rejected (AllocationFailure (fragment_end fragment)))
fated_step limits eq rows name fragment now number (Some room) is_accepted =
    let old = row_named eq name rows in
    accepting_step limits old (other_rows eq name rows) (row_with old name fragment now number room)
    (accepted_before old ++ fragment ∷ [])

-- step of a fragment: its own name expires first
abbrev pub fragment_step : {C : Type 0} → DefragLimits → (C → C → Bool) → List (Row C) → IpFragId C → IpFragment → ℕ → ℕ
    → Option ℕ → Step C
fragment_step limits eq rows name fragment now number granted =
    let left = filter (λ row. not (expires_for limits eq now name row)) rows in
    let step =
    fated_step limits eq left name fragment now number granted (fate_at limits (row_named eq name left) fragment)
    in record step {
      gone = map (gone_for Expired) (filter (expires_for limits eq now name) rows) ++ step.gone;
    }

-- A call: a packet with its fragment and the fragment's identifier, if it carries one, at a time; `expire` with its
-- time and its greatest idle time; `remove` of an identifier; or `clear`.
pub data BoundedCall (C : Type 0) : Type 0 where
  gives_fragment : Option (IpFragId C × IpFragment) → ℕ → BoundedCall C
  expires_names : ℕ → ℕ → BoundedCall C
  removes_name : IpFragId C → BoundedCall C
  clears_names : BoundedCall C

-- step of a call of this number
abbrev pub call_step : {C : Type 0} → DefragLimits → (C → C → Bool) → List (Row C) → BoundedCall C → ℕ → Option ℕ
    → Step C
call_step limits eq rows (gives_fragment None now) number granted = quiet_step rows
call_step limits eq rows (gives_fragment (Some given) now) number granted =
    fragment_step limits eq rows given.0 given.1 now number granted
call_step limits eq rows (expires_names now idle) number granted =
    record (quiet_step (filter (λ row. not (is_due limits now idle row)) rows)) {
      gone = map (gone_for Expired) (filter (is_due limits now idle) rows);
    }
call_step limits eq rows (removes_name name) number granted =
    record (quiet_step (other_rows eq name rows)) { removed = filter (λ row. same_stream eq row.id name) rows }
call_step limits eq rows clears_names number granted = record (quiet_step []) { removed = rows }
