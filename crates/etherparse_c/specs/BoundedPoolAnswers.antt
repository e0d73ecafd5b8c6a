-- Answers of the calls on a bounded pool that C points to.
use Rattle.std.specs.Prelude.{◌≡◌, ◌==◌, if◌then◌else◌, ◌-◌, ◌^◌, min, ◌<◌, ◌≤◌, ◌⊎◌, ℕ, nat_eq, is_some, IsTrue, List, [], ◌∷◌, length, replicate, slice_get, slice_index, Option, Some, None, Result, Ok, Err}
use Rattle.std.specs.List.{All}
use Rattle.std.specs.Option.{option_map}
use Rattle.etherparse.specs.Types.BoundedDefragError.{BoundedDefragError}
use Rattle.etherparse.specs.Types.BoundedDefragError.TheVariants.{Rejected, Discarded, OverBudget}
use Rattle.etherparse.specs.Types.BoundedDefragPool.{BoundedDefragPool}
use Rattle.etherparse.specs.Types.DefragLimits.{DefragLimits as Limits}
use Rattle.etherparse.specs.Types.DefragStatistics.{DefragStatistics as Counters}
use Rattle.etherparse.specs.Types.EvictedStream.{EvictedStream as Evicted}
use Rattle.etherparse.specs.Types.EvictionCause.{EvictionCause}
use Rattle.etherparse.specs.Types.EvictionCause.TheVariants.{Expired, Overlap, Streams, Bytes}
use Rattle.etherparse.specs.Types.IpDefragPayloadVec.{IpDefragPayloadVec}
use Rattle.etherparse.specs.Types.IpFragId.{IpFragId}
use Rattle.etherparse.specs.Types.IpFragVersionSpecId.{IpFragVersionSpecId}
use Rattle.etherparse.specs.Types.IpFragVersionSpecId.TheVariants.{Ipv4, Ipv6}
use Rattle.etherparse.specs.Types.OverlapPolicy.{OverlapPolicy}
use Rattle.etherparse.specs.Types.OverlapPolicy.TheVariants.{LastWins, FirstWins, Discard}
use Rattle.etherparse.specs.Types.Entry.{Entry}
use Rattle.etherparse.specs.Types.SliceError.{SliceError}
use Rattle.etherparse.specs.BoundedCounts.{AddUp, no_statistics}
use Rattle.etherparse.specs.BoundedPools.{AreAlike, DoesStep, HoldsRows, IsBounded, TakesBoundedFrame, evicted_in, limits_in, names_in, open_in, room_in, statistics_in}
use Rattle.etherparse.specs.BoundedSteps.{BoundedCall, Row, clears_names, expires_names, removes_name, row_named}
use Rattle.etherparse.specs.FrameFragments.{fragment_of}
use Rattle.etherparse.specs.Frame.{IsFrame}
use Rattle.etherparse.specs.FrameRefusals.{RefusesFrame}
use Rattle.etherparse.specs.Layers.{Layers}
use Rattle.etherparse.specs.Streams.{packet_fragment}
use Rattle.etherparse_c.specs.declared.bounded_handle.BoundedHandle.{BoundedHandle}
use Rattle.etherparse_c.specs.declared.bounded_pool.BoundedPool.{BoundedPool}
use Rattle.etherparse_c.specs.declared.bounded_state.BoundedState.{BoundedState}
use Rattle.etherparse_c.specs.declared.defrag_values.DefragLimits.{DefragLimits}
use Rattle.etherparse_c.specs.declared.defrag_values.DefragStatistics.{DefragStatistics}
use Rattle.etherparse_c.specs.declared.defrag_values.EvictedStream.{EvictedStream}
use Rattle.etherparse_c.specs.declared.defrag_values.StreamId.{StreamId}
use Rattle.etherparse_c.specs.declared.pool_answer.PoolAnswer.{PoolAnswer}
use Rattle.etherparse_c.specs.PoolAnswers.{IsTakenWith, ReturnsPayload, empty_answer, error_answer, payload_answer, refused_status}
use Rattle.etherparse_c.specs.RefusalNumbers.{refusal_part}

-- ---- limits

-- the rule for overlapping fragments of C's number
abbrev pub overlap_of : ℕ → Option OverlapPolicy
overlap_of number =
    if number == 0 then Some LastWins
    else if number == 1 then Some FirstWins
    else if number == 2 then Some Discard
    else None

-- the limits of C's numbers, if the rule is known
abbrev pub limits_of : DefragLimits → Option Limits
limits_of given = option_map (λ overlap. record {
  streams = given.streams;
  bytes = given.bytes;
  payload = given.payload;
  age = given.age;
  overlap = overlap;
}) (overlap_of given.overlap)

-- C's number of a rule for overlapping fragments
abbrev pub overlap_number : OverlapPolicy → ℕ
overlap_number LastWins = 0
overlap_number FirstWins = 1
overlap_number Discard = 2

-- the limits as C's numbers; an age has 64 bits, since C passes no greater one
abbrev pub limits_part : Limits → DefragLimits
limits_part limits = record {
  streams = limits.streams;
  bytes = limits.bytes;
  age = min limits.age (2 ^ 64 - 1);
  overlap = overlap_number limits.overlap;
  payload = limits.payload;
}

-- ---- counters and evicted streams

-- the counters as C's numbers
abbrev pub statistics_part : Counters → DefragStatistics
statistics_part counters = record {
  begun = counters.begun;
  completed = counters.completed;
  discarded = counters.discarded;
  expired = counters.expired;
  evicted_for_streams = counters.evicted_for_streams;
  evicted_for_bytes = counters.evicted_for_bytes;
  removed = counters.removed;
  accepted = counters.accepted;
  rejected_unaligned = counters.rejected_unaligned;
  rejected_too_big = counters.rejected_too_big;
  rejected_conflicting_end = counters.rejected_conflicting_end;
  rejected_out_of_memory = counters.rejected_out_of_memory;
  rejected_discarded = counters.rejected_discarded;
  rejected_over_budget = counters.rejected_over_budget;
}

-- the number of a cause
abbrev pub cause_number : EvictionCause → ℕ
cause_number Expired = 1
cause_number Overlap = 2
cause_number Streams = 3
cause_number Bytes = 4

-- the identifier of a stream with an IP version and without addresses
abbrev pub stream_with : IpFragId ℕ → ℕ → ℕ → StreamId
stream_with id version identification = record {
  channel = id.channel_id;
  identification = identification;
  vlan_id_count = length id.vlan_ids.items;
  vlan_ids = slice_index id.vlan_ids.items 0 ∷ slice_index id.vlan_ids.items 1 ∷ slice_index id.vlan_ids.items 2 ∷ [];
  version = version;
  ip_number = id.payload_ip_number.0;
  ipv4_source = replicate 4 0;
  ipv4_destination = replicate 4 0;
  ipv6_source = replicate 16 0;
  ipv6_destination = replicate 16 0;
}

-- the identifier of a stream with the fields of its IP version
abbrev pub stream_of_version : IpFragId ℕ → IpFragVersionSpecId → StreamId
stream_of_version id (Ipv4 source destination identification) =
    record (stream_with id 4 identification) { ipv4_source = source; ipv4_destination = destination }
stream_of_version id (Ipv6 source destination identification) =
    record (stream_with id 6 identification) { ipv6_source = source; ipv6_destination = destination }

-- the identifier of a stream as C's numbers
abbrev pub stream_part : IpFragId ℕ → StreamId
stream_part id = stream_of_version id id.ip

-- Holds if the identification fits its field: 16 bits in IPv4, and 32 bits in IPv6 (RFC 791, 3.1 and RFC 8200, 4.5).
abbrev pub HasIdentification : IpFragVersionSpecId → Type 0
HasIdentification (Ipv4 source destination identification) = identification < 2 ^ 16
HasIdentification (Ipv6 source destination identification) = identification < 2 ^ 32

-- An identifier that a stream can have: at most three VLAN identifiers of 12 bits, and such an identification.
pub record IsStreamId (id : IpFragId ℕ) : Type 0 where
  pub few : length id.vlan_ids.items ≤ 3
  pub vlan_ids : All (λ vlan_id. vlan_id < 2 ^ 12) id.vlan_ids.items
  pub identification : HasIdentification id.ip

-- The identifier has these numbers; none is returned only if no stream can have them.
abbrev pub IsIdentified : Option (IpFragId ℕ) → StreamId → Type 0
IsIdentified (Some id) given = stream_part id ≡ given
IsIdentified None given = (id : IpFragId ℕ) → IsStreamId id → stream_part id ≡ given → ⊥

-- an evicted stream as C's numbers; a time has 64 bits, since C passes no greater ones
abbrev pub evicted_part : Evicted ℕ → EvictedStream
evicted_part evicted = record {
  id = stream_part evicted.id;
  first = min evicted.first (2 ^ 64 - 1);
  cause = cause_number evicted.cause;
}

-- ---- the bounded pool that C points to

-- the library's bounded pool in a state
abbrev pub bounded_pool_of : BoundedState → BoundedDefragPool ℕ
bounded_pool_of state = state.pool

-- the complete payload that waits in a state, if any
abbrev pub bounded_waiting : BoundedState → Option IpDefragPayloadVec
bounded_waiting state = state.waiting

-- An empty pool with these limits, in which no payload waits.
pub record IsEmptyBounded (given : Limits) (state : BoundedState) : Type 0 where
  pub names : names_in state.pool ≡ []
  pub limits : limits_in state.pool ≡ given
  pub evicted : evicted_in state.pool ≡ []
  pub statistics : statistics_in state.pool ≡ no_statistics
  pub waiting : state.waiting ≡ None

-- The status is 2 if the rule for overlaps is unknown, and the variable for the address is unchanged. Otherwise it is
-- 0, and C gets the address of an empty pool with these limits; or it is 5, and the variable is unchanged.
abbrev pub IsNewBounded : Option Limits → BoundedHandle → BoundedHandle → ℕ → Type 0
IsNewBounded None old new status = (status ≡ 2) × (new ≡ old)
IsNewBounded (Some limits) old new status =
    ((status ≡ 0) × ((pool : BoundedPool) × (new.pool ≡ Some pool)
    × ((state : BoundedState) × (pool.pointer.state ≡ Some state) × IsEmptyBounded limits state)))
    ⊎ ((status ≡ 5) × (new ≡ old))

-- The status is 0, and C gets the address of a pool with this state; or it is 5, and the variable is unchanged.
abbrev pub IsStoredBounded : BoundedState → BoundedHandle → BoundedHandle → ℕ → Type 0
IsStoredBounded state old new status =
    ((status ≡ 0) × ((pool : BoundedPool) × (new.pool ≡ Some pool) × (pool.pointer.state ≡ Some state)))
    ⊎ ((status ≡ 5) × (new ≡ old))

-- A call changes the state of the bounded pool by this step.
pub record ChangesBounded (old new : BoundedPool) (Step : BoundedState → BoundedState → Type 0) : Type 0 where
  pub before : BoundedState
  pub after : BoundedState
  pub was : old.pointer.state ≡ Some before
  pub is : new.pointer.state ≡ Some after
  pub step : Step before after

-- ---- frames

-- the status of an error
abbrev pub bounded_status : BoundedDefragError → ℕ
bounded_status (Rejected error) = refused_status error
bounded_status Discarded = 9
bounded_status OverBudget = 10

-- the answer for an error
abbrev pub bounded_error_answer : BoundedDefragError → PoolAnswer
bounded_error_answer (Rejected error) = error_answer error
bounded_error_answer Discarded = empty_answer
bounded_error_answer OverBudget = empty_answer

-- Answer for the result of a pool in which no payload waited: the status is 0 if no payload is complete, and that of
-- the error if the fragment is rejected; otherwise the payload is returned.
abbrev pub IsBoundedResultAnswer : Result (Option IpDefragPayloadVec) BoundedDefragError → Option IpDefragPayloadVec
    → List ℕ → List ℕ → PoolAnswer → ℕ → Type 0
IsBoundedResultAnswer (Ok None) waiting old new answer status =
    (status ≡ 0) × (waiting ≡ None) × (new ≡ old) × (answer ≡ empty_answer)
IsBoundedResultAnswer (Ok (Some payload)) waiting old new answer status =
    ReturnsPayload payload waiting old new answer status
IsBoundedResultAnswer (Err error) waiting old new answer status =
    (status ≡ bounded_status error) × (waiting ≡ None) × (new ≡ old) × (answer ≡ bounded_error_answer error)

-- No frame is processed: the names, the limits, the counters and the waiting payload are unchanged, and no stream is
-- reported as evicted.
pub record ProcessesNoFrame (old new : BoundedState) : Type 0 where
  pub names : names_in new.pool ≡ names_in old.pool
  pub evicted : evicted_in new.pool ≡ []
  pub limits : limits_in new.pool ≡ limits_in old.pool
  pub statistics : statistics_in new.pool ≡ statistics_in old.pool
  pub waiting : new.waiting ≡ old.waiting

-- A frame is passed to a pool in which no payload waits: either the bytes are not a frame, and the status is 1, or the
-- pool takes the frame, and its result is the answer.
abbrev pub IsBoundedPushed : Entry → List ℕ → ℕ → ℕ → BoundedState → BoundedState → List ℕ → List ℕ → PoolAnswer → ℕ
    → Type 0
IsBoundedPushed entry bytes timestamp channel old new old_buffer new_buffer answer status =
    ((status ≡ 1) × ProcessesNoFrame old new × (new_buffer ≡ old_buffer)
    × ((error : SliceError) × RefusesFrame entry bytes error
    × (answer ≡ record empty_answer { refusal = refusal_part error })))
    ⊎ ((layers : Layers) × IsFrame entry bytes layers
    × ((result : Result (Option IpDefragPayloadVec) BoundedDefragError)
    × TakesBoundedFrame nat_eq old.pool new.pool (option_map packet_fragment (fragment_of layers)) timestamp channel
    result
    × IsBoundedResultAnswer result new.waiting old_buffer new_buffer answer status))

-- If the entry is unknown, the status is 2; otherwise, if a payload waits, it is 8. In both cases no frame is
-- processed.
abbrev pub IsBoundedPushWith : Option Entry → Option IpDefragPayloadVec → List ℕ → ℕ → ℕ → BoundedState → BoundedState
    → List ℕ → List ℕ → PoolAnswer → ℕ → Type 0
IsBoundedPushWith None waiting bytes timestamp channel old new old_buffer new_buffer answer status =
    (status ≡ 2) × ProcessesNoFrame old new × (new_buffer ≡ old_buffer) × (answer ≡ empty_answer)
IsBoundedPushWith (Some entry) (Some payload) bytes timestamp channel old new old_buffer new_buffer answer status =
    (status ≡ 8) × ProcessesNoFrame old new × (new_buffer ≡ old_buffer) × (answer ≡ payload_answer payload)
IsBoundedPushWith (Some entry) None bytes timestamp channel old new old_buffer new_buffer answer status =
    IsBoundedPushed entry bytes timestamp channel old new old_buffer new_buffer answer status

-- Answer of a push, after which the pool is within its limits.
pub record IsBoundedPush (entry : Option Entry) (bytes : List ℕ) (timestamp channel : ℕ)
    (old_buffer new_buffer : List ℕ) (answer : PoolAnswer) (status : ℕ) (old new : BoundedState) : Type 0 where
  pub answered : IsBoundedPushWith entry old.waiting bytes timestamp channel old new old_buffer new_buffer answer status
  pub bounded : IsBounded new.pool

-- ---- the waiting payload

-- Answer of a call that takes the waiting payload; the streams are unchanged.
abbrev pub IsBoundedTake : List ℕ → List ℕ → PoolAnswer → ℕ → BoundedState → BoundedState → Type 0
IsBoundedTake old_buffer new_buffer answer status old new =
    (new.pool ≡ old.pool) × IsTakenWith old.waiting new.waiting old_buffer new_buffer answer status

-- The waiting payload, if any, is discarded; the streams are unchanged.
pub record DiscardsWaiting (old new : BoundedState) : Type 0 where
  pub pool : new.pool ≡ old.pool
  pub waiting : new.waiting ≡ None

-- ---- streams that leave the pool

-- The pool does the step of this call, and is then within its limits; the waiting payload is unchanged.
pub record DoesBounded (call : BoundedCall ℕ) (old new : BoundedState) : Type 0 where
  pub step : (rows : List (Row ℕ)) (number : ℕ) → HoldsRows nat_eq old.pool rows
      → DoesStep nat_eq old.pool new.pool call number None rows
  pub bounded : IsBounded new.pool
  pub waiting : new.waiting ≡ old.waiting

-- Streams that are too old, or idle for too long, are evicted; their number is returned.
pub record ExpiresBounded (now idle count : ℕ) (old new : BoundedState) : Type 0 where
  pub does : DoesBounded (expires_names now idle) old new
  pub counted : count ≡ length (evicted_in new.pool)

-- The stream with this identifier, open or discarded, is removed.
pub record RemovesStream (given : StreamId) (old new : BoundedState) : Type 0 where
  pub id : IpFragId ℕ
  pub named : stream_part id ≡ given
  pub present : (rows : List (Row ℕ)) → HoldsRows nat_eq old.pool rows → IsTrue (is_some (row_named nat_eq id rows))
  pub does : DoesBounded (removes_name id) old new

-- None of these names has the identifier; they and the counters are unchanged, and no stream is reported as evicted.
pub record KeepsNames (given : StreamId) (old new : BoundedState) (rows : List (Row ℕ)) : Type 0 where
  pub others : All (λ row. IsStreamId row.id → stream_part row.id ≡ given → ⊥) rows
  pub alike : AreAlike nat_eq old.pool new.pool rows
  pub evicted : evicted_in new.pool ≡ []

-- No stream has this identifier, and none is removed.
pub record RemovesNone (given : StreamId) (old new : BoundedState) : Type 0 where
  pub keeps : (rows : List (Row ℕ)) → HoldsRows nat_eq old.pool rows → KeepsNames given old new rows
  pub bounded : IsBounded new.pool
  pub waiting : new.waiting ≡ old.waiting

-- The stream with this identifier is removed, if there is one; the number of removed streams, 1 or 0, is returned.
abbrev pub RemovesBounded : StreamId → ℕ → BoundedState → BoundedState → Type 0
RemovesBounded given count old new =
    ((count ≡ 1) × RemovesStream given old new) ⊎ ((count ≡ 0) × RemovesNone given old new)

-- All streams are removed.
abbrev pub ClearsBounded : BoundedState → BoundedState → Type 0
ClearsBounded = DoesBounded clears_names

-- ---- sizes of a bounded pool

-- the number of open streams
abbrev pub open_streams : BoundedState → ℕ
open_streams state = open_in state.pool

-- the number of discarded streams whose identifier is still in the table
abbrev pub discarded_streams : BoundedState → ℕ
discarded_streams state = length (names_in state.pool) - open_in state.pool

-- the memory of all streams
abbrev pub bounded_bytes : BoundedState → ℕ
bounded_bytes state = room_in state.pool

-- the number of streams that the last call evicted or discarded
abbrev pub evicted_count : BoundedState → ℕ
evicted_count state = length (evicted_in state.pool)

-- ---- limits, counters and evicted streams

-- The limits are returned; the pool is unchanged.
pub record ReturnsLimits (limits : DefragLimits) (old new : BoundedState) : Type 0 where
  pub same : new ≡ old
  pub returned : limits ≡ limits_part (limits_in old.pool)

-- The counters are returned, and add up; the pool is unchanged.
pub record ReturnsStatistics (statistics : DefragStatistics) (old new : BoundedState) : Type 0 where
  pub same : new ≡ old
  pub returned : statistics ≡ statistics_part (statistics_in old.pool)
  pub sums : AddUp (statistics_in old.pool) (open_in old.pool)

-- The status is 0, and the evicted stream is stored; or it is 2 if there is none, and nothing is stored.
abbrev pub IsEvictedStored : Option (Evicted ℕ) → EvictedStream → EvictedStream → ℕ → Type 0
IsEvictedStored None old new status = (status ≡ 2) × (new ≡ old)
IsEvictedStored (Some evicted) old new status = (status ≡ 0) × (new ≡ evicted_part evicted)

-- Answer of a call that returns a stream that the last call evicted or discarded; the pool is unchanged.
pub record ReturnsEvicted (index : ℕ) (old_stored new_stored : EvictedStream) (status : ℕ) (old new : BoundedState)
    : Type 0 where
  pub same : new ≡ old
  pub stored : IsEvictedStored (slice_get (evicted_in old.pool) index) old_stored new_stored status
