-- Answers of the calls on a pool that C points to.
use Rattle.std.specs.Prelude.{◌≡◌, ◌+◌, ◌-◌, ◌^◌, min, ◌<◌, ◌≤◌, ◌⊎◌, ℕ, nat_eq, nat_le, List, [], ◌++◌, drop, length, Option, Some, None, Result, Ok, Err}
use Rattle.std.specs.Option.{option_map}
use Rattle.etherparse.specs.Types.IpDefragError.{IpDefragError}
use Rattle.etherparse.specs.Types.IpDefragError.TheVariants.{UnalignedFragmentPayloadLen, SegmentTooBig, ConflictingEnd, AllocationFailure}
use Rattle.etherparse.specs.Types.IpDefragPayloadVec.{IpDefragPayloadVec}
use Rattle.etherparse.specs.Types.IpDefragPool.{IpDefragPool}
use Rattle.etherparse.specs.Types.IpFragId.{IpFragId}
use Rattle.etherparse.specs.Calls.{Kept, kept_by}
use Rattle.etherparse.specs.Pools.{HoldsTable, TakesFrame, held_bytes_of, limit_of, streams_of}
use Rattle.etherparse.specs.Streams.{packet_fragment}
use Rattle.etherparse.specs.Types.Entry.{Entry}
use Rattle.etherparse.specs.Types.SliceError.{SliceError}
use Rattle.etherparse.specs.FrameFragments.{fragment_of}
use Rattle.etherparse.specs.Frame.{IsFrame}
use Rattle.etherparse.specs.Layers.{Layers}
use Rattle.etherparse.specs.FrameRefusals.{RefusesFrame}
use Rattle.etherparse_c.specs.declared.handle.Handle.{Handle}
use Rattle.etherparse_c.specs.declared.pool.Pool.{Pool}
use Rattle.etherparse_c.specs.declared.pool_answer.PoolAnswer.{PoolAnswer}
use Rattle.etherparse_c.specs.declared.state.State.{State}
use Rattle.etherparse_c.specs.Description.{no_refusal, source_number}
use Rattle.etherparse_c.specs.RefusalNumbers.{refusal_part}

-- ---- the pool that C points to

-- the library's pool in a state
abbrev pub pool_of : State → IpDefragPool ℕ ℕ
pool_of state = state.pool

-- the complete payload that waits in a state, if any
abbrev pub waiting_in : State → Option IpDefragPayloadVec
waiting_in state = state.waiting

-- An empty pool of this limit, in which no payload waits.
pub record IsEmptyState (most : ℕ) (state : State) : Type 0 where
  pub holds : HoldsTable nat_eq state.pool (λ name. None)
  pub streams : streams_of state.pool ≡ []
  pub limit : limit_of state.pool ≡ most
  pub waiting : state.waiting ≡ None

-- The status is 0, and C gets the address of an empty pool of this limit; or it is 5, and the variable for the address
-- is unchanged.
abbrev pub IsNewPool : ℕ → Handle → Handle → ℕ → Type 0
IsNewPool limit old new status =
    ((status ≡ 0) × ((pool : Pool) × (new.pool ≡ Some pool)
    × ((state : State) × (pool.pointer.state ≡ Some state) × IsEmptyState limit state)))
    ⊎ ((status ≡ 5) × (new ≡ old))

-- A call changes the state of the pool by this step.
pub record Changes (old new : Pool) (Step : State → State → Type 0) : Type 0 where
  pub before : State
  pub after : State
  pub was : old.pointer.state ≡ Some before
  pub is : new.pointer.state ≡ Some after
  pub step : Step before after

-- ---- drops

-- the state of each stream
abbrev pub Table : Type 0
Table = IpFragId ℕ → Option (Kept ℕ)

-- The streams whose timestamp is not below this one are kept, and so is a payload that waits.
pub record DropsOlder (timestamp : ℕ) (old new : State) : Type 0 where
  pub holds : (table : Table) → HoldsTable nat_eq old.pool table
      → HoldsTable nat_eq new.pool (λ name. kept_by (nat_le timestamp) (table name))
  pub limit : limit_of new.pool ≡ limit_of old.pool
  pub waiting : new.waiting ≡ old.waiting

-- ---- values of an answer

-- the answer with all fields 0
abbrev pub empty_answer : PoolAnswer
empty_answer = record { refusal = no_refusal; fragment_refusal = 0; len_source = 0; ip_number = 0; len = 0 }

-- the answer for a complete payload
abbrev pub payload_answer : IpDefragPayloadVec → PoolAnswer
payload_answer payload = record empty_answer {
  len_source = source_number payload.len_source;
  ip_number = payload.ip_number.0;
  len = length payload.payload.items;
}

-- the number of the reason why a fragment is rejected; 0 if an allocation failed
abbrev pub fragment_refusal_number : IpDefragError → ℕ
fragment_refusal_number (UnalignedFragmentPayloadLen offset len) = 1
fragment_refusal_number (SegmentTooBig offset len max) = 2
fragment_refusal_number (ConflictingEnd previous_end conflicting_end) = 3
fragment_refusal_number (AllocationFailure len) = 0

abbrev pub refused_status : IpDefragError → ℕ
refused_status (UnalignedFragmentPayloadLen offset len) = 7
refused_status (SegmentTooBig offset len max) = 7
refused_status (ConflictingEnd previous_end conflicting_end) = 7
refused_status (AllocationFailure len) = 5

-- the answer for a rejected fragment
abbrev pub error_answer : IpDefragError → PoolAnswer
error_answer error = record empty_answer { fragment_refusal = fragment_refusal_number error }

-- ---- frames

-- A complete payload is returned. The status is 6, the payload is at the start of the buffer, whose other bytes are
-- unchanged, and none waits; or it is 3, the buffer, which is too small, is unchanged, and the payload waits.
abbrev pub ReturnsPayload : IpDefragPayloadVec → Option IpDefragPayloadVec → List ℕ → List ℕ → PoolAnswer → ℕ → Type 0
ReturnsPayload payload waiting old new answer status =
    let bytes = payload.payload.items in
    (answer ≡ payload_answer payload)
    × (((status ≡ 6) × (waiting ≡ None) × (length bytes ≤ length old) × (new ≡ bytes ++ drop (length bytes) old))
    ⊎ ((status ≡ 3) × (waiting ≡ Some payload) × (length old < length bytes) × (new ≡ old)))

-- Answer for the result of a pool in which no payload waited: the status is 0 if no payload is complete, 7 if the
-- fragment is rejected, and 5 if an allocation failed; otherwise the payload is returned.
abbrev pub IsPoolResultAnswer : Result (Option IpDefragPayloadVec) IpDefragError → Option IpDefragPayloadVec → List ℕ
    → List ℕ → PoolAnswer → ℕ → Type 0
IsPoolResultAnswer (Ok None) waiting old new answer status =
    (status ≡ 0) × (waiting ≡ None) × (new ≡ old) × (answer ≡ empty_answer)
IsPoolResultAnswer (Ok (Some payload)) waiting old new answer status =
    ReturnsPayload payload waiting old new answer status
IsPoolResultAnswer (Err error) waiting old new answer status =
    (status ≡ refused_status error) × (waiting ≡ None) × (new ≡ old) × (answer ≡ error_answer error)

-- A frame is passed to a pool in which no payload waits: either the bytes are not a frame, and the status is 1, or the
-- pool takes the frame, and its result is the answer.
abbrev pub IsPushed : Entry → List ℕ → ℕ → ℕ → State → State → List ℕ → List ℕ → PoolAnswer → ℕ → Type 0
IsPushed entry bytes timestamp channel old new old_buffer new_buffer answer status =
    ((status ≡ 1) × (new ≡ old) × (new_buffer ≡ old_buffer)
    × ((error : SliceError) × RefusesFrame entry bytes error
    × (answer ≡ record empty_answer { refusal = refusal_part error })))
    ⊎ ((layers : Layers) × IsFrame entry bytes layers
    × ((result : Result (Option IpDefragPayloadVec) IpDefragError)
    × TakesFrame nat_eq old.pool new.pool (option_map packet_fragment (fragment_of layers)) timestamp channel result
    × IsPoolResultAnswer result new.waiting old_buffer new_buffer answer status))

-- If the entry is unknown, the status is 2; otherwise, if a payload waits, it is 8. In both cases nothing is changed.
abbrev pub IsPushAnswerWith : Option Entry → Option IpDefragPayloadVec → List ℕ → ℕ → ℕ → State → State → List ℕ
    → List ℕ → PoolAnswer → ℕ → Type 0
IsPushAnswerWith None waiting bytes timestamp channel old new old_buffer new_buffer answer status =
    (status ≡ 2) × (new ≡ old) × (new_buffer ≡ old_buffer) × (answer ≡ empty_answer)
IsPushAnswerWith (Some entry) (Some payload) bytes timestamp channel old new old_buffer new_buffer answer status =
    (status ≡ 8) × (new ≡ old) × (new_buffer ≡ old_buffer) × (answer ≡ payload_answer payload)
IsPushAnswerWith (Some entry) None bytes timestamp channel old new old_buffer new_buffer answer status =
    IsPushed entry bytes timestamp channel old new old_buffer new_buffer answer status

abbrev pub IsPushAnswer : Option Entry → List ℕ → ℕ → ℕ → State → State → List ℕ → List ℕ → PoolAnswer → ℕ → Type 0
IsPushAnswer entry bytes timestamp channel old = IsPushAnswerWith entry old.waiting bytes timestamp channel old

-- ---- the waiting payload

-- The waiting payload is returned; if none waits, the status is 0, and nothing is changed.
abbrev pub IsTakenWith : Option IpDefragPayloadVec → Option IpDefragPayloadVec → List ℕ → List ℕ → PoolAnswer → ℕ
    → Type 0
IsTakenWith None waiting old_buffer new_buffer answer status =
    (status ≡ 0) × (waiting ≡ None) × (new_buffer ≡ old_buffer) × (answer ≡ empty_answer)
IsTakenWith (Some payload) waiting old_buffer new_buffer answer status =
    ReturnsPayload payload waiting old_buffer new_buffer answer status

-- Answer of a call that takes the waiting payload; the streams are unchanged.
abbrev pub IsTakeAnswer : State → State → List ℕ → List ℕ → PoolAnswer → ℕ → Type 0
IsTakeAnswer old new old_buffer new_buffer answer status =
    (new.pool ≡ old.pool) × IsTakenWith old.waiting new.waiting old_buffer new_buffer answer status

-- The waiting payload, if any, is discarded; the streams are unchanged.
pub record Discards (old new : State) : Type 0 where
  pub pool : new.pool ≡ old.pool
  pub waiting : new.waiting ≡ None

-- ---- sizes of a pool

-- A call returns a number of a pool, which is unchanged.
pub record ReturnsNumber {S : Type 0} (number_of : S → ℕ) (number : ℕ) (old new : S) : Type 0 where
  pub same : new ≡ old
  pub returned : number ≡ number_of old

-- the number of streams
abbrev pub streams_in : State → ℕ
streams_in state = length (streams_of state.pool)

-- the length of the waiting payload, 0 if none waits
abbrev pub waiting_len : Option IpDefragPayloadVec → ℕ
waiting_len None = 0
waiting_len (Some payload) = length payload.payload.items

-- the number of payload bytes, at most 2^64 - 1: of each stream up to its greatest end, and of the waiting payload
abbrev pub bytes_in : State → ℕ
bytes_in state = min (held_bytes_of state.pool + waiting_len state.waiting) (2 ^ 64 - 1)
