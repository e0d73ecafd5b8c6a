-- The streams that a pool holds, and its calls and answers as plain data.
use Rattle.std.specs.Prelude.{◌≡◌, ◌⊎◌, ℕ, ◌≤◌, ◌<◌, Bool, false, IsTrue, IsFalse, if◌then◌else◌, Option, Some, None}
use Rattle.std.specs.Prelude.{Result, Ok, Err, IfOk, IfErr, Vec, List, [], ◌∷◌, ◌++◌, length, take, map, slice_get}
use Rattle.std.specs.Option.{option_map}
use Rattle.std.specs.List.{All, HoldsAt, find, count_by, sum_by, items_where_true}
use Rattle.std.specs.List.Sorted.{IsPermutation}
use Rattle.std.specs.Fn.{Shared, FnReturnsAt}
use Rattle.std.proofs.Common.{Bor}
use Rattle.ep_packet.specs.declared.sliced_packet.SlicedPacket.{SlicedPacket}
use Rattle.ep_packet.specs.Layers.{layers_of}
use Rattle.ep_packet.specs.FrameFragments.{fragment_of}
use Rattle.ep_defrag.specs.declared.ip_defrag_error.IpDefragError.{IpDefragError}
use Rattle.ep_defrag.specs.declared.ip_defrag_error.IpDefragError.TheVariants.{AllocationFailure}
use Rattle.ep_defrag.specs.declared.ip_frag_range.IpFragRange.{IpFragRange}
use Rattle.ep_defrag.specs.declared.ip_frag_id.IpFragId.{IpFragId}
use Rattle.ep_defrag.specs.declared.ip_defrag_payload_vec.IpDefragPayloadVec.{IpDefragPayloadVec}
use Rattle.ep_defrag.specs.declared.ip_defrag_buf.IpDefragBuf.{IpDefragBuf}
use Rattle.ep_defrag.specs.declared.ip_defrag_pool.OpenStream.{OpenStream}
use Rattle.ep_defrag.specs.declared.ip_defrag_pool.IpDefragPool.{IpDefragPool}
use Rattle.ep_defrag.specs.declared.carried_fragment.CarriedFragment.{CarriedFragment}
use Rattle.ep_defrag.specs.declared.pool_run.PoolCall.{PoolCall}
use Rattle.ep_defrag.specs.declared.pool_run.PoolCall.TheVariants as call
use Rattle.ep_defrag.specs.declared.pool_run.PoolAnswer.{PoolAnswer}
use Rattle.ep_defrag.specs.declared.pool_run.PoolAnswer.TheVariants as answer
use Rattle.ep_defrag.specs.declared.run.RunStop.{RunStop}
use Rattle.ep_defrag.specs.IpFragments.{IpFragment, fragment_end, range_of, is_complete}
use Rattle.ep_defrag.specs.FragmentRefusals.{FitsWithin, FitInTurnWithin, RefusesWithin, MayNeedMemoryWithin}
use Rattle.ep_defrag.specs.FragmentRefusals.{is_allocation_failure}
use Rattle.ep_defrag.specs.Buffers.{HoldsFragments, IsUnchanged, ip_number_of, data_of, sections_of, known_end_of}
use Rattle.ep_defrag.specs.Buffers.{data_after, sections_after, end_after}
use Rattle.ep_defrag.specs.Capacities.{LacksCapacity}
use Rattle.ep_defrag.specs.Streams.{PacketFragment, packet_fragment, name_of, same_stream, source_of}
use Rattle.ep_defrag.specs.PayloadCuts.{IsCut}
use Rattle.ep_defrag.specs.Calls.{Kept, accepted_in, accepted_at, answer_with, answers_to, table_after}
use Rattle.ep_defrag.specs.Calls.{table_with_fragment, CallMayNeedMemory, IfPayloadReturned, Call, gives_frame, drops_streams}
use Rattle.ep_defrag.specs.Calls.{returns_buffer, Payload, Answer, fragment_refused, payload_returned}
use Rattle.ep_defrag.specs.Calls.{no_payload, streams_dropped, buffer_returned}

-- ---- the contents of a pool

-- a stream: its identifier, the buffer of its accepted fragments, and the timestamp of the last one
pub record Stream (T C : Type 0) : Type 0 where
  pub id : IpFragId C
  pub buffer : IpDefragBuf
  pub timestamp : T

-- limit of a pool; its model is the pair of the limit and the entries of the map
abbrev pub limit_of : {T C : Type 0} → IpDefragPool T C → ℕ
limit_of pool = pool.0

-- stream of an entry of the map
abbrev pub stream_at : {T C : Type 0} → IpFragId C × OpenStream T → Stream T C
stream_at entry = record { id = entry.0; buffer = entry.1.buffer; timestamp = entry.1.timestamp }

-- streams of a pool, in no particular order
abbrev pub streams_of : {T C : Type 0} → IpDefragPool T C → List (Stream T C)
streams_of pool = map stream_at pool.1

-- stream of an identifier, if it is open
abbrev pub stream_named : {T C : Type 0} → (C → C → Bool) → IpFragId C → IpDefragPool T C → Option (Stream T C)
stream_named eq name pool = find (λ stream. same_stream eq stream.id name) (streams_of pool)

-- number of bytes that the streams hold, each from 0 to its greatest end
abbrev pub held_bytes_of : {T C : Type 0} → IpDefragPool T C → ℕ
held_bytes_of pool = sum_by (λ stream. length (data_of stream.buffer)) (streams_of pool)

-- Holds if no two streams of the pool have equal identifiers.
abbrev pub NamesDiffer : {T C : Type 0} → (C → C → Bool) → IpDefragPool T C → Type 0
NamesDiffer {C = C} eq pool =
    (name : IpFragId C) → count_by (λ stream. same_stream eq stream.id name) (streams_of pool) ≤ 1

-- Holds if a stream has the accepted fragments in its buffer, of its protocol number, and the timestamp. There is at
-- least one fragment, and each fits within the limit.
pub record HoldsStream {T C : Type 0} (limit : ℕ) (stream : Stream T C) (kept : Kept T) : Type 0 where
  pub buffer : HoldsFragments stream.buffer kept.accepted
  pub within : FitInTurnWithin limit kept.accepted
  pub ip_number : ip_number_of stream.buffer ≡ stream.id.payload_ip_number
  pub timestamp : stream.timestamp ≡ kept.timestamp
  pub some : 0 < length kept.accepted

-- Holds if there is a stream exactly if the table has an entry, and the stream matches that entry.
abbrev pub HoldsEntry : {T C : Type 0} → ℕ → Option (Stream T C) → Option (Kept T) → Type 0
HoldsEntry limit None None = Unit {0}
HoldsEntry limit None (Some kept) = ⊥
HoldsEntry limit (Some stream) None = ⊥
HoldsEntry limit (Some stream) (Some kept) = HoldsStream limit stream kept

-- Holds if the pool has one stream for each entry of the table, and no others.
pub record HoldsTable {T C : Type 0} (eq : C → C → Bool) (pool : IpDefragPool T C)
    (table : IpFragId C → Option (Kept T)) : Type 0 where
  pub apart : NamesDiffer eq pool
  pub each : (name : IpFragId C) → HoldsEntry (limit_of pool) (stream_named eq name pool) (table name)

-- ---- changes by a fragment, in terms of the pool's contents

-- bytes reassembled so far, empty if the stream has not begun
abbrev pub data_in : {T C : Type 0} → Option (Stream T C) → List ℕ
data_in None = []
data_in (Some stream) = data_of stream.buffer

-- filled ranges of a stream, none if it has not begun
abbrev pub sections_in : {T C : Type 0} → Option (Stream T C) → List IpFragRange
sections_in None = []
sections_in (Some stream) = sections_of stream.buffer

-- known end of a stream, none if it has not begun
abbrev pub end_in : {T C : Type 0} → Option (Stream T C) → Option ℕ
end_in None = None
end_in (Some stream) = known_end_of stream.buffer

-- Holds if the stream is unchanged, or was and is not open.
abbrev pub IsSameEntry : {T C : Type 0} → Option (Stream T C) → Option (Stream T C) → Type 0
IsSameEntry None None = Unit {0}
IsSameEntry None (Some new) = ⊥
IsSameEntry (Some old) None = ⊥
IsSameEntry (Some old) (Some new) =
    (new.id ≡ old.id) × IsUnchanged old.buffer new.buffer × (new.timestamp ≡ old.timestamp)

-- Holds if the stream has its former contents and this fragment.
pub record IsExtendedBy {T C : Type 0} (old : Option (Stream T C)) (fragment : IpFragment) (time : T)
    (new : Stream T C) : Type 0 where
  pub contents : data_of new.buffer ≡ data_after (data_in old) fragment
  pub sections : IsPermutation (sections_of new.buffer) (sections_after (range_of fragment) (sections_in old))
  pub end : known_end_of new.buffer ≡ end_after (end_in old) fragment
  pub timestamp : new.timestamp ≡ time

-- Holds if the stream is open, and has its former contents and this fragment.
abbrev pub IsExtendedEntry : {T C : Type 0} → Option (Stream T C) → IpFragment → T → Option (Stream T C) → Type 0
IsExtendedEntry old fragment timestamp None = ⊥
IsExtendedEntry old fragment timestamp (Some new) = IsExtendedBy old fragment timestamp new

-- Holds if the stream of a fragment changes as the answer requires: it is unchanged after an error; it has the
-- fragment; or it has ended, and its payload with the fragment is returned.
abbrev pub BecomesEntry : {T C : Type 0} → Result (Option IpDefragPayloadVec) IpDefragError → Option (Stream T C)
    → IpFragment → T → Option (Stream T C) → Type 0
BecomesEntry (Err error) old fragment timestamp new = IsSameEntry old new
BecomesEntry (Ok None) old fragment timestamp new = IsExtendedEntry old fragment timestamp new
BecomesEntry (Ok (Some payload)) old fragment timestamp new =
    (new ≡ None) × (payload.payload.items ≡ data_after (data_in old) fragment)

-- ---- drops

-- Holds if these are answers of a drop to the timestamps of the streams, one for each, in turn.
abbrev pub AnswersEach : {F T C : Type 0} → Shared F (Bor T × Unit {0}) Bool → F → List (Stream T C) → List Bool
    → Type 0
AnswersEach calls keep [] [] = Unit {0}
AnswersEach calls keep [] (answer ∷ answers) = ⊥
AnswersEach calls keep (stream ∷ streams) [] = ⊥
AnswersEach calls keep (stream ∷ streams) (answer ∷ answers) =
    FnReturnsAt calls keep stream.timestamp answer × AnswersEach calls keep streams answers

-- Holds if exactly the streams that the drop answered with true remain, and the limit is unchanged.
pub record LeavesAnswered {F T C : Type 0} (calls : Shared F (Bor T × Unit {0}) Bool) (keep : F)
    (old new : IpDefragPool T C) : Type 0 where
  pub answers : List Bool
  pub each : AnswersEach calls keep (streams_of old) answers
  pub left : streams_of new ≡ items_where_true answers (streams_of old)
  pub limit : limit_of new ≡ limit_of old

-- Holds if the new pool has the entries that remain. An answer of the drop to the entry's timestamp decides each.
pub record HoldsAnswered {F T C : Type 0} (eq : C → C → Bool) (calls : Shared F (Bor T × Unit {0}) Bool) (keep : F)
    (table : IpFragId C → Option (Kept T)) (new : IpDefragPool T C) : Type 0 where
  pub stays : IpFragId C → Bool
  pub each : (name : IpFragId C) (kept : Kept T) → table name ≡ Some kept
      → FnReturnsAt calls keep kept.timestamp (stays name)
  pub holds : HoldsTable eq new (λ name. if stays name then table name else None)

-- Holds if the answers of a drop are this function of the timestamp.
abbrev pub IsAnsweredBy : {F T : Type 0} → Shared F (Bor T × Unit {0}) Bool → F → (T → Bool) → Type 0
IsAnsweredBy {F} {T} calls keep answers =
    (timestamp : Bor T) (answer : Bool) → calls.post keep (timestamp, tt) answer → answer ≡ answers timestamp.now

-- Holds if the answers of a list's drops are this function of the drop's value and the timestamp.
abbrev pub IsDecidedBy : {F V T : Type 0} → Shared F (Bor V × (Bor T × Unit {0})) Bool → F → (V → T → Bool) → Type 0
IsDecidedBy {F} {V} {T} calls keep decide = (value : Bor V) (timestamp : Bor T) (answer : Bool)
    → calls.post keep (value, (timestamp, tt)) answer → answer ≡ decide value.now timestamp.now

-- ---- calls and answers as plain data

-- fragment that the layers of a packet carry
abbrev pub fragment_in : SlicedPacket → Option PacketFragment
fragment_in packet = option_map packet_fragment (fragment_of (layers_of packet))

-- a carried fragment as plain data
abbrev pub shown_fragment : CarriedFragment → PacketFragment
shown_fragment carried = record {
  vlan_ids = carried.vlan_ids.items;
  ip = carried.ip;
  payload_ip_number = carried.payload_ip_number;
  fragment = carried.fragment;
}

-- a call as plain data
abbrev pub plain_call : {T C V : Type 0} → PoolCall T C V → Call T C V
plain_call (call.Frame packet timestamp channel) = gives_frame (fragment_in packet) timestamp channel
plain_call (call.Drop value) = drops_streams value
plain_call (call.Return buffer) = returns_buffer

-- a payload as plain data
abbrev pub plain_payload : IpDefragPayloadVec → Payload
plain_payload payload = record {
  ip_number = payload.ip_number;
  len_source = payload.len_source;
  bytes = payload.payload.items;
}

-- the answer to a frame as plain data
abbrev pub plain_frame_answer : Result (Option IpDefragPayloadVec) IpDefragError → Answer
plain_frame_answer (Ok None) = no_payload
plain_frame_answer (Ok (Some payload)) = payload_returned (plain_payload payload)
plain_frame_answer (Err error) = fragment_refused error

-- the answer to a call as plain data
abbrev pub plain_answer : PoolAnswer → Answer
plain_answer (answer.Frame result) = plain_frame_answer result
plain_answer answer.Dropped = streams_dropped
plain_answer answer.Returned = buffer_returned

-- whether a result is an allocation failure
abbrev pub is_allocation_failure_in : {X : Type 0} → Result X IpDefragError → Bool
is_allocation_failure_in (Ok value) = false
is_allocation_failure_in (Err error) = is_allocation_failure error

-- whether an answer is an allocation failure, as only that to a frame can be
abbrev pub answer_is_allocation_failure : PoolAnswer → Bool
answer_is_allocation_failure (answer.Frame result) = is_allocation_failure_in result
answer_is_allocation_failure answer.Dropped = false
answer_is_allocation_failure answer.Returned = false

-- ---- the effect of a fragment on a pool

-- Holds if a pool processes a fragment of a stream with this result.
pub record TakesFragment {T C : Type 0} (eq : C → C → Bool) (old new : IpDefragPool T C) (id : IpFragId C)
    (fragment : IpFragment) (timestamp : T) (result : Result (Option IpDefragPayloadVec) IpDefragError) : Type 0 where
  -- The fragment is answered as if its stream were alone, and only the entry of that stream changes.
  pub answer : IsFalse (is_allocation_failure_in result) → (table : IpFragId C → Option (Kept T))
      → HoldsTable eq old table
      → plain_frame_answer result ≡ answer_with (limit_of old) id (table id) fragment
  pub holds : IsFalse (is_allocation_failure_in result) → (table : IpFragId C → Option (Kept T))
      → HoldsTable eq old table
      → HoldsTable eq new (table_with_fragment (limit_of old) eq table id fragment timestamp)
  -- An allocation can fail only for a fragment that fits and is not in place, and this changes nothing.
  pub memory : IsTrue (is_allocation_failure_in result) → (table : IpFragId C → Option (Kept T))
      → HoldsTable eq old table
      → MayNeedMemoryWithin (limit_of old) (accepted_in (table id)) fragment
      × (result ≡ Err (AllocationFailure (fragment_end fragment)))
  pub keeps : IsTrue (is_allocation_failure_in result) → (table : IpFragId C → Option (Kept T))
      → HoldsTable eq old table
      → HoldsTable eq new table
  -- In an open stream it fails only if the buffer's capacity is too small.
  pub lacks_capacity : IsTrue (is_allocation_failure_in result) → (stream : Stream T C)
      → stream_named eq id old ≡ Some stream
      → LacksCapacity stream.buffer fragment
  -- The limit is unchanged.
  pub limit : limit_of new ≡ limit_of old
  -- The entry and the other streams, in terms of the pool's contents.
  pub entry : NamesDiffer eq old
      → BecomesEntry result (stream_named eq id old) fragment timestamp (stream_named eq id new)
  pub others : (name : IpFragId C) → IsFalse (same_stream eq id name)
      → stream_named eq name new ≡ stream_named eq name old

-- Holds if a pool processes a packet with this result. A packet without a fragment changes nothing.
abbrev pub TakesFrame : {T C : Type 0} → (C → C → Bool) → IpDefragPool T C → IpDefragPool T C → Option PacketFragment
    → T → C → Result (Option IpDefragPayloadVec) IpDefragError → Type 0
TakesFrame eq old new None timestamp channel result = (result ≡ Ok None) × (new ≡ old)
TakesFrame eq old new (Some carried) timestamp channel result =
    TakesFragment eq old new (name_of carried channel) carried.fragment timestamp result

-- ---- the steps of processing

-- Holds if a buffer accepts a fragment.
pub record BufferTakes (limit : ℕ) (old new : IpDefragBuf) (fragment : IpFragment) : Type 0 where
  pub fits : (accepted : List IpFragment) → HoldsFragments old accepted → FitsWithin limit accepted fragment
  pub holds : (accepted : List IpFragment) → HoldsFragments old accepted
      → HoldsFragments new (accepted ++ fragment ∷ [])
  pub contents : data_of new ≡ data_after (data_of old) fragment
  pub sections : IsPermutation (sections_of new) (sections_after (range_of fragment) (sections_of old))
  pub end : known_end_of new ≡ end_after (known_end_of old) fragment
  pub ip_number : ip_number_of new ≡ ip_number_of old

-- Holds if a buffer rejects a fragment, or an allocation for it fails.
pub record BufferRefuses (limit : ℕ) (old new : IpDefragBuf) (fragment : IpFragment) (error : IpDefragError)
    : Type 0 where
  pub why : (accepted : List IpFragment) → HoldsFragments old accepted
      → RefusesWithin limit accepted fragment error
      ⊎ (MayNeedMemoryWithin limit accepted fragment × (error ≡ AllocationFailure (fragment_end fragment)))
  pub keeps : (accepted : List IpFragment) → HoldsFragments old accepted → HoldsFragments new accepted
  pub same : IsUnchanged old new
  pub lacks_capacity : IsTrue (is_allocation_failure error) → LacksCapacity old fragment

-- Holds if `complete` is whether the fragments of the buffer are complete.
abbrev pub IsWhetherComplete : IpDefragBuf → Bool → Type 0
IsWhetherComplete buffer complete =
    (accepted : List IpFragment) → HoldsFragments buffer accepted → is_complete accepted ≡ complete

-- Holds if the stream of an identifier is now this one, or none, and no other stream has changed.
pub record ChangesStream {T C : Type 0} (eq : C → C → Bool) (old new : IpDefragPool T C) (name : IpFragId C)
    (stream : Option (Stream T C)) : Type 0 where
  pub here : stream_named eq name new ≡ stream
  pub others : (other : IpFragId C) → IsFalse (same_stream eq name other)
      → stream_named eq other new ≡ stream_named eq other old
  pub apart : NamesDiffer eq new
  pub limit : limit_of new ≡ limit_of old

-- payload that a stream holds
abbrev pub payload_in : {T C : Type 0} → IpFragId C → Stream T C → Payload
payload_in name stream = record {
  ip_number = name.payload_ip_number;
  len_source = source_of name.ip;
  bytes = data_of stream.buffer;
}

-- ---- a list of calls

-- Holds if a run of calls on a new pool of a limit, with `keep` deciding drops, has this result.
pub record RunsCalls {F T C V A : Type 0} (asks : Shared F (Bor V × (Bor T × Unit {0})) Bool) (keep : F)
    (eq : C → C → Bool) (max : ℕ) (calls : List (PoolCall T C V))
    (result : Result (Vec PoolAnswer A × IpDefragPool T C) RunStop) : Type 0 where
  -- The answers and the contents of the pool, if drops are decided by a function of value and timestamp.
  pub answers : IfOk result (λ run. (decide : V → T → Bool) → IsDecidedBy asks keep decide
      → map plain_answer run.0.items ≡ answers_to max eq decide (map plain_call calls))
  pub holds : IfOk result (λ run. (decide : V → T → Bool) → IsDecidedBy asks keep decide
      → HoldsTable eq run.1 (table_after max eq decide (map plain_call calls)))
  pub limit : IfOk result (λ run. limit_of run.1 ≡ max)
  -- If all fragments of a stream since it last began are cuts of one payload, the payload returned is that payload.
  pub cuts : IfOk result (λ run. (decide : V → T → Bool) → IsDecidedBy asks keep decide
      → (at : ℕ) (call : PoolCall T C V) (answer : PoolAnswer)
      → slice_get calls at ≡ Some call → slice_get run.0.items at ≡ Some answer
      → (payload : List ℕ) → All (IsCut payload)
      (accepted_at (table_after max eq decide (map plain_call (take at calls))) (plain_call call))
      → IfPayloadReturned (plain_answer answer) (λ returned. returned.bytes ≡ payload))
  -- No answer is an allocation failure, and a run that stops after the first call stops at a frame whose fragment fits
  -- and is not in place.
  pub no_memory : IfOk result (λ run. All (λ answer. IsFalse (answer_is_allocation_failure answer)) run.0.items)
  pub within : IfErr result (λ stop. stop.at < length calls)
  pub stopped : IfErr result (λ stop. 0 < stop.at → (decide : V → T → Bool) → IsDecidedBy asks keep decide
      → HoldsAt (λ call. CallMayNeedMemory max (table_after max eq decide (map plain_call (take stop.at calls)))
      (plain_call call)) calls stop.at)
