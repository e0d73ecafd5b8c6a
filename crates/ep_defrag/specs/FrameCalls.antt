-- Frames of bytes among the calls on a pool: how each call is read, and the answer to it. A frame is read by its entry
-- and its bytes alone, as the layers of a packet or as a slice error.
use Rattle.std.specs.Prelude.{◌≡◌, ℕ, Bool, false, Option, Result, Ok, Err, List, [], ◌∷◌, ◌++◌}
use Rattle.std.specs.List.{AllZip}
use Rattle.std.specs.Option.{option_map}
use Rattle.ep_base.specs.Bytes.{AreBytes}
use Rattle.ep_packet.specs.declared.err.slice_error.SliceError.{SliceError}
use Rattle.ep_packet.specs.Layers.{Layers}
use Rattle.ep_packet.specs.Frame.{IsFrame}
use Rattle.ep_packet.specs.FrameRefusals.{RefusesFrame}
use Rattle.ep_packet.specs.FrameFragments.{fragment_of}
use Rattle.ep_defrag.specs.declared.ip_frag_id.IpFragId.{IpFragId}
use Rattle.ep_defrag.specs.declared.pool_run.PoolCall.{PoolCall}
use Rattle.ep_defrag.specs.declared.frame_run.FrameCall.{FrameCall}
use Rattle.ep_defrag.specs.declared.frame_run.FrameCall.TheVariants as call
use Rattle.ep_defrag.specs.declared.frame_run.FrameAnswer.{FrameAnswer}
use Rattle.ep_defrag.specs.declared.frame_run.FrameAnswer.TheVariants as answer
use Rattle.ep_defrag.specs.Streams.{packet_fragment}
use Rattle.ep_defrag.specs.Calls.{Call, gives_frame, drops_streams, returns_buffer, Kept, table_after, table_with}
use Rattle.ep_defrag.specs.Calls.{Answer, answer_to, CallMayNeedMemory, Payload, IfPayloadReturned}
use Rattle.ep_defrag.specs.Pools.{plain_call, plain_answer, answer_is_allocation_failure}

-- A call after its frame is read: a call on the pool, or a frame that is rejected with this error.
pub data ReadCall (T C V : Type 0) : Type 0 where
  calls_pool : Call T C V → ReadCall T C V
  refuses_frame : SliceError → ReadCall T C V

-- Holds if a frame is read as its layers, with the fragment that they carry, or as rejected; other calls are unchanged.
abbrev pub IsReadAs : {T C V : Type 0} → FrameCall T C V → ReadCall T C V → Type 0
IsReadAs (call.Frame entry bytes timestamp channel) (calls_pool brought) =
    (layers : Layers) × IsFrame entry bytes.now layers
    × (brought ≡ gives_frame (option_map packet_fragment (fragment_of layers)) timestamp channel)
IsReadAs (call.Frame entry bytes timestamp channel) (refuses_frame error) = RefusesFrame entry bytes.now error
IsReadAs (call.Drop value) read = read ≡ calls_pool (drops_streams value)
IsReadAs (call.Return buffer) read = read ≡ calls_pool returns_buffer

-- Holds if each call of the first list is read as the call of the second.
abbrev pub AreReadAs : {T C V : Type 0} → List (FrameCall T C V) → List (ReadCall T C V) → Type 0
AreReadAs calls reads = AllZip IsReadAs calls reads

-- Holds if each call of a list is read in some way.
abbrev pub AreRead : {T C V : Type 0} → List (FrameCall T C V) → Type 0
AreRead {T} {C} {V} calls = (reads : List (ReadCall T C V)) × AreReadAs calls reads

-- calls on the pool, in their order, without rejected frames
abbrev pub pool_calls : {T C V : Type 0} → List (ReadCall T C V) → List (Call T C V)
pool_calls [] = []
pool_calls (calls_pool brought ∷ reads) = brought ∷ pool_calls reads
pool_calls (refuses_frame error ∷ reads) = pool_calls reads

-- answer to a call: the error of a rejected frame, or the pool's answer
pub data ReadAnswer : Type 0 where
  not_sliced : SliceError → ReadAnswer
  pool_answers : Answer → ReadAnswer

-- answer to a call on a pool with this table
abbrev pub read_answer_to : {T C V : Type 0} → ℕ → (IpFragId C → Option (Kept T)) → ReadCall T C V → ReadAnswer
read_answer_to limit table (calls_pool brought) = pool_answers (answer_to limit table brought)
read_answer_to limit table (refuses_frame error) = not_sliced error

-- answer to each call, after the earlier ones on a new pool
abbrev pub frame_answers_after : {T C V : Type 0} → ℕ → (C → C → Bool) → (V → T → Bool) → List (Call T C V)
    → List (ReadCall T C V) → List ReadAnswer
frame_answers_after limit eq keep earlier [] = []
frame_answers_after limit eq keep earlier (calls_pool brought ∷ reads) =
    pool_answers (answer_to limit (table_after limit eq keep earlier) brought)
    ∷ frame_answers_after limit eq keep (earlier ++ brought ∷ []) reads
frame_answers_after limit eq keep earlier (refuses_frame error ∷ reads) =
    not_sliced error ∷ frame_answers_after limit eq keep earlier reads

-- answer to each of a list of calls on a new pool
abbrev pub frame_answers_to : {T C V : Type 0} → ℕ → (C → C → Bool) → (V → T → Bool) → List (ReadCall T C V)
    → List ReadAnswer
frame_answers_to limit eq keep reads = frame_answers_after limit eq keep [] reads

-- the pool's answers among these, in their order
abbrev pub pool_answers_in : List ReadAnswer → List Answer
pool_answers_in [] = []
pool_answers_in (not_sliced error ∷ answers) = pool_answers_in answers
pool_answers_in (pool_answers given ∷ answers) = given ∷ pool_answers_in answers

-- Holds if the answer returns no payload, or its payload has the property.
abbrev pub IfFramePayloadReturned : ReadAnswer → (Payload → Type 0) → Type 0
IfFramePayloadReturned (not_sliced error) holds = Unit {0}
IfFramePayloadReturned (pool_answers given) holds = IfPayloadReturned given holds

-- Holds if an allocation for a call may fail: it is read as such a call on the pool.
abbrev pub FrameCallMayNeedMemory : {T C V : Type 0} → ℕ → (IpFragId C → Option (Kept T)) → FrameCall T C V → Type 0
FrameCallMayNeedMemory {T} {C} {V} limit table call =
    (brought : Call T C V) × IsReadAs call (calls_pool brought) × CallMayNeedMemory limit table brought

-- an answer as plain data
abbrev pub read_answer : FrameAnswer → ReadAnswer
read_answer (answer.NotSliced error) = not_sliced error
read_answer (answer.Pool given) = pool_answers (plain_answer given)

-- whether an answer is an allocation failure of the pool
abbrev pub frame_answer_is_allocation_failure : FrameAnswer → Bool
frame_answer_is_allocation_failure (answer.NotSliced error) = false
frame_answer_is_allocation_failure (answer.Pool given) = answer_is_allocation_failure given

-- ---- one call

-- Holds if each byte of a call's frame is below 256.
abbrev pub HasBytes : {T C V : Type 0} → FrameCall T C V → Type 0
HasBytes (call.Frame entry bytes timestamp channel) = AreBytes bytes.now
HasBytes (call.Drop value) = Unit {0}
HasBytes (call.Return buffer) = Unit {0}

-- Holds if a call is read in this way, and in no other.
pub record IsOnlyRead {T C V : Type 0} (call : FrameCall T C V) (read : ReadCall T C V) : Type 0 where
  pub is : IsReadAs call read
  pub only : (other : ReadCall T C V) → IsReadAs call other → other ≡ read

-- call that the result of slicing its frame is read as
abbrev pub read_of : {T C V : Type 0} → Result (PoolCall T C V) SliceError → ReadCall T C V
read_of (Ok brought) = calls_pool (plain_call brought)
read_of (Err error) = refuses_frame error

-- table after one more call
abbrev pub table_with_read : {T C V : Type 0} → ℕ → (C → C → Bool) → (V → T → Bool)
    → (IpFragId C → Option (Kept T)) → ReadCall T C V → IpFragId C → Option (Kept T)
table_with_read limit eq keep table (calls_pool brought) = table_with limit eq keep table brought
table_with_read limit eq keep table (refuses_frame error) = table
