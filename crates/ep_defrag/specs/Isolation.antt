-- The answers to one stream among others, and payloads that arrive in cuts.
use Rattle.std.specs.Prelude.{◌≡◌, ℕ, ◌%◌, IsTrue, ◌⊎◌, Bool, Option, Some, None, IfSome, List, length, map, slice_get}
use Rattle.std.specs.Prelude.{take}
use Rattle.std.specs.List.{All, filter_map, items_where_true}
use Rattle.ep_defrag.specs.declared.ip_frag_id.IpFragId.{IpFragId}
use Rattle.ep_defrag.specs.IpFragments.{IpFragment, is_final}
use Rattle.ep_defrag.specs.PayloadCuts.{IsCut}
use Rattle.ep_defrag.specs.Calls.{Call, gives_frame, drops_streams, returns_buffer, Answer, fragment_refused}
use Rattle.ep_defrag.specs.Calls.{payload_returned, no_payload, streams_dropped, buffer_returned, concerns}
use Rattle.ep_defrag.specs.Calls.{calls_of, table_after}

-- answers to the calls that concern a stream, among the answers to all calls
abbrev pub answers_of : {T C V : Type 0} → (C → C → Bool) → IpFragId C → List (Call T C V) → List Answer → List Answer
answers_of eq name calls answers = items_where_true (map (concerns eq name) calls) answers

-- fragment of a call, if it carries one
abbrev pub fragment_of_call : {T C V : Type 0} → Call T C V → Option IpFragment
fragment_of_call (gives_frame None timestamp channel) = None
fragment_of_call (gives_frame (Some carried) timestamp channel) = Some carried.fragment
fragment_of_call (drops_streams value) = None
fragment_of_call returns_buffer = None

-- fragments of a list of calls, in their order
abbrev pub fragments_of : {T C V : Type 0} → List (Call T C V) → List IpFragment
fragments_of calls = filter_map fragment_of_call calls

-- Holds if the fragment of the call, if any, is a cut of the payload, and is final or has a multiple of 8 bytes.
abbrev pub GivesCut : {T C V : Type 0} → List ℕ → Call T C V → Type 0
GivesCut payload (gives_frame None timestamp channel) = Unit {0}
GivesCut payload (gives_frame (Some carried) timestamp channel) =
    IsCut payload carried.fragment × (IsTrue (is_final carried.fragment) ⊎ (length carried.fragment.bytes % 8 ≡ 0))
GivesCut payload (drops_streams value) = Unit {0}
GivesCut payload returns_buffer = Unit {0}

-- Holds if no drop of a list drops the stream while it is open: each drop keeps the timestamp that the stream then has.
abbrev pub StaysOpen : {T C V : Type 0} → ℕ → (C → C → Bool) → (V → T → Bool) → IpFragId C → List (Call T C V)
    → Type 0
StaysOpen {T} {C} {V} limit eq keep name calls = (at : ℕ) (value : V) → slice_get calls at ≡ Some (drops_streams value)
    → IfSome (table_after limit eq keep (take at calls) name) (λ kept. IsTrue (keep value kept.timestamp))

-- timestamp of a call with a fragment
abbrev pub time_of_call : {T C V : Type 0} → Call T C V → Option T
time_of_call (gives_frame None timestamp channel) = None
time_of_call (gives_frame (Some carried) timestamp channel) = Some timestamp
time_of_call (drops_streams value) = None
time_of_call returns_buffer = None

-- Holds if the call is no drop, or a drop that keeps each of these timestamps.
abbrev pub KeepsTimes : {T C V : Type 0} → (V → T → Bool) → List T → Call T C V → Type 0
KeepsTimes keep times (gives_frame carried timestamp channel) = Unit {0}
KeepsTimes keep times (drops_streams value) = All (λ timestamp. IsTrue (keep value timestamp)) times
KeepsTimes keep times returns_buffer = Unit {0}

-- Holds if each drop of a list keeps the timestamps of the stream's own fragments.
abbrev pub KeepsOwn : {T C V : Type 0} → (C → C → Bool) → (V → T → Bool) → IpFragId C → List (Call T C V) → Type 0
KeepsOwn eq keep name calls = All (KeepsTimes keep (filter_map time_of_call (calls_of eq name calls))) calls

-- Holds if the answer returns this payload.
abbrev pub ReturnsPayload : List ℕ → Answer → Type 0
ReturnsPayload payload (fragment_refused error) = ⊥
ReturnsPayload payload (payload_returned returned) = returned.bytes ≡ payload
ReturnsPayload payload no_payload = ⊥
ReturnsPayload payload streams_dropped = ⊥
ReturnsPayload payload buffer_returned = ⊥

-- Holds if the answer is no error, and returns no payload other than this.
abbrev pub ReturnsAtMost : List ℕ → Answer → Type 0
ReturnsAtMost payload (fragment_refused error) = ⊥
ReturnsAtMost payload (payload_returned returned) = returned.bytes ≡ payload
ReturnsAtMost payload no_payload = Unit {0}
ReturnsAtMost payload streams_dropped = Unit {0}
ReturnsAtMost payload buffer_returned = Unit {0}
