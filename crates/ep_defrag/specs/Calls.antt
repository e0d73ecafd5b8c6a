-- The effect of a list of calls on one stream, and the answer to each call. `T` is the type of timestamps, `C` that of
-- channels, which `eq` compares, and `V` that of the values of drops; a drop keeps a stream if `keep` of its value and
-- the stream's timestamp is true. No accepted fragment ends above the limit.
use Rattle.std.specs.Prelude.{ℕ, Bool, true, false, if◌then◌else◌, Option, Some, None, List, [], ◌∷◌, ◌++◌}
use Rattle.std.specs.List.{filter}
use Rattle.ep_base.specs.declared.ip_number.IpNumber.{IpNumber}
use Rattle.ep_base.specs.declared.len_source.LenSource.{LenSource}
use Rattle.ep_defrag.specs.declared.ip_defrag_error.IpDefragError.{IpDefragError}
use Rattle.ep_defrag.specs.declared.ip_frag_id.IpFragId.{IpFragId}
use Rattle.ep_defrag.specs.IpFragments.{IpFragment, assembled, is_complete}
use Rattle.ep_defrag.specs.FragmentRefusals.{refusal_within, MayNeedMemoryWithin}
use Rattle.ep_defrag.specs.Streams.{PacketFragment, name_of, same_stream, source_of}

-- A call: a frame, with its fragment, if any, its timestamp and its channel; a drop, with its value; or a buffer that
-- is returned to the pool.
pub data Call (T C V : Type 0) : Type 0 where
  gives_frame : Option PacketFragment → T → C → Call T C V
  drops_streams : V → Call T C V
  returns_buffer : Call T C V

-- An open stream: the fragments accepted since it began, in their order, and the timestamp of the last one.
pub record Kept (T : Type 0) : Type 0 where
  pub accepted : List IpFragment
  pub timestamp : T

-- accepted fragments of a stream, empty if it is not open
abbrev pub accepted_in : {T : Type 0} → Option (Kept T) → List IpFragment
accepted_in None = []
accepted_in (Some kept) = kept.accepted

-- stream after these accepted fragments, the last at this time: none if they are complete
abbrev pub kept_of : {T : Type 0} → List IpFragment → T → Option (Kept T)
kept_of accepted timestamp =
    if is_complete accepted then None else Some (record { accepted = accepted; timestamp = timestamp })

-- stream after a fragment and the result of its check: a rejected fragment changes nothing, any other is appended and
-- sets the timestamp, and the stream ends if it is then complete
abbrev pub kept_unless : {T : Type 0} → Option IpDefragError → Option (Kept T) → IpFragment → T → Option (Kept T)
kept_unless (Some error) kept fragment timestamp = kept
kept_unless None kept fragment timestamp = kept_of (accepted_in kept ++ fragment ∷ []) timestamp

-- stream after a fragment, checked by the refusal table of this limit
abbrev pub kept_with : {T : Type 0} → ℕ → Option (Kept T) → IpFragment → T → Option (Kept T)
kept_with limit kept fragment timestamp =
    kept_unless (refusal_within limit (accepted_in kept) fragment) kept fragment timestamp

-- stream after a drop: none if the drop answers its timestamp with false
abbrev pub kept_by : {T : Type 0} → (T → Bool) → Option (Kept T) → Option (Kept T)
kept_by answers None = None
kept_by answers (Some kept) = if answers kept.timestamp then Some kept else None

-- stream after a call that concerns it
abbrev pub kept_after : {T C V : Type 0} → ℕ → (V → T → Bool) → Option (Kept T) → Call T C V → Option (Kept T)
kept_after limit keep kept (gives_frame None timestamp channel) = kept
kept_after limit keep kept (gives_frame (Some carried) timestamp channel) =
    kept_with limit kept carried.fragment timestamp
kept_after limit keep kept (drops_streams value) = kept_by (keep value) kept
kept_after limit keep kept returns_buffer = kept

-- stream after calls that concern it, in their order
abbrev pub kept_after_all : {T C V : Type 0} → ℕ → (V → T → Bool) → Option (Kept T) → List (Call T C V)
    → Option (Kept T)
kept_after_all limit keep kept [] = kept
kept_after_all limit keep kept (call ∷ calls) = kept_after_all limit keep (kept_after limit keep kept call) calls

-- stream after all calls that concern it, on a new pool
abbrev pub accepted_by : {T C V : Type 0} → ℕ → (V → T → Bool) → List (Call T C V) → Option (Kept T)
accepted_by limit keep calls = kept_after_all limit keep None calls

-- whether a call concerns a stream: a frame with a fragment of that stream, or any drop
abbrev pub concerns : {T C V : Type 0} → (C → C → Bool) → IpFragId C → Call T C V → Bool
concerns eq name (gives_frame None timestamp channel) = false
concerns eq name (gives_frame (Some carried) timestamp channel) = same_stream eq (name_of carried channel) name
concerns eq name (drops_streams value) = true
concerns eq name returns_buffer = false

-- calls that concern a stream, in their order
abbrev pub calls_of : {T C V : Type 0} → (C → C → Bool) → IpFragId C → List (Call T C V) → List (Call T C V)
calls_of eq name calls = filter (concerns eq name) calls

-- each stream after a list of calls on a new pool, as a function of the calls that concern that stream alone
abbrev pub table_after : {T C V : Type 0} → ℕ → (C → C → Bool) → (V → T → Bool) → List (Call T C V)
    → IpFragId C → Option (Kept T)
table_after limit eq keep calls name = accepted_by limit keep (calls_of eq name calls)

-- a reassembled payload, as a pool returns it
pub record Payload : Type 0 where
  pub ip_number : IpNumber
  pub len_source : LenSource
  pub bytes : List ℕ

-- payload of a stream, reassembled from these fragments
abbrev pub payload_of : {C : Type 0} → IpFragId C → List IpFragment → Payload
payload_of name accepted = record {
  ip_number = name.payload_ip_number;
  len_source = source_of name.ip;
  bytes = assembled accepted;
}

-- answer to a call
pub data Answer : Type 0 where
  fragment_refused : IpDefragError → Answer
  payload_returned : Payload → Answer
  no_payload : Answer
  streams_dropped : Answer
  buffer_returned : Answer

-- answer to a fragment of a stream: its error, or the payload if the stream is then complete, or nothing
abbrev pub answer_unless : {C : Type 0} → Option IpDefragError → IpFragId C → List IpFragment → Answer
answer_unless (Some error) name accepted = fragment_refused error
answer_unless None name accepted =
    if is_complete accepted then payload_returned (payload_of name accepted) else no_payload

-- answer to a fragment of a stream in this state, within this limit
abbrev pub answer_with : {T C : Type 0} → ℕ → IpFragId C → Option (Kept T) → IpFragment → Answer
answer_with limit name kept fragment =
    answer_unless (refusal_within limit (accepted_in kept) fragment) name (accepted_in kept ++ fragment ∷ [])

-- answer to a frame: nothing if it carries no fragment
abbrev pub answer_to_frame : {T C : Type 0} → ℕ → (IpFragId C → Option (Kept T)) → Option PacketFragment → C → Answer
answer_to_frame limit table None channel = no_payload
answer_to_frame limit table (Some carried) channel =
    answer_with limit (name_of carried channel) (table (name_of carried channel)) carried.fragment

-- answer to a call on a pool with this table
abbrev pub answer_to : {T C V : Type 0} → ℕ → (IpFragId C → Option (Kept T)) → Call T C V → Answer
answer_to limit table (gives_frame carried timestamp channel) = answer_to_frame limit table carried channel
answer_to limit table (drops_streams value) = streams_dropped
answer_to limit table returns_buffer = buffer_returned

-- answer to each call, after the earlier ones on a new pool
abbrev pub answers_after : {T C V : Type 0} → ℕ → (C → C → Bool) → (V → T → Bool) → List (Call T C V)
    → List (Call T C V) → List Answer
answers_after limit eq keep earlier [] = []
answers_after limit eq keep earlier (call ∷ calls) =
    answer_to limit (table_after limit eq keep earlier) call ∷ answers_after limit eq keep (earlier ++ call ∷ []) calls

-- answer to each of a list of calls on a new pool
abbrev pub answers_to : {T C V : Type 0} → ℕ → (C → C → Bool) → (V → T → Bool) → List (Call T C V) → List Answer
answers_to limit eq keep calls = answers_after limit eq keep [] calls

-- table after one more fragment: only the entry of its stream changes
abbrev pub table_with_fragment : {T C : Type 0} → ℕ → (C → C → Bool) → (IpFragId C → Option (Kept T))
    → IpFragId C → IpFragment → T → IpFragId C → Option (Kept T)
table_with_fragment limit eq table id fragment timestamp name =
    if same_stream eq id name then kept_with limit (table name) fragment timestamp else table name

-- table after one more frame: unchanged if it carries no fragment
abbrev pub table_with_frame : {T C : Type 0} → ℕ → (C → C → Bool) → (IpFragId C → Option (Kept T))
    → Option PacketFragment → T → C → IpFragId C → Option (Kept T)
table_with_frame limit eq table None timestamp channel = table
table_with_frame limit eq table (Some carried) timestamp channel =
    table_with_fragment limit eq table (name_of carried channel) carried.fragment timestamp

-- table after one more call
abbrev pub table_with : {T C V : Type 0} → ℕ → (C → C → Bool) → (V → T → Bool) → (IpFragId C → Option (Kept T))
    → Call T C V → IpFragId C → Option (Kept T)
table_with limit eq keep table (gives_frame carried timestamp channel) =
    table_with_frame limit eq table carried timestamp channel
table_with limit eq keep table (drops_streams value) = λ name. kept_by (keep value) (table name)
table_with limit eq keep table returns_buffer = table

-- Holds if an allocation for a frame may fail: it carries a fragment that fits and is not in place.
abbrev pub FrameMayNeedMemory : {T C : Type 0} → ℕ → (IpFragId C → Option (Kept T)) → Option PacketFragment → C
    → Type 0
FrameMayNeedMemory limit table None channel = ⊥
FrameMayNeedMemory limit table (Some carried) channel =
    MayNeedMemoryWithin limit (accepted_in (table (name_of carried channel))) carried.fragment

-- Holds if an allocation for a call may fail: it passes such a frame.
abbrev pub CallMayNeedMemory : {T C V : Type 0} → ℕ → (IpFragId C → Option (Kept T)) → Call T C V → Type 0
CallMayNeedMemory limit table (gives_frame carried timestamp channel) =
    FrameMayNeedMemory limit table carried channel
CallMayNeedMemory limit table (drops_streams value) = ⊥
CallMayNeedMemory limit table returns_buffer = ⊥

-- fragments of a call's stream since it last began, with the call's own; none if the call carries no fragment
abbrev pub accepted_at : {T C V : Type 0} → (IpFragId C → Option (Kept T)) → Call T C V → List IpFragment
accepted_at table (gives_frame None timestamp channel) = []
accepted_at table (gives_frame (Some carried) timestamp channel) =
    accepted_in (table (name_of carried channel)) ++ carried.fragment ∷ []
accepted_at table (drops_streams value) = []
accepted_at table returns_buffer = []

-- Holds if the answer returns no payload, or its payload has the property.
abbrev pub IfPayloadReturned : Answer → (Payload → Type 0) → Type 0
IfPayloadReturned (fragment_refused error) holds = Unit {0}
IfPayloadReturned (payload_returned payload) holds = holds payload
IfPayloadReturned no_payload holds = Unit {0}
IfPayloadReturned streams_dropped holds = Unit {0}
IfPayloadReturned buffer_returned holds = Unit {0}
