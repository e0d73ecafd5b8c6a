-- Lists of calls on a new bounded pool, and the corresponding lists of calls on an unbounded pool.
use Rattle.std.specs.Prelude.{◌≡◌, ℕ, ◌+◌, Bool, true, false, not, ◌&&◌, ◌==◌, if◌then◌else◌, Option, Some, None}
use Rattle.std.specs.Prelude.{List, [], ◌∷◌, ◌++◌, map}
use Rattle.std.specs.List.{filter}
use Rattle.ep_defrag.specs.declared.ip_defrag_error.IpDefragError.{IpDefragError}
use Rattle.ep_defrag.specs.declared.ip_frag_id.IpFragId.{IpFragId}
use Rattle.ep_defrag.specs.declared.bounded_limits.DefragLimits.{DefragLimits}
use Rattle.ep_defrag.specs.declared.bounded_limits.OverlapPolicy.TheVariants.{Discard}
use Rattle.ep_defrag.specs.declared.bounded_defrag_error.BoundedDefragError.{BoundedDefragError}
use Rattle.ep_defrag.specs.declared.bounded_defrag_error.BoundedDefragError.TheVariants.{Rejected, Discarded, OverBudget}
use Rattle.ep_defrag.specs.IpFragments.{IpFragment, is_complete}
use Rattle.ep_defrag.specs.FragmentRefusals.{refusal_within, is_allocation_failure}
use Rattle.ep_defrag.specs.PayloadCuts.{IsCut}
use Rattle.ep_defrag.specs.Streams.{same_stream}
use Rattle.ep_defrag.specs.Calls.{Call, gives_frame, drops_streams, payload_of}
use Rattle.ep_defrag.specs.Calls.{Answer, fragment_refused, payload_returned, no_payload, streams_dropped}
use Rattle.ep_defrag.specs.BoundedOverlaps.{contradicts, discards_stream}
use Rattle.ep_defrag.specs.BoundedSteps.{Row, Gone, Step, BoundedAnswer, fragment_rejected}
use Rattle.ep_defrag.specs.BoundedSteps.{payload_complete, nothing_complete, BoundedCall, gives_fragment, expires_names}
use Rattle.ep_defrag.specs.BoundedSteps.{removes_name, clears_names, call_step, is_expiry}

-- ---- a run

-- A call, and what the allocator granted: the memory of its stream after the call, or none if an allocation failed. It
-- has an effect only if the fragment of the call is accepted.
pub record Made (C : Type 0) : Type 0 where
  pub call : BoundedCall C
  pub granted : Option ℕ

-- table after a list of calls, from this table on
abbrev pub rows_from : {C : Type 0} → DefragLimits → (C → C → Bool) → List (Row C) → ℕ → List (Made C) → List (Row C)
rows_from limits eq rows number [] = rows
rows_from limits eq rows number (made ∷ later) =
    rows_from limits eq (call_step limits eq rows made.call number made.granted).rows (number + 1) later

-- ---- each stream as if it were alone

-- drops a stream exactly if its timestamp is the value of the drop: timestamps are numbers of calls, so one stream at
-- most has it
abbrev pub drops_number : ℕ → ℕ → Bool
drops_number value timestamp = not (value == timestamp)

-- whether the fragment with this answer is left out: its stream was discarded, used too much memory, or an allocation
-- failed
abbrev pub is_left_out_error : BoundedDefragError → Bool
is_left_out_error (Rejected error) = is_allocation_failure error
is_left_out_error Discarded = true
is_left_out_error OverBudget = true

abbrev pub is_left_out : BoundedAnswer → Bool
is_left_out (fragment_rejected error) = is_left_out_error error
is_left_out (payload_complete payload) = false
is_left_out nothing_complete = false

-- call that passes a fragment of an identifier
abbrev pub frame_of : {C : Type 0} → IpFragId C → IpFragment → ℕ → Call ℕ C ℕ
frame_of name fragment number = gives_frame
    (Some (record {
      vlan_ids = name.vlan_ids.items;
      ip = name.ip;
      payload_ip_number = name.payload_ip_number;
      fragment = fragment;
    }))
    number name.channel_id

-- drop of the stream that a name had
abbrev pub drop_of : {C : Type 0} → Row C → Call ℕ C ℕ
drop_of row = drops_streams row.number

-- whether a name was evicted by a fragment of its own identifier, before that fragment
abbrev pub is_own_expiry : {C : Type 0} → (C → C → Bool) → IpFragId C → Gone C → Bool
is_own_expiry eq name gone = is_expiry gone.cause && same_stream eq gone.row.id name

-- calls on an unbounded pool that correspond to a call, given its number and its step: a drop if the stream of its
-- fragment expired, the fragment unless it is left out, and drops of all others that left
abbrev pub calls_for : {C : Type 0} → (C → C → Bool) → BoundedCall C → ℕ → Step C → List (Call ℕ C ℕ)
calls_for eq (gives_fragment None now) number step = []
calls_for eq (gives_fragment (Some given) now) number step =
    map (λ gone. drop_of gone.row) (filter (is_own_expiry eq given.0) step.gone)
    ++ (if is_left_out step.answer then [] else frame_of given.0 given.1 number ∷ [])
    ++ map (λ gone. drop_of gone.row) (filter (λ gone. not (is_own_expiry eq given.0 gone)) step.gone)
calls_for eq (expires_names now idle) number step = map (λ gone. drop_of gone.row) step.gone
calls_for eq (removes_name name) number step = map drop_of step.removed
calls_for eq clears_names number step = map drop_of step.removed

-- answer of the unbounded pool that corresponds to an answer to a fragment that is not left out. Its payload has the
-- last byte at each position, for each policy.
abbrev pub plain_rejection : BoundedDefragError → Answer
plain_rejection (Rejected error) = fragment_refused error
plain_rejection Discarded = no_payload
plain_rejection OverBudget = no_payload

abbrev pub answer_for : {C : Type 0} → IpFragId C → Step C → BoundedAnswer → Answer
answer_for name step (fragment_rejected error) = plain_rejection error
answer_for name step (payload_complete payload) = payload_returned (payload_of name step.completed)
answer_for name step nothing_complete = no_payload

abbrev pub dropped_for : {X : Type 0} → List X → List Answer
dropped_for gone = map (λ _. streams_dropped) gone

-- answers that the unbounded pool gives to these calls
abbrev pub answers_for : {C : Type 0} → (C → C → Bool) → BoundedCall C → Step C → List Answer
answers_for eq (gives_fragment None now) step = []
answers_for eq (gives_fragment (Some given) now) step =
    dropped_for (filter (is_own_expiry eq given.0) step.gone)
    ++ (if is_left_out step.answer then [] else answer_for given.0 step step.answer ∷ [])
    ++ dropped_for (filter (λ gone. not (is_own_expiry eq given.0 gone)) step.gone)
answers_for eq (expires_names now idle) step = dropped_for step.gone
answers_for eq (removes_name name) step = dropped_for step.removed
answers_for eq clears_names step = dropped_for step.removed

-- calls on an unbounded pool that correspond to a list of calls
abbrev pub alone_from : {C : Type 0} → DefragLimits → (C → C → Bool) → List (Row C) → ℕ → List (Made C)
    → List (Call ℕ C ℕ)
alone_from limits eq rows number [] = []
alone_from limits eq rows number (made ∷ later) =
    let step = call_step limits eq rows made.call number made.granted in
    calls_for eq made.call number step ++ alone_from limits eq step.rows (number + 1) later

abbrev pub alone_answers_from : {C : Type 0} → DefragLimits → (C → C → Bool) → List (Row C) → ℕ → List (Made C)
    → List Answer
alone_answers_from limits eq rows number [] = []
alone_answers_from limits eq rows number (made ∷ later) =
    let step = call_step limits eq rows made.call number made.granted in
    answers_for eq made.call step ++ alone_answers_from limits eq step.rows (number + 1) later

-- ---- no ambiguity

-- A stream by itself under `Discard`: open with these accepted fragments, or discarded, or ended by this payload.
pub data Lone : Type 0 where
  lone_open : List IpFragment → Lone
  lone_discarded : Lone
  lone_complete : List IpFragment → Lone

abbrev pub lone_extended : List IpFragment → Lone
lone_extended accepted = if is_complete accepted then lone_complete accepted else lone_open accepted

abbrev pub lone_unless : Bool → Option IpDefragError → List IpFragment → IpFragment → Lone
lone_unless true error accepted fragment = lone_discarded
lone_unless false (Some error) accepted fragment = lone_open accepted
lone_unless false None accepted fragment = lone_extended (accepted ++ fragment ∷ [])

-- stream after one more fragment, within a limit
abbrev pub lone_with : ℕ → Lone → IpFragment → Lone
lone_with limit (lone_open accepted) fragment =
    let error = refusal_within limit accepted fragment in
    lone_unless (discards_stream Discard error (contradicts accepted fragment)) error accepted fragment
lone_with limit lone_discarded fragment = lone_discarded
lone_with limit (lone_complete accepted) fragment = lone_complete accepted

-- stream after a list of fragments, from a new one on
abbrev pub lone_after : ℕ → Lone → List IpFragment → Lone
lone_after limit lone [] = lone
lone_after limit lone (fragment ∷ later) = lone_after limit (lone_with limit lone fragment) later

-- Holds if the payload agrees with a fragment in bytes and end, unless the fragment is too long or unaligned.
abbrev pub AgreesUnlessRejected : ℕ → List ℕ → IpFragment → Type 0
AgreesUnlessRejected limit payload fragment =
    refusal_within limit [] fragment ≡ None → IsCut payload fragment
