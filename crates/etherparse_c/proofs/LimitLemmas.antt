-- A buffer of the length of the pool's limit has space for every payload.
use Rattle.std.proofs.Common.{◌≡◌, ◌∙◌, refl, sym, ap, subst, ℕ, ◌≤◌, nat_eq, nat_lt, arith}
use Rattle.std.proofs.Common.{Bool, true, false, if◌then◌else◌, List, [], ◌∷◌, ◌++◌, length, length-append, length-drop}
use Rattle.std.proofs.Common.{Option, Some, None, Result, Ok, Err, inl, inr}
use Rattle.std.proofs.lemmas.Bool.Decides.{nat_tests}
use Rattle.std.proofs.lemmas.List.{length-replicate, length-take}
use Rattle.std.specs.Option.{option_map}
use Rattle.std.specs.Prelude.{IfSome}
use Rattle.etherparse.specs.Buffers.{data_after, data_of}
use Rattle.etherparse.specs.Calls.{Payload, accepted_in, answer_unless, payload_returned}
use Rattle.etherparse.specs.FragmentRefusals.{refusal_within}
use Rattle.etherparse.specs.FrameFragments.{fragment_of}
use Rattle.etherparse.specs.IpFragments.{IpFragment, fragment_end}
use Rattle.etherparse.specs.Pools.{HoldsTable, Stream, TakesFrame, data_in, limit_of, stream_named}
use Rattle.etherparse.specs.Streams.{PacketFragment, name_of, packet_fragment}
use Rattle.etherparse.specs.Types.Entry.{Entry}
use Rattle.etherparse.specs.Types.IpDefragError.{IpDefragError}
use Rattle.etherparse.specs.Types.IpDefragPayloadVec.{IpDefragPayloadVec}
use Rattle.etherparse.specs.Types.IpDefragPool.{IpDefragPool}
use Rattle.etherparse.specs.Types.IpFragId.{IpFragId}
use Rattle.etherparse_c.specs.PoolAnswers.{IsPoolResultAnswer, IsPushAnswer, IsPushAnswerWith, IsPushed, ReturnsPayload, Table}
use Rattle.etherparse_c.specs.declared.pool_answer.PoolAnswer.{PoolAnswer}
use Rattle.etherparse_c.specs.declared.state.State.{State}

-- The library's law: the data of each stream is within the pool's limit.
abbrev pub DataWithinLimit : Type 0
DataWithinLimit = (pool : IpDefragPool ℕ ℕ) (table : Table) (name : IpFragId ℕ) → HoldsTable nat_eq pool table
    → IfSome (stream_named nat_eq name pool) (λ stream. length (data_of stream.buffer) ≤ limit_of pool)

-- ---- a fragment that completes a payload

-- A fragment that completes a payload is not rejected.
not_refused : (refusal : Option IpDefragError) (name : IpFragId ℕ) (accepted : List IpFragment) (payload : Payload)
    → payload_returned payload ≡ answer_unless refusal name accepted → refusal ≡ None
not_refused None name accepted payload answered = refl
not_refused (Some error) name accepted payload answered = grind arith

-- If a table gives no error, the condition of its first row is false.
row_is_off : {E : Type 0} (row : Bool) (error : E) (others : Option E)
    → (if row then Some error else others) ≡ None → row ≡ false
row_is_off true error others none = grind arith
row_is_off false error others none = refl

-- A fragment that is not rejected ends within the limit.
pub ends_within : (limit : ℕ) (accepted : List IpFragment) (fragment : IpFragment)
    → refusal_within limit accepted fragment ≡ None → fragment_end fragment ≤ limit
ends_within limit accepted fragment fits =
    let off : nat_lt limit (fragment_end fragment) ≡ false =
    row_is_off (nat_lt limit (fragment_end fragment)) _ _ fits in
    grind (arith, nat_tests)

-- Data within the limit stays within it when a fragment that ends within it is added.
data_after_within : (limit : ℕ) (contents : List ℕ) (fragment : IpFragment) → length contents ≤ limit
    → fragment_end fragment ≤ limit → length (data_after contents fragment) ≤ limit
data_after_within limit contents fragment short ends =
    simp (length-append, length-take, length-drop, length-replicate) (omega arith)

data_in_within : (limit : ℕ) (stream : Option (Stream ℕ ℕ))
    → IfSome stream (λ stream. length (data_of stream.buffer) ≤ limit) → length (data_in stream) ≤ limit
data_in_within limit None short = omega arith
data_in_within limit (Some stream) short = short

-- A returned payload is no longer than the limit.
payload_within : DataWithinLimit → (old new : IpDefragPool ℕ ℕ) (carried : Option PacketFragment)
    (timestamp channel : ℕ) (payload : IpDefragPayloadVec) (table : Table) → HoldsTable nat_eq old table
    → TakesFrame nat_eq old new carried timestamp channel (Ok (Some payload))
    → length payload.payload.items ≤ limit_of old
payload_within law old new None timestamp channel payload table kept takes = grind arith
payload_within law old new (Some carried) timestamp channel payload table kept takes =
    let name = name_of carried channel in
    let accepted = accepted_in (table name) in
    let answered = takes.answer refl table kept in
    let fits = not_refused _ name (accepted ++ carried.fragment ∷ []) _ answered in
    let short = data_in_within (limit_of old) (stream_named nat_eq name old) (law old table name kept) in
    subst (λ items. length items ≤ limit_of old) (sym (takes.entry kept.apart).1)
    (data_after_within (limit_of old) _ carried.fragment short
    (ends_within (limit_of old) accepted carried.fragment fits))

-- ---- after a push

-- A payload that fits into the buffer does not wait.
pub none_returned : (payload : IpDefragPayloadVec) (waiting : Option IpDefragPayloadVec) (old_buffer new_buffer : List ℕ)
    (answer : PoolAnswer) (status : ℕ) → length payload.payload.items ≤ length old_buffer
    → ReturnsPayload payload waiting old_buffer new_buffer answer status → waiting ≡ None
none_returned payload waiting old_buffer new_buffer answer status fits returned =
    elim returned.1 [
      | inl complete ↦ complete.1
      | inr longer ↦ absurd (omega (arith, fits, longer.2))
    ]

none_in_answer : (result : Result (Option IpDefragPayloadVec) IpDefragError) (waiting : Option IpDefragPayloadVec)
    (old_buffer new_buffer : List ℕ) (answer : PoolAnswer) (status : ℕ)
    → ((payload : IpDefragPayloadVec) → result ≡ Ok (Some payload) → length payload.payload.items ≤ length old_buffer)
    → IsPoolResultAnswer result waiting old_buffer new_buffer answer status → waiting ≡ None
none_in_answer (Ok None) waiting old_buffer new_buffer answer status fits answered = answered.1
none_in_answer (Ok (Some payload)) waiting old_buffer new_buffer answer status fits answered =
    none_returned payload waiting old_buffer new_buffer answer status (fits payload refl) answered
none_in_answer (Err error) waiting old_buffer new_buffer answer status fits answered = answered.1

none_pushed : DataWithinLimit → (entry : Entry) (bytes : List ℕ) (timestamp channel : ℕ) (old new : State)
    (old_buffer new_buffer : List ℕ) (answer : PoolAnswer) (status : ℕ) (table : Table)
    → HoldsTable nat_eq old.pool table → old.waiting ≡ None → limit_of old.pool ≤ length old_buffer
    → IsPushed entry bytes timestamp channel old new old_buffer new_buffer answer status → new.waiting ≡ None
none_pushed law entry bytes timestamp channel old new old_buffer new_buffer answer status table kept empty fits pushed =
    elim pushed [
      | inl refused ↦ ap (λ (state : State). state.waiting) refused.1 ∙ empty
      | inr taken ↦
          let carried = option_map packet_fragment (fragment_of taken.0) in
          none_in_answer taken.2.0 new.waiting old_buffer new_buffer answer status
          (λ payload is.
          let takes = subst (TakesFrame nat_eq old.pool new.pool carried timestamp channel) is taken.2.1 in
          let short = payload_within law old.pool new.pool carried timestamp channel payload table kept takes in
          omega (arith, fits, short)) taken.2.2
    ]

pub none_waits : DataWithinLimit → (entry : Option Entry) (bytes : List ℕ) (timestamp channel : ℕ) (old new : State)
    (old_buffer new_buffer : List ℕ) (answer : PoolAnswer) (status : ℕ) (table : Table)
    → HoldsTable nat_eq old.pool table → old.waiting ≡ None → limit_of old.pool ≤ length old_buffer
    → IsPushAnswer entry bytes timestamp channel old new old_buffer new_buffer answer status → new.waiting ≡ None
none_waits law None bytes timestamp channel old new old_buffer new_buffer answer status table kept empty fits pushed =
    ap (λ (state : State). state.waiting) pushed.1 ∙ empty
none_waits law (Some entry) bytes timestamp channel old new old_buffer new_buffer answer status table kept empty fits
    pushed =
    none_pushed law entry bytes timestamp channel old new old_buffer new_buffer answer status table kept empty fits
    (subst (λ waiting. IsPushAnswerWith (Some entry) waiting bytes timestamp channel old new old_buffer new_buffer
    answer status) empty pushed)
