-- A buffer of the payload length of the limits has space for every payload of a bounded pool.
use Rattle.std.proofs.Common.{◌≡◌, ◌∙◌, refl, sym, ap, subst, ℕ, ◌+◌, ◌*◌, ◌≤◌, nat_eq, nat_lt, arith}
use Rattle.std.proofs.Common.{Bool, true, false, if◌then◌else◌, List, [], ◌∷◌, ◌++◌, length}
use Rattle.std.proofs.Common.{Option, Some, None, Result, Ok, Err, inl, inr}
use Rattle.std.proofs.lemmas.List.FromFn.{length-map-range_with_len}
use Rattle.std.specs.List.{AllZip, filter, find}
use Rattle.std.specs.Option.{option_map, unwrap_or}
use Rattle.std.specs.Prelude.{IfSome, cond}
use Rattle.etherparse.specs.BoundedNames.{HeldName, HoldsRow, HoldsState}
use Rattle.etherparse.specs.BoundedOverlaps.{all_kept, all_kept_after, kept_as}
use Rattle.etherparse.specs.BoundedPools.{HoldsRows, TakesBoundedFrame, limits_in}
use Rattle.etherparse.specs.BoundedSteps.{BoundedAnswer, Fate, Row, Step, accepted_before, accepting_step, call_step, fate_after, fate_at}
use Rattle.etherparse.specs.BoundedSteps.{fate_in, fate_unless, fated_step, fragment_rejected, gives_fragment, is_accepted, is_rejected, discards}
use Rattle.etherparse.specs.BoundedSteps.{nothing_complete, payload_complete, row_named}
use Rattle.etherparse.specs.FragmentRefusals.{FitAfterWithin}
use Rattle.etherparse.specs.FrameFragments.{fragment_of}
use Rattle.etherparse.specs.IpFragments.{IpFragment, assembled, end_of, fragment_end, is_complete, reach_of}
use Rattle.etherparse.specs.Streams.{PacketFragment, name_of, packet_fragment}
use Rattle.etherparse.specs.Types.BoundedDefragError.{BoundedDefragError}
use Rattle.etherparse.specs.Types.BoundedDefragPool.{BoundedDefragPool}
use Rattle.etherparse.specs.Types.DefragLimits.{DefragLimits}
use Rattle.etherparse.specs.Types.Entry.{Entry}
use Rattle.etherparse.specs.Types.IpDefragBuf.{IpDefragBuf}
use Rattle.etherparse.specs.Types.IpDefragError.{IpDefragError}
use Rattle.etherparse.specs.Types.IpDefragPayloadVec.{IpDefragPayloadVec}
use Rattle.etherparse.specs.Types.IpFragId.{IpFragId}
use Rattle.etherparse.specs.Types.OverlapPolicy.{OverlapPolicy}
use Rattle.etherparse.specs.Types.OverlapPolicy.TheVariants.{LastWins, FirstWins, Discard}
use Rattle.etherparse_c.specs.BoundedPoolAnswers.{IsBoundedPush, IsBoundedPushWith, IsBoundedPushed, IsBoundedResultAnswer}
use Rattle.etherparse_c.specs.declared.bounded_state.BoundedState.{BoundedState}
use Rattle.etherparse_c.specs.declared.pool_answer.PoolAnswer.{PoolAnswer}
use Rattle.etherparse_c.proofs.LimitLemmas.{ends_within, none_returned}

-- ---- fragments that end within the limit

-- Each fragment ends within the limit.
abbrev EndWithin : ℕ → List IpFragment → Type 0
EndWithin limit [] = Unit {0}
EndWithin limit (fragment ∷ later) = (fragment_end fragment ≤ limit) × EndWithin limit later

one_more : (limit : ℕ) (fragments : List IpFragment) (last : IpFragment) → EndWithin limit fragments
    → fragment_end last ≤ limit → EndWithin limit (fragments ++ last ∷ [])
one_more limit [] last within ends = (ends, tt)
one_more limit (fragment ∷ later) last within ends = (within.0, one_more limit later last within.1 ends)

fit_ends : (limit : ℕ) (earlier later : List IpFragment) → FitAfterWithin limit earlier later → EndWithin limit later
fit_ends limit earlier [] fit = tt
fit_ends limit earlier (fragment ∷ later) fit =
    (ends_within limit earlier fragment fit.0, fit_ends limit (earlier ++ fragment ∷ []) later fit.1)

-- A fragment ends where it ended before a pool kept only some of its bytes.
kept_end : (policy : OverlapPolicy) (earlier : List IpFragment) (fragment : IpFragment)
    → fragment_end (kept_as policy earlier fragment) ≡ fragment_end fragment
kept_end LastWins earlier fragment = refl
kept_end FirstWins earlier fragment =
    ap (λ (len : ℕ). 8 * fragment.offset + len) (length-map-range_with_len _ _ _)
kept_end Discard earlier fragment = refl

kept_ends : (limit : ℕ) (policy : OverlapPolicy) (earlier later : List IpFragment) → EndWithin limit earlier
    → EndWithin limit later → EndWithin limit (all_kept_after policy earlier later)
kept_ends limit policy earlier [] before after = before
kept_ends limit policy earlier (fragment ∷ later) before after =
    kept_ends limit policy (earlier ++ kept_as policy earlier fragment ∷ []) later
    (one_more limit earlier (kept_as policy earlier fragment) before
    (subst (λ end. end ≤ limit) (sym (kept_end policy earlier fragment)) after.0)) after.1

reach_within : (limit : ℕ) (fragments : List IpFragment) → EndWithin limit fragments → reach_of fragments ≤ limit
reach_within limit [] within = omega arith
reach_within limit (fragment ∷ later) within = omega (arith, within.0, reach_within limit later within.1)

end_chosen : (more : Bool) (end : ℕ) (rest : Option ℕ) (other limit : ℕ) → end ≤ limit → unwrap_or rest other ≤ limit
    → unwrap_or (if more then rest else Some end) other ≤ limit
end_chosen true end rest other limit ends within = within
end_chosen false end rest other limit ends within = ends

end_within : (limit : ℕ) (fragments : List IpFragment) (other : ℕ) → other ≤ limit → EndWithin limit fragments
    → unwrap_or (end_of fragments) other ≤ limit
end_within limit [] other short within = short
end_within limit (fragment ∷ later) other short within =
    end_chosen fragment.more (fragment_end fragment) (end_of later) other limit within.0
    (end_within limit later other short within.1)

assembled_within : (limit : ℕ) (fragments : List IpFragment) → EndWithin limit fragments
    → length (assembled fragments) ≤ limit
assembled_within limit fragments within =
    subst (λ len. len ≤ limit) (sym (length-map-range_with_len _ _ _))
    (end_within limit fragments (reach_of fragments) (reach_within limit fragments within) within)

-- ---- names of the table

-- The accepted fragments of an open stream end within the limit.
abbrev Fits : {C : Type 0} → DefragLimits → Row C → Type 0
Fits limits row = (accepted : List IpFragment) → row.accepted ≡ Some accepted → EndWithin limits.payload accepted

abbrev AllFit : {C : Type 0} → DefragLimits → List (Row C) → Type 0
AllFit limits [] = Unit {0}
AllFit limits (row ∷ later) = Fits limits row × AllFit limits later

state_fits : (limits : DefragLimits) (buffer : Option IpDefragBuf) (content : Option (List IpFragment))
    → HoldsState limits buffer content → (accepted : List IpFragment) → content ≡ Some accepted
    → EndWithin limits.payload accepted
state_fits limits None None holds accepted is = grind arith
state_fits limits None (Some content) holds accepted is = absurd holds
state_fits limits (Some buffer) None holds accepted is = absurd holds
state_fits limits (Some buffer) (Some content) holds accepted is =
    subst (EndWithin limits.payload) (ap (λ (it : Option (List IpFragment)). unwrap_or it content) is)
    (fit_ends limits.payload [] content holds.within)

rows_fit : {C : Type 0} (limits : DefragLimits) (names : List (HeldName C)) (rows : List (Row C))
    → AllZip (HoldsRow limits) names rows → AllFit limits rows
rows_fit limits [] [] kept = tt
rows_fit limits [] (row ∷ rows) kept = absurd kept
rows_fit limits (name ∷ names) [] kept = absurd kept
rows_fit limits (name ∷ names) (row ∷ rows) kept =
    (state_fits limits name.1.buffer row.accepted kept.0.state, rows_fit limits names rows kept.1)

one_found : {C : Type 0} (limits : DefragLimits) (found : Bool) (row : Row C) (rest : Option (Row C)) → Fits limits row
    → IfSome rest (Fits limits) → IfSome (cond found (Some row) rest) (Fits limits)
one_found limits true row rest fits others = fits
one_found limits false row rest fits others = others

one_left : {C : Type 0} (limits : DefragLimits) (test : Row C → Bool) (stays : Bool) (row : Row C) (left : List (Row C))
    → Fits limits row → IfSome (find test left) (Fits limits)
    → IfSome (find test (cond stays (row ∷ left) left)) (Fits limits)
one_left limits test true row left fits others = one_found limits (test row) row (find test left) fits others
one_left limits test false row left fits others = others

found_fits : {C : Type 0} (limits : DefragLimits) (test stays : Row C → Bool) (rows : List (Row C))
    → AllFit limits rows → IfSome (find test (filter stays rows)) (Fits limits)
found_fits limits test stays [] fit = tt
found_fits limits test stays (row ∷ later) fit =
    one_left limits test (stays row) row (filter stays later) fit.0 (found_fits limits test stays later fit.1)

-- ---- the answer of a step

-- A fragment that is accepted is not rejected.
not_refused : (is_discarded : Bool) (error : Option IpDefragError) → fate_unless is_discarded error ≡ is_accepted
    → error ≡ None
not_refused true error fate = grind arith
not_refused false (Some error) fate = grind arith
not_refused false None fate = refl

after_within : (limits : DefragLimits) (accepted : List IpFragment) (fragment : IpFragment)
    → EndWithin limits.payload accepted → fate_after limits accepted fragment ≡ is_accepted
    → EndWithin limits.payload (accepted ++ fragment ∷ [])
after_within limits accepted fragment within fate =
    one_more limits.payload accepted fragment within
    (ends_within limits.payload accepted fragment (not_refused _ _ fate))

in_within : (limits : DefragLimits) (content : Option (List IpFragment)) (fragment : IpFragment)
    → ((accepted : List IpFragment) → content ≡ Some accepted → EndWithin limits.payload accepted)
    → fate_in limits content fragment ≡ is_accepted
    → EndWithin limits.payload (unwrap_or content [] ++ fragment ∷ [])
in_within limits None fragment fits fate = grind arith
in_within limits (Some accepted) fragment fits fate = after_within limits accepted fragment (fits accepted refl) fate

at_within : {C : Type 0} (limits : DefragLimits) (row : Option (Row C)) (fragment : IpFragment)
    → IfSome row (Fits limits) → fate_at limits row fragment ≡ is_accepted
    → EndWithin limits.payload (accepted_before row ++ fragment ∷ [])
at_within limits None fragment fits fate = after_within limits [] fragment tt fate
at_within limits (Some row) fragment fits fate = in_within limits row.accepted fragment fits fate

-- the bytes of an answer
abbrev answered_bytes : BoundedAnswer → List ℕ
answered_bytes (fragment_rejected error) = []
answered_bytes (payload_complete payload) = payload.bytes
answered_bytes nothing_complete = []

-- No bytes are within each limit.
no_bytes : (limit : ℕ) → 0 ≤ limit
no_bytes limit = omega arith

-- An answer has no more bytes than that of the step that was chosen.
chosen_within : {C : Type 0} (complete large : Bool) (done rejected waits : Step C) (limit : ℕ)
    → length (answered_bytes done.answer) ≤ limit → length (answered_bytes rejected.answer) ≤ limit
    → length (answered_bytes waits.answer) ≤ limit
    → length (answered_bytes (if complete then done else if large then rejected else waits).answer) ≤ limit
chosen_within true large done rejected waits limit first second third = first
chosen_within false true done rejected waits limit first second third = second
chosen_within false false done rejected waits limit first second third = third

accepting_within : {C : Type 0} (limits : DefragLimits) (old : Option (Row C)) (others : List (Row C)) (own : Row C)
    (accepted : List IpFragment) → EndWithin limits.payload accepted
    → length (answered_bytes (accepting_step limits old others own accepted).answer) ≤ limits.payload
accepting_within limits old others own accepted within =
    chosen_within (is_complete accepted) (nat_lt limits.bytes own.room) _ _ _ limits.payload
    (assembled_within limits.payload (all_kept limits.overlap accepted)
    (kept_ends limits.payload limits.overlap [] accepted tt within))
    (no_bytes limits.payload) (no_bytes limits.payload)

fated_within : {C : Type 0} (limits : DefragLimits) (eq : C → C → Bool) (rows : List (Row C)) (name : IpFragId C)
    (fragment : IpFragment) (now number : ℕ) (granted : Option ℕ) (fate : Fate)
    → IfSome (row_named eq name rows) (Fits limits) → fate_at limits (row_named eq name rows) fragment ≡ fate
    → length (answered_bytes (fated_step limits eq rows name fragment now number granted fate).answer) ≤ limits.payload
fated_within limits eq rows name fragment now number granted (is_rejected error) fits is = no_bytes limits.payload
fated_within limits eq rows name fragment now number granted discards fits is = no_bytes limits.payload
fated_within limits eq rows name fragment now number None is_accepted fits is = no_bytes limits.payload
fated_within limits eq rows name fragment now number (Some space) is_accepted fits is =
    accepting_within limits _ _ _ _ (at_within limits (row_named eq name rows) fragment fits is)

-- A payload that a step returns is no longer than the limit.
step_within : {C : Type 0} (limits : DefragLimits) (eq : C → C → Bool) (rows : List (Row C)) (name : IpFragId C)
    (fragment : IpFragment) (now number : ℕ) (granted : Option ℕ) → AllFit limits rows
    → let call = gives_fragment (Some (name, fragment)) now in
    length (answered_bytes (call_step limits eq rows call number granted).answer) ≤ limits.payload
step_within limits eq rows name fragment now number granted fit =
    fated_within limits eq _ name fragment now number granted _ (found_fits limits _ _ rows fit) refl

-- ---- after a push

-- A returned payload is no longer than the limit.
payload_within : (old new : BoundedDefragPool ℕ) (carried : Option PacketFragment) (timestamp channel : ℕ)
    (payload : IpDefragPayloadVec) (rows : List (Row ℕ)) → HoldsRows nat_eq old rows
    → TakesBoundedFrame nat_eq old new carried timestamp channel (Ok (Some payload))
    → length payload.payload.items ≤ (limits_in old).payload
payload_within old new None timestamp channel payload rows kept takes = grind arith
payload_within old new (Some carried) timestamp channel payload rows kept takes =
    let taken = takes.step rows 0 kept in
    subst (λ (answer : BoundedAnswer). length (answered_bytes answer) ≤ (limits_in old).payload) (sym taken.2)
    (step_within (limits_in old) nat_eq rows (name_of carried channel) carried.fragment timestamp 0 taken.0
    (rows_fit (limits_in old) _ rows kept.each))

none_in_answer : (result : Result (Option IpDefragPayloadVec) BoundedDefragError) (waiting : Option IpDefragPayloadVec)
    (old_buffer new_buffer : List ℕ) (answer : PoolAnswer) (status : ℕ)
    → ((payload : IpDefragPayloadVec) → result ≡ Ok (Some payload) → length payload.payload.items ≤ length old_buffer)
    → IsBoundedResultAnswer result waiting old_buffer new_buffer answer status → waiting ≡ None
none_in_answer (Ok None) waiting old_buffer new_buffer answer status fits answered = answered.1
none_in_answer (Ok (Some payload)) waiting old_buffer new_buffer answer status fits answered =
    none_returned payload waiting old_buffer new_buffer answer status (fits payload refl) answered
none_in_answer (Err error) waiting old_buffer new_buffer answer status fits answered = answered.1

none_pushed : (entry : Entry) (bytes : List ℕ) (timestamp channel : ℕ) (old new : BoundedState)
    (old_buffer new_buffer : List ℕ) (answer : PoolAnswer) (status : ℕ) (rows : List (Row ℕ))
    → HoldsRows nat_eq old.pool rows → old.waiting ≡ None → (limits_in old.pool).payload ≤ length old_buffer
    → IsBoundedPushed entry bytes timestamp channel old new old_buffer new_buffer answer status → new.waiting ≡ None
none_pushed entry bytes timestamp channel old new old_buffer new_buffer answer status rows kept empty fits pushed =
    elim pushed [
      | inl refused ↦ refused.1.waiting ∙ empty
      | inr taken ↦
          let carried = option_map packet_fragment (fragment_of taken.0) in
          none_in_answer taken.2.0 new.waiting old_buffer new_buffer answer status
          (λ payload is.
          let takes = subst (TakesBoundedFrame nat_eq old.pool new.pool carried timestamp channel) is taken.2.1 in
          let short = payload_within old.pool new.pool carried timestamp channel payload rows kept takes in
          omega (arith, fits, short)) taken.2.2
    ]

none_answered : (entry : Option Entry) (bytes : List ℕ) (timestamp channel : ℕ) (old new : BoundedState)
    (old_buffer new_buffer : List ℕ) (answer : PoolAnswer) (status : ℕ) (rows : List (Row ℕ))
    → HoldsRows nat_eq old.pool rows → old.waiting ≡ None → (limits_in old.pool).payload ≤ length old_buffer
    → IsBoundedPushWith entry None bytes timestamp channel old new old_buffer new_buffer answer status
    → new.waiting ≡ None
none_answered None bytes timestamp channel old new old_buffer new_buffer answer status rows kept empty fits answered =
    answered.1.waiting ∙ empty
none_answered (Some entry) bytes timestamp channel old new old_buffer new_buffer answer status rows kept empty fits
    answered =
    none_pushed entry bytes timestamp channel old new old_buffer new_buffer answer status rows kept empty fits answered

pub none_waits : (entry : Option Entry) (bytes : List ℕ) (timestamp channel : ℕ) (old new : BoundedState)
    (old_buffer new_buffer : List ℕ) (answer : PoolAnswer) (status : ℕ) (rows : List (Row ℕ))
    → HoldsRows nat_eq old.pool rows → old.waiting ≡ None → (limits_in old.pool).payload ≤ length old_buffer
    → IsBoundedPush entry bytes timestamp channel old_buffer new_buffer answer status old new → new.waiting ≡ None
none_waits entry bytes timestamp channel old new old_buffer new_buffer answer status rows kept empty fits pushed =
    none_answered entry bytes timestamp channel old new old_buffer new_buffer answer status rows kept empty fits
    (subst (λ waiting. IsBoundedPushWith entry waiting bytes timestamp channel old new old_buffer new_buffer answer
    status) empty pushed.answered)
