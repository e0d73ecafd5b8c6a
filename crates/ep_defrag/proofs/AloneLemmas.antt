-- Each stream is answered as if it were alone, and payloads that arrive in cuts are reassembled.
use Rattle.std.proofs.Common.{◌≡◌, ℕ, zero, suc, ◌≤◌, Bool, true, false, List, [], ◌∷◌, ◌++◌, append_assoc, length, map}
use Rattle.std.proofs.Common.{take, Option, Some, None, option_map, slice_get, sym, refl, ap, ◌∙◌, arith, inl, inr}
use Rattle.std.specs.List.{filter, AllByRecursion, All, Any}
use Rattle.std.specs.Cmp.{IsEquivalence}
use Rattle.std.proofs.lemmas.Bool.{cases_Bool, false≢true}
use Rattle.std.proofs.lemmas.List.{append-nil, take-map}
use Rattle.std.proofs.lemmas.List.Elements.{recursion_from_All, All-from_recursion}
use Rattle.std.proofs.lemmas.Option.{slice_get-map}
use Rattle.ep_defrag.specs.declared.ip_defrag_error.IpDefragError.{IpDefragError}
use Rattle.ep_defrag.specs.declared.ip_frag_id.IpFragId.{IpFragId}
use Rattle.ep_defrag.specs.IpFragments.{IpFragment, is_complete}
use Rattle.ep_defrag.specs.FragmentRefusals.{refusal_within}
use Rattle.ep_defrag.specs.PayloadCuts.{IsCut}
use Rattle.ep_defrag.specs.Streams.{name_of, same_stream}
use Rattle.ep_defrag.specs.Calls.{Call, gives_frame, drops_streams, returns_buffer, Kept, accepted_in, kept_of, kept_by}
use Rattle.ep_defrag.specs.Calls.{kept_with, kept_after, kept_after_all, concerns, calls_of, table_after, Answer}
use Rattle.ep_defrag.specs.Calls.{answer_unless, answer_with, answer_to, answers_after, answers_to, accepted_at}
use Rattle.ep_defrag.specs.Calls.{IfPayloadReturned}
use Rattle.ep_defrag.specs.Isolation.{answers_of, fragments_of, GivesCut, StaysOpen, ReturnsPayload, ReturnsAtMost}
use Rattle.ep_defrag.proofs.StreamLemmas.{same_stream_laws}
use Rattle.ep_defrag.proofs.CutLemmas.{cut_fits_after, assembled-cuts}
use Rattle.ep_defrag.proofs.CallLemmas.{after_one_more}
use Rattle.ep_defrag.proofs.OpenLemmas.{drop_keeps, StaysKept, stays_kept}

-- ---- payloads returned when the fragments are cuts
module _ (payload : List ℕ) where
  handed_cuts : {C : Type 0} (refusal : Option IpDefragError) (name : IpFragId C) (accepted : List IpFragment)
      → AllByRecursion (IsCut payload) accepted
      → IfPayloadReturned (answer_unless refusal name accepted) (λ handed. handed.bytes ≡ payload)
  handed_cuts (Some error) name accepted cuts = tt
  handed_cuts None name accepted cuts = elim (cases_Bool (is_complete accepted)) [
    | inl complete ↦ rw complete (assembled-cuts payload accepted cuts complete)
    | inr partly ↦ rw partly tt
  ]

  pub handed_at : {T C V : Type 0} (limit : ℕ) (table : IpFragId C → Option (Kept T)) (call : Call T C V)
      → AllByRecursion (IsCut payload) (accepted_at table call)
      → IfPayloadReturned (answer_to limit table call) (λ handed. handed.bytes ≡ payload)
  handed_at limit table (gives_frame None timestamp channel) cuts = tt
  handed_at limit table (gives_frame (Some carried) timestamp channel) cuts =
      handed_cuts (refusal_within limit (accepted_in (table (name_of carried channel))) carried.fragment)
      (name_of carried channel) (accepted_in (table (name_of carried channel)) ++ carried.fragment ∷ []) cuts
  handed_at limit table (drops_streams value) cuts = tt
  handed_at limit table returns_buffer cuts = tt

module _ {T C V : Type 0} (limit : ℕ) (eq : C → C → Bool) (keep : V → T → Bool) where
  -- The answer at an index is the answer to the call at that index.
  answer_at : (earlier calls : List (Call T C V)) (at : ℕ) (call : Call T C V) (answer : Answer)
      → slice_get calls at ≡ Some call → slice_get (answers_after limit eq keep earlier calls) at ≡ Some answer
      → answer ≡ answer_to limit (table_after limit eq keep (earlier ++ take at calls)) call
  answer_at earlier [] at call answer is_call is_answer = absurd (cc)
  answer_at earlier (first ∷ calls) zero call answer is_call is_answer =
      let same_call : first ≡ call = cc in
      let same_answer : answer_to limit (table_after limit eq keep earlier) first ≡ answer = cc in
      rw (append-nil earlier) (sym same_answer ∙ ap (answer_to limit (table_after limit eq keep earlier)) same_call)
  answer_at earlier (first ∷ calls) (suc at) call answer is_call is_answer =
      answer_at (earlier ++ first ∷ []) calls at call answer is_call is_answer
      ∙ ap (λ before. answer_to limit (table_after limit eq keep before) call)
      (append_assoc earlier (first ∷ []) (take at calls))

  pub cuts_at : {X Y : Type 0} (shown : X → Call T C V) (stated : Y → Answer) (calls : List X) (answers : List Y)
      → map stated answers ≡ answers_to limit eq keep (map shown calls) → (at : ℕ) (call : X) (answer : Y)
      → slice_get calls at ≡ Some call → slice_get answers at ≡ Some answer → (payload : List ℕ)
      → All (IsCut payload) (accepted_at (table_after limit eq keep (map shown (take at calls))) (shown call))
      → IfPayloadReturned (stated answer) (λ handed. handed.bytes ≡ payload)
  cuts_at shown stated calls answers same at call answer is_call is_answer payload cuts =
      let call_is : slice_get (map shown calls) at ≡ Some (shown call) =
      slice_get-map shown calls at ∙ ap (option_map shown) is_call in
      let answer_is : slice_get (answers_to limit eq keep (map shown calls)) at ≡ Some (stated answer) =
      ap (λ xs. slice_get xs at) (sym same) ∙ slice_get-map stated answers at ∙ ap (option_map stated) is_answer in
      let answered : stated answer
      ≡ answer_to limit (table_after limit eq keep (take at (map shown calls))) (shown call) =
      answer_at [] (map shown calls) at (shown call) (stated answer) call_is answer_is in
      rw (answered, take-map shown at calls)
      (handed_at payload limit (table_after limit eq keep (map shown (take at calls))) (shown call)
      (recursion_from_All (IsCut payload) _ cuts))

  -- answers to a stream, computed from the calls that concern it alone
  abbrev pub answers_alone : Option (Kept T) → List (Call T C V) → List Answer
  answers_alone kept [] = []
  answers_alone kept (call ∷ calls) =
      answer_to limit (λ name. kept) call ∷ answers_alone (kept_after limit keep kept call) calls

  module _ (laws : IsEquivalence eq) where
    -- Equal identifiers have one entry.
    concerned_same : (a b : IpFragId C) → same_stream eq a b ≡ true → (call : Call T C V)
        → concerns eq a call ≡ concerns eq b call
    concerned_same a b alike (gives_frame None timestamp channel) = refl
    concerned_same a b alike (gives_frame (Some carried) timestamp channel) =
        let names = same_stream_laws eq laws in
        names.symm (name_of carried channel) a ∙ names.congr a b (name_of carried channel) alike
        ∙ names.symm b (name_of carried channel)
    concerned_same a b alike (drops_streams value) = refl
    concerned_same a b alike returns_buffer = refl

    entries_same : (calls : List (Call T C V)) (a b : IpFragId C) → same_stream eq a b ≡ true
        → table_after limit eq keep calls a ≡ table_after limit eq keep calls b
    entries_same calls a b alike =
        ap (λ (test : Call T C V → Bool). kept_after_all limit keep None (filter test calls))
        (λ i call. concerned_same a b alike call i)

    -- A call that concerns a stream is answered according to the state of that stream.
    pub answer_alone : (earlier : List (Call T C V)) (name : IpFragId C) (call : Call T C V)
        → concerns eq name call ≡ true
        → answer_to limit (table_after limit eq keep earlier) call
        ≡ answer_to limit (λ other. table_after limit eq keep earlier name) call
    answer_alone earlier name (gives_frame None timestamp channel) does = absurd (false≢true does)
    answer_alone earlier name (gives_frame (Some carried) timestamp channel) does =
        ap (λ kept. answer_with limit (name_of carried channel) kept carried.fragment)
        (entries_same earlier (name_of carried channel) name does)
    answer_alone earlier name (drops_streams value) does = refl
    answer_alone earlier name returns_buffer does = absurd (false≢true does)

    answers_by : (earlier : List (Call T C V)) (name : IpFragId C) (calls : List (Call T C V))
        → answers_of eq name calls (answers_after limit eq keep earlier calls)
        ≡ answers_alone (table_after limit eq keep earlier name) (calls_of eq name calls)
    answers_by earlier name [] = refl
    answers_by earlier name (call ∷ calls) = elim (cases_Bool (concerns eq name call)) [
      | inl does ↦
          let rest = answers_by (earlier ++ call ∷ []) name calls in
          let here = answer_alone earlier name call does in
          let more = after_one_more limit eq keep earlier call name true does in
          rw (does, here, rest, more) refl
      | inr not ↦
          let rest = answers_by (earlier ++ call ∷ []) name calls in
          let same = after_one_more limit eq keep earlier call name false not in
          rw (not, rest, same) refl
    ]

    pub answers_of_stream : (name : IpFragId C) (calls : List (Call T C V))
        → answers_of eq name calls (answers_to limit eq keep calls) ≡ answers_alone None (calls_of eq name calls)
    answers_of_stream name calls = answers_by [] name calls

    pub alone : (name : IpFragId C) (a b : List (Call T C V)) → calls_of eq name a ≡ calls_of eq name b
        → answers_of eq name a (answers_to limit eq keep a) ≡ answers_of eq name b (answers_to limit eq keep b)
    alone name a b same =
        answers_of_stream name a ∙ ap (answers_alone None) same ∙ sym (answers_of_stream name b)

  -- ---- a stream of cuts
  module _ (payload : List ℕ) (short : length payload ≤ limit) where
    pub all_more : {X : Type 0} (P : X → Type 0) (xs : List X) (x : X) → AllByRecursion P xs → P x
        → AllByRecursion P (xs ++ x ∷ [])
    all_more P [] x all last = (last, tt)
    all_more P (y ∷ xs) x all last = (all.0, all_more P xs x all.1 last)

    any_here : {X : Type 0} (P : X → Type 0) (x : X) (xs : List X) → P x → Any P (x ∷ xs)
    any_here P x xs here = (0, x, omega arith, refl, here)

    any_later : {X : Type 0} (P : X → Type 0) (x : X) (xs : List X) → Any P xs → Any P (x ∷ xs)
    any_later P x xs later = (suc later.0, later.1, omega (arith, later.2), later.3, later.4)

    -- The answer to a cut that fits returns nothing but the payload.
    answer_to_cut : (name : IpFragId C) (accepted : List IpFragment) (refusal : Option IpDefragError)
        → refusal ≡ None → AllByRecursion (IsCut payload) accepted
        → ReturnsAtMost payload (answer_unless refusal name accepted)
    answer_to_cut name accepted (Some error) fits cuts = absurd (cc)
    answer_to_cut name accepted None fits cuts = elim (cases_Bool (is_complete accepted)) [
      | inl complete ↦ rw complete (assembled-cuts payload accepted cuts complete)
      | inr partly ↦ rw partly tt
    ]

    pub kept_cuts : (accepted : List IpFragment) (timestamp : T) → AllByRecursion (IsCut payload) accepted
        → AllByRecursion (IsCut payload) (accepted_in (kept_of accepted timestamp))
    kept_cuts accepted timestamp cuts = elim (cases_Bool (is_complete accepted)) [
      | inl complete ↦ rw complete tt
      | inr partly ↦ rw partly cuts
    ]

    only_alone : (calls : List (Call T C V)) (kept : Option (Kept T))
        → AllByRecursion (IsCut payload) (accepted_in kept) → AllByRecursion (GivesCut payload) calls
        → StaysKept limit keep kept calls → AllByRecursion (ReturnsAtMost payload) (answers_alone kept calls)
    only_alone [] kept cuts gives stays = tt
    only_alone (gives_frame None timestamp channel ∷ calls) kept cuts gives stays =
        (tt, only_alone calls kept cuts gives.1 stays)
    only_alone (gives_frame (Some carried) timestamp channel ∷ calls) kept cuts gives stays =
        let fits : refusal_within limit (accepted_in kept) carried.fragment ≡ None =
        cut_fits_after payload limit (accepted_in kept) carried.fragment short cuts gives.0.0 gives.0.1 in
        let more = all_more (IsCut payload) (accepted_in kept) carried.fragment cuts gives.0.0 in (
          answer_to_cut (name_of carried channel) (accepted_in kept ++ carried.fragment ∷ []) _ fits more,
          only_alone calls (kept_with limit kept carried.fragment timestamp)
              (rw fits (kept_cuts (accepted_in kept ++ carried.fragment ∷ []) timestamp more)) gives.1 stays,
        )
    only_alone (drops_streams value ∷ calls) kept cuts gives stays = (
      tt,
      only_alone calls (kept_by (keep value) kept) (rw (drop_keeps (keep value) kept stays.0) cuts) gives.1
          stays.1,
    )
    only_alone (returns_buffer ∷ calls) kept cuts gives stays = (tt, only_alone calls kept cuts gives.1 stays)

    comes_alone : (calls : List (Call T C V)) (kept : Option (Kept T))
        → AllByRecursion (IsCut payload) (accepted_in kept) → AllByRecursion (GivesCut payload) calls
        → StaysKept limit keep kept calls
        → is_complete (accepted_in kept) ≡ false
        → is_complete (accepted_in kept ++ fragments_of calls) ≡ true
        → Any (ReturnsPayload payload) (answers_alone kept calls)
    comes_alone [] kept cuts gives stays partly complete =
        absurd (false≢true (sym partly ∙ ap is_complete (sym (append-nil (accepted_in kept))) ∙ complete))
    comes_alone (gives_frame None timestamp channel ∷ calls) kept cuts gives stays partly complete =
        any_later (ReturnsPayload payload) _ _ (comes_alone calls kept cuts gives.1 stays partly complete)
    comes_alone (gives_frame (Some carried) timestamp channel ∷ calls) kept cuts gives stays partly complete =
        let fits : refusal_within limit (accepted_in kept) carried.fragment ≡ None =
        cut_fits_after payload limit (accepted_in kept) carried.fragment short cuts gives.0.0 gives.0.1 in
        let after = accepted_in kept ++ carried.fragment ∷ [] in
        let more = all_more (IsCut payload) (accepted_in kept) carried.fragment cuts gives.0.0 in
        elim (cases_Bool (is_complete after)) [
          | inl now ↦ any_here (ReturnsPayload payload) _ _ (rw (fits, now) (assembled-cuts payload after more now))
          | inr not_yet ↦
              let same : kept_with limit kept carried.fragment timestamp
              ≡ Some (record { accepted = after; timestamp = timestamp }) =
              rw (fits, not_yet) refl in
              any_later (ReturnsPayload payload) _ _
              (rw same
              (comes_alone calls (Some (record { accepted = after; timestamp = timestamp })) more gives.1
              (rw same at stays) not_yet
              (ap is_complete (append_assoc (accepted_in kept) (carried.fragment ∷ []) (fragments_of calls)) ∙ complete)))
        ]
    comes_alone (drops_streams value ∷ calls) kept cuts gives stays partly complete =
        let same = drop_keeps (keep value) kept stays.0 in
        any_later (ReturnsPayload payload) _ _
        (rw same (comes_alone calls kept cuts gives.1 (rw same at stays.1) partly complete))
    comes_alone (returns_buffer ∷ calls) kept cuts gives stays partly complete =
        any_later (ReturnsPayload payload) _ _ (comes_alone calls kept cuts gives.1 stays partly complete)

    module _ (laws : IsEquivalence eq) (name : IpFragId C) (calls : List (Call T C V))
        (stays : StaysOpen limit eq keep name calls) (gives : All (GivesCut payload) (calls_of eq name calls)) where
      pub cuts_only : All (ReturnsAtMost payload) (answers_of eq name calls (answers_to limit eq keep calls))
      cuts_only =
          All-from_recursion (ReturnsAtMost payload) _
          (rw (answers_of_stream laws name calls)
          (only_alone (calls_of eq name calls) None tt (recursion_from_All (GivesCut payload) _ gives)
          (stays_kept limit eq keep name calls stays)))

      pub cuts_come : is_complete (fragments_of (calls_of eq name calls)) ≡ true
          → Any (ReturnsPayload payload) (answers_of eq name calls (answers_to limit eq keep calls))
      cuts_come complete =
          rw (answers_of_stream laws name calls)
          (comes_alone (calls_of eq name calls) None tt (recursion_from_All (GivesCut payload) _ gives)
          (stays_kept limit eq keep name calls stays) refl complete)

      -- The fragments of such calls are cuts.
      given_cuts : (given : List (Call T C V)) → AllByRecursion (GivesCut payload) given
          → AllByRecursion (IsCut payload) (fragments_of given)
      given_cuts [] all = tt
      given_cuts (gives_frame None timestamp channel ∷ given) all = given_cuts given all.1
      given_cuts (gives_frame (Some carried) timestamp channel ∷ given) all = (all.0.0, given_cuts given all.1)
      given_cuts (drops_streams value ∷ given) all = given_cuts given all.1
      given_cuts (returns_buffer ∷ given) all = given_cuts given all.1

      pub all_cuts : AllByRecursion (IsCut payload) (fragments_of (calls_of eq name calls))
      all_cuts = given_cuts (calls_of eq name calls) (recursion_from_All (GivesCut payload) _ gives)
