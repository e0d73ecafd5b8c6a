-- Payloads and tables of a bounded pool by its answer to a fragment.
use Rattle.std.proofs.Common.{◌≡◌, ℕ, ◌<◌, Bool, true, false, not, ◌&&◌, cond, nat_lt, length, List, [], ◌∷◌, ◌++◌}
use Rattle.std.proofs.Common.{Option, Some, None, refl, sym, ap, ◌∙◌, ◌⊎◌, inl, inr, arith}
use Rattle.std.specs.Cmp.{IsEquivalence}
use Rattle.std.specs.List.{list_any, filter}
use Rattle.std.proofs.lemmas.Bool.{cases_Bool, false≢true, and_parts, and_right, eqb-true, le-ltb}
use Rattle.std.proofs.lemmas.Bool.Decides.{nat_tests}
use Rattle.ep_defrag.specs.declared.ip_defrag_error.IpDefragError.{IpDefragError}
use Rattle.ep_defrag.specs.declared.ip_defrag_error.IpDefragError.TheVariants.{UnalignedFragmentPayloadLen}
use Rattle.ep_defrag.specs.declared.ip_defrag_error.IpDefragError.TheVariants.{SegmentTooBig, ConflictingEnd}
use Rattle.ep_defrag.specs.declared.ip_defrag_error.IpDefragError.TheVariants.{AllocationFailure}
use Rattle.ep_defrag.specs.declared.ip_frag_id.IpFragId.{IpFragId}
use Rattle.ep_defrag.specs.declared.bounded_limits.DefragLimits.{DefragLimits}
use Rattle.ep_defrag.specs.declared.bounded_limits.OverlapPolicy.{OverlapPolicy}
use Rattle.ep_defrag.specs.declared.bounded_limits.OverlapPolicy.TheVariants.{LastWins, FirstWins, Discard}
use Rattle.ep_defrag.specs.declared.bounded_defrag_error.BoundedDefragError.{BoundedDefragError}
use Rattle.ep_defrag.specs.declared.bounded_defrag_error.BoundedDefragError.TheVariants.{Rejected, Discarded}
use Rattle.ep_defrag.specs.declared.bounded_defrag_error.BoundedDefragError.TheVariants.{OverBudget}
use Rattle.ep_defrag.specs.IpFragments.{IpFragment, is_final, fragment_end, is_covered, assembled, is_complete}
use Rattle.ep_defrag.specs.FragmentRefusals.{is_unaligned, ends_too_early, refusal_within, RefusesWithin}
use Rattle.ep_defrag.specs.Streams.{same_stream, source_of}
use Rattle.ep_defrag.specs.Calls.{Payload}
use Rattle.ep_defrag.specs.BoundedOverlaps.{positions_of, repeats_bytes, contradicts, all_kept, is_conflicting_end}
use Rattle.ep_defrag.specs.BoundedOverlaps.{discards_stream}
use Rattle.ep_defrag.specs.BoundedSteps.{Row, row_named, other_rows, expires_for, fragment_rejected, payload_complete}
use Rattle.ep_defrag.specs.BoundedSteps.{Step, Fate, is_rejected, discards, is_accepted, fate_unless, fate_after}
use Rattle.ep_defrag.specs.BoundedSteps.{fate_in, fate_at, accepted_before, row_with, discarded_row, rows_discarding}
use Rattle.ep_defrag.specs.BoundedSteps.{payload_by, fated_step, fragment_step}
use Rattle.ep_defrag.specs.BoundedDiscards.{IsInConflict, by_end, by_bytes, DiscardsStream, IsDiscarding}
use Rattle.ep_defrag.proofs.BuiltCutLemmas.{same_source}
use Rattle.ep_defrag.proofs.BoundedRowLemmas.{found_alike}
use Rattle.ep_defrag.proofs.BoundedGivenLemmas.{test_is}
use Rattle.ep_defrag.proofs.BoundedFloodLemmas.{own_name, others_unexpired}

-- ---- conflicts with no accepted fragment
none_covered : (positions : List ℕ) → list_any (is_covered []) positions ≡ false
none_covered [] = refl
none_covered (position ∷ positions) = none_covered positions

no_first_end : (limit : ℕ) (fragment : IpFragment) (previous_end conflicting_end : ℕ)
    → RefusesWithin limit [] fragment (ConflictingEnd previous_end conflicting_end) → ⊥
no_first_end limit fragment previous_end conflicting_end refused =
    let late : ends_too_early 0 fragment ≡ false =
    and_right (is_final fragment) _ (le-ltb (fragment_end fragment) 0 (omega arith)) in
    elim (cases_Bool (nat_lt limit (fragment_end fragment))) [
      | inl long ↦ absurd
          (let no : Some (SegmentTooBig fragment.offset (length fragment.bytes) limit)
          ≡ Some (ConflictingEnd previous_end conflicting_end) = rw long at refused in cc)
      | inr short ↦ elim (cases_Bool (is_unaligned fragment)) [
        | inl unaligned ↦ absurd
            (let no : Some (UnalignedFragmentPayloadLen fragment.offset (length fragment.bytes))
            ≡ Some (ConflictingEnd previous_end conflicting_end) = rw (short, unaligned) at refused in cc)
        | inr aligned ↦ absurd
            (let no : None ≡ Some (ConflictingEnd previous_end conflicting_end) =
            rw (short, aligned, late) at refused in cc)
      ]
    ]

-- The first fragment of a stream conflicts with nothing.
no_first_conflict : (limit : ℕ) (fragment : IpFragment) → IsInConflict limit [] fragment → ⊥
no_first_conflict limit fragment (by_end previous_end conflicting_end refused) =
    no_first_end limit fragment previous_end conflicting_end refused
no_first_conflict limit fragment (by_bytes fits differs) =
    let agrees : contradicts [] fragment ≡ false =
    ap (λ shares. shares && not (repeats_bytes [] fragment)) (none_covered (positions_of fragment)) in
    false≢true (sym agrees ∙ differs)

-- ---- what discards under `Discard`
end_of_conflict : (error : IpDefragError) → is_conflicting_end error ≡ true
    → (previous_end : ℕ) × (conflicting_end : ℕ) × (error ≡ ConflictingEnd previous_end conflicting_end)
end_of_conflict (UnalignedFragmentPayloadLen offset payload_len) conflict = absurd (false≢true conflict)
end_of_conflict (SegmentTooBig offset payload_len max) conflict = absurd (false≢true conflict)
end_of_conflict (ConflictingEnd previous_end conflicting_end) conflict = (previous_end, conflicting_end, refl)
end_of_conflict (AllocationFailure len) conflict = absurd (false≢true conflict)

conflict_by : (limit : ℕ) (accepted : List IpFragment) (fragment : IpFragment) (error : Option IpDefragError)
    → refusal_within limit accepted fragment ≡ error
    → discards_stream Discard error (contradicts accepted fragment) ≡ true → IsInConflict limit accepted fragment
conflict_by limit accepted fragment None fits conflict = by_bytes fits conflict
conflict_by limit accepted fragment (Some error) refused conflict =
    let ends = end_of_conflict error conflict in
    by_end ends.0 ends.1 (refused ∙ ap (λ own. Some own) ends.2)

conflict_discards : (limit : ℕ) (accepted : List IpFragment) (fragment : IpFragment)
    → IsInConflict limit accepted fragment
    → discards_stream Discard (refusal_within limit accepted fragment) (contradicts accepted fragment) ≡ true
conflict_discards limit accepted fragment (by_end previous_end conflicting_end refused) =
    ap (λ error. discards_stream Discard error (contradicts accepted fragment)) refused
conflict_discards limit accepted fragment (by_bytes fits differs) =
    ap (λ error. discards_stream Discard error (contradicts accepted fragment)) fits ∙ differs

discarding_policy : (policy : OverlapPolicy) (error : Option IpDefragError) (contradicting : Bool)
    → discards_stream policy error contradicting ≡ true → policy ≡ Discard
discarding_policy LastWins error contradicting discarding = absurd (false≢true discarding)
discarding_policy FirstWins error contradicting discarding = absurd (false≢true discarding)
discarding_policy Discard error contradicting discarding = refl

-- ---- fates
discarding_test : (test : Bool) (error : Option IpDefragError) → fate_unless test error ≡ discards → test ≡ true
discarding_test true error fate = refl
discarding_test false (Some error) fate = absurd (cc)
discarding_test false None fate = absurd (cc)

-- A fragment of a stream that is not discarded is rejected by the refusal table only.
rejection_of : (test : Bool) (error : Option IpDefragError) (own : BoundedDefragError)
    → fate_unless test error ≡ is_rejected own → (refused : IpDefragError) × (own ≡ Rejected refused)
rejection_of true error own fate = absurd (cc)
rejection_of false (Some error) own fate = (error, cc)
rejection_of false None own fate = absurd (cc)

module _ {C : Type 0} (eq : C → C → Bool) (laws : IsEquivalence eq) where
  module _ (limits : DefragLimits) (fragment : IpFragment) where
    rejected_after : (accepted : List IpFragment) (own : BoundedDefragError)
        → fate_after limits accepted fragment ≡ is_rejected own → (refused : IpDefragError) × (own ≡ Rejected refused)
    rejected_after accepted own fate =
        let error = refusal_within limits.payload accepted fragment in
        rejection_of
        (discards_stream limits.overlap error (contradicts (all_kept limits.overlap accepted) fragment)) error own fate

    discarded_after : (accepted : List IpFragment) → fate_after limits accepted fragment ≡ discards
        → (limits.overlap ≡ Discard) × IsInConflict limits.payload accepted fragment
    discarded_after accepted fate =
        let error = refusal_within limits.payload accepted fragment in
        let contradicting = contradicts (all_kept limits.overlap accepted) fragment in
        let tested = discarding_test (discards_stream limits.overlap error contradicting) error fate in
        let strict = discarding_policy limits.overlap error contradicting tested in (
          strict,
          conflict_by limits.payload accepted fragment error refl
              (sym (test_is eq laws limits strict accepted fragment error) ∙ tested),
        )

    after_conflict : (accepted : List IpFragment) → limits.overlap ≡ Discard
        → IsInConflict limits.payload accepted fragment → fate_after limits accepted fragment ≡ discards
    after_conflict accepted strict conflict =
        let error = refusal_within limits.payload accepted fragment in
        ap (λ test. fate_unless test error)
        (test_is eq laws limits strict accepted fragment error
        ∙ conflict_discards limits.payload accepted fragment conflict)

    -- No fragment is rejected with `OverBudget` before memory is granted.
    not_over_budget : (found : Option (Row C)) → fate_at limits found fragment ≡ is_rejected OverBudget → ⊥
    not_over_budget None fate =
        let own = rejected_after [] OverBudget fate in
        let no = own.1 in
        absurd (cc)
    not_over_budget (Some row) fate = in_stream row.accepted fate
      where
        in_stream : (accepted : Option (List IpFragment)) → fate_in limits accepted fragment ≡ is_rejected OverBudget
            → ⊥
        in_stream None fate = absurd (cc)
        in_stream (Some accepted) fate =
            let own = rejected_after accepted OverBudget fate in
            let no = own.1 in
            absurd (cc)

    -- A fragment that discards its stream conflicts with its accepted fragments.
    discarding_found : (found : Option (Row C)) → fate_at limits found fragment ≡ discards
        → IsDiscarding limits found fragment
    discarding_found None fate = absurd (no_first_conflict limits.payload fragment (discarded_after [] fate).1)
    discarding_found (Some row) fate = in_stream row.accepted refl fate
      where
        in_stream : (accepted : Option (List IpFragment)) → row.accepted ≡ accepted
            → fate_in limits accepted fragment ≡ discards → IsDiscarding limits (Some row) fragment
        in_stream None state fate = absurd (cc)
        in_stream (Some accepted) state fate =
            let found = discarded_after accepted fate in (
              row,
              refl,
              inr (record { accepted = accepted; state = state; policy = found.0; conflict = found.1 }),
            )

    -- A fragment that is rejected as discarded has a discarded name.
    discarded_found : (found : Option (Row C)) → fate_at limits found fragment ≡ is_rejected Discarded
        → IsDiscarding limits found fragment
    discarded_found None fate =
        let own = rejected_after [] Discarded fate in
        let no = own.1 in
        absurd (cc)
    discarded_found (Some row) fate = in_stream row.accepted refl fate
      where
        in_stream : (accepted : Option (List IpFragment)) → row.accepted ≡ accepted
            → fate_in limits accepted fragment ≡ is_rejected Discarded → IsDiscarding limits (Some row) fragment
        in_stream None state fate = (row, refl, inl state)
        in_stream (Some accepted) state fate =
            let own = rejected_after accepted Discarded fate in
            let no = own.1 in
            absurd (cc)

    discarded_fate : (found : Option (Row C)) (row : Row C) → found ≡ Some row → row.accepted ≡ None
        → fate_at limits found fragment ≡ is_rejected Discarded
    discarded_fate found row named none =
        ap (λ (own : Option (Row C)). fate_at limits own fragment) named
        ∙ ap (λ accepted. fate_in limits accepted fragment) none

    discarding_fate : (found : Option (Row C)) (row : Row C) → found ≡ Some row → DiscardsStream limits row fragment
        → fate_at limits found fragment ≡ discards
    discarding_fate found row named discarding =
        ap (λ (own : Option (Row C)). fate_at limits own fragment) named
        ∙ ap (λ accepted. fate_in limits accepted fragment) discarding.state
        ∙ after_conflict discarding.accepted discarding.policy discarding.conflict

  -- ---- the answer `Discarded`
  -- Holds if the fate discards the stream, or the name is discarded, if the answer is `Discarded`.
  record IsFated (fate : Fate) (step : Step C) : Type 0 where
    fated : step.answer ≡ fragment_rejected Discarded → (fate ≡ discards) ⊎ (fate ≡ is_rejected Discarded)

  fated_by : (limits : DefragLimits) (rows : List (Row C)) (name : IpFragId C) (fragment : IpFragment)
      (now number : ℕ) (granted : Option ℕ) (fate : Fate)
      → IsFated fate (fated_step limits eq rows name fragment now number granted fate)
  fated_by limits rows name fragment now number granted (is_rejected error) = record {
    fated = λ answer.
        let same : error ≡ Discarded = cc in
        inr (ap (λ own. is_rejected own) same);
  }
  fated_by limits rows name fragment now number granted discards = record { fated = λ answer. inl refl }
  fated_by limits rows name fragment now number None is_accepted = record { fated = λ answer. absurd (cc) }
  fated_by limits rows name fragment now number (Some space) is_accepted =
      let old = row_named eq name rows in
      choose (is_complete (accepted_before old ++ fragment ∷ [])) (nat_lt limits.bytes space)
      (record { fated = λ answer. absurd (cc) })
      (record { fated = λ answer. absurd (cc) })
      (record { fated = λ answer. absurd (cc) })
    where
      choose : {x y z : Step C} (a b : Bool) → IsFated is_accepted x → IsFated is_accepted y → IsFated is_accepted z
          → IsFated is_accepted (cond a x (cond b y z))
      choose true b first second third = first
      choose false true first second third = second
      choose false false first second third = third

  discarded_named : (rows : List (Row C)) (name : IpFragId C) (row : Row C) → row_named eq name rows ≡ Some row
      → row_named eq name (rows_discarding eq name rows) ≡ Some (discarded_row row)
  discarded_named [] name row found = absurd (cc)
  discarded_named (first ∷ rows) name row found = elim (cases_Bool (same_stream eq first.id name)) [
    | inl own ↦
        let some : Some first ≡ Some row = rw own at found in
        let same : first ≡ row = cc in
        rw (own, own) (ap (λ (own : Row C). Some (discarded_row own)) same)
    | inr away ↦ rw (away, away) (discarded_named rows name row (rw away at found))
  ]

  -- ---- the returned payload
  payload_alike : (limits : DefragLimits) (id name : IpFragId C) (accepted : List IpFragment)
      → same_stream eq id name ≡ true → payload_by limits id accepted ≡ payload_by limits name accepted
  payload_alike limits id name accepted alike =
      let first = and_parts _ _ alike in
      let second = and_parts _ _ first.0 in
      let third = and_parts _ _ second.0 in
      let number : id.payload_ip_number.0 ≡ name.payload_ip_number.0 = eqb-true _ _ second.1 in
      let source : source_of id.ip ≡ source_of name.ip = same_source id.ip name.ip third.1 in
      λ i. record {
        ip_number = record { 0 = number i };
        len_source = source i;
        bytes = assembled (all_kept limits.overlap accepted);
      }

  -- Holds if a returned payload is that of the accepted fragments of the name with this fragment.
  record ReturnsAccepted (limits : DefragLimits) (rows : List (Row C)) (name : IpFragId C) (fragment : IpFragment)
      (step : Step C) : Type 0 where
    returned : (payload : Payload) → step.answer ≡ payload_complete payload
        → (payload ≡ payload_by limits name step.completed)
        × (step.completed ≡ accepted_before (row_named eq name rows) ++ fragment ∷ [])
        × (is_complete step.completed ≡ true)

  fated_returned : (limits : DefragLimits) (rows : List (Row C)) (name : IpFragId C) (fragment : IpFragment)
      (now number : ℕ) (granted : Option ℕ) (fate : Fate)
      → ReturnsAccepted limits rows name fragment (fated_step limits eq rows name fragment now number granted fate)
  fated_returned limits rows name fragment now number granted (is_rejected error) =
      record { returned = λ payload answer. absurd (cc) }
  fated_returned limits rows name fragment now number granted discards =
      record { returned = λ payload answer. absurd (cc) }
  fated_returned limits rows name fragment now number None is_accepted =
      record { returned = λ payload answer. absurd (cc) }
  fated_returned limits rows name fragment now number (Some space) is_accepted =
      let old = row_named eq name rows in
      let own = row_with old name fragment now number space in
      let accepted = accepted_before old ++ fragment ∷ [] in
      choose (is_complete accepted) (nat_lt limits.bytes space)
      (λ complete. record {
        returned = λ payload answer.
            let same : payload_by limits own.id accepted ≡ payload = cc in (
              sym same
                  ∙ payload_alike limits own.id name accepted
                  (own_name eq laws old name fragment now number space (found_alike eq laws name rows)),
              refl,
              complete,
            );
      })
      (record { returned = λ payload answer. absurd (cc) })
      (record { returned = λ payload answer. absurd (cc) })
    where
      choose : {x y z : Step C} (a b : Bool) → (a ≡ true → ReturnsAccepted limits rows name fragment x)
          → ReturnsAccepted limits rows name fragment y → ReturnsAccepted limits rows name fragment z
          → ReturnsAccepted limits rows name fragment (cond a x (cond b y z))
      choose true b first second third = first refl
      choose false true first second third = second
      choose false false first second third = third

  -- ---- the answer `OverBudget`
  -- Holds if the answer `OverBudget` means that the stream alone needs more memory than the limits allow.
  record IsBeyond (limits : DefragLimits) (rows : List (Row C)) (name : IpFragId C) (fragment : IpFragment)
      (granted : Option ℕ) (step : Step C) : Type 0 where
    beyond : step.answer ≡ fragment_rejected OverBudget → (space : ℕ) × (granted ≡ Some space) × (limits.bytes < space)
        × (is_complete (accepted_before (row_named eq name rows) ++ fragment ∷ []) ≡ false)
        × (step.rows ≡ other_rows eq name rows)

  fated_beyond : (limits : DefragLimits) (rows : List (Row C)) (name : IpFragId C) (fragment : IpFragment)
      (now number : ℕ) (granted : Option ℕ) (fate : Fate) → (fate ≡ is_rejected OverBudget → ⊥)
      → IsBeyond limits rows name fragment granted (fated_step limits eq rows name fragment now number granted fate)
  fated_beyond limits rows name fragment now number granted (is_rejected error) never = record {
    beyond = λ answer.
        let same : error ≡ OverBudget = cc in
        absurd (never (ap (λ own. is_rejected own) same));
  }
  fated_beyond limits rows name fragment now number granted discards never =
      record { beyond = λ answer. absurd (cc) }
  fated_beyond limits rows name fragment now number None is_accepted never =
      record { beyond = λ answer. absurd (cc) }
  fated_beyond limits rows name fragment now number (Some space) is_accepted never =
      let old = row_named eq name rows in
      choose (is_complete (accepted_before old ++ fragment ∷ [])) (nat_lt limits.bytes space)
      (record { beyond = λ answer. absurd (cc) })
      (λ partial above. record {
        beyond = λ answer. (space, refl, grind (arith, nat_tests, above), partial, refl);
      })
      (record { beyond = λ answer. absurd (cc) })
    where
      choose : {x y z : Step C} (a b : Bool) → IsBeyond limits rows name fragment (Some space) x
          → (a ≡ false → b ≡ true → IsBeyond limits rows name fragment (Some space) y)
          → IsBeyond limits rows name fragment (Some space) z
          → IsBeyond limits rows name fragment (Some space) (cond a x (cond b y z))
      choose true b first second third = first
      choose false true first second third = second refl refl
      choose false false first second third = third

  -- ---- a fragment of a name that may expire
  module _ (limits : DefragLimits) (rows : List (Row C)) (name : IpFragId C) (fragment : IpFragment)
      (now number : ℕ) (granted : Option ℕ) where
    abbrev left : List (Row C)
    left = filter (λ row. not (expires_for limits eq now name row)) rows

    abbrev step : Step C
    step = fragment_step limits eq rows name fragment now number granted

    abbrev fate : Fate
    fate = fate_at limits (row_named eq name (left)) fragment

    pub payload_returned : (payload : Payload) → (step).answer ≡ payload_complete payload
        → (payload ≡ payload_by limits name (step).completed)
        × ((step).completed ≡ accepted_before (row_named eq name (left)) ++ fragment ∷ [])
        × (is_complete (step).completed ≡ true)
    payload_returned payload answer =
        (fated_returned limits (left) name fragment now number granted (fate)).returned payload answer

    pub over_budget : (step).answer ≡ fragment_rejected OverBudget → (space : ℕ) × (granted ≡ Some space)
        × (limits.bytes < space)
        × (is_complete (accepted_before (row_named eq name (left)) ++ fragment ∷ []) ≡ false)
        × ((step).rows ≡ other_rows eq name rows)
    over_budget answer =
        let never = not_over_budget limits fragment (row_named eq name (left)) in
        let found = (fated_beyond limits (left) name fragment now number granted (fate) never).beyond answer in (
          found.0,
          found.1,
          found.2,
          found.3,
          found.4 ∙ others_unexpired eq laws limits now name rows,
        )

    pub discarded_why : (step).answer ≡ fragment_rejected Discarded
        → IsDiscarding limits (row_named eq name (left)) fragment
    discarded_why answer =
        elim ((fated_by limits (left) name fragment now number granted (fate)).fated answer) [
          | inl discarding ↦ discarding_found limits fragment (row_named eq name (left)) discarding
          | inr discarded ↦ discarded_found limits fragment (row_named eq name (left)) discarded
        ]

    step_by : (is : Fate) → (fate) ≡ is
        → ((step).answer ≡ (fated_step limits eq (left) name fragment now number granted is).answer)
        × ((step).rows ≡ (fated_step limits eq (left) name fragment now number granted is).rows)
    step_by is same = (
      ap (λ fate. (fated_step limits eq (left) name fragment now number granted fate).answer) same,
      ap (λ fate. (fated_step limits eq (left) name fragment now number granted fate).rows) same,
    )

    pub discarded_if : IsDiscarding limits (row_named eq name (left)) fragment
        → (step).answer ≡ fragment_rejected Discarded
    discarded_if found = elim found.2 [
      | inl none ↦
          (step_by (is_rejected Discarded)
          (discarded_fate limits fragment (row_named eq name (left)) found.0 found.1 none)).0
      | inr discarding ↦
          (step_by discards
          (discarding_fate limits fragment (row_named eq name (left)) found.0 found.1 discarding)).0
    ]

    pub discarded_stays : (row : Row C) → row_named eq name (left) ≡ Some row → row.accepted ≡ None
        → (step).rows ≡ left
    discarded_stays row named none =
        (step_by (is_rejected Discarded)
        (discarded_fate limits fragment (row_named eq name (left)) row named none)).1

    pub discarding_leaves : (row : Row C) → row_named eq name (left) ≡ Some row → DiscardsStream limits row fragment
        → ((step).rows ≡ rows_discarding eq name (left))
        × (row_named eq name (step).rows ≡ Some (discarded_row row))
    discarding_leaves row named discarding =
        let rows_are =
        (step_by discards (discarding_fate limits fragment (row_named eq name (left)) row named discarding)).1 in (
          rows_are,
          ap (λ (after : List (Row C)). row_named eq name after) rows_are ∙ discarded_named (left) name row named,
        )
