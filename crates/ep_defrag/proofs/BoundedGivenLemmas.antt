-- Streams of a bounded pool under the policy `Discard`: their state by the fragments that they were given.
use Rattle.std.proofs.Common.{◌≡◌, ℕ, ◌+◌, Bool, true, false, not, ◌||◌, cond, List, [], ◌∷◌, ◌++◌, length, map}
use Rattle.std.proofs.Common.{Option, Some, None, is_some, sym, refl, ap, subst, ◌∙◌, ◌⊎◌, inl, inr, nat_lt}
use Rattle.std.specs.Cmp.{IsEquivalence}
use Rattle.std.specs.List.{All, AllByRecursion, list_any, filter}
use Rattle.std.specs.Option.{unwrap_or}
use Rattle.std.proofs.lemmas.Bool.{cases_Bool, false≢true}
use Rattle.std.proofs.lemmas.List.Folds.{list_any-append}
use Rattle.std.proofs.lemmas.List.Elements.{All-from_recursion}
use Rattle.ep_defrag.specs.declared.ip_defrag_error.IpDefragError.{IpDefragError}
use Rattle.ep_defrag.specs.declared.ip_defrag_error.IpDefragError.TheVariants.{AllocationFailure}
use Rattle.ep_defrag.specs.declared.ip_frag_id.IpFragId.{IpFragId}
use Rattle.ep_defrag.specs.declared.bounded_limits.DefragLimits.{DefragLimits}
use Rattle.ep_defrag.specs.declared.bounded_limits.OverlapPolicy.{OverlapPolicy}
use Rattle.ep_defrag.specs.declared.bounded_limits.OverlapPolicy.TheVariants.{Discard}
use Rattle.ep_defrag.specs.declared.bounded_defrag_error.BoundedDefragError.{BoundedDefragError}
use Rattle.ep_defrag.specs.declared.bounded_defrag_error.BoundedDefragError.TheVariants.{Rejected, Discarded, OverBudget}
use Rattle.ep_defrag.specs.declared.evicted_stream.EvictionCause.TheVariants.{Expired, Bytes}
use Rattle.ep_defrag.specs.IpFragments.{IpFragment, fragment_end, assembled, is_complete}
use Rattle.ep_defrag.specs.FragmentRefusals.{refusal_within}
use Rattle.ep_defrag.specs.Streams.{same_stream}
use Rattle.ep_defrag.specs.Calls.{Payload}
use Rattle.ep_defrag.specs.BoundedOverlaps.{contradicts, all_kept, discards_stream}
use Rattle.ep_defrag.specs.BoundedSteps.{Row, row_named, other_rows, are_within, Gone, gone_for, is_expiry, remaining}
use Rattle.ep_defrag.specs.BoundedSteps.{evicted_for_limits, is_expired, is_due, expires_for}
use Rattle.ep_defrag.specs.BoundedSteps.{fragment_rejected, payload_complete, Step, quiet_step}
use Rattle.ep_defrag.specs.BoundedSteps.{rejecting_step, Fate, is_rejected, discards, is_accepted}
use Rattle.ep_defrag.specs.BoundedSteps.{fate_at, accepted_before, rows_discarding}
use Rattle.ep_defrag.specs.BoundedSteps.{payload_by, discarding_step, accepting_step, fated_step, fragment_step}
use Rattle.ep_defrag.specs.BoundedSteps.{BoundedCall, gives_fragment, expires_names, removes_name, clears_names, call_step}
use Rattle.ep_defrag.specs.BoundedRuns.{Made, rows_from, is_own_expiry, Lone, lone_open, lone_discarded, lone_complete}
use Rattle.ep_defrag.specs.BoundedRuns.{lone_extended, lone_unless, lone_with, lone_after, AgreesUnlessRejected}
use Rattle.ep_defrag.specs.BoundedGiven.{is_failed_allocation, given_with, given_before, given_at, given_after, given_from}
use Rattle.ep_defrag.proofs.BoundedKeptLemmas.{all_kept-undisputed}
use Rattle.ep_defrag.proofs.BoundedAgreeLemmas.{all_cuts}
use Rattle.ep_defrag.proofs.BoundedRowLemmas.{others_other, others_own, accepted_row, appended_rows, appended_own}
use Rattle.ep_defrag.proofs.BoundedRowLemmas.{appended_other, appended_are}
use Rattle.ep_defrag.proofs.BoundedRowLemmas.{state_of, name_cases, is_discarded, is_usable, fate_case, by_test, by_error, by_none}
use Rattle.ep_defrag.proofs.BoundedRowLemmas.{all_filtered, AreRows, IsLater, named_alike, AreRows-filter, none_later}
use Rattle.ep_defrag.proofs.BoundedRowLemmas.{same_named}
use Rattle.ep_defrag.proofs.BoundedRowLemmas.{not_starved}
use Rattle.ep_defrag.proofs.BoundedOrderLemmas.{rows_after}
use Rattle.ep_defrag.proofs.BoundedAloneLemmas.{call_holds, inner_holds}

-- ---- one more fragment
lone_after-push : (limit : ℕ) (lone : Lone) (given : List IpFragment) (fragment : IpFragment)
    → lone_after limit lone (given ++ fragment ∷ []) ≡ lone_with limit (lone_after limit lone given) fragment
lone_after-push limit lone [] fragment = refl
lone_after-push limit lone (first ∷ given) fragment = lone_after-push limit (lone_with limit lone first) given fragment

module _ {C : Type 0} (eq : C → C → Bool) (laws : IsEquivalence eq) where
  -- ---- the row of a name in parts of a table
  -- The row of a name in a part of a table is absent, or its row in the table.
  abbrev IsPartly : Option (Row C) → Option (Row C) → Type 0
  IsPartly part entire = (part ≡ None) ⊎ (part ≡ entire)

  partly_both : (a b c : Option (Row C)) → IsPartly a b → IsPartly b c → IsPartly a c
  partly_both a b c (inl none) second = inl none
  partly_both a b c (inr same) (inl none) = inl (same ∙ none)
  partly_both a b c (inr same) (inr other) = inr (same ∙ other)

  filtered_named : (p : Row C → Bool) (bound : ℕ) (rows : List (Row C)) (name : IpFragId C) → AreRows eq laws bound rows
      → IsPartly (row_named eq name (filter p rows)) (row_named eq name rows)
  filtered_named p bound [] name are = inr refl
  filtered_named p bound (row ∷ later) name are = elim (cases_Bool (same_stream eq row.id name)) [
    | inl alike ↦ elim (cases_Bool (p row)) [
      | inl passes ↦ inr (rw (passes, alike) refl)
      | inr fails ↦
          let none : row_named eq name (filter p later) ≡ None =
          none_later eq laws row (filter p later) name (all_filtered (IsLater eq laws row) p later are.1) alike in
          inl (rw fails none)
    ]
    | inr differs ↦
        let rest = filtered_named p bound later name are.2 in
        elim (cases_Bool (p row)) [
          | inl passes ↦ rw (passes, differs) rest
          | inr fails ↦ rw (fails, differs) rest
        ]
  ]

  remaining_named : (limits : DefragLimits) (bound : ℕ) (rows : List (Row C)) (name : IpFragId C)
      → AreRows eq laws bound rows → IsPartly (row_named eq name (remaining limits rows)) (row_named eq name rows)
  remaining_named limits bound [] name are = inr refl
  remaining_named limits bound (row ∷ later) name are = elim (cases_Bool (are_within limits (row ∷ later))) [
    | inl all ↦ inr (rw all refl)
    | inr some ↦
        let rest = remaining_named limits bound later name are.2 in
        let same : row_named eq name (remaining limits (row ∷ later)) ≡ row_named eq name (remaining limits later) =
        rw some refl in
        elim (cases_Bool (same_stream eq row.id name)) [
          | inl alike ↦
              let none : row_named eq name later ≡ None = none_later eq laws row later name are.1 alike in
              inl (same ∙ none_partly _ _ rest none)
          | inr differs ↦
              let skip : row_named eq name (row ∷ later) ≡ row_named eq name later = rw differs refl in
              elim rest [ inl none ↦ inl (same ∙ none) | inr found ↦ inr (same ∙ found ∙ sym skip) ]
        ]
  ]
    where
      none_partly : (part entire : Option (Row C)) → IsPartly part entire → entire ≡ None → part ≡ None
      none_partly part entire (inl absent) none = absent
      none_partly part entire (inr same) none = same ∙ none

  -- A name that is discarded has no stream.
  discarded_state : (rows : List (Row C)) (name : IpFragId C)
      → is_some (row_named eq name (rows_discarding eq name rows)) ≡ true
      → state_of (row_named eq name (rows_discarding eq name rows)) ≡ lone_discarded
  discarded_state [] name some = absurd (false≢true some)
  discarded_state (row ∷ rows) name some = elim (cases_Bool (same_stream eq row.id name)) [
    | inl own ↦ rw (own, own) refl
    | inr away ↦ rw (away, away) (discarded_state rows name (rw (away, away) at some))
  ]

  pub discarded_other : (rows : List (Row C)) (name other : IpFragId C) → same_stream eq name other ≡ false
      → row_named eq other (rows_discarding eq name rows) ≡ row_named eq other rows
  discarded_other [] name other differs = refl
  discarded_other (row ∷ rows) name other differs = elim (cases_Bool (same_stream eq row.id name)) [
    | inl own ↦
        let away : same_stream eq row.id other ≡ false =
        (named_alike eq laws).congr row.id name other own ∙ differs in
        rw (own, away) (discarded_other rows name other differs)
    | inr not_own ↦ rw not_own
        (ap (cond (same_stream eq row.id other) (Some row)) (discarded_other rows name other differs))
  ]

  -- ---- expiry of a name
  module _ (limits : DefragLimits) (now : ℕ) (name : IpFragId C) where
    abbrev expires : Row C → Bool
    expires row = expires_for limits eq now name row

    abbrev stays : Row C → Bool
    stays row = not ((expires) row)

    none_expires : (row : Row C) (later : List (Row C)) → AllByRecursion (IsLater eq laws row) later
        → same_stream eq row.id name ≡ true → filter (expires) later ≡ []
    none_expires row [] all alike = refl
    none_expires row (other ∷ later) all alike =
        let differs : same_stream eq other.id name ≡ false =
        (named_alike eq laws).symm other.id name ∙ sym ((named_alike eq laws).congr row.id name other.id alike)
        ∙ all.0.1 in
        rw differs (none_expires row later all.1 alike)

    data ExpiryCase (rows : List (Row C)) : Type 0 where
      none_expired : filter (expires) rows ≡ []
          → row_named eq name (filter (stays) rows) ≡ row_named eq name rows → ExpiryCase rows
      own_expired : list_any (is_own_expiry eq name) (map (gone_for Expired) (filter (expires) rows)) ≡ true
          → row_named eq name (filter (stays) rows) ≡ None → ExpiryCase rows

    expiry_case : (bound : ℕ) (rows : List (Row C)) → AreRows eq laws bound rows → ExpiryCase rows
    expiry_case bound [] are = none_expired refl refl
    expiry_case bound (row ∷ later) are = elim (cases_Bool (same_stream eq row.id name)) [
      | inl alike ↦ elim (cases_Bool (is_expired limits now row)) [
        | inl old ↦
            own_expired (rw (alike, old, alike) refl)
            (rw (alike, old)
            (none_later eq laws row (filter (stays) later) name
            (all_filtered (IsLater eq laws row) (stays) later are.1) alike))
        | inr young ↦
            none_expired (rw (alike, young) (none_expires row later are.1 alike)) (rw (alike, young, alike) refl)
      ]
      | inr differs ↦ elim (expiry_case bound later are.2) [
        | none_expired none same ↦ none_expired (rw differs none) (rw (differs, differs) same)
        | own_expired some none ↦ own_expired (rw differs some) (rw (differs, differs) none)
      ]
    ]

  -- ---- the rows of names after an accepted fragment
  module _ (rows : List (Row C)) (name : IpFragId C) (fragment : IpFragment) (number : ℕ)
      (are : AreRows eq laws number rows) where
    abbrev old : Option (Row C)
    old = row_named eq name rows

    -- Holds if the step leaves the row of another name, or evicts the name.
    record KeepsOther (other : IpFragId C) (step : Step C) : Type 0 where
      kept : IsPartly (row_named eq other step.rows) (row_named eq other rows)

    accepted_kept : (limits : DefragLimits) (now space : ℕ) (other : IpFragId C) → same_stream eq name other ≡ false
        → KeepsOther other (fated_step limits eq rows name fragment now number (Some space) is_accepted)
    accepted_kept limits now space other differs =
        choose (is_complete (accepted_before (old) ++ fragment ∷ []))
        (nat_lt limits.bytes (accepted_row eq laws rows name fragment number are now space).room)
        (record { kept = inr (others_other eq laws rows name fragment number are other differs) })
        (record { kept = inr (others_other eq laws rows name fragment number are other differs) })
        (record {
          kept = partly_both
              (row_named eq other (remaining limits (appended_rows eq laws rows name fragment number are now space)))
              (row_named eq other (appended_rows eq laws rows name fragment number are now space))
              (row_named eq other rows)
              (remaining_named limits (number + 1) (appended_rows eq laws rows name fragment number are now space) other
              (appended_are eq laws rows name fragment number are now space))
              (inr (appended_other eq laws rows name fragment number are now space other differs));
        })
      where
        choose : {x y z : Step C} (a b : Bool) → KeepsOther other x → KeepsOther other y → KeepsOther other z
            → KeepsOther other (cond a x (cond b y z))
        choose true b first second third = first
        choose false true first second third = second
        choose false false first second third = third

    -- A fragment leaves the rows of other names, unless they are evicted for the limits.
    others_kept : (limits : DefragLimits) (now : ℕ) (granted : Option ℕ) (fate : Fate) (other : IpFragId C)
        → same_stream eq name other ≡ false
        → IsPartly (row_named eq other (fated_step limits eq rows name fragment now number granted fate).rows)
        (row_named eq other rows)
    others_kept limits now granted (is_rejected error) other differs = inr refl
    others_kept limits now granted discards other differs = inr (discarded_other rows name other differs)
    others_kept limits now None is_accepted other differs = inr refl
    others_kept limits now (Some space) is_accepted other differs = (accepted_kept limits now space other differs).kept

  -- ---- a fragment of a name that does not expire
  module _ (limits : DefragLimits) (strict : limits.overlap ≡ Discard) where
    -- stream after these fragments
    abbrev lone_of : List IpFragment → Lone
    lone_of given = lone_after limits.payload (lone_open []) given

    pub test_is : (accepted : List IpFragment) (fragment : IpFragment) (error : Option IpDefragError)
        → discards_stream limits.overlap error (contradicts (all_kept limits.overlap accepted) fragment)
        ≡ discards_stream Discard error (contradicts accepted fragment)
    test_is accepted fragment error =
        ap (λ (policy : OverlapPolicy).
        discards_stream policy error (contradicts (all_kept policy accepted) fragment)) strict
        ∙ ap (λ (kept : List IpFragment). discards_stream Discard error (contradicts kept fragment))
        (all_kept-undisputed [] accepted)

    -- Effect of a fragment on an open stream, by the policy and its error.
    lone_step : (accepted : List IpFragment) (fragment : IpFragment) (test : Bool) (error : Option IpDefragError)
        → discards_stream limits.overlap (refusal_within limits.payload accepted fragment)
        (contradicts (all_kept limits.overlap accepted) fragment) ≡ test
        → refusal_within limits.payload accepted fragment ≡ error
        → lone_with limits.payload (lone_open accepted) fragment ≡ lone_unless test error accepted fragment
    lone_step accepted fragment test error tested is =
        ap (λ (t : Bool). lone_unless t (refusal_within limits.payload accepted fragment) accepted fragment)
        (sym (test_is accepted fragment (refusal_within limits.payload accepted fragment)) ∙ tested)
        ∙ ap (λ (e : Option IpDefragError). lone_unless test e accepted fragment) is

    module _ (rows : List (Row C)) (name : IpFragId C) (fragment : IpFragment) (number : ℕ)
        (are : AreRows eq laws number rows) (given : List IpFragment)
        (state : lone_of given ≡ state_of (row_named eq name rows)) where
      -- Holds if the fragment completes the stream with this payload.
      pub record Completed (payload : Payload) : Type 0 where
        pub accepted : List IpFragment
        pub whole : List IpFragment
        pub begun : lone_of given ≡ lone_open accepted
        pub ended : lone_with limits.payload (lone_open accepted) fragment ≡ lone_complete whole
        pub bytes : payload.bytes ≡ assembled whole

      -- Holds if the step leaves the name in the state that its fragments have.
      pub record Follows (step : Step C) : Type 0 where
        pub after : is_some (row_named eq name step.rows) ≡ true
            → lone_of (given_with given step fragment) ≡ state_of (row_named eq name step.rows)
        pub payload : (payload : Payload) → step.answer ≡ payload_complete payload → Completed payload

      pushed : lone_of (given ++ fragment ∷ []) ≡ lone_with limits.payload (state_of (row_named eq name rows)) fragment
      pushed =
          lone_after-push limits.payload (lone_open []) given fragment
          ∙ ap (λ (lone : Lone). lone_with limits.payload lone fragment) state

      rejected_follows : (error : BoundedDefragError) → is_failed_allocation (fragment_rejected error) ≡ false
          → lone_with limits.payload (state_of (row_named eq name rows)) fragment ≡ state_of (row_named eq name rows)
          → Follows (rejecting_step rows error)
      rejected_follows error fine same = record {
        after = λ some. rw fine ((pushed) ∙ same);
        payload = λ payload done. absurd (cc);
      }

      starved_follows : (len : ℕ) → Follows (rejecting_step rows (Rejected (AllocationFailure len)))
      starved_follows len = record {
        after = λ some. state;
        payload = λ payload done. absurd (cc);
      }

      discarding_follows : lone_with limits.payload (state_of (row_named eq name rows)) fragment ≡ lone_discarded
          → Follows (discarding_step eq name rows)
      discarding_follows ends = record {
        after = λ some. (pushed) ∙ ends ∙ sym (discarded_state rows name some);
        payload = λ payload done. absurd (cc);
      }

      -- ---- an accepted fragment
      module _ (now space : ℕ) (usable : state_of (row_named eq name rows) ≡ lone_open
          (accepted_before (row_named eq name rows)))
          (extends : lone_with limits.payload (lone_open (accepted_before (row_named eq name rows))) fragment
          ≡ lone_extended (accepted_before (row_named eq name rows) ++ fragment ∷ [])) where
        abbrev accepted : List IpFragment
        accepted = accepted_before (row_named eq name rows) ++ fragment ∷ []

        extended : lone_with limits.payload (state_of (row_named eq name rows)) fragment ≡ lone_extended (accepted)
        extended = ap (λ (lone : Lone). lone_with limits.payload lone fragment) usable ∙ extends

        complete_follows : is_complete (accepted) ≡ true
            → Follows (record (quiet_step (other_rows eq name rows)) {
              begun = not (is_some (row_named eq name rows));
              answer = payload_complete
                  (payload_by limits (accepted_row eq laws rows name fragment number are now space).id (accepted));
              completed = accepted;
            })
        complete_follows complete = record {
          after = λ some. absurd
              (false≢true (sym (ap is_some (others_own eq laws rows name fragment number are)) ∙ some));
          payload = λ payload done.
              let same : payload_by limits (accepted_row eq laws rows name fragment number are now space).id (accepted)
              ≡ payload = cc in
              record {
                accepted = accepted_before (row_named eq name rows);
                whole = accepted;
                begun = state ∙ usable;
                ended = extends ∙ rw complete refl;
                bytes =
                    ap (λ (one : Payload). one.bytes) (sym same)
                    ∙ ap (λ (policy : OverlapPolicy). assembled (all_kept policy (accepted))) strict
                    ∙ ap assembled (all_kept-undisputed [] (accepted));
              };
        }

        budget_follows : Follows (record (rejecting_step (other_rows eq name rows) OverBudget) {
          gone = gone_for Bytes (unwrap_or (row_named eq name rows)
              (accepted_row eq laws rows name fragment number are now space)) ∷ [];
          begun = not (is_some (row_named eq name rows));
        })
        budget_follows = record {
          after = λ some. absurd
              (false≢true (sym (ap is_some (others_own eq laws rows name fragment number are)) ∙ some));
          payload = λ payload done. absurd (cc);
        }

        staying_state : (found : Option (Row C))
            → IsPartly found (row_named eq name (appended_rows eq laws rows name fragment number are now space))
            → is_some found ≡ true → state_of found ≡ lone_open (accepted)
        staying_state found (inl none) some = absurd (false≢true (sym (ap is_some none) ∙ some))
        staying_state found (inr same) some =
            ap state_of (same ∙ appended_own eq laws rows name fragment number are now space)

        staying_follows : is_complete (accepted) ≡ false
            → Follows
            (record (quiet_step (remaining limits (appended_rows eq laws rows name fragment number are now space))) {
              gone = evicted_for_limits limits (appended_rows eq laws rows name fragment number are now space);
              begun = not (is_some (row_named eq name rows));
            })
        staying_follows incomplete = record {
          after = λ some.
              (pushed)
              ∙ extended
              ∙ rw incomplete refl
              ∙ sym
              (staying_state
              (row_named eq name (remaining limits (appended_rows eq laws rows name fragment number are now space)))
              (remaining_named limits (number + 1) (appended_rows eq laws rows name fragment number are now space) name
              (appended_are eq laws rows name fragment number are now space)) some);
          payload = λ payload done. absurd (cc);
        }

        accepting_follows : Follows (accepting_step limits (row_named eq name rows) (other_rows eq name rows)
            (accepted_row eq laws rows name fragment number are now space) (accepted))
        accepting_follows =
            choose (is_complete (accepted))
            (nat_lt limits.bytes (accepted_row eq laws rows name fragment number are now space).room)
            complete_follows (λ _. budget_follows)
            staying_follows
          where
            choose : {x y z : Step C} (a b : Bool) → (a ≡ true → Follows x) → (b ≡ true → Follows y)
                → (a ≡ false → Follows z) → Follows (cond a x (cond b y z))
            choose true b first second third = first refl
            choose false true first second third = second refl
            choose false false first second third = third refl

      granted_follows : (now : ℕ) (granted : Option ℕ)
          → state_of (row_named eq name rows) ≡ lone_open (accepted_before (row_named eq name rows))
          → lone_with limits.payload (lone_open (accepted_before (row_named eq name rows))) fragment
          ≡ lone_extended (accepted_before (row_named eq name rows) ++ fragment ∷ [])
          → Follows (fated_step limits eq rows name fragment now number granted is_accepted)
      granted_follows now None usable extends = starved_follows (fragment_end fragment)
      granted_follows now (Some space) usable extends = accepting_follows now space usable extends

      pub fated_follows : (now : ℕ) (granted : Option ℕ)
          → Follows (fated_step limits eq rows name fragment now number granted
          (fate_at limits (row_named eq name rows) fragment))
      fated_follows now granted = elim (name_cases limits (row_named eq name rows) fragment) [
        | is_discarded ended fate ↦
            subst (λ (fate : Fate). Follows (fated_step limits eq rows name fragment now number granted fate))
            (sym fate)
            (rejected_follows Discarded refl
            (ap (λ (lone : Lone). lone_with limits.payload lone fragment) ended ∙ sym ended))
        | is_usable usable fate ↦
            let accepted = accepted_before (row_named eq name rows) in
            let on_open = ap (λ (lone : Lone). lone_with limits.payload lone fragment) usable in
            subst (λ (fate : Fate). Follows (fated_step limits eq rows name fragment now number granted fate))
            (sym fate)
            (elim (fate_case
            (discards_stream limits.overlap (refusal_within limits.payload accepted fragment)
            (contradicts (all_kept limits.overlap accepted) fragment))
            (refusal_within limits.payload accepted fragment)) [
              | by_test tested is ↦
                  subst (λ (fate : Fate). Follows (fated_step limits eq rows name fragment now number granted fate))
                  (sym is)
                  (discarding_follows (on_open ∙ lone_step accepted fragment true _ tested refl))
              | by_error error tested refused is ↦
                  subst (λ (fate : Fate). Follows (fated_step limits eq rows name fragment now number granted fate))
                  (sym is)
                  (rejected_follows (Rejected error) (not_starved limits.payload _ _ fragment error refused)
                  (on_open ∙ lone_step accepted fragment false (Some error) tested refused ∙ sym usable))
              | by_none tested fits is ↦
                  subst (λ (fate : Fate). Follows (fated_step limits eq rows name fragment now number granted fate))
                  (sym is)
                  (granted_follows now granted usable (lone_step accepted fragment false None tested fits))
            ])
      ]

    -- ---- a call
    module _ (rows : List (Row C)) (number : ℕ) (are : AreRows eq laws number rows) where
      module _ (passed : IpFragId C) (fragment : IpFragment) (now : ℕ) (granted : Option ℕ) where
        abbrev kept : List (Row C)
        kept = filter (λ row. not (expires_for limits eq now passed row)) rows

        pub kept_are : AreRows eq laws number (kept)
        kept_are = AreRows-filter eq laws number (λ row. not (expires_for limits eq now passed row)) rows are

        abbrev inner : Step C
        inner =
            fated_step limits eq (kept) passed fragment now number granted
            (fate_at limits (row_named eq passed (kept)) fragment)

        abbrev step : Step C
        step = fragment_step limits eq rows passed fragment now number granted

        none_own : (gone : List (Gone C)) → AllByRecursion (λ one. is_expiry one.cause ≡ false) gone
            → list_any (is_own_expiry eq passed) gone ≡ false
        none_own [] all = refl
        none_own (one ∷ gone) all = rw all.0 (none_own gone all.1)

        or_false : (a : Bool) → (a || false) ≡ a
        or_false true = refl
        or_false false = refl

        expired_test : list_any (is_own_expiry eq passed) (step).gone
            ≡ list_any (is_own_expiry eq passed)
            (map (gone_for Expired) (filter (λ row. expires_for limits eq now passed row) rows))
        expired_test =
            let expired = map (gone_for Expired) (filter (λ row. expires_for limits eq now passed row) rows) in
            list_any-append (is_own_expiry eq passed) expired (inner).gone
            ∙ ap (λ t. list_any (is_own_expiry eq passed) expired || t)
            (none_own (inner).gone
            (inner_holds eq laws limits rows passed fragment now number granted are).not_expired)
            ∙ or_false (list_any (is_own_expiry eq passed) expired)

        module _ (given : List IpFragment) (state : lone_of given ≡ state_of (row_named eq passed rows)) where
          pub kept_state : lone_of (given_before eq passed given (step)) ≡ state_of (row_named eq passed (kept))
          kept_state = elim (expiry_case limits now passed number rows are) [
            | none_expired none same ↦
                let test : list_any (is_own_expiry eq passed) (step).gone ≡ false =
                expired_test
                ∙ ap (λ (some : List (Row C)). list_any (is_own_expiry eq passed) (map (gone_for Expired) some)) none in
                rw test (state ∙ ap state_of (sym same))
            | own_expired some none ↦
                let test : list_any (is_own_expiry eq passed) (step).gone ≡ true = expired_test ∙ some in
                rw test (ap state_of (sym none))
          ]

          pub fragment_follows : Follows (kept) passed fragment number (kept_are)
              (given_before eq passed given (step)) (kept_state) (inner)
          fragment_follows =
              fated_follows (kept) passed fragment number (kept_are) (given_before eq passed given (step)) (kept_state)
              now granted

      reset : (found : Option (Row C)) (list : List IpFragment) → (is_some found ≡ true → lone_of list ≡ state_of found)
          → lone_of (cond (is_some found) list []) ≡ state_of found
      reset None list same = refl
      reset (Some row) list same = same refl

      partly_state : (found entire : Option (Row C)) (given : List IpFragment) → IsPartly found entire
          → lone_of given ≡ state_of entire → is_some found ≡ true → lone_of given ≡ state_of found
      partly_state found entire given (inl none) state some = absurd (false≢true (sym (ap is_some none) ∙ some))
      partly_state found entire given (inr same) state some = state ∙ ap state_of (sym same)

      -- A call leaves a name in the state that its fragments have.
      call_follows : (call : BoundedCall C) (granted : Option ℕ) (name : IpFragId C) (given : List IpFragment)
          → lone_of given ≡ state_of (row_named eq name rows)
          → lone_of (given_after eq name given call (call_step limits eq rows call number granted))
          ≡ state_of (row_named eq name (call_step limits eq rows call number granted).rows)
      call_follows (gives_fragment None now) granted name given state =
          reset (row_named eq name rows) given (λ some. state)
      call_follows (gives_fragment (Some passed) now) granted name given state =
          let after = (step passed.0 passed.1 now granted).rows in
          reset (row_named eq name after)
          (given_at eq name given (gives_fragment (Some passed) now) (step passed.0 passed.1 now granted))
          (λ some. elim (cases_Bool (same_stream eq passed.0 name)) [
            | inl alike ↦
                let same = same_named eq laws after passed.0 name alike in
                let own_state = state ∙ ap state_of (same_named eq laws rows passed.0 name alike) in
                rw alike
                ((fragment_follows passed.0 passed.1 now granted given own_state).after (ap is_some (sym same) ∙ some)
                ∙ ap state_of (sym same))
            | inr differs ↦
                rw differs
                (partly_state (row_named eq name after) (row_named eq name rows) given
                (partly_both (row_named eq name after) (row_named eq name (kept passed.0 passed.1 now granted))
                (row_named eq name rows)
                (others_kept (kept passed.0 passed.1 now granted) passed.0 passed.1 number
                (kept_are passed.0 passed.1 now granted) limits now granted
                (fate_at limits (row_named eq passed.0 (kept passed.0 passed.1 now granted)) passed.1) name differs)
                (filtered_named (λ row. not (expires_for limits eq now passed.0 row)) number rows name are))
                state some)
          ])
      call_follows (expires_names now idle) granted name given state =
          let after = filter (λ row. not (is_due limits now idle row)) rows in
          reset (row_named eq name after) given
          (partly_state (row_named eq name after) (row_named eq name rows) given
          (filtered_named (λ row. not (is_due limits now idle row)) number rows name are) state)
      call_follows (removes_name removed) granted name given state =
          let after = other_rows eq removed rows in
          reset (row_named eq name after) given
          (partly_state (row_named eq name after) (row_named eq name rows) given
          (filtered_named (λ row. not (same_stream eq row.id removed)) number rows name are) state)
      call_follows clears_names granted name given state = refl

    -- ---- lists of calls
    run_follows : (rows : List (Row C)) (number : ℕ) (are : AreRows eq laws number rows) (name : IpFragId C)
        (given : List IpFragment) (calls : List (Made C)) → lone_of given ≡ state_of (row_named eq name rows)
        → lone_of (given_from limits eq name rows number given calls)
        ≡ state_of (row_named eq name (rows_from limits eq rows number calls))
    run_follows rows number are name given [] state = state
    run_follows rows number are name given (made ∷ later) state =
        let step = call_step limits eq rows made.call number made.granted in
        run_follows step.rows (number + 1)
        (call_holds eq laws limits rows made.call number made.granted are).are_rows name
        (given_after eq name given made.call step) later
        (call_follows rows number are made.call made.granted name given state)

    -- A payload agrees with the fragments that its name was given.
    pub payload_agrees : (calls : List (Made C)) (name : IpFragId C) (fragment : IpFragment) (now : ℕ)
        (granted : Option ℕ) (payload : Payload)
        → (fragment_step limits eq (rows_from limits eq [] 0 calls) name fragment now (length calls) granted).answer
        ≡ payload_complete payload
        → All (AgreesUnlessRejected limits.payload payload.bytes)
        (given_at eq name (given_from limits eq name [] 0 [] calls) (gives_fragment (Some (name, fragment)) now)
        (fragment_step limits eq (rows_from limits eq [] 0 calls) name fragment now (length calls) granted))
    payload_agrees calls name fragment now granted payload done =
        let rows = rows_from limits eq [] 0 calls in
        let number = length calls in
        let given = given_from limits eq name [] 0 [] calls in
        let last = fragment_step limits eq rows name fragment now number granted in
        let before = given_before eq name given last in
        let state = run_follows [] 0 tt name [] calls refl in
        let are = rows_after eq laws limits calls in
        let completed = (fragment_follows rows number are name fragment now granted given state).payload payload done in
        let cuts =
        all_cuts limits.payload before fragment completed.accepted completed.whole completed.begun completed.ended in
        let alike : same_stream eq name name ≡ true = (named_alike eq laws).refl name in
        let answered : is_failed_allocation last.answer ≡ false = ap is_failed_allocation done in
        let passed : given_at eq name given (gives_fragment (Some (name, fragment)) now) last ≡ before
        ++ fragment ∷ [] =
        rw (alike, answered) refl in
        subst (λ (list : List IpFragment). All (AgreesUnlessRejected limits.payload payload.bytes) list) (sym passed)
        (subst (λ (bytes : List ℕ). All (AgreesUnlessRejected limits.payload bytes) (before ++ fragment ∷ []))
        (sym completed.bytes)
        (All-from_recursion (AgreesUnlessRejected limits.payload (assembled completed.whole)) (before ++ fragment ∷ [])
        cuts))
