-- Streams of a bounded pool, answered as by an unbounded one until they are dropped.
use Rattle.std.proofs.Common.{◌≡◌, ℕ, ◌+◌, Bool, true, false, not, cond, List, [], ◌∷◌, ◌++◌, map}
use Rattle.std.proofs.Common.{append_assoc, append-nil, Option, Some, None, is_some, sym, refl, ap, subst, ◌∙◌, inl}
use Rattle.std.proofs.Common.{inr, arith, nat_lt}
use Rattle.std.specs.Cmp.{IsEquivalence}
use Rattle.std.specs.List.{AllByRecursion, filter}
use Rattle.std.specs.Option.{unwrap_or}
use Rattle.std.proofs.lemmas.Bool.{cases_Bool, and_parts}
use Rattle.std.proofs.lemmas.List.Elements.{filter-append}
use Rattle.ep_defrag.specs.declared.ip_defrag_error.IpDefragError.{IpDefragError}
use Rattle.ep_defrag.specs.declared.ip_defrag_error.IpDefragError.TheVariants.{AllocationFailure}
use Rattle.ep_defrag.specs.declared.ip_frag_id.IpFragId.{IpFragId}
use Rattle.ep_defrag.specs.declared.bounded_limits.DefragLimits.{DefragLimits}
use Rattle.ep_defrag.specs.declared.bounded_defrag_error.BoundedDefragError.{BoundedDefragError}
use Rattle.ep_defrag.specs.declared.bounded_defrag_error.BoundedDefragError.TheVariants.{Rejected, Discarded, OverBudget}
use Rattle.ep_defrag.specs.declared.evicted_stream.EvictionCause.{EvictionCause}
use Rattle.ep_defrag.specs.declared.evicted_stream.EvictionCause.TheVariants.{Expired, Overlap, Bytes}
use Rattle.ep_defrag.specs.IpFragments.{IpFragment, fragment_end, is_complete}
use Rattle.ep_defrag.specs.FragmentRefusals.{refusal_within}
use Rattle.ep_defrag.specs.Streams.{same_stream}
use Rattle.ep_defrag.specs.Calls.{Call, Kept, accepted_in, kept_of, kept_by}
use Rattle.ep_defrag.specs.Calls.{kept_unless, kept_with, answer_unless, table_after, Answer}
use Rattle.ep_defrag.specs.Calls.{streams_dropped, answer_to, answers_after, answers_to, table_with}
use Rattle.ep_defrag.specs.BoundedSteps.{Row, row_named, other_rows, Gone, gone_for, is_expiry}
use Rattle.ep_defrag.specs.BoundedSteps.{remaining, evicted_for_limits, is_expired, is_due, expires_for, BoundedAnswer}
use Rattle.ep_defrag.specs.BoundedSteps.{fragment_rejected, payload_complete, nothing_complete, Step, quiet_step}
use Rattle.ep_defrag.specs.BoundedSteps.{rejecting_step, Fate, is_accepted}
use Rattle.ep_defrag.specs.BoundedSteps.{fate_at, accepted_before, row_with, rows_discarding}
use Rattle.ep_defrag.specs.BoundedSteps.{payload_by, discarding_step, accepting_step, fated_step, fragment_step, BoundedCall}
use Rattle.ep_defrag.specs.BoundedSteps.{gives_fragment, expires_names, removes_name, clears_names, call_step}
use Rattle.ep_defrag.specs.BoundedRuns.{Made, drops_number, is_left_out, is_left_out_error, frame_of, drop_of}
use Rattle.ep_defrag.specs.BoundedRuns.{is_own_expiry, calls_for, answer_for, dropped_for, answers_for, alone_from}
use Rattle.ep_defrag.specs.BoundedRuns.{alone_answers_from}
use Rattle.ep_defrag.proofs.CallLemmas.{table_after-push}
use Rattle.ep_defrag.proofs.BoundedRowLemmas.{appended_rows, appended_own, appended_other, appended_are}
use Rattle.ep_defrag.proofs.BoundedRowLemmas.{name_cases, is_discarded, is_usable, fate_case}
use Rattle.ep_defrag.proofs.BoundedRowLemmas.{filtered_pass, not_starved}
use Rattle.ep_defrag.proofs.BoundedRowLemmas.{kept_at, table_of, accepted_at_row}
use Rattle.ep_defrag.proofs.BoundedRowLemmas.{drops_all, by_test}
use Rattle.ep_defrag.proofs.BoundedRowLemmas.{by_error, by_none, AreRows}
use Rattle.ep_defrag.proofs.BoundedRowLemmas.{AreRows-filter, AreRows-more, same_named}
use Rattle.ep_defrag.proofs.BoundedRowLemmas.{drops_filtered, drops_every, drops_for_limits}
use Rattle.ep_defrag.proofs.BoundedRowLemmas.{AreRows-remaining, others_named, discarded_named, AreRows-discarding}
use Rattle.ep_defrag.proofs.BoundedRowLemmas.{keeps_below, only_own}
use Rattle.ep_defrag.proofs.BoundedRowLemmas.{limit_kinds}

module _ {C : Type 0} (eq : C → C → Bool) (laws : IsEquivalence eq) where
  module _ (limits : DefragLimits) where
    abbrev Table : Type 0
    Table = IpFragId C → Option (Kept ℕ)

    -- table after calls on an unbounded pool, and their answers, from this table on
    abbrev tables_after : Table → List (Call ℕ C ℕ) → Table
    tables_after table [] = table
    tables_after table (call ∷ calls) = tables_after (table_with limits.payload eq drops_number table call) calls

    abbrev answers_from : Table → List (Call ℕ C ℕ) → List Answer
    answers_from table [] = []
    answers_from table (call ∷ calls) =
        answer_to limits.payload table call
        ∷ answers_from (table_with limits.payload eq drops_number table call) calls

    from_table : (earlier calls : List (Call ℕ C ℕ))
        → answers_after limits.payload eq drops_number earlier calls
        ≡ answers_from (table_after limits.payload eq drops_number earlier) calls
    from_table earlier [] = refl
    from_table earlier (call ∷ calls) =
        ap (λ answers.
        answer_to limits.payload (table_after limits.payload eq drops_number earlier) call ∷ answers)
        (from_table (earlier ++ call ∷ []) calls
        ∙ ap (λ (table : Table). answers_from table calls)
        (λ i name. table_after-push limits.payload eq drops_number earlier call name i))

    answers_from-append : (table : Table) (first second : List (Call ℕ C ℕ))
        → answers_from table (first ++ second) ≡ answers_from table first
        ++ answers_from (tables_after table first) second
    answers_from-append table [] second = refl
    answers_from-append table (call ∷ first) second =
        ap (λ answers. answer_to limits.payload table call ∷ answers)
        (answers_from-append (table_with limits.payload eq drops_number table call) first second)

    tables_after-append : (table : Table) (first second : List (Call ℕ C ℕ))
        → tables_after table (first ++ second) ≡ tables_after (tables_after table first) second
    tables_after-append table [] second = refl
    tables_after-append table (call ∷ first) second =
        tables_after-append (table_with limits.payload eq drops_number table call) first second

    dropped_answers : (table : Table) (rows : List (Row C)) → answers_from table (map drop_of rows) ≡ dropped_for rows
    dropped_answers table [] = refl
    dropped_answers table (row ∷ rows) =
        ap (λ answers. streams_dropped ∷ answers)
        (dropped_answers (table_with limits.payload eq drops_number table (drop_of row)) rows)

    dropped_table : (table : Table) (rows : List (Row C)) (name : IpFragId C)
        → tables_after table (map drop_of rows) name ≡ drops_all rows (table name)
    dropped_table table [] name = refl
    dropped_table table (row ∷ rows) name =
        dropped_table (table_with limits.payload eq drops_number table (drop_of row)) rows name

    -- the rows of evicted names
    abbrev rows_gone : List (Gone C) → List (Row C)
    rows_gone gone = map (λ one. one.row) gone

    drops_gone : (gone : List (Gone C)) → map (λ one. drop_of one.row) gone ≡ map drop_of (rows_gone gone)
    drops_gone [] = refl
    drops_gone (one ∷ gone) = ap (λ calls. drop_of one.row ∷ calls) (drops_gone gone)

    answers_gone : (gone : List (Gone C)) → dropped_for gone ≡ dropped_for (rows_gone gone)
    answers_gone [] = refl
    answers_gone (one ∷ gone) = ap (λ answers. streams_dropped ∷ answers) (answers_gone gone)

    rows_gone_for : (cause : EvictionCause) (rows : List (Row C)) → rows_gone (map (gone_for cause) rows) ≡ rows
    rows_gone_for cause [] = refl
    rows_gone_for cause (row ∷ rows) = ap (λ others. row ∷ others) (rows_gone_for cause rows)

    -- Holds if calls on an unbounded pool have these answers, and lead from the one table to the other.
    pub record Leads (before : Table) (calls : List (Call ℕ C ℕ)) (answers : List Answer) (after : Table) : Type 0 where
      pub answered : answers_from before calls ≡ answers
      pub reached : tables_after before calls ≡ after

    leads_both : (before between after : Table) (first second : List (Call ℕ C ℕ)) (answers others : List Answer)
        → Leads before first answers between → Leads between second others after
        → Leads before (first ++ second) (answers ++ others) after
    leads_both before between after first second answers others first_leads second_leads = record {
      answered =
          answers_from-append before first second
          ∙ ap (λ all. all ++ answers_from (tables_after before first) second) first_leads.answered
          ∙ ap (λ (table : Table). answers ++ answers_from table second) first_leads.reached
          ∙ ap (λ all. answers ++ all) second_leads.answered;
      reached =
          tables_after-append before first second
          ∙ ap (λ (table : Table). tables_after table second) first_leads.reached
          ∙ second_leads.reached;
    }

    leads_regrouped : (before after : Table) (a b c : List (Call ℕ C ℕ)) (x y z : List Answer)
        → Leads before (a ++ (b ++ c)) (x ++ (y ++ z)) after → Leads before ((a ++ b) ++ c) ((x ++ y) ++ z) after
    leads_regrouped before after a b c x y z leads = record {
      answered = ap (answers_from before) (append_assoc a b c) ∙ leads.answered ∙ sym (append_assoc x y z);
      reached = ap (tables_after before) (append_assoc a b c) ∙ leads.reached;
    }

    leads_by_rows : (rows left dropped : List (Row C))
        → ((name : IpFragId C) → drops_all dropped (table_of eq rows name) ≡ table_of eq left name)
        → Leads (table_of eq rows) (map drop_of dropped) (dropped_for dropped) (table_of eq left)
    leads_by_rows rows left dropped leaves = record {
      answered = dropped_answers (table_of eq rows) dropped;
      reached = λ i name. (dropped_table (table_of eq rows) dropped name ∙ leaves name) i;
    }

    leads_by_drops : (rows left : List (Row C)) (gone : List (Gone C))
        → ((name : IpFragId C) → drops_all (rows_gone gone) (table_of eq rows name) ≡ table_of eq left name)
        → Leads (table_of eq rows) (map (λ one. drop_of one.row) gone) (dropped_for gone) (table_of eq left)
    leads_by_drops rows left gone dropped =
        let by_rows = leads_by_rows rows left (rows_gone gone) dropped in
        record {
          answered =
              ap (answers_from (table_of eq rows)) (drops_gone gone) ∙ by_rows.answered ∙ sym (answers_gone gone);
          reached = ap (tables_after (table_of eq rows)) (drops_gone gone) ∙ by_rows.reached;
        }

    leads_nowhere : (table : Table) → Leads table [] [] table
    leads_nowhere table = record { answered = refl; reached = refl }

    -- ---- a fragment whose stream does not expire
    module _ (rows : List (Row C)) (name : IpFragId C) (fragment : IpFragment) (number : ℕ)
        (are : AreRows eq laws number rows) where
      abbrev old : Option (Row C)
      old = row_named eq name rows

      -- calls that correspond to the fragment, and their answers
      abbrev own_calls : Step C → List (Call ℕ C ℕ)
      own_calls step =
          cond (is_left_out step.answer) [] (frame_of name fragment number ∷ [])
          ++ map (λ one. drop_of one.row) step.gone

      abbrev own_answers : Step C → List Answer
      own_answers step =
          cond (is_left_out step.answer) [] (answer_for name step step.answer ∷ []) ++ dropped_for step.gone

      pub record IsValid (step : Step C) : Type 0 where
        pub leads : Leads (table_of eq rows) (own_calls step) (own_answers step) (table_of eq step.rows)
        pub are_rows : AreRows eq laws (number + 1) step.rows
        pub not_expired : AllByRecursion (λ one. is_expiry one.cause ≡ false) step.gone

      later_rows : (left : List (Row C)) → AreRows eq laws number left → AreRows eq laws (number + 1) left
      later_rows left given = AreRows-more eq laws number (number + 1) left (omega arith) given

      -- A fragment that is left out of the list changes nothing but by drops.
      left_out : (error : BoundedDefragError) (step : Step C) → step.answer ≡ fragment_rejected error
          → is_left_out_error error ≡ true → AreRows eq laws (number + 1) step.rows
          → AllByRecursion (λ one. is_expiry one.cause ≡ false) step.gone
          → ((other : IpFragId C) → drops_all (rows_gone step.gone) (table_of eq rows other)
          ≡ table_of eq step.rows other)
          → IsValid step
      left_out error step answer out are_after kinds dropped =
          let skipped : is_left_out step.answer ≡ true = ap is_left_out answer ∙ out in
          record {
            leads = rw skipped (leads_by_drops rows step.rows step.gone dropped);
            are_rows = are_after;
            not_expired = kinds;
          }

      nothing_changes : (error : BoundedDefragError) → is_left_out_error error ≡ true
          → IsValid (rejecting_step rows error)
      nothing_changes error out =
          left_out error (rejecting_step rows error) refl out (later_rows rows are) tt (λ other. refl)

      causes : (cause : EvictionCause) → is_expiry cause ≡ false → (list : List (Row C))
          → AllByRecursion (λ one. is_expiry one.cause ≡ false) (map (gone_for cause) list)
      causes cause kind [] = tt
      causes cause kind (row ∷ list) = (kind, causes cause kind list)

      others_table : (other : IpFragId C) → table_of eq (other_rows eq name rows) other
          ≡ cond (same_stream eq name other) None (table_of eq rows other)
      others_table other =
          ap kept_at (others_named eq laws rows name other) ∙ elim (cases_Bool (same_stream eq name other)) [
            | inl alike ↦ rw alike refl
            | inr differs ↦ rw differs refl
          ]

      drops_own_name : (other : IpFragId C)
          → drops_all (filter (λ row. same_stream eq row.id name) rows) (table_of eq rows other)
          ≡ cond (same_stream eq name other) None (table_of eq rows other)
      drops_own_name other =
          drops_filtered eq laws (λ row. same_stream eq row.id name) number rows other are ∙ others_table other

      discarding_holds : IsValid (discarding_step eq name rows)
      discarding_holds =
          let own = filter (λ row. same_stream eq row.id name) rows in
          left_out Discarded (discarding_step eq name rows) refl refl
          (later_rows (rows_discarding eq name rows) (AreRows-discarding eq laws number name rows are))
          (causes Overlap refl own)
          (λ other.
          ap (λ gone. drops_all gone (table_of eq rows other)) (rows_gone_for Overlap own)
          ∙ drops_own_name other
          ∙ sym (discarded_named eq laws rows name other))

      -- ---- a fragment that is passed on
      accepted_of_name : accepted_in (table_of eq rows name) ≡ accepted_before (old)
      accepted_of_name = accepted_at_row (old)

      -- table after the fragment's frame
      abbrev framed : Table
      framed = table_with limits.payload eq drops_number (table_of eq rows) (frame_of name fragment number)

      framed_other : (other : IpFragId C) → (framed) other
          ≡ cond (same_stream eq name other) (kept_with limits.payload (table_of eq rows name) fragment number)
          (table_of eq rows other)
      framed_other other = elim (cases_Bool (same_stream eq name other)) [
        | inl alike ↦ rw alike
            (ap (λ (row : Option (Row C)). kept_with limits.payload (kept_at row) fragment number)
            (same_named eq laws rows name other alike))
        | inr differs ↦ rw differs refl
      ]

      -- A fragment of the list has its frame, and then drops.
      passed_on : (step : Step C) (between : List (Row C)) → is_left_out step.answer ≡ false
          → answer_to limits.payload (table_of eq rows) (frame_of name fragment number)
          ≡ answer_for name step step.answer
          → ((other : IpFragId C) → (framed) other ≡ table_of eq between other) → AreRows eq laws (number + 1) step.rows
          → AllByRecursion (λ one. is_expiry one.cause ≡ false) step.gone
          → ((other : IpFragId C) → drops_all (rows_gone step.gone) (table_of eq between other)
          ≡ table_of eq step.rows other)
          → IsValid step
      passed_on step between passed answer frame are_after kinds dropped = record {
        leads = rw passed
            (leads_both (table_of eq rows) (table_of eq between) (table_of eq step.rows)
            (frame_of name fragment number ∷ []) (map (λ one. drop_of one.row) step.gone)
            (answer_for name step step.answer ∷ []) (dropped_for step.gone)
            (record { answered = ap (λ own. own ∷ []) answer; reached = λ i other. frame other i })
            (leads_by_drops between step.rows step.gone dropped));
        are_rows = are_after;
        not_expired = kinds;
      }

      refusal_of_name : (error : Option IpDefragError)
          → refusal_within limits.payload (accepted_before (old)) fragment ≡ error
          → refusal_within limits.payload (accepted_in (table_of eq rows name)) fragment ≡ error
      refusal_of_name error is = ap (λ own. refusal_within limits.payload own fragment) (accepted_of_name) ∙ is

      answer_of_name : (error : Option IpDefragError)
          → refusal_within limits.payload (accepted_before (old)) fragment ≡ error
          → answer_to limits.payload (table_of eq rows) (frame_of name fragment number)
          ≡ answer_unless error name (accepted_before (old) ++ fragment ∷ [])
      answer_of_name error is =
          ap (λ own. answer_unless own name (accepted_in (table_of eq rows name) ++ fragment ∷ []))
          (refusal_of_name error is)
          ∙ ap (λ own. answer_unless error name (own ++ fragment ∷ [])) (accepted_of_name)

      refused_holds : (error : IpDefragError)
          → refusal_within limits.payload (accepted_before (old)) fragment ≡ Some error
          → IsValid (rejecting_step rows (Rejected error))
      refused_holds error refused =
          passed_on (rejecting_step rows (Rejected error)) rows
          (not_starved limits.payload _ _ fragment error refused)
          (answer_of_name (Some error) refused)
          (λ other. framed_other other ∙ elim (cases_Bool (same_stream eq name other)) [
            | inl alike ↦ rw alike
                (ap (λ own. kept_unless own (table_of eq rows name) fragment number)
                (refusal_of_name (Some error) refused)
                ∙ ap kept_at (sym (same_named eq laws rows name other alike)))
            | inr differs ↦ rw differs refl
          ])
          (later_rows rows are) tt (λ other. refl)

      -- ---- an accepted fragment
      module _ (now space : ℕ) (fits : refusal_within limits.payload (accepted_before (old)) fragment ≡ None) where
        abbrev accepted : List IpFragment
        accepted = accepted_before (old) ++ fragment ∷ []

        abbrev own : Row C
        own = row_with (old) name fragment now number space

        abbrev others : List (Row C)
        others = other_rows eq name rows

        kept_of_name : kept_with limits.payload (table_of eq rows name) fragment number ≡ kept_of (accepted) number
        kept_of_name =
            ap (λ error. kept_unless error (table_of eq rows name) fragment number) (refusal_of_name None fits)
            ∙ ap (λ before. kept_of (before ++ fragment ∷ []) number) (accepted_of_name)

        framed_kept : (other : IpFragId C) → (framed) other
            ≡ cond (same_stream eq name other) (kept_of (accepted) number) (table_of eq rows other)
        framed_kept other =
            framed_other other
            ∙ ap (λ kept. cond (same_stream eq name other) kept (table_of eq rows other)) (kept_of_name)

        pub others_are : AreRows eq laws number (others)
        others_are = AreRows-filter eq laws number (λ row. not (same_stream eq row.id name)) rows are

        complete_holds : is_complete (accepted) ≡ true
            → IsValid (record (quiet_step (others)) {
              begun = not (is_some (old));
              answer = payload_complete (payload_by limits (own).id (accepted));
              completed = accepted;
            })
        complete_holds complete =
            passed_on _ (others) refl
            (answer_of_name None fits ∙ rw complete refl)
            (λ other. framed_kept other ∙ rw complete refl ∙ sym (others_table other))
            (later_rows (others) (others_are)) tt (λ other. refl)

        -- the drop of the own name's former number
        drops_former : (found : Option (Row C)) → row_named eq name rows ≡ found → (other : IpFragId C)
            → kept_by (drops_number (unwrap_or found (own)).number) (table_of eq rows other)
            ≡ cond (same_stream eq name other) None (table_of eq rows other)
        drops_former None is other =
            keeps_below eq laws number rows other are refl
            ∙ elim (cases_Bool (same_stream eq name other)) [
              | inl alike ↦ rw alike (ap kept_at (same_named eq laws rows name other alike ∙ is))
              | inr differs ↦ rw differs refl
            ]
        drops_former (Some row) is other =
            ap (λ gone. drops_all gone (table_of eq rows other)) (sym (only_own eq laws number name rows row are is))
            ∙ drops_own_name other

        budget_holds : IsValid (record (rejecting_step (others) OverBudget) {
          gone = gone_for Bytes (unwrap_or (old) (own)) ∷ [];
          begun = not (is_some (old));
        })
        budget_holds =
            left_out OverBudget _ refl refl (later_rows (others) (others_are)) (refl, tt)
            (λ other. drops_former (old) refl other ∙ sym (others_table other))

        abbrev appended : List (Row C)
        appended = appended_rows eq laws rows name fragment number are now space

        appended_table : is_complete (accepted) ≡ false → (other : IpFragId C)
            → cond (same_stream eq name other) (kept_of (accepted) number) (table_of eq rows other)
            ≡ table_of eq (appended) other
        appended_table incomplete other = elim (cases_Bool (same_stream eq name other)) [
          | inl alike ↦
              let found : row_named eq other (appended) ≡ Some (own) =
              same_named eq laws (appended) name other alike
              ∙ appended_own eq laws rows name fragment number are now space in
              rw (alike, incomplete) (sym (ap kept_at found))
          | inr differs ↦
              rw differs
              (sym (ap kept_at (appended_other eq laws rows name fragment number are now space other differs)))
        ]

        staying_holds : is_complete (accepted) ≡ false
            → IsValid (record (quiet_step (remaining limits (appended))) {
              gone = evicted_for_limits limits (appended);
              begun = not (is_some (old));
            })
        staying_holds incomplete =
            passed_on _ (appended) refl
            (answer_of_name None fits ∙ rw incomplete refl)
            (λ other. framed_kept other ∙ appended_table incomplete other)
            (AreRows-remaining eq laws limits (number + 1) (appended)
            (appended_are eq laws rows name fragment number are now space))
            (limit_kinds eq laws limits (appended))
            (λ other. drops_for_limits eq laws limits (number + 1) (appended) other
            (appended_are eq laws rows name fragment number are now space))

        accepting_holds : IsValid (accepting_step limits (old) (others) (own) (accepted))
        accepting_holds =
            choose (is_complete (accepted)) (nat_lt limits.bytes (own).room) complete_holds
            (λ _. budget_holds) staying_holds
          where
            choose : {x y z : Step C} (a b : Bool) → (a ≡ true → IsValid x) → (b ≡ true → IsValid y)
                → (a ≡ false → IsValid z) → IsValid (cond a x (cond b y z))
            choose true b first second third = first refl
            choose false true first second third = second refl
            choose false false first second third = third refl

      granted_holds : (now : ℕ) (granted : Option ℕ)
          → refusal_within limits.payload (accepted_before (old)) fragment ≡ None
          → IsValid (fated_step limits eq rows name fragment now number granted is_accepted)
      granted_holds now None fits = nothing_changes (Rejected (AllocationFailure (fragment_end fragment))) refl
      granted_holds now (Some space) fits = accepting_holds now space fits

      pub fated_holds : (now : ℕ) (granted : Option ℕ)
          → IsValid (fated_step limits eq rows name fragment now number granted (fate_at limits (old) fragment))
      fated_holds now granted = elim (name_cases limits (old) fragment) [
        | is_discarded _ discarded ↦
            subst (λ (fate : Fate). IsValid (fated_step limits eq rows name fragment now number granted fate))
            (sym discarded) (nothing_changes Discarded refl)
        | is_usable _ after ↦
            subst (λ (fate : Fate). IsValid (fated_step limits eq rows name fragment now number granted fate))
            (sym after)
            (elim (fate_case _ (refusal_within limits.payload (accepted_before (old)) fragment)) [
              | by_test _ is ↦
                  subst (λ (fate : Fate). IsValid (fated_step limits eq rows name fragment now number granted fate))
                  (sym is) (discarding_holds)
              | by_error error _ refused is ↦
                  subst (λ (fate : Fate). IsValid (fated_step limits eq rows name fragment now number granted fate))
                  (sym is) (refused_holds error refused)
              | by_none _ fits is ↦
                  subst (λ (fate : Fate). IsValid (fated_step limits eq rows name fragment now number granted fate))
                  (sym is) (granted_holds now granted fits)
            ])
      ]

    -- ---- a fragment
    module _ (rows : List (Row C)) (name : IpFragId C) (fragment : IpFragment) (now number : ℕ) (granted : Option ℕ)
        (are : AreRows eq laws number rows) where
      abbrev expires : Row C → Bool
      expires row = expires_for limits eq now name row

      abbrev left : List (Row C)
      left = filter (λ row. not ((expires) row)) rows

      abbrev expired : List (Gone C)
      expired = map (gone_for Expired) (filter (expires) rows)

      abbrev inner : Step C
      inner =
          fated_step limits eq (left) name fragment now number granted
          (fate_at limits (row_named eq name (left)) fragment)

      pub left_are : AreRows eq laws number (left)
      left_are = AreRows-filter eq laws number (λ row. not ((expires) row)) rows are

      pub inner_holds : IsValid (left) name fragment number (left_are) (inner)
      inner_holds = fated_holds (left) name fragment number (left_are) now granted

      abbrev is_own : Gone C → Bool
      is_own one = is_own_expiry eq name one

      all_own : (list : List (Row C)) → AllByRecursion (λ row. (expires) row ≡ true) list
          → (filter (is_own) (map (gone_for Expired) list) ≡ map (gone_for Expired) list)
          × (filter (λ one. not ((is_own) one)) (map (gone_for Expired) list) ≡ [])
      all_own [] all = (refl, refl)
      all_own (row ∷ list) all =
          let alike : same_stream eq row.id name ≡ true =
          (and_parts (same_stream eq row.id name) (is_expired limits now row) all.0).0 in
          let rest = all_own list all.1 in
          (rw alike (ap (λ gone. gone_for Expired row ∷ gone) rest.0), rw alike rest.1)

      none_own : (gone : List (Gone C)) → AllByRecursion (λ one. is_expiry one.cause ≡ false) gone
          → (filter (is_own) gone ≡ []) × (filter (λ one. not ((is_own) one)) gone ≡ gone)
      none_own [] all = (refl, refl)
      none_own (one ∷ gone) all =
          let rest = none_own gone all.1 in
          (rw all.0 rest.0, rw all.0 (ap (λ others. one ∷ others) rest.1))

      abbrev all_gone : List (Gone C)
      all_gone = (expired) ++ (inner).gone

      own_gone : filter (is_own) (all_gone) ≡ (expired)
      own_gone =
          filter-append (is_own) (expired) (inner).gone
          ∙ ap (λ others. filter (is_own) (expired) ++ others) (none_own (inner).gone (inner_holds).not_expired).0
          ∙ append-nil (filter (is_own) (expired))
          ∙ (all_own (filter (expires) rows) (filtered_pass (expires) rows)).0

      other_gone : filter (λ one. not ((is_own) one)) (all_gone) ≡ (inner).gone
      other_gone =
          filter-append (λ one. not ((is_own) one)) (expired) (inner).gone
          ∙ ap (λ prefix. prefix ++ filter (λ one. not ((is_own) one)) (inner).gone)
          (all_own (filter (expires) rows) (filtered_pass (expires) rows)).1
          ∙ (none_own (inner).gone (inner_holds).not_expired).1

      same_answer : (step : Step C) (gone : List (Gone C)) (answer : BoundedAnswer)
          → answer_for name (record step { gone = gone }) answer ≡ answer_for name step answer
      same_answer step gone (fragment_rejected error) = refl
      same_answer step gone (payload_complete payload) = refl
      same_answer step gone nothing_complete = refl

      fragment_leads : Leads (table_of eq rows)
          (calls_for eq (gives_fragment (Some (name, fragment)) now) number
          (fragment_step limits eq rows name fragment now number granted))
          (answers_for eq (gives_fragment (Some (name, fragment)) now)
          (fragment_step limits eq rows name fragment now number granted))
          (table_of eq (inner).rows)
      fragment_leads =
          rw (own_gone, other_gone, same_answer (inner) (all_gone) (inner).answer)
          (leads_regrouped (table_of eq rows) (table_of eq (inner).rows) (map (λ one. drop_of one.row) (expired))
          (cond (is_left_out (inner).answer) [] (frame_of name fragment number ∷ []))
          (map (λ one. drop_of one.row) (inner).gone)
          (dropped_for (expired))
          (cond (is_left_out (inner).answer) [] (answer_for name (inner) (inner).answer ∷ []))
          (dropped_for (inner).gone)
          (leads_both (table_of eq rows) (table_of eq (left)) (table_of eq (inner).rows)
          (map (λ one. drop_of one.row) (expired))
          (own_calls (left) name fragment number (left_are) (inner))
          (dropped_for (expired))
          (own_answers (left) name fragment number (left_are) (inner))
          (leads_by_drops rows (left) (expired)
          (λ other.
          ap (λ gone. drops_all gone (table_of eq rows other)) (rows_gone_for Expired (filter (expires) rows))
          ∙ drops_filtered eq laws (expires) number rows other are))
          (inner_holds).leads))

    -- ---- a call
    pub record CallHolds (rows : List (Row C)) (call : BoundedCall C) (number : ℕ) (step : Step C) : Type 0 where
      pub leads : Leads (table_of eq rows) (calls_for eq call number step) (answers_for eq call step)
          (table_of eq step.rows)
      pub are_rows : AreRows eq laws (number + 1) step.rows

    pub call_holds : (rows : List (Row C)) (call : BoundedCall C) (number : ℕ) (granted : Option ℕ)
        → AreRows eq laws number rows
        → CallHolds rows call number (call_step limits eq rows call number granted)
    call_holds rows (gives_fragment None now) number granted are = record {
      leads = leads_nowhere (table_of eq rows);
      are_rows = AreRows-more eq laws number (number + 1) rows (omega arith) are;
    }
    call_holds rows (gives_fragment (Some given) now) number granted are = record {
      leads = fragment_leads rows given.0 given.1 now number granted are;
      are_rows = (inner_holds rows given.0 given.1 now number granted are).are_rows;
    }
    call_holds rows (expires_names now idle) number granted are =
        record {
          leads = leads_by_drops rows (filter (λ row. not (is_due limits now idle row)) rows)
              (map (gone_for Expired) (filter (is_due limits now idle) rows))
              (λ name.
              ap (λ gone. drops_all gone (table_of eq rows name))
              (rows_gone_for Expired (filter (is_due limits now idle) rows))
              ∙ drops_filtered eq laws (is_due limits now idle) number rows name are);
          are_rows = AreRows-more eq laws number (number + 1) _ (omega arith)
              (AreRows-filter eq laws number (λ row. not (is_due limits now idle row)) rows are);
        }
    call_holds rows (removes_name name) number granted are = record {
      leads = leads_by_rows rows (other_rows eq name rows) (filter (λ row. same_stream eq row.id name) rows)
          (λ other. drops_filtered eq laws (λ row. same_stream eq row.id name) number rows other are);
      are_rows = AreRows-more eq laws number (number + 1) (other_rows eq name rows) (omega arith)
          (AreRows-filter eq laws number (λ row. not (same_stream eq row.id name)) rows are);
    }
    call_holds rows clears_names number granted are = record {
      leads = leads_by_rows rows [] rows (λ name. drops_every eq laws number rows name are);
      are_rows = tt;
    }

    -- ---- lists of calls
    alone_on : (rows : List (Row C)) (number : ℕ) (calls : List (Made C)) → AreRows eq laws number rows
        → answers_from (table_of eq rows) (alone_from limits eq rows number calls)
        ≡ alone_answers_from limits eq rows number calls
    alone_on rows number [] are = refl
    alone_on rows number (made ∷ later) are =
        let step = call_step limits eq rows made.call number made.granted in
        let holds = call_holds rows made.call number made.granted are in
        let rest = alone_from limits eq step.rows (number + 1) later in
        answers_from-append (table_of eq rows) (calls_for eq made.call number step) rest
        ∙ ap (λ (table : Table). answers_from (table_of eq rows) (calls_for eq made.call number step)
        ++ answers_from table rest) holds.leads.reached
        ∙ ap (λ answers. answers ++ answers_from (table_of eq step.rows) rest) holds.leads.answered
        ∙ ap (λ answers. answers_for eq made.call step ++ answers)
        (alone_on step.rows (number + 1) later holds.are_rows)

    pub alone : (calls : List (Made C))
        → answers_to limits.payload eq drops_number (alone_from limits eq [] 0 calls)
        ≡ alone_answers_from limits eq [] 0 calls
    alone calls = from_table [] (alone_from limits eq [] 0 calls) ∙ alone_on [] 0 calls tt
