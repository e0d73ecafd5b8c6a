-- A bounded pool processes a fragment: its own stream expires first, then the fragment is added.
use Rattle.std.proofs.Common.{◌≡◌, ℕ, ◌+◌, Bool, true, false, not, ◌&&◌, cond, nat_lt, List, [], ◌∷◌, ◌++◌, map, Option, Some, None, Result}
use Rattle.std.proofs.Common.{refl, sym, ap, subst, ◌∙◌, inl, inr, arith}
use Rattle.std.specs.declared.cmp.PartialEq
use Rattle.std.specs.declared.hash.Hash
use Rattle.std.specs.Cmp.{IsEquivalence}
use Rattle.std.specs.Hash.{HashWrites}
use Rattle.std.specs.declared.hash.RandomState.{RandomState}
use Rattle.std.specs.List.{AllZip, AllByRecursion, filter, count_by}
use Rattle.std.proofs.lemmas.Bool.{cases_Bool}
use Rattle.std.proofs.lemmas.List.Sums.{sum_by-cons}
use Rattle.lru_table.specs.LruTable.{Entries, IsTable}
use Rattle.ep_defrag.specs.KeyedHashes.{name_hash}
use Rattle.ep_defrag.specs.declared.ip_frag_id.IpFragId.{IpFragId}
use Rattle.ep_defrag.specs.declared.held_stream.HeldStream.{HeldStream}
use Rattle.ep_defrag.specs.declared.ip_defrag_payload_vec.IpDefragPayloadVec.{IpDefragPayloadVec}
use Rattle.ep_defrag.specs.declared.bounded_defrag_error.BoundedDefragError.{BoundedDefragError}
use Rattle.ep_defrag.specs.declared.bounded_defrag_pool.BoundedDefragPool.{BoundedDefragPool}
use Rattle.ep_defrag.specs.declared.bounded_limits.DefragLimits.{DefragLimits}
use Rattle.ep_defrag.specs.declared.defrag_statistics.DefragStatistics.{DefragStatistics}
use Rattle.ep_defrag.specs.declared.evicted_stream.EvictionCause.TheVariants.{Expired}
use Rattle.ep_defrag.specs.declared.departure.Departure.TheVariants.{Evicted}
use Rattle.ep_defrag.specs.declared.holdings.Holdings.{Holdings}
use Rattle.ep_defrag.specs.IpFragments.{IpFragment, is_complete}
use Rattle.ep_defrag.specs.Streams.{same_stream}
use Rattle.ep_defrag.specs.BoundedSteps.{Row, Gone, Step, is_open, row_named, accepted_before, row_with, expires_for, gone_for, is_expiry, is_overlap, is_for_streams, is_for_bytes}
use Rattle.ep_defrag.specs.BoundedSteps.{Fate, is_rejected, discards, is_accepted, fate_at, fated_step}
use Rattle.ep_defrag.specs.BoundedNames.{HeldName, names_of, AreHashed, open_names, HoldsRow, HeldNamesDiffer, HoldsNames, Reports}
use Rattle.ep_defrag.specs.BoundedHoldings.{report_of, after_departure, step_within, statistics_within, TakesFragmentStep}
use Rattle.ep_defrag.specs.BoundedPools.{limits_in, names_in, evicted_in, statistics_in, TakesBounded}
use Rattle.ep_defrag.specs.BoundedCounts.{counted, count_gone, FitCounters, is_payload, one_answer, with_answer}
use Rattle.ep_defrag.specs.BoundedAnswers.{plain_bounded}
use Rattle.ep_defrag.proofs.KeyedHashLemmas.{same_hash}
use Rattle.ep_defrag.proofs.HeldNamesDifferLemmas.{names_differ}
use Rattle.ep_defrag.proofs.StreamLemmas.{same_stream_laws}
use Rattle.ep_defrag.proofs.HeldNameLemmas.{open_once}
use Rattle.ep_defrag.proofs.CounterLemmas.{all_gone, none_gone}
use Rattle.ep_defrag.proofs.AnswerCounterLemmas.{answered, expired_once, fragment_counted}
use Rattle.ep_defrag.proofs.RowRemovalLemmas.{zip_filter, zip_map, none_pass, filtered_names, open_rows}

-- ---- a step of a fragment
-- Holds if the step removes no name for the caller.
record RemovesNone {C : Type 0} (step : Step C) : Type 0 where
  removed : step.removed ≡ []

removes_none : {C : Type 0} (limits : DefragLimits) (eq : C → C → Bool) (rows : List (Row C)) (name : IpFragId C)
    (fragment : IpFragment) (now number : ℕ) (granted : Option ℕ) (fate : Fate)
    → RemovesNone (fated_step limits eq rows name fragment now number granted fate)
removes_none limits eq rows name fragment now number granted (is_rejected error) = record { removed = refl }
removes_none limits eq rows name fragment now number granted discards = record { removed = refl }
removes_none limits eq rows name fragment now number None is_accepted = record { removed = refl }
removes_none {C} limits eq rows name fragment now number (Some space) is_accepted =
    let old = row_named eq name rows in
    choose (is_complete (accepted_before old ++ fragment ∷ []))
    (nat_lt limits.bytes (row_with old name fragment now number space).room)
    (record { removed = refl })
    (record { removed = refl })
    (record { removed = refl })
  where
    choose : {x y z : Step C} (a b : Bool) → RemovesNone x → RemovesNone y → RemovesNone z
        → RemovesNone (cond a x (cond b y z))
    choose true b first second third = first
    choose false true first second third = second
    choose false false first second third = third

-- ---- elements that pass two tests
module _ {X : Type 0} (p q : X → Bool) where
  -- All that pass the first test pass the second one.
  both_pass : (xs : List X) → AllByRecursion (λ x. q x ≡ true) (filter p xs)
      → (filter (λ x. p x && q x) xs ≡ filter p xs)
      × (filter (λ x. not (p x && q x)) xs ≡ filter (λ x. not (p x)) xs)
  both_pass [] all = (refl, refl)
  both_pass (x ∷ xs) all = elim (cases_Bool (p x)) [
    | inl passes ↦
        let own = rw passes at all in
        let rest = both_pass xs own.1 in
        rw (passes, own.0) (ap (λ others. x ∷ others) rest.0, rest.1)
    | inr fails ↦
        let rest = both_pass xs (rw fails at all) in
        rw fails (rest.0, ap (λ others. x ∷ others) rest.1)
  ]

  -- None that passes the first test passes the second one.
  none_both : (xs : List X) → AllByRecursion (λ x. q x ≡ false) (filter p xs)
      → (filter (λ x. p x && q x) xs ≡ []) × (filter (λ x. not (p x && q x)) xs ≡ xs)
  none_both [] all = (refl, refl)
  none_both (x ∷ xs) all = elim (cases_Bool (p x)) [
    | inl passes ↦
        let own = rw passes at all in
        let rest = none_both xs own.1 in
        rw (passes, own.0) (rest.0, ap (λ others. x ∷ others) rest.1)
    | inr fails ↦
        let rest = none_both xs (rw fails at all) in
        rw fails (rest.0, ap (λ others. x ∷ others) rest.1)
  ]

-- ---- expiry of the fragment's own name
module _ {C : Type 0} (eq : C → C → Bool) (limits : DefragLimits) (now : ℕ) (name : IpFragId C) where
  abbrev pub is_own : HeldName C → Bool
  is_own held_name = same_stream eq held_name.0 name

  abbrev pub is_old : HeldName C → Bool
  is_old held_name = nat_lt (held_name.1.first + limits.age) now

  -- whether a fragment of the identifier evicts the name
  abbrev pub expires : HeldName C → Bool
  expires held_name = is_own held_name && is_old held_name

  expires_row : (held_name : HeldName C) (row : Row C) → HoldsRow limits held_name row
      → expires held_name ≡ expires_for limits eq now name row
  expires_row held_name row holds =
      λ i. same_stream eq (holds.id i) name && nat_lt (holds.first i + limits.age) now

-- Holds if of these names the fragment's own was evicted, if it had expired, with these counters before.
pub record HasExpired {C : Type 0} {e : _} {h : _} (eq : C → C → Bool) (limits : DefragLimits) (now : ℕ)
    (name : IpFragId C)
    (names : List (HeldName C)) (counters : DefragStatistics) (start : Holdings C e h) : Type 0 where
  pub left : names_of start.table ≡ filter (λ one. not (expires eq limits now name one)) names
  pub evicted : start.evicted.items
      ≡ map (λ one. report_of one Expired) (filter (expires eq limits now name) names)
  pub statistics : start.statistics ≡ record counters {
    expired = counted counters.expired (open_names (filter (expires eq limits now name) names));
  }

module _ {C : Type 0} {e : PartialEq.Ghosts C} {h : Hash.Ghosts C} (eq : C → C → Bool) (limits : DefragLimits) (now : ℕ)
    (name : IpFragId C) (names : List (HeldName C)) (counters : DefragStatistics) (fit : FitCounters counters)
    (start : Holdings C e h) where
  none_expired : AllByRecursion (λ one. is_old eq limits now name one ≡ false)
      (filter (is_own eq limits now name) names)
      → names_of start.table ≡ names → start.evicted.items ≡ [] → start.statistics ≡ counters
      → HasExpired eq limits now name names counters start
  none_expired young left evicted statistics =
      let parts = none_both (is_own eq limits now name) (is_old eq limits now name) names young in
      record {
        left = left ∙ sym parts.1;
        evicted =
            evicted ∙ ap (λ (all : List (HeldName C)). map (λ one. report_of one Expired) all) (sym parts.0);
        statistics =
            statistics ∙ expired_once counters fit None
            ∙ (λ i. record counters { expired = counted counters.expired (open_names (sym parts.0 i)) });
      }

  -- The fragment's name is not in the table.
  pub own_absent : count_by (is_own eq limits now name) names ≡ 0 → names_of start.table ≡ names
      → start.evicted.items ≡ [] → start.statistics ≡ counters → HasExpired eq limits now name names counters start
  own_absent none =
      none_expired
      (subst (λ (all : List (HeldName C)). AllByRecursion (λ one. is_old eq limits now name one ≡ false) all)
      (sym (none_pass (is_own eq limits now name) names none).1) tt)

  -- The fragment's name has not expired.
  pub own_young : (own : HeldName C) → filter (is_own eq limits now name) names ≡ own ∷ []
      → is_old eq limits now name own ≡ false → names_of start.table ≡ names → start.evicted.items ≡ []
      → start.statistics ≡ counters → HasExpired eq limits now name names counters start
  own_young own one young =
      none_expired
      (subst (λ (all : List (HeldName C)). AllByRecursion (λ one. is_old eq limits now name one ≡ false) all)
      (sym one)
      (young, tt))

  -- The fragment's name has expired.
  pub own_expired : (own : HeldName C) → filter (is_own eq limits now name) names ≡ own ∷ []
      → is_old eq limits now name own ≡ true
      → names_of start.table ≡ filter (λ one. not (is_own eq limits now name one)) names
      → start.evicted.items ≡ report_of own Expired ∷ []
      → start.statistics ≡ after_departure counters own.1.buffer (Evicted Expired)
      → HasExpired eq limits now name names counters start
  own_expired own one old left evicted statistics =
      let parts = both_pass (is_own eq limits now name) (is_old eq limits now name) names
      (subst (λ (all : List (HeldName C)). AllByRecursion (λ one. is_old eq limits now name one ≡ true) all) (sym one)
      (old, tt)) in
      let own_only : filter (expires eq limits now name) names ≡ own ∷ [] = parts.0 ∙ one in
      let many : open_once own.1 ≡ open_names (filter (expires eq limits now name) names) =
      omega (
        arith,
        ap {B = ℕ} (λ (all : List (HeldName C)). open_names all) own_only,
        sum_by-cons (λ (each : HeldName C). open_once each.1) own [],
      ) in
      record {
        left = left ∙ sym parts.1;
        evicted =
            evicted ∙ ap (λ (all : List (HeldName C)). map (λ one. report_of one Expired) all) (sym own_only);
        statistics =
            statistics ∙ expired_once counters fit own.1.buffer
            ∙ (λ i. record counters { expired = counted counters.expired (many i) });
      }

-- ---- no two names of a table are equal
pub table_differs : {C : Type 0} (eq : C → C → Bool) → IsEquivalence eq → (channel : C → HashWrites)
    → ((x y : C) → eq x y ≡ true → channel x ≡ channel y) → (equal : IpFragId C → IpFragId C → Bool)
    → ((a b : IpFragId C) → equal a b ≡ same_stream eq a b) → (keys : RandomState)
    → (entries : Entries (IpFragId C) HeldStream) → AreHashed channel keys entries → IsTable equal entries
    → HeldNamesDiffer eq (names_of entries)
table_differs eq laws channel respects equal names keys entries hashed table =
    λ name.
    names_differ eq laws name (name_hash channel keys) (same_hash eq channel respects keys) entries hashed
    table.distinct
    (λ a b in_a in_b hashes same. table.unambiguous a b in_a in_b hashes (names a.1.0 b.1.0 ∙ same))

-- ---- the call
module _ {C : Type 0} {e : PartialEq.Ghosts C} {h : Hash.Ghosts C} (eq : C → C → Bool) (laws : IsEquivalence eq)
    (old new : BoundedDefragPool C) (start end : Holdings C e h) (name : IpFragId C) (fragment : IpFragment) (now : ℕ)
    (result : Result (Option IpDefragPayloadVec) BoundedDefragError) where
  abbrev young_rows : List (Row C) → List (Row C)
  young_rows rows = filter (λ row. not (expires_for (limits_in old) eq now name row)) rows

  abbrev expired_rows : List (Row C) → List (Gone C)
  expired_rows rows = map (gone_for Expired) (filter (expires_for (limits_in old) eq now name) rows)

  module _ (takes : TakesFragmentStep eq (limits_in old) start end name fragment now result)
      (fit : FitCounters (statistics_in old))
      (expired : HeldNamesDiffer eq (names_in old)
      → HasExpired eq (limits_in old) now name (names_in old) (statistics_in old) start)
      (names : names_in new ≡ names_of end.table) (evicted : evicted_in new ≡ end.evicted.items)
      (limits : limits_in new ≡ limits_in old)
      (statistics : statistics_in new ≡ with_answer end.statistics result)
      (differ : HeldNamesDiffer eq (names_in new)) where
    left_names : (rows : List (Row C)) → HoldsNames eq (limits_in old) (names_in old) rows
        → HoldsNames eq (limits_in old) (names_of start.table) (young_rows rows)
    left_names rows holds_names =
        rw ((expired holds_names.differ).left)
        (filtered_names (limits_in old) eq (λ one. not (expires eq (limits_in old) now name one))
        (λ row. not (expires_for (limits_in old) eq now name row))
        (λ one row holds. ap not (expires_row eq (limits_in old) now name one row holds))
        (names_in old) rows holds_names)

    expired_names : (rows : List (Row C)) → HoldsNames eq (limits_in old) (names_in old) rows
        → AllZip (HoldsRow (limits_in old)) (filter (expires eq (limits_in old) now name) (names_in old))
        (filter (expires_for (limits_in old) eq now name) rows)
    expired_names rows holds_names =
        zip_filter (HoldsRow (limits_in old)) (expires eq (limits_in old) now name)
        (expires_for (limits_in old) eq now name) (expires_row eq (limits_in old) now name) (names_in old) rows
        holds_names.each

    expired_reports : (rows : List (Row C)) → HoldsNames eq (limits_in old) (names_in old) rows
        → AllZip (Reports eq) start.evicted.items (expired_rows rows)
    expired_reports rows holds_names =
        let same = same_stream_laws eq laws in
        rw ((expired holds_names.differ).evicted)
        (zip_map (HoldsRow (limits_in old)) (Reports eq) (λ one. report_of one Expired) (gone_for Expired)
        (λ one row holds. record {
          id = rw (← holds.id) (same.refl one.0);
          cause = refl;
          first = holds.first;
        })
        (filter (expires eq (limits_in old) now name) (names_in old))
        (filter (expires_for (limits_in old) eq now name) rows) (expired_names rows holds_names))

    -- The counters are those of the step.
    counters : (rows : List (Row C)) → HoldsNames eq (limits_in old) (names_in old) rows → (step : Step C)
        → end.statistics ≡ statistics_within start.statistics step → plain_bounded result ≡ step.answer
        → step.removed ≡ []
        → statistics_in new ≡ record (answered (statistics_in old)
        (counted (statistics_in old).begun (cond step.begun 1 0))
        (counted (statistics_in old).completed (cond (is_payload step.answer) 1 0))
        (counted (statistics_in old).discarded (count_gone is_overlap (expired_rows rows ++ step.gone)))
        (counted (statistics_in old).expired (count_gone is_expiry (expired_rows rows ++ step.gone)))
        (counted (statistics_in old).evicted_for_streams (count_gone is_for_streams (expired_rows rows ++ step.gone)))
        (counted (statistics_in old).evicted_for_bytes (count_gone is_for_bytes (expired_rows rows ++ step.gone)))
        (one_answer step.answer)) {
          removed = counted (statistics_in old).removed (count_by is_open step.removed);
        }
    counters rows holds_names step within answer removed =
        let before = statistics_in old in
        let own = filter (expires_for (limits_in old) eq now name) rows in
        let many : open_names (filter (expires eq (limits_in old) now name) (names_in old))
        ≡ count_gone is_expiry (expired_rows rows) =
        open_rows (limits_in old) (filter (expires eq (limits_in old) now name) (names_in old)) own
        (expired_names rows holds_names) ∙ sym (all_gone is_expiry refl own) in
        let started : start.statistics ≡ record before {
          expired = counted before.expired (count_gone is_expiry (expired_rows rows));
        } =
        (expired holds_names.differ).statistics
        ∙ (λ i. record before { expired = counted before.expired (many i) }) in
        statistics
        ∙ (λ i. with_answer (within i) result)
        ∙ (λ i. with_answer (statistics_within (started i) step) result)
        ∙ fragment_counted (expired_rows rows) step.gone before fit (none_gone is_overlap refl own)
        (none_gone is_for_streams refl own) (none_gone is_for_bytes refl own)
        (counted before.begun (cond step.begun 1 0)) (counted before.completed (cond (is_payload step.answer) 1 0))
        result
        ∙ (λ i. record (answered before (counted before.begun (cond step.begun 1 0))
        (counted before.completed (cond (is_payload step.answer) 1 0))
        (counted before.discarded (count_gone is_overlap (expired_rows rows ++ step.gone)))
        (counted before.expired (count_gone is_expiry (expired_rows rows ++ step.gone)))
        (counted before.evicted_for_streams (count_gone is_for_streams (expired_rows rows ++ step.gone)))
        (counted before.evicted_for_bytes (count_gone is_for_bytes (expired_rows rows ++ step.gone)))
        (one_answer (answer i))) {
          removed = counted before.removed (count_by is_open (sym removed i));
        })

    rows_in_new : (rows : List (Row C)) → AllZip (HoldsRow (limits_in old)) (names_of end.table) rows
        → AllZip (HoldsRow (limits_in new)) (names_in new) rows
    rows_in_new rows all = rw (names, limits) all

    reports_in_new : (gone : List (Gone C)) → AllZip (Reports eq) end.evicted.items gone
        → AllZip (Reports eq) (evicted_in new) gone
    reports_in_new gone all = rw evicted all

    takes_result : TakesBounded eq old new name fragment now result
    takes_result = record {
      step = λ rows number holds_names.
          let left = young_rows rows in
          let taken = takes.step left number (left_names rows holds_names) in
          let step = step_within (limits_in old) eq left name fragment now number taken.0 in (
            taken.0,
            record {
              holds = record { differ = differ; each = rows_in_new step.rows taken.1.names };
              evicted =
                  reports_in_new (expired_rows rows ++ step.gone)
                  (taken.1.evicted (expired_rows rows) (expired_reports rows holds_names));
              statistics =
                  counters rows holds_names step taken.1.statistics taken.1.answer
                  (removes_none (limits_in old) eq left name fragment now number taken.0
                  (fate_at (limits_in old) (row_named eq name left) fragment)).removed;
              limits = limits;
            },
            taken.1.answer,
            taken.2,
          );
      memory = λ starved rows holds_names. takes.memory starved (young_rows rows) (left_names rows holds_names);
    }

    -- The pool processes the fragment as the step says, and returns this answer.
    pub takes_bounded : (answer : Result (Option IpDefragPayloadVec) BoundedDefragError) → answer ≡ result
        → TakesBounded eq old new name fragment now answer
    takes_bounded answer is =
        subst
        (λ (one : Result (Option IpDefragPayloadVec) BoundedDefragError). TakesBounded eq old new name fragment now one)
        (sym is) takes_result
