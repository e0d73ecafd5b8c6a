-- Holdings of a bounded pool after a fragment: the name of its stream is in the table, or is absent.
use Rattle.std.proofs.Common.{◌≡◌, ℕ, ◌<◌, ◌≤◌, Bool, true, false, not, is_some, List, [], ◌∷◌, ◌++◌, map, Option, Some, None, Result, Ok, Err}
use Rattle.std.proofs.Common.{append-nil, refl, sym, ap, subst, ◌∙◌, inl, inr}
use Rattle.std.specs.Cmp.{IsEquivalence}
use Rattle.std.specs.List.{AllZip, filter}
use Rattle.std.specs.Option.{unwrap_or}
use Rattle.std.proofs.lemmas.Bool.{lt-ltb, le-ltb, false≢true}
use Rattle.std.proofs.lemmas.List.{map-append}
use Rattle.std.specs.declared.cmp.PartialEq
use Rattle.std.specs.declared.hash.Hash
use Rattle.lru_table.specs.declared.slot.Slot.{Slot}
use Rattle.lru_table.specs.LruTable.{with_value}
use Rattle.ep_defrag.specs.declared.ip_defrag_buf.IpDefragBuf.{IpDefragBuf}
use Rattle.ep_defrag.specs.declared.ip_defrag_payload_vec.IpDefragPayloadVec.{IpDefragPayloadVec}
use Rattle.ep_defrag.specs.declared.ip_frag_id.IpFragId.{IpFragId}
use Rattle.ep_defrag.specs.declared.held_stream.HeldStream.{HeldStream}
use Rattle.ep_defrag.specs.declared.bounded_limits.DefragLimits.{DefragLimits}
use Rattle.ep_defrag.specs.declared.bounded_defrag_error.BoundedDefragError.{BoundedDefragError}
use Rattle.ep_defrag.specs.declared.bounded_defrag_error.BoundedDefragError.TheVariants.{Discarded, OverBudget}
use Rattle.ep_defrag.specs.declared.evicted_stream.EvictedStream.{EvictedStream}
use Rattle.ep_defrag.specs.declared.evicted_stream.EvictionCause.TheVariants.{Overlap, Bytes}
use Rattle.ep_defrag.specs.declared.holdings.Holdings.{Holdings}
use Rattle.ep_defrag.specs.IpFragments.{IpFragment, is_complete}
use Rattle.ep_defrag.specs.FragmentRefusals.{MayNeedMemoryWithin}
use Rattle.ep_defrag.specs.Streams.{same_stream}
use Rattle.ep_defrag.specs.BoundedSteps.{Row, row_named, other_rows, discarded_row, rows_discarding, is_open, Gone, gone_for}
use Rattle.ep_defrag.specs.BoundedSteps.{is_accepted, fate_at, accepted_before, row_with, Step, rejecting_step}
use Rattle.ep_defrag.specs.BoundedSteps.{discarding_step, payload_by, remaining, evicted_for_limits}
use Rattle.ep_defrag.specs.BoundedCounts.{FitCounters, counted, with_gone}
use Rattle.ep_defrag.specs.BoundedNames.{HeldName, names_of, held_room, HoldsState, HoldsRow, HoldsNames, Reports}
use Rattle.ep_defrag.specs.BoundedAnswers.{is_starvation, is_starved, ReturnsPayload}
use Rattle.ep_defrag.specs.BoundedAdding.{StreamRejects, StreamDiscards}
use Rattle.ep_defrag.specs.BoundedHoldings.{names_held, report_of, EvictsForLimits, with_all_gone}
use Rattle.ep_defrag.specs.BoundedHoldings.{step_within, DoesFragmentStep, TakesFragmentStep}
use Rattle.ep_defrag.proofs.StreamLemmas.{same_stream_laws}
use Rattle.ep_defrag.proofs.HeldNameLemmas.{StreamEntries, Placed}
use Rattle.ep_defrag.proofs.RowHoldingLemmas.{zip_append, has_name, FindsRow, finds_row}
use Rattle.ep_defrag.proofs.FragmentStepLemmas.{reason, fed, granted_unless, granted_is, with_begun, none_counted}
use Rattle.ep_defrag.proofs.FragmentStepLemmas.{discard_counted, completion_counted, over_budget_counted, evictions_counted}
use Rattle.ep_defrag.proofs.FragmentStepLemmas.{payload_returned, rejected_step, starved_step, discards_step}
use Rattle.ep_defrag.proofs.FragmentStepLemmas.{complete_step, over_budget_step, settled_step}

pub names_between : {C : Type 0} (before after : StreamEntries C) (slot : Slot) (held_name : HeldName C)
    → names_of (before ++ (slot, held_name) ∷ after) ≡ names_of before ++ held_name ∷ names_of after
names_between before after slot held_name = map-append (λ e. e.1) before ((slot, held_name) ∷ after)

-- An open stream has accepted fragments.
pub record IsOpenWith (limits : DefragLimits) (buffer : Option IpDefragBuf) (accepted : Option (List IpFragment))
    : Type 0 where
  pub fragments : List IpFragment
  pub is : accepted ≡ Some fragments
  pub holds : HoldsState limits buffer (Some fragments)

pub open_with : (limits : DefragLimits) (buffer : Option IpDefragBuf) (accepted : Option (List IpFragment))
    → HoldsState limits buffer accepted → is_some buffer ≡ true → IsOpenWith limits buffer accepted
open_with limits None accepted holds_state opens = absurd (false≢true opens)
open_with limits (Some buffer) None holds_state opens = absurd holds_state
open_with limits (Some buffer) (Some accepted) holds_state opens =
    record { fragments = accepted; is = refl; holds = holds_state }

module _ {C : Type 0} {e : PartialEq.Ghosts C} {h : Hash.Ghosts C} (eq : C → C → Bool) (laws : IsEquivalence eq)
    (limits : DefragLimits) (old : Holdings C e h) (name : IpFragId C) (fragment : IpFragment) (now : ℕ) where
  nothing_gone : (new : Holdings C e h) → new.evicted.items ≡ old.evicted.items → (earlier : List (Gone C))
      → AllZip (Reports eq) old.evicted.items earlier → AllZip (Reports eq) new.evicted.items (earlier ++ [])
  nothing_gone new same earlier reports =
      subst (AllZip (Reports eq) new.evicted.items) (sym (append-nil earlier))
      (subst (λ (items : List (EvictedStream C)). AllZip (Reports eq) items earlier) (sym same) reports)

  one_gone : (new : Holdings C e h) (report : EvictedStream C) (gone : Gone C)
      → new.evicted.items ≡ old.evicted.items ++ report ∷ [] → Reports eq report gone → (earlier : List (Gone C))
      → AllZip (Reports eq) old.evicted.items earlier → AllZip (Reports eq) new.evicted.items (earlier ++ gone ∷ [])
  one_gone new report gone pushed reported earlier reports =
      subst (λ (items : List (EvictedStream C)). AllZip (Reports eq) items (earlier ++ gone ∷ [])) (sym pushed)
      (zip_append (Reports eq) old.evicted.items (report ∷ []) earlier (gone ∷ []) reports (reported, tt))

  -- ---- a name that is in the table
  module _ (slot : Slot) (held_name : HeldName C) (placed : Placed old.table slot held_name)
      (alike : same_stream eq name held_name.0 ≡ true) where
    abbrev pub before : List (HeldName C)
    before = names_of placed.0

    abbrev pub after : List (HeldName C)
    after = names_of placed.1

    pub finds : (rows : List (Row C)) → HoldsNames eq limits (names_held old) rows
        → FindsRow eq name limits before held_name after rows
    finds rows holds =
        let split : names_held old ≡ before ++ held_name ∷ after =
        ap (λ (entries : StreamEntries C). names_of entries) placed.2.whole
        ∙ names_between placed.0 placed.1 slot held_name in
        finds_row eq name limits before held_name after rows
        (subst (λ (names : List (HeldName C)). HoldsNames eq limits names rows) split holds)
        ((same_stream_laws eq laws).symm held_name.0 name ∙ alike)

    pub named_row : (rows : List (Row C)) → (found : FindsRow eq name limits before held_name after rows)
        → row_named eq name rows ≡ Some found.at.own
    named_row rows found =
        ap (row_named eq name) found.at.whole
        ∙ (has_name eq name found.at.before found.at.own found.at.after found.earlier found.alike found.later).named

    -- names after a stream was written
    names_written : (new : Holdings C e h) (stream : HeldStream) → new.table ≡ with_value slot stream old.table
        → names_held new ≡ before ++ (held_name.0, stream) ∷ after
    names_written new stream written =
        ap (λ (entries : StreamEntries C). names_of entries) (written ∙ placed.2.written stream)
        ∙ names_between placed.0 placed.1 slot (held_name.0, stream)

    -- rows beside them
    rows_written : (new : Holdings C e h) (stream : HeldStream) → new.table ≡ with_value slot stream old.table
        → (rows : List (Row C)) (found : FindsRow eq name limits before held_name after rows) (row : Row C)
        → HoldsRow limits (held_name.0, stream) row
        → AllZip (HoldsRow limits) (names_held new) (found.at.before ++ row ∷ found.at.after)
    rows_written new stream written rows found row holds =
        subst (λ (names : List (HeldName C)). AllZip (HoldsRow limits) names (found.at.before ++ row ∷ found.at.after))
        (sym (names_written new stream written))
        (zip_append (HoldsRow limits) before ((held_name.0, stream) ∷ after) found.at.before (row ∷ found.at.after)
        found.at.first (holds, found.at.later))

    pub rejects : (new : Holdings C e h) (stream : HeldStream) → new.table ≡ with_value slot stream old.table
        → new.evicted.items ≡ old.evicted.items → new.statistics ≡ old.statistics → FitCounters old.statistics
        → (error : BoundedDefragError) → StreamRejects limits held_name.1 stream fragment error
        → TakesFragmentStep eq limits old new name fragment now (Err error)
    rejects new stream written same_evicted same_statistics fits error refused = record {
      step = λ rows number holds.
          let found = finds rows holds in
          let row = found.at.own in
          let named = named_row rows found in
          let own : HoldsRow limits (held_name.0, stream) row = record {
            id = found.at.middle.id;
            state = refused.keeps row.accepted found.at.middle.state;
            room = refused.room ∙ found.at.middle.room;
            first = refused.first ∙ found.at.middle.first;
            last = refused.last ∙ found.at.middle.last;
          } in
          let does : DoesFragmentStep eq limits old new (Err error) (rejecting_step rows error) = record {
            names = subst (AllZip (HoldsRow limits) (names_held new)) (sym found.at.whole)
                (rows_written new stream written rows found row own);
            evicted = nothing_gone new same_evicted;
            statistics = same_statistics ∙ none_counted old.statistics fits rows error;
            answer = refl;
          } in
          elim (reason limits row.accepted fragment error (refused.why row.accepted found.at.middle.state)) [
            | inl fate ↦ (
              granted_unless (is_starvation error),
              subst (DoesFragmentStep eq limits old new (Err error))
                  (rejected_step eq limits rows name fragment now number (Some row) named
                  (granted_unless (is_starvation error)) error fate)
                  does,
              granted_is (is_starvation error),
            )
            | inr starved ↦ (
              None,
              subst (DoesFragmentStep eq limits old new (Err error))
                  (ap (rejecting_step rows) starved.2
                  ∙ starved_step eq limits rows name fragment now number (Some row) named starved.0)
                  does,
              sym (ap (λ own. not (is_starvation own)) starved.2),
            )
          ];
      memory = λ starves rows holds.
          let found = finds rows holds in
          let row = found.at.own in
          elim (reason limits row.accepted fragment error (refused.why row.accepted found.at.middle.state)) [
            | inl fate ↦ absurd (false≢true (sym (fed limits row.accepted fragment error fate) ∙ starves))
            | inr starved ↦
                subst (λ (own : Option (Row C)). MayNeedMemoryWithin limits.payload (accepted_before own) fragment)
                (sym (named_row rows found)) starved.1
          ];
    }

    pub discards : (new : Holdings C e h) (stream : HeldStream) → new.table ≡ with_value slot stream old.table
        → new.evicted.items ≡ old.evicted.items ++ record { id = name; cause = Overlap; first = stream.first } ∷ []
        → new.statistics ≡ with_gone old.statistics Overlap → FitCounters old.statistics
        → StreamDiscards limits held_name.1 stream fragment
        → TakesFragmentStep eq limits old new name fragment now (Err Discarded)
    discards new stream written pushed counts fits discarded = record {
      step = λ rows number holds.
          let found = finds rows holds in
          let row = found.at.own in
          let has = has_name eq name found.at.before row found.at.after found.earlier found.alike found.later in
          let opens = open_with limits held_name.1.buffer row.accepted found.at.middle.state discarded.was_open in
          let own : HoldsRow limits (held_name.0, stream) (discarded_row row) = record {
            id = found.at.middle.id;
            state = subst (λ (buffer : Option IpDefragBuf). HoldsState limits buffer None) (sym discarded.freed) tt;
            room = rw discarded.freed refl;
            first = discarded.first ∙ found.at.middle.first;
            last = discarded.last ∙ found.at.middle.last;
          } in
          let left : rows_discarding eq name rows ≡ found.at.before ++ discarded_row row ∷ found.at.after =
          ap (rows_discarding eq name) found.at.whole ∙ has.discarding in
          let lost : filter (λ row. same_stream eq row.id name) rows ≡ row ∷ [] =
          ap (filter (λ row. same_stream eq row.id name)) found.at.whole ∙ has.own in
          let gone : (discarding_step eq name rows).gone ≡ gone_for Overlap row ∷ [] =
          ap (map (gone_for Overlap)) lost in
          let step : Step C = discarding_step eq name rows in
          let does : DoesFragmentStep eq limits old new (Err Discarded) step = record {
            names = subst (AllZip (HoldsRow limits) (names_held new)) (sym left)
                (rows_written new stream written rows found (discarded_row row) own);
            evicted = λ earlier reports.
                subst (λ (lost : List (Gone C)). AllZip (Reports eq) new.evicted.items (earlier ++ lost)) (sym gone)
                (one_gone new _ (gone_for Overlap row) pushed (record {
                  id = found.alike;
                  cause = refl;
                  first = discarded.first ∙ found.at.middle.first;
                }) earlier reports);
            statistics = counts
                ∙ discard_counted old.statistics fits (rows_discarding eq name rows) row (ap is_some opens.is) step
                (λ i. record (rejecting_step (rows_discarding eq name rows) Discarded) { gone = gone i });
            answer = refl;
          } in (
            Some 0,
            subst (DoesFragmentStep eq limits old new (Err Discarded))
                (discards_step eq limits rows name fragment now number (Some row) (named_row rows found) (Some 0)
                (discarded.why row.accepted found.at.middle.state))
                does,
            refl,
          );
      memory = λ starves rows holds. absurd (false≢true starves);
    }

  -- ---- a name that accepts the fragment
  -- The row of the name accepts the fragment. `names` are the names beside its own, `held_name` is its own.
  pub record Accepts (rows : List (Row C)) (number : ℕ) (found : Option (Row C)) (others : List (Row C))
      (names : List (HeldName C)) (held_name : HeldName C) : Type 0 where
    pub named : row_named eq name rows ≡ found
    pub apart : other_rows eq name rows ≡ others
    pub fate : fate_at limits found fragment ≡ is_accepted
    pub beside : AllZip (HoldsRow limits) names others
    pub own : HoldsRow limits held_name (row_with found name fragment now number (held_room held_name.1))
    pub opens : is_some held_name.1.buffer ≡ true
    -- The row that is reported if the stream uses too much memory.
    pub alike : same_stream eq
        (unwrap_or found (row_with found name fragment now number (held_room held_name.1))).id held_name.0
        ≡ true
    pub was_open : is_open (unwrap_or found (row_with found name fragment now number (held_room held_name.1))) ≡ true
    pub first : held_name.1.first
        ≡ (unwrap_or found (row_with found name fragment now number (held_room held_name.1))).first

  -- The step, with some granted memory.
  abbrev pub DoesForSome : Holdings C e h → Result (Option IpDefragPayloadVec) BoundedDefragError → List (Row C) → ℕ
      → Type 0
  DoesForSome new result rows number = (granted : Option ℕ)
      × DoesFragmentStep eq limits old new result (step_within limits eq rows name fragment now number granted)
      × (is_some granted ≡ not (is_starved result))

  module _ (rows : List (Row C)) (number : ℕ) (found : Option (Row C)) (others : List (Row C))
      (names : List (HeldName C)) (held_name : HeldName C) (accepts : Accepts rows number found others names held_name)
      (fits : FitCounters old.statistics) (new : Holdings C e h) where
    abbrev space : ℕ
    space = held_room held_name.1

    abbrev own_row : Row C
    own_row = row_with found name fragment now number space

    abbrev all : List IpFragment
    all = accepted_before found ++ fragment ∷ []

    pub completes : is_complete all ≡ true → names_held new ≡ names → new.evicted.items ≡ old.evicted.items
        → new.statistics ≡ record (with_begun old.statistics (not (is_some found))) {
          completed = counted old.statistics.completed 1;
        }
        → (result : Option IpDefragPayloadVec) → ReturnsPayload held_name.0 held_name.1.buffer result
        → DoesForSome new (Ok result) rows number
    completes complete left same counts result returned = (
      Some space,
      subst (DoesFragmentStep eq limits old new (Ok result))
          (complete_step eq limits rows name fragment now number found accepts.named accepts.fate others accepts.apart
          space
          complete)
          (record {
            names = subst (λ (names : List (HeldName C)). AllZip (HoldsRow limits) names others) (sym left)
                accepts.beside;
            evicted = nothing_gone new same;
            statistics = counts ∙ completion_counted old.statistics fits others (not (is_some found))
                (payload_by limits own_row.id all) all;
            answer =
                payload_returned limits held_name.0 own_row.id held_name.1.buffer all result accepts.own.state
                accepts.own.id returned;
          }),
      refl,
    )

    module _ (part : is_complete all ≡ false) (mid : Holdings C e h)
        (same : mid.evicted.items ≡ old.evicted.items)
        (begins : mid.statistics ≡ with_begun old.statistics (not (is_some found))) where
      -- The stream alone uses too much memory.
      pub goes_over : limits.bytes < space → names_held new ≡ names
          → new.statistics ≡ with_gone mid.statistics Bytes
          → new.evicted.items ≡ mid.evicted.items ++ report_of held_name Bytes ∷ []
          → DoesForSome new (Err OverBudget) rows number
      goes_over over left counts pushed = (
        Some space,
        subst (DoesFragmentStep eq limits old new (Err OverBudget))
            (over_budget_step eq limits rows name fragment now number found accepts.named accepts.fate others
            accepts.apart
            space part (lt-ltb limits.bytes space over))
            (record {
              names = subst (λ (names : List (HeldName C)). AllZip (HoldsRow limits) names others) (sym left)
                  accepts.beside;
              evicted = one_gone new (report_of held_name Bytes) (gone_for Bytes (unwrap_or found own_row))
                  (pushed ∙ ap (λ (items : List (EvictedStream C)). items ++ report_of held_name Bytes ∷ []) same)
                  (record { id = accepts.alike; cause = refl; first = accepts.first });
              statistics = counts ∙ ap (λ counters. with_gone counters Bytes) begins
                  ∙ over_budget_counted old.statistics fits others (not (is_some found)) (unwrap_or found own_row)
                  accepts.was_open;
              answer = refl;
            }),
        refl,
      )

      -- Others are evicted for it.
      pub goes_on : space ≤ limits.bytes → EvictsForLimits eq limits (names ++ held_name ∷ []) mid new
          → DoesForSome new (Ok None) rows number
      goes_on within evicts =
          let left = evicts (others ++ own_row ∷ [])
          (zip_append (HoldsRow limits) names (held_name ∷ []) others (own_row ∷ []) accepts.beside
          (accepts.own, tt)) in (
            Some space,
            subst (DoesFragmentStep eq limits old new (Ok None))
                (settled_step eq limits rows name fragment now number found accepts.named accepts.fate others
                accepts.apart
                space part (le-ltb limits.bytes space within))
                (record {
                  names = left.names;
                  evicted = λ earlier reports.
                      left.evicted earlier
                      (subst (λ (items : List (EvictedStream C)). AllZip (Reports eq) items earlier) (sym same)
                      reports);
                  statistics = left.statistics
                      ∙ ap (λ counters. with_all_gone counters (evicted_for_limits limits (others ++ own_row ∷ [])))
                      begins
                      ∙ evictions_counted old.statistics fits (remaining limits (others ++ own_row ∷ []))
                      (not (is_some found))
                      (evicted_for_limits limits (others ++ own_row ∷ []));
                  answer = refl;
                }),
            refl,
          )
