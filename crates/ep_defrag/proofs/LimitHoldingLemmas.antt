-- A bounded pool evicts for its limits as many names as the limits require, the oldest first.
use Rattle.std.proofs.Common.{◌≡◌, ℕ, ◌+◌, ◌<◌, ◌≤◌, ◌^◌, Bool, true, false, ◌&&◌, cond, is_some, List, [], ◌∷◌, ◌++◌, length, slice_get, Option, Some, None}
use Rattle.std.proofs.Common.{append_assoc, append-nil, refl, sym, ap, subst, ◌∙◌, arith}
use Rattle.std.specs.Cmp.{IsEquivalence}
use Rattle.std.specs.List.{AllZip}
use Rattle.std.proofs.lemmas.Bool.{le-leb, lt-leb, lt-ltb, le-ltb}
use Rattle.std.proofs.lemmas.List.Sums.{sum_by-cons}
use Rattle.std.specs.declared.cmp.PartialEq
use Rattle.std.specs.declared.hash.Hash
use Rattle.std.specs.Option.{option_map}
use Rattle.lru_table.specs.declared.slot.Slot.{Slot}
use Rattle.lru_table.specs.LruTable.{entry_at, without}
use Rattle.ep_defrag.specs.declared.ip_defrag_buf.IpDefragBuf.{IpDefragBuf}
use Rattle.ep_defrag.specs.declared.bounded_limits.DefragLimits.{DefragLimits}
use Rattle.ep_defrag.specs.declared.defrag_statistics.DefragStatistics.{DefragStatistics}
use Rattle.ep_defrag.specs.declared.departure.Departure.TheVariants.{Evicted}
use Rattle.ep_defrag.specs.declared.evicted_stream.EvictedStream.{EvictedStream}
use Rattle.ep_defrag.specs.declared.evicted_stream.EvictionCause.{EvictionCause}
use Rattle.ep_defrag.specs.declared.evicted_stream.EvictionCause.TheVariants.{Expired, Overlap, Streams, Bytes}
use Rattle.ep_defrag.specs.declared.holdings.Holdings.{Holdings}
use Rattle.ep_defrag.specs.IpFragments.{IpFragment}
use Rattle.ep_defrag.specs.Streams.{same_stream}
use Rattle.ep_defrag.specs.BoundedLimits.{most_names}
use Rattle.ep_defrag.specs.BoundedSteps.{Row, is_open, room_held, are_within, limit_cause, remaining, evicted_for_limits, Gone, gone_for}
use Rattle.ep_defrag.specs.BoundedSteps.{is_expiry, is_overlap, is_for_streams, is_for_bytes}
use Rattle.ep_defrag.specs.BoundedCounts.{FitCounters, counted, count_gone, with_gone}
use Rattle.ep_defrag.specs.BoundedNames.{HeldName, names_of, held_room, room_of_names, HoldsState, HoldsRow, Reports}
use Rattle.ep_defrag.specs.BoundedHoldings.{names_held, report_of, after_departure, with_all_gone, EvictsName, LeavesRows, EvictsForLimits}
use Rattle.ep_defrag.proofs.StreamLemmas.{same_stream_laws}
use Rattle.ep_defrag.proofs.HeldNameLemmas.{StreamEntries}
use Rattle.ep_defrag.proofs.RowHoldingLemmas.{zip_append}

-- ---- sums of rows beside names
module _ {C : Type 0} (limits : DefragLimits) where
  pub space_beside : (names : List (HeldName C)) (rows : List (Row C)) → AllZip (HoldsRow limits) names rows
      → room_held rows ≡ room_of_names names
  space_beside [] [] all = refl
  space_beside [] (row ∷ rows) all = absurd all
  space_beside (held_name ∷ names) [] all = absurd all
  space_beside (held_name ∷ names) (row ∷ rows) all =
      omega (
        arith,
        space_beside names rows all.1,
        all.0.room,
        sum_by-cons (λ (one : HeldName C). held_room one.1) held_name names,
        sum_by-cons (λ (one : Row C). one.room) row rows,
      )

  pub length_beside : (names : List (HeldName C)) (rows : List (Row C)) → AllZip (HoldsRow limits) names rows
      → length rows ≡ length names
  length_beside [] [] all = refl
  length_beside [] (row ∷ rows) all = absurd all
  length_beside (held_name ∷ names) [] all = absurd all
  length_beside (held_name ∷ names) (row ∷ rows) all = omega (arith, length_beside names rows all.1)

  -- ---- the cause
  module _ (names : List (HeldName C)) (rows : List (Row C)) (all : AllZip (HoldsRow limits) names rows) where
    abbrev cause_of : Option EvictionCause
    cause_of = cond (are_within limits rows) None (Some (limit_cause limits rows))

    pub cause_streams : most_names limits < length names → Some Streams ≡ cause_of
    cause_streams over =
        let many : most_names limits < length rows = omega (arith, over, length_beside names rows all) in
        rw (lt-leb (length rows) (most_names limits) many, lt-ltb (most_names limits) (length rows) many) refl

    pub cause_bytes : length names ≤ most_names limits → limits.bytes < room_of_names names → Some Bytes ≡ cause_of
    cause_bytes few over =
        let less : length rows ≤ most_names limits = omega (arith, few, length_beside names rows all) in
        let large : limits.bytes < room_held rows = omega (arith, over, space_beside names rows all) in
        rw (
          le-leb (length rows) (most_names limits) less,
          lt-leb (room_held rows) limits.bytes large,
          le-ltb (most_names limits) (length rows) less,
        ) refl

    pub cause_none : length names ≤ most_names limits → room_of_names names ≤ limits.bytes → None ≡ cause_of
    cause_none few small =
        let less : length rows ≤ most_names limits = omega (arith, few, length_beside names rows all) in
        let fits : room_held rows ≤ limits.bytes = omega (arith, small, space_beside names rows all) in
        rw (le-leb (length rows) (most_names limits) less, le-leb (room_held rows) limits.bytes fits) refl

-- ---- counters
added : (x a b total : ℕ) → total ≡ a + b → counted (counted x a) b ≡ counted x total
added x a b total sum = omega (arith, sum)

counted_by_sum : (x b total : ℕ) → total ≡ 0 + b → counted x b ≡ counted x total
counted_by_sum x b total sum = omega (arith, sum)

module _ {C : Type 0} (old : DefragStatistics) (row : Row C) (later : List (Gone C)) where
  sum_of : (is_cause : EvictionCause → Bool) (cause : EvictionCause)
      → count_gone is_cause (gone_for cause row ∷ later)
      ≡ cond (is_cause cause && is_open row) 1 0 + count_gone is_cause later
  sum_of is_cause cause =
      sum_by-cons (λ (each : Gone C). cond (is_cause each.cause && is_open each.row) 1 0) (gone_for cause row) later

  module _ (opens : is_open row ≡ true) where
    one : cond {A = ℕ} (is_open row) 1 0 ≡ 1
    one = ap {B = ℕ} (λ b. cond b 1 0) opens

    pub one_evicted : (cause : EvictionCause)
        → with_all_gone (with_gone old cause) later ≡ with_all_gone old (gone_for cause row ∷ later)
    one_evicted Expired = λ i. record old {
      discarded = counted_by_sum old.discarded _ _ (sum_of is_overlap Expired) i;
      expired = added old.expired 1 (count_gone is_expiry later) _
          (sum_of is_expiry Expired ∙ ap {B = ℕ} (λ n. n + count_gone is_expiry later) one) i;
      evicted_for_streams = counted_by_sum old.evicted_for_streams _ _ (sum_of is_for_streams Expired) i;
      evicted_for_bytes = counted_by_sum old.evicted_for_bytes _ _ (sum_of is_for_bytes Expired) i;
    }
    one_evicted Overlap = λ i. record old {
      discarded = added old.discarded 1 (count_gone is_overlap later) _
          (sum_of is_overlap Overlap ∙ ap {B = ℕ} (λ n. n + count_gone is_overlap later) one) i;
      expired = counted_by_sum old.expired _ _ (sum_of is_expiry Overlap) i;
      evicted_for_streams = counted_by_sum old.evicted_for_streams _ _ (sum_of is_for_streams Overlap) i;
      evicted_for_bytes = counted_by_sum old.evicted_for_bytes _ _ (sum_of is_for_bytes Overlap) i;
    }
    one_evicted Streams = λ i. record old {
      discarded = counted_by_sum old.discarded _ _ (sum_of is_overlap Streams) i;
      expired = counted_by_sum old.expired _ _ (sum_of is_expiry Streams) i;
      evicted_for_streams = added old.evicted_for_streams 1 (count_gone is_for_streams later) _
          (sum_of is_for_streams Streams ∙ ap {B = ℕ} (λ n. n + count_gone is_for_streams later) one) i;
      evicted_for_bytes = counted_by_sum old.evicted_for_bytes _ _ (sum_of is_for_bytes Streams) i;
    }
    one_evicted Bytes = λ i. record old {
      discarded = counted_by_sum old.discarded _ _ (sum_of is_overlap Bytes) i;
      expired = counted_by_sum old.expired _ _ (sum_of is_expiry Bytes) i;
      evicted_for_streams = counted_by_sum old.evicted_for_streams _ _ (sum_of is_for_streams Bytes) i;
      evicted_for_bytes = added old.evicted_for_bytes 1 (count_gone is_for_bytes later) _
          (sum_of is_for_bytes Bytes ∙ ap {B = ℕ} (λ n. n + count_gone is_for_bytes later) one) i;
    }

  module _ (closed : is_open row ≡ false) where
    uncounted : (is_cause : EvictionCause → Bool) (cause : EvictionCause) (x : ℕ)
        → counted x (count_gone is_cause later) ≡ counted x (count_gone is_cause (gone_for cause row ∷ later))
    uncounted is_cause cause x =
        counted_by_sum x (count_gone is_cause later) (count_gone is_cause (gone_for cause row ∷ later))
        (sum_of is_cause cause ∙ ap {B = ℕ} (λ n. n + count_gone is_cause later) (none (is_cause cause)))
      where
        none : (b : Bool) → cond {A = ℕ} (b && is_open row) 1 0 ≡ 0
        none true = ap {B = ℕ} (λ b. cond b 1 0) closed
        none false = refl

    -- A discarded name is not counted again.
    pub none_evicted : (cause : EvictionCause)
        → with_all_gone old later ≡ with_all_gone old (gone_for cause row ∷ later)
    none_evicted cause = λ i. record old {
      discarded = uncounted is_overlap cause old.discarded i;
      expired = uncounted is_expiry cause old.expired i;
      evicted_for_streams = uncounted is_for_streams cause old.evicted_for_streams i;
      evicted_for_bytes = uncounted is_for_bytes cause old.evicted_for_bytes i;
    }

pub evicted_counted : {C : Type 0} (limits : DefragLimits) (old : DefragStatistics) (buffer : Option IpDefragBuf)
    (row : Row C)
    → HoldsState limits buffer row.accepted → (cause : EvictionCause) (later : List (Gone C))
    → with_all_gone (after_departure old buffer (Evicted cause)) later ≡ with_all_gone old (gone_for cause row ∷ later)
evicted_counted {C} limits old buffer row state cause later = by_state buffer row.accepted state refl
  where
    by_state : (buffer : Option IpDefragBuf) (accepted : Option (List IpFragment)) → HoldsState limits buffer accepted
        → row.accepted ≡ accepted
        → with_all_gone (after_departure old buffer (Evicted cause)) later
        ≡ with_all_gone old (gone_for cause row ∷ later)
    by_state None None state is = none_evicted old row later (ap is_some is) cause
    by_state None (Some accepted) state is = absurd state
    by_state (Some buffer) None state is = absurd state
    by_state (Some buffer) (Some accepted) state is = one_evicted old row later (ap is_some is) cause

-- ---- evictions
pub reported : {C : Type 0} (eq : C → C → Bool) → IsEquivalence eq
    → (limits : DefragLimits) (held_name : HeldName C) (row : Row C) (cause : EvictionCause)
    → HoldsRow limits held_name row
    → Reports eq (report_of held_name cause) (gone_for cause row)
reported eq laws limits held_name row cause holds = record {
  id = subst (λ id. same_stream eq id held_name.0 ≡ true) holds.id ((same_stream_laws eq laws).refl held_name.0);
  cause = refl;
  first = holds.first;
}

module _ {C : Type 0} {e : PartialEq.Ghosts C} {h : Hash.Ghosts C} (eq : C → C → Bool) (laws : IsEquivalence eq)
    (limits : DefragLimits) where
  -- Nothing is evicted within the limits.
  pub evicts_none : (holdings : Holdings C e h) → FitCounters holdings.statistics
      → ((rows : List (Row C)) → AllZip (HoldsRow limits) (names_held holdings) rows
      → None ≡ cond (are_within limits rows) None (Some (limit_cause limits rows)))
      → EvictsForLimits eq limits (names_held holdings) holdings holdings
  evicts_none holdings fits within rows all =
      by_rows rows all (are_true (are_within limits rows) (limit_cause limits rows) (within rows all))
    where
      are_true : (test : Bool) (cause : EvictionCause) → None ≡ cond test None (Some cause) → test ≡ true
      are_true true cause is = refl
      are_true false cause is = absurd (cc)

      nothing : (rows : List (Row C)) → AllZip (HoldsRow limits) (names_held holdings) rows
          → LeavesRows eq limits holdings holdings rows []
      nothing rows all = record {
        names = all;
        evicted = λ earlier reports.
            subst (AllZip (Reports eq) holdings.evicted.items) (sym (append-nil earlier)) reports;
        statistics = λ i. record holdings.statistics {
          discarded = fit holdings.statistics.discarded fits.discarded i;
          expired = fit holdings.statistics.expired fits.expired i;
          evicted_for_streams = fit holdings.statistics.evicted_for_streams fits.evicted_for_streams i;
          evicted_for_bytes = fit holdings.statistics.evicted_for_bytes fits.evicted_for_bytes i;
        };
      }
        where
          fit : (n : ℕ) → n < 2 ^ 64 → n ≡ counted n 0
          fit n fits = omega (arith, fits)

      by_rows : (rows : List (Row C)) → AllZip (HoldsRow limits) (names_held holdings) rows
          → are_within limits rows ≡ true
          → LeavesRows eq limits holdings holdings (remaining limits rows) (evicted_for_limits limits rows)
      by_rows [] all is = nothing [] all
      by_rows (row ∷ later) all is = rw is (nothing (row ∷ later) all)

  -- The oldest name is evicted, and then others as far as the limits require.
  pub evicts_more : (old next final : Holdings C e h) (first : HeldName C) (names : List (HeldName C))
      (cause : EvictionCause)
      → names_held old ≡ first ∷ names → names_held next ≡ names
      → ((rows : List (Row C)) → AllZip (HoldsRow limits) (names_held old) rows
      → Some cause ≡ cond (are_within limits rows) None (Some (limit_cause limits rows)))
      → next.statistics ≡ after_departure old.statistics first.1.buffer (Evicted cause)
      → next.evicted.items ≡ old.evicted.items ++ report_of first cause ∷ []
      → EvictsForLimits eq limits (names_held next) next final → EvictsForLimits eq limits (names_held old) old final
  evicts_more old next final first names cause complete left above counts pushed later rows all =
      by_rows rows (subst (λ (names : List (HeldName C)). AllZip (HoldsRow limits) names rows) complete all)
      (above rows all)
    where
      split : (test : Bool) (own : EvictionCause) → Some cause ≡ cond test None (Some own)
          → (test ≡ false) × (own ≡ cause)
      split true own is = absurd (cc)
      split false own is = (refl, cc)

      by_rows : (rows : List (Row C)) → AllZip (HoldsRow limits) (first ∷ names) rows
          → Some cause ≡ cond (are_within limits rows) None (Some (limit_cause limits rows))
          → LeavesRows eq limits old final (remaining limits rows) (evicted_for_limits limits rows)
      by_rows [] all is = absurd all
      by_rows (row ∷ others) all is =
          let parts = split (are_within limits (row ∷ others)) (limit_cause limits (row ∷ others)) is in
          let rest =
          later others (subst (λ (names : List (HeldName C)). AllZip (HoldsRow limits) names others) (sym left)
          all.1) in
          let gone = gone_for cause row in
          rw (parts.0, parts.1) (record {
            names = rest.names;
            evicted = λ earlier reports.
                subst (AllZip (Reports eq) final.evicted.items)
                (append_assoc earlier (gone ∷ []) (evicted_for_limits limits others))
                (rest.evicted (earlier ++ gone ∷ [])
                (subst (λ (items : List (EvictedStream C)). AllZip (Reports eq) items (earlier ++ gone ∷ []))
                (sym pushed)
                (zip_append (Reports eq) old.evicted.items (report_of first cause ∷ []) earlier (gone ∷ []) reports
                (reported eq laws limits first row cause all.0, tt))));
            statistics = rest.statistics
                ∙ ap (λ (counters : DefragStatistics). with_all_gone counters (evicted_for_limits limits others)) counts
                ∙ evicted_counted limits old.statistics first.1.buffer row all.0.state cause
                (evicted_for_limits limits others);
          })

  -- as the table evicts the name in its oldest slot
  pub oldest_evicted : (old next final : Holdings C e h) (slot : Slot) (first : HeldName C) (cause : EvictionCause)
      → entry_at slot old.table ≡ Some first
      → ((oldest : Slot × HeldName C) (rest : StreamEntries C) → entry_at oldest.0 (oldest ∷ rest) ≡ Some oldest.1)
      → ((oldest : Slot × HeldName C) (rest : StreamEntries C) → without oldest.0 (oldest ∷ rest) ≡ rest)
      → Some slot ≡ option_map (λ e. e.0) (slice_get old.table 0)
      → ((rows : List (Row C)) → AllZip (HoldsRow limits) (names_held old) rows
      → Some cause ≡ cond (are_within limits rows) None (Some (limit_cause limits rows)))
      → EvictsName old next slot cause first
      → EvictsForLimits eq limits (names_held next) next final → EvictsForLimits eq limits (names_held old) old final
  oldest_evicted old next final slot first cause at found removed oldest above gone later =
      by_table old.table refl at oldest
    where
      by_table : (entries : StreamEntries C) → old.table ≡ entries → entry_at slot entries ≡ Some first
          → Some slot ≡ option_map (λ e. e.0) (slice_get entries 0)
          → EvictsForLimits eq limits (names_held old) old final
      by_table [] is at oldest = absurd (cc)
      by_table (own ∷ rest) is at oldest =
          let slots : slot ≡ own.0 = cc in
          let some : Some first ≡ Some own.1 =
          sym at ∙ ap (λ (s : Slot). entry_at s (own ∷ rest)) slots ∙ found own rest in
          let same : first ≡ own.1 = cc in
          let left : next.table ≡ rest =
          gone.table ∙ ap (without slot) is ∙ ap (λ (s : Slot). without s (own ∷ rest)) slots ∙ removed own rest in
          evicts_more old next final first (names_of rest) cause
          (ap (λ (entries : StreamEntries C). names_of entries) is
          ∙ ap (λ (held_name : HeldName C). held_name ∷ names_of rest) (sym same))
          (ap (λ (entries : StreamEntries C). names_of entries) left)
          above gone.statistics gone.evicted later
