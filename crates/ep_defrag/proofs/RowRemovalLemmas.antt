-- Rows of a bounded pool's table as names leave it by `remove`, `clear` and `expire`.
use Rattle.std.proofs.Common.{◌≡◌, ℕ, ◌≤◌, Bool, true, false, not, cond, List, [], ◌∷◌, ◌++◌, map, Option, Some, None, is_some, Contains}
use Rattle.std.proofs.Common.{refl, sym, ap, subst, ◌∙◌, inl, inr, arith}
use Rattle.std.specs.Cmp.{IsEquivalence}
use Rattle.std.specs.Hash.{HashWrites}
use Rattle.std.specs.declared.hash.RandomState.{RandomState}
use Rattle.std.specs.List.{AllZip, filter, find, count_by}
use Rattle.std.proofs.lemmas.Bool.{cases_Bool}
use Rattle.std.proofs.lemmas.List.{map-append}
use Rattle.std.proofs.lemmas.List.Elements.{filter-append}
use Rattle.std.proofs.lemmas.List.Sums.{sum_by-cons, sum_by-append}
use Rattle.lru_table.specs.declared.slot.Slot.{Slot}
use Rattle.lru_table.specs.LruTable.{without}
use Rattle.ep_defrag.specs.KeyedHashes.{name_hash}
use Rattle.ep_defrag.specs.declared.ip_defrag_buf.IpDefragBuf.{IpDefragBuf}
use Rattle.ep_defrag.specs.declared.ip_frag_id.IpFragId.{IpFragId}
use Rattle.ep_defrag.specs.declared.departure.Departure.TheVariants.{Removed}
use Rattle.ep_defrag.specs.declared.bounded_defrag_pool.BoundedDefragPool.{BoundedDefragPool}
use Rattle.ep_defrag.specs.declared.bounded_limits.DefragLimits.{DefragLimits}
use Rattle.ep_defrag.specs.declared.evicted_stream.EvictionCause.TheVariants.{Expired}
use Rattle.ep_defrag.specs.IpFragments.{IpFragment}
use Rattle.ep_defrag.specs.Streams.{same_stream}
use Rattle.ep_defrag.specs.BoundedSteps.{Row, is_open, row_named, is_due, gone_for, is_expiry, is_overlap, is_for_streams, is_for_bytes, removes_name, clears_names, expires_names}
use Rattle.ep_defrag.specs.BoundedNames.{HeldName, names_of, AreHashed, open_names, HoldsState, HoldsRow, HeldNamesDiffer, HoldsNames, Reports}
use Rattle.ep_defrag.specs.BoundedHoldings.{is_stream_due, due_in, not_due_in, report_of, after_departure}
use Rattle.ep_defrag.specs.BoundedPools.{limits_in, names_in, evicted_in, statistics_in, HoldsRows, DoesStep}
use Rattle.ep_defrag.specs.BoundedCounts.{counted, count_gone, FitCounters}
use Rattle.ep_defrag.proofs.CounterLemmas.{counted_none, removed_only, removed_once, expired_only, all_gone, none_gone}
use Rattle.ep_defrag.proofs.AnswerCounterLemmas.{counters_of}
use Rattle.ep_defrag.proofs.StreamLemmas.{same_stream_laws}
use Rattle.ep_defrag.proofs.LookupLemmas.{find_none, count_filter}
use Rattle.ep_defrag.proofs.HeldNameLemmas.{StreamEntries, Placed, open_once}
use Rattle.ep_defrag.proofs.HeldNamesDifferLemmas.{none_in}
use Rattle.ep_defrag.proofs.KeyedHashLemmas.{same_hash}

-- ---- two lists whose elements belong together
module _ {X Y : Type 0} (R : X → Y → Type 0) where
  module _ (p : X → Bool) (q : Y → Bool) (agree : (x : X) (y : Y) → R x y → p x ≡ q y) where
    pub zip_filter : (xs : List X) (ys : List Y) → AllZip R xs ys → AllZip R (filter p xs) (filter q ys)
    zip_filter [] [] all = tt
    zip_filter [] (y ∷ ys) all = absurd all
    zip_filter (x ∷ xs) [] all = absurd all
    zip_filter (x ∷ xs) (y ∷ ys) all = elim (cases_Bool (p x)) [
      | inl passes ↦
          rw (passes, sym (agree x y all.0) ∙ passes) (all.0, zip_filter xs ys all.1)
      | inr fails ↦ rw (fails, sym (agree x y all.0) ∙ fails) (zip_filter xs ys all.1)
    ]

    pub zip_count : (xs : List X) (ys : List Y) → AllZip R xs ys → count_by p xs ≡ count_by q ys
    zip_count [] [] all = refl
    zip_count [] (y ∷ ys) all = absurd all
    zip_count (x ∷ xs) [] all = absurd all
    zip_count (x ∷ xs) (y ∷ ys) all =
        omega (
          arith,
          sum_by-cons (λ (one : X). cond (p one) 1 0) x xs,
          sum_by-cons (λ (one : Y). cond (q one) 1 0) y ys,
          ap {B = ℕ} (λ b. cond b 1 0) (agree x y all.0),
          zip_count xs ys all.1,
        )

  pub zip_map : {V W : Type 0} (S : V → W → Type 0) (f : X → V) (g : Y → W)
      → ((x : X) (y : Y) → R x y → S (f x) (g y)) → (xs : List X) (ys : List Y) → AllZip R xs ys
      → AllZip S (map f xs) (map g ys)
  zip_map S f g each [] [] all = tt
  zip_map S f g each [] (y ∷ ys) all = absurd all
  zip_map S f g each (x ∷ xs) [] all = absurd all
  zip_map S f g each (x ∷ xs) (y ∷ ys) all = (each x y all.0, zip_map S f g each xs ys all.1)

-- ---- elements that pass a test
module _ {X : Type 0} (p : X → Bool) where
  pub none_pass : (xs : List X) → count_by p xs ≡ 0
      → (filter (λ x. not (p x)) xs ≡ xs) × (filter p xs ≡ [])
  none_pass [] none = (refl, refl)
  none_pass (x ∷ xs) none =
      let step = sum_by-cons (λ (one : X). cond (p one) 1 0) x xs in
      elim (cases_Bool (p x)) [
        | inl passes ↦ absurd (omega (arith, step, ap {B = ℕ} (λ b. cond b 1 0) passes, none))
        | inr fails ↦
            let rest = none_pass xs (omega (arith, step, none)) in
            rw fails (ap (λ others. x ∷ others) rest.0, rest.1)
      ]

  -- Only one element passes.
  pub one_passes : (before after : List X) (x : X) → p x ≡ true → count_by p (before ++ x ∷ after) ≤ 1
      → (filter (λ y. not (p y)) (before ++ x ∷ after) ≡ before ++ after) × (filter p (before ++ x ∷ after) ≡ x ∷ [])
  one_passes before after x passes one =
      let weight : X → ℕ = λ y. cond (p y) 1 0 in
      let parts = sum_by-append weight before (x ∷ after) in
      let own = sum_by-cons weight x after in
      let once : weight x ≡ 1 = ap {B = ℕ} (λ b. cond b 1 0) passes in
      let first = none_pass before (omega (arith, parts, own, once, one)) in
      let last = none_pass after (omega (arith, parts, own, once, one)) in (
        filter-append (λ y. not (p y)) before (x ∷ after)
            ∙ rw passes (λ i. first.0 i ++ last.0 i),
        filter-append p before (x ∷ after) ∙ rw passes (λ i. first.1 i ++ x ∷ last.1 i),
      )

-- ---- states of names
open_state : (limits : DefragLimits) (buffer : Option IpDefragBuf) (accepted : Option (List IpFragment))
    → HoldsState limits buffer accepted → is_some buffer ≡ is_some accepted
open_state limits None None holds_state = refl
open_state limits None (Some accepted) holds_state = absurd holds_state
open_state limits (Some buffer) None holds_state = absurd holds_state
open_state limits (Some buffer) (Some accepted) holds_state = refl

module _ {C : Type 0} (limits : DefragLimits) where
  -- As many streams are open.
  pub open_rows : (names : List (HeldName C)) (rows : List (Row C)) → AllZip (HoldsRow limits) names rows
      → open_names names ≡ count_by is_open rows
  open_rows names rows all =
      zip_count (HoldsRow limits) (λ name. is_some name.1.buffer) (λ row. is_some row.accepted)
      (λ name row holds. open_state limits name.1.buffer row.accepted holds.state) names rows all

  module _ (eq : C → C → Bool) where
    -- Names that pass a test, and rows that do, still belong together.
    pub filtered_names : (p : HeldName C → Bool) (q : Row C → Bool)
        → ((name : HeldName C) (row : Row C) → HoldsRow limits name row → p name ≡ q row)
        → (names : List (HeldName C)) (rows : List (Row C)) → HoldsNames eq limits names rows
        → HoldsNames eq limits (filter p names) (filter q rows)
    filtered_names p q agree names rows holds_names = record {
      differ = λ name.
          omega (arith, holds_names.differ name, count_filter (λ one. same_stream eq one.0 name) p names);
      each = zip_filter (HoldsRow limits) p q agree names rows holds_names.each;
    }

    same_row : (name : IpFragId C) (held_name : HeldName C) (row : Row C) → HoldsRow limits held_name row
        → same_stream eq held_name.0 name ≡ same_stream eq row.id name
    same_row name held_name row holds = ap (λ (id : IpFragId C). same_stream eq id name) holds.id

    due_row : (now idle : ℕ) (held_name : HeldName C) (row : Row C) → HoldsRow limits held_name row
        → is_stream_due limits now idle held_name.1 ≡ is_due limits now idle row
    due_row now idle held_name row holds = rw (holds.first, holds.last) refl

-- ---- names that leave
module _ {C : Type 0} (eq : C → C → Bool) where
  -- All names are removed.
  pub cleared : (old new : BoundedDefragPool C) (rows : List (Row C)) (number : ℕ) → HoldsRows eq old rows
      → FitCounters (statistics_in old) → names_in new ≡ [] → evicted_in new ≡ [] → limits_in new ≡ limits_in old
      → statistics_in new ≡ record (statistics_in old) {
        removed = counted (statistics_in old).removed (open_names (names_in old));
      }
      → DoesStep eq old new clears_names number None rows
  cleared old new rows number holds_rows fit names evicted limits statistics =
      let counters = statistics_in old in
      record {
        holds = rw names (record { differ = λ name. omega arith; each = tt });
        evicted = rw evicted tt;
        statistics =
            statistics
            ∙ (λ i. record counters {
              removed = counted counters.removed (open_rows (limits_in old) (names_in old) rows holds_rows.each i);
            })
            ∙ removed_only counters fit (counted counters.removed (count_by is_open rows))
            ∙ counters_of counters fit 0 0 0 0 (count_by is_open rows) refl refl refl;
        limits = limits;
      }

  -- One name is removed, or none.
  pub removed_step : (old new : BoundedDefragPool C) (rows : List (Row C)) (number : ℕ) (name : IpFragId C)
      (streams : ℕ)
      → HoldsRows eq old rows → FitCounters (statistics_in old)
      → names_in new ≡ filter (λ one. not (same_stream eq one.0 name)) (names_in old)
      → open_names (filter (λ one. same_stream eq one.0 name) (names_in old)) ≡ streams
      → evicted_in new ≡ [] → limits_in new ≡ limits_in old
      → statistics_in new
      ≡ record (statistics_in old) { removed = counted (statistics_in old).removed streams }
      → DoesStep eq old new (removes_name name) number None rows
  removed_step old new rows number name streams holds_rows fit names many_open evicted limits statistics =
      let counters = statistics_in old in
      let those = filter (λ row. same_stream eq row.id name) rows in
      let many : streams ≡ count_by is_open those =
      sym many_open
      ∙ open_rows (limits_in old) (filter (λ one. same_stream eq one.0 name) (names_in old)) those
      (zip_filter (HoldsRow (limits_in old)) (λ one. same_stream eq one.0 name) (λ row. same_stream eq row.id name)
      (same_row (limits_in old) eq name) (names_in old) rows holds_rows.each) in
      record {
        holds = rw (names, limits)
            (filtered_names (limits_in old) eq (λ one. not (same_stream eq one.0 name))
            (λ row. not (same_stream eq row.id name))
            (λ one row holds. ap not (same_row (limits_in old) eq name one row holds)) (names_in old) rows holds_rows);
        evicted = rw evicted tt;
        statistics =
            statistics ∙ (λ i. record counters { removed = counted counters.removed (many i) })
            ∙ removed_only counters fit (counted counters.removed (count_by is_open those))
            ∙ counters_of counters fit 0 0 0 0 (count_by is_open those) refl refl refl;
        limits = limits;
      }

  -- The names that are due are evicted.
  pub expired_step : IsEquivalence eq → (old new : BoundedDefragPool C) (rows : List (Row C)) (number now idle : ℕ)
      → HoldsRows eq old rows → FitCounters (statistics_in old)
      → names_in new ≡ filter (λ one. not (is_stream_due (limits_in old) now idle one.1)) (names_in old)
      → evicted_in new ≡ map (λ one. report_of one Expired)
      (filter (λ one. is_stream_due (limits_in old) now idle one.1) (names_in old))
      → limits_in new ≡ limits_in old
      → statistics_in new ≡ record (statistics_in old) {
        expired = counted (statistics_in old).expired
            (open_names (filter (λ one. is_stream_due (limits_in old) now idle one.1) (names_in old)));
      }
      → DoesStep eq old new (expires_names now idle) number None rows
  expired_step laws old new rows number now idle holds_rows fit names evicted limits statistics =
      let counters = statistics_in old in
      let same = same_stream_laws eq laws in
      let due = filter (λ one. is_stream_due (limits_in old) now idle one.1) (names_in old) in
      let due_rows = filter (is_due (limits_in old) now idle) rows in
      let zip : AllZip (HoldsRow (limits_in old)) due due_rows =
      zip_filter (HoldsRow (limits_in old)) (λ one. is_stream_due (limits_in old) now idle one.1)
      (is_due (limits_in old) now idle) (due_row (limits_in old) eq now idle) (names_in old) rows holds_rows.each in
      let many : open_names due ≡ count_gone is_expiry (map (gone_for Expired) due_rows) =
      open_rows (limits_in old) due due_rows zip ∙ sym (all_gone is_expiry refl due_rows) in
      record {
        holds = rw (names, limits)
            (filtered_names (limits_in old) eq (λ one. not (is_stream_due (limits_in old) now idle one.1))
            (λ row. not (is_due (limits_in old) now idle row))
            (λ one row holds. ap not (due_row (limits_in old) eq now idle one row holds))
            (names_in old) rows holds_rows);
        evicted = rw evicted
            (zip_map (HoldsRow (limits_in old)) (Reports eq) (λ one. report_of one Expired) (gone_for Expired)
            (λ one row holds. record {
              id = rw (← holds.id) (same.refl one.0);
              cause = refl;
              first = holds.first;
            })
            due due_rows zip);
        statistics =
            statistics ∙ (λ i. record counters { expired = counted counters.expired (many i) })
            ∙ expired_only counters fit
            (counted counters.expired (count_gone is_expiry (map (gone_for Expired) due_rows)))
            ∙ counters_of counters fit (count_gone is_overlap (map (gone_for Expired) due_rows))
            (count_gone is_expiry (map (gone_for Expired) due_rows))
            (count_gone is_for_streams (map (gone_for Expired) due_rows))
            (count_gone is_for_bytes (map (gone_for Expired) due_rows)) 0
            (none_gone is_overlap refl due_rows) (none_gone is_for_streams refl due_rows)
            (none_gone is_for_bytes refl due_rows);
        limits = limits;
      }

-- ---- names of entries
map_filter : {X Y : Type 0} (f : X → Y) (p : Y → Bool) (xs : List X)
    → map f (filter (λ x. p (f x)) xs) ≡ filter p (map f xs)
map_filter f p [] = refl
map_filter f p (x ∷ xs) = elim (cases_Bool (p (f x))) [
  | inl passes ↦ rw passes (ap (λ others. f x ∷ others) (map_filter f p xs))
  | inr fails ↦ rw fails (map_filter f p xs)
]

module _ {C : Type 0} (limits : DefragLimits) (now idle : ℕ) where
  pub names_due : (entries : StreamEntries C) → names_of (due_in limits now idle entries)
      ≡ filter (λ one. is_stream_due limits now idle one.1) (names_of entries)
  names_due entries = map_filter (λ entry. entry.1) (λ one. is_stream_due limits now idle one.1) entries

  pub names_not_due : (entries : StreamEntries C) → names_of (not_due_in limits now idle entries)
      ≡ filter (λ one. not (is_stream_due limits now idle one.1)) (names_of entries)
  names_not_due entries = map_filter (λ entry. entry.1) (λ one. not (is_stream_due limits now idle one.1)) entries

  reports_by_names : (entries : StreamEntries C)
      → map (λ entry. report_of entry.1 Expired) entries ≡ map (λ one. report_of one Expired) (names_of entries)
  reports_by_names [] = refl
  reports_by_names (entry ∷ entries) = ap (λ others. report_of entry.1 Expired ∷ others) (reports_by_names entries)

  pub reports_due : (entries : StreamEntries C)
      → map (λ entry. report_of entry.1 Expired) (due_in limits now idle entries)
      ≡ map (λ one. report_of one Expired) (filter (λ one. is_stream_due limits now idle one.1) (names_of entries))
  reports_due entries =
      reports_by_names (due_in limits now idle entries)
      ∙ ap (λ (names : List (HeldName C)). map (λ one. report_of one Expired) names) (names_due entries)

-- ---- the name of an identifier
find_passing : {X : Type 0} (p : X → Bool) (xs : List X) (x : X) → filter p xs ≡ x ∷ [] → is_some (find p xs) ≡ true
find_passing p [] x is = absurd cc
find_passing p (y ∷ xs) x is = elim (cases_Bool (p y)) [
  | inl passes ↦ rw passes refl
  | inr fails ↦ rw fails (find_passing p xs x (rw fails at is))
]

is_some_zip : {X Y : Type 0} (R : X → Y → Type 0) (p : X → Bool) (q : Y → Bool)
    → ((x : X) (y : Y) → R x y → p x ≡ q y) → (xs : List X) (ys : List Y) → AllZip R xs ys
    → is_some (find p xs) ≡ is_some (find q ys)
is_some_zip R p q agree [] [] all = refl
is_some_zip R p q agree [] (y ∷ ys) all = absurd all
is_some_zip R p q agree (x ∷ xs) [] all = absurd all
is_some_zip R p q agree (x ∷ xs) (y ∷ ys) all = elim (cases_Bool (p x)) [
  | inl passes ↦ rw (passes, sym (agree x y all.0) ∙ passes) refl
  | inr fails ↦ rw (fails, sym (agree x y all.0) ∙ fails) (is_some_zip R p q agree xs ys all.1)
]

module _ {C : Type 0} (eq : C → C → Bool) (laws : IsEquivalence eq) (name : IpFragId C) where
  abbrev pub is_named : HeldName C → Bool
  is_named held_name = same_stream eq held_name.0 name

  -- The only entry of the identifier is in the slot.
  pub one_name : (entries : StreamEntries C) (slot : Slot) (own : HeldName C) → Placed entries slot own
      → same_stream eq name own.0 ≡ true → HeldNamesDiffer eq (names_of entries)
      → (names_of (without slot entries) ≡ filter (λ one. not (is_named one)) (names_of entries))
      × (filter is_named (names_of entries) ≡ own ∷ [])
  one_name entries slot own placed same differ =
      let at = placed.2 in
      let before = placed.0 in
      let after = placed.1 in
      let equal = same_stream_laws eq laws in
      let names : names_of entries ≡ names_of before ++ own ∷ names_of after =
      (λ i. names_of (at.whole i)) ∙ map-append (λ (e : Slot × HeldName C). e.1) before ((slot, own) ∷ after) in
      let one = one_passes is_named (names_of before) (names_of after) own (equal.symm own.0 name ∙ same)
      (subst (λ (all : List (HeldName C)). count_by is_named all ≤ 1) names (differ name)) in (
        (λ i. names_of (at.removed i)) ∙ map-append (λ (e : Slot × HeldName C). e.1) before after ∙ sym one.0
            ∙ ap (λ (all : List (HeldName C)). filter (λ one. not (is_named one)) all) (sym names),
        ap (λ (all : List (HeldName C)). filter is_named all) names ∙ one.1,
      )

  -- No entry has the identifier, if none with its hash does.
  pub no_name : (channel : C → HashWrites) → ((x y : C) → eq x y ≡ true → channel x ≡ channel y)
      → (keys : RandomState) (entries : StreamEntries C) (slot : Slot) → AreHashed channel keys entries
      → slot.hash ≡ name_hash channel keys name
      → ((entry : Slot × HeldName C) → Contains entries entry → entry.0.hash ≡ slot.hash
      → same_stream eq name entry.1.0 ≡ false)
      → count_by is_named (names_of entries) ≡ 0
  no_name channel respects keys entries slot hashed own absent =
      let equal = same_stream_laws eq laws in
      none_in eq laws name entries (λ entry inside. elim (cases_Bool (same_stream eq entry.1.0 name)) [
        | inl same ↦
            let hashes : entry.0.hash ≡ slot.hash =
            hashed entry inside ∙ same_hash eq channel respects keys entry.1.0 name same ∙ sym own in
            equal.symm entry.1.0 name ∙ absent entry inside hashes
        | inr other ↦ other
      ])

  module _ (limits : DefragLimits) (names : List (HeldName C)) (rows : List (Row C))
      (holds_names : HoldsNames eq limits names rows) where
    named_row : is_some (find is_named names) ≡ is_some (row_named eq name rows)
    named_row =
        is_some_zip (HoldsRow limits) is_named (λ row. same_stream eq row.id name) (same_row limits eq name) names rows
        holds_names.each

    pub is_present : (own : HeldName C) → filter is_named names ≡ own ∷ [] → true ≡ is_some (row_named eq name rows)
    is_present own one = sym (find_passing is_named names own one) ∙ named_row

    pub is_absent : count_by is_named names ≡ 0 → false ≡ is_some (row_named eq name rows)
    is_absent none = sym (ap is_some (find_none is_named names none)) ∙ named_row

  module _ (old new : BoundedDefragPool C) (rows : List (Row C)) (holds_rows : HoldsRows eq old rows) where
    -- The name is removed.
    pub removes_present : (number : ℕ) (own : HeldName C) → FitCounters (statistics_in old)
        → names_in new ≡ filter (λ one. not (is_named one)) (names_in old)
        → filter is_named (names_in old) ≡ own ∷ [] → evicted_in new ≡ [] → limits_in new ≡ limits_in old
        → statistics_in new ≡ after_departure (statistics_in old) own.1.buffer Removed
        → DoesStep eq old new (removes_name name) number None rows
    removes_present number own fit names one evicted limits statistics =
        removed_step eq old new rows number name (open_once own.1) holds_rows fit names
        (omega (
          arith,
          ap {B = ℕ} (λ (all : List (HeldName C)). open_names all) one,
          sum_by-cons (λ (each : HeldName C). open_once each.1) own [],
        )) evicted limits
        (statistics ∙ removed_once (statistics_in old) fit own.1.buffer)

    -- There is no such name.
    pub removes_absent : (number : ℕ) → FitCounters (statistics_in old) → count_by is_named (names_in old) ≡ 0
        → names_in new ≡ names_in old → evicted_in new ≡ [] → limits_in new ≡ limits_in old
        → statistics_in new ≡ statistics_in old
        → DoesStep eq old new (removes_name name) number None rows
    removes_absent number fit none names evicted limits statistics =
        let counters = statistics_in old in
        let parts = none_pass is_named (names_in old) none in
        removed_step eq old new rows number name 0 holds_rows fit (names ∙ sym parts.0)
        (ap (λ (all : List (HeldName C)). open_names all) parts.1) evicted limits
        (statistics ∙ (λ i. record counters { removed = sym (counted_none counters.removed fit.removed) i }))
