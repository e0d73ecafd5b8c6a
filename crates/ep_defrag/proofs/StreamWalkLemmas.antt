-- Walks over the names of a table, from the oldest to the newest.
use Rattle.std.proofs.Common.{◌≡◌, ◌⊎◌, ℕ, ◌+◌, ◌<◌, ◌≤◌, vec_len, vec_capacity, true, false, not, cond, is_some, List, [], ◌∷◌, ◌++◌, length, map, slice_get}
use Rattle.std.proofs.Common.{Some, refl, sym, ap, subst, ◌∙◌, inl, inr, arith, append_assoc, append-nil}
use Rattle.std.specs.Option.{option_map}
use Rattle.std.proofs.lemmas.List.{length-append, map-append}
use Rattle.std.proofs.lemmas.List.Elements.{filter-append}
use Rattle.std.proofs.lemmas.List.Sums.{sum_by-cons}
use Rattle.std.specs.declared.cmp.PartialEq
use Rattle.std.specs.declared.hash.Hash
use Rattle.lru_table.specs.declared.slot.Slot.{Slot}
use Rattle.lru_table.specs.LruTable.{entry_at, without, with_newest}
use Rattle.ep_defrag.specs.declared.bounded_limits.DefragLimits.{DefragLimits}
use Rattle.ep_defrag.specs.declared.departure.Departure.TheVariants.{Removed, Evicted}
use Rattle.ep_defrag.specs.declared.evicted_stream.EvictionCause.TheVariants.{Expired}
use Rattle.ep_defrag.specs.declared.evicted_stream.EvictedStream.{EvictedStream}
use Rattle.ep_defrag.specs.declared.holdings.Holdings.{Holdings}
use Rattle.ep_defrag.specs.BoundedCounts.{counted, FitCounters}
use Rattle.ep_defrag.specs.BoundedNames.{HeldName, names_of}
use Rattle.ep_defrag.specs.BoundedHoldings.{CanReport, AreLeft, TakesName, EvictsName, RemovesAll, EvictsDue, after_departure, report_of}
use Rattle.ep_defrag.specs.BoundedHoldings.{is_stream_due, due_in, not_due_in}
use Rattle.ep_defrag.proofs.CounterLemmas.{counted_none, counted_removed, other_than_removed, counted_expired}
use Rattle.ep_defrag.proofs.HeldNameLemmas.{StreamEntries, open_once, open_in, has_pushed}
use Rattle.ep_defrag.proofs.HoldingsLemmas.{left_same, left_then}

-- ---- the oldest name
-- The oldest entry of a table, and the table after it was removed or touched.
pub record Oldest {C : Type 0} (entries : StreamEntries C) (slot : Slot) : Type 0 where
  pub name : HeldName C
  pub rest : StreamEntries C
  pub whole : entries ≡ (slot, name) ∷ rest
  pub found : entry_at slot entries ≡ Some name
  pub removed : without slot entries ≡ rest
  pub touched : with_newest slot entries ≡ rest ++ (slot, name) ∷ []

module _ {C : Type 0} where
  pub oldest_at : (entries : StreamEntries C) (slot : Slot)
      → ((first : Slot × HeldName C) (rest : StreamEntries C) → entry_at first.0 (first ∷ rest) ≡ Some first.1)
      → ((first : Slot × HeldName C) (rest : StreamEntries C) → with_newest first.0 (first ∷ rest) ≡ rest ++ first ∷ [])
      → ((first : Slot × HeldName C) (rest : StreamEntries C) → without first.0 (first ∷ rest) ≡ rest)
      → Some slot ≡ option_map (λ e. e.0) (slice_get entries 0) → Oldest entries slot
  oldest_at [] slot found touched removed is = absurd cc
  oldest_at (first ∷ rest) slot found touched removed is =
      let own : first.0 ≡ slot = cc in
      subst (λ (s : Slot). Oldest (first ∷ rest) s) own (record {
        name = first.1;
        rest = rest;
        whole = refl;
        found = found first rest;
        removed = removed first rest;
        touched = touched first rest;
      })

  open_first : (rest : StreamEntries C) (slot : Slot) (name : HeldName C)
      → open_in ((slot, name) ∷ rest) ≡ open_once name.1 + open_in rest
  open_first rest slot name = sum_by-cons (λ (one : HeldName C). open_once one.1) name (names_of rest)

-- ---- all names are removed
module _ {C : Type 0} {e : PartialEq.Ghosts C} {h : Hash.Ghosts C} where
  -- Holds while the names of a table are removed: each open stream was counted, or is still in the table.
  pub record Removes (initial self : Holdings C e h) : Type 0 where
    pub statistics : record self.statistics { removed = counted self.statistics.removed (open_in self.table) }
        ≡ record initial.statistics { removed = counted initial.statistics.removed (open_in initial.table) }
    pub evicted : self.evicted ≡ initial.evicted
    pub left : AreLeft initial self

  pub removes_none : (holdings : Holdings C e h) → Removes holdings holdings
  removes_none holdings = record { statistics = refl; evicted = refl; left = left_same holdings }

  pub removes_oldest : (initial self new : Holdings C e h) (slot : Slot) (oldest : Oldest self.table slot)
      → Removes initial self → TakesName self new slot Removed oldest.name → AreLeft self new → Removes initial new
  removes_oldest initial self new slot oldest before taken left =
      let buffer = oldest.name.1.buffer in
      let now : new.table ≡ oldest.rest = taken.table ∙ oldest.removed in
      let streams : open_in self.table ≡ cond (is_some buffer) 1 0 + open_in new.table =
      ap {B = ℕ} (λ (entries : StreamEntries C). open_in entries) oldest.whole
      ∙ open_first oldest.rest slot oldest.name
      ∙ ap {B = ℕ} (λ (entries : StreamEntries C). cond (is_some buffer) 1 0 + open_in entries) (sym now) in
      record {
        statistics =
            (λ i. record (taken.statistics i) { removed = counted (taken.statistics i).removed (open_in new.table) })
            ∙ (λ i. record (after_departure self.statistics buffer Removed) {
              removed = counted_removed self.statistics buffer (open_in new.table) i;
            })
            ∙ other_than_removed self.statistics buffer
            (counted self.statistics.removed (cond (is_some buffer) 1 0 + open_in new.table))
            ∙ (λ i. record self.statistics { removed = counted self.statistics.removed (sym streams i) })
            ∙ before.statistics;
        evicted = taken.evicted ∙ before.evicted;
        left = left_then initial self new before.left left;
      }

  pub removes_all : (initial self : Holdings C e h) → self.table ≡ [] → FitCounters self.statistics
      → Removes initial self → RemovesAll initial self
  removes_all initial self empty fit removes = record {
    table = empty;
    statistics =
        (λ i. record self.statistics { removed = sym (counted_none self.statistics.removed fit.removed) i })
        ∙ (λ i. record self.statistics {
          removed = counted self.statistics.removed (open_in (sym empty i));
        })
        ∙ removes.statistics;
    evicted = removes.evicted;
    keys = removes.left.keys;
  }

-- ---- names that are due are evicted
abbrev expired_report : {C : Type 0} → Slot × HeldName C → EvictedStream C
expired_report entry = report_of entry.1 Expired

module _ {C : Type 0} where
  -- The names that were not visited yet begin with the oldest one of the table.
  record Next (later kept : StreamEntries C) (entry : Slot × HeldName C) (rest : StreamEntries C) : Type 0 where
    others : StreamEntries C
    whole : later ≡ entry ∷ others
    after : rest ≡ others ++ kept

  next_in : (later kept : StreamEntries C) (entry : Slot × HeldName C) (rest : StreamEntries C) → 0 < length later
      → later ++ kept ≡ entry ∷ rest → Next later kept entry rest
  next_in [] kept entry rest some is = absurd (omega (arith, some))
  next_in (first ∷ others) kept entry rest some is = record {
    others = others;
    whole = let own : first ≡ entry = cc in ap (λ (x : Slot × HeldName C). x ∷ others) own;
    after = let same : others ++ kept ≡ rest = cc in sym same;
  }

module _ {C : Type 0} {e : PartialEq.Ghosts C} {h : Hash.Ghosts C} (limits : DefragLimits) (now idle : ℕ) where
  -- Holds while the names of a table are visited: those that were due left it, and the others are its newest ones.
  pub record Visits (initial self : Holdings C e h) (count : ℕ) : Type 0 where
    pub visited : StreamEntries C
    pub later : StreamEntries C
    pub whole : initial.table ≡ visited ++ later
    pub many : length visited ≡ count
    pub table : self.table ≡ later ++ not_due_in limits now idle visited
    pub statistics : self.statistics ≡ record initial.statistics {
      expired = counted initial.statistics.expired (open_in (due_in limits now idle visited));
    }
    pub evicted : self.evicted.items
        ≡ initial.evicted.items ++ map (λ entry. report_of entry.1 Expired) (due_in limits now idle visited)
    pub reports : CanReport self
    pub left : AreLeft initial self

  pub visits_none : (holdings : Holdings C e h) → FitCounters holdings.statistics → CanReport holdings
      → Visits holdings holdings 0
  visits_none holdings fit reports = record {
    visited = [];
    later = holdings.table;
    whole = refl;
    many = refl;
    table = sym (append-nil holdings.table);
    statistics =
        λ i. record holdings.statistics { expired = sym (counted_none holdings.statistics.expired fit.expired) i };
    evicted = sym (append-nil holdings.evicted.items);
    reports = reports;
    left = left_same holdings;
  }

  module _ (initial self : Holdings C e h) (count : ℕ) (slot : Slot) (oldest : Oldest self.table slot)
      (visits : Visits initial self count) (more : count < length initial.table) where
    next : Next visits.later (not_due_in limits now idle visits.visited) (slot, oldest.name) oldest.rest
    next =
        next_in visits.later (not_due_in limits now idle visits.visited) (slot, oldest.name) oldest.rest
        (omega (
          arith,
          more,
          visits.many,
          ap {B = ℕ} (λ (entries : StreamEntries C). length entries) visits.whole,
          length-append visits.visited visits.later,
        ))
        (sym visits.table ∙ oldest.whole)

    split_then : initial.table ≡ (visits.visited ++ (slot, oldest.name) ∷ []) ++ next.others
    split_then =
        visits.whole ∙ ap (λ (entries : StreamEntries C). visits.visited ++ entries) next.whole
        ∙ sym (append_assoc visits.visited ((slot, oldest.name) ∷ []) next.others)

    many_then : length (visits.visited ++ (slot, oldest.name) ∷ []) ≡ count + 1
    many_then = omega (arith, visits.many, length-append visits.visited ((slot, oldest.name) ∷ []))

    shorter : length self.table ≡ 1 + length oldest.rest
    shorter = omega (arith, ap {B = ℕ} (λ (entries : StreamEntries C). length entries) oldest.whole)

    -- The name is due, and is evicted.
    pub visits_due : (new : Holdings C e h) → is_stream_due limits now idle oldest.name.1 ≡ true
        → EvictsName self new slot Expired oldest.name → AreLeft self new → Visits initial new (count + 1)
    visits_due new is_due evicts left =
        let entry : Slot × HeldName C = (slot, oldest.name) in
        let due : StreamEntries C = due_in limits now idle visits.visited in
        let buffer = oldest.name.1.buffer in
        let due_then : due_in limits now idle (visits.visited ++ entry ∷ []) ≡ due ++ entry ∷ [] =
        filter-append (λ one. is_stream_due limits now idle one.1.1) visits.visited (entry ∷ []) ∙ rw is_due refl in
        let kept_then : not_due_in limits now idle (visits.visited ++ entry ∷ [])
        ≡ not_due_in limits now idle visits.visited =
        filter-append (λ one. not (is_stream_due limits now idle one.1.1)) visits.visited (entry ∷ [])
        ∙ rw is_due (append-nil (not_due_in limits now idle visits.visited)) in
        let streams : open_in (due_in limits now idle (visits.visited ++ entry ∷ []))
        ≡ cond (is_some buffer) 1 0 + open_in due =
        ap {B = ℕ} (λ (entries : StreamEntries C). open_in entries) due_then
        ∙ (has_pushed due slot oldest.name).streams in
        let table : new.table ≡ oldest.rest = evicts.table ∙ oldest.removed in
        let reported : length new.evicted.items ≡ length self.evicted.items + 1 =
        ap {B = ℕ} (λ (items : List (EvictedStream C)). length items) evicts.evicted
        ∙ length-append self.evicted.items (report_of oldest.name Expired ∷ []) in
        record {
          visited = visits.visited ++ entry ∷ [];
          later = next.others;
          whole = split_then;
          many = many_then;
          table =
              table ∙ next.after
              ∙ ap (λ (entries : StreamEntries C). next.others ++ entries) (sym kept_then);
          statistics =
              evicts.statistics
              ∙ (λ i. after_departure (visits.statistics i) buffer (Evicted Expired))
              ∙ counted_expired initial.statistics buffer (open_in due)
              ∙ (λ i. record initial.statistics { expired = counted initial.statistics.expired (sym streams i) });
          evicted =
              evicts.evicted
              ∙ ap (λ (items : List (EvictedStream C)). items ++ expired_report entry ∷ []) visits.evicted
              ∙ append_assoc initial.evicted.items (map expired_report due) (expired_report entry ∷ [])
              ∙ ap (λ (items : List (EvictedStream C)). initial.evicted.items ++ items)
              (sym (map-append expired_report due (entry ∷ []))
              ∙ ap (λ (entries : StreamEntries C). map expired_report entries) (sym due_then));
          reports = omega (
            arith,
            visits.reports,
            reported,
            evicts.capacity,
            shorter,
            ap {B = ℕ} (λ (entries : StreamEntries C). length entries) table,
          );
          left = left_then initial self new visits.left left;
        }

    -- The name is not due, and becomes the newest one.
    pub visits_other : (new : Holdings C e h) → is_stream_due limits now idle oldest.name.1 ≡ false
        → new.table ≡ with_newest slot self.table → new.statistics ≡ self.statistics → new.evicted ≡ self.evicted
        → AreLeft self new → Visits initial new (count + 1)
    visits_other new other touched statistics evicted left =
        let entry : Slot × HeldName C = (slot, oldest.name) in
        let kept : StreamEntries C = not_due_in limits now idle visits.visited in
        let due_then : due_in limits now idle (visits.visited ++ entry ∷ []) ≡ due_in limits now idle visits.visited =
        filter-append (λ one. is_stream_due limits now idle one.1.1) visits.visited (entry ∷ [])
        ∙ rw other (append-nil (due_in limits now idle visits.visited)) in
        let kept_then : not_due_in limits now idle (visits.visited ++ entry ∷ []) ≡ kept ++ entry ∷ [] =
        filter-append (λ one. not (is_stream_due limits now idle one.1.1)) visits.visited (entry ∷ [])
        ∙ rw other refl in
        let table : new.table ≡ oldest.rest ++ entry ∷ [] = touched ∙ oldest.touched in
        let same_len : vec_len new.evicted ≡ vec_len self.evicted = λ i. vec_len (evicted i) in
        let same_capacity : vec_capacity new.evicted ≡ vec_capacity self.evicted = λ i. vec_capacity (evicted i) in
        record {
          visited = visits.visited ++ entry ∷ [];
          later = next.others;
          whole = split_then;
          many = many_then;
          table =
              table ∙ ap (λ (entries : StreamEntries C). entries ++ entry ∷ []) next.after
              ∙ append_assoc next.others kept (entry ∷ [])
              ∙ ap (λ (entries : StreamEntries C). next.others ++ entries) (sym kept_then);
          statistics =
              statistics ∙ visits.statistics
              ∙ (λ i. record initial.statistics {
                expired = counted initial.statistics.expired (open_in (sym due_then i));
              });
          evicted =
              (λ i. (evicted i).items) ∙ visits.evicted
              ∙ (λ i. initial.evicted.items ++ map expired_report (sym due_then i));
          reports = omega (
            arith,
            visits.reports,
            shorter,
            same_len,
            same_capacity,
            ap {B = ℕ} (λ (entries : StreamEntries C). length entries) table,
            length-append oldest.rest (entry ∷ []),
          );
          left = left_then initial self new visits.left left;
        }

  pub visits_all : (initial self : Holdings C e h) (count : ℕ) → Visits initial self count
      → (self.table ≡ []) ⊎ (length initial.table ≤ count) → EvictsDue limits now idle initial self
  visits_all initial self count visits ended =
      let none_later : visits.later ≡ [] = nothing visits.later (elim ended [
        | inl empty ↦ omega (
          arith,
          ap {B = ℕ} (λ (entries : StreamEntries C). length entries) (sym visits.table ∙ empty),
          length-append visits.later (not_due_in limits now idle visits.visited),
        )
        | inr all ↦ omega (
          arith,
          all,
          visits.many,
          ap {B = ℕ} (λ (entries : StreamEntries C). length entries) visits.whole,
          length-append visits.visited visits.later,
        )
      ]) in
      let all_visited : visits.visited ≡ initial.table =
      sym (visits.whole ∙ ap (λ (entries : StreamEntries C). visits.visited ++ entries) none_later
      ∙ append-nil visits.visited) in
      record {
        table =
            visits.table
            ∙ (λ i. none_later i ++ not_due_in limits now idle (all_visited i));
        statistics =
            visits.statistics
            ∙ (λ i. record initial.statistics {
              expired = counted initial.statistics.expired (open_in (due_in limits now idle (all_visited i)));
            });
        evicted =
            visits.evicted
            ∙ (λ i. initial.evicted.items ++ map expired_report (due_in limits now idle (all_visited i)));
        keys = visits.left.keys;
      }
    where
      nothing : (entries : StreamEntries C) → length entries ≡ 0 → entries ≡ []
      nothing [] none = refl
      nothing (entry ∷ entries) none = absurd (omega (arith, none))
