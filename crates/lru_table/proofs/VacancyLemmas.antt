-- Slots that are free for a key: after an entry is added there, and after one is removed.
use Rattle.std.proofs.Common.{◌≡◌, ℕ, ◌-◌, ◌^◌, ◌<◌, ◌≤◌, Bool, true, false, true≢false, [], ◌∷◌, ◌++◌, reverse, length, Some, None, Contains, refl, sym, ap, ◌∙◌, subst, inl, inr, arith, append-nil}
use Rattle.std.specs.Cmp.{IsEquivalence}
use Rattle.std.specs.List.{IsDistinct}
use Rattle.std.specs.Map.{keys_of}
use Rattle.std.proofs.lemmas.Map.{lookup-none, none_passes_from_lookup}
use Rattle.std.proofs.lemmas.List.{reverse-append, reverse-reverse, take_all}
use Rattle.std.proofs.lemmas.List.Elements.{Contains-append_cases}
use Rattle.lru.specs.LruCache.{LruCache, put_entries}
use Rattle.lru.proofs.Splits.{Contains-cons, Contains-nil, Contains-middle, Contains-with, all_at, all_both, distinct_with}
use Rattle.lru_table.specs.declared.slot.Slot.{Slot}
use Rattle.lru_table.specs.LruTable.{Entries, same_slot, entry_at, without, IsVacant, IsTable}
use Rattle.lru_table.proofs.SlotLemmas.{same_slot-refl, same_slot-flips}
use Rattle.lru_table.proofs.EntryLemmas.{Free, none_reversed, misses, hits, IsFirst, first_in, free_after}
use Rattle.lru_table.proofs.TableLemmas.{IsBelow}

module _ {K V : Type 0} where
  among_one : (x e : Slot × (K × V)) → Contains (x ∷ []) e → x ≡ e
  among_one x e c = elim (Contains-cons x [] e c) [ inl same ↦ same | inr none ↦ absurd (Contains-nil e none) ]

  pub put_free : (c : LruCache Slot (K × V)) (slot : Slot) (p : K × V) → entry_at slot (reverse c.entries) ≡ None
      → length c.entries ≤ c.cap - 1
      → reverse (put_entries same_slot c slot p) ≡ reverse c.entries ++ (slot, p) ∷ []
  put_free c slot p free fits =
      let es = c.entries in
      let none =
      none_reversed (same_slot slot) (reverse es) (none_passes_from_lookup (same_slot slot) (reverse es) free) in
      let at = misses slot es (subst (λ l. Free slot l) (reverse-reverse es) none) in
      rw (at.entry, take_all (c.cap - 1) es fits) (reverse-append ((slot, p) ∷ []) es)

  pub below_insert : (n m : ℕ) (es : Entries K V) (slot : Slot) (p : K × V) → IsBelow n es → n ≤ m → slot.number < m
      → IsBelow m (es ++ (slot, p) ∷ [])
  below_insert n m es slot p below le lt = λ e in_e. elim (Contains-append_cases es ((slot, p) ∷ []) e in_e) [
    | inl old ↦ let less = below e old in omega arith
    | inr new ↦ subst (λ x. x.0.number < m) (among_one (slot, p) e new) lt
  ]

  module _ (eq : K → K → Bool) (laws : IsEquivalence eq) where
    pub table_insert : (es : Entries K V) (slot : Slot) (key : K) (value : V) → IsTable eq es → IsVacant eq es slot key
        → IsTable eq (es ++ (slot, (key, value)) ∷ [])
    table_insert es slot key value t at =
        let x : Slot × (K × V) = (slot, (key, value)) in
        let complete = sym (append-nil es) in
        let free = none_passes_from_lookup (same_slot slot) es at.free in
        record {
          distinct = distinct_with (λ e. e.0) same_slot same_slot-flips es x [] (subst (λ l. Free slot l) complete free)
              (subst (λ l. IsDistinct same_slot (keys_of l)) complete t.distinct);
          unambiguous = λ a b in_a in_b hash same. elim (Contains-append_cases es (x ∷ []) a in_a) [
            | inl old_a ↦ elim (Contains-append_cases es (x ∷ []) b in_b) [
              | inl old_b ↦ t.unambiguous a b old_a old_b hash same
              | inr new_b ↦
                  let is = among_one x b new_b in
                  let other = at.absent a old_a (hash ∙ ap (λ e. e.0.hash) (sym is)) in
                  absurd (true≢false (sym same ∙ ap (λ e. eq a.1.0 e.1.0) (sym is) ∙ laws.symm a.1.0 key ∙ other))
            ]
            | inr new_a ↦ let is = among_one x a new_a in elim (Contains-append_cases es (x ∷ []) b in_b) [
              | inl old_b ↦
                  let other = at.absent b old_b (sym hash ∙ ap (λ e. e.0.hash) (sym is)) in
                  absurd (true≢false (sym same ∙ ap (λ e. eq e.1.0 b.1.0) (sym is) ∙ other))
              | inr new_b ↦ ap (λ e. e.0) (sym is ∙ among_one x b new_b)
            ]
          ];
        }

    other_key : (es : Entries K V) (slot : Slot) (p : K × V) (key : K) (cut : IsFirst slot es p) → IsTable eq es
        → eq key p.0 ≡ true
        → (e : Slot × (K × V)) → Contains (cut.before ++ cut.after) e → e.0.hash ≡ slot.hash → (y : Bool)
        → eq key e.1.0 ≡ y → y ≡ false
    other_key es slot p key cut t same e in_e hash false h = refl
    other_key es slot p key cut t same e in_e hash true h =
        let complete = sym cut.is in
        let in_es = subst (λ l. Contains l e) complete (Contains-with cut.before (slot, p) cut.after e in_e) in
        let in_slot = subst (λ l. Contains l (slot, p)) complete (Contains-middle cut.before (slot, p) cut.after) in
        let one = t.unambiguous (slot, p) e in_slot in_es (sym hash) (sym (laws.congr key p.0 e.1.0 same) ∙ h) in
        let apart = all_at (λ f. same_slot slot f.0 ≡ false) (cut.before ++ cut.after) e
        (all_both (λ f. same_slot slot f.0 ≡ false) cut.before cut.after cut.free_before
        (free_after slot es p cut t.distinct)) in_e in
        absurd (true≢false (sym (same_slot-refl slot) ∙ ap (same_slot slot) one ∙ apart))

    -- where an entry was removed, its slot is free for each equal key
    pub vacated : (n : ℕ) (es : Entries K V) (slot : Slot) (p : K × V) (key : K) → IsTable eq es → IsBelow n es
        → n < 2 ^ 64 → entry_at slot es ≡ Some p → eq key p.0 ≡ true → IsVacant eq (without slot es) slot key
    vacated n es slot p key t below fits at same =
        let cut = first_in slot es p at in
        let hit = (hits slot cut.before p cut.after es cut.is cut.free_before).at in
        let in_slot = subst (λ l. Contains l (slot, p)) (sym cut.is) (Contains-middle cut.before (slot, p) cut.after) in
        subst (λ l. IsVacant eq l slot key) (sym hit.removed) (record {
          free = lookup-none (same_slot slot) (cut.before ++ cut.after)
              (all_both (λ f. same_slot slot f.0 ≡ false) cut.before cut.after cut.free_before
              (free_after slot es p cut t.distinct));
          absent = λ e in_e hash. other_key es slot p key cut t same e in_e hash (eq key e.1.0) refl;
          numbered = let less = below (slot, p) in_slot in omega arith;
        })
