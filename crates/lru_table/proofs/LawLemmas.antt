-- For the laws: a walk of the entries, the place of an entry, and slots that stay free.
use Rattle.std.proofs.Common.{◌≡◌, ℕ, zero, suc, ◌≤◌, Bool, true, false, [], ◌∷◌, ◌++◌, length, take, drop, Option, Some, None, Contains, refl, sym, ap, ◌∙◌, subst, inl, inr, arith, append-nil, append_assoc}
use Rattle.std.proofs.lemmas.List.{drop_all, take_all}
use Rattle.std.proofs.lemmas.Map.{none_passes_from_lookup}
use Rattle.lru.proofs.Splits.{Contains-cons, Contains-head, Contains-tail, all_at}
use Rattle.lru.proofs.CallerLemmas.{Contains-lookup, Contains-remove_entry, Contains-demoted}
use Rattle.lru_table.specs.declared.slot.Slot.{Slot}
use Rattle.lru_table.specs.LruTable.{Entries, same_slot, entry_at, without, with_newest, with_value, walked, IsAt, IsVacant}
use Rattle.lru_table.proofs.SlotLemmas.{same_slot-refl}
use Rattle.lru_table.proofs.EntryLemmas.{Free, misses, hits, first_in}

module _ {K V : Type 0} where
  pub first_found : (e : Slot × (K × V)) (es : Entries K V) → entry_at e.0 (e ∷ es) ≡ Some e.1
  first_found e es = rw (same_slot-refl e.0) refl

  pub first_used : (e : Slot × (K × V)) (es : Entries K V) → with_newest e.0 (e ∷ es) ≡ es ++ e ∷ []
  first_used e es = rw (same_slot-refl e.0) refl

  pub first_removed : (e : Slot × (K × V)) (es : Entries K V) → without e.0 (e ∷ es) ≡ es
  first_removed e es = rw (same_slot-refl e.0) refl

  -- n of the entries xs are walked, after those of ys
  walked_on : (n : ℕ) (xs ys : Entries K V) → n ≤ length xs → walked n (xs ++ ys) ≡ drop n xs ++ ys ++ take n xs
  walked_on zero xs ys h = sym (append-nil (xs ++ ys))
  walked_on (suc n) [] ys h = absurd (omega arith)
  walked_on (suc n) (x ∷ xs) ys h =
      ap (walked n) (first_used x (xs ++ ys) ∙ append_assoc xs ys (x ∷ []))
      ∙ walked_on n xs (ys ++ x ∷ []) (omega arith)
      ∙ ap (λ l. l ++ take n xs) (sym (append_assoc (drop n xs) ys (x ∷ [])))
      ∙ append_assoc (drop n xs ++ ys) (x ∷ []) (take n xs)

  pub walked_partly : (n : ℕ) (es : Entries K V) → n ≤ length es → walked n es ≡ drop n es ++ take n es
  walked_partly n es h =
      ap (walked n) (sym (append-nil es)) ∙ walked_on n es [] h ∙ ap (λ l. l ++ take n es) (append-nil (drop n es))

  pub walked_wholly : (es : Entries K V) → walked (length es) es ≡ es
  walked_wholly es = walked_partly (length es) es (omega arith)
      ∙ (λ i. drop_all (length es) es (omega arith) i ++ take_all (length es) es (omega arith) i)

  pub place_of : (es : Entries K V) (slot : Slot) (e : K × V) → entry_at slot es ≡ Some e
      → ((before : Entries K V) × (after : Entries K V) × IsAt slot before e after es
      × ((value : V) → IsAt slot before (e.0, value) after (with_value slot value es)))
  place_of es slot e h =
      let cut = first_in slot es e h in
      let at = (hits slot cut.before e cut.after es cut.is cut.free_before).at in (
        cut.before,
        cut.after,
        at,
        λ value.
            (hits slot cut.before (e.0, value) cut.after (with_value slot value es) (at.written value)
            cut.free_before).at,
      )

  pub free_unchanged : (es : Entries K V) (slot : Slot) → entry_at slot es ≡ None
      → (without slot es ≡ es) × (with_newest slot es ≡ es) × ((value : V) → with_value slot value es ≡ es)
  free_unchanged es slot h =
      let free = none_passes_from_lookup (same_slot slot) es h in
      let at = misses slot es free in
      (at.removed, at.newest, at.written)

  -- each entry of new is one of old, but perhaps for its value
  abbrev pub AreFrom : Entries K V → Entries K V → Type 0
  AreFrom old new = (e : Slot × (K × V)) → Contains new e → (v : V) × Contains old (e.0, (e.1.0, v))

  pub from_without : (slot : Slot) (es : Entries K V) → AreFrom es (without slot es)
  from_without slot es = λ e in_e. (e.1.1, Contains-remove_entry (same_slot slot) es e in_e)

  pub from_newest : (slot : Slot) (es : Entries K V) → AreFrom es (with_newest slot es)
  from_newest slot es = λ e in_e. (e.1.1, Contains-demoted (same_slot slot) es e in_e)

  pub from_drop : (es : Entries K V) → AreFrom es (drop 1 es)
  from_drop [] = λ e in_e. (e.1.1, in_e)
  from_drop (f ∷ es) = λ e in_e. (e.1.1, Contains-tail f es e in_e)

  pub from_written : (slot : Slot) (value : V) (es : Entries K V) → AreFrom es (with_value slot value es)
  from_written slot value [] = λ e in_e. (e.1.1, in_e)
  from_written slot value (f ∷ es) = λ e in_e.
      (elim (same_slot slot f.0) as (λ y. same_slot slot f.0 ≡ y → (v : V) × Contains (f ∷ es) (e.0, (e.1.0, v))) [
        | true ↦ λ t. elim (Contains-cons (f.0, (f.1.0, value)) es e (rw t at in_e)) [
          | inl same ↦ (f.1.1, subst (λ g. Contains (f ∷ es) (g.0, (g.1.0, f.1.1))) same (Contains-head f es))
          | inr other ↦ (e.1.1, Contains-tail f es e other)
        ]
        | false ↦ λ t. elim (Contains-cons f (with_value slot value es) e (rw t at in_e)) [
          | inl same ↦ (e.1.1, subst (λ g. Contains (f ∷ es) g) same (Contains-head f es))
          | inr other ↦
              let on = from_written slot value es e other in
              (on.0, Contains-tail f es (e.0, (e.1.0, on.0)) on.1)
        ]
      ]) refl

  still_free : (old new : Entries K V) (slot : Slot) → AreFrom old new → Free slot old → (o : Option (K × V))
      → entry_at slot new ≡ o → o ≡ None
  still_free old new slot from free None h = refl
  still_free old new slot from free (Some p) h =
      let on = Contains-lookup (same_slot slot) new p h in
      let was = from (on.0, p) on.1 in
      let no = all_at (λ f. same_slot slot f.0 ≡ false) old (on.0, (p.0, was.0)) free was.1 in
      let yes = on.2 in
      absurd cc

  pub vacant_still : (eq : K → K → Bool) (old new : Entries K V) (slot : Slot) (key : K) → AreFrom old new
      → IsVacant eq old slot key → IsVacant eq new slot key
  vacant_still eq old new slot key from at = record {
    free = still_free old new slot from (none_passes_from_lookup (same_slot slot) old at.free) (entry_at slot new) refl;
    absent = λ e in_e hash. let was = from e in_e in at.absent (e.0, (e.1.0, was.0)) was.1 hash;
    numbered = at.numbered;
  }
