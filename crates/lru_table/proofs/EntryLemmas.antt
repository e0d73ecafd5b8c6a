-- The definitions on entries at a free slot and at a slot with an entry, which cuts the list of entries.
use Rattle.std.proofs.Common.{◌≡◌, Bool, true, false, [], ◌∷◌, ◌++◌, reverse, Some, None, refl, sym, ap, subst}
use Rattle.std.specs.List.{IsDistinct}
use Rattle.std.specs.Map.{keys_of, lookup_entry, set_value}
use Rattle.std.proofs.lemmas.Map.{NonePasses, lookup-none}
use Rattle.std.proofs.lemmas.List.{reverse-append}
use Rattle.lru.specs.LruCache.{promoted}
use Rattle.lru.proofs.Splits.{all_both, all_right, distinct_differs}
use Rattle.lru_table.specs.declared.slot.Slot.{Slot}
use Rattle.lru_table.specs.LruTable.{Entries, same_slot, entry_at, without, with_newest, with_value, IsAt}
use Rattle.lru_table.proofs.SlotLemmas.{same_slot-refl, same_slot-is, same_slot-flips}

-- no entry is in the slot
abbrev pub Free : {K V : Type 0} → Slot → Entries K V → Type 0
Free slot = NonePasses (same_slot slot)

module _ {K V : Type 0} where
  pub none_reversed : (test : Slot → Bool) (es : Entries K V) → NonePasses test es → NonePasses test (reverse es)
  none_reversed test [] h = tt
  none_reversed test (e ∷ es) h = rw (reverse-append (e ∷ []) es)
      (all_both (λ f. test f.0 ≡ false) (reverse es) (e ∷ []) (none_reversed test es h.1) (h.0, tt))

  -- the definitions on entries, where no entry is in the slot
  pub record Misses (slot : Slot) (es : Entries K V) : Type 0 where
    pub value : entry_at slot es ≡ None
    pub entry : lookup_entry (same_slot slot) es ≡ None
    pub removed : without slot es ≡ es
    pub promoted : promoted (same_slot slot) es ≡ es
    pub newest : with_newest slot es ≡ es
    pub written : (w : V) → with_value slot w es ≡ es

  -- the definitions on entries, where e is in the slot, after the entries us and before the entries vs
  pub record Hits (slot : Slot) (us : Entries K V) (e : K × V) (vs : Entries K V) (es : Entries K V) : Type 0 where
    pub at : IsAt slot us e vs es
    pub promoted : promoted (same_slot slot) es ≡ (slot, e) ∷ us ++ vs
    pub set : (w : K × V) → set_value (same_slot slot) es w ≡ us ++ (slot, w) ∷ vs

  module _ (slot : Slot) where
    missed_entry : (es : Entries K V) → Free slot es → lookup_entry (same_slot slot) es ≡ None
    missed_entry [] h = refl
    missed_entry (e ∷ es) h = rw h.0 (missed_entry es h.1)

    missed_removed : (es : Entries K V) → Free slot es → without slot es ≡ es
    missed_removed [] h = refl
    missed_removed (e ∷ es) h = rw h.0 (ap (λ l. e ∷ l) (missed_removed es h.1))

    missed_written : (es : Entries K V) (w : V) → Free slot es → with_value slot w es ≡ es
    missed_written [] w h = refl
    missed_written (e ∷ es) w h = rw h.0 (ap (λ l. e ∷ l) (missed_written es w h.1))

    pub misses : (es : Entries K V) → Free slot es → Misses slot es
    misses es h = record {
      value = lookup-none (same_slot slot) es h;
      entry = missed_entry es h;
      removed = missed_removed es h;
      promoted = rw (missed_entry es h) refl;
      newest = rw (missed_entry es h) refl;
      written = λ w. missed_written es w h;
    }

    hit_value : (us : Entries K V) (e : K × V) (vs : Entries K V) → Free slot us
        → entry_at slot (us ++ (slot, e) ∷ vs) ≡ Some e
    hit_value [] e vs h = rw (same_slot-refl slot) refl
    hit_value (u ∷ us) e vs h = rw h.0 (hit_value us e vs h.1)

    hit_entry : (us : Entries K V) (e : K × V) (vs : Entries K V) → Free slot us
        → lookup_entry (same_slot slot) (us ++ (slot, e) ∷ vs) ≡ Some (slot, e)
    hit_entry [] e vs h = rw (same_slot-refl slot) refl
    hit_entry (u ∷ us) e vs h = rw h.0 (hit_entry us e vs h.1)

    hit_removed : (us : Entries K V) (e : K × V) (vs : Entries K V) → Free slot us
        → without slot (us ++ (slot, e) ∷ vs) ≡ us ++ vs
    hit_removed [] e vs h = rw (same_slot-refl slot) refl
    hit_removed (u ∷ us) e vs h = rw h.0 (ap (λ l. u ∷ l) (hit_removed us e vs h.1))

    hit_set : (us : Entries K V) (e : K × V) (vs : Entries K V) (w : K × V) → Free slot us
        → set_value (same_slot slot) (us ++ (slot, e) ∷ vs) w ≡ us ++ (slot, w) ∷ vs
    hit_set [] e vs w h = rw (same_slot-refl slot) refl
    hit_set (u ∷ us) e vs w h = rw h.0 (ap (λ l. u ∷ l) (hit_set us e vs w h.1))

    hit_written : (us : Entries K V) (e : K × V) (vs : Entries K V) (w : V) → Free slot us
        → with_value slot w (us ++ (slot, e) ∷ vs) ≡ us ++ (slot, (e.0, w)) ∷ vs
    hit_written [] e vs w h = rw (same_slot-refl slot) refl
    hit_written (u ∷ us) e vs w h = rw h.0 (ap (λ l. u ∷ l) (hit_written us e vs w h.1))

    pub hits : (us : Entries K V) (e : K × V) (vs es : Entries K V) → es ≡ us ++ (slot, e) ∷ vs → Free slot us
        → Hits slot us e vs es
    hits us e vs es is h = subst (λ l. Hits slot us e vs l) (sym is) (record {
      at = record {
        whole = refl;
        found = hit_value us e vs h;
        removed = hit_removed us e vs h;
        touched = rw (hit_entry us e vs h, hit_removed us e vs h) refl;
        written = λ w. hit_written us e vs w h;
      };
      promoted = rw (hit_entry us e vs h, hit_removed us e vs h) refl;
      set = λ w. hit_set us e vs w h;
    })

    -- the first entry in the slot cuts the entries
    pub record IsFirst (es : Entries K V) (e : K × V) : Type 0 where
      pub before : Entries K V
      pub after : Entries K V
      pub is : es ≡ before ++ (slot, e) ∷ after
      pub free_before : Free slot before

    pub first_in : (es : Entries K V) (e : K × V) → entry_at slot es ≡ Some e → IsFirst es e
    first_in [] e h = cc
    first_in (f ∷ es) e h = (elim (same_slot slot f.0) as (λ y. same_slot slot f.0 ≡ y → IsFirst (f ∷ es) e) [
      | true ↦ λ t.
          let h' = rw t at h in
          let value : f.1 ≡ e = cc in
          let key : f.0 ≡ slot = sym (same_slot-is slot f.0 t) in
          record { before = []; after = es; is = λ i. (key i, value i) ∷ es; free_before = tt }
      | false ↦ λ t.
          let on = first_in es e (rw t at h) in
          record {
            before = f ∷ on.before;
            after = on.after;
            is = ap (λ l. f ∷ l) on.is;
            free_before = (t, on.free_before);
          }
    ]) refl

    -- where slots are distinct, no entry after it is in the slot either
    pub free_after : (es : Entries K V) (e : K × V) (cut : IsFirst es e) → IsDistinct same_slot (keys_of es)
        → Free slot cut.after
    free_after es e cut d =
        all_right (λ f. same_slot slot f.0 ≡ false) cut.before cut.after
        (distinct_differs (λ f. f.0) same_slot same_slot-flips cut.before (slot, e) cut.after
        (subst (λ l. IsDistinct same_slot (keys_of l)) cut.is d))
