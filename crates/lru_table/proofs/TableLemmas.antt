-- A change of the entries leaves a table, and is the same change of the entries in reverse, as the cache lists them.
use Rattle.std.proofs.Common.{◌≡◌, ℕ, ◌<◌, Bool, true, [], ◌∷◌, ◌++◌, ◌-◌, reverse, length, take, drop, slice_get, Option, Some, None, Contains, refl, sym, ap, ◌∙◌, subst, inl, inr, append-nil}
use Rattle.std.specs.List.{IsDistinct}
use Rattle.std.specs.Map.{keys_of, lookup, remove_entry, set_value}
use Rattle.std.proofs.lemmas.Map.{NonePasses, none_passes_from_lookup}
use Rattle.std.proofs.lemmas.List.{map-append, reverse-append, reverse-reverse}
use Rattle.std.specs.Map.Iter.{TakesFirst}
use Rattle.lru.specs.LruCache.{promoted, last_entry}
use Rattle.lru.proofs.Pairs.{pops_last}
use Rattle.lru.proofs.Splits.{Contains-nil, Contains-middle, Contains-with, Contains-without, distinct_without, distinct_differs, distinct_with}
use Rattle.lru_table.specs.declared.slot.Slot.{Slot}
use Rattle.lru_table.specs.LruTable.{Entries, same_slot, entry_at, without, with_newest, with_value, IsTable}
use Rattle.lru_table.proofs.SlotLemmas.{same_slot-refl, same_slot-is, same_slot-flips}
use Rattle.lru_table.proofs.EntryLemmas.{Free, none_reversed, misses, hits, IsFirst, first_in, free_after}

module _ {K V : Type 0} where
  -- each entry of new is one of old, but perhaps for its value, and no two of new are in one slot
  pub record Keeps (old new : Entries K V) : Type 0 where
    pub each : (e : Slot × (K × V)) → Contains new e → (v : V) × Contains old (e.0, (e.1.0, v))
    pub distinct : IsDistinct same_slot (keys_of new)

  abbrev pub IsBelow : ℕ → Entries K V → Type 0
  IsBelow n es = (e : Slot × (K × V)) → Contains es e → e.0.number < n

  pub table_kept : (eq : K → K → Bool) (old new : Entries K V) → IsTable eq old → Keeps old new → IsTable eq new
  table_kept eq old new t k = record {
    distinct = k.distinct;
    unambiguous = λ a b in_a in_b hash same.
        let x = k.each a in_a in let y = k.each b in_b in
        t.unambiguous (a.0, (a.1.0, x.0)) (b.0, (b.1.0, y.0)) x.1 y.1 hash same;
  }

  pub below_kept : (n : ℕ) (old new : Entries K V) → IsBelow n old → Keeps old new → IsBelow n new
  below_kept n old new below k = λ e in_e. let x = k.each e in_e in below (e.0, (e.1.0, x.0)) x.1

  pub keeps_all : (es : Entries K V) → IsDistinct same_slot (keys_of es) → Keeps es es
  keeps_all es d = record { each = λ e in_e. (e.1.1, in_e); distinct = d }

  abbrev key_slot : Slot × (K × V) → Slot
  key_slot e = e.0

  keeps_others : (us : Entries K V) (x : Slot × (K × V)) (vs : Entries K V)
      → IsDistinct same_slot (keys_of (us ++ x ∷ vs)) → Keeps (us ++ x ∷ vs) (us ++ vs)
  keeps_others us x vs d = record {
    each = λ e in_e. (e.1.1, Contains-with us x vs e in_e);
    distinct = distinct_without key_slot same_slot us x vs d;
  }

  keeps_last : (us : Entries K V) (x : Slot × (K × V)) (vs : Entries K V)
      → IsDistinct same_slot (keys_of (us ++ x ∷ vs)) → Keeps (us ++ x ∷ vs) (us ++ vs ++ x ∷ [])
  keeps_last us x vs d = record {
    each = λ e in_e. elim (Contains-without (us ++ vs) x [] e in_e) [
      | inl same ↦ (e.1.1, subst (λ f. Contains (us ++ x ∷ vs) f) same (Contains-middle us x vs))
      | inr other ↦ (e.1.1, Contains-with us x vs e (subst (λ l. Contains l e) (append-nil (us ++ vs)) other))
    ];
    distinct =
        let nil = sym (append-nil (us ++ vs)) in
        distinct_with key_slot same_slot same_slot-flips (us ++ vs) x []
        (subst (λ l. NonePasses (same_slot x.0) l) nil (distinct_differs key_slot same_slot same_slot-flips us x vs d))
        (subst (λ l. IsDistinct same_slot (keys_of l)) nil (distinct_without key_slot same_slot us x vs d));
  }

  keeps_written : (us : Entries K V) (s : Slot) (k : K) (v w : V) (vs : Entries K V)
      → IsDistinct same_slot (keys_of (us ++ (s, (k, v)) ∷ vs))
      → Keeps (us ++ (s, (k, v)) ∷ vs) (us ++ (s, (k, w)) ∷ vs)
  keeps_written us s k v w vs d = record {
    each = λ e in_e. elim (Contains-without us (s, (k, w)) vs e in_e) [
      | inl same ↦
          (v, subst (λ f. Contains (us ++ (s, (k, v)) ∷ vs) (f.0, (f.1.0, v))) same (Contains-middle us (s, (k, v)) vs))
      | inr other ↦ (e.1.1, Contains-with us (s, (k, v)) vs e other)
    ];
    distinct = subst (λ l. IsDistinct same_slot l)
        (map-append key_slot us ((s, (k, v)) ∷ vs) ∙ sym (map-append key_slot us ((s, (k, w)) ∷ vs))) d;
  }

  reverse_cut : (us : Entries K V) (x : Slot × (K × V)) (vs : Entries K V)
      → reverse (reverse vs ++ x ∷ reverse us) ≡ us ++ x ∷ vs
  reverse_cut us x vs =
      reverse-append (reverse vs) (x ∷ reverse us)
      ∙ ap (λ l. l ++ reverse (reverse vs)) (reverse-append (x ∷ []) (reverse us))
      ∙ (λ i. (reverse-reverse us i ++ x ∷ []) ++ reverse-reverse vs i) ∙ append_cut us x vs
    where
      append_cut : (us : Entries K V) (x : Slot × (K × V)) (vs : Entries K V) → (us ++ x ∷ []) ++ vs ≡ us ++ x ∷ vs
      append_cut [] x vs = refl
      append_cut (u ∷ us) x vs = ap (λ l. u ∷ l) (append_cut us x vs)

  -- the definitions on entries, at those of the cache, which lists the most recently used first
  pub record Reversed (slot : Slot) (es : Entries K V) : Type 0 where
    pub value : lookup (same_slot slot) es ≡ entry_at slot (reverse es)
    pub removed : reverse (remove_entry (same_slot slot) es) ≡ without slot (reverse es)
    pub newest : reverse (promoted (same_slot slot) es) ≡ with_newest slot (reverse es)
    pub written : (p : K × V) (w : V) → Some p ≡ lookup (same_slot slot) es
        → reverse (set_value (same_slot slot) es (p.0, w)) ≡ with_value slot w (reverse es)
    pub keeps_removed : Keeps (reverse es) (reverse (remove_entry (same_slot slot) es))
    pub keeps_promoted : Keeps (reverse es) (reverse (promoted (same_slot slot) es))
    pub keeps_written : (p : K × V) (w : V) → Some p ≡ lookup (same_slot slot) es
        → Keeps (reverse es) (reverse (set_value (same_slot slot) es (p.0, w)))

  reversed_free : (slot : Slot) (es : Entries K V) → IsDistinct same_slot (keys_of (reverse es))
      → Free slot (reverse es) → Reversed slot es
  reversed_free slot es d free =
      let here = misses slot es (subst (λ l. Free slot l) (reverse-reverse es)
      (none_reversed (same_slot slot) (reverse es) free)) in
      let present = misses slot (reverse es) free in
      record {
        value = here.value ∙ sym present.value;
        removed = ap reverse here.removed ∙ sym present.removed;
        newest = ap reverse here.promoted ∙ sym present.newest;
        written = λ p w h. let no = h ∙ here.value in absurd cc;
        keeps_removed = subst (λ l. Keeps (reverse es) (reverse l)) (sym here.removed) (keeps_all (reverse es) d);
        keeps_promoted = subst (λ l. Keeps (reverse es) (reverse l)) (sym here.promoted) (keeps_all (reverse es) d);
        keeps_written = λ p w h. let no = h ∙ here.value in absurd cc;
      }

  reversed_cut : (slot : Slot) (es : Entries K V) → IsDistinct same_slot (keys_of (reverse es))
      → (e : K × V) (cut : IsFirst slot (reverse es) e) → Reversed slot es
  reversed_cut slot es d e cut =
      let us = cut.before in let vs = cut.after in let x : Slot × (K × V) = (slot, e) in
      let back : es ≡ reverse vs ++ x ∷ reverse us =
      sym (reverse-reverse es) ∙ ap reverse cut.is ∙ reverse_cut_of us x vs in
      let here = hits slot (reverse vs) e (reverse us) es back
      (none_reversed (same_slot slot) vs (free_after slot (reverse es) e cut d)) in
      let present = (hits slot us e vs (reverse es) cut.is cut.free_before).at in
      let complete = subst (λ l. IsDistinct same_slot (keys_of l)) cut.is d in
      let both : reverse (reverse vs ++ reverse us) ≡ us ++ vs =
      reverse-append (reverse vs) (reverse us) ∙ (λ i. reverse-reverse us i ++ reverse-reverse vs i) in
      let removed_is : reverse (remove_entry (same_slot slot) es) ≡ us ++ vs = ap reverse here.at.removed ∙ both in
      let promoted_is : reverse (promoted (same_slot slot) es) ≡ us ++ vs ++ x ∷ [] =
      ap reverse here.promoted ∙ reverse-append (x ∷ []) (reverse vs ++ reverse us) ∙ ap (λ l. l ++ x ∷ []) both in
      record {
        value = here.at.found ∙ sym present.found;
        removed = removed_is ∙ sym present.removed;
        newest = promoted_is ∙ sym present.touched;
        written = λ p w h.
            let key : p.0 ≡ e.0 = same_key p e (h ∙ here.at.found) in
            ap reverse (here.set (p.0, w)) ∙ reverse_cut us (slot, (p.0, w)) vs
            ∙ ap (λ j. us ++ (slot, (j, w)) ∷ vs) key ∙ sym (present.written w);
        keeps_removed = subst2 cut.is removed_is (keeps_others us x vs complete);
        keeps_promoted = subst2 cut.is promoted_is (keeps_last us x vs complete);
        keeps_written = λ p w h.
            let key : p.0 ≡ e.0 = same_key p e (h ∙ here.at.found) in
            subst2 cut.is (ap reverse (here.set (p.0, w)) ∙ reverse_cut us (slot, (p.0, w)) vs ∙ ap
            (λ j. us ++ (slot, (j, w)) ∷ vs) key) (keeps_written us slot e.0 e.1 w vs complete);
      }
    where
      reverse_cut_of : (us : Entries K V) (x : Slot × (K × V)) (vs : Entries K V)
          → reverse (us ++ x ∷ vs) ≡ reverse vs ++ x ∷ reverse us
      reverse_cut_of us x vs =
          ap reverse (λ i. sym (reverse-reverse us) i ++ x ∷ sym (reverse-reverse vs) i)
          ∙ reverse_cut (reverse vs) x (reverse us)

      same_key : (a b : K × V) → Some a ≡ Some b → a.0 ≡ b.0
      same_key a b h = let same : a ≡ b = cc in ap (λ p. p.0) same

      subst2 : {old old' new new' : Entries K V} → old' ≡ old → new' ≡ new → Keeps old new → Keeps old' new'
      subst2 {old} {old'} {new} {new'} p q k = subst (λ l. Keeps l new') (sym p) (subst (λ l. Keeps old l) (sym q) k)

  pub reversed : (slot : Slot) (es : Entries K V) → IsDistinct same_slot (keys_of (reverse es)) → Reversed slot es
  reversed slot es d = (elim (entry_at slot (reverse es)) as (λ o. entry_at slot (reverse es) ≡ o → Reversed slot es) [
    | None ↦ λ h. reversed_free slot es d (none_passes_from_lookup (same_slot slot) (reverse es) h)
    | Some e ↦ λ h. reversed_cut slot es d e (first_in slot (reverse es) e h)
  ]) refl

  pub table_nil : (eq : K → K → Bool) → IsTable {K = K} {V = V} eq []
  unfolding IsDistinct
  table_nil eq = record {
    distinct = tt;
    unambiguous = λ a b in_a in_b hash same. absurd (Contains-nil a in_a);
  }

  pub below_nil : (n : ℕ) → IsBelow n []
  below_nil n = λ e in_e. absurd (Contains-nil e in_e)

  -- the most recently used entry stays so
  pub promoted_first : (s slot : Slot) (e : K × V) (es : Entries K V) → same_slot s slot ≡ true
      → Some (s, e) ≡ slice_get es 0 → promoted (same_slot slot) es ≡ es
  promoted_first s slot e [] h first = cc
  promoted_first s slot e (f ∷ es) h first =
      let same : (s, e) ≡ f = cc in
      let at : slot ≡ f.0 = sym (same_slot-is s slot h) ∙ ap (λ x. x.0) same in
      let here : same_slot slot f.0 ≡ true = subst (λ x. same_slot x f.0 ≡ true) (sym at) (same_slot-refl f.0) in
      rw here refl

  -- the entries without the least recently used one
  pub record Pops (es : Entries K V) : Type 0 where
    pub first : last_entry es ≡ slice_get (reverse es) 0
    pub rest : reverse (take (length es - 1) es) ≡ drop 1 (reverse es)
    pub keeps : Keeps (reverse es) (reverse (take (length es - 1) es))

  popped : (old new : Entries K V) (o : Option (Slot × (K × V))) → TakesFirst (λ x. x) old o new
      → IsDistinct same_slot (keys_of old) → (o ≡ slice_get old 0) × (new ≡ drop 1 old) × Keeps old new
  popped old new None h d =
      rw (h.0, h.1) (refl, refl, record { each = λ e in_e. absurd (Contains-nil e in_e); distinct = rw h.0 at d })
  popped old new (Some x) h d = rw h (refl, refl, keeps_others [] x new (rw h at d))

  pub pops : (es : Entries K V) → IsDistinct same_slot (keys_of (reverse es)) → Pops es
  pops es d = let taken =
      popped (reverse es) (reverse (take (length es - 1) es)) (last_entry es) (pops_last es) d in record {
        first = taken.0;
        rest = taken.1;
        keeps = taken.2;
      }
