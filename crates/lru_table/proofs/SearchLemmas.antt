-- The search for a key among the slots of its hash.
use Rattle.std.proofs.Common.{◌≡◌, ℕ, zero, suc, ◌+◌, ◌^◌, ◌<◌, ◌≤◌, ◌⊎◌, Bool, true, false, cond, [], ◌∷◌, ◌++◌, length, min, Option, Some, None, Contains, refl, sym, ap, ◌∙◌, subst, inl, inr, arith, length-append}
use Rattle.std.specs.List.{IsDistinct}
use Rattle.std.specs.Map.{keys_of, lookup}
use Rattle.std.proofs.lemmas.Map.Views.{lookup-from_Contains}
use Rattle.lru.proofs.Splits.{distinct_without}
use Rattle.lru.proofs.CallerLemmas.{Contains-lookup}
use Rattle.lru_table.specs.declared.slot.Slot.{Slot}
use Rattle.lru_table.specs.LruTable.{Entries, same_slot, entry_at, IsTaken, IsVacant, IsTable}
use Rattle.lru_table.proofs.SlotLemmas.{same_slot-is, same_slot-equiv}
use Rattle.lru_table.proofs.EntryLemmas.{first_in}
use Rattle.lru_table.proofs.TableLemmas.{IsBelow}

-- the slot of a hash with a number
abbrev pub slot_of : ℕ → ℕ → Slot
slot_of hash number = record { hash = hash; number = number }

last_or_below : (a b : ℕ) → a < b + 1 → (a < b) ⊎ (a ≡ b)
last_or_below a b h = grind arith

other_slot : (hash m n : ℕ) → m < n → (y : Bool) → same_slot (slot_of hash m) (slot_of hash n) ≡ y → y ≡ false
other_slot hash m n below false h = refl
other_slot hash m n below true h =
    absurd (omega (arith, ap (λ s. s.number) (same_slot-is (slot_of hash m) (slot_of hash n) h)))

module _ {K V : Type 0} where
  -- the slots of a hash with numbers below n are taken
  abbrev pub AreTaken : ℕ → ℕ → Entries K V → Type 0
  AreTaken hash n es = (m : ℕ) → m < n → IsTaken (slot_of hash m) es

  module _ (eq : K → K → Bool) (es : Entries K V) (hash : ℕ) (key : K) where
    -- no slot with a number below n has the key, and free is the least number of a free one, or the number of slots
    -- while all of them are taken
    pub record IsSearched (numbers n free : ℕ) : Type 0 where
      pub absent : (e : Slot × (K × V)) → Contains es e → e.0.hash ≡ hash → e.0.number < n → eq key e.1.0 ≡ false
      pub vacant : ((free ≡ numbers) × AreTaken hash n es)
          ⊎ ((free < n) × (entry_at (slot_of hash free) es ≡ None) × AreTaken hash free es)

    in_slot : (n : ℕ) (e : Slot × (K × V)) → IsDistinct same_slot (keys_of es) → Contains es e → e.0.hash ≡ hash
        → e.0.number ≡ n → entry_at (slot_of hash n) es ≡ Some e.1
    in_slot n e d in_e h m =
        let is : e.0 ≡ slot_of hash n = λ i. record { hash = h i; number = m i } in
        ap (λ s. entry_at s es) (sym is) ∙ lookup-from_Contains same_slot-equiv e.0 e.1 es d in_e

    step_absent : (numbers n free : ℕ) → IsSearched numbers n free
        → ((e : Slot × (K × V)) → Contains es e → e.0.hash ≡ hash → e.0.number ≡ n → eq key e.1.0 ≡ false)
        → (e : Slot × (K × V)) → Contains es e → e.0.hash ≡ hash → e.0.number < n + 1 → eq key e.1.0 ≡ false
    step_absent numbers n free s here e in_e at below = elim (last_or_below e.0.number n below) [
      | inl less ↦ s.absent e in_e at less
      | inr last ↦ here e in_e at last
    ]

    pub searched_other : (numbers n free : ℕ) (p : K × V) → IsDistinct same_slot (keys_of es)
        → IsSearched numbers n free → Some p ≡ entry_at (slot_of hash n) es → eq key p.0 ≡ false
        → IsSearched numbers (n + 1) free
    searched_other numbers n free p d s at other = record {
      absent = step_absent numbers n free s (λ e in_e h m.
          let same = at ∙ in_slot n e d in_e h m in let is : p ≡ e.1 = cc in
          subst (λ q. eq key q.0 ≡ false) is other);
      vacant = elim s.vacant [
        | inl all ↦ inl (
          all.0,
          λ m below. elim (last_or_below m n below) [
            | inl less ↦ all.1 m less
            | inr last ↦ (p, ap (λ k. entry_at (slot_of hash k) es) last ∙ sym at)
          ],
        )
        | inr one ↦ inr (omega (arith, one.0), one.1, one.2)
      ];
    }

    pub searched_free : (numbers n free : ℕ) → IsDistinct same_slot (keys_of es) → IsSearched numbers n free
        → n < numbers → None ≡ entry_at (slot_of hash n) es
        → IsSearched numbers (n + 1) (min free n)
    searched_free numbers n free d s within at = record {
      absent = step_absent numbers n free s (λ e in_e h m. let same = at ∙ in_slot n e d in_e h m in absurd cc);
      vacant = elim s.vacant [
        | inl all ↦
            let least : min free n ≡ n = omega (arith, all.0) in
            inr (omega (arith, least), rw least (sym at), rw least all.1)
        | inr one ↦
            let least : min free n ≡ free = omega (arith, one.0) in
            inr (omega (arith, least, one.0), rw least one.1, rw least one.2)
      ];
    }

  found_elsewhere : (test : Slot → Bool) (us : Entries K V) (x : Slot × (K × V)) (vs : Entries K V) → test x.0 ≡ false
      → lookup test (us ++ x ∷ vs) ≡ lookup test (us ++ vs)
  found_elsewhere test [] x vs h = rw h refl
  found_elsewhere test (u ∷ us) x vs h = ap (cond (test u.0) (Some u.1)) (found_elsewhere test us x vs h)

  -- the number of slots that are taken is at most that of the entries
  pub taken_fit : (hash n : ℕ) (es : Entries K V) → IsDistinct same_slot (keys_of es) → AreTaken hash n es
      → n ≤ length es
  taken_fit hash zero es d taken = omega arith
  taken_fit hash (suc n) es d taken =
      let last = taken n (omega arith) in
      let cut = first_in (slot_of hash n) es last.0 last.1 in
      let us = cut.before in let vs = cut.after in let x : Slot × (K × V) = (slot_of hash n, last.0) in
      let fewer = taken_fit hash n (us ++ vs)
      (distinct_without (λ e. e.0) same_slot us x vs (subst (λ l. IsDistinct same_slot (keys_of l)) cut.is d))
      (λ m below.
      let one = taken m (omega arith) in (
        one.0,
        sym (found_elsewhere (same_slot (slot_of hash m)) us x vs
            (other_slot hash m n below (same_slot (slot_of hash m) (slot_of hash n)) refl))
            ∙ ap (entry_at (slot_of hash m)) (sym cut.is) ∙ one.1,
      )) in
      omega (arith, fewer, ap length cut.is, length-append us (x ∷ vs), length-append us vs)

  module _ (eq : K → K → Bool) (es : Entries K V) (hash : ℕ) (key : K) where
    pub searched_all : (numbers free : ℕ) → IsTable eq es → IsBelow numbers es → length es < 2 ^ 63 → numbers < 2 ^ 64
        → IsSearched eq es hash key numbers numbers free → IsVacant eq es (slot_of hash free) key
        × AreTaken hash free es
    searched_all numbers free t below short fits s = (
      record {
        free = elim s.vacant [
          | inl all ↦ absent_above free (entry_at (slot_of hash free) es) refl (omega (arith, all.0))
          | inr one ↦ one.1
        ];
        absent = λ e in_e at. s.absent e in_e at (below e in_e);
        numbered = elim s.vacant [
          | inl all ↦ let few = taken_fit hash numbers es t.distinct all.1 in omega (arith, all.0, few)
          | inr one ↦ omega (arith, one.0)
        ];
      },
      elim s.vacant [
        | inl all ↦ rw all.0 all.1
        | inr one ↦ one.2
      ],
    )
      where
        absent_above : (n : ℕ) (o : Option (K × V)) → entry_at (slot_of hash n) es ≡ o → numbers ≤ n → o ≡ None
        absent_above n None h le = refl
        absent_above n (Some p) h le =
            let on = Contains-lookup (same_slot (slot_of hash n)) es p h in
            let is = same_slot-is (slot_of hash n) on.0 on.2 in
            let less = below (on.0, p) on.1 in
            absurd (omega (arith, ap (λ s. s.number) is))
