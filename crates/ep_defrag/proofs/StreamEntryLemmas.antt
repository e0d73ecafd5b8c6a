-- Entries of a table as names leave, change, move and come.
use Rattle.std.proofs.Common.{◌≡◌, ℕ, zero, suc, ◌+◌, ◌⊎◌, List, [], ◌∷◌, ◌++◌, length, slice_get, Some, None, Contains}
use Rattle.std.proofs.Common.{refl, sym, ap, subst, ◌∙◌, inl, inr, arith}
use Rattle.std.specs.Option.{option_map}
use Rattle.std.specs.Hash.{HashWrites}
use Rattle.std.specs.declared.hash.RandomState.{RandomState}
use Rattle.std.proofs.lemmas.List.Elements.{Contains-append_left, Contains-append_right, Contains-append_cases}
use Rattle.lru_table.specs.declared.slot.Slot.{Slot}
use Rattle.lru_table.specs.LruTable.{entry_at, without, with_newest, with_value, IsTaken}
use Rattle.ep_defrag.specs.declared.held_stream.HeldStream.{HeldStream}
use Rattle.ep_defrag.specs.KeyedHashes.{name_hash}
use Rattle.ep_defrag.specs.BoundedNames.{HeldName, AreHashed}
use Rattle.ep_defrag.proofs.HeldNameLemmas.{StreamEntries, Placed}

-- ---- elements of a list
module _ {X : Type 0} where
  pub first_or_later : (x y : X) (xs : List X) → Contains (x ∷ xs) y → (x ≡ y) ⊎ Contains xs y
  first_or_later x y xs (zero, below, is) = inl is
  first_or_later x y xs (suc k, below, is) = inr (k, omega (arith, below), is)

  only_one : (x y : X) → Contains (x ∷ []) y → x ≡ y
  only_one x y (zero, below, is) = is
  only_one x y (suc k, below, is) = absurd (omega (arith, below))

  pub first_is : (x : X) (xs : List X) → Contains (x ∷ xs) x
  first_is x xs = (0, omega arith, refl)

  beside_in : (before after : List X) (x y : X) → Contains (before ++ after) y → Contains (before ++ x ∷ after) y
  beside_in before after x y inside = elim (Contains-append_cases before after y inside) [
    | inl left ↦ Contains-append_left before (x ∷ after) y left
    | inr right ↦
        Contains-append_right before (x ∷ after) y (Contains-append_right (x ∷ []) after y right)
  ]

  moved_in : (before after : List X) (x y : X) → Contains (before ++ after ++ x ∷ []) y
      → Contains (before ++ x ∷ after) y
  moved_in before after x y inside = elim (Contains-append_cases (before ++ after) (x ∷ []) y inside) [
    | inl other ↦ beside_in before after x y other
    | inr own ↦
        Contains-append_right before (x ∷ after) y (subst (Contains (x ∷ after)) (only_one x y own) (first_is x after))
  ]

-- ---- entries of a table
module _ {C : Type 0} where
  pub entry_without : (entries : StreamEntries C) (slot : Slot) (name : HeldName C) → Placed entries slot name
      → (entry : Slot × HeldName C) → Contains (without slot entries) entry → Contains entries entry
  entry_without entries slot name placed entry inside =
      let at = placed.2 in
      subst (λ (all : StreamEntries C). Contains all entry) (sym at.whole)
      (beside_in placed.0 placed.1 (slot, name) entry
      (subst (λ (all : StreamEntries C). Contains all entry) at.removed inside))

  pub entry_touched : (entries : StreamEntries C) (slot : Slot) (name : HeldName C) → Placed entries slot name
      → (entry : Slot × HeldName C) → Contains (with_newest slot entries) entry → Contains entries entry
  entry_touched entries slot name placed entry inside =
      let at = placed.2 in
      subst (λ (all : StreamEntries C). Contains all entry) (sym at.whole)
      (moved_in placed.0 placed.1 (slot, name) entry
      (subst (λ (all : StreamEntries C). Contains all entry) at.touched inside))

  module _ (channel : C → HashWrites) (keys : RandomState) where
    pub hashed_written : (entries : StreamEntries C) (slot : Slot) (name : HeldName C) (stream : HeldStream)
        → Placed entries slot name → AreHashed channel keys entries
        → AreHashed channel keys (with_value slot stream entries)
    hashed_written entries slot name stream placed hashed = λ entry inside.
        let at = placed.2 in
        let before = placed.0 in
        let after = placed.1 in
        let all : (other : Slot × HeldName C) → Contains (before ++ (slot, name) ∷ after) other
        → other.0.hash ≡ name_hash channel keys other.1.0 =
        λ other is. hashed other (subst (λ (all : StreamEntries C). Contains all other) (sym at.whole) is) in
        let here = subst (λ (all : StreamEntries C). Contains all entry) (at.written stream) inside in
        elim (Contains-append_cases before ((slot, (name.0, stream)) ∷ after) entry here) [
          | inl left ↦ all entry (Contains-append_left before ((slot, name) ∷ after) entry left)
          | inr right ↦ elim (first_or_later (slot, (name.0, stream)) entry after right) [
            | inl own ↦
                sym (ap (λ (other : Slot × HeldName C). other.0.hash) own)
                ∙ all (slot, name) (Contains-append_right before ((slot, name) ∷ after) (slot, name)
                (first_is (slot, name) after))
                ∙ ap (λ (other : Slot × HeldName C). name_hash channel keys other.1.0) own
            | inr later ↦
                all entry
                (Contains-append_right before ((slot, name) ∷ after) entry
                (Contains-append_right ((slot, name) ∷ []) after entry later))
          ]
        ]

    pub hashed_pushed : (entries : StreamEntries C) (slot : Slot) (name : HeldName C)
        → slot.hash ≡ name_hash channel keys name.0 → AreHashed channel keys entries
        → AreHashed channel keys (entries ++ (slot, name) ∷ [])
    hashed_pushed entries slot name own hashed = λ entry inside.
        elim (Contains-append_cases entries ((slot, name) ∷ []) entry inside) [
          | inl left ↦ hashed entry left
          | inr right ↦
              let is = only_one (slot, name) entry right in
              sym (ap (λ (other : Slot × HeldName C). other.0.hash) is) ∙ own
              ∙ ap (λ (other : Slot × HeldName C). name_hash channel keys other.1.0) is
        ]

  -- The oldest slot has an entry.
  pub oldest_taken : (entries : StreamEntries C) (slot : Slot)
      → ((first : Slot × HeldName C) (rest : StreamEntries C) → entry_at first.0 (first ∷ rest) ≡ Some first.1)
      → Some slot ≡ option_map (λ e. e.0) (slice_get entries 0) → IsTaken slot entries
  oldest_taken [] slot found is = absurd cc
  oldest_taken (first ∷ rest) slot found is =
      let own : slot ≡ first.0 = cc in
      (first.1, ap (λ (s : Slot). entry_at s (first ∷ rest)) own ∙ found first rest)

  pub oldest_none : (entries : StreamEntries C) → None ≡ option_map (λ e. e.0) (slice_get entries 0) → entries ≡ []
  oldest_none [] is = refl
  oldest_none (first ∷ rest) is = absurd cc

  -- Without its oldest entry a table is shorter.
  pub oldest_shorter : (entries : StreamEntries C) (slot : Slot)
      → ((first : Slot × HeldName C) (rest : StreamEntries C) → without first.0 (first ∷ rest) ≡ rest)
      → Some slot ≡ option_map (λ e. e.0) (slice_get entries 0)
      → length entries ≡ 1 + length (without slot entries)
  oldest_shorter [] slot removed is = absurd cc
  oldest_shorter (first ∷ rest) slot removed is =
      let own : slot ≡ first.0 = cc in
      omega (
        arith,
        ap {B = ℕ} (λ (s : Slot). length (without s (first ∷ rest))) own,
        ap {B = ℕ} (λ (es : StreamEntries C). length es) (removed first rest),
      )
