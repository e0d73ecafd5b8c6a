-- No two names of a table are equal: equal ones have equal hashes, and the table has one entry for a hash and equal
-- keys.
use Rattle.std.proofs.Common.{◌≡◌, ℕ, ◌≤◌, Bool, true, false, cond, [], ◌∷◌, Contains, inl, inr}
use Rattle.std.proofs.Common.{refl, sym, ap, ◌∙◌, arith}
use Rattle.std.specs.Cmp.{IsEquivalence}
use Rattle.std.specs.List.{count_by, AllByRecursion, IsDistinct}
use Rattle.std.specs.Map.{keys_of}
use Rattle.std.proofs.lemmas.Bool.{cases_Bool, eq-eqb, true≢false}
use Rattle.std.proofs.lemmas.List.Sums.{sum_by-cons}
use Rattle.std.proofs.lemmas.List.Elements.{Contains-append_right}
use Rattle.lru_table.specs.declared.slot.Slot.{Slot}
use Rattle.lru_table.specs.LruTable.{Entries, same_slot}
use Rattle.ep_defrag.specs.declared.ip_frag_id.IpFragId.{IpFragId}
use Rattle.ep_defrag.specs.declared.held_stream.HeldStream.{HeldStream}
use Rattle.ep_defrag.specs.Streams.{same_stream}
use Rattle.ep_defrag.specs.BoundedNames.{HeldName, names_of}
use Rattle.ep_defrag.proofs.StreamLemmas.{same_stream_laws}
use Rattle.ep_defrag.proofs.StreamEntryLemmas.{first_or_later, first_is}

same_slot_itself : (slot : Slot) → same_slot slot slot ≡ true
same_slot_itself slot = rw (eq-eqb slot.hash slot.hash refl, eq-eqb slot.number slot.number refl) refl

module _ {C : Type 0} (eq : C → C → Bool) (laws : IsEquivalence eq) (name : IpFragId C) where
  abbrev is_name : HeldName C → Bool
  is_name held_name = same_stream eq held_name.0 name

  abbrev once : HeldName C → ℕ
  once held_name = cond (is_name held_name) 1 0

  pub none_in : (entries : Entries (IpFragId C) HeldStream)
      → ((entry : Slot × HeldName C) → Contains entries entry → is_name entry.1 ≡ false)
      → count_by is_name (names_of entries) ≡ 0
  none_in [] other = omega arith
  none_in (e ∷ es) other =
      omega (
        arith,
        sum_by-cons once e.1 (names_of es),
        ap {B = ℕ} (λ b. cond b 1 0) (other e (first_is e es)),
        none_in es (λ entry inside. other entry (Contains-append_right (e ∷ []) es entry inside)),
      )

  past_in : (slot : Slot) (entries : Entries (IpFragId C) HeldStream)
      → AllByRecursion (λ y. same_slot slot y ≡ false) (keys_of entries)
      → (entry : Slot × HeldName C) → Contains entries entry → same_slot slot entry.0 ≡ false
  past_in slot [] all entry (k, below, is) = absurd (omega (arith, below))
  past_in slot (e ∷ es) all entry inside = elim (first_or_later e entry es inside) [
    | inl own ↦ sym (ap (λ (x : Slot × HeldName C). same_slot slot x.0) own) ∙ all.0
    | inr later ↦ past_in slot es all.1 entry later
  ]

  module _ (hash : IpFragId C → ℕ)
      (respects : (a b : IpFragId C) → same_stream eq a b ≡ true → hash a ≡ hash b) where
    pub names_differ : (entries : Entries (IpFragId C) HeldStream)
        → ((entry : Slot × HeldName C) → Contains entries entry → entry.0.hash ≡ hash entry.1.0)
        → IsDistinct same_slot (keys_of entries)
        → ((a b : Slot × HeldName C) → Contains entries a → Contains entries b → a.0.hash ≡ b.0.hash
        → same_stream eq a.1.0 b.1.0 ≡ true → a.0 ≡ b.0)
        → count_by is_name (names_of entries) ≤ 1
    unfolding IsDistinct
    names_differ [] hashed distinct unambiguous = omega arith
    names_differ (e ∷ es) hashed distinct unambiguous =
        let equal = same_stream_laws eq laws in
        let first = first_is e es in
        let later : (x : Slot × HeldName C) → Contains es x → Contains (e ∷ es) x =
        λ x inside. Contains-append_right (e ∷ []) es x inside in
        elim (cases_Bool (is_name e.1)) [
          | inl same ↦
              let none = none_in es (λ x inside. elim (cases_Bool (is_name x.1)) [
                | inl also ↦
                    let both : same_stream eq e.1.0 x.1.0 ≡ true =
                    equal.congr e.1.0 name x.1.0 same ∙ equal.symm name x.1.0 ∙ also in
                    let hashes : e.0.hash ≡ x.0.hash =
                    hashed e first ∙ respects e.1.0 x.1.0 both ∙ sym (hashed x (later x inside)) in
                    let slots = unambiguous e x first (later x inside) hashes both in
                    absurd
                    (true≢false
                    (sym (same_slot_itself e.0) ∙ ap (same_slot e.0) slots ∙ past_in e.0 es distinct.0 x inside))
                | inr other ↦ other
              ]) in
              omega (arith, sum_by-cons once e.1 (names_of es), ap {B = ℕ} (λ b. cond b 1 0) same, none)
          | inr other ↦
              omega (
                arith,
                sum_by-cons once e.1 (names_of es),
                ap {B = ℕ} (λ b. cond b 1 0) other,
                names_differ es (λ x inside. hashed x (later x inside)) distinct.1
                    (λ a b in_a in_b. unambiguous a b (later a in_a) (later b in_b)),
              )
        ]
