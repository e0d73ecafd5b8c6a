-- Equality of slots.
use Rattle.std.proofs.Common.{◌≡◌, ◌==◌, ◌&&◌, Bool, true, false, refl, ap}
use Rattle.std.specs.Cmp.{IsEquivalence}
use Rattle.std.proofs.lemmas.Bool.{eqb-true, eq-eqb}
use Rattle.std.proofs.lemmas.Cmp.{nat_eq_equiv}
use Rattle.lru_table.specs.declared.slot.Slot.{Slot}
use Rattle.lru_table.specs.LruTable.{same_slot}

both_true : (a b : Bool) → (a && b) ≡ true → (a ≡ true) × (b ≡ true)
both_true true b h = (refl, h)
both_true false b h = cc

pub same_slot-refl : (s : Slot) → same_slot s s ≡ true
same_slot-refl s = rw (eq-eqb s.hash s.hash refl, eq-eqb s.number s.number refl) refl

pub same_slot-is : (a b : Slot) → same_slot a b ≡ true → a ≡ b
same_slot-is a b h =
    let both = both_true (a.hash == b.hash) (a.number == b.number) h in
    let hash = eqb-true a.hash b.hash both.0 in
    let number = eqb-true a.number b.number both.1 in
    λ i. record { hash = hash i; number = number i }

pub same_slot-flips : (a b : Slot) → same_slot a b ≡ same_slot b a
same_slot-flips a b = λ i. nat_eq_equiv.symm a.hash b.hash i && nat_eq_equiv.symm a.number b.number i

pub same_slot-equiv : IsEquivalence same_slot
same_slot-equiv = record {
  refl = same_slot-refl;
  symm = same_slot-flips;
  congr = λ x y z h. ap (λ s. same_slot s z) (same_slot-is x y h);
}
