-- Headers that a call reads at described places, by their kinds.
use Rattle.std.proofs.Common.{◌≡◌, ◌≤◌, ℕ, ◌+◌, Bool, true, false, List, length, ◌⊎◌, inl, inr, refl, sym}
use Rattle.std.proofs.Common.{subst, ◌∙◌, arith}
use Rattle.etherparse_c.specs.FieldAnswers.{HoldsAt, ReadsOnly}
use Rattle.etherparse_c.specs.Places.{bytes_at}

-- Nothing is read if there is no value.
pub reads_none : {Value : Type 0} {Is : Value → Type 0} (value : Value) → ((other : Value) → Is other → ⊥)
    → ReadsOnly Is false value
reads_none value none = record {
  found = λ (read : false ≡ true). absurd (cc);
  only = λ other is. absurd (none other is);
}

-- There is no value if none is read.
pub not_read : {Value : Type 0} {Is : Value → Type 0} {read : Bool} {value : Value} → ReadsOnly Is read value
    → read ≡ false → (other : Value) → Is other → ⊥
not_read reads unread other is =
    let both : true ≡ false = sym (reads.only other is).0 ∙ unread in
    cc

-- A value is read if `Is` holds of it and of no other.
pub reads_one : {Value : Type 0} {Is : Value → Type 0} (value : Value) → Is value
    → ((other : Value) → Is other → other ≡ value) → ReadsOnly Is true value
reads_one value is only = record { found = λ read. is; only = λ other holds. (refl, only other holds) }

-- A call that returns true reads a value.
pub reads_true : {Value : Type 0} {Is : Value → Type 0} {read : Bool} {value : Value} → read ≡ true
    → ReadsOnly Is read value → ReadsOnly Is true value
reads_true is_read reads = record {
  found = λ _. reads.found is_read;
  only = λ other is. (refl, (reads.only other is).1);
}

-- A condition is replaced by an equivalent one.
pub reads_as : {Value : Type 0} {Is As : Value → Type 0} {read : Bool} {value : Value} → ReadsOnly Is read value
    → ((other : Value) → Is other → As other) → ((other : Value) → As other → Is other) → ReadsOnly As read value
reads_as {value = value} reads to from = record {
  found = λ yes. to value (reads.found yes);
  only = λ other holds. reads.only other (from other holds);
}

-- The bytes are those at a place that ends within the bytes.
pub reads_at : {Value : Type 0} (Has : Value → List ℕ → Type 0) {read : Bool} {value : Value} (bytes part : List ℕ)
    (offset len : ℕ) → offset + len ≤ length bytes → part ≡ bytes_at bytes offset len
    → ReadsOnly (λ (value : Value). Has value part) read value
    → ReadsOnly (λ (value : Value). HoldsAt bytes offset len (Has value)) read value
reads_at Has {value = value} bytes part offset len within same reads = record {
  found = λ yes. (within, subst (Has value) same (reads.found yes));
  only = λ other holds. reads.only other (subst (Has other) (sym same) holds.1);
}

-- ---- pairs of fields

-- The first of two fields is read, and the second is fixed.
pub reads_first : {A B : Type 0} {Is : A → Type 0} {read : Bool} {a : A} {b fixed : B} → ReadsOnly Is read a → b ≡ fixed
    → ReadsOnly (λ (pair : A × B). Is pair.0 × (pair.1 ≡ fixed)) read (a, b)
reads_first reads same = record {
  found = λ yes. (reads.found yes, same);
  only = λ other is.
      let one = reads.only other.0 is.0 in
      (one.0, λ i. (one.1 i, (is.1 ∙ sym same) i));
}

-- The second of two fields is read, and the first is fixed.
pub reads_second : {A B : Type 0} {Is : B → Type 0} {read : Bool} {a fixed : A} {b : B} → ReadsOnly Is read b
    → a ≡ fixed → ReadsOnly (λ (pair : A × B). (pair.0 ≡ fixed) × Is pair.1) read (a, b)
reads_second reads same = record {
  found = λ yes. (same, reads.found yes);
  only = λ other is.
      let one = reads.only other.1 is.1 in
      (one.0, λ i. ((is.0 ∙ sym same) i, one.1 i));
}

-- ---- the case of a kind, in a sum over all kinds of a layer

pub tag_kind_0 : {A B C : Type 0} {kind : ℕ} → kind ≡ 0
    → ((kind ≡ 0) × A) ⊎ ((kind ≡ 1) × B) ⊎ ((kind ≡ 2) × C) → A
tag_kind_0 is (inl (same, it)) = it
tag_kind_0 is (inr (inl (same, it))) = absurd (omega (arith, is, same))
tag_kind_0 is (inr (inr (same, it))) = absurd (omega (arith, is, same))

pub tag_kind_1 : {A B C : Type 0} {kind : ℕ} → kind ≡ 1
    → ((kind ≡ 0) × A) ⊎ ((kind ≡ 1) × B) ⊎ ((kind ≡ 2) × C) → B
tag_kind_1 is (inl (same, it)) = absurd (omega (arith, is, same))
tag_kind_1 is (inr (inl (same, it))) = it
tag_kind_1 is (inr (inr (same, it))) = absurd (omega (arith, is, same))

pub tag_kind_2 : {A B C : Type 0} {kind : ℕ} → kind ≡ 2
    → ((kind ≡ 0) × A) ⊎ ((kind ≡ 1) × B) ⊎ ((kind ≡ 2) × C) → C
tag_kind_2 is (inl (same, it)) = absurd (omega (arith, is, same))
tag_kind_2 is (inr (inl (same, it))) = absurd (omega (arith, is, same))
tag_kind_2 is (inr (inr (same, it))) = it

pub net_kind_1 : {A B C D : Type 0} {kind : ℕ} → kind ≡ 1
    → ((kind ≡ 0) × A) ⊎ ((kind ≡ 1) × B) ⊎ ((kind ≡ 4) × C) ⊎ ((kind ≡ 6) × D) → B
net_kind_1 is (inl (same, it)) = absurd (omega (arith, is, same))
net_kind_1 is (inr (inl (same, it))) = it
net_kind_1 is (inr (inr (inl (same, it)))) = absurd (omega (arith, is, same))
net_kind_1 is (inr (inr (inr (same, it)))) = absurd (omega (arith, is, same))

pub net_kind_4 : {A B C D : Type 0} {kind : ℕ} → kind ≡ 4
    → ((kind ≡ 0) × A) ⊎ ((kind ≡ 1) × B) ⊎ ((kind ≡ 4) × C) ⊎ ((kind ≡ 6) × D) → C
net_kind_4 is (inl (same, it)) = absurd (omega (arith, is, same))
net_kind_4 is (inr (inl (same, it))) = absurd (omega (arith, is, same))
net_kind_4 is (inr (inr (inl (same, it)))) = it
net_kind_4 is (inr (inr (inr (same, it)))) = absurd (omega (arith, is, same))

pub net_kind_6 : {A B C D : Type 0} {kind : ℕ} → kind ≡ 6
    → ((kind ≡ 0) × A) ⊎ ((kind ≡ 1) × B) ⊎ ((kind ≡ 4) × C) ⊎ ((kind ≡ 6) × D) → D
net_kind_6 is (inl (same, it)) = absurd (omega (arith, is, same))
net_kind_6 is (inr (inl (same, it))) = absurd (omega (arith, is, same))
net_kind_6 is (inr (inr (inl (same, it)))) = absurd (omega (arith, is, same))
net_kind_6 is (inr (inr (inr (same, it)))) = it

pub transport_kind_0 : {A B C D E : Type 0} {kind : ℕ} → kind ≡ 0
    → ((kind ≡ 0) × A) ⊎ ((kind ≡ 1) × B) ⊎ ((kind ≡ 6) × C) ⊎ ((kind ≡ 17) × D) ⊎ ((kind ≡ 58) × E) → A
transport_kind_0 is (inl (same, it)) = it
transport_kind_0 is (inr (inl (same, it))) = absurd (omega (arith, is, same))
transport_kind_0 is (inr (inr (inl (same, it)))) = absurd (omega (arith, is, same))
transport_kind_0 is (inr (inr (inr (inl (same, it))))) = absurd (omega (arith, is, same))
transport_kind_0 is (inr (inr (inr (inr (same, it))))) = absurd (omega (arith, is, same))

pub transport_kind_1 : {A B C D E : Type 0} {kind : ℕ} → kind ≡ 1
    → ((kind ≡ 0) × A) ⊎ ((kind ≡ 1) × B) ⊎ ((kind ≡ 6) × C) ⊎ ((kind ≡ 17) × D) ⊎ ((kind ≡ 58) × E) → B
transport_kind_1 is (inl (same, it)) = absurd (omega (arith, is, same))
transport_kind_1 is (inr (inl (same, it))) = it
transport_kind_1 is (inr (inr (inl (same, it)))) = absurd (omega (arith, is, same))
transport_kind_1 is (inr (inr (inr (inl (same, it))))) = absurd (omega (arith, is, same))
transport_kind_1 is (inr (inr (inr (inr (same, it))))) = absurd (omega (arith, is, same))

pub transport_kind_6 : {A B C D E : Type 0} {kind : ℕ} → kind ≡ 6
    → ((kind ≡ 0) × A) ⊎ ((kind ≡ 1) × B) ⊎ ((kind ≡ 6) × C) ⊎ ((kind ≡ 17) × D) ⊎ ((kind ≡ 58) × E) → C
transport_kind_6 is (inl (same, it)) = absurd (omega (arith, is, same))
transport_kind_6 is (inr (inl (same, it))) = absurd (omega (arith, is, same))
transport_kind_6 is (inr (inr (inl (same, it)))) = it
transport_kind_6 is (inr (inr (inr (inl (same, it))))) = absurd (omega (arith, is, same))
transport_kind_6 is (inr (inr (inr (inr (same, it))))) = absurd (omega (arith, is, same))

pub transport_kind_17 : {A B C D E : Type 0} {kind : ℕ} → kind ≡ 17
    → ((kind ≡ 0) × A) ⊎ ((kind ≡ 1) × B) ⊎ ((kind ≡ 6) × C) ⊎ ((kind ≡ 17) × D) ⊎ ((kind ≡ 58) × E) → D
transport_kind_17 is (inl (same, it)) = absurd (omega (arith, is, same))
transport_kind_17 is (inr (inl (same, it))) = absurd (omega (arith, is, same))
transport_kind_17 is (inr (inr (inl (same, it)))) = absurd (omega (arith, is, same))
transport_kind_17 is (inr (inr (inr (inl (same, it))))) = it
transport_kind_17 is (inr (inr (inr (inr (same, it))))) = absurd (omega (arith, is, same))

pub transport_kind_58 : {A B C D E : Type 0} {kind : ℕ} → kind ≡ 58
    → ((kind ≡ 0) × A) ⊎ ((kind ≡ 1) × B) ⊎ ((kind ≡ 6) × C) ⊎ ((kind ≡ 17) × D) ⊎ ((kind ≡ 58) × E) → E
transport_kind_58 is (inl (same, it)) = absurd (omega (arith, is, same))
transport_kind_58 is (inr (inl (same, it))) = absurd (omega (arith, is, same))
transport_kind_58 is (inr (inr (inl (same, it)))) = absurd (omega (arith, is, same))
transport_kind_58 is (inr (inr (inr (inl (same, it))))) = absurd (omega (arith, is, same))
transport_kind_58 is (inr (inr (inr (inr (same, it))))) = it
