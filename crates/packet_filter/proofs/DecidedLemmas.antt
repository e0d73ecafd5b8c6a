-- Lemmas about predicates that can be decided.
use Rattle.std.proofs.Common.{◌≡◌, ℕ, zero, suc, ◌<◌, ◌≤◌, ◌⊎◌, inl, inr, Bool, true, false, IsTrue, List, bytes_eq, Option, Some, None, refl, sym, subst, arith}
use Rattle.std.proofs.lemmas.Bool.{cases_lt}
use Rattle.std.proofs.lemmas.Slice.Eq.{bytes_eq-Decides}

-- It holds, or it does not.
abbrev pub Decided : Type 0 → Type 0
Decided A = A ⊎ (¬ A)

-- It holds of some value, or of none.
abbrev pub Found : {V : Type 0} → (V → Type 0) → Type 0
Found {V} P = ((v : V) × P v) ⊎ ((v : V) → ¬ P v)

pub decided_as : {A B : Type 0} → (A → B) → (B → A) → Decided A → Decided B
decided_as to from (inl a) = inl (to a)
decided_as to from (inr none) = inr (λ b. none (from b))

pub both_decided : {A B : Type 0} → Decided A → Decided B → Decided (A × B)
both_decided (inl a) (inl b) = inl (a, b)
both_decided (inl a) (inr none) = inr (λ both. none both.1)
both_decided (inr none) d = inr (λ both. none both.0)

pub either_decided : {A B : Type 0} → Decided A → Decided B → Decided (A ⊎ B)
either_decided (inl a) d = inl (inl a)
either_decided (inr none) (inl b) = inl (inr b)
either_decided {A} {B} (inr none) (inr never) =
    inr (λ (either : A ⊎ B). elim either [ inl a ↦ none a | inr b ↦ never b ])

true_decided : (b : Bool) → Decided (b ≡ true)
true_decided true = inl refl
true_decided false = inr (λ is. let never : ⊥ = cc in never)

pub test_decided : (b : Bool) → Decided (IsTrue b)
test_decided true = inl refl
test_decided false = inr (λ is. let never : ⊥ = cc in never)

by_test : {A : Type 0} (b : Bool) → (b ≡ true → A) → (A → b ≡ true) → Decided A
by_test b to from = decided_as to from (true_decided b)

-- Texts are equal or not.
pub same_text_decided : (xs ys : List ℕ) → Decided (xs ≡ ys)
same_text_decided xs ys = by_test (bytes_eq xs ys) (bytes_eq-Decides xs ys).0 (bytes_eq-Decides xs ys).1

pub below_decided : (a b : ℕ) → Decided (a < b)
below_decided a b = elim (cases_lt a b) [
  | inl less ↦ inl less
  | inr more ↦ inr (λ less. omega (arith, less, more))
]

pub most_decided : (a b : ℕ) → Decided (a ≤ b)
most_decided a b = elim (cases_lt b a) [
  | inl less ↦ inr (λ most. omega (arith, less, most))
  | inr more ↦ inl more
]

pub same_decided : (a b : ℕ) → Decided (a ≡ b)
same_decided a b = elim (cases_lt a b) [
  | inl less ↦ inr (λ same. omega (arith, less, same))
  | inr more ↦ elim (cases_lt b a) [
    | inl less ↦ inr (λ same. omega (arith, less, same))
    | inr most ↦ inl (omega (arith, more, most))
  ]
]

-- A value is found where another predicate has one, and back.
pub found_as : {V W : Type 0} (P : V → Type 0) (Q : W → Type 0) → ((v : V) → P v → (w : W) × Q w)
    → ((w : W) → Q w → (v : V) × P v) → Found P → Found Q
found_as P Q to from (inl found) = inl (to found.0 found.1)
found_as P Q to from (inr none) = inr (λ w q. let present = from w q in none present.0 present.1)

pub found_either : {V : Type 0} (P Q : V → Type 0) → Found P → Found Q → Found (λ v. P v ⊎ Q v)
found_either P Q (inl found) d = inl (found.0, inl found.1)
found_either P Q (inr none) (inl found) = inl (found.0, inr found.1)
found_either P Q (inr none) (inr never) =
    inr (λ v (either : P v ⊎ Q v). elim either [ inl p ↦ none v p | inr q ↦ never v q ])

-- Only this value is possible.
pub found_only : {V : Type 0} (P : V → Type 0) (v : V) → ((w : V) → P w → v ≡ w) → Decided (P v) → Found P
found_only P v only (inl p) = inl (v, p)
found_only P v only (inr none) = inr (λ w p. none (subst P (sym (only w p)) p))

-- Where at most one value has a property, a second one of it can be decided.
pub found_such : {V : Type 0} (P Q : V → Type 0) → ((v w : V) → P v → P w → v ≡ w) → ((v : V) → Decided (Q v))
    → Found P → Found (λ v. P v × Q v)
found_such P Q one decided (inr none) = inr (λ v both. none v both.0)
found_such P Q one decided (inl (v, p)) = elim (decided v) [
  | inl q ↦ inl (v, (p, q))
  | inr never ↦ inr (λ w both. never (subst Q (sym (one v w p both.0)) both.1))
]

-- A number below a bound with a property, or none.
pub below_found : (P : ℕ → Type 0) → ((n : ℕ) → Decided (P n)) → (bound : ℕ) → Found (λ n. (n < bound) × P n)
below_found P decided zero = inr (λ n both. omega (arith, both.0))
below_found P decided (suc bound) = below_more P bound (decided bound) (below_found P decided bound)
  where
    below_more : (P : ℕ → Type 0) (bound : ℕ) → Decided (P bound) → Found (λ n. (n < bound) × P n)
        → Found (λ n. (n < suc bound) × P n)
    below_more P bound (inl p) d = inl (bound, (omega arith, p))
    below_more P bound (inr none) (inl (n, (below, p))) = inl (n, (omega (arith, below), p))
    below_more P bound (inr none) (inr never) = inr (λ n both. elim (same_decided n bound) [
      | inl same ↦ none (subst P same both.1)
      | inr apart ↦ never n (omega (arith, apart, both.0), both.1)
    ])

-- A name that is looked up first.
pub found_named : (named : Option ℕ) (P : ℕ → Type 0) → Found P
    → Found (λ n. (named ≡ Some n) ⊎ ((named ≡ None) × P n))
found_named (Some n) P d = inl (n, inl refl)
found_named None P (inl (n, p)) = inl (n, inr (refl, p))
found_named None P (inr none) = inr (λ n is. elim is [
  | inl named ↦ let never : ⊥ = cc in never
  | inr both ↦ none n both.1
])
