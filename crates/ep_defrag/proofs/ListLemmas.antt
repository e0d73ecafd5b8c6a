-- Lists: filters and their complements, ranges of numbers, and elements taken from a list.
use Rattle.std.proofs.Common.{◌≡◌, ℕ, suc, zero, ◌+◌, ◌<◌, ◌≤◌, Bool, true, false, cond, not, ◌||◌, List, [], ◌∷◌, ◌++◌}
use Rattle.std.proofs.Common.{length, take, get_or, sym, refl, ap, ◌∙◌, arith, inl, inr}
use Rattle.std.specs.List.{list_any, list_all, filter, count_by, range_with_len}
use Rattle.std.proofs.lemmas.Bool.{cases_Bool, false≢true, and_parts, and_from, cases_eq, or_right}
use Rattle.std.proofs.lemmas.List.{append-nil}
use Rattle.std.proofs.lemmas.List.Folds.{list_any-append}
use Rattle.std.proofs.lemmas.List.Sorted.{list_any-IsPermutation, IsPermutation-filter_both}
use Rattle.std.proofs.lemmas.List.Sums.{sum_by-cons}

module _ {X : Type 0} (p : X → Bool) where
  -- If a filter keeps no element, none passes its test.
  pub none_from_filter : (xs : List X) → filter p xs ≡ [] → list_any p xs ≡ false
  none_from_filter [] none = refl
  none_from_filter (x ∷ xs) none = elim (cases_Bool (p x)) [
    | inl passes ↦ absurd (let e : x ∷ filter p xs ≡ [] = rw passes at none in cc)
    | inr fails ↦ rw fails (none_from_filter xs (rw fails at none))
  ]

  -- An element passes a test in a filtered list or in its complement exactly if one does in the list.
  pub list_any-filter_both : (q : X → Bool) (xs : List X)
      → (list_any q (filter p xs) || list_any q (filter (λ x. not (p x)) xs)) ≡ list_any q xs
  list_any-filter_both q xs =
      sym (list_any-append q (filter p xs) (filter (λ x. not (p x)) xs))
      ∙ sym (list_any-IsPermutation q xs _ (IsPermutation-filter_both p (λ x. not (p x)) (λ x. refl) xs))

-- A test that each number of a range passes holds of all of them.
pub list_all-range : (p : ℕ → Bool) (from n : ℕ) → ((k : ℕ) → from ≤ k → k < from + n → p k ≡ true)
    → list_all p (range_with_len from n) ≡ true
list_all-range p from zero each = refl
list_all-range p from (suc n) each =
    and_from _ _ (each from (omega arith) (omega arith))
    (list_all-range p (from + 1) n (λ k low high. each k (omega arith) (omega arith)))

pub each_of_range : (p : ℕ → Bool) (from n : ℕ) → list_all p (range_with_len from n) ≡ true → (k : ℕ) → from ≤ k
    → k < from + n → p k ≡ true
each_of_range p from zero all k low high = absurd (omega arith)
each_of_range p from (suc n) all k low high =
    let parts = and_parts _ _ all in
    elim (cases_eq k from) [
      | inl same ↦ rw same parts.0
      | inr other ↦ each_of_range p (from + 1) n parts.1 k (omega arith) (omega arith)
    ]

-- A number of a range that passes a test.
pub any_of_range : (p : ℕ → Bool) (from n k : ℕ) → from ≤ k → k < from + n → p k ≡ true
    → list_any p (range_with_len from n) ≡ true
any_of_range p from zero k low high passes = absurd (omega arith)
any_of_range p from (suc n) k low high passes = elim (cases_eq k from) [
  | inl same ↦ ap (λ t. t || list_any p (range_with_len (from + 1) n)) (ap p (sym same) ∙ passes)
  | inr other ↦ or_right (p from) _ (any_of_range p (from + 1) n k (omega arith) (omega arith) passes)
]

-- If an element passes, the count is at least 1.
pub count_by-positive : {X : Type 0} (p : X → Bool) (xs : List X) → list_any p xs ≡ true → 1 ≤ count_by p xs
count_by-positive p [] any = absurd (false≢true any)
count_by-positive p (x ∷ xs) any = elim (cases_Bool (p x)) [
  | inl passes ↦ rw (sum_by-cons (λ y. cond (p y) 1 0) x xs, passes) (omega arith)
  | inr fails ↦ rw (sum_by-cons (λ y. cond (p y) 1 0) x xs, fails)
      (omega (arith, count_by-positive p xs (rw fails at any)))
]

-- If no element is left, all were taken.
pub all_taken : {X : Type 0} (taken left all : List X) → taken ++ left ≡ all → length left ≡ 0 → taken ≡ all
all_taken taken [] all complete none = sym (append-nil taken) ∙ complete
all_taken taken (x ∷ left) all complete none = absurd (omega arith)

-- The elements before the next one are those taken, and the element at that index is the next one.
pub before_and_at : {X : Type 0} (taken left : List X) (x d : X)
    → (take (length taken) (taken ++ x ∷ left) ≡ taken) × (get_or (taken ++ x ∷ left) (length taken) d ≡ x)
before_and_at [] left x d = (refl, refl)
before_and_at (y ∷ taken) left x d =
    let rest = before_and_at taken left x d in
    (ap (λ xs. y ∷ xs) rest.0, rest.1)
