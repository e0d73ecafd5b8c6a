-- Look-ups by a test that at most one element of a list passes, before and after changes of the list.
use Rattle.std.proofs.Common.{◌≡◌, ℕ, suc, zero, ◌<◌, ◌≤◌, Bool, true, cond, List, [], ◌∷◌, length, get_or, Option}
use Rattle.std.proofs.Common.{Some, None, refl, ap, sym, ◌∙◌, arith, inl, inr, ◌⊎◌}
use Rattle.std.specs.List.{find, filter, count_by, Contains}
use Rattle.std.specs.List.Sorted.{IsPermutation}
use Rattle.std.proofs.lemmas.Bool.{cases_Bool}
use Rattle.std.proofs.lemmas.List.Sums.{sum_by-cons}
use Rattle.std.proofs.lemmas.List.Sorted.{Contains-permutation, sum_by-IsPermutation}

-- ---- one test
module _ {X : Type 0} (p : X → Bool) where
  abbrev pub counted : X → ℕ
  counted x = cond (p x) 1 0

  pub find_none : (xs : List X) → count_by p xs ≡ 0 → find p xs ≡ None
  find_none [] none = refl
  find_none (x ∷ xs) none = elim (cases_Bool (p x)) [
    | inl passes ↦ absurd (omega (arith, sum_by-cons counted x xs, ap {B = ℕ} (λ b. cond b 1 0) passes, none))
    | inr fails ↦ rw fails (find_none xs (omega (arith, sum_by-cons counted x xs, none)))
  ]

  count_none : (xs : List X) → find p xs ≡ None → count_by p xs ≡ 0
  count_none [] none = omega arith
  count_none (x ∷ xs) none = elim (cases_Bool (p x)) [
    | inl passes ↦ absurd (let some : Some x ≡ None = rw passes at none in cc)
    | inr fails ↦
        let rest : find p xs ≡ None = rw fails at none in
        omega (arith, sum_by-cons counted x xs, ap {B = ℕ} (λ b. cond b 1 0) fails, count_none xs rest)
  ]

  -- A found element is in the list, and passes.
  found_at : (xs : List X) (x : X) → find p xs ≡ Some x → Contains xs x × (p x ≡ true)
  found_at [] x found = absurd (cc)
  found_at (y ∷ xs) x found = elim (cases_Bool (p y)) [
    | inl passes ↦
        let same : Some y ≡ Some x = rw passes at found in
        let is : y ≡ x = cc in
        ((0, omega arith, is), sym (ap p is) ∙ passes)
    | inr fails ↦
        let rest : find p xs ≡ Some x = rw fails at found in
        let later = found_at xs x rest in
        ((suc later.0.0, omega (arith, later.0.1), later.0.2), later.1)
  ]

  at_least_one : (xs : List X) (k : ℕ) (x : X) → k < length xs → get_or xs k x ≡ x → p x ≡ true → 1 ≤ count_by p xs
  at_least_one [] k x below is passes = absurd (omega arith)
  at_least_one (y ∷ xs) zero x below is passes =
      omega (arith, sum_by-cons counted y xs, ap {B = ℕ} (λ b. cond b 1 0) (ap p is ∙ passes))
  at_least_one (y ∷ xs) (suc k) x below is passes =
      omega (arith, sum_by-cons counted y xs, at_least_one xs k x (omega (arith, below)) is passes)

  -- The only element that passes is found.
  find_one : (xs : List X) (k : ℕ) (x : X) → k < length xs → get_or xs k x ≡ x → p x ≡ true → count_by p xs ≤ 1
      → find p xs ≡ Some x
  find_one [] k x below is passes one = absurd (omega (arith, below))
  find_one (y ∷ xs) zero x below is passes one = rw (ap p is ∙ passes) (ap (λ z. Some z) is)
  find_one (y ∷ xs) (suc k) x below is passes one =
      let later : k < length xs = omega (arith, below) in
      elim (cases_Bool (p y)) [
        | inl first ↦ absurd
            (omega (
              arith,
              one,
              sum_by-cons counted y xs,
              ap {B = ℕ} (λ b. cond b 1 0) first,
              at_least_one xs k x later is passes,
            ))
        | inr fails ↦ rw fails
            (find_one xs k x later is passes (omega (arith, one, sum_by-cons counted y xs)))
      ]

  -- After a reordering the same element is found.
  pub find_permuted : (xs ys : List X) → IsPermutation xs ys → count_by p ys ≤ 1 → find p ys ≡ find p xs
  find_permuted xs ys moved one = elim (cases_found (find p xs) refl) [
    | inl none ↦
        find_none ys (sum_by-IsPermutation counted xs ys moved ∙ count_none xs none) ∙ sym none
    | inr (x, found) ↦
        let place = found_at xs x found in
        let still = Contains-permutation xs ys x moved place.0 in
        find_one ys still.0 x still.1 still.2 place.1 one ∙ sym found
  ]
    where
      cases_found : (found : Option X) → find p xs ≡ found → (find p xs ≡ None) ⊎ ((x : X) × (find p xs ≡ Some x))
      cases_found None is = inl is
      cases_found (Some x) is = inr (x, is)

-- ---- a test, and a filter
module _ {X : Type 0} (p keep : X → Bool) where
  pub count_filter : (xs : List X) → count_by p (filter keep xs) ≤ count_by p xs
  count_filter [] = omega arith
  count_filter (x ∷ xs) = elim (cases_Bool (keep x)) [
    | inl stays ↦ rw stays
        (omega (
          arith,
          sum_by-cons (counted p) x xs,
          sum_by-cons (counted p) x (filter keep xs),
          count_filter xs,
        ))
    | inr goes ↦ rw goes (omega (arith, sum_by-cons (counted p) x xs, count_filter xs))
  ]

  -- found element, if it passes the filter
  unfoldable pub stays_if : Option X → Option X
  stays_if None = None
  stays_if (Some x) = cond (keep x) (Some x) None

  pub find_filter : (xs : List X) → count_by p xs ≤ 1 → find p (filter keep xs) ≡ stays_if (find p xs)
  unfolding stays_if
  find_filter [] one = refl
  find_filter (x ∷ xs) one = elim (cases_Bool (p x)) [
    | inl passes ↦
        let none : count_by p xs ≡ 0 =
        omega (arith, sum_by-cons (counted p) x xs, ap {B = ℕ} (λ b. cond b 1 0) passes, one) in
        elim (cases_Bool (keep x)) [
          | inl stays ↦ rw (stays, passes, stays) refl
          | inr goes ↦ rw (goes, passes, goes) (find_none p (filter keep xs) (omega (arith, none, count_filter xs)))
        ]
    | inr fails ↦
        let rest = find_filter xs (omega (arith, sum_by-cons (counted p) x xs, one)) in
        elim (cases_Bool (keep x)) [
          | inl stays ↦ rw (stays, fails) rest
          | inr goes ↦ rw (goes, fails) rest
        ]
  ]
