-- Lemmas about sums modulo 65535.
use Rattle.std.proofs.Common.{◌≡◌, ℕ, zero, suc, ◌+◌, ◌*◌, ◌/◌, ◌<◌, ◌≤◌, refl, ap, sym, ◌∙◌, arith, add_comm}
use Rattle.std.proofs.Math.Nat.{mul-add-mod_self_left}
use Rattle.ep_base.specs.Checksum.{residue}

-- A sum is its residue plus a multiple of 65535.
pub residue_split : (n : ℕ) → (k : ℕ) × (n ≡ 65535 * k + residue n)
residue_split zero = (0, omega arith)
residue_split (suc n) = (n / 65535, omega arith)

pub residue_le : (n : ℕ) → residue n ≤ 65535
residue_le zero = omega arith
residue_le (suc n) = omega arith

pub residue_zero : (n : ℕ) → residue n ≡ 0 → n ≡ 0
residue_zero zero p = refl
residue_zero (suc n) p = absurd (omega arith)

-- Adding a multiple of 65535 to a sum that is not 0 keeps the residue.
pub residue_more : (k n : ℕ) → 0 < n → residue (65535 * k + n) ≡ residue n
residue_more k zero p = absurd (omega arith)
residue_more k (suc n) p =
    let e : 65535 * k + suc n ≡ suc (65535 * k + n) = omega arith in
    rw e (ap suc (mul-add-mod_self_left 65535 k n))

-- Two sums that differ by multiples of 65535, and are both 0 or both not 0, have the same residue.
pub residue_unique : (m n j k : ℕ) → 65535 * j + m ≡ 65535 * k + n → (m ≡ 0 → n ≡ 0) → (n ≡ 0 → m ≡ 0)
    → residue m ≡ residue n
residue_unique zero zero j k e p q = refl
residue_unique zero (suc n) j k e p q = absurd (omega (arith, p refl))
residue_unique (suc m) zero j k e p q = absurd (omega (arith, q refl))
residue_unique (suc m) (suc n) j k e p q =
    sym (residue_more j (suc m) (omega arith)) ∙ ap residue e ∙ residue_more k (suc n) (omega arith)

-- A part of a sum can be replaced by its residue.
pub residue_part : (a b : ℕ) → residue (residue a + b) ≡ residue (a + b)
residue_part a b =
    let s = residue_split a in
    residue_unique (residue a + b) (a + b) s.0 0 (omega (arith, s.1)) (λ z. omega (arith, residue_zero a))
    (λ z. omega (arith, s.1))

pub residue_last : (a b : ℕ) → residue (a + residue b) ≡ residue (a + b)
residue_last a b = ap residue (add_comm a (residue b)) ∙ residue_part b a ∙ ap residue (add_comm b a)

-- Equal residues stay equal if a number is added to both sums.
pub residue_beside : (a b c : ℕ) → residue a ≡ residue b → residue (a + c) ≡ residue (b + c)
residue_beside a b c e = sym (residue_part a c) ∙ ap (λ x. residue (x + c)) e ∙ residue_part b c

-- Equal residues stay equal if both sums are multiplied by 256.
pub residue_times_256 : (a b : ℕ) → residue a ≡ residue b → residue (256 * a) ≡ residue (256 * b)
residue_times_256 a b e =
    let s = residue_split a in
    let t = residue_split b in
    residue_unique (256 * a) (256 * b) (256 * t.0) (256 * s.0) (omega (arith, s.1, t.1, e))
    (λ z. let none : a ≡ 0 = omega arith in omega (arith, residue_zero b (sym e ∙ ap residue none)))
    (λ z. let none : b ≡ 0 = omega arith in omega (arith, residue_zero a (e ∙ ap residue none)))
