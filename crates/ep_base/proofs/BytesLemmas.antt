-- Lemmas about lists of bytes and their parts.
use Rattle.std.proofs.Common.{◌≡◌, ℕ, zero, suc, ◌+◌, ◌-◌, ◌*◌, ◌/◌, ◌%◌, ◌^◌, ◌<◌, ◌≤◌, ◌==◌, Bool, true, false, List, [], ◌∷◌, ◌++◌}
use Rattle.std.proofs.Common.{get_or, refl, length, replicate, take, drop, sym, ap, subst, ◌∙◌, inl, inr, arith}
use Rattle.std.proofs.lemmas.Bool.{cases_lt}
use Rattle.std.proofs.lemmas.List.{get_or-take, get_or-drop, get_or_past, length-take, length-drop}
use Rattle.std.proofs.lemmas.List.{drop_more, drop_at, drop-replicate, length-append, length-replicate, take_all}
use Rattle.std.specs.Int.{w16, w32, to_be_bytes}
use Rattle.std.proofs.Math.Seq.{take-append_seam, drop-append_seam}
use Rattle.ep_base.specs.Bytes.{AreBytes, word_at, bit}

-- Two splits of a list at the same position have the same parts.
pub same_parts : (a b x y : List ℕ) → length a ≡ length b → a ++ x ≡ b ++ y → (a ≡ b) × (x ≡ y)
same_parts a b x y len same = (
  sym (take-append_seam a x) ∙ ap (take (length a)) same ∙ ap (λ (n : ℕ). take n (b ++ y)) len ∙ take-append_seam b y,
  sym (drop-append_seam a x) ∙ ap (drop (length a)) same ∙ ap (λ (n : ℕ). drop n (b ++ y)) len ∙ drop-append_seam b y,
)

-- Dropping the length of the first part leaves the second part.
pub rest_of : (bytes prefix rest : List ℕ) (n : ℕ) → bytes ≡ prefix ++ rest → n ≡ length prefix
    → take (length bytes - n) (drop n bytes) ≡ rest
rest_of bytes prefix rest n parts len =
    take_all (length bytes - n) (drop n bytes) (omega (arith, length-drop n bytes)) ∙ ap (drop n) parts
    ∙ drop_at prefix rest n (sym len)

-- The first part is not longer than the whole.
pub prefix_within : (bytes prefix rest : List ℕ) (n : ℕ) → bytes ≡ prefix ++ rest → n ≡ length prefix → n ≤ length bytes
prefix_within bytes prefix rest n parts len = omega (arith, ap length parts, length-append prefix rest, len)

-- A copy at the start of a zeroed array keeps the array's length and is followed by zeros.
pub stored_copy : (copy : List ℕ) (n m width : ℕ) → length copy ≡ n → n ≤ width → m ≡ n
    → (length (copy ++ drop n (replicate width 0)) ≡ width)
    × (drop m (copy ++ drop n (replicate width 0)) ≡ replicate (width - m) 0)
stored_copy copy n m width copied within same =
    let zeros : List ℕ = replicate width 0 in (
      omega (arith, length-append copy (drop n zeros), length-drop n zeros, length-replicate {A = ℕ} width 0, copied),
      drop_at copy (drop n zeros) m (copied ∙ sym same) ∙ ap (λ (k : ℕ). drop k zeros) (sym same)
          ∙ drop-replicate m width 0,
    )

-- The n elements that start at i.
unfoldable pub elements : ℕ → ℕ → List ℕ → List ℕ
elements zero i bytes = []
elements (suc n) i bytes = get_or bytes i 0 ∷ elements n (i + 1) bytes

-- The list from i on consists of the n elements at i and the list from i + n on.
pub drop-elements : (n i : ℕ) (bytes : List ℕ) → i + n ≤ length bytes
    → drop i bytes ≡ elements n i bytes ++ drop (i + n) bytes
unfolding elements
drop-elements zero i bytes within = ap (λ (k : ℕ). drop k bytes) (omega arith)
drop-elements (suc n) i bytes within =
    drop_more bytes i 0 (omega arith)
    ∙ ap (λ (s : List ℕ). get_or bytes i 0 ∷ s) (drop-elements n (i + 1) bytes (omega arith))
    ∙ ap (λ (k : ℕ). elements (suc n) i bytes ++ drop k bytes) (omega arith)

-- A prefix of bytes is bytes.
pub AreBytes-take : (n : ℕ) (bytes : List ℕ) → AreBytes bytes → AreBytes (take n bytes)
AreBytes-take n bytes fits i =
    elim (cases_lt i n) [
      | inl within ↦ rw (get_or-take n bytes i 0 within) (fits i)
      | inr past ↦ rw (get_or_past (take n bytes) i 0 (omega (arith, length-take n bytes))) (omega arith)
    ]

-- The bytes after a prefix are bytes.
pub AreBytes-drop : (n : ℕ) (bytes : List ℕ) → AreBytes bytes → AreBytes (drop n bytes)
AreBytes-drop n bytes fits i = rw get_or-drop (fits (n + i))

-- Two bytes are the big-endian bytes of the number that they encode.
pub word_cells : (bytes : List ℕ) → AreBytes bytes → (i : ℕ) {n : ℕ} → n ≡ word_at bytes i
    → get_or bytes i 0 ∷ get_or bytes (i + 1) 0 ∷ [] ≡ to_be_bytes w16 n
word_cells bytes fits i {n = n} same =
    let upper : get_or bytes i 0 ≡ n / 256 ^ 1 % 256 = omega (arith, same, fits i, fits (i + 1)) in
    let lower : get_or bytes (i + 1) 0 ≡ n % 256 = omega (arith, same, fits (i + 1)) in
    λ k. upper k ∷ lower k ∷ []

-- Four bytes are the big-endian bytes of the number that they encode.
pub long_cells : (bytes : List ℕ) → AreBytes bytes → (i : ℕ) {n : ℕ}
    → n ≡ 2 ^ 16 * word_at bytes i + word_at bytes (i + 2)
    → get_or bytes i 0 ∷ get_or bytes (i + 1) 0 ∷ get_or bytes (i + 2) 0 ∷ get_or bytes (i + 2 + 1) 0 ∷ []
    ≡ to_be_bytes w32 n
long_cells bytes fits i {n = n} same =
    let a = fits i in let b = fits (i + 1) in let c = fits (i + 2) in let d = fits (i + 2 + 1) in
    let first : get_or bytes i 0 ≡ n / 256 ^ 3 % 256 = omega (arith, same, a, b, c, d) in
    let second : get_or bytes (i + 1) 0 ≡ n / 256 ^ 2 % 256 = omega (arith, same, a, b, c, d) in
    let third : get_or bytes (i + 2) 0 ≡ n / 256 ^ 1 % 256 = omega (arith, same, a, b, c, d) in
    let fourth : get_or bytes (i + 2 + 1) 0 ≡ n % 256 = omega (arith, same, a, b, c, d) in
    λ k. first k ∷ second k ∷ third k ∷ fourth k ∷ []

-- A list of length 4 consists of its 4 elements.
pub cells_4 : (xs : List ℕ) → length xs ≡ 4 → xs ≡ get_or xs 0 0 ∷ get_or xs 1 0 ∷ get_or xs 2 0 ∷ get_or xs 3 0 ∷ []
cells_4 (a ∷ b ∷ c ∷ d ∷ []) len = refl
cells_4 _ len = absurd (omega arith)

-- A list of length 6 consists of its 6 elements.
pub cells_6 : (xs : List ℕ) → length xs ≡ 6
    → xs ≡ get_or xs 0 0 ∷ get_or xs 1 0 ∷ get_or xs 2 0 ∷ get_or xs 3 0 ∷ get_or xs 4 0 ∷ get_or xs 5 0 ∷ []
cells_6 (a ∷ b ∷ c ∷ d ∷ e ∷ f ∷ []) len = refl
cells_6 _ len = absurd (omega arith)

-- The first part of bytes is bytes.
pub AreBytes-prefix : (a b : List ℕ) → AreBytes (a ++ b) → AreBytes a
AreBytes-prefix a b fits = subst AreBytes (take-append_seam a b) (AreBytes-take (length a) (a ++ b) fits)

-- The second part of bytes is bytes.
pub AreBytes-back : (a b : List ℕ) → AreBytes (a ++ b) → AreBytes b
AreBytes-back a b fits = subst AreBytes (drop-append_seam a b) (AreBytes-drop (length a) (a ++ b) fits)

-- A payload between its header and the trailing bytes is bytes.
pub AreBytes-payload : (bytes prefix payload left : List ℕ) → AreBytes bytes → bytes ≡ (prefix ++ payload) ++ left
    → AreBytes payload
AreBytes-payload bytes prefix payload left fits parts =
    AreBytes-back prefix payload (AreBytes-prefix (prefix ++ payload) left (subst AreBytes parts fits))

-- A flag as a bit is at most 1.
pub bit_le : (flag : Bool) → bit flag ≤ 1
bit_le true = omega arith
bit_le false = omega arith

-- Reading the bit of a flag returns the flag.
pub bit_read : (n : ℕ) (flag : Bool) → n ≡ bit flag → (n == 1) ≡ flag
bit_read n true e = rw e refl
bit_read n false e = rw e refl

-- Reading a bit as a flag and converting it back returns the bit.
pub bit_of_read : (n : ℕ) → n < 2 → bit (n == 1) ≡ n
bit_of_read zero below = refl
bit_of_read (suc zero) below = refl
bit_of_read (suc (suc n)) below = absurd (omega arith)
