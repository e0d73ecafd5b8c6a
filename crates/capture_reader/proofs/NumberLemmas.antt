-- Numbers that are written and read again.
use Rattle.std.proofs.Common.{◌≡◌, ℕ, zero, suc, ◌+◌, ◌-◌, ◌*◌, ◌^◌, ◌<◌, ◌≤◌, List, [], ◌∷◌, ◌++◌, length, take, drop}
use Rattle.std.proofs.Common.{get_or, slice_range, refl, sym, ap, ◌∙◌, add-zero, length-append, length-drop}
use Rattle.std.proofs.Common.{length-take-le, take-append-drop, arith}
use Rattle.std.proofs.lemmas.Grind.{common_steps}
use Rattle.std.proofs.lemmas.List.{get_or-drop, take_at, take-take, drop_at, drop-drop, drop-take}
use Rattle.std.proofs.lemmas.Nat.{be_bytes_2, be_bytes_4, le_bytes_2, le_bytes_4}
use Rattle.std.proofs.lemmas.Nat.{from_be_bytes-to_be_bytes_2, from_be_bytes-to_be_bytes_4}
use Rattle.std.proofs.lemmas.Nat.{from_le_bytes-to_le_bytes_2, from_le_bytes-to_le_bytes_4}
use Rattle.std.specs.Int.{w16, w32, from_be_bytes, from_le_bytes}
use Rattle.ep_base.specs.Bytes.{AreBytes}
use Rattle.ep_base.proofs.BytesLemmas.{elements, drop-elements}
use Rattle.capture_reader.specs.declared.byte_order.ByteOrder.{ByteOrder}
use Rattle.capture_reader.specs.declared.byte_order.ByteOrder.TheVariants.{Big, Little}
use Rattle.capture_reader.specs.Numbers.{four_at, two_at, word16, word16_at, word32, word32_at}

-- ---- numbers of four bytes

pub length-word32 : (order : ByteOrder) (n : ℕ) → length (word32 order n) ≡ 4
unfolding word32
length-word32 Big n = refl
length-word32 Little n = refl

-- A number that is read from four bytes is below 2^32.
pub word32_at-fits : (order : ByteOrder) (bytes : List ℕ) (i : ℕ) → AreBytes bytes → word32_at order bytes i < 2 ^ 32
unfolding word32_at
word32_at-fits Big bytes i fits = omega (arith, fits i, fits (i + 1), fits (i + 2), fits (i + 3))
word32_at-fits Little bytes i fits = omega (arith, fits i, fits (i + 1), fits (i + 2), fits (i + 3))

-- A number that was written is read back.
word32_at-prefix : (order : ByteOrder) (n : ℕ) (rest : List ℕ) → n < 2 ^ 32
    → word32_at order (word32 order n ++ rest) 0 ≡ n
unfolding word32 word32_at
word32_at-prefix Big n rest fits = from_be_bytes-to_be_bytes_4 n fits
word32_at-prefix Little n rest fits = from_le_bytes-to_le_bytes_4 n fits

-- Each of the four bytes at index i is a byte.
four_fit : (bytes : List ℕ) (i : ℕ) → AreBytes bytes → AreBytes (four_at bytes i)
four_fit bytes i fits zero = fits i
four_fit bytes i fits (suc zero) = fits (i + 1)
four_fit bytes i fits (suc (suc zero)) = fits (i + 2)
four_fit bytes i fits (suc (suc (suc zero))) = fits (i + 3)
four_fit bytes i fits (suc (suc (suc (suc k)))) = omega arith

-- A number that was read is written as the four bytes it was read from.
word32_of_read : (order : ByteOrder) (bytes : List ℕ) (i : ℕ) → AreBytes bytes
    → word32 order (word32_at order bytes i) ≡ four_at bytes i
unfolding word32 word32_at
word32_of_read Big bytes i fits = be_bytes_4 (four_at bytes i) _ refl (four_fit bytes i fits) refl
word32_of_read Little bytes i fits = le_bytes_4 (four_at bytes i) _ refl (four_fit bytes i fits) refl

four_at-drop : (bytes : List ℕ) (i : ℕ) → four_at (drop i bytes) 0 ≡ four_at bytes i
four_at-drop bytes i = simp (get_or-drop, add-zero)

-- The bytes from index i on are four bytes and the bytes after them.
drop-four : (bytes : List ℕ) (i : ℕ) → i + 4 ≤ length bytes → drop i bytes ≡ four_at bytes i ++ drop (i + 4) bytes
unfolding elements
drop-four bytes i within =
    let third : i + 1 + 1 ≡ i + 2 = omega arith in
    let fourth : i + 1 + 1 + 1 ≡ i + 3 = omega arith in
    let cells : elements 4 i bytes ≡ four_at bytes i =
    λ j. get_or bytes i 0 ∷ get_or bytes (i + 1) 0 ∷ get_or bytes (third j) 0 ∷ get_or bytes (fourth j) 0 ∷ [] in
    drop-elements 4 i bytes within ∙ ap (λ (s : List ℕ). s ++ drop (i + 4) bytes) cells

-- Reading at index i is reading at the start of the bytes from index i on.
pub word32_at-drop : (order : ByteOrder) (bytes : List ℕ) (i : ℕ) → word32_at order (drop i bytes) 0
    ≡ word32_at order bytes i
unfolding word32_at
word32_at-drop Big bytes i = ap (from_be_bytes w32) (four_at-drop bytes i)
word32_at-drop Little bytes i = ap (from_le_bytes w32) (four_at-drop bytes i)

-- Appended bytes don't change the number at index i.
pub word32_at-more : (order : ByteOrder) (bytes more : List ℕ) (i : ℕ) → i + 4 ≤ length bytes
    → word32_at order (bytes ++ more) i ≡ word32_at order bytes i
unfolding word32_at
word32_at-more Big bytes more i within = grind (arith, common_steps)
word32_at-more Little bytes more i within = grind (arith, common_steps)

-- ---- numbers of two bytes

pub length-word16 : (order : ByteOrder) (n : ℕ) → length (word16 order n) ≡ 2
unfolding word16
length-word16 Big n = refl
length-word16 Little n = refl

word16_at-prefix : (order : ByteOrder) (n : ℕ) (rest : List ℕ) → n < 2 ^ 16
    → word16_at order (word16 order n ++ rest) 0 ≡ n
unfolding word16 word16_at
word16_at-prefix Big n rest fits = from_be_bytes-to_be_bytes_2 n fits
word16_at-prefix Little n rest fits = from_le_bytes-to_le_bytes_2 n fits

two_fit : (bytes : List ℕ) (i : ℕ) → AreBytes bytes → AreBytes (two_at bytes i)
two_fit bytes i fits zero = fits i
two_fit bytes i fits (suc zero) = fits (i + 1)
two_fit bytes i fits (suc (suc k)) = omega arith

word16_of_read : (order : ByteOrder) (bytes : List ℕ) (i : ℕ) → AreBytes bytes
    → word16 order (word16_at order bytes i) ≡ two_at bytes i
unfolding word16 word16_at
word16_of_read Big bytes i fits = be_bytes_2 (two_at bytes i) _ refl (two_fit bytes i fits) refl
word16_of_read Little bytes i fits = le_bytes_2 (two_at bytes i) _ refl (two_fit bytes i fits) refl

two_at-drop : (bytes : List ℕ) (i : ℕ) → two_at (drop i bytes) 0 ≡ two_at bytes i
two_at-drop bytes i = simp (get_or-drop, add-zero)

word16_at-drop : (order : ByteOrder) (bytes : List ℕ) (i : ℕ) → word16_at order (drop i bytes) 0
    ≡ word16_at order bytes i
unfolding word16_at
word16_at-drop Big bytes i = ap (from_be_bytes w16) (two_at-drop bytes i)
word16_at-drop Little bytes i = ap (from_le_bytes w16) (two_at-drop bytes i)

pub word16_at-more : (order : ByteOrder) (bytes more : List ℕ) (i : ℕ) → i + 2 ≤ length bytes
    → word16_at order (bytes ++ more) i ≡ word16_at order bytes i
unfolding word16_at
word16_at-more Big bytes more i within = grind (arith, common_steps)
word16_at-more Little bytes more i within = grind (arith, common_steps)

-- The bytes from index i on are the number of two bytes that is read there, and the bytes after it.
pub word16_prefix : (order : ByteOrder) (bytes : List ℕ) (i : ℕ) → AreBytes bytes → i + 2 ≤ length bytes
    → drop i bytes ≡ word16 order (word16_at order bytes i) ++ drop (i + 2) bytes
unfolding elements
word16_prefix order bytes i fits within =
    drop-elements 2 i bytes within
    ∙ ap (λ (s : List ℕ). s ++ drop (i + 2) bytes) (sym (word16_of_read order bytes i fits))

-- A number of two bytes that was written at index i is read back, and the bytes after it are found.
pub word16_read : (order : ByteOrder) (n i : ℕ) (bytes rest : List ℕ) → n < 2 ^ 16
    → drop i bytes ≡ word16 order n ++ rest → (word16_at order bytes i ≡ n) × (drop (i + 2) bytes ≡ rest)
word16_read order n i bytes rest fits parts = (
  sym (word16_at-drop order bytes i) ∙ ap (λ (s : List ℕ). word16_at order s 0) parts
      ∙ word16_at-prefix order n rest fits,
  sym (drop-drop 2 i bytes) ∙ ap (drop 2) parts ∙ drop_at (word16 order n) rest 2 (length-word16 order n),
)

-- A number of four bytes that was written at index i is read back, and the bytes after it are found.
pub word32_read : (order : ByteOrder) (n i : ℕ) (bytes rest : List ℕ) → n < 2 ^ 32
    → drop i bytes ≡ word32 order n ++ rest → (word32_at order bytes i ≡ n) × (drop (i + 4) bytes ≡ rest)
word32_read order n i bytes rest fits parts = (
  sym (word32_at-drop order bytes i) ∙ ap (λ (s : List ℕ). word32_at order s 0) parts
      ∙ word32_at-prefix order n rest fits,
  sym (drop-drop 4 i bytes) ∙ ap (drop 4) parts ∙ drop_at (word32 order n) rest 4 (length-word32 order n),
)

-- The bytes from index i on are the number of four bytes that is read there, and the bytes after it.
pub word32_prefix : (order : ByteOrder) (bytes : List ℕ) (i : ℕ) → AreBytes bytes → i + 4 ≤ length bytes
    → drop i bytes ≡ word32 order (word32_at order bytes i) ++ drop (i + 4) bytes
word32_prefix order bytes i fits within =
    drop-four bytes i within ∙ ap (λ (s : List ℕ). s ++ drop (i + 4) bytes) (sym (word32_of_read order bytes i fits))

-- A number that is read from two bytes is below 2^16.
pub word16_at-fits : (order : ByteOrder) (bytes : List ℕ) (i : ℕ) → AreBytes bytes → word16_at order bytes i < 2 ^ 16
unfolding word16_at
word16_at-fits Big bytes i fits = omega (arith, fits i, fits (i + 1))
word16_at-fits Little bytes i fits = omega (arith, fits i, fits (i + 1))

-- ---- ranges of bytes

-- The bytes from index i on are the next n bytes and the bytes after them.
pub range_prefix : (bytes : List ℕ) (i n : ℕ) → i + n ≤ length bytes
    → (length (slice_range bytes i (i + n)) ≡ n)
    × (drop i bytes ≡ slice_range bytes i (i + n) ++ drop (i + n) bytes)
range_prefix bytes i n within =
    let size : i + n - i ≡ n = omega arith in
    let after : drop (i + n - i) (drop i bytes) ≡ drop (i + n) bytes =
    ap (λ (k : ℕ). drop k (drop i bytes)) size ∙ drop-drop n i bytes in (
      length-take-le (i + n - i) (drop i bytes) (omega (arith, length-drop i bytes)) ∙ size,
      sym (take-append-drop (i + n - i) (drop i bytes))
          ∙ ap (λ (s : List ℕ). slice_range bytes i (i + n) ++ s) after,
    )

-- Bytes that were written at index i are found there, and the bytes after them.
pub range_read : (bytes prefix rest : List ℕ) (i n : ℕ) → drop i bytes ≡ prefix ++ rest → n ≡ length prefix
    → (slice_range bytes i (i + n) ≡ prefix) × (drop (i + n) bytes ≡ rest)
range_read bytes prefix rest i n parts len = (
  ap (take (i + n - i)) parts ∙ take_at prefix rest (i + n - i) (omega (arith, len)),
  sym (drop-drop n i bytes) ∙ ap (drop n) parts ∙ drop_at prefix rest n (sym len),
)

-- A range of a range is a range.
pub range_within : (bytes : List ℕ) (i j a b : ℕ) → a ≤ b → i + b ≤ j
    → slice_range (slice_range bytes i j) a b ≡ slice_range bytes (i + a) (i + b)
range_within bytes i j a b ordered within =
    let m = j - i - a in
    let complete : j - i ≡ a + m = omega arith in
    let fits : b - a ≤ m = omega arith in
    let size : b - a ≡ i + b - (i + a) = omega arith in
    ap (λ (k : ℕ). take (b - a) (drop a (take k (drop i bytes)))) complete
    ∙ ap (take (b - a)) (drop-take a m (drop i bytes))
    ∙ take-take (b - a) m (drop a (drop i bytes)) fits
    ∙ ap (take (b - a)) (drop-drop a i bytes)
    ∙ ap (λ (k : ℕ). take k (drop (i + a) bytes)) size

-- ---- sequences of numbers of four bytes

-- the bytes of several numbers, and then `rest`
abbrev pub words_then : ByteOrder → List ℕ → List ℕ → List ℕ
words_then order [] rest = rest
words_then order (n ∷ ns) rest = word32 order n ++ words_then order ns rest

-- the sequence of numbers at index i
abbrev pub words_at : ByteOrder → ℕ → ℕ → List ℕ → List ℕ
words_at order zero i bytes = []
words_at order (suc k) i bytes = word32_at order bytes i ∷ words_at order k (i + 4) bytes

-- Each number is below 2^32.
abbrev pub AllFit : List ℕ → Type 0
AllFit [] = Unit {0}
AllFit (n ∷ ns) = (n < 2 ^ 32) × AllFit ns

pub length-words_then : (order : ByteOrder) (ns rest : List ℕ)
    → length (words_then order ns rest) ≡ 4 * length ns + length rest
length-words_then order [] rest = omega arith
length-words_then order (n ∷ ns) rest =
    omega (
      arith,
      length-append (word32 order n) (words_then order ns rest),
      length-word32 order n,
      length-words_then order ns rest,
    )

-- Numbers that were written at index i are read back, and the bytes after them are found.
pub words_read : (order : ByteOrder) (ns : List ℕ) (i : ℕ) (bytes rest : List ℕ) → AllFit ns
    → drop i bytes ≡ words_then order ns rest
    → (words_at order (length ns) i bytes ≡ ns) × (drop (i + 4 * length ns) bytes ≡ rest)
words_read order [] i bytes rest fits parts = (refl, ap (λ (k : ℕ). drop k bytes) (omega arith) ∙ parts)
words_read order (n ∷ ns) i bytes rest fits parts =
    let first : word32_at order bytes i ≡ n =
    sym (word32_at-drop order bytes i) ∙ ap (λ (s : List ℕ). word32_at order s 0) parts
    ∙ word32_at-prefix order n (words_then order ns rest) fits.0 in
    let after : drop (i + 4) bytes ≡ words_then order ns rest =
    sym (drop-drop 4 i bytes) ∙ ap (drop 4) parts
    ∙ drop_at (word32 order n) (words_then order ns rest) 4 (length-word32 order n) in
    let others = words_read order ns (i + 4) bytes rest fits.1 after in (
      λ j. first j ∷ others.0 j,
      ap (λ (k : ℕ). drop k bytes) (omega arith) ∙ others.1,
    )

-- The bytes from index i on are the k numbers that are read there, and the bytes after them.
pub words_prefix : (order : ByteOrder) (k i : ℕ) (bytes : List ℕ) → AreBytes bytes → i + 4 * k ≤ length bytes
    → drop i bytes ≡ words_then order (words_at order k i bytes) (drop (i + 4 * k) bytes)
words_prefix order zero i bytes fits within = ap (λ (k : ℕ). drop k bytes) (omega arith)
words_prefix order (suc k) i bytes fits within =
    let others : drop (i + 4) bytes ≡ words_then order (words_at order k (i + 4) bytes) (drop (i + 4 + 4 * k) bytes) =
    words_prefix order k (i + 4) bytes fits (omega arith) in
    drop-four bytes i (omega arith)
    ∙ ap (λ (s : List ℕ). s ++ drop (i + 4) bytes) (sym (word32_of_read order bytes i fits))
    ∙ ap (λ (s : List ℕ). word32 order (word32_at order bytes i) ++ s) others
    ∙ ap (λ (m : ℕ). words_then order (words_at order (suc k) i bytes) (drop m bytes)) (omega arith)
