-- Lemmas about the one's complement sum of lists of bytes.
use Rattle.std.proofs.Common.{◌≡◌, ℕ, zero, suc, ◌+◌, ◌-◌, ◌*◌, ◌/◌, ◌%◌, ◌^◌, ◌↔◌, ◌<◌, ◌≤◌, List, [], ◌∷◌, ◌++◌, length}
use Rattle.std.proofs.Common.{take, drop, Some, None, refl, ap, sym, ◌∙◌, arith, add_assoc, add_comm, zero-add, length-append}
use Rattle.std.proofs.lemmas.List.{length-take-le, take-append-drop}
use Rattle.std.proofs.lemmas.List.Elements.{All-nil, All-cons, All-head, All-tail}
use Rattle.std.proofs.lemmas.Nat.{and_comm, and_mask, and_mod, and_shr, and-not, from_le_bytes-to_le_bytes_8}
use Rattle.std.specs.Int.Bits.{bit_and, and_zero_r}
use Rattle.std.specs.Int.{w16, w32, w64, w128, from_be_bytes, from_le_bytes, to_be_bytes, to_le_bytes, swap_bytes}
use Rattle.std.specs.List.{All}
use Rattle.ep_base.specs.Checksum.{word_sum, residue, ones_sum, ones_add, checksum_of}
use Rattle.ep_base.proofs.ResidueLemmas.{residue_unique, residue_part, residue_last, residue_beside, residue_times_256}
use Rattle.ep_base.proofs.ResidueLemmas.{residue_split, residue_le, residue_zero}

-- The word sum of a concatenation is the sum of both word sums, if the first part has an even length.
pub word_sum-append : (a b : List ℕ) → length a % 2 ≡ 0 → word_sum (a ++ b) ≡ word_sum a + word_sum b
word_sum-append [] b p = omega arith
word_sum-append (x ∷ []) b p = absurd (omega arith)
word_sum-append (x ∷ y ∷ a) b p =
    let q : length a % 2 ≡ 0 = omega arith in
    omega (arith, word_sum-append a b q)

pub ones_sum-append : (a b : List ℕ) → length a % 2 ≡ 0 → ones_sum (a ++ b) ≡ ones_add (ones_sum a) (ones_sum b)
unfolding ones_sum ones_add
ones_sum-append a b p =
    ap residue (word_sum-append a b p) ∙ sym (residue_part (word_sum a) (word_sum b))
    ∙ sym (residue_last (residue (word_sum a)) (word_sum b))

-- The sum of an even number of bytes, plus the sum of more bytes, is the sum of all of them.
pub sum_more : (prefix back : List ℕ) (n m : ℕ) → n ≡ ones_sum prefix → length prefix % 2 ≡ 0
    → m ≡ ones_add n (ones_sum back) → m ≡ ones_sum (prefix ++ back)
sum_more prefix back n m sum even more =
    more ∙ ap (λ (k : ℕ). ones_add k (ones_sum back)) sum ∙ sym (ones_sum-append prefix back even)

pub ones_add-comm : (a b : ℕ) → ones_add a b ≡ ones_add b a
unfolding ones_add
ones_add-comm a b = ap residue (add_comm a b)

pub ones_add-assoc : (a b c : ℕ) → ones_add (ones_add a b) c ≡ ones_add a (ones_add b c)
unfolding ones_add
ones_add-assoc a b c =
    residue_part (a + b) c ∙ ap residue (add_assoc a b c) ∙ sym (residue_last a (b + c))

-- A big-endian number has the residue of the sum of its words.
pub words_of_16 : (bytes : List ℕ) → length bytes ≡ 2 → residue (from_be_bytes w16 bytes) ≡ residue (word_sum bytes)
words_of_16 (a ∷ b ∷ []) p = residue_unique _ _ 0 0 (omega arith) (λ z. omega arith) (λ z. omega arith)
words_of_16 _ p = absurd (omega arith)

pub words_of_32 : (bytes : List ℕ) → length bytes ≡ 4 → residue (from_be_bytes w32 bytes) ≡ residue (word_sum bytes)
words_of_32 (a ∷ b ∷ c ∷ d ∷ []) p =
    residue_unique _ _ 0 (256 * a + b) (omega arith) (λ z. omega arith) (λ z. omega arith)
words_of_32 _ p = absurd (omega arith)

pub words_of_64 : (bytes : List ℕ) → length bytes ≡ 8 → residue (from_be_bytes w64 bytes) ≡ residue (word_sum bytes)
words_of_64 (a ∷ b ∷ c ∷ d ∷ e ∷ f ∷ g ∷ h ∷ []) p =
    let carried = 4295032833 * (256 * a + b) + 65537 * (256 * c + d) + (256 * e + f) in
    residue_unique _ _ 0 carried (omega arith) (λ z. omega arith) (λ z. omega arith)
words_of_64 _ p = absurd (omega arith)

pub words_of_128 : (bytes : List ℕ) → length bytes ≡ 16
    → residue (from_be_bytes w128 bytes) ≡ residue (word_sum bytes)
words_of_128 (a ∷ b ∷ c ∷ d ∷ e ∷ f ∷ g ∷ h ∷ i ∷ j ∷ k ∷ l ∷ m ∷ n ∷ o ∷ p ∷ []) _ =
    let upper = 79229371458530977775699951617 * (256 * a + b) + 1208944266640182156001281 * (256 * c + d) in
    let middle = 18447025552981295105 * (256 * e + f) + 281479271743489 * (256 * g + h) in
    let carried = upper + middle + 4295032833 * (256 * i + j) + 65537 * (256 * k + l) + (256 * m + n) in
    residue_unique _ _ 0 carried (omega arith) (λ z. omega arith) (λ z. omega arith)
words_of_128 _ q = absurd (omega arith)

-- A little-endian 64 bit number times 256 has the residue of the sum of its words.
pub turned_of_64 : (bytes : List ℕ) → length bytes ≡ 8
    → residue (256 * from_le_bytes w64 bytes) ≡ residue (word_sum bytes)
turned_of_64 (a ∷ b ∷ c ∷ d ∷ e ∷ f ∷ g ∷ h ∷ []) _ =
    let carried = b + 256 * c + 65537 * d + 16777472 * e + 4295032833 * f + 1099528405248 * g + 281479271743489 * h in
    residue_unique _ _ 0 carried (omega arith) (λ z. omega arith) (λ z. omega arith)
turned_of_64 _ q = absurd (omega arith)

-- The upper and lower 64 bits of a number of 128 bits; their sum has the number's residue.
low_half : (n : ℕ) → n ≡ 18446744073709551616 * (n / 18446744073709551616) + bit_and n 18446744073709551615
low_half n =
    let low : bit_and n 18446744073709551615 ≡ n % 18446744073709551616 = and_mask n 64 in
    omega arith

pub residue_halves : (n : ℕ) → residue (n / 18446744073709551616 + bit_and n 18446744073709551615) ≡ residue n
residue_halves n =
    let complete = low_half n in
    let carried = 281479271743489 * (n / 18446744073709551616) in
    residue_unique _ _ carried 0 (omega arith) (λ z. omega arith) (λ z. omega arith)

-- A 64 bit number with swapped bytes has the residue of 256 times the number.
pub turned_bytes : (n : ℕ) → n < 2 ^ 64 → residue (swap_bytes w64 n) ≡ residue (256 * n)
turned_bytes n fits =
    let bytes = to_le_bytes w64 n in
    words_of_64 bytes refl ∙ sym (turned_of_64 bytes refl)
    ∙ ap (λ x. residue (256 * x)) (from_le_bytes-to_le_bytes_8 n fits)

-- A 64 bit number is the sum of its bytes at even positions and of its bytes at odd positions times 256. The mask
-- 71777214294589695 selects the lower byte of each 16 bits.
pub even_and_odd : (n : ℕ) → n < 2 ^ 64
    → n ≡ bit_and n 71777214294589695 + 256 * bit_and (n / 256) 71777214294589695
even_and_odd n fits =
    let mask : ℕ = 71777214294589695 in
    let upper = bit_and n 18374966859414961920 in
    let complete : upper + bit_and n mask ≡ n =
    rw (and_comm n 18374966859414961920, and_comm n mask) (and-not 64 mask n (omega arith) fits) in
    let shifted : upper / 256 ≡ bit_and (n / 256) mask = and_shr n 18374966859414961920 8 in
    let none : upper % 256 ≡ 0 = and_mod n 18374966859414961920 8 ∙ and_zero_r (n % 256) in
    omega arith

pub turned_even_and_odd : (n : ℕ) (bytes : List ℕ) → length bytes ≡ 8 → n ≡ from_le_bytes w64 bytes → n < 2 ^ 64
    → residue (256 * bit_and n 71777214294589695 + bit_and (n / 256) 71777214294589695) ≡ residue (word_sum bytes)
turned_even_and_odd n bytes long e fits =
    let complete = even_and_odd n fits in
    residue_unique _ (256 * n) (bit_and (n / 256) 71777214294589695) 0 (omega arith) (λ z. omega arith)
    (λ z. omega arith)
    ∙ ap (λ x. residue (256 * x)) e ∙ turned_of_64 bytes long

-- Sums of the bytes at even and at odd positions can be combined by their lower and upper bytes.
pub joined_even_and_odd : (even odd lower upper low high : ℕ) → even < 2 ^ 64 → odd < 2 ^ 64 → lower < 2 ^ 64
    → upper < 2 ^ 64 → lower ≡ bit_and even 71777214294589695 + bit_and odd 71777214294589695 * 256
    → upper ≡ bit_and (even / 256) 71777214294589695 + bit_and (odd / 256) 71777214294589695 * 256
    → low ≡ swap_bytes w64 lower → high ≡ swap_bytes w64 upper
    → residue (low + high * 256) ≡ residue (256 * even + odd)
joined_even_and_odd even odd lower upper low high even_fits odd_fits lower_fits upper_fits lower_is upper_is low_is high_is =
    let order : residue (low + high * 256) ≡ residue (256 * high + low) = ap residue (omega arith) in
    let upper_turned = residue_times_256 high (256 * upper) (ap residue high_is ∙ turned_bytes upper upper_fits) in
    let back : residue (256 * (256 * upper) + low) ≡ residue (low + 256 * (256 * upper)) = ap residue (omega arith) in
    let lower_turned = ap residue low_is ∙ turned_bytes lower lower_fits in
    let evens = even_and_odd even even_fits in
    let odds = even_and_odd odd odd_fits in
    let carried = bit_and odd 71777214294589695 + 256 * bit_and (odd / 256) 71777214294589695 in
    order ∙ residue_beside (256 * high) (256 * (256 * upper)) low upper_turned ∙ back
    ∙ residue_beside low (256 * lower) (256 * (256 * upper)) lower_turned
    ∙ residue_unique (256 * lower + 256 * (256 * upper)) (256 * even + odd) 0 carried (omega arith) (λ z. omega arith)
    (λ z. omega arith)

-- A number with the residue of a word sum can be added to a sum before the rest is added.
pub sum_with_word : (sum word new rest words : ℕ) → residue new ≡ residue (sum + word) → residue word ≡ residue words
    → residue (new + rest) ≡ residue (sum + (words + rest))
sum_with_word sum word new rest words e w =
    let turn : residue (sum + word + rest) ≡ residue (word + (sum + rest)) = ap residue (omega arith) in
    let back : residue (words + (sum + rest)) ≡ residue (sum + (words + rest)) = ap residue (omega arith) in
    residue_beside new (sum + word) rest e ∙ turn ∙ residue_beside word words (sum + rest) w ∙ back

-- The first n bytes of the rest can be added to a sum before the bytes after them are added.
pub sum_with_piece : (n sum word new : ℕ) (piece after rest : List ℕ) → n % 2 ≡ 0
    → (piece ≡ take n rest) × (after ≡ drop n rest) × (length after + n ≡ length rest)
    → residue new ≡ residue (sum + word) → (length piece ≡ n → residue word ≡ residue (word_sum piece))
    → residue (new + word_sum after) ≡ residue (sum + word_sum rest)
sum_with_piece n sum word new piece after rest even cut e w =
    let within : n ≤ length rest = omega (arith, cut.2) in
    let long : length piece ≡ n = ap length cut.0 ∙ length-take-le n rest within in
    let complete : piece ++ after ≡ rest = rw (cut.0, cut.1, take-append-drop) refl in
    let words = sym (word_sum-append piece after (ap (λ x. x % 2) long ∙ even)) ∙ ap word_sum complete in
    sum_with_word sum word new (word_sum after) (word_sum piece) e (w long) ∙ ap (λ x. residue (sum + x)) words

-- The last bytes can be added to a sum as a number with their residue.
pub sum_with_last : (sum word new words : ℕ) → residue new ≡ residue (sum + word) → residue word ≡ residue words
    → residue new ≡ residue (sum + words)
sum_with_last sum word new words e w =
    e ∙ sym (residue_last sum word) ∙ ap (λ x. residue (sum + x)) w ∙ residue_last sum words

-- Adding a word sum to a sum is the one's complement addition of both.
pub ones_add-words : (sum : ℕ) (bytes : List ℕ)
    → residue (sum + word_sum bytes) ≡ ones_add (residue sum) (ones_sum bytes)
unfolding ones_add ones_sum
ones_add-words sum bytes =
    sym (residue_last sum (word_sum bytes)) ∙ sym (residue_part sum (residue (word_sum bytes)))

-- Adding a sum to the sum of no bytes returns it unchanged.
pub ones_add-none : (bytes : List ℕ) → ones_add 0 (ones_sum bytes) ≡ ones_sum bytes
unfolding ones_add ones_sum
ones_add-none bytes = residue_last 0 (word_sum bytes) ∙ ap residue (zero-add (word_sum bytes))

-- ---- laws

pub ones_sum-mod : (bytes : List ℕ) → ones_sum bytes % 65535 ≡ word_sum bytes % 65535
unfolding ones_sum
ones_sum-mod bytes =
    let s = residue_split (word_sum bytes) in
    omega (arith, s.1)

pub ones_sum_le : (bytes : List ℕ) → ones_sum bytes ≤ 65535
unfolding ones_sum
ones_sum_le bytes = residue_le (word_sum bytes)

abbrev IsZero : ℕ → Type 0
IsZero byte = byte ≡ 0

word_sum_zero : (bytes : List ℕ) → word_sum bytes ≡ 0 → All IsZero bytes
word_sum_zero [] z = All-nil IsZero
word_sum_zero (x ∷ []) z = All-cons IsZero x [] (omega arith) (All-nil IsZero)
word_sum_zero (x ∷ y ∷ bytes) z =
    All-cons IsZero x (y ∷ bytes) (omega arith)
    (All-cons IsZero y bytes (omega arith) (word_sum_zero bytes (omega arith)))

zeros_word_sum : (bytes : List ℕ) → All IsZero bytes → word_sum bytes ≡ 0
zeros_word_sum [] z = refl
zeros_word_sum (x ∷ []) z =
    let first : x ≡ 0 = All-head IsZero x [] z in
    omega arith
zeros_word_sum (x ∷ y ∷ bytes) z =
    let first : x ≡ 0 = All-head IsZero x (y ∷ bytes) z in
    let tail = All-tail IsZero x (y ∷ bytes) z in
    let second : y ≡ 0 = All-head IsZero y bytes tail in
    let rest : word_sum bytes ≡ 0 = zeros_word_sum bytes (All-tail IsZero y bytes tail) in
    omega arith

pub ones_sum-zero : (bytes : List ℕ) → (ones_sum bytes ≡ 0) ↔ All IsZero bytes
unfolding ones_sum
ones_sum-zero bytes =
    (λ z. word_sum_zero bytes (residue_zero (word_sum bytes) z), λ z. ap residue (zeros_word_sum bytes z))

-- The concatenation of parts of even length has an even length.
even_append : (a b : List ℕ) → length a % 2 ≡ 0 → length b % 2 ≡ 0 → length (a ++ b) % 2 ≡ 0
even_append a b p q = omega (arith, length-append a b)

pub ones_sum-exchange : (a b back : List ℕ) → length a % 2 ≡ 0 → length b % 2 ≡ 0
    → ones_sum ((a ++ b) ++ back) ≡ ones_sum ((b ++ a) ++ back)
unfolding ones_sum
ones_sum-exchange a b back p q =
    let fronts = word_sum-append a b p ∙ add_comm (word_sum a) (word_sum b) ∙ sym (word_sum-append b a q) in
    ap residue
    (word_sum-append (a ++ b) back (even_append a b p q) ∙ ap (λ x. x + word_sum back) fronts
    ∙ sym (word_sum-append (b ++ a) back (even_append b a q p)))

-- The word sum of two parts with a word between them.
word_sum-between : (prefix back : List ℕ) (upper lower : ℕ) → length prefix % 2 ≡ 0
    → word_sum ((prefix ++ upper ∷ lower ∷ []) ++ back) ≡ word_sum prefix + (256 * upper + lower) + word_sum back
word_sum-between prefix back upper lower p =
    let word = upper ∷ lower ∷ [] in
    omega (arith, word_sum-append (prefix ++ word) back (even_append prefix word p refl), word_sum-append prefix word p)

pub ones_sum-word : (prefix back : List ℕ) (upper lower : ℕ) → length prefix % 2 ≡ 0
    → ones_sum ((prefix ++ upper ∷ lower ∷ []) ++ back)
    ≡ ones_add (ones_sum ((prefix ++ 0 ∷ 0 ∷ []) ++ back)) (ones_sum (upper ∷ lower ∷ []))
unfolding ones_sum
ones_sum-word prefix back upper lower p =
    ap residue (omega (arith, word_sum-between prefix back upper lower p, word_sum-between prefix back 0 0 p))
    ∙ ones_add-words (word_sum ((prefix ++ 0 ∷ 0 ∷ []) ++ back)) (upper ∷ lower ∷ [])

pub ones_sum-checksum : (prefix back : List ℕ) → length prefix % 2 ≡ 0
    → ones_sum ((prefix ++ to_be_bytes w16 (checksum_of ((prefix ++ 0 ∷ 0 ∷ []) ++ back))) ++ back) ≡ 65535
unfolding ones_sum
ones_sum-checksum prefix back p =
    let zeros = (prefix ++ 0 ∷ 0 ∷ []) ++ back in
    let sum = word_sum zeros in
    let checksum = 65535 - residue sum in
    let split = residue_split sum in
    let bound = residue_le sum in
    let filled = word_sum-between prefix back (checksum / 256 % 256) (checksum % 256) p in
    let empty = word_sum-between prefix back 0 0 p in
    let complete : word_sum ((prefix ++ checksum / 256 % 256 ∷ checksum % 256 ∷ []) ++ back) ≡ sum + checksum =
    omega (arith, filled, empty) in
    ap residue complete
    ∙ residue_unique (sum + checksum) 65535 0 split.0 (omega (arith, split.1)) (λ z. omega (arith, split.1))
    (λ z. omega arith)

pub ruleset parts_of_sums = (ones_sum-append, ones_add-none, length-append)
