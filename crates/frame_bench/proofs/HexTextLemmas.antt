-- Decoding of all characters as digits, with one test at the end.
use Rattle.std.proofs.Common.{◌≡◌, ℕ, ◌+◌, ◌*◌, ◌%◌, ◌<◌, ◌≤◌, Bool, true, if◌then◌else◌, nat_lt, eqb, List, length, take, drop, get_or}
use Rattle.std.proofs.Common.{slice_index, slice_set, unwrap_or, Option, Some, None, Ok, refl, ap, ◌∙◌, inl, inr, arith}
use Rattle.std.specs.Int.Bits.{bit_or}
use Rattle.std.specs.List.{AllPass}
use Rattle.std.proofs.lemmas.Bool.{agree_below_at, cases_lt, eqb-true}
use Rattle.std.proofs.lemmas.Nat.{le_or_l, le_or_r, or_lt}
use Rattle.hex.specs.Hex.{decode_of, decode_pairs, digit_or_error, hex_digit_value, is_hex_digit, lower_digits}
use Rattle.hex.specs.Hex.{pair_value, value_at}
use Rattle.hex.proofs.Pairs.{decode_done, decode_step, prepend}
use Rattle.hex.proofs.HexLemmas.{decode_of-even, decode_of-ok}
use Rattle.std.proofs.lemmas.List.Elements.{All-get_or}
use Rattle.frame_bench.specs.declared.hex_text.TheConstants.{DIGIT_VALUES}

-- ---- the table

-- value of a digit, and 256 for any other byte
abbrev pub table_value : ℕ → ℕ
table_value byte = unwrap_or (hex_digit_value byte) 256

abbrev has_value : ℕ → Bool
has_value byte = eqb (get_or DIGIT_VALUES byte 0) (table_value byte)

pub value-in_table : (byte : ℕ) → byte < 256 → get_or DIGIT_VALUES byte 0 ≡ table_value byte
value-in_table byte below = eqb-true _ _ (agree_below_at has_value (λ _. true) 256 byte refl below)

-- ---- lower case digits

-- digit as it is computed
abbrev pub computed_digit : ℕ → ℕ
computed_digit value = if nat_lt value 10 then 48 + value else 87 + value

abbrev has_digit : ℕ → Bool
has_digit value = eqb (computed_digit value) (slice_index lower_digits value)

pub digit-computed : (value : ℕ) → value < 16 → computed_digit value ≡ slice_index lower_digits value
digit-computed value below = eqb-true _ _ (agree_below_at has_digit (λ _. true) 16 value refl below)

-- ---- pairs of digits

-- A value below 256 is that of a digit.
some_value : (found : Option ℕ) → unwrap_or found 256 < 256 → found ≡ Some (unwrap_or found 256)
some_value (Some value) small = refl
some_value None small = absurd (omega (arith, small))

-- The value of a digit is below 16.
small_value : (byte : ℕ) → is_hex_digit byte ≡ true → table_value byte < 16
small_value byte digit = grind (arith)

-- Two digits represent the byte of their values.
pub pair_read : (high low at : ℕ) → 16 * table_value high + table_value low < 256
    → pair_value high low at ≡ Ok (table_value high * 16 + table_value low)
pair_read high low at small =
    let first : value_at high at ≡ Ok (table_value high) =
    ap (digit_or_error high at) (some_value (hex_digit_value high) (omega (arith, small))) in
    let second : value_at low (at + 1) ≡ Ok (table_value low) =
    ap (digit_or_error low (at + 1)) (some_value (hex_digit_value low) (omega (arith, small))) in
    rw (first, second) refl

-- Holds if after some pairs, if all sums are below 256, the bytes so far are the first bytes of the text, and if one is
-- not, the text does not decode.
pub record IsDecodedTo (text bytes : List ℕ) (at seen : ℕ) : Type 0 where
  pub prefix : seen < 256
      → decode_pairs 0 text ≡ prepend (take at bytes) (decode_pairs (2 * at) (drop (2 * at) text))
  pub other : 256 ≤ seen → AllPass is_hex_digit text → ⊥

-- It holds after one more pair.
pub IsDecodedTo-more : (text bytes : List ℕ) (at seen : ℕ) → length text ≡ 2 * length bytes → at < length bytes
    → IsDecodedTo text bytes at seen
    → (let sum = 16 * table_value (slice_index text (2 * at)) + table_value (slice_index text (2 * at + 1)) in
    IsDecodedTo text (slice_set bytes at (sum % 256)) (at + 1) (bit_or seen sum))
IsDecodedTo-more text bytes at seen long within decoded =
    let high = table_value (slice_index text (2 * at)) in
    let low = table_value (slice_index text (2 * at + 1)) in
    let sum = 16 * high + low in
    record {
      prefix = λ small.
          let small_sum : sum < 256 = omega (arith, small, le_or_r seen sum) in
          let byte : high * 16 + low ≡ sum % 256 = omega (arith, small_sum) in
          decode_step text bytes at (sum % 256) (omega (arith, long, within)) within
          (pair_read (slice_index text (2 * at)) (slice_index text (2 * at + 1)) (2 * at) small_sum ∙ ap Ok byte)
          (decoded.prefix (omega (arith, small, le_or_l seen sum)));
      other = λ great digits.
          let digit = λ (k : ℕ). λ (fits : k < length text).
          small_value (slice_index text k) (All-get_or (λ c. is_hex_digit c ≡ true) text k 0 fits digits) in
          let small_high = digit (2 * at) (omega (arith, long, within)) in
          let small_low = digit (2 * at + 1) (omega (arith, long, within)) in
          elim (cases_lt seen 256) [
            | inl small ↦
                let both = or_lt 8 seen sum small (omega (arith, small_high, small_low)) in
                absurd (omega (arith, great, both))
            | inr before ↦ decoded.other before digits
          ];
    }

-- After all pairs the bytes are the text's.
pub IsDecodedTo-all : (text bytes : List ℕ) (at seen : ℕ) → length text ≡ 2 * length bytes → length bytes ≤ at
    → IsDecodedTo text bytes at seen → seen < 256 → decode_of text ≡ Ok bytes
IsDecodedTo-all text bytes at seen long ended decoded small =
    decode_of-even text (omega (arith, long))
    ∙ decode_done text bytes at ended (omega (arith, long, ended)) (decoded.prefix small)

pub IsDecodedTo-small : (text bytes value : List ℕ) (at seen : ℕ) → IsDecodedTo text bytes at seen
    → decode_of text ≡ Ok value → seen < 256
IsDecodedTo-small text bytes value at seen decoded decodes =
    elim (cases_lt seen 256) [
      | inl small ↦ small
      | inr great ↦ absurd (decoded.other great (decode_of-ok text value decodes).1)
    ]
