-- Lemmas about values: numbers as text.
use Rattle.std.proofs.Common.{◌≡◌, ℕ, ◌+◌, ◌^◌, ◌<◌, ◌≤◌, ◌⊎◌, inl, inr, Bool, true, false, ◌&&◌, ◌==◌, nat_lt, List, [], ◌∷◌, ◌++◌, length}
use Rattle.std.proofs.Common.{append_assoc, ap₂, subst₂, min, max, not, ◌||◌, take, length-append, drop, get_or, slice_index, Option, Some, None, IfSome, SomeIff, refl, ap, ◌∙◌, sym, subst, arith, codes, decimal, eq-eqb, ne_eqb, eqb-true, le-ltb, lt-ltb, lt_of_not-le, lt_of_lt_of_le, lit<, lit≤, cond, zero, suc, IsAscii, IsUtf8}
use Rattle.std.specs.Char.{digit_value}
use Rattle.std.specs.List.{after_first, before_first, list_any, position_or_len}
use Rattle.std.proofs.Math.Seq.{drop-append-add, take-append_seam}
use Rattle.std.proofs.lemmas.List.Sums.{prefix_len_stops, split_at_first}
use Rattle.std.specs.Str.Parse.{AllDigits, IsNumeral, digits_value}
use Rattle.std.proofs.lemmas.Fmt.{decimal-digits_value, decimal_digit, decimal_is_IsNumeral, first_decimal}
use Rattle.std.proofs.lemmas.Int.Digits.{digits_value-lt}
use Rattle.std.proofs.lemmas.Str.{IsUtf8-from_ascii}
use Rattle.std.proofs.lemmas.Str.Parse.{numerals_by_value, tells_digits}
use Rattle.filter_tokens.specs.declared.primitive.Width.{Width}
use Rattle.filter_tokens.specs.declared.primitive.Width.TheVariants.{One, Two, Four}
use Rattle.filter_tokens.specs.Values.{IsAfterHexadecimalMark, IsDecimal, IsNumberText, IsOctet, IsOctets, IsRangeText, IsSizeText, most_number}

-- ---- decimal numbers

not_both : (b : Bool) → b ≡ true → b ≡ false → ⊥
not_both b holds fails = let clash : true ≡ false = sym holds ∙ fails in cc

and_true : (b c : Bool) → b ≡ true → c ≡ true → (b && c) ≡ true
and_true true c holds is = is
and_true false c holds is = let never : ⊥ = cc in absurd never

-- A text of two bytes or more that begins with `0`.
abbrev pub leads : List ℕ → Bool
leads text = nat_lt 1 (length text) && (slice_index text 0 == 48)

one_if_zero : (text : List ℕ) → 0 < length text → leads text ≡ false → get_or text 0 0 ≡ 48 → length text ≡ 1
one_if_zero [] some fails first_is = absurd (omega (arith, some))
one_if_zero (first ∷ []) some fails first_is = refl
one_if_zero (first ∷ second ∷ text) some fails first_is =
    absurd (not_both (leads (first ∷ second ∷ text))
    (and_true _ _ (lt-ltb 1 (length (first ∷ second ∷ text)) (omega arith)) (eq-eqb first 48 first_is)) fails)

-- Digits without a leading zero are the text of their value.
pub decimal_text : (text : List ℕ) → IsNumeral 10 text → leads text ≡ false → digits_value 10 text ≤ most_number
    → IsDecimal most_number text (digits_value 10 text)
decimal_text text numeral fails small = (
  sym (decimal-digits_value (numerals_by_value _ tells_digits) text numeral.1 numeral.0
      (one_if_zero text numeral.0 fails) (omega (arith, small))),
  small,
)

and_false : (b c : Bool) → c ≡ false → (b && c) ≡ false
and_false true c is = is
and_false false c is = refl

leads_not : (number : ℕ) → number < 2 ^ 64 → leads (decimal number) ≡ false
leads_not zero small = ap leads (decimal_digit 0 (lit< tt))
leads_not (suc number) small =
    let greater = first_decimal (suc number) (omega arith) small in
    and_false _ _ (ne_eqb (get_or (decimal (suc number)) 0 0) 48 (λ same. omega (arith, same, greater)))

-- The text of a number consists of its digits.
pub decimal_digits : (most : ℕ) (text : List ℕ) (number : ℕ) → most < 2 ^ 64 → IsDecimal most text number
    → IsNumeral 10 text × (digits_value 10 text ≡ number) × (leads text ≡ false)
decimal_digits most text number bound is =
    let fits : number < 2 ^ 64 = omega (arith, is.1, bound) in
    let present = decimal_is_IsNumeral number fits in
    subst (λ t. IsNumeral 10 t × (digits_value 10 t ≡ number) × (leads t ≡ false)) (sym is.0)
    (present.0, present.1, leads_not number fits)

-- A text with a leading zero is no decimal number.
pub no_decimal : (text : List ℕ) (number : ℕ) → leads text ≡ true → IsDecimal most_number text number → ⊥
no_decimal text number holds is =
    not_both (leads text) holds (decimal_digits most_number text number (lit< tt) is).2

-- The number that digits without a leading zero are.
pub decimal_number : (text : List ℕ) (result : Option ℕ) → leads text ≡ false
    → SomeIff result (IsNumeral 10 text × (digits_value 10 text ≤ most_number)) (digits_value 10 text)
    → IfSome result (λ value. IsDecimal most_number text value)
    × ((value : ℕ) → IsDecimal most_number text value → result ≡ Some value)
decimal_number text None fails refused = (
  tt,
  λ value is.
      let digits = decimal_digits most_number text value (lit< tt) is in
      absurd (refused (digits.0, omega (arith, digits.1, is.1))),
)
decimal_number text (Some number) fails answer = (
  subst (λ n. IsDecimal most_number text n) (sym answer.1) (decimal_text text answer.0.0 fails answer.0.1),
  λ value is.
      let digits = decimal_digits most_number text value (lit< tt) is in ap Some (answer.1 ∙ digits.1),
)

-- ---- hexadecimal numbers

pub rest_after : (text digits : List ℕ) → IsAfterHexadecimalMark text digits → digits ≡ drop 2 text
rest_after text digits (inl is) = sym (ap (drop 2) is)
rest_after text digits (inr is) = sym (ap (drop 2) is)

no_mark : (most first second : ℕ) (text digits : List ℕ) (number : ℕ) → most < 2 ^ 64 → 10 ≤ digit_value second
    → text ≡ first ∷ second ∷ digits → IsDecimal most text number → ⊥
no_mark most first second text digits number bound large is stated =
    let all = subst (AllDigits 10) is (decimal_digits most text number bound stated).0.1 in omega (arith, all.1.0, large)

-- A text with a hexadecimal mark is no decimal number.
pub no_decimal_mark : (most : ℕ) (text digits : List ℕ) (number : ℕ) → most < 2 ^ 64
    → IsAfterHexadecimalMark text digits → IsDecimal most text number → ⊥
no_decimal_mark most text digits number bound (inl is) stated =
    no_mark most 48 120 text digits number bound (lit≤ tt) is stated
no_decimal_mark most text digits number bound (inr is) stated =
    no_mark most 48 88 text digits number bound (lit≤ tt) is stated

number_digits : (text digits : List ℕ) (value : ℕ) → IsAfterHexadecimalMark text digits
    → IsNumberText most_number text value
    → IsNumeral 16 digits × (digits_value 16 digits ≤ most_number) × (digits_value 16 digits ≡ value)
number_digits text digits value mark (inl stated) =
    absurd (no_decimal_mark most_number text digits value (lit< tt) mark stated)
number_digits text digits value mark (inr (other, other_mark, numeral, is, small)) =
    let same : other ≡ digits = rest_after text other other_mark ∙ sym (rest_after text digits mark) in
    subst (λ d. IsNumeral 16 d × (digits_value 16 d ≤ most_number) × (digits_value 16 d ≡ value)) same
    (numeral, omega (arith, is, small), is)

-- The number that a text with a hexadecimal mark is.
pub hexadecimal_number : (text digits : List ℕ) (result : Option ℕ) → IsAfterHexadecimalMark text digits
    → SomeIff result (IsNumeral 16 digits × (digits_value 16 digits ≤ most_number)) (digits_value 16 digits)
    → IfSome result (λ value. IsNumberText most_number text value)
    × ((value : ℕ) → IsNumberText most_number text value → result ≡ Some value)
hexadecimal_number text digits None mark refused =
    (tt, λ value stated. let present = number_digits text digits value mark stated in absurd (refused (present.0, present.1)))
hexadecimal_number text digits (Some number) mark answer = (
  inr (digits, mark, answer.0.0, sym answer.1, omega (arith, answer.0.1, answer.1)),
  λ value stated. ap Some (answer.1 ∙ (number_digits text digits value mark stated).2),
)

-- A text without a hexadecimal mark is no number but a decimal one.
pub decimal_if_no_mark : (most : ℕ) (text : List ℕ) (value : ℕ)
    → ((digits : List ℕ) → IsAfterHexadecimalMark text digits → ⊥) → IsNumberText most text value
    → IsDecimal most text value
decimal_if_no_mark most text value none (inl is) = is
decimal_if_no_mark most text value none (inr (digits, mark, numeral, is, small)) = absurd (none digits mark)

-- ---- digits

choose : {A : Type 0} (b : Bool) (x y z : A) → b ≡ false → y ≡ z → cond b x y ≡ z
choose true x y z fails is = let never : ⊥ = cc in absurd never
choose false x y z fails is = is

digit_value_past : (c : ℕ) → 123 ≤ c → digit_value c ≡ 36
digit_value_past c past =
    choose _ _ _ _ (le-ltb c 48 (omega arith)) (choose _ _ _ _ (le-ltb c 58 (omega arith))
    (choose _ _ _ _ (le-ltb c 65 (omega arith)) (choose _ _ _ _ (le-ltb c 91 (omega arith))
    (choose _ _ _ _ (le-ltb c 97 (omega arith)) (choose _ _ _ _ (le-ltb c 123 past) refl)))))

digit_is_ascii : (c : ℕ) → digit_value c < 36 → c < 128
digit_is_ascii c small =
    lt_of_not-le (λ large. let past : digit_value c ≡ 36 = digit_value_past c (omega (arith, large)) in
    omega (arith, past, small))

digits_are_ascii : (radix : ℕ) (digits : List ℕ) → radix ≤ 16 → AllDigits radix digits → IsAscii digits
digits_are_ascii radix [] high all i = omega arith
digits_are_ascii radix (c ∷ digits) high all zero = digit_is_ascii c (omega (arith, all.0, high))
digits_are_ascii radix (c ∷ digits) high all (suc i) = digits_are_ascii radix digits high all.1 i

-- Digits are UTF-8.
pub numeral_is_utf8 : (radix : ℕ) (text : List ℕ) → radix ≤ 16 → IsNumeral radix text → IsUtf8 text
numeral_is_utf8 radix text high numeral = IsUtf8-from_ascii text (digits_are_ascii radix text high numeral.1)

-- ---- numbers up to a bound

pub number_up_to : (low most : ℕ) (text : List ℕ) (value : ℕ) → IsNumberText most text value → value ≤ low
    → IsNumberText low text value
number_up_to low most text value (inl is) small = inl (is.0, small)
number_up_to low most text value (inr (digits, mark, numeral, is, large)) small = inr (digits, mark, numeral, is, small)

pub number_bound : (most : ℕ) (text : List ℕ) (value : ℕ) → IsNumberText most text value → value ≤ most
number_bound most text value (inl is) = is.1
number_bound most text value (inr (digits, mark, numeral, is, small)) = small

pub none_is_some : {A : Type 0} {x : A} → None ≡ Some x → ⊥
none_is_some is = let never : ⊥ = cc in never

-- A number up to a lower bound is one up to `most_number`.
wide : (low : ℕ) (text : List ℕ) (value : ℕ) → low ≤ most_number → IsNumberText low text value
    → IsNumberText most_number text value
wide low text value bound is =
    number_up_to most_number low text value is (omega (arith, bound, number_bound low text value is))

-- A text that is read as no number is none up to a lower bound.
pub not_narrow : (low : ℕ) (text : List ℕ) (value : ℕ) → low ≤ most_number
    → ((n : ℕ) → IsNumberText most_number text n → None ≡ Some n) → IsNumberText low text value → ⊥
not_narrow low text value bound only is = none_is_some (only value (wide low text value bound is))

-- The number that is read is the number of the text.
pub narrow_is : (low : ℕ) (text : List ℕ) (number value : ℕ) → low ≤ most_number
    → ((n : ℕ) → IsNumberText most_number text n → Some number ≡ Some n) → IsNumberText low text value
    → number ≡ value
narrow_is low text number value bound only is =
    let same : Some number ≡ Some value = only value (wide low text value bound is) in cc

-- The result of narrowing a number that fits.
pub narrow_result : (low number value : ℕ) (result : Option ℕ) → SomeIff result (number ≤ low) number
    → number ≡ value → value ≤ low → result ≡ Some value
narrow_result low number value None refused same small = absurd (refused (omega (arith, same, small)))
narrow_result low number value (Some n) answer same small = ap Some (answer.1 ∙ same)

-- A text that is no name is a number, if it is either.
pub not_named : {A : Type 0} (found : Option ℕ) (value : ℕ) → found ≡ None
    → (found ≡ Some value) ⊎ ((found ≡ None) × A) → A
not_named found value missing (inl is) = absurd (none_is_some (sym missing ∙ is))
not_named found value missing (inr (same, a)) = a

-- ---- sizes

abbrev pub bytes_of : Width → ℕ
bytes_of One = 1
bytes_of Two = 2
bytes_of Four = 4

pub size_number : (text : List ℕ) (width : Width) → IsSizeText text width
    → IsNumberText most_number text (bytes_of width)
size_number text One is = is
size_number text Two is = is
size_number text Four is = is

-- The number that is read of a size.
pub size_is : (text : List ℕ) (number : ℕ) (width : Width)
    → ((n : ℕ) → IsNumberText most_number text n → Some number ≡ Some n) → IsSizeText text width
    → number ≡ bytes_of width
size_is text number width only is =
    let same : Some number ≡ Some (bytes_of width) = only (bytes_of width) (size_number text width is) in cc

pub no_size : (text : List ℕ) (width : Width) → ((n : ℕ) → IsNumberText most_number text n → None ≡ Some n)
    → IsSizeText text width → ⊥
no_size text width only is = none_is_some (only (bytes_of width) (size_number text width is))

pub is_one : (width : Width) → 1 ≡ bytes_of width → One ≡ width
is_one One is = refl
is_one Two is = absurd (omega (arith, is))
is_one Four is = absurd (omega (arith, is))

pub is_two : (width : Width) → 2 ≡ bytes_of width → Two ≡ width
is_two One is = absurd (omega (arith, is))
is_two Two is = refl
is_two Four is = absurd (omega (arith, is))

pub is_four : (width : Width) → 4 ≡ bytes_of width → Four ≡ width
is_four One is = absurd (omega (arith, is))
is_four Two is = absurd (omega (arith, is))
is_four Four is = refl

pub is_other : (number : ℕ) (width : Width) → number ≡ bytes_of width → (number ≡ 1 → ⊥) → (number ≡ 2 → ⊥)
    → (number ≡ 4 → ⊥) → ⊥
is_other number One is one two four = one is
is_other number Two is one two four = two is
is_other number Four is one two four = four is

-- ---- octets

-- Two hexadecimal digits are below 256.
pub octet_small : (text : List ℕ) → AllDigits 16 text → length text ≤ 2 → digits_value 16 text < 256
octet_small [] all short = lit< tt
octet_small (a ∷ []) all short = lt_of_lt_of_le (digits_value-lt 16 (a ∷ []) all) (lit≤ tt)
octet_small (a ∷ b ∷ []) all short = lt_of_lt_of_le (digits_value-lt 16 (a ∷ b ∷ []) all) (lit≤ tt)
octet_small (a ∷ b ∷ c ∷ text) all short = absurd (omega (arith, short))

-- ---- texts with a separator

not_false : (b : Bool) → not b ≡ false → b ≡ true
not_false true is = refl
not_false false is = let never : ⊥ = cc in absurd never

-- A text consists of the bytes before its first separator, the separator, and the bytes after it.
pub split_is : (separator : ℕ) (text : List ℕ) → position_or_len (λ b. b == separator) text < length text
    → text ≡ before_first (λ b. b == separator) text ++ separator ∷ after_first (λ b. b == separator) text
split_is separator text inside =
    let stops = prefix_len_stops (λ b. not (b == separator)) text 0 inside in
    let here : get_or text (position_or_len (λ b. b == separator) text) 0 ≡ separator =
    eqb-true _ _ (not_false _ stops) in
    split_at_first (λ b. b == separator) text 0 inside
    ∙ ap (λ b. before_first (λ b. b == separator) text ++ b ∷ after_first (λ b. b == separator) text) here

or_false : (b c : Bool) → (b || c) ≡ false → (b ≡ false) × (c ≡ false)
or_false true c is = let never : ⊥ = cc in absurd never
or_false false c is = (refl, is)

place_after : (separator : ℕ) (first rest : List ℕ) → list_any (λ b. b == separator) first ≡ false
    → position_or_len (λ b. b == separator) (first ++ separator ∷ rest) ≡ length first
place_after separator [] rest none =
    ap (λ b. cond (not b) (1 + position_or_len (λ b. b == separator) rest) 0) (eq-eqb separator separator refl)
place_after separator (byte ∷ first) rest none =
    let (other, others) = or_false (byte == separator) (list_any (λ b. b == separator) first) none in
    let e : 1 + length first ≡ length (byte ∷ first) = omega arith in
    ap₂ (λ b n. cond (not b) (1 + n) 0) other (place_after separator first rest others) ∙ e

-- The bytes before and after a separator, if none is before it.
pub split_only : (separator : ℕ) (text first rest : List ℕ) → list_any (λ b. b == separator) first ≡ false
    → text ≡ first ++ separator ∷ rest
    → (position_or_len (λ b. b == separator) text < length text)
    × (before_first (λ b. b == separator) text ≡ first) × (after_first (λ b. b == separator) text ≡ rest)
split_only separator text first rest none is =
    let place : position_or_len (λ b. b == separator) text ≡ length first =
    ap (position_or_len (λ b. b == separator)) is ∙ place_after separator first rest none in
    let len : length text ≡ length first + length (separator ∷ rest) =
    ap length is ∙ length-append first (separator ∷ rest) in (
      omega (arith, place, len),
      (λ i. take (place i) (is i)) ∙ take-append_seam first (separator ∷ rest),
      (λ i. drop (place i + 1) (is i)) ∙ drop-append-add first (separator ∷ rest) 1,
    )

-- Digits of a radix have no byte that is no such digit.
pub digits_lack : (radix separator : ℕ) (digits : List ℕ) → radix ≤ digit_value separator → AllDigits radix digits
    → list_any (λ b. b == separator) digits ≡ false
digits_lack radix separator [] large all = refl
digits_lack radix separator (c ∷ digits) large all =
    let other : (c == separator) ≡ false =
    ne_eqb c separator (λ same. let value : digit_value c ≡ digit_value separator = ap digit_value same in
    omega (arith, value, large, all.0)) in
    ap₂ (λ a b. a || b) other (digits_lack radix separator digits large all.1)

pub place_of_none : {A : Type 0} (p : A → Bool) (list : List A) → list_any p list ≡ false
    → position_or_len p list ≡ length list
place_of_none p [] none = refl
place_of_none p (first ∷ list) none =
    let (other, others) = or_false (p first) (list_any p list) none in
    let e : 1 + length list ≡ length (first ∷ list) = omega arith in
    ap₂ (λ b n. cond (not b) (1 + n) 0) other (place_of_none p list others) ∙ e

-- A decimal number has no byte that is no digit.
pub decimal_lacks : (most : ℕ) (text : List ℕ) (number separator : ℕ) → most < 2 ^ 64 → 10 ≤ digit_value separator
    → IsDecimal most text number → list_any (λ b. b == separator) text ≡ false
decimal_lacks most text number separator bound large is =
    digits_lack 10 separator text large (decimal_digits most text number bound is).0.1

-- A decimal number has no separator.
pub decimal_complete : (most : ℕ) (text : List ℕ) (number separator : ℕ) → most < 2 ^ 64 → 10 ≤ digit_value separator
    → IsDecimal most text number → position_or_len (λ b. b == separator) text ≡ length text
decimal_complete most text number separator bound large is =
    place_of_none (λ b. b == separator) text (decimal_lacks most text number separator bound large is)

-- ---- ranges of ports

pub with_dash : (text first rest : List ℕ) → text ≡ first ++ codes "-" ++ rest → text ≡ first ++ 45 ∷ rest
with_dash text first rest is = is ∙ append_assoc first (45 ∷ []) rest

dashed : (text first rest : List ℕ) → text ≡ first ++ 45 ∷ rest → text ≡ first ++ codes "-" ++ rest
dashed text first rest is = is ∙ sym (append_assoc first (45 ∷ []) rest)

-- A range without `-` is one port.
pub one_port : (text : List ℕ) (low high : ℕ) → position_or_len (λ b. b == 45) text ≡ length text
    → IsRangeText text low high → IsDecimal 65535 text low × (high ≡ low)
one_port text low high complete (inl is) = is
one_port text low high complete (inr (first, second, is, first_fits, second_fits, low_is, high_is)) =
    let present = split_only 45 text (decimal first) (decimal second)
    (decimal_lacks 65535 (decimal first) first 45 (lit< tt) (lit≤ tt) (refl, first_fits))
    (with_dash text (decimal first) (decimal second) is) in
    absurd (omega (arith, present.0, complete))

-- A range with `-` is two ports.
pub two_ports : (text : List ℕ) (low high : ℕ) → position_or_len (λ b. b == 45) text < length text
    → IsRangeText text low high
    → (first second : ℕ) × IsDecimal 65535 (before_first (λ b. b == 45) text) first
    × IsDecimal 65535 (after_first (λ b. b == 45) text) second × (low ≡ min first second) × (high ≡ max first second)
two_ports text low high inside (inl is) =
    absurd (omega (arith, inside, decimal_complete 65535 text low 45 (lit< tt) (lit≤ tt) is.0))
two_ports text low high inside (inr (first, second, is, first_fits, second_fits, low_is, high_is)) =
    let present = split_only 45 text (decimal first) (decimal second)
    (decimal_lacks 65535 (decimal first) first 45 (lit< tt) (lit≤ tt) (refl, first_fits))
    (with_dash text (decimal first) (decimal second) is) in
    (first, second, (present.1, first_fits), (present.2, second_fits), low_is, high_is)

-- The text of two ports.
pub ports_text : (text : List ℕ) (first second : ℕ) → position_or_len (λ b. b == 45) text < length text
    → IsDecimal 65535 (before_first (λ b. b == 45) text) first
    → IsDecimal 65535 (after_first (λ b. b == 45) text) second
    → IsRangeText text (min first second) (max first second)
ports_text text first second inside first_is second_is =
    inr (
      first,
      second,
      dashed text (decimal first) (decimal second)
          (split_is 45 text inside ∙ (λ i. first_is.0 i ++ 45 ∷ second_is.0 i)),
      first_is.1,
      second_is.1,
      refl,
      refl,
    )

pub pair_range : (text first second : List ℕ) (result : Option (ℕ × ℕ))
    → position_or_len (λ b. b == 45) text < length text → first ≡ before_first (λ b. b == 45) text
    → second ≡ after_first (λ b. b == 45) text
    → IfSome result (λ range. (a b : ℕ) × IsDecimal 65535 first a × IsDecimal 65535 second b × (range.0 ≡ min a b)
    × (range.1 ≡ max a b))
    → IfSome result (λ range. IsRangeText text range.0 range.1)
pair_range text first second None inside first_is second_is stated = tt
pair_range text first second (Some range) inside first_is second_is (a, b, a_is, b_is, low_is, high_is) =
    subst₂ (λ low high. IsRangeText text low high) (sym low_is) (sym high_is)
    (ports_text text a b inside (subst (λ t. IsDecimal 65535 t a) first_is a_is)
    (subst (λ t. IsDecimal 65535 t b) second_is b_is))

pub one_result : (port low high : ℕ) → Some port ≡ Some low → high ≡ low
    → ◌≡◌ {A = Option (ℕ × ℕ)} (Some (port, port)) (Some (low, high))
one_result port low high is same =
    let p : port ≡ low = cc in let q : port ≡ high = p ∙ sym same in λ i. Some (p i, q i)

-- ---- texts of octets

-- The octet before the first colon.
pub octet_first : (text first rest : List ℕ) (octet : ℕ) → text ≡ first ++ codes ":" ++ rest → IsOctet first octet
    → (position_or_len (λ b. b == 58) text < length text)
    × (before_first (λ b. b == 58) text ≡ first) × (after_first (λ b. b == 58) text ≡ rest)
octet_first text first rest octet is stated =
    split_only 58 text first rest (digits_lack 16 58 first (lit≤ tt) stated.0.1)
    (is ∙ append_assoc first (58 ∷ []) rest)

pub colon_split : (text first rest : List ℕ) → position_or_len (λ b. b == 58) text < length text
    → first ≡ before_first (λ b. b == 58) text → rest ≡ after_first (λ b. b == 58) text
    → text ≡ first ++ codes ":" ++ rest
colon_split text first rest inside first_is rest_is =
    split_is 58 text inside ∙ (λ i. sym first_is i ++ 58 ∷ sym rest_is i) ∙ sym (append_assoc first (58 ∷ []) rest)

pub some_is : (a b : ℕ) → Some a ≡ Some b → a ≡ b
some_is a b is = cc

-- The octets after the first, where the first was read.
pub after_octet : (n : ℕ) (text rest : List ℕ) (a : ℕ)
    → ((first rest' : List ℕ) (value : ℕ) → text ≡ first ++ codes ":" ++ rest' → IsOctet first value
    → (a ≡ value) × (rest ≡ rest'))
    → (octets : List ℕ) → IsOctets text octets × (length octets ≡ suc (suc n))
    → (others : List ℕ) × (octets ≡ a ∷ others) × (IsOctets rest others × (length others ≡ suc n))
after_octet n text rest a only [] stated = absurd stated.0
after_octet n text rest a only (b ∷ []) stated = absurd (omega (arith, stated.1))
after_octet n text rest a only (b ∷ b' ∷ octets) ((first, rest', split, octet, others), count) =
    let present = only first rest' b split octet in (
      b' ∷ octets,
      (λ i. sym present.0 i ∷ b' ∷ octets),
      (subst (λ t. IsOctets t (b' ∷ octets)) (sym present.1) others, omega (arith, count)),
    )

-- A text that begins with no octet and colon is no list of octets.
pub no_octet : (n : ℕ) (text : List ℕ)
    → ((first rest : List ℕ) (value : ℕ) → text ≡ first ++ codes ":" ++ rest → IsOctet first value → ⊥)
    → (octets : List ℕ) → IsOctets text octets × (length octets ≡ suc (suc n)) → ⊥
no_octet n text none [] stated = stated.0
no_octet n text none (b ∷ []) stated = omega (arith, stated.1)
no_octet n text none (b ∷ b' ∷ octets) ((first, rest, split, octet, others), count) = none first rest b split octet

-- A text that is read as no octet is no last octet; otherwise the last octet is the number that was read.
pub no_last_octet : (text octets : List ℕ) → ((value : ℕ) → IsOctet text value → ◌≡◌ {A = Option ℕ} None (Some value))
    → IsOctets text octets × (length octets ≡ 1) → ⊥
no_last_octet text [] only stated = stated.0
no_last_octet text (b ∷ []) only stated = none_is_some (only b stated.0)
no_last_octet text (b ∷ b' ∷ octets) only stated = omega (arith, stated.1)

pub last_octet : (text octets : List ℕ) (a : ℕ) → ((value : ℕ) → IsOctet text value → Some a ≡ Some value)
    → IsOctets text octets × (length octets ≡ 1) → octets ≡ a ∷ []
last_octet text [] a only stated = absurd stated.0
last_octet text (b ∷ []) a only stated = ap (λ (o : ℕ). o ∷ []) (sym (some_is a b (only b stated.0)))
last_octet text (b ∷ b' ∷ octets) a only stated = absurd (omega (arith, stated.1))

-- Six octets, each found before the rest of them.
pub six_octets : (octets others-a others-b others-c others-d others-e : List ℕ) (a b c d e f : ℕ)
    → octets ≡ a ∷ others-a → others-a ≡ b ∷ others-b → others-b ≡ c ∷ others-c → others-c ≡ d ∷ others-d
    → others-d ≡ e ∷ others-e → others-e ≡ f ∷ [] → Some (a ∷ b ∷ c ∷ d ∷ e ∷ f ∷ []) ≡ Some octets
six_octets octets others-a others-b others-c others-d others-e a b c d e f is-a is-b is-c is-d is-e is-f =
    ap Some (sym (is-a ∙ ap (λ (o : List ℕ). a ∷ o) (is-b ∙ ap (λ (o : List ℕ). b ∷ o) (is-c
    ∙ ap (λ (o : List ℕ). c ∷ o) (is-d ∙ ap (λ (o : List ℕ). d ∷ o) (is-e ∙ ap (λ (o : List ℕ). e ∷ o) is-f))))))
