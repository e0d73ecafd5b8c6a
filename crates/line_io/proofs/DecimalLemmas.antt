-- Lemmas about writing the digits of a number from the last to the first, two at a time.
use Rattle.std.proofs.Common.{◌≡◌, ℕ, zero, suc, ◌+◌, ◌-◌, ◌*◌, ◌/◌, ◌%◌, ◌^◌, ◌<◌, ◌≤◌, List, [], ◌∷◌, ◌++◌, length, drop, take}
use Rattle.std.proofs.Common.{Bool, true, ◌&&◌, T, eqb, eqb→eq, get_or, sym, ap, ◌∙◌, subst, arith, append_assoc}
use Rattle.std.proofs.Common.{inl, inr, eq-zero-or-pos}
use Rattle.std.specs.Fmt.{decimal}
use Rattle.std.proofs.Math.Nat.{pow-succ'}
use Rattle.std.proofs.lemmas.Fmt.{decimal_digit, decimal_step}
use Rattle.std.proofs.lemmas.List.{append-nil, drop-drop, drop_all, length-drop, take_all}
use lib.Ieee.Fits.{and_l, and_r}
use Rattle.line_io.specs.declared.digits.TheConstants.{PAIRS}

-- ---- two digits

-- The two digits of a number below 100, with a leading zero if it is below 10.
abbrev pub two_digits : ℕ → List ℕ
two_digits number = (48 + number / 10) ∷ (48 + number % 10) ∷ []

-- The table contains the digits at the position of the number.
abbrev has_digits : ℕ → Bool
has_digits number =
    eqb (get_or PAIRS (2 * number) 0) (48 + number / 10) && eqb (get_or PAIRS (2 * number + 1) 0) (48 + number % 10)

abbrev has_digits_below : ℕ → Bool
has_digits_below zero = true
has_digits_below (suc number) = has_digits number && has_digits_below number

has_digits-below : (end number : ℕ) → T (has_digits_below end) → number < end → T (has_digits number)
has_digits-below zero number all below = absurd (omega (arith, below))
has_digits-below (suc last) number all below =
    elim (eq-zero-or-pos (last - number)) [
      | inl none ↦
          let is : number ≡ last = omega (arith, none, below) in
          subst (λ n. T (has_digits n)) (sym is) (and_l (has_digits last) (has_digits_below last) all)
      | inr some ↦
          has_digits-below last number (and_r (has_digits last) (has_digits_below last) all) (omega (arith, some))
    ]

pub first_of_pair : (number : ℕ) → number < 100 → get_or PAIRS (2 * number) 0 ≡ 48 + number / 10
first_of_pair number below =
    eqb→eq (get_or PAIRS (2 * number) 0) (48 + number / 10)
    (and_l _ (eqb (get_or PAIRS (2 * number + 1) 0) (48 + number % 10)) (has_digits-below 100 number tt below))

pub second_of_pair : (number : ℕ) → number < 100 → get_or PAIRS (2 * number + 1) 0 ≡ 48 + number % 10
second_of_pair number below =
    eqb→eq (get_or PAIRS (2 * number + 1) 0) (48 + number % 10)
    (and_r (eqb (get_or PAIRS (2 * number) 0) (48 + number / 10)) _ (has_digits-below 100 number tt below))

-- A number from 10 to 99 has two digits.
pub decimal_two : (number : ℕ) → 10 ≤ number → number < 100 → decimal number ≡ two_digits number
decimal_two number least most =
    decimal_step number least (omega (arith, most))
    ∙ ap (λ t. t ++ (48 + number % 10) ∷ []) (decimal_digit (number / 10) (omega (arith, most)))

-- A number of at least three digits ends with the two digits of its remainder by 100.
pub decimal_more : (number : ℕ) → 100 ≤ number → number < 2 ^ 64
    → decimal number ≡ decimal (number / 100) ++ two_digits (number % 100)
decimal_more number least fits =
    let rest : number / 10 / 10 ≡ number / 100 = omega arith in
    let tens : number / 10 % 10 ≡ number % 100 / 10 = omega arith in
    let ones : number % 10 ≡ number % 100 % 10 = omega arith in
    decimal_step number (omega (arith, least)) fits
    ∙ ap (λ t. t ++ (48 + number % 10) ∷ []) (decimal_step (number / 10) (omega (arith, least)) (omega (arith, fits)))
    ∙ append_assoc (decimal (number / 10 / 10)) ((48 + number / 10 % 10) ∷ []) ((48 + number % 10) ∷ [])
    ∙ ap (λ n. decimal n ++ (48 + number / 10 % 10) ∷ (48 + number % 10) ∷ []) rest
    ∙ ap (λ n. decimal (number / 100) ++ (48 + n) ∷ (48 + number % 10) ∷ []) tens
    ∙ ap (λ n. decimal (number / 100) ++ (48 + number % 100 / 10) ∷ (48 + n) ∷ []) ones

-- ---- numbers with a known number of digits

pub decimal_three : (number : ℕ) → 100 ≤ number → number < 1000
    → decimal number ≡ (48 + number / 100) ∷ two_digits (number % 100)
decimal_three number least most =
    decimal_more number least (omega (arith, most))
    ∙ ap (λ t. t ++ two_digits (number % 100)) (decimal_digit (number / 100) (omega (arith, most)))

pub decimal_four : (number : ℕ) → 1000 ≤ number → number < 10000
    → decimal number ≡ two_digits (number / 100) ++ two_digits (number % 100)
decimal_four number least most =
    decimal_more number (omega (arith, least)) (omega (arith, most))
    ∙ ap (λ t. t ++ two_digits (number % 100)) (decimal_two (number / 100) (omega (arith, least)) (omega (arith, most)))

pub decimal_five : (number : ℕ) → 10000 ≤ number → number < 100000
    → decimal number
    ≡ ((48 + number / 100 / 100) ∷ two_digits (number / 100 % 100)) ++ two_digits (number % 100)
decimal_five number least most =
    decimal_more number (omega (arith, least)) (omega (arith, most))
    ∙ ap (λ t. t ++ two_digits (number % 100))
    (decimal_three (number / 100) (omega (arith, least)) (omega (arith, most)))

pub decimal_six : (number : ℕ) → 100000 ≤ number → number < 1000000
    → decimal number
    ≡ (two_digits (number / 100 / 100) ++ two_digits (number / 100 % 100)) ++ two_digits (number % 100)
decimal_six number least most =
    decimal_more number (omega (arith, least)) (omega (arith, most))
    ∙ ap (λ t. t ++ two_digits (number % 100))
    (decimal_four (number / 100) (omega (arith, least)) (omega (arith, most)))

pub decimal_seven : (number : ℕ) → 1000000 ≤ number → number < 10000000
    → decimal number
    ≡ (((48 + number / 100 / 100 / 100) ∷ two_digits (number / 100 / 100 % 100)) ++ two_digits (number / 100 % 100)) ++ two_digits (number % 100)
decimal_seven number least most =
    decimal_more number (omega (arith, least)) (omega (arith, most))
    ∙ ap (λ t. t ++ two_digits (number % 100))
    (decimal_five (number / 100) (omega (arith, least)) (omega (arith, most)))

pub decimal_eight : (number : ℕ) → 10000000 ≤ number → number < 100000000
    → decimal number
    ≡ ((two_digits (number / 100 / 100 / 100) ++ two_digits (number / 100 / 100 % 100)) ++ two_digits (number / 100 % 100)) ++ two_digits (number % 100)
decimal_eight number least most =
    decimal_more number (omega (arith, least)) (omega (arith, most))
    ∙ ap (λ t. t ++ two_digits (number % 100))
    (decimal_six (number / 100) (omega (arith, least)) (omega (arith, most)))

pub decimal_nine : (number : ℕ) → 100000000 ≤ number → number < 1000000000
    → decimal number
    ≡ ((((48 + number / 100 / 100 / 100 / 100) ∷ two_digits (number / 100 / 100 / 100 % 100)) ++ two_digits (number / 100 / 100 % 100)) ++ two_digits (number / 100 % 100)) ++ two_digits (number % 100)
decimal_nine number least most =
    decimal_more number (omega (arith, least)) (omega (arith, most))
    ∙ ap (λ t. t ++ two_digits (number % 100))
    (decimal_seven (number / 100) (omega (arith, least)) (omega (arith, most)))

pub decimal_ten : (number : ℕ) → 1000000000 ≤ number → number < 10000000000
    → decimal number
    ≡ (((two_digits (number / 100 / 100 / 100 / 100) ++ two_digits (number / 100 / 100 / 100 % 100)) ++ two_digits (number / 100 / 100 % 100)) ++ two_digits (number / 100 % 100)) ++ two_digits (number % 100)
decimal_ten number least most =
    decimal_more number (omega (arith, least)) (omega (arith, most))
    ∙ ap (λ t. t ++ two_digits (number % 100))
    (decimal_eight (number / 100) (omega (arith, least)) (omega (arith, most)))

-- ---- digits from the last to the first

-- The digits from index `start` on, after the digits of `rest`, are the digits of the number.
abbrev pub AreLastDigits : ℕ → ℕ → ℕ → List ℕ → Type 0
AreLastDigits number rest start digits = decimal number ≡ decimal rest ++ drop start digits

-- The remaining number has at most `start` digits.
abbrev pub HasSpace : ℕ → ℕ → Type 0
HasSpace rest start = (0 < start) × (rest < 10 ^ start)

-- If at least three digits remain, there is space for three.
pub HasSpace-three : (rest start : ℕ) → HasSpace rest start → 100 ≤ rest → 3 ≤ start
HasSpace-three rest zero space three = absurd (omega (arith, space.0))
HasSpace-three rest (suc zero) space three = absurd (omega (arith, space.1, three))
HasSpace-three rest (suc (suc zero)) space three = absurd (omega (arith, space.1, three))
HasSpace-three rest (suc (suc (suc start))) space three = omega arith

-- If at least two digits remain, there is space for two.
pub HasSpace-two : (rest start : ℕ) → HasSpace rest start → 10 ≤ rest → 2 ≤ start
HasSpace-two rest zero space two = absurd (omega (arith, space.0))
HasSpace-two rest (suc zero) space two = absurd (omega (arith, space.1, two))
HasSpace-two rest (suc (suc start)) space two = omega arith

less_space : (rest start : ℕ) → rest < 10 ^ suc (suc start) → rest / 100 < 10 ^ start
less_space rest start space = omega (arith, pow-succ' 10 (suc start), pow-succ' 10 start, space)

pub HasSpace-more : (rest start : ℕ) → HasSpace rest start → 100 ≤ rest → HasSpace (rest / 100) (start - 2)
HasSpace-more rest start space three =
    let some = HasSpace-three rest start space three in
    let same : suc (suc (start - 2)) ≡ start = omega (arith, some) in
    (omega (arith, some), less_space rest (start - 2) (subst (λ n. rest < 10 ^ n) (sym same) space.1))

-- At the start, no digit is written.
pub AreLastDigits-none : (number : ℕ) (digits : List ℕ) → length digits ≡ 20 → AreLastDigits number number 20 digits
AreLastDigits-none number digits long =
    sym (append-nil (decimal number)) ∙ ap (λ t. decimal number ++ t) (sym (drop_all 20 digits (omega (arith, long))))

-- The next two digits are written before the digits at `start`.
pub AreLastDigits-more : (number rest start : ℕ) (digits written : List ℕ) → AreLastDigits number rest start digits
    → drop (start - 2) written ≡ two_digits (rest % 100) ++ drop (start - 2 + 2) digits → 2 ≤ start → 100 ≤ rest
    → rest < 2 ^ 64 → AreLastDigits number (rest / 100) (start - 2) written
AreLastDigits-more number rest start digits written last puts some three fits =
    let same : start - 2 + 2 ≡ start = omega (arith, some) in
    last ∙ ap (λ t. t ++ drop start digits) (decimal_more rest three fits)
    ∙ append_assoc (decimal (rest / 100)) (two_digits (rest % 100)) (drop start digits)
    ∙ ap (λ n. decimal (rest / 100) ++ (two_digits (rest % 100) ++ drop n digits)) (sym same)
    ∙ ap (λ t. decimal (rest / 100) ++ t) (sym puts)

-- The first two digits are written, which completes the number.
pub AreLastDigits-two : (number rest start : ℕ) (digits written : List ℕ) → AreLastDigits number rest start digits
    → drop (start - 2) written ≡ two_digits rest ++ drop (start - 2 + 2) digits → 2 ≤ start → 10 ≤ rest → rest < 100
    → drop (start - 2) written ≡ decimal number
AreLastDigits-two number rest start digits written last puts some least most =
    let same : start - 2 + 2 ≡ start = omega (arith, some) in
    puts ∙ ap (λ n. two_digits rest ++ drop n digits) same
    ∙ ap (λ t. t ++ drop start digits) (sym (decimal_two rest least most)) ∙ sym last

-- The first digit is written, which completes the number.
pub AreLastDigits-one : (number rest start : ℕ) (digits written : List ℕ) → AreLastDigits number rest start digits
    → drop (start - 1) written ≡ (48 + rest) ∷ drop (start - 1 + 1) digits → 0 < start → rest < 10
    → drop (start - 1) written ≡ decimal number
AreLastDigits-one number rest start digits written last puts some one =
    let same : start - 1 + 1 ≡ start = omega (arith, some) in
    puts ∙ ap (λ n. (48 + rest) ∷ drop n digits) same
    ∙ ap (λ t. t ++ drop start digits) (sym (decimal_digit rest one)) ∙ sym last

-- ---- the appended digits

-- The digits from the first one to the end of the 20 bytes are the digits of the number.
pub digits-all : (number start : ℕ) (digits : List ℕ) → length digits ≡ 20 → drop start digits ≡ decimal number
    → take (20 - start) (drop start digits) ≡ decimal number
digits-all number start digits long are =
    take_all (20 - start) (drop start digits) (omega (arith, length-drop start digits, long)) ∙ are

-- The digits after the first one are the digits of the number without the first.
pub digits-after_first : (number start : ℕ) (digits : List ℕ) → length digits ≡ 20
    → drop start digits ≡ decimal number
    → take (20 - (start + 1)) (drop (start + 1) digits) ≡ drop 1 (decimal number)
digits-after_first number start digits long are =
    take_all (20 - (start + 1)) (drop (start + 1) digits) (omega (arith, length-drop (start + 1) digits, long))
    ∙ sym (drop-drop 1 start digits) ∙ ap (λ t. drop 1 t) are
