-- Lemmas about the digits of a fraction of a second: the digits of a number after a leading 1, which keeps the leading
-- zeros.
use Rattle.std.proofs.Common.{◌≡◌, ℕ, zero, suc, ◌+◌, ◌/◌, ◌%◌, ◌^◌, ◌<◌, List, [], ◌∷◌, ◌++◌, drop}
use Rattle.std.proofs.Common.{ap, sym, ◌∙◌, arith}
use Rattle.std.specs.Fmt.{decimal}
use Rattle.std.proofs.Math.Nat.{one-le-pow, pow-succ'}
use Rattle.std.proofs.lemmas.Fmt.{decimal_digit, decimal_step}
use Rattle.packet_times.specs.TimeTexts.{digit}

-- The last `count` digits of a number.
abbrev last_digits : (count number : ℕ) → List ℕ
last_digits zero number = []
last_digits (suc count) number = last_digits count (number / 10) ++ digit number ∷ []

-- The digits after a leading 1 are the last `count` digits, including leading zeros.
after_one : (count number : ℕ) → number < 10 ^ count → 10 ^ count + number < 2 ^ 64
    → decimal (10 ^ count + number) ≡ 49 ∷ last_digits count number
after_one zero number below fits =
    let one : 10 ^ 0 + number ≡ 1 = omega (arith, below) in
    ap decimal one ∙ decimal_digit 1 (omega arith)
after_one (suc count) number below fits =
    let power = pow-succ' 10 count in
    let some = one-le-pow count 10 (omega arith) in
    let prefix : (10 ^ suc count + number) / 10 ≡ 10 ^ count + number / 10 = omega (arith, power) in
    let last : (10 ^ suc count + number) % 10 ≡ number % 10 = omega (arith, power) in
    decimal_step (10 ^ suc count + number) (omega (arith, power, some)) fits
    ∙ ap (λ n. decimal n ++ (48 + (10 ^ suc count + number) % 10) ∷ []) prefix
    ∙ ap (λ t. t ++ (48 + (10 ^ suc count + number) % 10) ∷ [])
    (after_one count (number / 10) (omega (arith, power, below)) (omega (arith, power, fits)))
    ∙ ap (λ n. (49 ∷ last_digits count (number / 10)) ++ (48 + n) ∷ []) last

pub starts_with_one : (count number : ℕ) → number < 10 ^ count → 10 ^ count + number < 2 ^ 64
    → decimal (10 ^ count + number) ≡ 49 ∷ drop 1 (decimal (10 ^ count + number))
starts_with_one count number below fits =
    let one = after_one count number below fits in one ∙ ap (λ t. 49 ∷ drop 1 t) (sym one)
