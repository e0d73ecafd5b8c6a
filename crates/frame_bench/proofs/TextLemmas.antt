-- Splitting of a text at a byte, and the numbers in it.
use Rattle.std.proofs.Common.{◌≡◌, ◌≢◌, ℕ, ◌^◌, ◌⊎◌, inl, inr, List, [], ◌∷◌, ◌++◌, length, refl, sym, ap, ◌∙◌, subst}
use Rattle.std.proofs.Common.{arith}
use Rattle.std.specs.List.{All}
use Rattle.std.specs.Char.{digit_value}
use Rattle.std.specs.Str.{IsUtf8}
use Rattle.std.specs.Str.Parse.{AllDigits, digits_value}
use Rattle.std.proofs.lemmas.Bool.{cases_eq, cases_lt}
use Rattle.std.proofs.lemmas.List.Elements.{All-cons, All-head, All-nil, All-tail}
use Rattle.std.proofs.lemmas.Fmt.{IsAscii-from_digits}
use Rattle.std.proofs.lemmas.Str.{IsUtf8-from_ascii}
use Rattle.std.proofs.lemmas.Str.Parse.{digit_from_value}
use Rattle.line_io.specs.Lines.{space}
use Rattle.frame_bench.specs.Requests.{IsNumber, IsLimit}

-- Holds if the byte is not in the text.
abbrev pub IsWithout : ℕ → List ℕ → Type 0
IsWithout mark text = All (λ byte. byte ≢ mark) text

-- Equal lists have equal first elements and equal rests.
tails : (x y : ℕ) (xs ys : List ℕ) → x ∷ xs ≡ y ∷ ys → (x ≡ y) × (xs ≡ ys)
tails x y xs ys same = (cc same, cc same)

-- A text is split at the first of these bytes in one way.
pub same_split : (mark : ℕ) (a b r s : List ℕ) → IsWithout mark a → IsWithout mark b
    → a ++ mark ∷ r ≡ b ++ mark ∷ s → (a ≡ b) × (r ≡ s)
same_split mark [] [] r s in_a in_b same = (refl, (tails mark mark r s same).1)
same_split mark [] (y ∷ b) r s in_a in_b same =
    absurd (All-head (λ byte. byte ≢ mark) y b in_b (sym (tails mark y r (b ++ mark ∷ s) same).0))
same_split mark (x ∷ a) [] r s in_a in_b same =
    absurd (All-head (λ byte. byte ≢ mark) x a in_a (tails x mark (a ++ mark ∷ r) s same).0)
same_split mark (x ∷ a) (y ∷ b) r s in_a in_b same =
    let both = tails x y (a ++ mark ∷ r) (b ++ mark ∷ s) same in
    let rest =
    same_split mark a b r s (All-tail (λ byte. byte ≢ mark) x a in_a) (All-tail (λ byte. byte ≢ mark) y b in_b)
    both.1 in
    (rw (both.0, rest.0) refl, rest.1)

-- A text without the byte is not split at it.
pub no_split : (mark : ℕ) (text word rest : List ℕ) → IsWithout mark text → text ≢ word ++ mark ∷ rest
no_split mark [] [] rest without same = cc same
no_split mark [] (w ∷ word) rest without same = cc same
no_split mark (x ∷ text) [] rest without same =
    All-head (λ byte. byte ≢ mark) x text without (tails x mark text rest same).0
no_split mark (x ∷ text) (w ∷ word) rest without same =
    no_split mark text word rest (All-tail (λ byte. byte ≢ mark) x text without)
    (tails x w text (word ++ mark ∷ rest) same).1

-- A text is split at the first of these bytes, or does not contain it.
pub split_cases : (mark : ℕ) (text : List ℕ)
    → ((word rest : List ℕ) × IsWithout mark word × (text ≡ word ++ mark ∷ rest)) ⊎ IsWithout mark text
split_cases mark [] = inr (All-nil (λ byte. byte ≢ mark))
split_cases mark (x ∷ text) =
    elim (cases_eq x mark) [
      | inl same ↦ inl ([], text, (All-nil (λ byte. byte ≢ mark)), ap (λ b. b ∷ text) same)
      | inr other ↦
          elim (split_cases mark text) [
            | inl found ↦
                inl (
                  x ∷ found.0,
                  found.1,
                  (All-cons (λ byte. byte ≢ mark) x found.0 other found.2),
                  ap (λ t. x ∷ t) found.3,
                )
            | inr without ↦ inr (All-cons (λ byte. byte ≢ mark) x text other without)
          ]
    ]

-- Digits contain no space.
digits_without : (text : List ℕ) → AllDigits 10 text → IsWithout space text
digits_without [] digits = All-nil (λ byte. byte ≢ space)
digits_without (c ∷ text) digits =
    All-cons (λ byte. byte ≢ space) c text (λ same. omega (arith, digit_from_value c digits.0, same))
    (digits_without text digits.1)

pub number_without : (text : List ℕ) (number : ℕ) → IsNumber text number → IsWithout space text
number_without text number is = digits_without text is.0.1

-- The text of a number is valid UTF-8.
pub number_utf8 : (text : List ℕ) (number : ℕ) → IsNumber text number → IsUtf8 text
number_utf8 text number is = IsUtf8-from_ascii text (IsAscii-from_digits text is.0.1)

-- A text is no other number.
pub number_one : (text : List ℕ) (a b : ℕ) → IsNumber text a → IsNumber text b → a ≡ b
number_one text a b x y = sym x.2 ∙ y.2

-- A text is no other limit.
pub limit_one : (text : List ℕ) (a b : ℕ) → IsLimit text a → IsLimit text b → a ≡ b
limit_one text a b x y = number_one text a b x.0 y.0

-- All bytes are digits, or some byte is not.
digits_cases : (text : List ℕ) → AllDigits 10 text ⊎ (AllDigits 10 text → ⊥)
digits_cases [] = inl tt
digits_cases (c ∷ text) =
    elim (cases_lt (digit_value c) 10) [
      | inl digit ↦ elim (digits_cases text) [
        | inl digits ↦ inl (digit, digits)
        | inr other ↦ inr (λ digits. other digits.1)
      ]
      | inr above ↦ inr (λ digits. omega (arith, digits.0, above))
    ]

-- A text is a number or is not.
pub number_cases : (text : List ℕ) → ((number : ℕ) × IsNumber text number) ⊎ ((number : ℕ) → IsNumber text number → ⊥)
number_cases text =
    elim (digits_cases text) [
      | inl digits ↦ elim (cases_lt 0 (length text)) [
        | inl some ↦ elim (cases_lt 20 (length text)) [
          | inl long ↦ inr (λ number is. omega (arith, is.1, long))
          | inr short ↦ elim (cases_lt (digits_value 10 text) (2 ^ 64)) [
            | inl small ↦ inl (digits_value 10 text, ((some, digits), short, refl, small))
            | inr great ↦ inr (λ number is. omega (arith, is.2, is.3, great))
          ]
        ]
        | inr none ↦ inr (λ number is. omega (arith, is.0.0, none))
      ]
      | inr other ↦ inr (λ number is. other is.0.1)
    ]

-- A text is a limit or is not.
pub limit_cases : (text : List ℕ) → ((limit : ℕ) × IsLimit text limit) ⊎ ((limit : ℕ) → IsLimit text limit → ⊥)
limit_cases text =
    elim (number_cases text) [
      | inl found ↦ elim (cases_lt 5 (length text)) [
        | inl long ↦ inr (λ limit is. omega (arith, is.1, long))
        | inr short ↦ elim (cases_lt 65535 found.0) [
          | inl great ↦ inr (λ limit is. omega (arith, is.2, number_one text limit found.0 is.0 found.1, great))
          | inr small ↦ inl (found.0, (found.1, short, small))
        ]
      ]
      | inr none ↦ inr (λ limit is. none limit is.0)
    ]

-- Holds if a text begins with a number and a space.
abbrev pub NumberAt : List ℕ → List ℕ → List ℕ → ℕ → Type 0
NumberAt text word rest number = (text ≡ word ++ space ∷ rest) × IsNumber word number

-- A text begins with no other number and rest.
pub number_at_one : (text word other rest left : List ℕ) (a b : ℕ) → NumberAt text word rest a
    → NumberAt text other left b → (word ≡ other) × (rest ≡ left) × (a ≡ b)
number_at_one text word other rest left a b x y =
    let same =
    same_split space word other rest left (number_without word a x.1) (number_without other b y.1) (sym x.0 ∙ y.0) in
    (same.0, same.1, number_one word a b x.1 (subst (λ t. IsNumber t b) (sym same.0) y.1))

-- A text begins with a number and a space, or does not.
pub number_at_cases : (text : List ℕ)
    → ((word rest : List ℕ) × (number : ℕ) × NumberAt text word rest number)
    ⊎ ((word rest : List ℕ) (number : ℕ) → NumberAt text word rest number → ⊥)
number_at_cases text =
    elim (split_cases space text) [
      | inl parts ↦ elim (number_cases parts.0) [
        | inl found ↦ inl (parts.0, parts.1, found.0, (parts.3, found.1))
        | inr none ↦ inr (λ word rest number at.
            let same =
            same_split space word parts.0 rest parts.1 (number_without word number at.1) parts.2 (sym at.0 ∙ parts.3) in
            none number (subst (λ t. IsNumber t number) same.0 at.1))
      ]
      | inr without ↦ inr (λ word rest number at. no_split space text word rest without at.0)
    ]
