-- Lemmas about the first numbers of an IPv4 address.
use Rattle.std.proofs.Common.{◌≡◌, ℕ, ◌<◌, ◌≤◌, ◌==◌, List, [], ◌∷◌, ◌++◌, length, Option, Some, None, IfSome, codes, decimal, refl, ap, sym, ◌∙◌, arith, lit<, lit≤, append_assoc}
use Rattle.std.specs.List.{after_first, before_first, position_or_len}
use Rattle.filter_tokens.specs.declared.network.Network.{Network}
use Rattle.filter_tokens.specs.Values.{IsDecimal, IsLeadingNumbers, leading_network}
use Rattle.filter_tokens.proofs.ValueLemmas.{decimal_lacks, decimal_complete, split_is, split_only}

-- Where the first dot of a text is.
abbrev pub dot_place : List ℕ → ℕ
dot_place text = position_or_len (λ b. b == 46) text

abbrev pub before_dot : List ℕ → List ℕ
before_dot text = before_first (λ b. b == 46) text

abbrev pub after_dot : List ℕ → List ℕ
after_dot text = after_first (λ b. b == 46) text

dot_parts : (text rest : List ℕ) (a : ℕ) → text ≡ decimal a ++ 46 ∷ rest → a ≤ 255
    → (dot_place text < length text) × (before_dot text ≡ decimal a) × (after_dot text ≡ rest)
dot_parts text rest a is small =
    split_only 46 text (decimal a) rest
    (decimal_lacks 255 (decimal a) a 46 (lit< tt) (lit≤ tt) (refl, small)) is

no_dot : (text : List ℕ) (a : ℕ) → text ≡ decimal a → a ≤ 255 → dot_place text ≡ length text
no_dot text a is small = decimal_complete 255 text a 46 (lit< tt) (lit≤ tt) (is, small)

two_dotted : (text : List ℕ) (a b : ℕ) → text ≡ decimal a ++ codes "." ++ decimal b → text ≡ decimal a ++ 46 ∷ decimal b
two_dotted text a b is = is ∙ append_assoc (decimal a) (46 ∷ []) (decimal b)

three_shown : (a b c : ℕ) → decimal a ++ codes "." ++ decimal b ++ codes "." ++ decimal c
    ≡ decimal a ++ 46 ∷ (decimal b ++ 46 ∷ decimal c)
three_shown a b c = simp append_assoc

-- A text without a dot is one number.
pub one_part : (text numbers : List ℕ) → dot_place text ≡ length text → IsLeadingNumbers text numbers
    → (a : ℕ) × (numbers ≡ a ∷ []) × IsDecimal 255 text a × (1 ≤ a)
one_part text [] none is = absurd is
one_part text (a ∷ []) none is = (a, refl, (is.0, is.2), is.1)
one_part text (a ∷ b ∷ []) none is =
    absurd (omega (arith, none, (dot_parts text (decimal b) a (two_dotted text a b is.0) is.1).0))
one_part text (a ∷ b ∷ c ∷ []) none is =
    absurd (omega (
      arith,
      none,
      (dot_parts text (decimal b ++ 46 ∷ decimal c) a (is.0 ∙ three_shown a b c) is.1).0,
    ))
one_part text (a ∷ b ∷ c ∷ d ∷ numbers) none is = absurd is

-- A text with one dot is two numbers.
pub two_parts : (text first second numbers : List ℕ) → dot_place text < length text → first ≡ before_dot text
    → second ≡ after_dot text → dot_place second ≡ length second → IsLeadingNumbers text numbers
    → (a b : ℕ) × (numbers ≡ a ∷ b ∷ []) × IsDecimal 255 first a × IsDecimal 255 second b
two_parts text first second [] inside first_is second_is none is = absurd is
two_parts text first second (a ∷ []) inside first_is second_is none is =
    absurd (omega (arith, inside, no_dot text a is.0 is.2))
two_parts text first second (a ∷ b ∷ []) inside first_is second_is none is =
    let parts = dot_parts text (decimal b) a (two_dotted text a b is.0) is.1 in
    (a, b, refl, (first_is ∙ parts.1, is.1), (second_is ∙ parts.2, is.2))
two_parts text first second (a ∷ b ∷ c ∷ []) inside first_is second_is none is =
    let parts = dot_parts text (decimal b ++ 46 ∷ decimal c) a (is.0 ∙ three_shown a b c) is.1 in
    absurd (omega (arith, none, (dot_parts second (decimal c) b (second_is ∙ parts.2) is.2).0))
two_parts text first second (a ∷ b ∷ c ∷ d ∷ numbers) inside first_is second_is none is = absurd is

-- A text with two dots is three numbers.
pub three_parts : (text first others second third numbers : List ℕ) → dot_place text < length text
    → first ≡ before_dot text → others ≡ after_dot text → dot_place others < length others
    → second ≡ before_dot others → third ≡ after_dot others → IsLeadingNumbers text numbers
    → (a b c : ℕ) × (numbers ≡ a ∷ b ∷ c ∷ []) × IsDecimal 255 first a × IsDecimal 255 second b
    × IsDecimal 255 third c
three_parts text first others second third [] inside first_is others_is more second_is third_is is = absurd is
three_parts text first others second third (a ∷ []) inside first_is others_is more second_is third_is is =
    absurd (omega (arith, inside, no_dot text a is.0 is.2))
three_parts text first others second third (a ∷ b ∷ []) inside first_is others_is more second_is third_is is =
    let parts = dot_parts text (decimal b) a (two_dotted text a b is.0) is.1 in
    absurd (omega (arith, more, no_dot others b (others_is ∙ parts.2) is.2))
three_parts text first others second third (a ∷ b ∷ c ∷ []) inside first_is others_is more second_is third_is is =
    let parts = dot_parts text (decimal b ++ 46 ∷ decimal c) a (is.0 ∙ three_shown a b c) is.1 in
    let parts' = dot_parts others (decimal c) b (others_is ∙ parts.2) is.2 in
    (a, b, c, refl, (first_is ∙ parts.1, is.1), (second_is ∙ parts'.1, is.2), (third_is ∙ parts'.2, is.3))
three_parts text first others second third (a ∷ b ∷ c ∷ d ∷ numbers) inside first_is others_is more second_is third_is
    is =
    absurd is

pub one_leading_network : (text : List ℕ) (result : Option Network)
    → IfSome result (λ network. (a : ℕ) × IsDecimal 255 text a × (1 ≤ a) × (network ≡ leading_network (a ∷ [])))
    → IfSome result (λ network. (numbers : List ℕ) × IsLeadingNumbers text numbers
    × (network ≡ leading_network numbers))
one_leading_network text None stated = tt
one_leading_network text (Some network) (a, is, some, same) = (a ∷ [], (is.0, some, is.1), same)

dotted : (text first second : List ℕ) (a b : ℕ) → dot_place text < length text → first ≡ before_dot text
    → second ≡ after_dot text → first ≡ decimal a → text ≡ decimal a ++ 46 ∷ second
dotted text first second a b inside first_is second_is is =
    split_is 46 text inside ∙ (λ i. (sym first_is ∙ is) i ++ 46 ∷ sym second_is i)

pub two_leading_network : (text first second : List ℕ) (result : Option Network) → dot_place text < length text
    → first ≡ before_dot text → second ≡ after_dot text
    → IfSome result (λ network. (a b : ℕ) × IsDecimal 255 first a × IsDecimal 255 second b
    × (network ≡ leading_network (a ∷ b ∷ [])))
    → IfSome result (λ network. (numbers : List ℕ) × IsLeadingNumbers text numbers
    × (network ≡ leading_network numbers))
two_leading_network text first second None inside first_is second_is stated = tt
two_leading_network text first second (Some network) inside first_is second_is (a, b, a_is, b_is, same) = (
  a ∷ b ∷ [],
  (
    dotted text first second a b inside first_is second_is a_is.0 ∙ (λ i. decimal a ++ 46 ∷ b_is.0 i)
        ∙ sym (append_assoc (decimal a) (46 ∷ []) (decimal b)),
    a_is.1,
    b_is.1,
  ),
  same,
)

pub three_leading_network : (text first others second third : List ℕ) (result : Option Network)
    → dot_place text < length text → first ≡ before_dot text → others ≡ after_dot text
    → dot_place others < length others → second ≡ before_dot others → third ≡ after_dot others
    → IfSome result (λ network. (a b c : ℕ) × IsDecimal 255 first a × IsDecimal 255 second b × IsDecimal 255 third c
    × (network ≡ leading_network (a ∷ b ∷ c ∷ [])))
    → IfSome result (λ network. (numbers : List ℕ) × IsLeadingNumbers text numbers
    × (network ≡ leading_network numbers))
three_leading_network text first others second third None inside first_is others_is more second_is third_is stated = tt
three_leading_network text first others second third (Some network) inside first_is others_is more second_is third_is
    (a, b, c, a_is, b_is, c_is, same) =
    let tail : others ≡ decimal b ++ 46 ∷ decimal c =
    dotted others second third b c more second_is third_is b_is.0 ∙ (λ i. decimal b ++ 46 ∷ c_is.0 i) in (
      a ∷ b ∷ c ∷ [],
      (
        dotted text first others a b inside first_is others_is a_is.0 ∙ (λ i. decimal a ++ 46 ∷ tail i)
            ∙ sym (three_shown a b c),
        a_is.1,
        b_is.1,
        c_is.1,
      ),
      same,
    )

-- The network of equal numbers.
pub leading_result : (numbers numbers' : List ℕ) (result : Option Network) → numbers ≡ numbers'
    → result ≡ Some (leading_network numbers') → result ≡ Some (leading_network numbers)
leading_result numbers numbers' result same is = is ∙ ap (λ (n : List ℕ). Some (leading_network n)) (sym same)
