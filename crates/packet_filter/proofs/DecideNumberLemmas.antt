-- Whether a text is a number, a range or a MAC address can be decided.
use Rattle.std.proofs.Common.{◌≡◌, ℕ, zero, suc, ◌^◌, ◌<◌, ◌≤◌, ◌==◌, ◌⊎◌, inl, inr, min, max, false, List, [], ◌∷◌, ◌++◌, length, drop, codes, decimal, refl, ap, sym, ◌∙◌, subst, arith, lit<, lit≤, append_assoc}
use Rattle.std.specs.Char.{digit_value}
use Rattle.std.specs.List.{after_first, before_first, list_any, position_or_len}
use Rattle.std.specs.Str.Parse.{AllDigits, IsNumeral, digits_value}
use Rattle.filter_tokens.specs.declared.primitive.Width.{Width}
use Rattle.filter_tokens.specs.declared.primitive.Width.TheVariants.{One, Two, Four}
use Rattle.filter_tokens.specs.Names.{constant_names, lookup_name, port_names}
use Rattle.filter_tokens.specs.Values.{IsAfterHexadecimalMark, IsConstant, IsDecimal, IsHexadecimal, IsLeadingNumbers, IsNumberText, IsOctet, IsOctets, IsPortText, IsRangeText, IsSizeText, IsStation, most_number}
use Rattle.filter_tokens.proofs.ValueLemmas.{decimal_digits, digits_lack, split_is, split_only}
use Rattle.packet_filter.proofs.DecidedLemmas.{Decided, Found, below_decided, both_decided, decided_as, either_decided, found_as, found_either, found_named, found_only, most_decided, same_decided, same_text_decided}

-- ---- numbers

digits_decided : (radix : ℕ) (text : List ℕ) → Decided (AllDigits radix text)
digits_decided radix [] = inl tt
digits_decided radix (c ∷ text) = both_decided (below_decided (digit_value c) radix) (digits_decided radix text)

numeral_decided : (radix : ℕ) (text : List ℕ) → Decided (IsNumeral radix text)
numeral_decided radix text = both_decided (below_decided 0 (length text)) (digits_decided radix text)

decimal_decided : (most : ℕ) (text : List ℕ) (number : ℕ) → Decided (IsDecimal most text number)
decimal_decided most text number = both_decided (same_text_decided text (decimal number)) (most_decided number most)

-- A decimal number with a property.
decimal_such : (most : ℕ) (text : List ℕ) (Q : ℕ → Type 0) → most < 2 ^ 64 → ((n : ℕ) → Decided (Q n))
    → Found (λ n. IsDecimal most text n × Q n)
decimal_such most text Q bound decided =
    found_only (λ n. IsDecimal most text n × Q n) (digits_value 10 text)
    (λ n is. (decimal_digits most text n bound is.0).1)
    (both_decided (decimal_decided most text (digits_value 10 text)) (decided (digits_value 10 text)))

pub decimal_found : (most : ℕ) (text : List ℕ) → most < 2 ^ 64 → Found (λ n. IsDecimal most text n)
decimal_found most text bound =
    found_only (λ n. IsDecimal most text n) (digits_value 10 text)
    (λ n is. (decimal_digits most text n bound is).1) (decimal_decided most text (digits_value 10 text))

rest_is : (text digits : List ℕ) → IsAfterHexadecimalMark text digits → digits ≡ drop 2 text
rest_is text digits (inl is) = sym (ap (drop 2) is)
rest_is text digits (inr is) = sym (ap (drop 2) is)

mark_decided : (text digits : List ℕ) → Decided (IsAfterHexadecimalMark text digits)
mark_decided text digits =
    either_decided (same_text_decided text (codes "0x" ++ digits)) (same_text_decided text (codes "0X" ++ digits))

abbrev IsHexadecimalOf : ℕ → List ℕ → ℕ → List ℕ → Type 0
IsHexadecimalOf most text number digits =
    IsAfterHexadecimalMark text digits
    × (IsNumeral 16 digits × ((digits_value 16 digits ≡ number) × (number ≤ most)))

hexadecimal_decided : (most : ℕ) (text : List ℕ) (number : ℕ) → Decided (IsHexadecimal most text number)
hexadecimal_decided most text number =
    decided_as {A = IsHexadecimalOf most text number (drop 2 text)} {B = IsHexadecimal most text number}
    (λ is. (drop 2 text, is.0, is.1.0, is.1.1.0, is.1.1.1))
    (λ is. subst (IsHexadecimalOf most text number) (rest_is text is.0 is.1) (is.1, (is.2, (is.3, is.4))))
    (both_decided (mark_decided text (drop 2 text))
    (both_decided (numeral_decided 16 (drop 2 text))
    (both_decided (same_decided (digits_value 16 (drop 2 text)) number) (most_decided number most))))

hexadecimal_such : (most : ℕ) (text : List ℕ) (Q : ℕ → Type 0) → ((n : ℕ) → Decided (Q n))
    → Found (λ n. IsHexadecimal most text n × Q n)
hexadecimal_such most text Q decided =
    found_only (λ n. IsHexadecimal most text n × Q n) (digits_value 16 (drop 2 text))
    (λ n is. ap (digits_value 16) (sym (rest_is text is.0.0 is.0.1)) ∙ is.0.3)
    (both_decided (hexadecimal_decided most text (digits_value 16 (drop 2 text)))
    (decided (digits_value 16 (drop 2 text))))

-- A text is this number, or is not.
pub number_decided : (most : ℕ) (text : List ℕ) (number : ℕ) → Decided (IsNumberText most text number)
number_decided most text number =
    either_decided (decimal_decided most text number) (hexadecimal_decided most text number)

-- A number with a property.
pub number_such : (most : ℕ) (text : List ℕ) (Q : ℕ → Type 0) → most < 2 ^ 64 → ((n : ℕ) → Decided (Q n))
    → Found (λ n. IsNumberText most text n × Q n)
number_such most text Q bound decided =
    found_as (λ n. (IsDecimal most text n × Q n) ⊎ (IsHexadecimal most text n × Q n))
    (λ n. IsNumberText most text n × Q n)
    (λ n is. (n, elim is [ inl is ↦ (inl is.0, is.1) | inr is ↦ (inr is.0, is.1) ]))
    (λ n is. (n, elim is.0 [ inl stated ↦ inl (stated, is.1) | inr stated ↦ inr (stated, is.1) ]))
    (found_either (λ n. IsDecimal most text n × Q n) (λ n. IsHexadecimal most text n × Q n)
    (decimal_such most text Q bound decided) (hexadecimal_such most text Q decided))

pub number_found : (most : ℕ) (text : List ℕ) → most < 2 ^ 64 → Found (λ n. IsNumberText most text n)
number_found most text bound =
    found_as (λ n. IsNumberText most text n × Unit {0}) (λ n. IsNumberText most text n) (λ n is. (n, is.0))
    (λ n is. (n, (is, tt))) (number_such most text (λ n. Unit {0}) bound (λ n. inl tt))

pub constant_found : (text : List ℕ) → Found (λ n. IsConstant text n)
constant_found text =
    found_named (lookup_name text constant_names) (λ n. IsNumberText most_number text n)
    (number_found most_number text (lit< tt))

pub port_found : (text : List ℕ) → Found (λ n. IsPortText text n)
port_found text =
    found_named (lookup_name text port_names) (λ n. IsNumberText 65535 text n) (number_found 65535 text (lit< tt))

pub size_found : (text : List ℕ) → Found (λ width. IsSizeText text width)
size_found text =
    by_numbers (number_decided most_number text 1) (number_decided most_number text 2)
    (number_decided most_number text 4)
  where
    by_numbers : Decided (IsNumberText most_number text 1) → Decided (IsNumberText most_number text 2)
        → Decided (IsNumberText most_number text 4) → Found (λ width. IsSizeText text width)
    by_numbers (inl one) d e = inl (One, one)
    by_numbers (inr not_one) (inl two) e = inl (Two, two)
    by_numbers (inr not_one) (inr not_two) (inl four) = inl (Four, four)
    by_numbers (inr not_one) (inr not_two) (inr not_four) =
        inr (λ width is. no_width width not_one not_two not_four is)
      where
        no_width : (width : Width) → (¬ IsNumberText most_number text 1) → (¬ IsNumberText most_number text 2)
            → (¬ IsNumberText most_number text 4) → ¬ IsSizeText text width
        no_width One not_one not_two not_four is = not_one is
        no_width Two not_one not_two not_four is = not_two is
        no_width Four not_one not_two not_four is = not_four is

-- ---- texts with separators

-- The bytes before the first separator, and those after it.
abbrev pub IsParts : {V W : Type 0} → ℕ → (List ℕ → V → Type 0) → (List ℕ → W → Type 0) → List ℕ → V × W → Type 0
IsParts separator A R text p =
    (first rest : List ℕ) × (text ≡ first ++ separator ∷ rest) × A first p.0 × R rest p.1

module _ {V W : Type 0} (separator : ℕ) (A : List ℕ → V → Type 0) (R : List ℕ → W → Type 0)
    (lacks : (first : List ℕ) (v : V) → A first v → list_any (λ b. b == separator) first ≡ false) (text : List ℕ) where
  at_separator : position_or_len (λ b. b == separator) text < length text
      → Found (A (before_first (λ b. b == separator) text)) → Found (R (after_first (λ b. b == separator) text))
      → Found (λ p. IsParts separator A R text p)
  at_separator inside (inl (v, a)) (inl (w, r)) =
      inl (
        (v, w),
        (
          before_first (λ b. b == separator) text,
          after_first (λ b. b == separator) text,
          split_is separator text inside,
          a,
          r,
        ),
      )
  at_separator inside (inr none) d =
      inr (λ p is. none p.0 (subst (λ t. A t p.0)
      (sym (split_only separator text is.0 is.1 (lacks is.0 p.0 is.3) is.2).1) is.3))
  at_separator inside (inl (v, a)) (inr none) =
      inr (λ p is. none p.1 (subst (λ t. R t p.1)
      (sym (split_only separator text is.0 is.1 (lacks is.0 p.0 is.3) is.2).2) is.4))

  pub parts_found : ((t : List ℕ) → Found (A t)) → ((t : List ℕ) → Found (R t))
      → Found (λ p. IsParts separator A R text p)
  parts_found find find' = elim (below_decided (position_or_len (λ b. b == separator) text) (length text)) [
    | inl inside ↦
        at_separator inside (find (before_first (λ b. b == separator) text))
        (find' (after_first (λ b. b == separator) text))
    | inr complete ↦
        inr (λ p is. complete (split_only separator text is.0 is.1 (lacks is.0 p.0 is.3) is.2).0)
  ]

decimal_without : (most separator : ℕ) (text : List ℕ) (number : ℕ) → most < 2 ^ 64 → 10 ≤ digit_value separator
    → IsDecimal most text number → list_any (λ b. b == separator) text ≡ false
decimal_without most separator text number bound large is =
    digits_lack 10 separator text large (decimal_digits most text number bound is).0.1

joined : (separator : ℕ) (text first rest first' rest' : List ℕ) → text ≡ first ++ separator ∷ rest → first ≡ first'
    → rest ≡ rest' → text ≡ first' ++ (separator ∷ []) ++ rest'
joined separator text first rest first' rest' is same same' =
    is ∙ (λ i. same i ++ separator ∷ same' i) ∙ sym (append_assoc first' (separator ∷ []) rest')

-- ---- ranges of ports

abbrev IsTwoPorts : List ℕ → ℕ × ℕ → Type 0
IsTwoPorts text p = IsParts 45 (IsDecimal 65535) (IsDecimal 65535) text p

two_ports_found : (text : List ℕ) → Found (λ p. IsTwoPorts text p)
two_ports_found text =
    parts_found 45 (IsDecimal 65535) (IsDecimal 65535)
    (λ first v is. decimal_without 65535 45 first v (lit< tt) (lit≤ tt) is) text
    (λ t. decimal_found 65535 t (lit< tt)) (λ t. decimal_found 65535 t (lit< tt))

pub range_found : (text : List ℕ) → Found (λ (p : ℕ × ℕ). IsRangeText text p.0 p.1)
range_found text = by_form (decimal_found 65535 text (lit< tt)) (two_ports_found text)
  where
    by_form : Found (λ n. IsDecimal 65535 text n) → Found (λ p. IsTwoPorts text p)
        → Found (λ (p : ℕ × ℕ). IsRangeText text p.0 p.1)
    by_form (inl (n, is)) d = inl ((n, n), inl (is, refl))
    by_form (inr none) (inl ((a, b), (first, rest, is, a_is, b_is))) =
        inl (
          (min a b, max a b),
          inr (a, b, joined 45 text first rest (decimal a) (decimal b) is a_is.0 b_is.0, a_is.1, b_is.1, refl, refl),
        )
    by_form (inr none) (inr never) = inr (λ (p : ℕ × ℕ) (is : IsRangeText text p.0 p.1). elim is [
      | inl one ↦ none p.0 one.0
      | inr two ↦
          never (two.0, two.1) (
            decimal two.0,
            decimal two.1,
            two.2 ∙ append_assoc (decimal two.0) (45 ∷ []) (decimal two.1),
            (refl, two.3),
            (refl, two.4),
          )
    ])

-- ---- the first numbers of an address

abbrev IsByte : List ℕ → ℕ → Type 0
IsByte text number = IsDecimal 255 text number

byte_lacks_dot : (first : List ℕ) (v : ℕ) → IsByte first v → list_any (λ b. b == 46) first ≡ false
byte_lacks_dot first v is = decimal_without 255 46 first v (lit< tt) (lit≤ tt) is

abbrev IsTwoBytes : List ℕ → ℕ × ℕ → Type 0
IsTwoBytes text p = IsParts 46 IsByte IsByte text p

abbrev IsThreeBytes : List ℕ → ℕ × (ℕ × ℕ) → Type 0
IsThreeBytes text p = IsParts 46 IsByte IsTwoBytes text p

two_bytes_found : (text : List ℕ) → Found (λ p. IsTwoBytes text p)
two_bytes_found text =
    parts_found 46 IsByte IsByte byte_lacks_dot text (λ t. decimal_found 255 t (lit< tt))
    (λ t. decimal_found 255 t (lit< tt))

three_bytes_found : (text : List ℕ) → Found (λ p. IsThreeBytes text p)
three_bytes_found text =
    parts_found 46 IsByte IsTwoBytes byte_lacks_dot text (λ t. decimal_found 255 t (lit< tt)) two_bytes_found

no_leading : (text : List ℕ) → ((n : ℕ) → ¬ (IsDecimal 255 text n × (1 ≤ n))) → ((p : ℕ × ℕ) → ¬ IsTwoBytes text p)
    → ((p : ℕ × (ℕ × ℕ)) → ¬ IsThreeBytes text p) → (numbers : List ℕ) → ¬ IsLeadingNumbers text numbers
no_leading text no_one no_two no_three [] is = is
no_leading text no_one no_two no_three (a ∷ []) is = no_one a ((is.0, is.2), is.1)
no_leading text no_one no_two no_three (a ∷ b ∷ []) is =
    no_two (a, b)
    (decimal a, decimal b, is.0 ∙ append_assoc (decimal a) (46 ∷ []) (decimal b), (refl, is.1), (refl, is.2))
no_leading text no_one no_two no_three (a ∷ b ∷ c ∷ []) is =
    let shown : text ≡ decimal a ++ 46 ∷ (decimal b ++ 46 ∷ decimal c) = is.0 ∙ simp append_assoc in
    no_three (a, (b, c)) (
      decimal a,
      decimal b ++ 46 ∷ decimal c,
      shown,
      (refl, is.1),
      (decimal b, decimal c, refl, (refl, is.2), (refl, is.3)),
    )
no_leading text no_one no_two no_three (a ∷ b ∷ c ∷ d ∷ numbers) is = is

pub leading_found : (text : List ℕ) → Found (λ numbers. IsLeadingNumbers text numbers)
leading_found text =
    by_form (decimal_such 255 text (λ n. 1 ≤ n) (lit< tt) (λ n. most_decided 1 n)) (two_bytes_found text)
    (three_bytes_found text)
  where
    by_form : Found (λ n. IsDecimal 255 text n × (1 ≤ n)) → Found (λ p. IsTwoBytes text p)
        → Found (λ p. IsThreeBytes text p) → Found (λ numbers. IsLeadingNumbers text numbers)
    by_form (inl (a, (is, some))) d e = inl (a ∷ [], (is.0, some, is.1))
    by_form (inr no_one) (inl ((a, b), (first, rest, is, a_is, b_is))) e =
        inl (a ∷ b ∷ [], (joined 46 text first rest (decimal a) (decimal b) is a_is.0 b_is.0, a_is.1, b_is.1))
    by_form (inr no_one) (inr no_two) (inl ((a, (b, c)), (first, rest, is, a_is, (second, third, is', b_is, c_is)))) =
        inl (
          a ∷ b ∷ c ∷ [],
          (
            joined 46 text first rest (decimal a) (decimal b ++ codes "." ++ decimal c) is a_is.0
                (joined 46 rest second third (decimal b) (decimal c) is' b_is.0 c_is.0)
                ∙ three_dots a b c,
            a_is.1,
            b_is.1,
            c_is.1,
          ),
        )
      where
        three_dots : (a b c : ℕ) → decimal a ++ (46 ∷ []) ++ (decimal b ++ codes "." ++ decimal c)
            ≡ decimal a ++ codes "." ++ decimal b ++ codes "." ++ decimal c
        three_dots a b c = simp append_assoc
    by_form (inr no_one) (inr no_two) (inr no_three) = inr (no_leading text no_one no_two no_three)

-- ---- MAC addresses

octet_found : (text : List ℕ) → Found (λ n. IsOctet text n)
octet_found text =
    found_only (λ n. IsOctet text n) (digits_value 16 text) (λ n is. is.2)
    (decided_as {A = IsNumeral 16 text × (length text ≤ 2)} {B = IsOctet text (digits_value 16 text)}
    (λ is. (is.0, is.1, refl)) (λ is. (is.0, is.1))
    (both_decided (numeral_decided 16 text) (most_decided (length text) 2)))

-- So many octets.
abbrev IsOctetsOf : ℕ → List ℕ → List ℕ → Type 0
IsOctetsOf n text octets = IsOctets text octets × (length octets ≡ n)

octets_found : (n : ℕ) (text : List ℕ) → Found (λ octets. IsOctetsOf (suc n) text octets)
octets_found zero text = by_octet (octet_found text)
  where
    no_octet : ((n : ℕ) → ¬ IsOctet text n) → (octets : List ℕ) → ¬ IsOctetsOf 1 text octets
    no_octet none [] is = is.0
    no_octet none (octet ∷ []) is = none octet is.0
    no_octet none (octet ∷ octet' ∷ octets) is = omega (arith, is.1)

    by_octet : Found (λ n. IsOctet text n) → Found (λ octets. IsOctetsOf 1 text octets)
    by_octet (inl (octet, is)) = inl (octet ∷ [], (is, refl))
    by_octet (inr none) = inr (no_octet none)
octets_found (suc n) text =
    by_parts n
    (parts_found 58 IsOctet (IsOctetsOf (suc n)) (λ first v is. digits_lack 16 58 first (lit≤ tt) is.0.1) text
    octet_found (octets_found n))
  where
    more_octets : (n octet : ℕ) (octets first rest : List ℕ) → text ≡ first ++ 58 ∷ rest → IsOctet first octet
        → IsOctetsOf (suc n) rest octets → IsOctetsOf (suc (suc n)) text (octet ∷ octets)
    more_octets n octet [] first rest is here others = absurd others.0
    more_octets n octet (octet' ∷ octets) first rest is here others =
        ((first, rest, is ∙ sym (append_assoc first (58 ∷ []) rest), here, others.0), omega (arith, others.1))

    no_parts : (n : ℕ) → ((p : ℕ × List ℕ) → ¬ IsParts 58 IsOctet (IsOctetsOf (suc n)) text p) → (octets : List ℕ)
        → ¬ IsOctetsOf (suc (suc n)) text octets
    no_parts n none [] is = is.0
    no_parts n none (octet ∷ []) is = omega (arith, is.1)
    no_parts n none (octet ∷ octet' ∷ octets) ((first, rest, is, here, others), len) =
        none (octet, octet' ∷ octets)
        (first, rest, is ∙ append_assoc first (58 ∷ []) rest, here, (others, omega (arith, len)))

    by_parts : (n : ℕ) → Found (λ p. IsParts 58 IsOctet (IsOctetsOf (suc n)) text p)
        → Found (λ octets. IsOctetsOf (suc (suc n)) text octets)
    by_parts n (inl ((octet, octets), (first, rest, is, here, others))) =
        inl (octet ∷ octets, more_octets n octet octets first rest is here others)
    by_parts n (inr none) = inr (no_parts n none)

pub station_found : (text : List ℕ) → Found (λ octets. IsStation text octets)
station_found text = octets_found 5 text
