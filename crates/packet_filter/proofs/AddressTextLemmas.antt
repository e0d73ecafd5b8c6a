-- Lemmas about IP addresses as text: the text of an address is one word, and it is read as the address.
use Rattle.std.proofs.Common.{◌≡◌, ℕ, zero, suc, ◌+◌, ◌-◌, ◌<◌, ◌≤◌, ◌^◌, ◌⊎◌, inl, inr, Bool, true, false, List, [], ◌∷◌, ◌++◌, length, replicate, codes, decimal, slice_index, refl, ap, sym, subst, ◌∙◌, arith, lt_of_lt_of_le, lit≤, lt-ltb, le-ltb}
use Rattle.std.specs.Char.{digit_value}
use Rattle.std.specs.Net.Addr.{MatchIp, IsIpv4Addr, IsIpv6Addr, ipv4_octets, ipv6_segments, segments_of}
use Rattle.std.specs.Net.Grammar.{IsColonHex, IsDotted, IsGroups, IsGroupsAfter, IsIpText}
use Rattle.std.specs.Net.Text.{ip_text}
use Rattle.std.specs.Str.Parse.{AllDigits, digits_value}
use Rattle.std.specs.declared.net.ip_addr.IpAddr.{IpAddr}
use Rattle.std.specs.declared.net.ip_addr.IpAddr.TheVariants.{V4, V6}
use Rattle.std.proofs.NetLemmas.Texts.{IsColonHex-ipv6_text, IsDotted-ipv4_text}
use Rattle.std.proofs.lemmas.Int.Digits.{digits_value-lt}
use Rattle.std.proofs.lemmas.Bool.{cases_lt}
use Rattle.filter_tokens.specs.Tokens.{is_alphanumeric, is_run_byte}
use Rattle.filter_language.proofs.WitnessLemmas.{segments_length}
use Rattle.packet_filter.proofs.WordTextLemmas
use Rattle.packet_filter.proofs.WordTextLemmas.{Each, IsWord, alphanumeric_of_capital, alphanumeric_of_digit, alphanumeric_of_small, digit_test, begins_longer, begins_with_digit, begins_word, colons, colons_append, decimal_begins, decimal_each, each_append, each_weaker, is_plain_byte, plain_of_alphanumeric, plain_run}

-- The types of addresses guarantee four numbers below 2^8, or eight below 2^16.
abbrev pub IsAddress : IpAddr → Type 0
IsAddress address = MatchIp address IsIpv4Addr IsIpv6Addr

-- ---- numbers below a bound

abbrev pub Below : ℕ → List ℕ → Type 0
Below bound [] = Unit {0}
Below bound (x ∷ xs) = (x < bound) × Below bound xs

pub below_at : (bound : ℕ) (xs : List ℕ) → 0 < bound → Below bound xs → (k : ℕ) → slice_index xs k < bound
below_at bound [] some below k = some
below_at bound (x ∷ xs) some below zero = below.0
below_at bound (x ∷ xs) some below (suc k) = below_at bound xs some below.1 k

pub below_append : (bound : ℕ) (xs ys : List ℕ) → Below bound xs → Below bound ys → Below bound (xs ++ ys)
below_append bound [] ys below more = more
below_append bound (x ∷ xs) ys below more = (below.0, below_append bound xs ys below.1 more)

pub below_zeros : (bound n : ℕ) → 0 < bound → Below bound (replicate n 0)
below_zeros bound zero some = tt
below_zeros bound (suc n) some = (some, below_zeros bound n some)

-- ---- the address of a text

dotted_octets : (text octets : List ℕ) → IsDotted text octets → Below 256 octets
dotted_octets text octets dotted =
    subst (Below 256) (sym dotted.value) (dotted.fit.0, (dotted.fit.1, (dotted.fit.2, (dotted.fit.3, tt))))

group_small : (text : List ℕ) → AllDigits 16 text → length text ≤ 4 → digits_value 16 text < 65536
group_small [] all short = omega arith
group_small (a ∷ []) all short = lt_of_lt_of_le (digits_value-lt 16 (a ∷ []) all) (lit≤ tt)
group_small (a ∷ b ∷ []) all short = lt_of_lt_of_le (digits_value-lt 16 (a ∷ b ∷ []) all) (lit≤ tt)
group_small (a ∷ b ∷ c ∷ []) all short = lt_of_lt_of_le (digits_value-lt 16 (a ∷ b ∷ c ∷ []) all) (lit≤ tt)
group_small (a ∷ b ∷ c ∷ d ∷ []) all short = lt_of_lt_of_le (digits_value-lt 16 (a ∷ b ∷ c ∷ d ∷ []) all) (lit≤ tt)
group_small (a ∷ b ∷ c ∷ d ∷ e ∷ text) all short = absurd (omega (arith, short))

dotted_segments : (text octets : List ℕ) → IsDotted text octets → Below 65536 (segments_of octets)
dotted_segments text octets dotted =
    subst (λ (list : List ℕ). Below 65536 (segments_of list)) (sym dotted.value)
    (omega (arith, dotted.fit), (omega (arith, dotted.fit), tt))

groups_below : (ipv4 : Bool) (lead text segments : List ℕ) → IsGroupsAfter ipv4 lead text segments
    → Below 65536 segments
groups_below ipv4 lead text [] is = tt
groups_below ipv4 lead text (s ∷ segments) (inl (group, rest, is, grouped, more)) = (
  subst (λ (n : ℕ). n < 65536) grouped.0.1 (group_small group grouped.0.0.1 grouped.1),
  groups_below ipv4 (codes ":") rest segments more,
)
groups_below ipv4 lead text (s ∷ segments) (inr (last, octets, four, is, dotted, same)) =
    subst (Below 65536) (sym same) (dotted_segments last octets dotted)

segments_below : (text segments : List ℕ) → IsColonHex text segments → Below 65536 segments
segments_below text segments (inl full) = groups_below true [] text segments full.0
segments_below text segments (inr elided) =
    let zeros : List ℕ = replicate (8 - length elided.head - length elided.tail) 0 in
    subst (Below 65536) (sym elided.value)
    (below_append 65536 (elided.head ++ zeros) elided.tail
    (below_append 65536 elided.head zeros (groups_below false [] elided.head_text elided.head elided.head_groups)
    (below_zeros 65536 (8 - length elided.head - length elided.tail) (omega arith)))
    (groups_below true [] elided.tail_text elided.tail elided.tail_groups))

-- The text of an address gives numbers in range.
pub address_of_text : (text : List ℕ) (address : IpAddr) → IsIpText text address → IsAddress address
address_of_text text (V4 a) is =
    (ap length is.value, below_at 256 (ipv4_octets a) (omega arith) (dotted_octets text (ipv4_octets a) is))
address_of_text text (V6 a) is = (
  segments_length text (ipv6_segments a) is,
  below_at 65536 (ipv6_segments a) (omega arith) (segments_below text (ipv6_segments a) is),
)

-- The printed form of an address is a text of it.
pub ip_text_is : (address : IpAddr) → IsAddress address → IsIpText (ip_text address) address
ip_text_is (V4 a) fits = IsDotted-ipv4_text (ipv4_octets a) fits.0 fits.1
ip_text_is (V6 a) fits = IsColonHex-ipv6_text (ipv6_segments a) fits.0 fits.1

-- ---- the bytes of an address

no_digit_low : (c : ℕ) → c < 48 → digit_value c < 16 → ⊥
no_digit_low c less small =
    let value : digit_value c ≡ 36 = rw (lt-ltb c 48 less) refl in omega (arith, value, small)

no_digit_middle : (c : ℕ) → 58 ≤ c → c < 65 → digit_value c < 16 → ⊥
no_digit_middle c more less small =
    let after_first : 48 ≤ c = omega (arith, more) in
    let value : digit_value c ≡ 36 = rw (le-ltb c 48 after_first, le-ltb c 58 more, lt-ltb c 65 less) refl in
    omega (arith, value, small)

no_digit_high : (c : ℕ) → 91 ≤ c → c < 97 → digit_value c < 16 → ⊥
no_digit_high c more less small =
    let first : 48 ≤ c = omega (arith, more) in
    let second : 58 ≤ c = omega (arith, more) in
    let third : 65 ≤ c = omega (arith, more) in
    let value : digit_value c ≡ 36 =
    rw (le-ltb c 48 first, le-ltb c 58 second, le-ltb c 65 third, le-ltb c 91 more, lt-ltb c 97 less) refl in
    omega (arith, value, small)

no_digit_past : (c : ℕ) → 123 ≤ c → digit_value c < 16 → ⊥
no_digit_past c more small =
    let first : 48 ≤ c = omega (arith, more) in
    let second : 58 ≤ c = omega (arith, more) in
    let third : 65 ≤ c = omega (arith, more) in
    let fourth : 91 ≤ c = omega (arith, more) in
    let fifth : 97 ≤ c = omega (arith, more) in
    let value : digit_value c ≡ 36 =
    rw (
      le-ltb c 48 first,
      le-ltb c 58 second,
      le-ltb c 65 third,
      le-ltb c 91 fourth,
      le-ltb c 97 fifth,
      le-ltb c 123 more,
    ) refl in
    omega (arith, value, small)

-- A hexadecimal digit is a letter or digit.
pub hex_digit_is : (c : ℕ) → digit_value c < 16 → is_alphanumeric c ≡ true
hex_digit_is c small =
    elim (cases_lt c 48) [
      | inl less ↦ absurd (no_digit_low c less small)
      | inr after_0 ↦ elim (cases_lt c 58) [
        | inl less ↦ alphanumeric_of_digit c (digit_test c after_0 (omega (arith, less)))
        | inr after_9 ↦ elim (cases_lt c 65) [
          | inl less ↦ absurd (no_digit_middle c after_9 less small)
          | inr after_A ↦ elim (cases_lt c 91) [
            | inl less ↦ alphanumeric_of_capital c after_A (omega (arith, less))
            | inr after_Z ↦ elim (cases_lt c 97) [
              | inl less ↦ absurd (no_digit_high c after_Z less small)
              | inr after_a ↦ elim (cases_lt c 123) [
                | inl less ↦ alphanumeric_of_small c after_a (omega (arith, less))
                | inr past ↦ absurd (no_digit_past c past small)
              ]
            ]
          ]
        ]
      ]
    ]

hex_each : (text : List ℕ) → AllDigits 16 text → Each is_alphanumeric text
hex_each [] all = tt
hex_each (c ∷ text) all = (hex_digit_is c all.0, hex_each text all.1)

hex_run : (text : List ℕ) → AllDigits 16 text → Each is_run_byte text
hex_run text all =
    plain_run text (each_weaker is_alphanumeric is_plain_byte plain_of_alphanumeric text (hex_each text all))

-- A text begins with a digit and has no colons.
abbrev pub IsPlain : List ℕ → Type 0
IsPlain text = (begins_with_digit text ≡ true) × Each is_plain_byte text

plain_more : (text more : List ℕ) → IsPlain text → Each is_plain_byte more → IsPlain (text ++ more)
plain_more text more is each =
    (begins_longer text more is.0, each_append is_plain_byte text more is.1 each)

small : (n : ℕ) → n < 256 → n < 2 ^ 64
small n less = omega (arith, less)

dotted_plain : (text octets : List ℕ) → IsDotted text octets → IsPlain text
dotted_plain text octets dotted =
    let dot : Each is_plain_byte (codes ".") = (refl, tt) in
    let first : IsPlain (decimal dotted.a) =
    (decimal_begins dotted.a (small dotted.a dotted.fit.0), decimal_each dotted.a (small dotted.a dotted.fit.0)) in
    subst IsPlain (sym dotted.spelled)
    (plain_more _ (decimal dotted.d) (plain_more _ (codes ".") (plain_more _ (decimal dotted.c)
    (plain_more _ (codes ".") (plain_more _ (decimal dotted.b) (plain_more (decimal dotted.a) (codes ".") first dot)
    (decimal_each dotted.b (small dotted.b dotted.fit.1))) dot)
    (decimal_each dotted.c (small dotted.c dotted.fit.2))) dot)
    (decimal_each dotted.d (small dotted.d dotted.fit.3)))

groups_run : (ipv4 : Bool) (lead text segments : List ℕ) → IsGroupsAfter ipv4 lead text segments
    → Each is_run_byte lead → Each is_run_byte text
groups_run ipv4 lead text [] is each = subst (Each is_run_byte) (sym is) tt
groups_run ipv4 lead text (s ∷ segments) (inl (group, rest, is, grouped, more)) each =
    subst (Each is_run_byte) (sym is)
    (each_append is_run_byte (lead ++ group) rest
    (each_append is_run_byte lead group each (hex_run group grouped.0.0.1))
    (groups_run ipv4 (codes ":") rest segments more (refl, tt)))
groups_run ipv4 lead text (s ∷ segments) (inr (last, octets, four, is, dotted, same)) each =
    subst (Each is_run_byte) (sym is)
    (each_append is_run_byte lead last each (plain_run last (dotted_plain last octets dotted).1))

two_segments : (text octets segments : List ℕ) → IsDotted text octets → segments ≡ segments_of octets
    → length segments ≡ 2
two_segments text octets segments dotted same =
    ap length (same ∙ ap segments_of dotted.value)

groups_colons : (ipv4 : Bool) (text segments : List ℕ) → IsGroupsAfter ipv4 (codes ":") text segments
    → length segments ≤ colons text + 1
groups_colons ipv4 text [] is = omega arith
groups_colons ipv4 text (s ∷ segments) (inl (group, rest, is, grouped, more)) =
    omega (
      arith,
      ap colons is,
      colons_append (58 ∷ group) rest,
      colons_append (58 ∷ []) group,
      groups_colons ipv4 rest segments more,
    )
groups_colons ipv4 text (s ∷ segments) (inr (last, octets, four, is, dotted, same)) =
    omega (arith, ap colons is, colons_append (58 ∷ []) last, two_segments last octets (s ∷ segments) dotted same)

-- Eight groups have two colons or more between them.
full_colons : (ipv4 : Bool) (text segments : List ℕ) → IsGroups ipv4 text segments → length segments ≡ 8
    → 2 ≤ colons text
full_colons ipv4 text [] is eight = absurd (omega (arith, eight))
full_colons ipv4 text (s ∷ segments) (inl (group, rest, is, grouped, more)) eight =
    omega (arith, eight, ap colons is, colons_append group rest, groups_colons ipv4 rest segments more)
full_colons ipv4 text (s ∷ segments) (inr (last, octets, four, is, dotted, same)) eight =
    absurd (omega (arith, eight, two_segments last octets (s ∷ segments) dotted same))

begins_more : (text more : List ℕ) → begins_word text ≡ true → begins_word (text ++ more) ≡ true
begins_more [] more is = let never : ⊥ = cc in absurd never
begins_more (byte ∷ text) more is = is

hex_begins : (text : List ℕ) → 0 < length text → Each is_alphanumeric text → begins_word text ≡ true
hex_begins [] some each = absurd (omega (arith, some))
hex_begins (byte ∷ text) some each = WordTextLemmas.start_of_alphanumeric byte each.0

digit_begins : (text : List ℕ) → begins_with_digit text ≡ true → begins_word text ≡ true
digit_begins [] is = is
digit_begins (byte ∷ text) is =
    WordTextLemmas.start_of_alphanumeric byte (WordTextLemmas.alphanumeric_of_digit byte is)

groups_begin : (ipv4 : Bool) (text segments : List ℕ) → IsGroups ipv4 text segments
    → (text ≡ []) ⊎ (begins_word text ≡ true)
groups_begin ipv4 text [] is = inl is
groups_begin ipv4 text (s ∷ segments) (inl (group, rest, is, grouped, more)) =
    inr (subst (λ (list : List ℕ). begins_word list ≡ true) (sym is)
    (begins_more group rest (hex_begins group grouped.0.0.0 (hex_each group grouped.0.0.1))))
groups_begin ipv4 text (s ∷ segments) (inr (last, octets, four, is, dotted, same)) =
    inr (subst (λ (list : List ℕ). begins_word list ≡ true) (sym is)
    (digit_begins last (dotted_plain last octets dotted).0))

full_begins : (text : List ℕ) → 2 ≤ colons text → ((text ≡ []) ⊎ (begins_word text ≡ true)) → begins_word text ≡ true
full_begins text many (inl none) = absurd (omega (arith, many, ap colons none))
full_begins text many (inr is) = is

elided_begins : (prefix back : List ℕ) → ((prefix ≡ []) ⊎ (begins_word prefix ≡ true))
    → begins_word ((prefix ++ codes "::") ++ back) ≡ true
elided_begins prefix back (inl none) =
    subst (λ (list : List ℕ). begins_word ((list ++ codes "::") ++ back) ≡ true) (sym none) refl
elided_begins prefix back (inr is) = begins_more (prefix ++ codes "::") back (begins_more prefix (codes "::") is)

colon_hex_word : (text segments : List ℕ) → IsColonHex text segments → IsWord text
colon_hex_word text segments (inl full) =
    let many : 2 ≤ colons text = full_colons true text segments full.0 full.1 in
    WordTextLemmas.with_colons text (full_begins text many (groups_begin true text segments full.0))
    (groups_run true [] text segments full.0 tt) many
colon_hex_word text segments (inr elided) =
    let prefix : List ℕ = elided.head_text ++ codes "::" in
    subst IsWord (sym elided.spelled)
    (WordTextLemmas.with_colons (prefix ++ elided.tail_text)
    (elided_begins elided.head_text elided.tail_text
    (groups_begin false elided.head_text elided.head elided.head_groups))
    (each_append is_run_byte prefix elided.tail_text
    (each_append is_run_byte elided.head_text (codes "::")
    (groups_run false [] elided.head_text elided.head elided.head_groups tt) (refl, (refl, tt)))
    (groups_run true [] elided.tail_text elided.tail elided.tail_groups tt))
    (omega (arith, colons_append prefix elided.tail_text, colons_append elided.head_text (codes "::"))))

-- The text of an address is a word.
pub address_word : (text : List ℕ) (address : IpAddr) → IsIpText text address → IsWord text
address_word text (V4 a) is =
    let present = dotted_plain text (ipv4_octets a) is in WordTextLemmas.plain text present.0 present.1
address_word text (V6 a) is = colon_hex_word text (ipv6_segments a) is
