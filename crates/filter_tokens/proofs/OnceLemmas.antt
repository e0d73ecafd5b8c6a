-- Lemmas about values: a word has one value.
use Rattle.std.proofs.Common.{◌≡◌, ℕ, ◌-◌, ◌*◌, ◌^◌, ◌<◌, ◌≤◌, ◌⊎◌, inl, inr, Bool, true, false, ◌||◌, ◌==◌, List, [], ◌∷◌, ◌++◌, length, replicate, min, max, Option, Some, None, codes, count_ones, sum_by, decimal, refl, ap, ap₂, sym, ◌∙◌, subst, arith, lit<, lit≤, drop, append_assoc}
use Rattle.std.specs.List.{list_any, position_or_len, before_first, after_first}
use Rattle.std.specs.Net.Addr.{ipv4_octets, ipv6_segments, segments_of}
use Rattle.std.specs.Net.Grammar.{IsColonHex, IsDotted, IsGroups, IsGroupsAfter, IsIpText}
use Rattle.std.specs.Net.Reader.{read_octet}
use Rattle.std.specs.Net.Text.{dotted_text}
use Rattle.std.specs.Str.Parse.{digits_value}
use Rattle.std.specs.declared.net.ip_addr.IpAddr.{IpAddr}
use Rattle.std.specs.declared.net.ip_addr.IpAddr.TheVariants.{V4, V6}
use Rattle.std.proofs.NetLemmas.Ipv4.{read_octet_complete}
use Rattle.std.proofs.NetLemmas.Numbers.{NoDigit}
use Rattle.std.proofs.NetLemmas.Options.{same_parts}
use Rattle.std.proofs.NetLemmas.Theorems.{IsIpText_unique}
use Rattle.std.proofs.lemmas.Fmt.{decimal_injective, decimal_is_IsNumeral}
use Rattle.std.proofs.lemmas.List.{append-nil}
use Rattle.std.proofs.lemmas.List.Folds.{list_any-append}
use Rattle.filter_tokens.specs.declared.network.Network.{Network}
use Rattle.filter_tokens.specs.declared.primitive.Width.{Width}
use Rattle.filter_tokens.specs.declared.primitive.Width.TheVariants.{One, Two, Four}
use Rattle.filter_tokens.specs.Names.{constant_names, lookup_name, port_names}
use Rattle.filter_tokens.specs.Networks.{address_bytes, address_width}
use Rattle.filter_tokens.specs.Values.{IsConstant, IsDecimal, IsLeadingNumbers, IsLength, IsMask, IsNetworkText, IsNumberText, IsOctet, IsOctets, IsPortText, IsRangeText, IsSizeText, IsStation, mask_bytes, most_number}
use Rattle.filter_tokens.proofs.MaskLemmas.{mask_ones}
use Rattle.filter_tokens.proofs.ValueLemmas.{bytes_of, decimal_lacks, digits_lack, no_decimal_mark, none_is_some, octet_first, place_of_none, rest_after, size_number, some_is, split_only, with_dash}

-- ---- numbers

pub one_decimal : (most more : ℕ) (text : List ℕ) (number number' : ℕ) → most < 2 ^ 64 → more < 2 ^ 64
    → IsDecimal most text number → IsDecimal more text number' → number ≡ number'
one_decimal most more text number number' bound bound' is is' =
    decimal_injective number number' (omega (arith, is.1, bound)) (omega (arith, is'.1, bound')) (sym is.0 ∙ is'.0)

-- A number is written in one way. (`decimal` writes the last 64 digits, so a bound is needed.)
pub one_number : (most more : ℕ) (text : List ℕ) (number number' : ℕ) → most < 2 ^ 64 → more < 2 ^ 64
    → IsNumberText most text number → IsNumberText more text number' → number ≡ number'
one_number most more text number number' bound bound' (inl is) (inl is') =
    one_decimal most more text number number' bound bound' is is'
one_number most more text number number' bound bound' (inl is) (inr (digits', mark', numeral', is', small')) =
    absurd (no_decimal_mark most text digits' number bound mark' is)
one_number most more text number number' bound bound' (inr (digits, mark, numeral, is, small)) (inl is') =
    absurd (no_decimal_mark more text digits number' bound' mark is')
one_number most more text number number' bound bound' (inr (digits, mark, numeral, is, small))
    (inr (digits', mark', numeral', is', small')) =
    let same : digits ≡ digits' = rest_after text digits mark ∙ sym (rest_after text digits' mark') in
    sym is ∙ ap (digits_value 16) same ∙ is'

-- A text that is a name or else a number has one value, if the number has.
one_named : (A : ℕ → Type 0) (found : Option ℕ) (number number' : ℕ) → ((a b : ℕ) → A a → A b → a ≡ b)
    → (found ≡ Some number) ⊎ ((found ≡ None) × A number) → (found ≡ Some number') ⊎ ((found ≡ None) × A number')
    → number ≡ number'
one_named A found number number' one (inl is) (inl is') = some_is number number' (sym is ∙ is')
one_named A found number number' one (inl is) (inr (missing, is')) = absurd (none_is_some (sym missing ∙ is))
one_named A found number number' one (inr (missing, is)) (inl is') = absurd (none_is_some (sym missing ∙ is'))
one_named A found number number' one (inr (missing, is)) (inr (missing', is')) = one number number' is is'

pub one_constant : (text : List ℕ) (number number' : ℕ) → IsConstant text number → IsConstant text number'
    → number ≡ number'
one_constant text number number' is is' =
    one_named (IsNumberText most_number text) (lookup_name text constant_names) number number'
    (λ a b. one_number most_number most_number text a b (lit< tt) (lit< tt)) is is'

pub one_port_text : (text : List ℕ) (port port' : ℕ) → IsPortText text port → IsPortText text port' → port ≡ port'
one_port_text text port port' is is' =
    one_named (IsNumberText 65535 text) (lookup_name text port_names) port port'
    (λ a b. one_number 65535 65535 text a b (lit< tt) (lit< tt)) is is'

width_small : (address : IpAddr) → address_width address < 2 ^ 64
width_small (V4 address) = lit< tt
width_small (V6 address) = lit< tt

pub one_length : (address : IpAddr) (text : List ℕ) (bits bits' : ℕ) → IsLength address text bits
    → IsLength address text bits' → bits ≡ bits'
one_length address text bits bits' is is' =
    one_decimal (address_width address) (address_width address) text bits bits' (width_small address)
    (width_small address) is is'

pub one_mask : (address : IpAddr) (text : List ℕ) (bits bits' : ℕ) → IsMask address text bits
    → IsMask address text bits' → bits ≡ bits'
one_mask (V4 address) text bits bits' (mask, stated) (mask', stated') =
    let same : mask ≡ mask' = IsIpText_unique text mask mask' stated.0 stated'.0 in
    let bytes : mask_bytes bits ≡ mask_bytes bits' = sym stated.2 ∙ ap address_bytes same ∙ stated'.2 in
    sym (mask_ones bits stated.1) ∙ ap (sum_by count_ones) bytes ∙ mask_ones bits' stated'.1
one_mask (V6 address) text bits bits' is is' = absurd is

one_width : (width width' : Width) → bytes_of width ≡ bytes_of width' → width ≡ width'
one_width One One is = refl
one_width One Two is = absurd (omega (arith, is))
one_width One Four is = absurd (omega (arith, is))
one_width Two One is = absurd (omega (arith, is))
one_width Two Two is = refl
one_width Two Four is = absurd (omega (arith, is))
one_width Four One is = absurd (omega (arith, is))
one_width Four Two is = absurd (omega (arith, is))
one_width Four Four is = refl

pub one_size : (text : List ℕ) (width width' : Width) → IsSizeText text width → IsSizeText text width'
    → width ≡ width'
one_size text width width' is is' =
    one_width width width'
    (one_number most_number most_number text (bytes_of width) (bytes_of width') (lit< tt) (lit< tt)
    (size_number text width is) (size_number text width' is'))

-- ---- ranges of ports

range_parts : (text : List ℕ) (first second : ℕ) → text ≡ decimal first ++ codes "-" ++ decimal second
    → first ≤ 65535
    → (position_or_len (λ b. b == 45) text < length text)
    × (before_first (λ b. b == 45) text ≡ decimal first) × (after_first (λ b. b == 45) text ≡ decimal second)
range_parts text first second is fits =
    split_only 45 text (decimal first) (decimal second)
    (decimal_lacks 65535 (decimal first) first 45 (lit< tt) (lit≤ tt) (refl, fits))
    (with_dash text (decimal first) (decimal second) is)

no_dash : (text : List ℕ) (port first second : ℕ) → IsDecimal 65535 text port
    → text ≡ decimal first ++ codes "-" ++ decimal second → first ≤ 65535 → ⊥
no_dash text port first second is two fits =
    let complete = place_of_none (λ b. b == 45) text (decimal_lacks 65535 text port 45 (lit< tt) (lit≤ tt) is) in
    omega (arith, complete, (range_parts text first second two fits).0)

pub one_range : (text : List ℕ) (low high low' high' : ℕ) → IsRangeText text low high → IsRangeText text low' high'
    → (low ≡ low') × (high ≡ high')
one_range text low high low' high' (inl (is, same)) (inl (is', same')) =
    let low_is : low ≡ low' = one_decimal 65535 65535 text low low' (lit< tt) (lit< tt) is is' in
    (low_is, same ∙ low_is ∙ sym same')
one_range text low high low' high' (inl (is, same)) (inr (a', b', is', a_fits', b_fits', low_is', high_is')) =
    absurd (no_dash text low a' b' is is' a_fits')
one_range text low high low' high' (inr (a, b, is, a_fits, b_fits, low_is, high_is)) (inl (is', same')) =
    absurd (no_dash text low' a b is' is a_fits)
one_range text low high low' high' (inr (a, b, is, a_fits, b_fits, low_is, high_is))
    (inr (a', b', is', a_fits', b_fits', low_is', high_is')) =
    let parts = range_parts text a b is a_fits in
    let parts' = range_parts text a' b' is' a_fits' in
    let first : a ≡ a' =
    decimal_injective a a' (omega (arith, a_fits)) (omega (arith, a_fits')) (sym parts.1 ∙ parts'.1) in
    let second : b ≡ b' =
    decimal_injective b b' (omega (arith, b_fits)) (omega (arith, b_fits')) (sym parts.2 ∙ parts'.2) in
    (low_is ∙ ap₂ min first second ∙ sym low_is', high_is ∙ ap₂ max first second ∙ sym high_is')

-- ---- MAC addresses

-- An octet has no colon.
octet_complete : (text first rest : List ℕ) (octet octet' : ℕ) → IsOctet text octet → text ≡ first ++ codes ":" ++ rest
    → IsOctet first octet' → ⊥
octet_complete text first rest octet octet' is split is' =
    let complete = place_of_none (λ b. b == 58) text (digits_lack 16 58 text (lit≤ tt) is.0.1) in
    omega (arith, complete, (octet_first text first rest octet' split is').0)

-- A text has one list of octets.
pub one_octets : (text octets octets' : List ℕ) → IsOctets text octets → IsOctets text octets' → octets ≡ octets'
one_octets text [] octets' is is' = absurd is
one_octets text (a ∷ []) [] is is' = absurd is'
one_octets text (a ∷ []) (b ∷ []) is is' = ap (λ (o : ℕ). o ∷ []) (sym is.2 ∙ is'.2)
one_octets text (a ∷ []) (b ∷ b' ∷ octets') is (first', rest', split', octet', is') =
    absurd (octet_complete text first' rest' a b is split' octet')
one_octets text (a ∷ a' ∷ octets) [] is is' = absurd is'
one_octets text (a ∷ a' ∷ octets) (b ∷ []) (first, rest, split, octet, is) is' =
    absurd (octet_complete text first rest b a is' split octet)
one_octets text (a ∷ a' ∷ octets) (b ∷ b' ∷ octets') (first, rest, split, octet, is)
    (first', rest', split', octet', is') =
    let parts = octet_first text first rest a split octet in
    let parts' = octet_first text first' rest' b split' octet' in
    let same : a ≡ b = sym octet.2 ∙ ap (digits_value 16) (sym parts.1 ∙ parts'.1) ∙ octet'.2 in
    let others : a' ∷ octets ≡ b' ∷ octets' =
    one_octets rest (a' ∷ octets) (b' ∷ octets') is
    (subst (λ t. IsOctets t (b' ∷ octets')) (sym parts'.2 ∙ parts.2) is') in
    ap₂ (λ (o : ℕ) (os : List ℕ). o ∷ os) same others

pub one_station : (text octets octets' : List ℕ) → IsStation text octets → IsStation text octets' → octets ≡ octets'
one_station text octets octets' is is' = one_octets text octets octets' is.0 is'.0

-- ---- numbers with dots between

-- Numbers, each after a dot.
abbrev pub dotted_after : List ℕ → List ℕ
dotted_after [] = []
dotted_after (number ∷ numbers) = 46 ∷ decimal number ++ dotted_after numbers

-- Numbers of one byte.
abbrev pub AreBytes : List ℕ → Type 0
AreBytes [] = Unit {0}
AreBytes (number ∷ numbers) = (number ≤ 255) × AreBytes numbers

no_digit : (numbers : List ℕ) → NoDigit 10 (dotted_after numbers)
no_digit [] = lit≤ tt
no_digit (number ∷ numbers) = lit≤ tt

-- A number that ends where no digit follows is one number.
one_leading : (a b : ℕ) (rest rest' : List ℕ) → a ≤ 255 → b ≤ 255 → NoDigit 10 rest → NoDigit 10 rest'
    → decimal a ++ rest ≡ decimal b ++ rest' → (a ≡ b) × (rest ≡ rest')
one_leading a b rest rest' small small' ends ends' is =
    same_parts a b rest rest'
    (sym (read_octet_complete a rest (omega (arith, small)) ends) ∙ ap read_octet is
    ∙ read_octet_complete b rest' (omega (arith, small')) ends')

one_dotted : (numbers numbers' : List ℕ) → AreBytes numbers → AreBytes numbers'
    → dotted_after numbers ≡ dotted_after numbers' → numbers ≡ numbers'
one_dotted [] [] small small' is = refl
one_dotted [] (b ∷ numbers') small small' is = let never : ⊥ = cc in absurd never
one_dotted (a ∷ numbers) [] small small' is = let never : ⊥ = cc in absurd never
one_dotted (a ∷ numbers) (b ∷ numbers') small small' is =
    let (same, others) = one_leading a b (dotted_after numbers) (dotted_after numbers') small.0 small'.0
    (no_digit numbers) (no_digit numbers') (ap (drop 1) is) in
    ap₂ (λ (o : ℕ) (os : List ℕ). o ∷ os) same (one_dotted numbers numbers' small.1 small'.1 others)

-- The first numbers of an address.
leading_dotted : (text numbers : List ℕ) → IsLeadingNumbers text numbers
    → (46 ∷ text ≡ dotted_after numbers) × AreBytes numbers × (length numbers ≤ 3)
leading_dotted text [] is = absurd is
leading_dotted text (a ∷ []) is =
    (ap (λ t. 46 ∷ t) (is.0 ∙ sym (append-nil (decimal a))), (is.2, tt), lit≤ tt)
leading_dotted text (a ∷ b ∷ []) is =
    let shown : decimal a ++ codes "." ++ decimal b ≡ decimal a ++ 46 ∷ (decimal b ++ []) =
    simp (append_assoc, append-nil) in
    (ap (λ t. 46 ∷ t) (is.0 ∙ shown), (is.1, (is.2, tt)), lit≤ tt)
leading_dotted text (a ∷ b ∷ c ∷ []) is =
    let shown : decimal a ++ codes "." ++ decimal b ++ codes "." ++ decimal c
    ≡ decimal a ++ 46 ∷ (decimal b ++ 46 ∷ (decimal c ++ [])) =
    simp (append_assoc, append-nil) in
    (ap (λ t. 46 ∷ t) (is.0 ∙ shown), (is.1, (is.2, (is.3, tt))), lit≤ tt)
leading_dotted text (a ∷ b ∷ c ∷ d ∷ numbers) is = absurd is

-- The numbers of an IPv4 address.
address_dotted : (text octets : List ℕ) → IsDotted text octets
    → (46 ∷ text ≡ dotted_after octets) × AreBytes octets × (length octets ≡ 4)
address_dotted text octets is =
    let shown : dotted_text is.a is.b is.c is.d
    ≡ decimal is.a ++ 46 ∷ (decimal is.b ++ 46 ∷ (decimal is.c ++ 46 ∷ (decimal is.d ++ []))) =
    simp (append_assoc, append-nil) in (
      ap (λ t. 46 ∷ t) (is.spelled ∙ shown) ∙ ap dotted_after (sym is.value),
      subst AreBytes (sym is.value)
          (omega (arith, is.fit.0), (omega (arith, is.fit.1), (omega (arith, is.fit.2), (omega (arith, is.fit.3), tt)))),
      ap length is.value,
    )

-- A text has one list of leading numbers.
pub one_numbers : (text numbers numbers' : List ℕ) → IsLeadingNumbers text numbers → IsLeadingNumbers text numbers'
    → numbers ≡ numbers'
one_numbers text numbers numbers' is is' =
    let present = leading_dotted text numbers is in
    let present' = leading_dotted text numbers' is' in
    one_dotted numbers numbers' present.1 present'.1 (sym present.0 ∙ present'.0)

-- ---- colons

abbrev pub has_colon : List ℕ → Bool
has_colon text = list_any (λ b. b == 58) text

or_left : (b c : Bool) → b ≡ true → (b || c) ≡ true
or_left true c is = refl
or_left false c is = let never : ⊥ = cc in absurd never

or_right : (b c : Bool) → c ≡ true → (b || c) ≡ true
or_right true c is = refl
or_right false c is = is

colon_left : (prefix back : List ℕ) → has_colon prefix ≡ true → has_colon (prefix ++ back) ≡ true
colon_left prefix back is = list_any-append (λ b. b == 58) prefix back ∙ or_left (has_colon prefix) (has_colon back) is

colon_right : (prefix back : List ℕ) → has_colon back ≡ true → has_colon (prefix ++ back) ≡ true
colon_right prefix back is = list_any-append (λ b. b == 58) prefix back ∙ or_right (has_colon prefix) (has_colon back) is

-- Numbers with dots have no colon.
no_colon : (numbers : List ℕ) → AreBytes numbers → has_colon (dotted_after numbers) ≡ false
no_colon [] small = refl
no_colon (a ∷ numbers) small =
    list_any-append (λ b. b == 58) (decimal a) (dotted_after numbers)
    ∙ ap₂ (λ b c. b || c)
    (digits_lack 10 58 (decimal a) (lit≤ tt) (decimal_is_IsNumeral a (omega (arith, small.0))).0.1)
    (no_colon numbers small.1)

-- Groups after a colon have one.
groups_colon : (text : List ℕ) (segment : ℕ) (segments : List ℕ)
    → IsGroupsAfter true (codes ":") text (segment ∷ segments) → has_colon text ≡ true
groups_colon text segment segments (inl (group, rest, is, here, others)) = ap has_colon is
groups_colon text segment segments (inr (last, octets, ipv4, is, dotted, same)) = ap has_colon is

full_colon : (text segments : List ℕ) → IsGroups true text segments → length segments ≡ 8 → has_colon text ≡ true
full_colon text [] is eight = absurd (omega (arith, eight))
full_colon text (segment ∷ []) is eight = absurd (omega (arith, eight))
full_colon text (segment ∷ segment' ∷ segments) (inl (group, rest, is, here, others)) eight =
    ap has_colon is ∙ colon_right group rest (groups_colon rest segment' segments others)
full_colon text (segment ∷ segment' ∷ segments) (inr (last, octets, ipv4, is, dotted, same)) eight =
    let two : length (segments_of octets) ≡ 2 = ap (λ (o : List ℕ). length (segments_of o)) dotted.value in
    absurd (omega (arith, eight, ap length same, two))

-- An IPv6 address has a colon.
address_colon : (text segments : List ℕ) → IsColonHex text segments → has_colon text ≡ true
address_colon text segments (inl full) = full_colon text segments full.0 full.1
address_colon text segments (inr elided) =
    ap has_colon elided.spelled
    ∙ colon_left (elided.head_text ++ codes "::") elided.tail_text (colon_right elided.head_text (codes "::") refl)

-- ---- networks

-- The first numbers of an address are no address.
pub no_address : (text numbers : List ℕ) (address : IpAddr) → IsLeadingNumbers text numbers → IsIpText text address
    → ⊥
no_address text numbers (V4 address) is stated =
    let present = leading_dotted text numbers is in
    let four = address_dotted text (ipv4_octets address) stated in
    let same : numbers ≡ ipv4_octets address =
    one_dotted numbers (ipv4_octets address) present.1 four.1 (sym present.0 ∙ four.0) in
    omega (arith, present.2, four.2, ap length same)
no_address text numbers (V6 address) is stated =
    let present = leading_dotted text numbers is in
    let holds : has_colon text ≡ true = address_colon text (ipv6_segments address) stated in
    let fails : has_colon (46 ∷ text) ≡ false = ap has_colon present.0 ∙ no_colon numbers present.1 in
    let clash : true ≡ false = sym holds ∙ fails in cc

same_network : (network network' : Network) → network.address ≡ network'.address → network.bits ≡ network'.bits
    → network ≡ network'
same_network network network' address_is bits_is = λ i. record { address = address_is i; bits = bits_is i }

pub one_network : (text : List ℕ) (network network' : Network) → IsNetworkText text network
    → IsNetworkText text network' → network ≡ network'
one_network text network network' (inl (is, bits)) (inl (is', bits')) =
    let same : network.address ≡ network'.address = IsIpText_unique text network.address network'.address is is' in
    same_network network network' same (bits ∙ ap address_width same ∙ sym bits')
one_network text network network' (inl (is, bits)) (inr (numbers', a', is', bits', address', octets')) =
    absurd (no_address text numbers' network.address is' is)
one_network text network network' (inr (numbers, a, is, bits, address, octets)) (inl (is', bits')) =
    absurd (no_address text numbers network'.address is is')
one_network text network network' (inr (numbers, a, is, bits, address, octets))
    (inr (numbers', a', is', bits', address', octets')) =
    let same : numbers ≡ numbers' = one_numbers text numbers numbers' is is' in
    let bytes : ipv4_octets a ≡ ipv4_octets a' =
    octets ∙ ap (λ (n : List ℕ). n ++ replicate (4 - length n) 0) same ∙ sym octets' in
    let one : a ≡ a' = λ i. record { octets = bytes i } in
    same_network network network' (address ∙ ap V4 one ∙ sym address')
    (bits ∙ ap (λ (n : List ℕ). 8 * length n) same ∙ sym bits')
