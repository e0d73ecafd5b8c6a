-- Lemmas about the last token that the parser read, and what it says of the mode.
use Rattle.std.proofs.Common.{◌≡◌, ℕ, ◌^◌, ◌≤◌, ◌<◌, ◌⊎◌, inl, inr, lit<, lit≤, Bool, true, false, List, [], ◌∷◌, ◌++◌, append_assoc, get_or, codes, decimal, Option, Some, None, Ok, refl, ap, sym, ◌∙◌, subst, arith}
use Rattle.std.specs.Char.{digit_value}
use Rattle.std.specs.Net.Grammar.{IsDotted, IsGroups, IsIpText}
use Rattle.std.specs.Str.Parse.{IsNumeral}
use Rattle.std.proofs.lemmas.Fmt.{decimal_is_IsNumeral}
use Rattle.std.specs.declared.net.ip_addr.IpAddr.{IpAddr}
use Rattle.std.specs.declared.net.ip_addr.IpAddr.TheVariants.{V4, V6}
use Rattle.filter_tokens.specs.declared.keyword.Keyword.TheVariants as name
use Rattle.filter_tokens.specs.declared.network.Network.{Network}
use Rattle.filter_tokens.specs.declared.primitive.FieldLayer.{FieldLayer}
use Rattle.filter_tokens.specs.declared.primitive.Operand.{Operand}
use Rattle.filter_tokens.specs.declared.primitive.AddressLayer.{AddressLayer}
use Rattle.filter_tokens.specs.declared.primitive.Primitive.{Primitive}
use Rattle.filter_tokens.specs.declared.primitive.Primitive.TheVariants as primitive
use Rattle.filter_tokens.specs.declared.primitive.Relation.{Relation}
use Rattle.filter_tokens.specs.declared.primitive.Relation.TheVariants as is
use Rattle.filter_tokens.specs.declared.primitive.Side.{Side}
use Rattle.filter_tokens.specs.declared.primitive.Width.{Width}
use Rattle.filter_tokens.specs.declared.primitive.Width.TheVariants.{One, Two, Four}
use Rattle.filter_tokens.specs.Tokens.{Token, keyword, word, relation, right_bracket, colon, slash, bar, wrong}
use Rattle.filter_tokens.specs.Values.{IsDecimal, IsLeadingNumbers, IsLength, IsMask, IsNetworkText, IsNumberText, IsOctets, IsPortText, IsRangeText, IsSizeText, most_number}
use Rattle.filter_tokens.proofs.OnceLemmas.{one_network}
use Rattle.filter_tokens.proofs.ValueLemmas.{none_is_some}
use Rattle.filter_language.specs.declared.head.Head.{Head}
use Rattle.filter_language.specs.declared.head.Head.TheVariants as head
use Rattle.filter_language.specs.declared.mode.Comparison.{Comparison}
use Rattle.filter_language.specs.declared.mode.Mode.{Mode}
use Rattle.filter_language.specs.declared.mode.Mode.TheVariants as mode
use Rattle.filter_language.specs.declared.mode.Sided.{Sided}
use Rattle.filter_language.specs.Grammar.{IsWordValue, most_levels}
use Rattle.filter_language.specs.Primitives.{length_test}
use Rattle.filter_language.specs.Refusals.{AwaitsConstant, EndsWith, IsAllowed, IsInTest}
use Rattle.filter_language.specs.States.{State, Reads, ReadsConstant, ReadsPrefix, ReadsValue, ReadsWord, Runs, IsAwaiting, after_value, first_state, group_mode, levels_in, more_tokens, no_tokens, qualified, read_in, read_left, side_head, union}
use Rattle.filter_language.specs.Trees.{test}
use Rattle.filter_language.proofs.ReadingLemmas.{InConstant, InTest, IsEntered, Leads, completed_fits, reached}
use Rattle.filter_language.proofs.RunLemmas.{allowed_reads, runs_apart, runs_joined}
use Rattle.filter_language.proofs.RunOnceLemmas.{runs_first, stays}
use Rattle.filter_language.proofs.StandLemmas.{runs_begin}

-- ---- words

-- A fact about the state before a word and about the word, if they lead to a mode.
abbrev pub IsEnteredByWord : State → List ℕ → Mode → Type 0
IsEnteredByWord before text (mode.Host p) =
    (layer : AddressLayer) × (side : Side) × (only : Bool) × IsAwaiting before (Some (head.Host layer side)) only
    × IsWordValue (head.Host layer side) text p
IsEnteredByWord before text (mode.Net layer side network) = IsNetworkText text network
IsEnteredByWord before text (mode.Length layer side address) = ⊥
IsEnteredByWord before text (mode.Mask layer side address) = ⊥
IsEnteredByWord before text mode.Vlan = ⊥
IsEnteredByWord before text (mode.PacketLength by) = ⊥
IsEnteredByWord before text (mode.Size layer offset) = ⊥
IsEnteredByWord before text m = Unit {0}

abbrev pub IsReachedByWord : (most : ℕ) → State → List ℕ → State → Type 0
IsReachedByWord most before text after = (levels_in after.frames ≤ most) × IsEnteredByWord before text after.mode

value_entered : (most : ℕ) (state : State) (q : Head) (p : Primitive) (only : Bool) (text : List ℕ)
    → IsAwaiting state (Some q) only → levels_in state.frames ≤ most → IsWordValue q text p
    → IsReachedByWord most state text (after_value (qualified state q) q p)
value_entered most state (head.Host layer side) p only text awaiting fits value =
    (fits, (layer, side, only, awaiting, value))
value_entered most state (head.Net layer side) (primitive.Address layer' side' network) only text awaiting fits value =
    (fits, value.0)
value_entered most state (head.Net layer side) p only text awaiting fits value = absurd value
value_entered most state q p only text awaiting fits value = (completed_fits most state.frames (test p) fits, tt)

value_reached : (most : ℕ) (state after : State) (q : Option Head) (only : Bool) (text : List ℕ)
    → IsAwaiting state q only → levels_in state.frames ≤ most → ReadsValue state q text after
    → IsReachedByWord most state text after
value_reached most state after None only text awaiting fits reads = absurd reads
value_reached most state after (Some q) only text awaiting fits (p, value, is) =
    subst (IsReachedByWord most state text) (sym is) (value_entered most state q p only text awaiting fits value)

side_reached : (most : ℕ) (state after : State) (sided : Sided) (side : Side) (q : Option Head) (text : List ℕ)
    → state.mode ≡ mode.Side sided side → side_head sided side ≡ q → levels_in state.frames ≤ most
    → ReadsValue state q text after → IsReachedByWord most state text after
side_reached most state after sided side None text modes is fits reads = absurd reads
side_reached most state after sided side (Some q) text modes is fits reads =
    value_reached most state after (Some q) true text (inr (sided, side, q, modes, is, refl, refl)) fits reads

prefix_reached : (IsPrefix : IpAddr → List ℕ → ℕ → Type 0) (most : ℕ) (state after : State) (layer : AddressLayer)
    (side : Side) (address : IpAddr) (text : List ℕ) → levels_in state.frames ≤ most
    → ReadsPrefix IsPrefix state layer side address text after → IsReachedByWord most state text after
prefix_reached IsPrefix most state after layer side address text fits (bits, is_prefix, clear, is) =
    subst (IsReachedByWord most state text) (sym is) (
      completed_fits most state.frames
          (test (primitive.Address layer side (record { address = address; bits = bits }))) fits,
      tt,
    )

constant_reached : (most : ℕ) (state after : State) (mode_with : ℕ → Mode) (text : List ℕ)
    → ((number : ℕ) → IsEnteredByWord state text (mode_with number)) → levels_in state.frames ≤ most
    → ReadsConstant state mode_with text after → IsReachedByWord most state text after
constant_reached most state after mode_with text entered fits (number, constant, is) =
    subst (IsReachedByWord most state text) (sym is) (fits, entered number)

group_entered_by_word : (state : State) (text : List ℕ) (comparison : Comparison) (by : Option Relation) (number : ℕ)
    → IsEnteredByWord state text (group_mode comparison by number)
group_entered_by_word state text comparison None number = tt
group_entered_by_word state text comparison (Some by) number = tt

word_reached : (most : ℕ) (state after : State) (m : Mode) (text : List ℕ) → state.mode ≡ m
    → levels_in state.frames ≤ most → ReadsWord state m text after → IsReachedByWord most state text after
word_reached most state after (mode.Operand only) text modes fits reads =
    value_reached most state after state.head only text (inl (modes, refl)) fits reads
word_reached most state after (mode.Side sided side) text modes fits reads =
    side_reached most state after sided side (side_head sided side) text modes refl fits reads
word_reached most state after (mode.Length layer side address) text modes fits reads =
    prefix_reached IsLength most state after layer side address text fits reads
word_reached most state after (mode.Mask layer side address) text modes fits reads =
    prefix_reached IsMask most state after layer side address text fits reads
word_reached most state after mode.Vlan text modes fits (id, number, is) =
    subst (IsReachedByWord most state text) (sym is)
    (completed_fits most state.frames (test (primitive.Vlan (Some id))) fits, tt)
word_reached most state after (mode.PacketLength by) text modes fits (number, stated, is) =
    subst (IsReachedByWord most state text) (sym is)
    (completed_fits most state.frames (test (length_test by number)) fits, tt)
word_reached most state after (mode.Offset layer) text modes fits reads =
    constant_reached most state after (λ number. mode.OffsetEnd layer number) text (λ number. tt) fits reads
word_reached most state after (mode.Size layer offset) text modes fits (width, stated, is) =
    subst (IsReachedByWord most state text) (sym is) (fits, tt)
word_reached most state after (mode.Group comparison) text modes fits reads =
    constant_reached most state after (λ number. group_mode comparison comparison.relation number) text
    (group_entered_by_word state text comparison comparison.relation) fits reads
word_reached most state after (mode.GroupItem comparison bits) text modes fits reads =
    constant_reached most state after (λ number. mode.GroupEnd comparison (union bits number)) text (λ number. tt) fits
    reads
word_reached most state after m text modes fits reads = absurd reads

-- ---- tokens

-- A fact about the state before a token and about the token, if they lead to a mode.
abbrev pub IsEnteredBy : State → Token → Mode → Type 0
IsEnteredBy before (word text) m = IsEnteredByWord before text m
IsEnteredBy before (wrong own) m = ⊥
IsEnteredBy before token m = IsEntered before.mode token m

pub entered_by : (most : ℕ) (state after : State) (token : Token) → levels_in state.frames ≤ most
    → Reads most state token after → (levels_in after.frames ≤ most) × IsEnteredBy state token after.mode
entered_by most state after (word text) fits reads = word_reached most state after state.mode text refl fits reads
entered_by most state after (wrong own) fits reads = absurd reads
entered_by most state after token fits reads =
    let present = reached most state after state.mode token fits reads in (present.0, present.1)

-- A state that tokens lead to has at most `most` levels open.
runs_fit : (most : ℕ) (state after : State) (tokens : List Token) → levels_in state.frames ≤ most
    → Runs most state tokens after → levels_in after.frames ≤ most
runs_fit most state after tokens fits (no_tokens s) = fits
runs_fit most state after tokens fits (more_tokens s between last t ts reads runs) =
    runs_fit most between last ts (entered_by most s between t fits reads).0 runs

pub fits_after : (most : ℕ) (state : State) (tokens : List Token) → Runs most first_state tokens state
    → levels_in state.frames ≤ most
fits_after most state tokens runs = runs_fit most first_state state tokens (omega arith) runs

-- ---- the last token

-- A token was read last.
abbrev pub IsLast : (most : ℕ) → List Token → Token → State → Type 0
IsLast most before token state =
    (last : State) × Runs most first_state before last × Reads most last token state

pub last_step : (most : ℕ) (prefix before : List Token) (token : Token) (state : State) → prefix ≡ before ++ token ∷ []
    → Runs most first_state prefix state → IsLast most before token state
last_step most prefix before token state same runs =
    let (last, first, later) =
    runs_apart most first_state state before (token ∷ [])
    (subst (λ (f : List Token). Runs most first_state f state) same runs) in
    let (after, reads, none) = runs_first most last state token [] later in
    (last, first, subst (Reads most last token) (stays most after state none) reads)

pub step_after : (most : ℕ) (prefix : List Token) (token : Token) (state after : State)
    → Runs most first_state prefix state → Reads most state token after
    → Runs most first_state (prefix ++ token ∷ []) after
step_after most prefix token state after runs reads =
    runs_joined most first_state state after prefix (token ∷ []) runs
    (more_tokens state after after token [] reads (no_tokens after))

-- There are no tokens, or there is a last one.
abbrev HasLast : (most : ℕ) → State → List Token → State → Type 0
HasLast most state tokens after =
    ((tokens ≡ []) × (state ≡ after))
    ⊎ ((before : List Token) × (token : Token) × (last : State) × (tokens ≡ before ++ token ∷ [])
    × Runs most state before last × Reads most last token after)

has_last : (most : ℕ) (state after : State) (tokens : List Token) → Runs most state tokens after
    → HasLast most state tokens after
has_last most state after tokens (no_tokens s) = inl (refl, refl)
has_last most state after tokens (more_tokens s between end t ts reads runs) =
    elim (has_last most between end ts runs) [
      | inl (none, same) ↦
          inr ([], t, s, ap (λ (l : List Token). t ∷ l) none, no_tokens s, subst (Reads most s t) same reads)
      | inr (before, token, last, same, runs', reads') ↦
          inr (
            t ∷ before,
            token,
            last,
            ap (λ (l : List Token). t ∷ l) same,
            more_tokens s between last t before reads runs',
            reads',
          )
    ]

-- Tokens after which no operand is expected have a last one.
pub mode_entered : (most : ℕ) (prefix : List Token) (state : State) → Runs most first_state prefix state
    → (mode.Operand false ≡ state.mode)
    ⊎ ((before : List Token) × (token : Token) × (last : State) × (prefix ≡ before ++ token ∷ [])
    × Runs most first_state before last × IsEnteredBy last token state.mode)
mode_entered most prefix state runs =
    elim (has_last most first_state state prefix runs) [
      | inl (none, same) ↦ inl (ap (λ (s : State). s.mode) same)
      | inr (before, token, last, same, runs', reads) ↦
          inr (
            before,
            token,
            last,
            same,
            runs',
            (entered_by most last state token (fits_after most last before runs') reads).1,
          )
    ]

-- ---- a constant

-- The name of a constant, which is no other value.
abbrev pub constant_name : List ℕ
constant_name = codes "tcpflags"

-- A text begins with a digit of a radix.
data BeginsWithDigit (radix : ℕ) : List ℕ → Type 0 where
  digit : (c : ℕ) (text : List ℕ) → digit_value c < radix → BeginsWithDigit radix (c ∷ text)

begins_more : (radix : ℕ) (prefix back : List ℕ) → BeginsWithDigit radix prefix → BeginsWithDigit radix (prefix ++ back)
begins_more radix prefix back (digit c text small) = digit c (text ++ back) small

numeral_begins : (radix : ℕ) (text : List ℕ) → IsNumeral radix text → BeginsWithDigit radix text
numeral_begins radix [] numeral = absurd (omega (arith, numeral.0))
numeral_begins radix (c ∷ text) numeral = digit c text numeral.1.0

decimal_begins : (number : ℕ) → number < 2 ^ 64 → BeginsWithDigit 10 (decimal number)
decimal_begins number fits = numeral_begins 10 (decimal number) (decimal_is_IsNumeral number fits).0

-- The name begins with no digit of a radix up to 16.
no_digit : (radix : ℕ) (text : List ℕ) → radix ≤ 16 → BeginsWithDigit radix text → constant_name ≡ text → ⊥
no_digit radix text high (digit c rest small) is =
    let same : 116 ≡ c = ap (λ (l : List ℕ). get_or l 0 0) is in
    let value : 29 ≡ digit_value c = ap digit_value same in omega (arith, value, small, high)

no_decimal : (most number : ℕ) → most < 2 ^ 64 → IsDecimal most constant_name number → ⊥
no_decimal most number bound (is, fits) =
    no_digit 10 (decimal number) (lit≤ tt) (decimal_begins number (omega (arith, fits, bound))) is

no_number : (most number : ℕ) → most < 2 ^ 64 → IsNumberText most constant_name number → ⊥
no_number most number bound (inl is) = no_decimal most number bound is
no_number most number bound (inr (digits, inl mark, numeral, value, fits)) =
    let same : 116 ≡ 48 = ap (λ (l : List ℕ). get_or l 0 0) mark in omega (arith, same)
no_number most number bound (inr (digits, inr mark, numeral, value, fits)) =
    let same : 116 ≡ 48 = ap (λ (l : List ℕ). get_or l 0 0) mark in omega (arith, same)

no_port : (port : ℕ) → IsPortText constant_name port → ⊥
no_port port (inl is) = none_is_some is
no_port port (inr (none, is)) = no_number 65535 port (lit< tt) is

no_range : (low high : ℕ) → IsRangeText constant_name low high → ⊥
no_range low high (inl (is, same)) = no_decimal 65535 low (lit< tt) is
no_range low high (inr (first, second, is, small, second_small, low_is, high_is)) =
    no_digit 10 _ (lit≤ tt)
    (begins_more 10 _ _ (begins_more 10 _ _ (decimal_begins first (omega (arith, small))))) is

no_leading_numbers : (numbers : List ℕ) → IsLeadingNumbers constant_name numbers → ⊥
no_leading_numbers [] is = is
no_leading_numbers (a ∷ []) (is, some, small) =
    no_digit 10 _ (lit≤ tt) (decimal_begins a (omega (arith, small))) is
no_leading_numbers (a ∷ b ∷ []) (is, small, b_small) =
    no_digit 10 _ (lit≤ tt) (begins_more 10 _ _ (begins_more 10 _ _ (decimal_begins a (omega (arith, small))))) is
no_leading_numbers (a ∷ b ∷ c ∷ []) (is, small, b_small, c_small) =
    no_digit 10 _ (lit≤ tt)
    (begins_more 10 _ _ (begins_more 10 _ _ (begins_more 10 _ _ (begins_more 10 _ _
    (decimal_begins a (omega (arith, small)))))))
    is
no_leading_numbers (a ∷ b ∷ c ∷ d ∷ numbers) is = is

no_octets : (octets : List ℕ) → IsOctets constant_name octets → ⊥
no_octets [] is = is
no_octets (octet ∷ []) (numeral, short, value) =
    no_digit 16 constant_name (lit≤ tt) (numeral_begins 16 constant_name numeral) refl
no_octets (octet ∷ later ∷ octets) (first, rest, is, (numeral, short, value), more) =
    no_digit 16 _ (lit≤ tt) (begins_more 16 _ _ (begins_more 16 _ _ (numeral_begins 16 first numeral))) is

no_dotted : (octets : List ℕ) → IsDotted constant_name octets → ⊥
no_dotted octets is =
    no_digit 10 _ (lit≤ tt)
    (begins_more 10 _ _ (begins_more 10 _ _ (begins_more 10 _ _ (begins_more 10 _ _ (begins_more 10 _ _
    (begins_more 10 _ _ (decimal_begins is.a (omega (arith, is.fit.0)))))))))
    is.spelled

no_groups : (segments text rest : List ℕ) → IsGroups false text segments
    → constant_name ≡ text ++ codes "::" ++ rest → ⊥
no_groups [] text rest none is =
    let same : constant_name ≡ [] ++ codes "::" ++ rest = is ∙ ap (λ (l : List ℕ). l ++ codes "::" ++ rest) none in
    let first : 116 ≡ 58 = ap (λ (l : List ℕ). get_or l 0 0) same in omega (arith, first)
no_groups (segment ∷ segments) text rest (inl (group, others, spelled, ((numeral, value), short), more)) is =
    no_digit 16 (group ++ others ++ codes "::" ++ rest) (lit≤ tt)
    (begins_more 16 _ _ (begins_more 16 _ _ (begins_more 16 _ _ (numeral_begins 16 group numeral))))
    (is ∙ ap (λ (l : List ℕ). l ++ codes "::" ++ rest) spelled)
no_groups (segment ∷ segments) text rest (inr (last, octets, never, spelled, dotted, value)) is =
    let none : ⊥ = cc in none

no_all_groups : (segments : List ℕ) → IsGroups true constant_name segments → ⊥
no_all_groups [] is =
    let first : 116 ≡ 0 = ap (λ (l : List ℕ). get_or l 0 0) is in omega (arith, first)
no_all_groups (segment ∷ segments) (inl (group, others, spelled, ((numeral, value), short), more)) =
    no_digit 16 (group ++ others) (lit≤ tt) (begins_more 16 _ _ (numeral_begins 16 group numeral)) spelled
no_all_groups (segment ∷ segments) (inr (last, octets, may, spelled, dotted, value)) =
    no_dotted octets (subst (λ (l : List ℕ). IsDotted l octets) (sym spelled) dotted)

no_ip : (address : IpAddr) → IsIpText constant_name address → ⊥
no_ip (V4 address) is = no_dotted _ is
no_ip (V6 address) (inl (groups, all)) = no_all_groups _ groups
no_ip (V6 address) (inr is) = no_groups is.head is.head_text is.tail_text is.head_groups is.spelled

no_network : (network : Network) → IsNetworkText constant_name network → ⊥
no_network network (inl (is, bits)) = no_ip network.address is
no_network network (inr (numbers, address, is, bits, same, octets)) = no_leading_numbers numbers is

no_value : (q : Head) (p : Primitive) → IsWordValue q constant_name p → ⊥
no_value (head.Host layer side) (primitive.Address layer' side' network) value = no_ip network.address value.0
no_value (head.Net layer side) (primitive.Address layer' side' network) value = no_network network value.0
no_value (head.Station side) (primitive.Station side' octets) value = no_octets octets value.0.0
no_value (head.Port ports side) (primitive.Port ports' side' low high) value = no_port low value.0
no_value (head.PortRange ports side) (primitive.Port ports' side' low high) value = no_range low high value.0
no_value (head.Protocol ip) (primitive.Protocol ip' number) value = no_number 255 number.0 (lit< tt) value.0
no_value head.EtherType (primitive.EtherType type) value = no_number 65535 type.0 (lit< tt) value.0
no_value q p value = value

no_value_read : (state after : State) (q : Option Head) → ReadsValue state q constant_name after → ⊥
no_value_read state after None reads = reads
no_value_read state after (Some q) (p, value, is) = no_value q p value

no_length : (address : IpAddr) (bits : ℕ) → IsLength address constant_name bits → ⊥
no_length (V4 address) bits is = no_decimal 32 bits (lit< tt) is
no_length (V6 address) bits is = no_decimal 128 bits (lit< tt) is

no_mask : (address : IpAddr) (bits : ℕ) → IsMask address constant_name bits → ⊥
no_mask (V4 address) bits (mask, is) = no_ip mask is.0
no_mask (V6 address) bits is = is

no_size : (width : Width) → IsSizeText constant_name width → ⊥
no_size One is = no_number most_number 1 (lit< tt) is
no_size Two is = no_number most_number 2 (lit< tt) is
no_size Four is = no_number most_number 4 (lit< tt) is

-- It is read only where a constant is expected.
constant_only : (state after : State) (m : Mode) → ReadsWord state m constant_name after → InConstant m
constant_only state after (mode.Operand only) reads = absurd (no_value_read state after state.head reads)
constant_only state after (mode.Side sided side) reads =
    absurd (no_value_read state after (side_head sided side) reads)
constant_only state after (mode.Length layer side address) (bits, is, clear, same) = absurd (no_length address bits is)
constant_only state after (mode.Mask layer side address) (bits, is, clear, same) = absurd (no_mask address bits is)
constant_only state after mode.Vlan (id, is, others) = absurd (no_number 4095 id (lit< tt) is)
constant_only state after (mode.PacketLength by) (number, is, others) =
    absurd (no_number most_number number (lit< tt) is)
constant_only state after (mode.Offset layer) reads = tt
constant_only state after (mode.Size layer offset) (width, is, others) = absurd (no_size width is)
constant_only state after (mode.Group comparison) reads = tt
constant_only state after (mode.GroupItem comparison bits) reads = tt
constant_only state after m reads = absurd reads

constant_read : (state : State) (m : Mode) → InConstant m
    → (after : State) × ReadsWord state m constant_name after
constant_read state (mode.Offset layer) within = (_, (13, inl refl, refl))
constant_read state (mode.Group comparison) within = (_, (13, inl refl, refl))
constant_read state (mode.GroupItem comparison bits) within = (_, (13, inl refl, refl))
constant_read state m within = absurd within

-- A token that is read is allowed.
pub reads_allowed : (most : ℕ) (prefix : List Token) (token : Token) (state after : State)
    → Runs most first_state prefix state → Reads most state token after → IsAllowed most prefix token
reads_allowed most prefix token state after runs reads =
    runs_begin most (prefix ++ token ∷ []) after (step_after most prefix token state after runs reads)

pub constant_mode : (prefix : List Token) (state : State) → Runs most_levels first_state prefix state
    → AwaitsConstant prefix → InConstant state.mode
constant_mode prefix state runs awaits =
    let (after, reads) = allowed_reads most_levels prefix (word constant_name) state runs awaits in
    constant_only state after state.mode reads

pub mode_constant : (prefix : List Token) (state : State) → Runs most_levels first_state prefix state
    → InConstant state.mode → AwaitsConstant prefix
mode_constant prefix state runs within =
    let (after, reads) = constant_read state state.mode within in
    reads_allowed most_levels prefix (word constant_name) state after runs reads

-- ---- a byte test

-- The modes before and after a token that is read after others.
leads_after : (most : ℕ) (prefix : List Token) (token : Token) (state after : State)
    → Runs most first_state prefix state → read_in most state state.mode token ≡ Ok after
    → Leads token state.mode after.mode
leads_after most prefix token state after runs reads =
    (reached most state after state.mode token (fits_after most state prefix runs) reads).2

pub test_mode : (prefix : List Token) (state : State) → Runs most_levels first_state prefix state → IsInTest prefix
    → InTest state.mode
test_mode prefix state runs (inl allowed) =
    let (after, reads) = allowed_reads most_levels prefix right_bracket state runs allowed in
    leads_after most_levels prefix right_bracket state after runs reads
test_mode prefix state runs (inr (inl allowed)) =
    let (after, reads) = allowed_reads most_levels prefix bar state runs allowed in
    leads_after most_levels prefix bar state after runs reads
test_mode prefix state runs (inr (inr (by, allowed))) =
    let (after, reads) = allowed_reads most_levels prefix (relation by) state runs allowed in
    leads_after most_levels prefix (relation by) state after runs reads

left_relation : (state : State) (operand : Operand) (mask : Option ℕ)
    → (after : State) × (read_left state operand mask (relation is.Equal) ≡ Ok after)
left_relation state operand None = (_, refl)
left_relation state operand (Some bits) = (_, refl)

abbrev IsReadIn : State → Mode → Token → Type 0
IsReadIn state m token = (after : State) × (read_in most_levels state m token ≡ Ok after)

test_read : (state : State) (m : Mode) → InTest m
    → IsReadIn state m right_bracket ⊎ IsReadIn state m bar ⊎ IsReadIn state m (relation is.Equal)
test_read state (mode.OffsetEnd layer offset) within = inl (_, refl)
test_read state (mode.SizeEnd layer offset width) within = inl (_, refl)
test_read state (mode.Left operand mask) within = inr (inr (left_relation state operand mask))
test_read state (mode.GroupEnd comparison bits) within = inr (inl (_, refl))
test_read state (mode.Test operand mask by number) within = inr (inl (_, refl))
test_read state m within = absurd within

pub mode_test : (prefix : List Token) (state : State) → Runs most_levels first_state prefix state → InTest state.mode
    → IsInTest prefix
mode_test prefix state runs within =
    elim (test_read state state.mode within) [
      | inl (after, reads) ↦ inl (reads_allowed most_levels prefix right_bracket state after runs reads)
      | inr (inl (after, reads)) ↦ inr (inl (reads_allowed most_levels prefix bar state after runs reads))
      | inr (inr (after, reads)) ↦
          inr (inr (is.Equal, reads_allowed most_levels prefix (relation is.Equal) state after runs reads))
    ]

-- ---- the token before

-- The modes before and after the last token, if it is no word.
abbrev LeadsIfAny : Token → Mode → Mode → Type 0
LeadsIfAny (word text) before after = Unit {0}
LeadsIfAny (wrong own) before after = ⊥
LeadsIfAny token before after = Leads token before after

leads_if_any : (most : ℕ) (state after : State) (token : Token) → levels_in state.frames ≤ most
    → Reads most state token after → LeadsIfAny token state.mode after.mode
leads_if_any most state after (word text) fits reads = tt
leads_if_any most state after (wrong own) fits reads = absurd reads
leads_if_any most state after token fits reads = (reached most state after state.mode token fits reads).2

-- The last token, with the state before it.
pub last_leads : (prefix : List Token) (state : State) (token : Token) → Runs most_levels first_state prefix state
    → EndsWith prefix token
    → (before : List Token) × (last : State) × (prefix ≡ before ++ token ∷ [])
    × Runs most_levels first_state before last × LeadsIfAny token last.mode state.mode
last_leads prefix state token runs (before, same) =
    let (last, first, reads) = last_step most_levels prefix before token state same runs in (
      before,
      last,
      same,
      first,
      leads_if_any most_levels last state token (fits_after most_levels last before first) reads,
    )

-- The last token in the modes that only one token leads to.
vlan_last : (last : State) (token : Token) → IsEnteredBy last token mode.Vlan → token ≡ keyword name.Vlan
vlan_last last (word text) entered = absurd entered
vlan_last last (wrong own) entered = absurd entered
vlan_last last token entered = entered

length_last : (last : State) (token : Token) (by : Relation) → IsEnteredBy last token (mode.PacketLength by)
    → (token ≡ keyword name.Less) ⊎ (token ≡ keyword name.Greater)
length_last last (word text) by entered = absurd entered
length_last last (wrong own) by entered = absurd entered
length_last last token by entered = entered

size_last : (last : State) (token : Token) (layer : FieldLayer) (offset : ℕ)
    → IsEnteredBy last token (mode.Size layer offset) → token ≡ colon
size_last last (word text) layer offset entered = absurd entered
size_last last (wrong own) layer offset entered = absurd entered
size_last last token layer offset entered = entered

prefix_last : (last : State) (token : Token) (layer : AddressLayer) (side : Side) (address : IpAddr)
    → IsEnteredBy last token (mode.Length layer side address)
    → (network : Network) × (last.mode ≡ mode.Net layer side network) × (network.address ≡ address) × (token ≡ slash)
prefix_last last (word text) layer side address entered = absurd entered
prefix_last last (wrong own) layer side address entered = absurd entered
prefix_last last token layer side address entered = entered

mask_last : (last : State) (token : Token) (layer : AddressLayer) (side : Side) (address : IpAddr)
    → IsEnteredBy last token (mode.Mask layer side address)
    → (network : Network) × (last.mode ≡ mode.Net layer side network) × (network.address ≡ address)
    × (token ≡ keyword name.Mask)
mask_last last (word text) layer side address entered = absurd entered
mask_last last (wrong own) layer side address entered = absurd entered
mask_last last token layer side address entered = entered

net_last : (last : State) (token : Token) (layer : AddressLayer) (side : Side) (network : Network)
    → IsEnteredBy last token (mode.Net layer side network)
    → (text : List ℕ) × (token ≡ word text) × IsNetworkText text network
net_last last (word text) layer side network entered = (text, refl, entered)
net_last last (wrong own) layer side network entered = absurd entered
net_last last token layer side network entered = absurd entered

host_last : (last : State) (token : Token) (p : Primitive) → IsEnteredBy last token (mode.Host p)
    → (text : List ℕ) × (token ≡ word text) × IsEnteredByWord last text (mode.Host p)
host_last last (word text) p entered = (text, refl, entered)
host_last last (wrong own) p entered = absurd entered
host_last last token p entered = absurd entered

-- The mode in which a token was read last, if the mode is not the one at the start.
abbrev IsNoStart : Mode → Type 0
IsNoStart (mode.Operand only) = ⊥
IsNoStart m = Unit {0}

entered_in : (prefix : List Token) (state : State) (m : Mode) → Runs most_levels first_state prefix state
    → state.mode ≡ m → IsNoStart m
    → (before : List Token) × (token : Token) × (last : State) × (prefix ≡ before ++ token ∷ [])
    × Runs most_levels first_state before last × IsEnteredBy last token m
entered_in prefix state m runs same later =
    elim (mode_entered most_levels prefix state runs) [
      | inl start ↦ absurd (subst IsNoStart (sym (start ∙ same)) later)
      | inr (before, token, last, is, first, entered) ↦
          (before, token, last, is, first, subst (IsEnteredBy last token) same entered)
    ]

ends : (prefix before : List Token) (token right : Token) → prefix ≡ before ++ token ∷ [] → token ≡ right
    → EndsWith prefix right
ends prefix before token right is same = (before, is ∙ ap (λ (t : Token). before ++ t ∷ []) same)

pub vlan_ends : (prefix : List Token) (state : State) → Runs most_levels first_state prefix state
    → state.mode ≡ mode.Vlan → EndsWith prefix (keyword name.Vlan)
vlan_ends prefix state runs same =
    let (before, token, last, is, first, entered) = entered_in prefix state mode.Vlan runs same tt in
    ends prefix before token (keyword name.Vlan) is (vlan_last last token entered)

pub length_ends : (prefix : List Token) (state : State) (by : Relation) → Runs most_levels first_state prefix state
    → state.mode ≡ mode.PacketLength by → EndsWith prefix (keyword name.Less) ⊎ EndsWith prefix (keyword name.Greater)
length_ends prefix state by runs same =
    let (before, token, last, is, first, entered) = entered_in prefix state (mode.PacketLength by) runs same tt in
    elim (length_last last token by entered) [
      | inl less ↦ inl (ends prefix before token (keyword name.Less) is less)
      | inr greater ↦ inr (ends prefix before token (keyword name.Greater) is greater)
    ]

pub size_ends : (prefix : List Token) (state : State) (layer : FieldLayer) (offset : ℕ)
    → Runs most_levels first_state prefix state → state.mode ≡ mode.Size layer offset → EndsWith prefix colon
size_ends prefix state layer offset runs same =
    let (before, token, last, is, first, entered) = entered_in prefix state (mode.Size layer offset) runs same tt in
    ends prefix before token colon is (size_last last token layer offset entered)

-- A network is before the last token.
abbrev pub IsAfterNetwork : List Token → Token → IpAddr → Type 0
IsAfterNetwork prefix token address =
    (before : List Token) × (text : List ℕ) × (network : Network) × (prefix ≡ before ++ word text ∷ token ∷ [])
    × IsNetworkText text network × (network.address ≡ address)

after_network : (prefix before : List Token) (token right : Token) (last : State) (layer : AddressLayer) (side : Side)
    (network : Network) (address : IpAddr) → prefix ≡ before ++ token ∷ [] → token ≡ right
    → Runs most_levels first_state before last → last.mode ≡ mode.Net layer side network → network.address ≡ address
    → IsAfterNetwork prefix right address
after_network prefix before token right last layer side network address is same runs modes addresses =
    let (before', token', last', is', first', entered') =
    entered_in before last (mode.Net layer side network) runs modes tt in
    let (text, word_is, stated) = net_last last' token' layer side network entered' in (
      before',
      text,
      network,
      is ∙ ap (λ (t : Token). before ++ t ∷ []) same ∙ ap (λ (l : List Token). l ++ right ∷ []) is'
          ∙ ap (λ (t : Token). before' ++ t ∷ [] ++ right ∷ []) word_is
          ∙ append_assoc before' (word text ∷ []) (right ∷ []),
      stated,
      addresses,
    )

pub slash_ends : (prefix : List Token) (state : State) (layer : AddressLayer) (side : Side) (address : IpAddr)
    → Runs most_levels first_state prefix state → state.mode ≡ mode.Length layer side address
    → IsAfterNetwork prefix slash address
slash_ends prefix state layer side address runs same =
    let (before, token, last, is, first, entered) =
    entered_in prefix state (mode.Length layer side address) runs same tt in
    let (network, modes, addresses, token_is) = prefix_last last token layer side address entered in
    after_network prefix before token slash last layer side network address is token_is first modes addresses

pub mask_ends : (prefix : List Token) (state : State) (layer : AddressLayer) (side : Side) (address : IpAddr)
    → Runs most_levels first_state prefix state → state.mode ≡ mode.Mask layer side address
    → IsAfterNetwork prefix (keyword name.Mask) address
mask_ends prefix state layer side address runs same =
    let (before, token, last, is, first, entered) =
    entered_in prefix state (mode.Mask layer side address) runs same tt in
    let (network, modes, addresses, token_is) = mask_last last token layer side address entered in
    after_network prefix before token (keyword name.Mask) last layer side network address is token_is first modes
    addresses

-- The other way round: the network before the last token is the one of the mode.
net_text : (m : Mode) (last : State) (text : List ℕ) (layer : AddressLayer) (side : Side) (network : Network)
    → m ≡ mode.Net layer side network → IsEnteredByWord last text m → IsNetworkText text network
net_text m last text layer side network same entered = subst (IsEnteredByWord last text) same entered

network_before : (before : List Token) (last : State) (text : List ℕ) (network read : Network) (layer : AddressLayer)
    (side : Side) → Runs most_levels first_state (before ++ word text ∷ []) last → IsNetworkText text network
    → last.mode ≡ mode.Net layer side read → read ≡ network
network_before before last text network read layer side runs stated modes =
    let (last', first', reads') = last_step most_levels _ before (word text) last refl runs in
    let present = entered_by most_levels last' last (word text) (fits_after most_levels last' before first') reads' in
    one_network text read network (net_text last.mode last' text layer side read modes present.1) stated

pub ends_slash : (prefix before : List Token) (text : List ℕ) (network : Network) (state : State)
    → Runs most_levels first_state prefix state → prefix ≡ before ++ word text ∷ slash ∷ [] → IsNetworkText text network
    → (layer : AddressLayer) × (side : Side) × (state.mode ≡ mode.Length layer side network.address)
ends_slash prefix before text network state runs is stated =
    let joined : prefix ≡ (before ++ word text ∷ []) ++ slash ∷ [] =
    is ∙ sym (append_assoc before (word text ∷ []) (slash ∷ [])) in
    let (last, first, reads) = last_step most_levels prefix (before ++ word text ∷ []) slash state joined runs in
    let (layer, side, read, modes, now) =
    leads_if_any most_levels last state slash (fits_after most_levels last _ first) reads in (
      layer,
      side,
      now ∙ ap (λ (n : Network). mode.Length layer side n.address)
          (network_before before last text network read layer side first stated modes),
    )

pub ends_mask : (prefix before : List Token) (text : List ℕ) (network : Network) (state : State)
    → Runs most_levels first_state prefix state → prefix ≡ before ++ word text ∷ keyword name.Mask ∷ []
    → IsNetworkText text network
    → (layer : AddressLayer) × (side : Side) × (state.mode ≡ mode.Mask layer side network.address)
ends_mask prefix before text network state runs is stated =
    let joined : prefix ≡ (before ++ word text ∷ []) ++ keyword name.Mask ∷ [] =
    is ∙ sym (append_assoc before (word text ∷ []) (keyword name.Mask ∷ [])) in
    let (last, first, reads) =
    last_step most_levels prefix (before ++ word text ∷ []) (keyword name.Mask) state joined runs in
    let (layer, side, read, modes, now) =
    leads_if_any most_levels last state (keyword name.Mask) (fits_after most_levels last _ first) reads in (
      layer,
      side,
      now ∙ ap (λ (n : Network). mode.Mask layer side n.address)
          (network_before before last text network read layer side first stated modes),
    )

-- An address of a host is before.
pub host_ends : (prefix : List Token) (state : State) (p : Primitive) → Runs most_levels first_state prefix state
    → state.mode ≡ mode.Host p
    → (before : List Token) × (last : State) × (text : List ℕ) × (prefix ≡ before ++ word text ∷ [])
    × Runs most_levels first_state before last × IsEnteredByWord last text (mode.Host p)
host_ends prefix state p runs same =
    let (before, token, last, is, first, entered) = entered_in prefix state (mode.Host p) runs same tt in
    let (text, token_is, by_word) = host_last last token p entered in
    (before, last, text, is ∙ ap (λ (t : Token). before ++ t ∷ []) token_is, first, by_word)
