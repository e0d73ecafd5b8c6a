-- Lemmas about what the parser reads: one state follows from a state and tokens.
use Rattle.std.proofs.Common.{◌≡◌, ℕ, ◌≤◌, inl, inr, ltb, ltb-true, lt-ltb, Bool, true, false, cond, List, [], ◌∷◌, ◌++◌, Option, Some, None, Ok, Err, refl, ap, sym, subst, ◌∙◌, arith, lit<}
use Rattle.std.proofs.Common.{IsTrue, le-leb, take}
use Rattle.std.specs.List.{list_any}
use Rattle.std.specs.Str.Parse.{IsNumeral}
use Rattle.std.proofs.lemmas.Str.Parse.{digit_from_value}
use Rattle.std.specs.declared.net.ip_addr.IpAddr.{IpAddr}
use Rattle.filter_tokens.specs.declared.filter_error.FilterErrorKind.{FilterErrorKind}
use Rattle.filter_tokens.specs.declared.filter_error.FilterErrorKind.TheVariants as kind
use Rattle.filter_tokens.specs.declared.primitive.AddressLayer.{AddressLayer}
use Rattle.filter_tokens.specs.declared.primitive.Primitive.TheVariants as primitive
use Rattle.filter_tokens.specs.declared.primitive.Side.{Side}
use Rattle.filter_tokens.specs.declared.primitive.Side.TheVariants.{Source, Destination}
use Rattle.filter_tokens.specs.declared.primitive.Width.{Width}
use Rattle.filter_tokens.specs.Networks.{has_no_host_bits}
use Rattle.filter_tokens.specs.Tokens.{Token, keyword, word, and, or, not, left_parenthesis, wrong, is_digit}
use Rattle.filter_tokens.specs.Values.{IsLength, IsMask, IsNumberText, most_number}
use Rattle.filter_tokens.proofs.OnceLemmas.{one_constant, one_length, one_mask, one_number, one_size}
use Rattle.filter_tokens.proofs.ValueLemmas.{decimal_digits}
use Rattle.filter_language.specs.declared.head.Head.{Head}
use Rattle.filter_language.specs.declared.mode.Mode.{Mode}
use Rattle.filter_language.specs.declared.mode.Mode.TheVariants as mode
use Rattle.filter_language.specs.declared.mode.Sided.{Sided}
use Rattle.filter_language.specs.Primitives.{length_test}
use Rattle.filter_language.specs.States.{State, Frame, Reading, Reads, ReadsConstant, ReadsPrefix, ReadsValue, ReadsWord, Runs, Stops, StopsConstant, StopsPrefix, StopsSide, StopsValue, StopsWord, after_value, finish_bare, finish_value, group_mode, in_mode, levels_in, more_tokens, negating, no_tokens, open_level, opened, qualified, read_in, read_operand, read_side, read_side_values, read_sided, side_head, union}
use Rattle.filter_language.proofs.OneValueLemmas.{one_value}

-- ---- words

value_once : (state first second : State) (q : Option Head) (text : List ℕ) → ReadsValue state q text first
    → ReadsValue state q text second → first ≡ second
value_once state first second None text reads again = absurd reads
value_once state first second (Some q) text (p, value, is) (p', value', is') =
    is ∙ ap (after_value (qualified state q) q) (one_value q text p p' value value') ∙ sym is'

-- A prefix length or a mask is one number of bits.
abbrev IsOnce : (IpAddr → List ℕ → ℕ → Type 0) → Type 0
IsOnce IsPrefix =
    (address : IpAddr) (text : List ℕ) (bits more : ℕ) → IsPrefix address text bits → IsPrefix address text more
    → bits ≡ more

prefix_once : (IsPrefix : IpAddr → List ℕ → ℕ → Type 0) (state first second : State) (layer : AddressLayer)
    (side : Side) (address : IpAddr) (text : List ℕ) → IsOnce IsPrefix
    → ReadsPrefix IsPrefix state layer side address text first
    → ReadsPrefix IsPrefix state layer side address text second → first ≡ second
prefix_once IsPrefix state first second layer side address text once (bits, fits, clear, is)
    (bits', fits', clear', is') =
    is
    ∙ ap (λ (b : ℕ). finish_value state (primitive.Address layer side (record { address = address; bits = b })))
    (once address text bits bits' fits fits')
    ∙ sym is'

constant_once : (state first second : State) (mode_with : ℕ → Mode) (text : List ℕ)
    → ReadsConstant state mode_with text first → ReadsConstant state mode_with text second → first ≡ second
constant_once state first second mode_with text (number, stated, is) (number', stated', is') =
    is ∙ ap (λ (n : ℕ). in_mode state (mode_with n)) (one_constant text number number' stated stated') ∙ sym is'

words_once : (state first second : State) (m : Mode) (text : List ℕ) → ReadsWord state m text first
    → ReadsWord state m text second → first ≡ second
words_once state first second (mode.Operand only) text reads again =
    value_once state first second state.head text reads again
words_once state first second (mode.Side sided side) text reads again =
    value_once state first second (side_head sided side) text reads again
words_once state first second (mode.Length layer side address) text reads again =
    prefix_once IsLength state first second layer side address text one_length reads again
words_once state first second (mode.Mask layer side address) text reads again =
    prefix_once IsMask state first second layer side address text one_mask reads again
words_once state first second mode.Vlan text (id, stated, is) (id', stated', is') =
    is ∙ ap (λ (n : ℕ). finish_bare state (primitive.Vlan (Some n)))
    (one_number 4095 4095 text id id' (lit< tt) (lit< tt) stated stated')
    ∙ sym is'
words_once state first second (mode.PacketLength by) text (number, stated, is) (number', stated', is') =
    is ∙ ap (λ (n : ℕ). finish_bare state (length_test by n))
    (one_number most_number most_number text number number' (lit< tt) (lit< tt) stated stated')
    ∙ sym is'
words_once state first second (mode.Offset layer) text reads again =
    constant_once state first second (λ number. mode.OffsetEnd layer number) text reads again
words_once state first second (mode.Size layer offset) text (width, stated, is) (width', stated', is') =
    is ∙ ap (λ (w : Width). in_mode state (mode.SizeEnd layer offset w)) (one_size text width width' stated stated')
    ∙ sym is'
words_once state first second (mode.Group comparison) text reads again =
    constant_once state first second (λ number. group_mode comparison comparison.relation number) text reads again
words_once state first second (mode.GroupItem comparison bits) text reads again =
    constant_once state first second (λ number. mode.GroupEnd comparison (union bits number)) text reads again
words_once state first second m text reads again = absurd reads

-- ---- tokens

-- A token leads to one state.
one_reading : (reading : Reading) (first second : State) → reading ≡ Ok first → reading ≡ Ok second → first ≡ second
one_reading reading first second is is' = let same : Ok first ≡ Ok second = sym is ∙ is' in cc

pub reads_once : (most : ℕ) (state next other : State) (token : Token) → Reads most state token next
    → Reads most state token other → next ≡ other
reads_once most state first second (word text) reads again =
    words_once state first second state.mode text reads again
reads_once most state first second (wrong own) reads again = absurd reads
reads_once most state first second token reads again =
    one_reading (read_in most state state.mode token) first second reads again

-- ---- lists of tokens

-- Without tokens the state stays.
pub stays : (most : ℕ) (state after : State) → Runs most state [] after → state ≡ after
stays most state after (no_tokens s) = refl

-- The first token is read, and then the tokens after it.
pub runs_first : (most : ℕ) (state after : State) (token : Token) (tokens : List Token)
    → Runs most state (token ∷ tokens) after
    → (between : State) × Reads most state token between × Runs most between tokens after
runs_first most state after token tokens (more_tokens s between last t ts reads runs) = (between, reads, runs)

pub runs_once : (most : ℕ) (state next other : State) (tokens : List Token) → Runs most state tokens next
    → Runs most state tokens other → next ≡ other
runs_once most state first second tokens (no_tokens s) again = stays most s second again
runs_once most state first second tokens (more_tokens s between last t ts reads runs) again =
    let (between', reads', runs') = runs_first most s second t ts again in
    runs_once most between last second ts runs
    (subst (λ (b : State). Runs most b ts second) (reads_once most s between' between t reads' reads) runs')

pub runs_joined : (most : ℕ) (state between next : State) (prefix back : List Token) → Runs most state prefix between
    → Runs most between back next → Runs most state (prefix ++ back) next
runs_joined most state between after prefix back (no_tokens s) later = later
runs_joined most state between after prefix back (more_tokens s first last t ts reads runs) later =
    more_tokens s first after t (ts ++ back) reads (runs_joined most first last after ts back runs later)

pub runs_apart : (most : ℕ) (state next : State) (prefix back : List Token) → Runs most state (prefix ++ back) next
    → (between : State) × Runs most state prefix between × Runs most between back next
runs_apart most state after [] back runs = (state, no_tokens state, runs)
runs_apart most state after (token ∷ prefix) back runs =
    let (first, reads, rest) = runs_first most state after token (prefix ++ back) runs in
    let (between, before, later) = runs_apart most first after prefix back rest in
    (between, more_tokens state first between token prefix reads before, later)

-- ---- more levels

open_if : (few many : Bool) (inside after : State) → (few ≡ true → many ≡ true)
    → cond few (Ok inside) (Err kind.Deep) ≡ Ok after → cond many (Ok inside) (Err kind.Deep) ≡ Ok after
open_if true many inside after up is = rw (up refl) is
open_if false many inside after up is = let never : ⊥ = cc in absurd never

-- A level that can be opened can be opened where more can be open.
open_more : (most more : ℕ) (state after : State) (only : Bool) (frame : Frame) (inside : Bool) → most ≤ more
    → open_level most state only frame inside ≡ Ok after → open_level more state only frame inside ≡ Ok after
open_more most more state after only frame inside up is =
    open_if (ltb (levels_in state.frames) most) (ltb (levels_in state.frames) more) _ after
    (λ fits. let below = ltb-true (levels_in state.frames) most fits in
    lt-ltb (levels_in state.frames) more (omega (arith, below, up))) is

operand_more : (most more : ℕ) (state after : State) (only : Bool) (token : Token) → most ≤ more
    → read_operand most state only token ≡ Ok after → read_operand more state only token ≡ Ok after
operand_more most more state after only not up is =
    open_more most more state after only negating state.only_values up is
operand_more most more state after only left_parenthesis up is =
    open_more most more state after only (opened state.head state.only_values) only up is
operand_more most more state after false (keyword name) up is = is
operand_more most more state after only token up is = is

side_values_more : (most more : ℕ) (state after : State) (q : Option Head) (token : Token) → most ≤ more
    → read_side_values most state q token ≡ Ok after → read_side_values more state q token ≡ Ok after
side_values_more most more state after None token up is = is
side_values_more most more state after (Some h) token up is =
    operand_more most more (qualified state h) after true token up is

sided_more : (most more : ℕ) (state after : State) (sided : Sided) (side : Side) (token : Token) → most ≤ more
    → read_sided most state sided side token ≡ Ok after → read_sided more state sided side token ≡ Ok after
sided_more most more state after sided side (keyword name) up is = is
sided_more most more state after sided side token up is =
    side_values_more most more state after (side_head sided side) token up is

side_more : (most more : ℕ) (state after : State) (sided : Sided) (side : Side) (token : Token) → most ≤ more
    → read_side most state sided side token ≡ Ok after → read_side more state sided side token ≡ Ok after
side_more most more state after sided Source or up is = is
side_more most more state after sided Source and up is = is
side_more most more state after sided Destination or up is = is
side_more most more state after sided Destination and up is = is
side_more most more state after sided side token up is = sided_more most more state after sided side token up is

reading_more : (most more : ℕ) (state after : State) (m : Mode) (token : Token) → most ≤ more
    → read_in most state m token ≡ Ok after → read_in more state m token ≡ Ok after
reading_more most more state after (mode.Operand only) token up is =
    operand_more most more state after only token up is
reading_more most more state after (mode.Side sided side) token up is =
    side_more most more state after sided side token up is
reading_more most more state after m token up is = is

reads_more : (most more : ℕ) (state after : State) (token : Token) → most ≤ more → Reads most state token after
    → Reads more state token after
reads_more most more state after (word text) up reads = reads
reads_more most more state after (wrong own) up reads = reads
reads_more most more state after token up reads = reading_more most more state after state.mode token up reads

pub runs_more : (most more : ℕ) (state next : State) (tokens : List Token) → most ≤ more
    → Runs most state tokens next → Runs more state tokens next
runs_more most more state after tokens up (no_tokens s) = no_tokens s
runs_more most more state after tokens up (more_tokens s between last t ts reads runs) =
    more_tokens s between last t ts (reads_more most more s between t up reads)
    (runs_more most more between last ts up runs)

-- ---- tokens that are not allowed

digit_first : (text : List ℕ) → IsNumeral 10 text → IsTrue (list_any is_digit (take 1 text))
digit_first [] numeral = absurd (omega (arith, numeral.0))
digit_first (byte ∷ text) numeral =
    let range = digit_from_value byte numeral.1.0 in
    rw (le-leb 48 byte range.0, le-leb byte 57 range.1)

-- A number begins with a digit.
number_begins : (text : List ℕ) (number : ℕ) → IsNumberText 4095 text number → IsTrue (list_any is_digit (take 1 text))
number_begins text number (inl is) = digit_first text (decimal_digits 4095 text number (lit< tt) is).0
number_begins text number (inr (digits, inl mark, numeral, value, bound)) = rw mark
number_begins text number (inr (digits, inr mark, numeral, value, bound)) = rw mark

clear_not : (bits more : ℕ) (address : IpAddr) → bits ≡ more
    → has_no_host_bits (record { address = address; bits = bits }) ≡ true
    → has_no_host_bits (record { address = address; bits = more }) ≡ false → ⊥
clear_not bits more address same clear fails =
    let clash : true ≡ false =
    sym clear ∙ ap (λ (b : ℕ). has_no_host_bits (record { address = address; bits = b })) same ∙ fails in cc

value_apart : (state after : State) (q : Option Head) (text : List ℕ) (found : FilterErrorKind)
    → ReadsValue state q text after → StopsValue q text found → ⊥
value_apart state after None text found reads stops = reads
value_apart state after (Some q) text found (p, value, is) stops = stops.0 p value

side_apart : (state after : State) (q : Option Head) (text : List ℕ) (found : FilterErrorKind)
    → ReadsValue state q text after → StopsSide q text found → ⊥
side_apart state after None text found reads stops = reads
side_apart state after (Some q) text found reads stops = value_apart state after (Some q) text found reads stops

prefix_apart : (IsPrefix : IpAddr → List ℕ → ℕ → Type 0) (state after : State) (layer : AddressLayer) (side : Side)
    (address : IpAddr) (text : List ℕ) (otherwise found : FilterErrorKind) → IsOnce IsPrefix
    → ReadsPrefix IsPrefix state layer side address text after → StopsPrefix IsPrefix otherwise address text found → ⊥
prefix_apart IsPrefix state after layer side address text otherwise found once (bits, fits, clear, is)
    (inl (bits', fits', set, kind_is)) =
    clear_not bits bits' address (once address text bits bits' fits fits') clear set
prefix_apart IsPrefix state after layer side address text otherwise found once (bits, fits, clear, is)
    (inr (none, kind_is)) = none bits fits

constant_apart : (state after : State) (mode_with : ℕ → Mode) (text : List ℕ) (found : FilterErrorKind)
    → ReadsConstant state mode_with text after → StopsConstant text found → ⊥
constant_apart state after mode_with text found (number, stated, is) stops = stops.0 number stated

words_apart : (state after : State) (m : Mode) (text : List ℕ) (found : FilterErrorKind)
    → ReadsWord state m text after → StopsWord state m text found → ⊥
words_apart state after (mode.Operand only) text found reads stops =
    value_apart state after state.head text found reads stops
words_apart state after (mode.Side sided side) text found reads stops =
    side_apart state after (side_head sided side) text found reads stops
words_apart state after (mode.Length layer side address) text found reads stops =
    prefix_apart IsLength state after layer side address text kind.NotALength found one_length reads stops
words_apart state after (mode.Mask layer side address) text found reads stops =
    prefix_apart IsMask state after layer side address text kind.NotAMask found one_mask reads stops
words_apart state after mode.Vlan text found (id, stated, is) (inl (digit, none, kind_is)) = none id stated
words_apart state after mode.Vlan text found (id, stated, is) (inr (no_digit, kind_is)) =
    no_digit (number_begins text id stated)
words_apart state after (mode.PacketLength by) text found (number, stated, is) stops = stops.0 number stated
words_apart state after (mode.Offset layer) text found reads stops =
    constant_apart state after (λ number. mode.OffsetEnd layer number) text found reads stops
words_apart state after (mode.Size layer offset) text found (width, stated, is) stops = stops.0 width stated
words_apart state after (mode.Group comparison) text found reads stops =
    constant_apart state after (λ number. group_mode comparison comparison.relation number) text found reads stops
words_apart state after (mode.GroupItem comparison bits) text found reads stops =
    constant_apart state after (λ number. mode.GroupEnd comparison (union bits number)) text found reads stops
words_apart state after m text found reads stops = reads

reading_apart : (reading : Reading) (after : State) (found : FilterErrorKind) → reading ≡ Ok after
    → reading ≡ Err found → ⊥
reading_apart reading after found is fails = cc

pub stops_apart : (most : ℕ) (state next : State) (token : Token) (found : FilterErrorKind)
    → Reads most state token next → Stops most state token found → ⊥
stops_apart most state after (word text) found reads stops = words_apart state after state.mode text found reads stops
stops_apart most state after (wrong own) found reads stops = reads
stops_apart most state after token found reads stops =
    reading_apart (read_in most state state.mode token) after found reads stops
