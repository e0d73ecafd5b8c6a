-- Lemmas about the kind of an error: the parser reports the kind of the definition.
use Rattle.std.proofs.Common.{◌≡◌, ℕ, suc, ◌⊎◌, inl, inr, Bool, true, false, IsTrue, List, take, Option, Some, None, Ok, Err, refl, ap, sym, ◌∙◌, subst, arith}
use Rattle.std.specs.List.{list_any}
use Rattle.std.specs.declared.net.ip_addr.IpAddr.{IpAddr}
use Rattle.filter_tokens.specs.declared.filter_error.FilterErrorKind.{FilterErrorKind}
use Rattle.filter_tokens.specs.declared.filter_error.FilterErrorKind.TheVariants as kind
use Rattle.filter_tokens.specs.declared.keyword.Keyword.TheVariants as name
use Rattle.filter_tokens.specs.declared.primitive.AddressLayer.{AddressLayer}
use Rattle.filter_tokens.specs.declared.primitive.Primitive.{Primitive}
use Rattle.filter_tokens.specs.declared.primitive.Side.{Side}
use Rattle.filter_tokens.specs.Networks.{has_no_host_bits}
use Rattle.filter_tokens.specs.Tokens.{Token, keyword, word, not, left_parenthesis, colon, wrong, is_digit}
use Rattle.filter_tokens.specs.Values.{IsLength, IsMask}
use Rattle.filter_language.specs.declared.head.Head.{Head}
use Rattle.filter_language.specs.declared.head.Head.TheVariants as head
use Rattle.filter_language.specs.declared.mode.Mode.{Mode}
use Rattle.filter_language.specs.declared.mode.Mode.TheVariants as mode
use Rattle.filter_language.specs.declared.mode.Sided.{Sided}
use Rattle.filter_language.specs.Grammar.{most_levels}
use Rattle.filter_language.specs.Refusals.{IsAfterHost, IsAllowed, IsArithmetic, IsDeep, IsKind, IsOperandKind, IsOtherKind, IsValueKind, IsWordKind, value_kind}
use Rattle.filter_language.specs.States.{State, Reading, ReadsPrefix, ReadsValue, ReadsWord, Runs, Stops, StopsPrefix, StopsSide, StopsValue, StopsWord, IsAwaiting, first_state, read_in, side_head}
use Rattle.filter_language.proofs.AwaitLemmas.{awaits_state}
use Rattle.filter_language.proofs.PlaceLemmas.{constant_mode, ends_mask, ends_slash, fits_after, host_ends, last_leads, last_step, length_ends, mask_ends, mode_constant, mode_test, reads_allowed, size_ends, slash_ends, test_mode, vlan_ends}
use Rattle.filter_language.proofs.ReadingLemmas.{AfterHostIn, ArithmeticIn, InConstant, InHost, IsKindIn, after_host_in, arithmetic_in, deep_in, kind_in}
use Rattle.filter_language.proofs.RunLemmas.{allowed_reads, runs_more}
use Rattle.filter_language.proofs.StandLemmas.{runs_await}

-- ---- the rows of words, by the mode

abbrev SideRow : Option Head → List ℕ → FilterErrorKind → Type 0
SideRow None text found = ⊥
SideRow (Some q) text found = IsOperandKind (Some q) text found

abbrev PrefixRow : (IpAddr → List ℕ → ℕ → Type 0) → FilterErrorKind → IpAddr → List ℕ → FilterErrorKind → Type 0
PrefixRow IsPrefix otherwise address text found =
    ((bits : ℕ) × IsPrefix address text bits × (found ≡ kind.HostBits))
    ⊎ (((bits : ℕ) → ¬ IsPrefix address text bits) × (found ≡ otherwise))

abbrev RowIn : State → Mode → List ℕ → FilterErrorKind → Type 0
RowIn state (mode.Operand only) text found = IsOperandKind state.head text found
RowIn state (mode.Side sided side) text found = SideRow (side_head sided side) text found
RowIn state (mode.Length layer side address) text found = PrefixRow IsLength kind.NotALength address text found
RowIn state (mode.Mask layer side address) text found = PrefixRow IsMask kind.NotAMask address text found
RowIn state mode.Vlan text found = IsTrue (list_any is_digit (take 1 text)) × (found ≡ kind.NotAVlan)
RowIn state (mode.PacketLength by) text found = found ≡ kind.NotANumber
RowIn state (mode.Offset layer) text found = found ≡ kind.NotANumber
RowIn state (mode.Size layer offset) text found = found ≡ kind.NotASize
RowIn state (mode.Group comparison) text found = found ≡ kind.NotANumber
RowIn state (mode.GroupItem comparison bits) text found = found ≡ kind.NotANumber
RowIn state m text found = ⊥

-- A word that stops has the kind of the row of the mode, or is misplaced if the mode has no row.
abbrev HasRow : State → Mode → List ℕ → FilterErrorKind → Type 0
HasRow state m text found =
    RowIn state m text found ⊎ (((right : FilterErrorKind) → ¬ RowIn state m text right) × (found ≡ kind.Misplaced))

operand_row : (q : Option Head) (text : List ℕ) (found : FilterErrorKind) → StopsValue q text found
    → IsOperandKind q text found
operand_row None text found stops = stops
operand_row (Some q) text found stops = stops.1

side_row : (q : Option Head) (text : List ℕ) (found : FilterErrorKind) → StopsSide q text found
    → SideRow q text found ⊎ (((right : FilterErrorKind) → ¬ SideRow q text right) × (found ≡ kind.Misplaced))
side_row None text found stops = inr ((λ right row. row), stops)
side_row (Some q) text found stops = inl stops.1

prefix_row : (IsPrefix : IpAddr → List ℕ → ℕ → Type 0) (otherwise found : FilterErrorKind) (address : IpAddr)
    (text : List ℕ) → StopsPrefix IsPrefix otherwise address text found
    → PrefixRow IsPrefix otherwise address text found
prefix_row IsPrefix otherwise found address text (inl (bits, is, set, same)) = inl (bits, is, same)
prefix_row IsPrefix otherwise found address text (inr stops) = inr stops

stops_row : (state : State) (m : Mode) (text : List ℕ) (found : FilterErrorKind) → StopsWord state m text found
    → HasRow state m text found
stops_row state (mode.Operand only) text found stops = inl (operand_row state.head text found stops)
stops_row state (mode.Side sided side) text found stops = side_row (side_head sided side) text found stops
stops_row state (mode.Length layer side address) text found stops =
    inl (prefix_row IsLength kind.NotALength found address text stops)
stops_row state (mode.Mask layer side address) text found stops =
    inl (prefix_row IsMask kind.NotAMask found address text stops)
stops_row state mode.Vlan text found (inl (digit, none, same)) = inl (digit, same)
stops_row state mode.Vlan text found (inr (none, same)) = inr ((λ right row. none row.0), same)
stops_row state (mode.PacketLength by) text found stops = inl stops.1
stops_row state (mode.Offset layer) text found stops = inl stops.1
stops_row state (mode.Size layer offset) text found stops = inl stops.1
stops_row state (mode.Group comparison) text found stops = inl stops.1
stops_row state (mode.GroupItem comparison bits) text found stops = inl stops.1
stops_row state m text found stops = inr ((λ right row. row), stops)

-- A word that is not read stops with the kind of the row.
value_stops : (state : State) (q : Option Head) (text : List ℕ) (found : FilterErrorKind)
    → ((after : State) → ¬ ReadsValue state q text after) → IsOperandKind q text found → StopsValue q text found
value_stops state None text found none row = row
value_stops state (Some q) text found none row = ((λ p value. none _ (p, value, refl)), row)

side_stops : (state : State) (q : Option Head) (text : List ℕ) (found : FilterErrorKind)
    → ((after : State) → ¬ ReadsValue state q text after) → SideRow q text found → StopsSide q text found
side_stops state None text found none row = absurd row
side_stops state (Some q) text found none row = value_stops state (Some q) text found none row

host_bits_stop : (IsPrefix : IpAddr → List ℕ → ℕ → Type 0) (state : State) (layer : AddressLayer) (side : Side)
    (address : IpAddr) (text : List ℕ) (otherwise found : FilterErrorKind) (bits : ℕ) (clear : Bool)
    → ((after : State) → ¬ ReadsPrefix IsPrefix state layer side address text after) → IsPrefix address text bits
    → has_no_host_bits (record { address = address; bits = bits }) ≡ clear → found ≡ kind.HostBits
    → StopsPrefix IsPrefix otherwise address text found
host_bits_stop IsPrefix state layer side address text otherwise found bits true none is clear same =
    absurd (none _ (bits, is, clear, refl))
host_bits_stop IsPrefix state layer side address text otherwise found bits false none is set same =
    inl (bits, is, set, same)

prefix_stops : (IsPrefix : IpAddr → List ℕ → ℕ → Type 0) (state : State) (layer : AddressLayer) (side : Side)
    (address : IpAddr) (text : List ℕ) (otherwise found : FilterErrorKind)
    → ((after : State) → ¬ ReadsPrefix IsPrefix state layer side address text after)
    → PrefixRow IsPrefix otherwise address text found → StopsPrefix IsPrefix otherwise address text found
prefix_stops IsPrefix state layer side address text otherwise found none (inl (bits, is, same)) =
    host_bits_stop IsPrefix state layer side address text otherwise found bits
    (has_no_host_bits (record { address = address; bits = bits })) none is refl same
prefix_stops IsPrefix state layer side address text otherwise found none (inr row) = inr row

row_stops : (state : State) (m : Mode) (text : List ℕ) (found : FilterErrorKind)
    → ((after : State) → ¬ ReadsWord state m text after) → RowIn state m text found → StopsWord state m text found
row_stops state (mode.Operand only) text found none row = value_stops state state.head text found none row
row_stops state (mode.Side sided side) text found none row =
    side_stops state (side_head sided side) text found none row
row_stops state (mode.Length layer side address) text found none row =
    prefix_stops IsLength state layer side address text kind.NotALength found none row
row_stops state (mode.Mask layer side address) text found none row =
    prefix_stops IsMask state layer side address text kind.NotAMask found none row
row_stops state mode.Vlan text found none row = inl (row.0, (λ id number. none _ (id, number, refl)), row.1)
row_stops state (mode.PacketLength by) text found none row = ((λ n number. none _ (n, number, refl)), row)
row_stops state (mode.Offset layer) text found none row = ((λ n constant. none _ (n, constant, refl)), row)
row_stops state (mode.Size layer offset) text found none row = ((λ width size. none _ (width, size, refl)), row)
row_stops state (mode.Group comparison) text found none row = ((λ n constant. none _ (n, constant, refl)), row)
row_stops state (mode.GroupItem comparison bits) text found none row =
    ((λ n constant. none _ (n, constant, refl)), row)
row_stops state m text found none row = absurd row

-- Where no row has a kind, a word is misplaced.
some_operand_row : (q : Option Head) (text : List ℕ) → ((right : FilterErrorKind) → ¬ IsOperandKind q text right) → ⊥
some_operand_row None text none = none kind.Unknown (inr ((λ like. none kind.Unqualified (inl (like, refl))), refl))
some_operand_row (Some q) text none =
    none (value_kind q) (inr ((λ family. none kind.WrongFamily (inl (family, refl))), refl))

none_stops_side : (q : Option Head) (text : List ℕ) (found : FilterErrorKind)
    → ((right : FilterErrorKind) → ¬ SideRow q text right) → found ≡ kind.Misplaced → StopsSide q text found
none_stops_side None text found none same = same
none_stops_side (Some q) text found none same = absurd (some_operand_row (Some q) text none)

some_prefix_row : (IsPrefix : IpAddr → List ℕ → ℕ → Type 0) (otherwise : FilterErrorKind) (address : IpAddr)
    (text : List ℕ) → ((right : FilterErrorKind) → ¬ PrefixRow IsPrefix otherwise address text right) → ⊥
some_prefix_row IsPrefix otherwise address text none =
    none otherwise (inr ((λ bits is. none kind.HostBits (inl (bits, is, refl))), refl))

none_stops : (state : State) (m : Mode) (text : List ℕ) (found : FilterErrorKind)
    → ((right : FilterErrorKind) → ¬ RowIn state m text right) → found ≡ kind.Misplaced → StopsWord state m text found
none_stops state (mode.Operand only) text found none same = absurd (some_operand_row state.head text none)
none_stops state (mode.Side sided side) text found none same =
    none_stops_side (side_head sided side) text found none same
none_stops state (mode.Length layer side address) text found none same =
    absurd (some_prefix_row IsLength kind.NotALength address text none)
none_stops state (mode.Mask layer side address) text found none same =
    absurd (some_prefix_row IsMask kind.NotAMask address text none)
none_stops state mode.Vlan text found none same = inr ((λ digit. none kind.NotAVlan (digit, refl)), same)
none_stops state (mode.PacketLength by) text found none same = absurd (none kind.NotANumber refl)
none_stops state (mode.Offset layer) text found none same = absurd (none kind.NotANumber refl)
none_stops state (mode.Size layer offset) text found none same = absurd (none kind.NotASize refl)
none_stops state (mode.Group comparison) text found none same = absurd (none kind.NotANumber refl)
none_stops state (mode.GroupItem comparison bits) text found none same = absurd (none kind.NotANumber refl)
none_stops state m text found none same = same

-- ---- the rows of words, by the tokens before

in_mode_row : (state : State) (m : Mode) (text : List ℕ) (found : FilterErrorKind) → state.mode ≡ m
    → RowIn state m text found → RowIn state state.mode text found
in_mode_row state m text found same row = subst (λ (n : Mode). RowIn state n text found) (sym same) row

awaiting_row : (state : State) (q : Option Head) (only : Bool) (text : List ℕ) (found : FilterErrorKind)
    → IsAwaiting state q only → IsOperandKind q text found → RowIn state state.mode text found
awaiting_row state q only text found (inl (modes, heads)) row =
    in_mode_row state (mode.Operand only) text found modes
    (subst (λ (o : Option Head). IsOperandKind o text found) (sym heads) row)
awaiting_row state q only text found (inr (sided, side, h, modes, is, same, values)) row =
    in_mode_row state (mode.Side sided side) text found modes
    (subst (λ (o : Option Head). SideRow o text found) (sym is)
    (subst (λ (o : Option Head). IsOperandKind o text found) same row))

constant_row : (state : State) (m : Mode) (text : List ℕ) (found : FilterErrorKind) → InConstant m
    → found ≡ kind.NotANumber → RowIn state m text found
constant_row state (mode.Offset layer) text found within same = same
constant_row state (mode.Group comparison) text found within same = same
constant_row state (mode.GroupItem comparison bits) text found within same = same
constant_row state m text found within same = absurd within

row_in : (prefix : List Token) (state : State) (text : List ℕ) (found : FilterErrorKind)
    → Runs most_levels first_state prefix state → IsWordKind prefix text found → RowIn state state.mode text found
row_in prefix state text found runs (inl (levels, q, only, fits, awaits, row)) =
    awaiting_row state q only text found (awaits_state most_levels levels prefix state q only runs awaits) row
row_in prefix state text found runs (inr (inl (before, address, network, is, stated, row))) =
    let (layer, side, modes) = ends_slash prefix before address network state runs is stated in
    in_mode_row state (mode.Length layer side network.address) text found modes row
row_in prefix state text found runs (inr (inr (inl (before, address, network, is, stated, row)))) =
    let (layer, side, modes) = ends_mask prefix before address network state runs is stated in
    in_mode_row state (mode.Mask layer side network.address) text found modes row
row_in prefix state text found runs (inr (inr (inr (inl (awaits, same))))) =
    constant_row state state.mode text found (constant_mode prefix state runs awaits) same
row_in prefix state text found runs (inr (inr (inr (inr (inl (ends, same)))))) =
    let (before, last, is, first, (by, modes)) = last_leads prefix state (keyword name.Less) runs ends in
    in_mode_row state (mode.PacketLength by) text found modes same
row_in prefix state text found runs (inr (inr (inr (inr (inr (inl (ends, same))))))) =
    let (before, last, is, first, (by, modes)) = last_leads prefix state (keyword name.Greater) runs ends in
    in_mode_row state (mode.PacketLength by) text found modes same
row_in prefix state text found runs (inr (inr (inr (inr (inr (inr (inl (ends, same)))))))) =
    let (before, last, is, first, (layer, offset, modes)) = last_leads prefix state colon runs ends in
    in_mode_row state (mode.Size layer offset) text found modes same
row_in prefix state text found runs (inr (inr (inr (inr (inr (inr (inr (ends, digit, same)))))))) =
    let (before, last, is, first, modes) = last_leads prefix state (keyword name.Vlan) runs ends in
    in_mode_row state mode.Vlan text found modes (digit, same)

operand_in_row : (prefix : List Token) (state : State) (q : Option Head) (only : Bool) (text : List ℕ)
    (found : FilterErrorKind) → Runs most_levels first_state prefix state → IsAwaiting state q only
    → IsOperandKind q text found → IsWordKind prefix text found
operand_in_row prefix state q only text found runs awaiting row =
    let (levels, fits, awaits) = runs_await most_levels prefix state q only runs awaiting in
    inl (levels, q, only, fits, awaits, row)

side_in_row : (prefix : List Token) (state : State) (sided : Sided) (side : Side) (q : Option Head) (text : List ℕ)
    (found : FilterErrorKind) → Runs most_levels first_state prefix state → state.mode ≡ mode.Side sided side
    → side_head sided side ≡ q → SideRow q text found → IsWordKind prefix text found
side_in_row prefix state sided side None text found runs modes is row = absurd row
side_in_row prefix state sided side (Some q) text found runs modes is row =
    operand_in_row prefix state (Some q) true text found runs (inr (sided, side, q, modes, is, refl, refl)) row

number_in_row : (prefix : List Token) (state : State) (m : Mode) (text : List ℕ) (found : FilterErrorKind)
    → Runs most_levels first_state prefix state → state.mode ≡ m → InConstant m → found ≡ kind.NotANumber
    → IsWordKind prefix text found
number_in_row prefix state m text found runs modes within same =
    inr (inr (inr (inl (mode_constant prefix state runs (subst InConstant (sym modes) within), same))))

in_row : (prefix : List Token) (state : State) (m : Mode) (text : List ℕ) (found : FilterErrorKind)
    → Runs most_levels first_state prefix state → state.mode ≡ m → RowIn state m text found
    → IsWordKind prefix text found
in_row prefix state (mode.Operand only) text found runs modes row =
    operand_in_row prefix state state.head only text found runs (inl (modes, refl)) row
in_row prefix state (mode.Side sided side) text found runs modes row =
    side_in_row prefix state sided side (side_head sided side) text found runs modes refl row
in_row prefix state (mode.Length layer side address) text found runs modes row =
    let (before, written, network, is, stated, same) = slash_ends prefix state layer side address runs modes in
    inr (inl (
      before,
      written,
      network,
      is,
      stated,
      subst (λ (a : IpAddr). PrefixRow IsLength kind.NotALength a text found) (sym same) row,
    ))
in_row prefix state (mode.Mask layer side address) text found runs modes row =
    let (before, written, network, is, stated, same) = mask_ends prefix state layer side address runs modes in
    inr (inr (inl (
      before,
      written,
      network,
      is,
      stated,
      subst (λ (a : IpAddr). PrefixRow IsMask kind.NotAMask a text found) (sym same) row,
    )))
in_row prefix state mode.Vlan text found runs modes row =
    inr (inr (inr (inr (inr (inr (inr (vlan_ends prefix state runs modes, row.0, row.1)))))))
in_row prefix state (mode.PacketLength by) text found runs modes row =
    elim (length_ends prefix state by runs modes) [
      | inl less ↦ inr (inr (inr (inr (inl (less, row)))))
      | inr greater ↦ inr (inr (inr (inr (inr (inl (greater, row))))))
    ]
in_row prefix state (mode.Offset layer) text found runs modes row =
    number_in_row prefix state (mode.Offset layer) text found runs modes tt row
in_row prefix state (mode.Size layer offset) text found runs modes row =
    inr (inr (inr (inr (inr (inr (inl (size_ends prefix state layer offset runs modes, row)))))))
in_row prefix state (mode.Group comparison) text found runs modes row =
    number_in_row prefix state (mode.Group comparison) text found runs modes tt row
in_row prefix state (mode.GroupItem comparison bits) text found runs modes row =
    number_in_row prefix state (mode.GroupItem comparison bits) text found runs modes tt row
in_row prefix state m text found runs modes row = absurd row

word_kind : (prefix : List Token) (state : State) (text : List ℕ) (found : FilterErrorKind)
    → Runs most_levels first_state prefix state → StopsWord state state.mode text found
    → IsKind prefix (word text) found
word_kind prefix state text found runs stops =
    elim (stops_row state state.mode text found stops) [
      | inl row ↦ inl (in_row prefix state state.mode text found runs refl row)
      | inr (none, same) ↦ inr ((λ right is. none right (row_in prefix state text right runs is)), same)
    ]

kind_word : (prefix : List Token) (state : State) (text : List ℕ) (found : FilterErrorKind)
    → Runs most_levels first_state prefix state → ((after : State) → ¬ ReadsWord state state.mode text after)
    → IsKind prefix (word text) found → StopsWord state state.mode text found
kind_word prefix state text found runs none (inl is) =
    row_stops state state.mode text found none (row_in prefix state text found runs is)
kind_word prefix state text found runs none (inr (no_row, same)) =
    none_stops state state.mode text found
    (λ right row. no_row right (in_row prefix state state.mode text right runs refl row)) same

-- ---- tokens that are no words

-- `(` or `not` would be read if one more level could be open.
deeper_runs : (prefix : List Token) (state : State) → Runs most_levels first_state prefix state
    → Runs (suc most_levels) first_state prefix state
deeper_runs prefix state runs = runs_more most_levels (suc most_levels) first_state state prefix (omega arith) runs

mode_deep : (prefix : List Token) (state inside : State) (token : Token) → Runs most_levels first_state prefix state
    → (token ≡ left_parenthesis) ⊎ (token ≡ not) → read_in (suc most_levels) state state.mode token ≡ Ok inside
    → IsDeep prefix token
mode_deep prefix state inside token runs (inl same) reads = (
  inl same,
  subst (IsAllowed (suc most_levels) prefix) (sym same)
      (reads_allowed (suc most_levels) prefix left_parenthesis state inside (deeper_runs prefix state runs)
      (sym (ap (read_in (suc most_levels) state state.mode) same) ∙ reads)),
)
mode_deep prefix state inside token runs (inr same) reads = (
  inr same,
  subst (IsAllowed (suc most_levels) prefix) (sym same)
      (reads_allowed (suc most_levels) prefix not state inside (deeper_runs prefix state runs)
      (sym (ap (read_in (suc most_levels) state state.mode) same) ∙ reads)),
)

deep_mode : (prefix : List Token) (state : State) (token : Token) → Runs most_levels first_state prefix state
    → IsDeep prefix token → (inside : State) × (read_in (suc most_levels) state state.mode token ≡ Ok inside)
deep_mode prefix state token runs (inl same, allowed) =
    let (inside, reads) =
    allowed_reads (suc most_levels) prefix left_parenthesis state (deeper_runs prefix state runs)
    (subst (IsAllowed (suc most_levels) prefix) same allowed) in
    (inside, ap (read_in (suc most_levels) state state.mode) same ∙ reads)
deep_mode prefix state token runs (inr same, allowed) =
    let (inside, reads) =
    allowed_reads (suc most_levels) prefix not state (deeper_runs prefix state runs)
    (subst (IsAllowed (suc most_levels) prefix) same allowed) in
    (inside, ap (read_in (suc most_levels) state state.mode) same ∙ reads)

-- Arithmetic in a byte test.
arithmetic_mode : (prefix : List Token) (state : State) (token : Token) → Runs most_levels first_state prefix state
    → IsArithmetic prefix token → ArithmeticIn state.mode token
arithmetic_mode prefix state token runs (inl (operator, within)) = inl (operator, test_mode prefix state runs within)
arithmetic_mode prefix state token runs (inr (operand, awaits)) = inr (operand, constant_mode prefix state runs awaits)

mode_arithmetic : (prefix : List Token) (state : State) (token : Token) → Runs most_levels first_state prefix state
    → ArithmeticIn state.mode token → IsArithmetic prefix token
mode_arithmetic prefix state token runs (inl (operator, within)) = inl (operator, mode_test prefix state runs within)
mode_arithmetic prefix state token runs (inr (operand, within)) = inr (operand, mode_constant prefix state runs within)

-- A prefix length or a mask after a host.
host_value : (last state : State) (layer : AddressLayer) (side : Side) (text : List ℕ)
    → ReadsValue last (Some (head.Host layer side)) text state → InHost state.mode
host_value last state layer side text (p, value, is) = subst (λ (s : State). InHost s.mode) (sym is) tt

host_word : (last state : State) (layer : AddressLayer) (side : Side) (only : Bool) (text : List ℕ)
    → IsAwaiting last (Some (head.Host layer side)) only → ReadsWord last last.mode text state → InHost state.mode
host_word last state layer side only text (inl (modes, heads)) reads =
    host_value last state layer side text
    (subst (λ (o : Option Head). ReadsValue last o text state) heads
    (subst (λ (m : Mode). ReadsWord last m text state) modes reads))
host_word last state layer side only text (inr (sided, side', h, modes, is, same, values)) reads =
    host_value last state layer side text
    (subst (λ (o : Option Head). ReadsValue last o text state) (is ∙ sym same)
    (subst (λ (m : Mode). ReadsWord last m text state) modes reads))

after_host_mode : (prefix : List Token) (state : State) (token : Token) → Runs most_levels first_state prefix state
    → IsAfterHost prefix token → AfterHostIn state.mode token
after_host_mode prefix state token runs
    (which, (levels, before, text, layer, side, only, p, fits, awaits, value, is)) =
    let (last, first, reads) = last_step most_levels prefix before (word text) state is runs in (
      which,
      host_word last state layer side only text
          (awaits_state most_levels levels before last (Some (head.Host layer side)) only first awaits) reads,
    )

host_of : (m : Mode) → InHost m → (p : Primitive) × (m ≡ mode.Host p)
host_of (mode.Host p) within = (p, refl)
host_of m within = absurd within

mode_after_host : (prefix : List Token) (state : State) (token : Token) → Runs most_levels first_state prefix state
    → AfterHostIn state.mode token → IsAfterHost prefix token
mode_after_host prefix state token runs (which, within) =
    let (p, modes) = host_of state.mode within in
    let (before, last, text, is, first, (layer, side, only, awaiting, value)) = host_ends prefix state p runs modes in
    let (levels, fits, awaits) =
    runs_await most_levels before last (Some (head.Host layer side)) only first awaiting in
    (which, (levels, before, text, layer, side, only, p, fits, awaits, value, is))

-- The row of a token that stops.
abbrev IsRow : List Token → Token → FilterErrorKind → Type 0
IsRow prefix token found =
    (IsDeep prefix token × (found ≡ kind.Deep)) ⊎ (IsArithmetic prefix token × (found ≡ kind.Arithmetic))
    ⊎ (IsAfterHost prefix token × (found ≡ kind.NetOnly)) ⊎ (found ≡ kind.Misplaced)

in_rows : (prefix : List Token) (state : State) (token : Token) (found : FilterErrorKind)
    → Runs most_levels first_state prefix state
    → IsKindIn (read_in (suc most_levels) state state.mode token) state.mode token found → IsRow prefix token found
in_rows prefix state token found runs (inl (opening, (inside, reads), same)) =
    inl (mode_deep prefix state inside token runs opening reads, same)
in_rows prefix state token found runs (inr (inl (arithmetic, same))) =
    inr (inl (mode_arithmetic prefix state token runs arithmetic, same))
in_rows prefix state token found runs (inr (inr (inl (after, same)))) =
    inr (inr (inl (mode_after_host prefix state token runs after, same)))
in_rows prefix state token found runs (inr (inr (inr same))) = inr (inr (inr same))

stops_rows : (prefix : List Token) (state : State) (token : Token) (found : FilterErrorKind)
    → Runs most_levels first_state prefix state → read_in most_levels state state.mode token ≡ Err found
    → IsRow prefix token found
stops_rows prefix state token found runs stops =
    in_rows prefix state token found runs
    (kind_in most_levels state state.mode token found (fits_after most_levels state prefix runs) stops)

-- A row that applies gives the kind.
deep_kind : (prefix : List Token) (state : State) (token : Token) (found : FilterErrorKind)
    → Runs most_levels first_state prefix state → read_in most_levels state state.mode token ≡ Err found
    → IsDeep prefix token → found ≡ kind.Deep
deep_kind prefix state token found runs stops deep =
    let (inside, reads) = deep_mode prefix state token runs deep in
    deep_in most_levels state inside state.mode token found reads stops

arithmetic_kind : (prefix : List Token) (state : State) (token : Token) (found : FilterErrorKind)
    → Runs most_levels first_state prefix state → read_in most_levels state state.mode token ≡ Err found
    → IsArithmetic prefix token → found ≡ kind.Arithmetic
arithmetic_kind prefix state token found runs stops arithmetic =
    arithmetic_in most_levels state state.mode token found (arithmetic_mode prefix state token runs arithmetic) stops

after_host_kind : (prefix : List Token) (state : State) (token : Token) (found : FilterErrorKind)
    → Runs most_levels first_state prefix state → read_in most_levels state state.mode token ≡ Err found
    → IsAfterHost prefix token → found ≡ kind.NetOnly
after_host_kind prefix state token found runs stops after =
    after_host_in most_levels state state.mode token found (after_host_mode prefix state token runs after) stops

other_kind : (prefix : List Token) (state : State) (token : Token) (found : FilterErrorKind)
    → Runs most_levels first_state prefix state → read_in most_levels state state.mode token ≡ Err found
    → IsOtherKind prefix token found
other_kind prefix state token found runs stops =
    elim (stops_rows prefix state token found runs stops) [
      | inl row ↦ inl row
      | inr (inl row) ↦ inr (inl row)
      | inr (inr (inl row)) ↦ inr (inr (inl row))
      | inr (inr (inr same)) ↦ inr (inr (inr (
        (λ deep. let clash : kind.Misplaced ≡ kind.Deep =
            sym same ∙ deep_kind prefix state token found runs stops deep in cc),
        (λ arithmetic. let clash : kind.Misplaced ≡ kind.Arithmetic =
            sym same ∙ arithmetic_kind prefix state token found runs stops arithmetic in cc),
        (λ after. let clash : kind.Misplaced ≡ kind.NetOnly =
            sym same ∙ after_host_kind prefix state token found runs stops after in cc),
        same,
      )))
    ]

-- The kind of the definition is the kind that the token stops with.
row_kind : (prefix : List Token) (token : Token) (found : FilterErrorKind) → IsRow prefix token found
    → (¬ IsDeep prefix token) → (¬ IsArithmetic prefix token) → (¬ IsAfterHost prefix token) → found ≡ kind.Misplaced
row_kind prefix token found (inl row) deep arithmetic after = absurd (deep row.0)
row_kind prefix token found (inr (inl row)) deep arithmetic after = absurd (arithmetic row.0)
row_kind prefix token found (inr (inr (inl row))) deep arithmetic after = absurd (after row.0)
row_kind prefix token found (inr (inr (inr same))) deep arithmetic after = same

same_kind : (prefix : List Token) (state : State) (token : Token) (found right : FilterErrorKind)
    → Runs most_levels first_state prefix state → read_in most_levels state state.mode token ≡ Err found
    → IsOtherKind prefix token right → found ≡ right
same_kind prefix state token found right runs stops (inl (deep, same)) =
    deep_kind prefix state token found runs stops deep ∙ sym same
same_kind prefix state token found right runs stops (inr (inl (arithmetic, same))) =
    arithmetic_kind prefix state token found runs stops arithmetic ∙ sym same
same_kind prefix state token found right runs stops (inr (inr (inl (after, same)))) =
    after_host_kind prefix state token found runs stops after ∙ sym same
same_kind prefix state token found right runs stops (inr (inr (inr (deep, arithmetic, after, same)))) =
    row_kind prefix token found (stops_rows prefix state token found runs stops) deep arithmetic after ∙ sym same

kind_other : (prefix : List Token) (state : State) (token : Token) (right : FilterErrorKind) (reading : Reading)
    → Runs most_levels first_state prefix state → read_in most_levels state state.mode token ≡ reading
    → ((after : State) → ¬ (read_in most_levels state state.mode token ≡ Ok after)) → IsOtherKind prefix token right
    → read_in most_levels state state.mode token ≡ Err right
kind_other prefix state token right (Ok after) runs reads none is = absurd (none after reads)
kind_other prefix state token right (Err found) runs stops none is =
    stops ∙ (λ i. Err (same_kind prefix state token found right runs stops is i))

-- ---- every token

-- A token that stops has the kind of the definition.
pub stops_kind : (prefix : List Token) (state : State) (token : Token) (found : FilterErrorKind)
    → Runs most_levels first_state prefix state → Stops most_levels state token found → IsKind prefix token found
stops_kind prefix state (word text) found runs stops = word_kind prefix state text found runs stops
stops_kind prefix state (wrong own) found runs stops = stops
stops_kind prefix state token found runs stops = other_kind prefix state token found runs stops

-- A token that is not allowed stops with the kind of the definition.
pub kind_stops : (prefix : List Token) (state : State) (token : Token) (found : FilterErrorKind)
    → Runs most_levels first_state prefix state → (¬ IsAllowed most_levels prefix token) → IsKind prefix token found
    → Stops most_levels state token found
kind_stops prefix state (word text) found runs none is =
    kind_word prefix state text found runs
    (λ after reads. none (reads_allowed most_levels prefix (word text) state after runs reads)) is
kind_stops prefix state (wrong own) found runs none is = is
kind_stops prefix state token found runs none is =
    kind_other prefix state token found (read_in most_levels state state.mode token) runs refl
    (λ after reads. none (reads_allowed most_levels prefix token state after runs reads)) is

-- ---- one kind

value_kind_once : (q : Head) (text : List ℕ) (found right : FilterErrorKind) → IsValueKind q text found
    → IsValueKind q text right → found ≡ right
value_kind_once q text found right (inl (family, same)) (inl (family', same')) = same ∙ sym same'
value_kind_once q text found right (inl (family, same)) (inr (none, same')) = absurd (none family)
value_kind_once q text found right (inr (none, same)) (inl (family, same')) = absurd (none family)
value_kind_once q text found right (inr (none, same)) (inr (none', same')) = same ∙ sym same'

operand_kind_once : (q : Option Head) (text : List ℕ) (found right : FilterErrorKind) → IsOperandKind q text found
    → IsOperandKind q text right → found ≡ right
operand_kind_once (Some q) text found right is is' = value_kind_once q text found right is is'
operand_kind_once None text found right (inl (like, same)) (inl (like', same')) = same ∙ sym same'
operand_kind_once None text found right (inl (like, same)) (inr (none, same')) = absurd (none like)
operand_kind_once None text found right (inr (none, same)) (inl (like, same')) = absurd (none like)
operand_kind_once None text found right (inr (none, same)) (inr (none', same')) = same ∙ sym same'

side_kind_once : (q : Option Head) (text : List ℕ) (found right : FilterErrorKind) → StopsSide q text found
    → StopsSide q text right → found ≡ right
side_kind_once None text found right stops stops' = stops ∙ sym stops'
side_kind_once (Some q) text found right stops stops' = value_kind_once q text found right stops.1 stops'.1

prefix_kind_once : (IsPrefix : IpAddr → List ℕ → ℕ → Type 0) (otherwise : FilterErrorKind) (address : IpAddr)
    (text : List ℕ) (found right : FilterErrorKind) → StopsPrefix IsPrefix otherwise address text found
    → StopsPrefix IsPrefix otherwise address text right → found ≡ right
prefix_kind_once IsPrefix otherwise address text found right (inl (bits, is, set, same))
    (inl (bits', is', set', same')) =
    same ∙ sym same'
prefix_kind_once IsPrefix otherwise address text found right (inl (bits, is, set, same)) (inr (none, same')) =
    absurd (none bits is)
prefix_kind_once IsPrefix otherwise address text found right (inr (none, same)) (inl (bits, is, set, same')) =
    absurd (none bits is)
prefix_kind_once IsPrefix otherwise address text found right (inr (none, same)) (inr (none', same')) =
    same ∙ sym same'

word_kind_once : (state : State) (m : Mode) (text : List ℕ) (found right : FilterErrorKind)
    → StopsWord state m text found → StopsWord state m text right → found ≡ right
word_kind_once state (mode.Operand only) text found right stops stops' =
    operand_kind_once state.head text found right (operand_row state.head text found stops)
    (operand_row state.head text right stops')
word_kind_once state (mode.Side sided side) text found right stops stops' =
    side_kind_once (side_head sided side) text found right stops stops'
word_kind_once state (mode.Length layer side address) text found right stops stops' =
    prefix_kind_once IsLength kind.NotALength address text found right stops stops'
word_kind_once state (mode.Mask layer side address) text found right stops stops' =
    prefix_kind_once IsMask kind.NotAMask address text found right stops stops'
word_kind_once state mode.Vlan text found right (inl (digit, none, same)) (inl (digit', none', same')) =
    same ∙ sym same'
word_kind_once state mode.Vlan text found right (inl (digit, none, same)) (inr (no_digit, same')) =
    absurd (no_digit digit)
word_kind_once state mode.Vlan text found right (inr (no_digit, same)) (inl (digit, none, same')) =
    absurd (no_digit digit)
word_kind_once state mode.Vlan text found right (inr (no_digit, same)) (inr (no_digit', same')) = same ∙ sym same'
word_kind_once state (mode.PacketLength by) text found right stops stops' = stops.1 ∙ sym stops'.1
word_kind_once state (mode.Offset layer) text found right stops stops' = stops.1 ∙ sym stops'.1
word_kind_once state (mode.Size layer offset) text found right stops stops' = stops.1 ∙ sym stops'.1
word_kind_once state (mode.Group comparison) text found right stops stops' = stops.1 ∙ sym stops'.1
word_kind_once state (mode.GroupItem comparison bits) text found right stops stops' = stops.1 ∙ sym stops'.1
word_kind_once state m text found right stops stops' = stops ∙ sym stops'

reading_kind_once : (reading : Reading) (found right : FilterErrorKind) → reading ≡ Err found → reading ≡ Err right
    → found ≡ right
reading_kind_once reading found right stops stops' = cc

-- A token stops with one kind.
pub stops_once : (most : ℕ) (state : State) (token : Token) (found other : FilterErrorKind)
    → Stops most state token found → Stops most state token other → found ≡ other
stops_once most state (word text) found right stops stops' =
    word_kind_once state state.mode text found right stops stops'
stops_once most state (wrong own) found right stops stops' = stops ∙ sym stops'
stops_once most state token found right stops stops' =
    reading_kind_once (read_in most state state.mode token) found right stops stops'
