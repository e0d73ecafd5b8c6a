-- Lemmas about what the parser makes of a token that is no word: the mode after it, and the kind of error.
use Rattle.std.proofs.Common.{◌≡◌, ℕ, suc, ◌≤◌, ◌⊎◌, inl, inr, ltb, ltb-true, lt-ltb, le_refl, Bool, true, false, cond, List, [], ◌∷◌, Option, Some, None, Ok, Err, refl, ap, sym, ◌∙◌, subst, arith}
use Rattle.std.specs.declared.net.ip_addr.IpAddr.{IpAddr}
use Rattle.std.specs.declared.net.ip_addr.IpAddr.TheVariants.{V4, V6}
use Rattle.filter_tokens.specs.declared.filter_error.FilterErrorKind.{FilterErrorKind}
use Rattle.filter_tokens.specs.declared.filter_error.FilterErrorKind.TheVariants as kind
use Rattle.filter_tokens.specs.declared.keyword.Keyword.{Keyword}
use Rattle.filter_tokens.specs.declared.keyword.Keyword.TheVariants as name
use Rattle.filter_tokens.specs.declared.network.Network.{Network}
use Rattle.filter_tokens.specs.declared.primitive.AddressLayer.{AddressLayer}
use Rattle.filter_tokens.specs.declared.primitive.AddressLayer.TheVariants as of
use Rattle.filter_tokens.specs.declared.primitive.FieldLayer.{FieldLayer}
use Rattle.filter_tokens.specs.declared.primitive.FieldLayer.TheVariants as field
use Rattle.filter_tokens.specs.declared.primitive.Operand.{Operand}
use Rattle.filter_tokens.specs.declared.primitive.PortProtocol.{PortProtocol}
use Rattle.filter_tokens.specs.declared.primitive.PortProtocol.TheVariants as protocol
use Rattle.filter_tokens.specs.declared.primitive.Primitive.{Primitive}
use Rattle.filter_tokens.specs.declared.primitive.Primitive.TheVariants as primitive
use Rattle.filter_tokens.specs.declared.primitive.Relation.{Relation}
use Rattle.filter_tokens.specs.declared.primitive.Side.{Side}
use Rattle.filter_tokens.specs.declared.primitive.Side.TheVariants.{Source, Destination}
use Rattle.filter_tokens.specs.declared.primitive.Width.{Width}
use Rattle.filter_tokens.specs.Tokens.{Token, keyword, and, or, not, relation, left_parenthesis, right_parenthesis, left_bracket, right_bracket, colon, slash, ampersand, bar}
use Rattle.filter_language.specs.declared.head.Head.{Head}
use Rattle.filter_language.specs.declared.mode.Comparison.{Comparison}
use Rattle.filter_language.specs.declared.mode.Mode.{Mode}
use Rattle.filter_language.specs.declared.mode.Mode.TheVariants as mode
use Rattle.filter_language.specs.declared.mode.Sided.{Sided}
use Rattle.filter_language.specs.declared.mode.Sided.TheVariants.{Addresses, Stations, Ports}
use Rattle.filter_language.specs.Grammar
use Rattle.filter_language.specs.Primitives.{number_test}
use Rattle.filter_language.specs.Refusals.{IsOperand}
use Rattle.filter_language.specs.States.{State, Frame, Reading, close_frames, close_left, completed, constant_kind, expression, field_kind, field_of, finish_bare, finish_value, group_mode, join_frames, layer_primitive, left_of_and, left_of_or, levels_in, negating, opened, qualified, read_address_word, read_after, read_group, read_group_end, read_host, read_in, read_keyword, read_layer, read_layer_word, read_left, read_mask_word, read_net, read_offset, read_offset_end, read_operand, read_other_side, read_port_word, read_side, read_side_values, read_sided, read_sided_word, read_size_end, read_test, settled_layer, side_head, test_kind}
use Rattle.filter_language.specs.Trees.{Expr, test, negated}

-- ---- modes

-- A byte test is not complete, or can go on.
abbrev pub InTest : Mode → Type 0
InTest (mode.OffsetEnd layer offset) = Unit {0}
InTest (mode.SizeEnd layer offset width) = Unit {0}
InTest (mode.Left operand mask) = Unit {0}
InTest (mode.GroupEnd comparison bits) = Unit {0}
InTest (mode.Test operand mask by number) = Unit {0}
InTest m = ⊥

-- A constant is expected.
abbrev pub InConstant : Mode → Type 0
InConstant (mode.Offset layer) = Unit {0}
InConstant (mode.Group comparison) = Unit {0}
InConstant (mode.GroupItem comparison bits) = Unit {0}
InConstant m = ⊥

-- An address of a host is complete.
abbrev pub InHost : Mode → Type 0
InHost (mode.Host p) = Unit {0}
InHost m = ⊥

-- A fact about the mode before and about the token, if they lead to a mode.
abbrev pub IsEntered : Mode → Token → Mode → Type 0
IsEntered before token (mode.Length layer side address) =
    (network : Network) × (before ≡ mode.Net layer side network) × (network.address ≡ address) × (token ≡ slash)
IsEntered before token (mode.Mask layer side address) =
    (network : Network) × (before ≡ mode.Net layer side network) × (network.address ≡ address)
    × (token ≡ keyword name.Mask)
IsEntered before token (mode.Host p) = ⊥
IsEntered before token (mode.Net layer side network) = ⊥
IsEntered before token mode.Vlan = token ≡ keyword name.Vlan
IsEntered before token (mode.PacketLength by) = (token ≡ keyword name.Less) ⊎ (token ≡ keyword name.Greater)
IsEntered before token (mode.Size layer offset) = token ≡ colon
IsEntered before token m = Unit {0}

-- A fact about the modes before and after a token.
abbrev pub Leads : Token → Mode → Mode → Type 0
Leads slash before after =
    (layer : AddressLayer) × (side : Side) × (network : Network) × (before ≡ mode.Net layer side network)
    × (after ≡ mode.Length layer side network.address)
Leads (keyword name.Mask) before after =
    (layer : AddressLayer) × (side : Side) × (network : Network) × (before ≡ mode.Net layer side network)
    × (after ≡ mode.Mask layer side network.address)
Leads (keyword name.Vlan) before after = after ≡ mode.Vlan
Leads (keyword name.Less) before after = (by : Relation) × (after ≡ mode.PacketLength by)
Leads (keyword name.Greater) before after = (by : Relation) × (after ≡ mode.PacketLength by)
Leads colon before after = (layer : FieldLayer) × (offset : ℕ) × (after ≡ mode.Size layer offset)
Leads right_bracket before after = InTest before
Leads bar before after = InTest before
Leads (relation by) before after = InTest before
Leads token before after = Unit {0}

-- A fact about a state that is reached.
abbrev pub IsReached : (most : ℕ) → Mode → Token → State → Type 0
IsReached most m token after =
    (levels_in after.frames ≤ most) × IsEntered m token after.mode × Leads token m after.mode

-- ---- kinds

-- Arithmetic in a byte test, by the mode.
abbrev pub ArithmeticIn : Mode → Token → Type 0
ArithmeticIn m token =
    (((token ≡ ampersand) ⊎ (token ≡ bar) ⊎ (token ≡ slash)) × InTest m) ⊎ (IsOperand token × InConstant m)

-- A prefix length or a mask after a host, by the mode.
abbrev pub AfterHostIn : Mode → Token → Type 0
AfterHostIn m token = ((token ≡ slash) ⊎ (token ≡ keyword name.Mask)) × InHost m

-- The kind of a token by the mode. `deeper` is the result of the token if one more level can be open.
abbrev pub IsKindIn : (deeper : Reading) → Mode → Token → FilterErrorKind → Type 0
IsKindIn deeper m token found =
    (((token ≡ left_parenthesis) ⊎ (token ≡ not)) × ((inside : State) × (deeper ≡ Ok inside)) × (found ≡ kind.Deep))
    ⊎ (ArithmeticIn m token × (found ≡ kind.Arithmetic)) ⊎ (AfterHostIn m token × (found ≡ kind.NetOnly))
    ⊎ (found ≡ kind.Misplaced)

abbrev pub IsReading : (most : ℕ) → Mode → Token → (deeper : Reading) → Reading → Type 0
IsReading most m token deeper (Ok after) = IsReached most m token after
IsReading most m token deeper (Err found) = IsKindIn deeper m token found

misplaced : (deeper : Reading) (m : Mode) (token : Token) → IsKindIn deeper m token kind.Misplaced
misplaced deeper m token = inr (inr (inr refl))

-- An operator that is not allowed in a byte test, or another token.
test_kind_in : (deeper : Reading) (m : Mode) (token : Token) → InTest m → IsKindIn deeper m token (test_kind token)
test_kind_in deeper m ampersand within = inr (inl (inl (inl refl, within), refl))
test_kind_in deeper m bar within = inr (inl (inl (inr (inl refl), within), refl))
test_kind_in deeper m slash within = inr (inl (inl (inr (inr refl), within), refl))
test_kind_in deeper m token within = misplaced deeper m token

-- An operand in place of a constant, or another token.
field_kind_in : (deeper : Reading) (m : Mode) (layer : Keyword) → InConstant m
    → IsKindIn deeper m (keyword layer) (field_kind (field_of layer))
field_kind_in deeper m name.Ether within =
    inr (inl (inr (inr (inr (field.Ethernet, Grammar.field_ether)), within), refl))
field_kind_in deeper m name.Arp within = inr (inl (inr (inr (inr (field.Arp, Grammar.field_arp)), within), refl))
field_kind_in deeper m name.Ip within = inr (inl (inr (inr (inr (field.Ipv4, Grammar.field_ip)), within), refl))
field_kind_in deeper m name.Ip6 within = inr (inl (inr (inr (inr (field.Ipv6, Grammar.field_ip6)), within), refl))
field_kind_in deeper m name.Tcp within = inr (inl (inr (inr (inr (field.Tcp, Grammar.field_tcp)), within), refl))
field_kind_in deeper m name.Udp within = inr (inl (inr (inr (inr (field.Udp, Grammar.field_udp)), within), refl))
field_kind_in deeper m name.Sctp within = inr (inl (inr (inr (inr (field.Sctp, Grammar.field_sctp)), within), refl))
field_kind_in deeper m name.Icmp within = inr (inl (inr (inr (inr (field.Icmpv4, Grammar.field_icmp)), within), refl))
field_kind_in deeper m name.Icmp6 within =
    inr (inl (inr (inr (inr (field.Icmpv6, Grammar.field_icmp6)), within), refl))
field_kind_in deeper m layer within = misplaced deeper m (keyword layer)

constant_kind_in : (deeper : Reading) (m : Mode) (token : Token) → InConstant m
    → IsKindIn deeper m token (constant_kind token)
constant_kind_in deeper m left_parenthesis within = inr (inl (inr (inl refl, within), refl))
constant_kind_in deeper m (keyword name.Len) within = inr (inl (inr (inr (inl refl), within), refl))
constant_kind_in deeper m (keyword layer) within = field_kind_in deeper m layer within
constant_kind_in deeper m token within = misplaced deeper m token

-- ---- after an operand

-- A complete operand has no more levels open.
completed_levels : (frames : List Frame) (e : Expr) → levels_in (completed frames e) ≤ levels_in frames
completed_levels [] e = le_refl _
completed_levels (expression f ∷ frames) e = le_refl _
completed_levels (left_of_and f ∷ frames) e = le_refl _
completed_levels (left_of_or f ∷ frames) e = le_refl _
completed_levels (negating ∷ frames) e = omega (arith, completed_levels frames (negated e))
completed_levels (opened q only ∷ frames) e = le_refl _

pub completed_fits : (most : ℕ) (frames : List Frame) (e : Expr) → levels_in frames ≤ most
    → levels_in (completed frames e) ≤ most
completed_fits most frames e fits = omega (arith, completed_levels frames e, fits)

abbrev FitsIfAny : (most : ℕ) → Option State → Type 0
FitsIfAny most None = Unit {0}
FitsIfAny most (Some state) = levels_in state.frames ≤ most

and_reading : (most : ℕ) (m : Mode) (deeper : Reading) (state : State) (frames : List Frame) → levels_in frames ≤ most
    → IsReading most m and deeper (join_frames state left_of_and frames)
and_reading most m deeper state (expression e ∷ frames) fits = (fits, tt, tt)
and_reading most m deeper state frames fits = misplaced deeper m and

or_reading : (most : ℕ) (m : Mode) (deeper : Reading) (state : State) (frames : List Frame) → levels_in frames ≤ most
    → IsReading most m or deeper (join_frames state left_of_or frames)
or_reading most m deeper state (expression e ∷ frames) fits = (fits, tt, tt)
or_reading most m deeper state frames fits = misplaced deeper m or

close_reading : (most : ℕ) (m : Mode) (deeper : Reading) (frames : List Frame) → levels_in frames ≤ most
    → IsReading most m right_parenthesis deeper (close_frames frames)
close_reading most m deeper (expression e ∷ opened q only ∷ frames) fits =
    (completed_fits most frames e (omega (arith, fits)), tt, tt)
close_reading most m deeper frames fits = misplaced deeper m right_parenthesis

after_reading : (most : ℕ) (m : Mode) (deeper : Reading) (state : Option State) (token : Token) → FitsIfAny most state
    → IsReading most m token deeper (read_after state token)
after_reading most m deeper None token fits = misplaced deeper m token
after_reading most m deeper (Some state) and fits = and_reading most m deeper state state.frames fits
after_reading most m deeper (Some state) or fits = or_reading most m deeper state state.frames fits
after_reading most m deeper (Some state) right_parenthesis fits = close_reading most m deeper state.frames fits
after_reading most m deeper (Some state) token fits = misplaced deeper m token

-- ---- where an operand is expected

open_reading : (most : ℕ) (m : Mode) (token : Token) (few many : Bool) (inside : State)
    → (token ≡ left_parenthesis) ⊎ (token ≡ not) → (few ≡ true → IsReached most m token inside) → many ≡ true
    → IsReading most m token (cond many (Ok inside) (Err kind.Deep)) (cond few (Ok inside) (Err kind.Deep))
open_reading most m token true many inside opening reached more = reached refl
open_reading most m token false many inside opening reached more = inl (opening, (inside, rw more refl), refl)

level_fits : (levels most : ℕ) → ltb levels most ≡ true → suc levels ≤ most
level_fits levels most few = ltb-true levels most few

one_more : (levels most : ℕ) → levels ≤ most → ltb levels (suc most) ≡ true
one_more levels most fits = lt-ltb levels (suc most) (omega (arith, fits))

keyword_reading : (most : ℕ) (m : Mode) (deeper : Reading) (state : State) (k : Keyword)
    → levels_in state.frames ≤ most → IsReading most m (keyword k) deeper (read_keyword state k)
keyword_reading most m deeper state name.Vlan fits = (fits, refl, refl)
keyword_reading most m deeper state name.Less fits = (fits, inl refl, (_, refl))
keyword_reading most m deeper state name.Greater fits = (fits, inr refl, (_, refl))
keyword_reading most m deeper state name.Broadcast fits = (completed_fits most state.frames _ fits, tt, tt)
keyword_reading most m deeper state name.Multicast fits = (completed_fits most state.frames _ fits, tt, tt)
keyword_reading most m deeper state name.Igmp fits = (completed_fits most state.frames _ fits, tt, tt)
keyword_reading most m deeper state name.Ah fits = (completed_fits most state.frames _ fits, tt, tt)
keyword_reading most m deeper state name.Esp fits = (completed_fits most state.frames _ fits, tt, tt)
keyword_reading most m deeper state name.Mask fits = misplaced deeper m (keyword name.Mask)
keyword_reading most m deeper state layer fits = (fits, tt, tt)

operand_reading : (most : ℕ) (m : Mode) (state : State) (only : Bool) (token : Token) → levels_in state.frames ≤ most
    → IsReading most m token (read_operand (suc most) state only token) (read_operand most state only token)
operand_reading most m state only not fits =
    open_reading most m not (ltb (levels_in state.frames) most) (ltb (levels_in state.frames) (suc most)) _ (inr refl)
    (λ few. (level_fits (levels_in state.frames) most few, tt, tt)) (one_more (levels_in state.frames) most fits)
operand_reading most m state only left_parenthesis fits =
    open_reading most m left_parenthesis (ltb (levels_in state.frames) most) (ltb (levels_in state.frames) (suc most)) _
    (inl refl) (λ few. (level_fits (levels_in state.frames) most few, tt, tt))
    (one_more (levels_in state.frames) most fits)
operand_reading most m state false (keyword k) fits = keyword_reading most m _ state k fits
operand_reading most m state only token fits = misplaced _ m token

-- ---- within qualifiers

offset_reading : (most : ℕ) (m : Mode) (deeper : Reading) (state : State) (layer : Option FieldLayer)
    → levels_in state.frames ≤ most → IsReading most m left_bracket deeper (read_offset state layer)
offset_reading most m deeper state None fits = misplaced deeper m left_bracket
offset_reading most m deeper state (Some layer) fits = (fits, tt, tt)

address_word_reading : (most : ℕ) (m : Mode) (deeper : Reading) (state : State) (layer : AddressLayer) (k : Keyword)
    → levels_in state.frames ≤ most → IsReading most m (keyword k) deeper (read_address_word state layer k)
address_word_reading most m deeper state layer name.Src fits = (fits, tt, tt)
address_word_reading most m deeper state layer name.Dst fits = (fits, tt, tt)
address_word_reading most m deeper state layer name.Host fits = (fits, tt, tt)
address_word_reading most m deeper state layer name.Net fits = (fits, tt, tt)
address_word_reading most m deeper state layer k fits = misplaced deeper m (keyword k)

port_word_reading : (most : ℕ) (m : Mode) (deeper : Reading) (state : State) (ports : PortProtocol) (k : Keyword)
    → levels_in state.frames ≤ most → IsReading most m (keyword k) deeper (read_port_word state ports k)
port_word_reading most m deeper state ports name.Src fits = (fits, tt, tt)
port_word_reading most m deeper state ports name.Dst fits = (fits, tt, tt)
port_word_reading most m deeper state ports name.Port fits = (fits, tt, tt)
port_word_reading most m deeper state ports name.PortRange fits = (fits, tt, tt)
port_word_reading most m deeper state ports k fits = misplaced deeper m (keyword k)

layer_word_reading : (most : ℕ) (m : Mode) (deeper : Reading) (state : State) (layer k : Keyword)
    → levels_in state.frames ≤ most → IsReading most m (keyword k) deeper (read_layer_word state layer k)
layer_word_reading most m deeper state name.Ip name.Proto fits = (fits, tt, tt)
layer_word_reading most m deeper state name.Ip name.Multicast fits = (completed_fits most state.frames _ fits, tt, tt)
layer_word_reading most m deeper state name.Ip k fits = address_word_reading most m deeper state of.Ipv4 k fits
layer_word_reading most m deeper state name.Ip6 name.Proto fits = (fits, tt, tt)
layer_word_reading most m deeper state name.Ip6 name.Multicast fits = (completed_fits most state.frames _ fits, tt, tt)
layer_word_reading most m deeper state name.Ip6 k fits = address_word_reading most m deeper state of.Ipv6 k fits
layer_word_reading most m deeper state name.Arp k fits = address_word_reading most m deeper state of.Arp k fits
layer_word_reading most m deeper state name.Tcp k fits = port_word_reading most m deeper state protocol.Tcp k fits
layer_word_reading most m deeper state name.Udp k fits = port_word_reading most m deeper state protocol.Udp k fits
layer_word_reading most m deeper state name.Sctp k fits = port_word_reading most m deeper state protocol.Sctp k fits
layer_word_reading most m deeper state name.Ether name.Broadcast fits =
    (completed_fits most state.frames _ fits, tt, tt)
layer_word_reading most m deeper state name.Ether name.Multicast fits =
    (completed_fits most state.frames _ fits, tt, tt)
layer_word_reading most m deeper state name.Ether name.Proto fits = (fits, tt, tt)
layer_word_reading most m deeper state name.Ether name.Host fits = (fits, tt, tt)
layer_word_reading most m deeper state name.Ether name.Src fits = (fits, tt, tt)
layer_word_reading most m deeper state name.Ether name.Dst fits = (fits, tt, tt)
layer_word_reading most m deeper state layer k fits = misplaced deeper m (keyword k)

settled_fits : (most : ℕ) (state : State) (p : Option Primitive) → levels_in state.frames ≤ most
    → FitsIfAny most (settled_layer state p)
settled_fits most state None fits = tt
settled_fits most state (Some p) fits = completed_fits most state.frames (test p) fits

layer_reading : (most : ℕ) (m : Mode) (deeper : Reading) (state : State) (layer : Keyword) (token : Token)
    → levels_in state.frames ≤ most → IsReading most m token deeper (read_layer state layer token)
layer_reading most m deeper state layer left_bracket fits = offset_reading most m deeper state (field_of layer) fits
layer_reading most m deeper state layer (keyword k) fits = layer_word_reading most m deeper state layer k fits
layer_reading most m deeper state layer token fits =
    after_reading most m deeper (settled_layer state (layer_primitive layer)) token
    (settled_fits most state (layer_primitive layer) fits)

sided_word_reading : (most : ℕ) (m : Mode) (deeper : Reading) (state : State) (sided : Sided) (side : Side)
    (k : Keyword) → levels_in state.frames ≤ most
    → IsReading most m (keyword k) deeper (read_sided_word state sided side k)
sided_word_reading most m deeper state (Addresses layer) side name.Host fits = (fits, tt, tt)
sided_word_reading most m deeper state (Addresses layer) side name.Net fits = (fits, tt, tt)
sided_word_reading most m deeper state (Addresses of.Any) side name.Port fits = (fits, tt, tt)
sided_word_reading most m deeper state (Addresses of.Any) side name.PortRange fits = (fits, tt, tt)
sided_word_reading most m deeper state Stations side name.Host fits = (fits, tt, tt)
sided_word_reading most m deeper state (Ports ports) side name.Port fits = (fits, tt, tt)
sided_word_reading most m deeper state (Ports ports) side name.PortRange fits = (fits, tt, tt)
sided_word_reading most m deeper state sided side k fits = misplaced deeper m (keyword k)

side_values_reading : (most : ℕ) (m : Mode) (state : State) (q : Option Head) (token : Token)
    → levels_in state.frames ≤ most
    → IsReading most m token (read_side_values (suc most) state q token) (read_side_values most state q token)
side_values_reading most m state None token fits = misplaced _ m token
side_values_reading most m state (Some h) token fits = operand_reading most m (qualified state h) true token fits

sided_reading : (most : ℕ) (m : Mode) (state : State) (sided : Sided) (side : Side) (token : Token)
    → levels_in state.frames ≤ most
    → IsReading most m token (read_sided (suc most) state sided side token) (read_sided most state sided side token)
sided_reading most m state sided side (keyword k) fits = sided_word_reading most m _ state sided side k fits
sided_reading most m state sided side token fits = side_values_reading most m state (side_head sided side) token fits

side_reading : (most : ℕ) (m : Mode) (state : State) (sided : Sided) (side : Side) (token : Token)
    → levels_in state.frames ≤ most
    → IsReading most m token (read_side (suc most) state sided side token) (read_side most state sided side token)
side_reading most m state sided Source or fits = (fits, tt, tt)
side_reading most m state sided Source and fits = (fits, tt, tt)
side_reading most m state sided Destination or fits = (fits, tt, tt)
side_reading most m state sided Destination and fits = (fits, tt, tt)
side_reading most m state sided side token fits = sided_reading most m state sided side token fits

other_side_reading : (most : ℕ) (m : Mode) (deeper : Reading) (state : State) (sided : Sided) (other side : Side)
    (token : Token) → levels_in state.frames ≤ most
    → IsReading most m token deeper (read_other_side state sided other side token)
other_side_reading most m deeper state sided Source side (keyword name.Src) fits = (fits, tt, tt)
other_side_reading most m deeper state sided Destination side (keyword name.Dst) fits = (fits, tt, tt)
other_side_reading most m deeper state sided missing side token fits = misplaced deeper m token

-- ---- after an address

host_reading : (most : ℕ) (m : Mode) (deeper : Reading) (state : State) (p : Primitive) (token : Token) → InHost m
    → levels_in state.frames ≤ most → IsReading most m token deeper (read_host state p token)
host_reading most m deeper state p slash within fits = inr (inr (inl ((inl refl, within), refl)))
host_reading most m deeper state p (keyword name.Mask) within fits = inr (inr (inl ((inr refl, within), refl)))
host_reading most m deeper state p token within fits =
    after_reading most m deeper (Some (finish_value state p)) token (completed_fits most state.frames (test p) fits)

mask_word_reading : (most : ℕ) (deeper : Reading) (state : State) (layer : AddressLayer) (side : Side)
    (network : Network) (address : IpAddr) → network.address ≡ address → levels_in state.frames ≤ most
    → IsReading most (mode.Net layer side network) (keyword name.Mask) deeper (read_mask_word state layer side address)
mask_word_reading most deeper state layer side network (V4 address) same fits = (
  fits,
  (network, refl, same, refl),
  (layer, side, network, refl, λ i. mode.Mask layer side (sym same i)),
)
mask_word_reading most deeper state layer side network (V6 address) same fits =
    misplaced deeper (mode.Net layer side network) (keyword name.Mask)

net_reading : (most : ℕ) (deeper : Reading) (state : State) (layer : AddressLayer) (side : Side) (network : Network)
    (token : Token) → levels_in state.frames ≤ most
    → IsReading most (mode.Net layer side network) token deeper (read_net state layer side network token)
net_reading most deeper state layer side network slash fits =
    (fits, (network, refl, refl, refl), (layer, side, network, refl, refl))
net_reading most deeper state layer side network (keyword name.Mask) fits =
    mask_word_reading most deeper state layer side network network.address refl fits
net_reading most deeper state layer side network token fits =
    after_reading most (mode.Net layer side network) deeper
    (Some (finish_value state (primitive.Address layer side network))) token
    (completed_fits most state.frames (test (primitive.Address layer side network)) fits)

-- ---- byte tests

offset_end_reading : (most : ℕ) (deeper : Reading) (state : State) (layer : FieldLayer) (offset : ℕ) (token : Token)
    → levels_in state.frames ≤ most
    → IsReading most (mode.OffsetEnd layer offset) token deeper (read_offset_end state layer offset token)
offset_end_reading most deeper state layer offset colon fits = (fits, refl, (layer, offset, refl))
offset_end_reading most deeper state layer offset right_bracket fits = (fits, tt, tt)
offset_end_reading most deeper state layer offset token fits =
    test_kind_in deeper (mode.OffsetEnd layer offset) token tt

size_end_reading : (most : ℕ) (deeper : Reading) (state : State) (layer : FieldLayer) (offset : ℕ) (width : Width)
    (token : Token) → levels_in state.frames ≤ most
    → IsReading most (mode.SizeEnd layer offset width) token deeper (read_size_end state layer offset width token)
size_end_reading most deeper state layer offset width right_bracket fits = (fits, tt, tt)
size_end_reading most deeper state layer offset width token fits =
    test_kind_in deeper (mode.SizeEnd layer offset width) token tt

close_left_reading : (most : ℕ) (m : Mode) (deeper : Reading) (state : State) (operand : Operand) (mask : Option ℕ)
    (frames : List Frame) → levels_in frames ≤ most
    → IsReading most m right_parenthesis deeper (close_left state operand mask frames)
close_left_reading most m deeper state operand mask (opened q only ∷ frames) fits = (omega (arith, fits), tt, tt)
close_left_reading most m deeper state operand mask frames fits = misplaced deeper m right_parenthesis

left_reading : (most : ℕ) (deeper : Reading) (state : State) (operand : Operand) (mask : Option ℕ) (token : Token)
    → levels_in state.frames ≤ most
    → IsReading most (mode.Left operand mask) token deeper (read_left state operand mask token)
left_reading most deeper state operand None ampersand fits = (fits, tt, tt)
left_reading most deeper state operand mask right_parenthesis fits =
    close_left_reading most (mode.Left operand mask) deeper state operand mask state.frames fits
left_reading most deeper state operand mask (relation by) fits = (fits, tt, tt)
left_reading most deeper state operand mask token fits = test_kind_in deeper (mode.Left operand mask) token tt

group_reading : (most : ℕ) (deeper : Reading) (state : State) (comparison : Comparison) (token : Token)
    → levels_in state.frames ≤ most
    → IsReading most (mode.Group comparison) token deeper (read_group state comparison token)
group_reading most deeper state comparison left_parenthesis fits = (fits, tt, tt)
group_reading most deeper state comparison token fits = constant_kind_in deeper (mode.Group comparison) token tt

-- The mode after constants is entered in no way of its own.
group_entered : (m : Mode) (token : Token) (comparison : Comparison) (by : Option Relation) (bits : ℕ)
    → IsEntered m token (group_mode comparison by bits)
group_entered m token comparison None bits = tt
group_entered m token comparison (Some by) bits = tt

group_end_reading : (most : ℕ) (deeper : Reading) (state : State) (comparison : Comparison) (bits : ℕ) (token : Token)
    → levels_in state.frames ≤ most
    → IsReading most (mode.GroupEnd comparison bits) token deeper (read_group_end state comparison bits token)
group_end_reading most deeper state comparison bits bar fits = (fits, tt, tt)
group_end_reading most deeper state comparison bits right_parenthesis fits =
    (fits, group_entered (mode.GroupEnd comparison bits) right_parenthesis comparison comparison.relation bits, tt)
group_end_reading most deeper state comparison bits token fits =
    test_kind_in deeper (mode.GroupEnd comparison bits) token tt

test_reading : (most : ℕ) (deeper : Reading) (state : State) (operand : Operand) (mask : Option ℕ) (by : Relation)
    (number : ℕ) (token : Token) → levels_in state.frames ≤ most
    → IsReading most (mode.Test operand mask by number) token deeper (read_test state operand mask by number token)
test_reading most deeper state operand mask by number bar fits = (fits, tt, tt)
test_reading most deeper state operand mask by number ampersand fits =
    test_kind_in deeper (mode.Test operand mask by number) ampersand tt
test_reading most deeper state operand mask by number slash fits =
    test_kind_in deeper (mode.Test operand mask by number) slash tt
test_reading most deeper state operand mask by number token fits =
    after_reading most (mode.Test operand mask by number) deeper
    (Some (finish_bare state (number_test operand mask by number))) token
    (completed_fits most state.frames (test (number_test operand mask by number)) fits)

-- ---- every mode

-- The state that a token leads to, or its kind.
pub reading : (most : ℕ) (state : State) (m : Mode) (token : Token) → levels_in state.frames ≤ most
    → IsReading most m token (read_in (suc most) state m token) (read_in most state m token)
reading most state (mode.Operand only) token fits =
    operand_reading most (mode.Operand only) state only token fits
reading most state mode.Complete token fits =
    after_reading most mode.Complete (read_in (suc most) state mode.Complete token) (Some state) token fits
reading most state (mode.Layer layer) token fits =
    layer_reading most (mode.Layer layer) (read_in (suc most) state (mode.Layer layer) token) state layer token fits
reading most state (mode.Side sided side) token fits =
    side_reading most (mode.Side sided side) state sided side token fits
reading most state (mode.OtherSide sided missing side) token fits =
    other_side_reading most (mode.OtherSide sided missing side)
    (read_in (suc most) state (mode.OtherSide sided missing side) token) state sided missing side token fits
reading most state (mode.Host p) token fits =
    host_reading most (mode.Host p) (read_in (suc most) state (mode.Host p) token) state p token tt fits
reading most state (mode.Net layer side network) token fits =
    net_reading most (read_in (suc most) state (mode.Net layer side network) token) state layer side network token fits
reading most state mode.Vlan token fits =
    after_reading most mode.Vlan (read_in (suc most) state mode.Vlan token)
    (Some (finish_bare state (primitive.Vlan None))) token
    (completed_fits most state.frames (test (primitive.Vlan None)) fits)
reading most state (mode.Offset layer) token fits =
    constant_kind_in (read_in (suc most) state (mode.Offset layer) token) (mode.Offset layer) token tt
reading most state (mode.OffsetEnd layer offset) token fits =
    offset_end_reading most (read_in (suc most) state (mode.OffsetEnd layer offset) token) state layer offset token fits
reading most state (mode.SizeEnd layer offset width) token fits =
    size_end_reading most (read_in (suc most) state (mode.SizeEnd layer offset width) token) state layer offset width
    token fits
reading most state (mode.Left operand mask) token fits =
    left_reading most (read_in (suc most) state (mode.Left operand mask) token) state operand mask token fits
reading most state (mode.Group comparison) token fits =
    group_reading most (read_in (suc most) state (mode.Group comparison) token) state comparison token fits
reading most state (mode.GroupItem comparison bits) token fits =
    constant_kind_in (read_in (suc most) state (mode.GroupItem comparison bits) token) (mode.GroupItem comparison bits)
    token tt
reading most state (mode.GroupEnd comparison bits) token fits =
    group_end_reading most (read_in (suc most) state (mode.GroupEnd comparison bits) token) state comparison bits token
    fits
reading most state (mode.Test operand mask by number) token fits =
    test_reading most (read_in (suc most) state (mode.Test operand mask by number) token) state operand mask by number
    token fits
reading most state m token fits = misplaced (read_in (suc most) state m token) m token

-- A fact about every result is true of the result that is found.
pub reached : (most : ℕ) (state after : State) (m : Mode) (token : Token) → levels_in state.frames ≤ most
    → read_in most state m token ≡ Ok after → IsReached most m token after
reached most state after m token fits is =
    subst (IsReading most m token (read_in (suc most) state m token)) is (reading most state m token fits)

pub kind_in : (most : ℕ) (state : State) (m : Mode) (token : Token) (found : FilterErrorKind)
    → levels_in state.frames ≤ most → read_in most state m token ≡ Err found
    → IsKindIn (read_in (suc most) state m token) m token found
kind_in most state m token found fits is =
    subst (IsReading most m token (read_in (suc most) state m token)) is (reading most state m token fits)

-- ---- the kind is the one of the row that applies

ok_is_err : {reading : Reading} {after : State} {found : FilterErrorKind} → reading ≡ Ok after → reading ≡ Err found → ⊥
ok_is_err is fails = cc

err_is : {reading : Reading} {found right : FilterErrorKind} → reading ≡ Err found → reading ≡ Err right → found ≡ right
err_is is fails = cc

-- A token that is read if one more level can be open is too deep.
deep_if : (few : Bool) (inside : State) (found : FilterErrorKind) → cond few (Ok inside) (Err kind.Deep) ≡ Err found
    → found ≡ kind.Deep
deep_if true inside found is = absurd (ok_is_err refl is)
deep_if false inside found is = let same : Err kind.Deep ≡ Err found = is in cc

operand_deep : (most : ℕ) (state inside : State) (only : Bool) (token : Token) (found : FilterErrorKind)
    → read_operand (suc most) state only token ≡ Ok inside → read_operand most state only token ≡ Err found
    → found ≡ kind.Deep
operand_deep most state inside only not found deeper is = deep_if (ltb (levels_in state.frames) most) _ found is
operand_deep most state inside only left_parenthesis found deeper is =
    deep_if (ltb (levels_in state.frames) most) _ found is
operand_deep most state inside false (keyword k) found deeper is = absurd (ok_is_err deeper is)
operand_deep most state inside only token found deeper is = absurd (ok_is_err deeper is)

side_values_deep : (most : ℕ) (state inside : State) (q : Option Head) (token : Token) (found : FilterErrorKind)
    → read_side_values (suc most) state q token ≡ Ok inside → read_side_values most state q token ≡ Err found
    → found ≡ kind.Deep
side_values_deep most state inside None token found deeper is = absurd (ok_is_err deeper is)
side_values_deep most state inside (Some h) token found deeper is =
    operand_deep most (qualified state h) inside true token found deeper is

sided_deep : (most : ℕ) (state inside : State) (sided : Sided) (side : Side) (token : Token) (found : FilterErrorKind)
    → read_sided (suc most) state sided side token ≡ Ok inside → read_sided most state sided side token ≡ Err found
    → found ≡ kind.Deep
sided_deep most state inside sided side (keyword k) found deeper is = absurd (ok_is_err deeper is)
sided_deep most state inside sided side token found deeper is =
    side_values_deep most state inside (side_head sided side) token found deeper is

side_deep : (most : ℕ) (state inside : State) (sided : Sided) (side : Side) (token : Token) (found : FilterErrorKind)
    → read_side (suc most) state sided side token ≡ Ok inside → read_side most state sided side token ≡ Err found
    → found ≡ kind.Deep
side_deep most state inside sided Source or found deeper is = absurd (ok_is_err deeper is)
side_deep most state inside sided Source and found deeper is = absurd (ok_is_err deeper is)
side_deep most state inside sided Destination or found deeper is = absurd (ok_is_err deeper is)
side_deep most state inside sided Destination and found deeper is = absurd (ok_is_err deeper is)
side_deep most state inside sided side token found deeper is =
    sided_deep most state inside sided side token found deeper is

pub deep_in : (most : ℕ) (state inside : State) (m : Mode) (token : Token) (found : FilterErrorKind)
    → read_in (suc most) state m token ≡ Ok inside → read_in most state m token ≡ Err found → found ≡ kind.Deep
deep_in most state inside (mode.Operand only) token found deeper is =
    operand_deep most state inside only token found deeper is
deep_in most state inside (mode.Side sided side) token found deeper is =
    side_deep most state inside sided side token found deeper is
deep_in most state inside m token found deeper is = absurd (ok_is_err deeper is)

-- Arithmetic in a byte test.
left_arithmetic : (state : State) (operand : Operand) (mask : Option ℕ) (found : FilterErrorKind)
    → read_left state operand mask ampersand ≡ Err found → found ≡ kind.Arithmetic
left_arithmetic state operand None found is = absurd (ok_is_err refl is)
left_arithmetic state operand (Some bits) found is = err_is is refl

left_kind : (state : State) (operand : Operand) (mask : Option ℕ)
    → (read_left state operand mask bar ≡ Err kind.Arithmetic)
    × (read_left state operand mask slash ≡ Err kind.Arithmetic)
left_kind state operand None = (refl, refl)
left_kind state operand (Some bits) = (refl, refl)

operator_arithmetic : (most : ℕ) (state : State) (m : Mode) (token : Token) (found : FilterErrorKind)
    → (token ≡ ampersand) ⊎ (token ≡ bar) ⊎ (token ≡ slash) → InTest m → read_in most state m token ≡ Err found
    → found ≡ kind.Arithmetic
operator_arithmetic most state (mode.OffsetEnd layer offset) token found (inl same) within is =
    err_is (sym (ap (read_offset_end state layer offset) same) ∙ is) refl
operator_arithmetic most state (mode.OffsetEnd layer offset) token found (inr (inl same)) within is =
    err_is (sym (ap (read_offset_end state layer offset) same) ∙ is) refl
operator_arithmetic most state (mode.OffsetEnd layer offset) token found (inr (inr same)) within is =
    err_is (sym (ap (read_offset_end state layer offset) same) ∙ is) refl
operator_arithmetic most state (mode.SizeEnd layer offset width) token found (inl same) within is =
    err_is (sym (ap (read_size_end state layer offset width) same) ∙ is) refl
operator_arithmetic most state (mode.SizeEnd layer offset width) token found (inr (inl same)) within is =
    err_is (sym (ap (read_size_end state layer offset width) same) ∙ is) refl
operator_arithmetic most state (mode.SizeEnd layer offset width) token found (inr (inr same)) within is =
    err_is (sym (ap (read_size_end state layer offset width) same) ∙ is) refl
operator_arithmetic most state (mode.Left operand mask) token found (inl same) within is =
    left_arithmetic state operand mask found (sym (ap (read_left state operand mask) same) ∙ is)
operator_arithmetic most state (mode.Left operand mask) token found (inr (inl same)) within is =
    err_is (sym (ap (read_left state operand mask) same) ∙ is) (left_kind state operand mask).0
operator_arithmetic most state (mode.Left operand mask) token found (inr (inr same)) within is =
    err_is (sym (ap (read_left state operand mask) same) ∙ is) (left_kind state operand mask).1
operator_arithmetic most state (mode.GroupEnd comparison bits) token found (inl same) within is =
    err_is (sym (ap (read_group_end state comparison bits) same) ∙ is) refl
operator_arithmetic most state (mode.GroupEnd comparison bits) token found (inr (inl same)) within is =
    absurd (ok_is_err refl (sym (ap (read_group_end state comparison bits) same) ∙ is))
operator_arithmetic most state (mode.GroupEnd comparison bits) token found (inr (inr same)) within is =
    err_is (sym (ap (read_group_end state comparison bits) same) ∙ is) refl
operator_arithmetic most state (mode.Test operand mask by number) token found (inl same) within is =
    err_is (sym (ap (read_test state operand mask by number) same) ∙ is) refl
operator_arithmetic most state (mode.Test operand mask by number) token found (inr (inl same)) within is =
    absurd (ok_is_err refl (sym (ap (read_test state operand mask by number) same) ∙ is))
operator_arithmetic most state (mode.Test operand mask by number) token found (inr (inr same)) within is =
    err_is (sym (ap (read_test state operand mask by number) same) ∙ is) refl
operator_arithmetic most state m token found operator within is = absurd within

constant_field : (token : Token) (layer : FieldLayer) → Grammar.IsField token layer
    → constant_kind token ≡ kind.Arithmetic
constant_field token layer Grammar.field_ether = refl
constant_field token layer Grammar.field_arp = refl
constant_field token layer Grammar.field_ip = refl
constant_field token layer Grammar.field_ip6 = refl
constant_field token layer Grammar.field_tcp = refl
constant_field token layer Grammar.field_udp = refl
constant_field token layer Grammar.field_sctp = refl
constant_field token layer Grammar.field_icmp = refl
constant_field token layer Grammar.field_icmp6 = refl

constant_operand : (token : Token) → IsOperand token → constant_kind token ≡ kind.Arithmetic
constant_operand token (inl same) = ap constant_kind same
constant_operand token (inr (inl same)) = ap constant_kind same
constant_operand token (inr (inr (layer, is))) = constant_field token layer is

group_arithmetic : (state : State) (comparison : Comparison) (token : Token) (found : FilterErrorKind)
    → constant_kind token ≡ kind.Arithmetic → read_group state comparison token ≡ Err found → found ≡ kind.Arithmetic
group_arithmetic state comparison left_parenthesis found arithmetic is = absurd (ok_is_err refl is)
group_arithmetic state comparison token found arithmetic is = err_is is (ap Err arithmetic)

constant_arithmetic : (most : ℕ) (state : State) (m : Mode) (token : Token) (found : FilterErrorKind)
    → constant_kind token ≡ kind.Arithmetic → InConstant m → read_in most state m token ≡ Err found
    → found ≡ kind.Arithmetic
constant_arithmetic most state (mode.Offset layer) token found arithmetic within is = err_is is (ap Err arithmetic)
constant_arithmetic most state (mode.Group comparison) token found arithmetic within is =
    group_arithmetic state comparison token found arithmetic is
constant_arithmetic most state (mode.GroupItem comparison bits) token found arithmetic within is =
    err_is is (ap Err arithmetic)
constant_arithmetic most state m token found arithmetic within is = absurd within

pub arithmetic_in : (most : ℕ) (state : State) (m : Mode) (token : Token) (found : FilterErrorKind)
    → ArithmeticIn m token → read_in most state m token ≡ Err found → found ≡ kind.Arithmetic
arithmetic_in most state m token found (inl (operator, within)) is =
    operator_arithmetic most state m token found operator within is
arithmetic_in most state m token found (inr (operand, within)) is =
    constant_arithmetic most state m token found (constant_operand token operand) within is

-- A prefix length or a mask after a host.
pub after_host_in : (most : ℕ) (state : State) (m : Mode) (token : Token) (found : FilterErrorKind)
    → AfterHostIn m token → read_in most state m token ≡ Err found → found ≡ kind.NetOnly
after_host_in most state (mode.Host p) token found (inl same, within) is =
    err_is (sym (ap (read_host state p) same) ∙ is) refl
after_host_in most state (mode.Host p) token found (inr same, within) is =
    err_is (sym (ap (read_host state p) same) ∙ is) refl
after_host_in most state m token found (after, within) is = absurd within
