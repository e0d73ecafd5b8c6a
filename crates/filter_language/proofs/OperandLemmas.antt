-- Lemmas about operands of filter expressions: the parser reads what the grammar says.
use Rattle.std.proofs.Common.{◌≡◌, ℕ, suc, ◌+◌, ◌≤◌, ◌<◌, inl, inr, lt-ltb, Bool, true, false, List, [], ◌∷◌, ◌++◌, Option, Some, None, Ok, refl, ap, sym, ◌∙◌, arith}
use Rattle.std.specs.declared.net.ip_addr.IpAddr.{IpAddr}
use Rattle.std.specs.declared.net.ip_addr.IpAddr.TheVariants.{V4, V6}
use Rattle.filter_tokens.specs.declared.keyword.Keyword.{Keyword}
use Rattle.filter_tokens.specs.declared.keyword.Keyword.TheVariants as name
use Rattle.filter_tokens.specs.declared.network.Network.{Network}
use Rattle.filter_tokens.specs.declared.primitive.AddressLayer.{AddressLayer}
use Rattle.filter_tokens.specs.declared.primitive.AddressLayer.TheVariants as of
use Rattle.filter_tokens.specs.declared.primitive.FieldLayer.{FieldLayer}
use Rattle.filter_tokens.specs.declared.primitive.Operand.{Operand}
use Rattle.filter_tokens.specs.declared.primitive.PortProtocol.{PortProtocol}
use Rattle.filter_tokens.specs.declared.primitive.PortProtocol.TheVariants as protocol
use Rattle.filter_tokens.specs.declared.primitive.Primitive.{Primitive}
use Rattle.filter_tokens.specs.declared.primitive.Primitive.TheVariants as primitive
use Rattle.filter_tokens.specs.declared.primitive.Relation.{Relation}
use Rattle.filter_tokens.specs.declared.primitive.Relation.TheVariants as is
use Rattle.filter_tokens.specs.declared.primitive.Side.{Side}
use Rattle.filter_tokens.specs.declared.primitive.Side.TheVariants.{Source, Destination, Either, Both}
use Rattle.filter_tokens.specs.Tokens.{Token, keyword, word, and, or, relation, left_parenthesis, right_parenthesis, left_bracket, right_bracket, colon, slash, ampersand, bar}
use Rattle.filter_tokens.specs.Values.{IsMask}
use Rattle.filter_language.specs.declared.head.Head.{Head}
use Rattle.filter_language.specs.declared.head.Head.TheVariants as head
use Rattle.filter_language.specs.declared.mode.Comparison.{Comparison}
use Rattle.filter_language.specs.declared.mode.Mode.{Mode}
use Rattle.filter_language.specs.declared.mode.Mode.TheVariants as mode
use Rattle.filter_language.specs.declared.mode.Sided.{Sided}
use Rattle.filter_language.specs.declared.mode.Sided.TheVariants.{Addresses, Stations, Ports}
use Rattle.filter_language.specs.Grammar
use Rattle.filter_language.specs.Grammar.{IsAccess, IsAddressLayer, IsBare, IsField, IsGroup, IsHead, IsLeft, IsOperator, IsPortProtocol, IsRight, IsSide, IsSideIfAny, IsUnion, IsValue, IsWordValue, dst, src}
use Rattle.filter_language.specs.Primitives.{length_test, number_test}
use Rattle.filter_language.specs.States.{State, Frame, Reads, Runs, IsAwaiting, after_value, close_left, comparing, completed, expression, finish_bare, finish_value, group_mode, in_mode, left_of_and, left_of_or, levels_in, masking, more_tokens, multicast_v4, multicast_v6, no_tokens, open_level, opened, qualified, read_after, read_in, read_left, read_mask_word, read_side, read_sided_word, settled, settled_in, side_head}
use Rattle.filter_language.specs.Trees.{Expr, test}
use Rattle.filter_language.proofs.RunOnceLemmas.{runs_apart, runs_joined}

-- ---- states

-- An operand is expected.
abbrev pub operand_state : (only : Bool) → Option Head → (inner : Bool) → List Frame → State
operand_state only q inner frames = record {
  mode = mode.Operand only;
  head = q;
  only_values = inner;
  frames = frames;
}

-- An operand is complete.
abbrev pub complete_state : Option Head → (inner : Bool) → List Frame → State
complete_state q inner frames = record {
  mode = mode.Complete;
  head = q;
  only_values = inner;
  frames = frames;
}

-- Qualifiers were read, which values follow. `inner` and `frames` are what the state has around the operand.
abbrev pub IsReady : State → Head → (inner : Bool) → List Frame → Type 0
IsReady state h inner frames = IsAwaiting state (Some h) true × (state.only_values ≡ inner) × (state.frames ≡ frames)

-- The tokens lead from a state to one in which the operand can be complete, and then the state is `done`.
abbrev pub Settles : (most : ℕ) → State → List Token → (done : State) → Type 0
Settles most state tokens done = (after : State) × Runs most state tokens after × (settled after ≡ Some done)

one_token : (most : ℕ) (state after : State) (token : Token) → Reads most state token after
    → Runs most state (token ∷ []) after
one_token most state after token reads = more_tokens state after after token [] reads (no_tokens after)

-- A state is its fields.
pub same_state : (state : State) (m : Mode) (q : Option Head) (inner : Bool) (frames : List Frame) → state.mode ≡ m
    → state.head ≡ q → state.only_values ≡ inner → state.frames ≡ frames
    → state ≡ record { mode = m; head = q; only_values = inner; frames = frames }
same_state state m q inner frames modes heads inners all =
    λ i. record { mode = modes i; head = heads i; only_values = inners i; frames = all i }

-- ---- after an operand

-- `and`, `or` and `)` are read as after the complete operand.
settled_reads_in : (most : ℕ) (state done : State) (m : Mode) → settled_in state m ≡ Some done
    → (read_in most state m and ≡ read_after (Some done) and) × (read_in most state m or ≡ read_after (Some done) or)
    × (read_in most state m right_parenthesis ≡ read_after (Some done) right_parenthesis)
settled_reads_in most state done mode.Complete same =
    (ap (λ o. read_after o and) same, ap (λ o. read_after o or) same, ap (λ o. read_after o right_parenthesis) same)
settled_reads_in most state done (mode.Layer layer) same =
    (ap (λ o. read_after o and) same, ap (λ o. read_after o or) same, ap (λ o. read_after o right_parenthesis) same)
settled_reads_in most state done (mode.Host p) same =
    (ap (λ o. read_after o and) same, ap (λ o. read_after o or) same, ap (λ o. read_after o right_parenthesis) same)
settled_reads_in most state done (mode.Net layer side network) same =
    (ap (λ o. read_after o and) same, ap (λ o. read_after o or) same, ap (λ o. read_after o right_parenthesis) same)
settled_reads_in most state done mode.Vlan same =
    (ap (λ o. read_after o and) same, ap (λ o. read_after o or) same, ap (λ o. read_after o right_parenthesis) same)
settled_reads_in most state done (mode.Test operand mask by number) same =
    (ap (λ o. read_after o and) same, ap (λ o. read_after o or) same, ap (λ o. read_after o right_parenthesis) same)
settled_reads_in most state done m same = let never : ⊥ = cc in absurd never

pub settled_reads : (most : ℕ) (state done : State) → settled state ≡ Some done
    → (read_in most state state.mode and ≡ read_after (Some done) and)
    × (read_in most state state.mode or ≡ read_after (Some done) or)
    × (read_in most state state.mode right_parenthesis ≡ read_after (Some done) right_parenthesis)
settled_reads most state done same = settled_reads_in most state done state.mode same

-- After an operator an operand is expected, which is joined with the expression before it.
pub operator_reads : (most : ℕ) (state : State) (q : Option Head) (inner : Bool) (e : Expr) (frames : List Frame)
    (operator : Token) (join : Expr → Expr → Expr) → IsOperator operator join
    → settled state ≡ Some (complete_state q inner (expression e ∷ frames))
    → (left : Frame) × Reads most state operator (operand_state inner q inner (left ∷ frames))
    × ((f : Expr) → completed (left ∷ frames) f ≡ expression (join e f) ∷ frames)
    × (levels_in (left ∷ frames) ≡ levels_in frames)
operator_reads most state q inner e frames operator join Grammar.conjunction same =
    (left_of_and e, (settled_reads most state _ same).0, λ f. refl, refl)
operator_reads most state q inner e frames operator join Grammar.disjunction same =
    (left_of_or e, (settled_reads most state _ same).1, λ f. refl, refl)

-- `)` makes the expression in parentheses an operand.
pub close_reads : (most : ℕ) (state : State) (q outer : Option Head) (inner only : Bool) (e : Expr)
    (frames : List Frame) → settled state ≡ Some (complete_state q inner (expression e ∷ opened outer only ∷ frames))
    → Reads most state right_parenthesis (complete_state outer only (completed frames e))
close_reads most state q outer inner only e frames same = (settled_reads most state _ same).2

-- A level is opened.
pub opens : (most : ℕ) (state : State) (only : Bool) (frame : Frame) (inside : Bool) → levels_in state.frames < most
    → open_level most state only frame inside ≡ Ok (operand_state only state.head inside (frame ∷ state.frames))
opens most state only frame inside space = rw (lt-ltb (levels_in state.frames) most space)

-- ---- byte tests

union_runs : (most : ℕ) (state : State) (comparison : Comparison) (tokens : List Token) (number : ℕ)
    → IsUnion tokens number
    → Runs most (in_mode state (mode.GroupItem comparison None)) tokens
    (in_mode state (mode.GroupEnd comparison number))
union_runs most state comparison tokens number (Grammar.one_constant text n stated) =
    one_token most _ _ (word text) (n, stated, refl)
union_runs most state comparison tokens number (Grammar.more_constants before text n more union stated) =
    runs_joined most _ (in_mode state (mode.GroupEnd comparison n)) _ before (bar ∷ word text ∷ [])
    (union_runs most state comparison before n union)
    (more_tokens _ (in_mode state (mode.GroupItem comparison (Some n))) _ bar (word text ∷ []) refl
    (one_token most _ _ (word text) (more, stated, refl)))

group_runs : (most : ℕ) (state : State) (comparison : Comparison) (tokens : List Token) (number : ℕ)
    → IsGroup tokens number
    → Runs most (in_mode state (mode.Group comparison)) tokens
    (in_mode state (group_mode comparison comparison.relation number))
group_runs most state comparison tokens number (Grammar.constant text n stated) =
    one_token most _ _ (word text) (n, stated, refl)
group_runs most state comparison tokens number (Grammar.in_parentheses inside n union) =
    more_tokens _ (in_mode state (mode.GroupItem comparison None)) _ left_parenthesis
    (inside ++ right_parenthesis ∷ []) refl
    (runs_joined most _ (in_mode state (mode.GroupEnd comparison n)) _ inside (right_parenthesis ∷ [])
    (union_runs most state comparison inside n union) (one_token most _ _ right_parenthesis refl))

right_runs : (most : ℕ) (state : State) (operand : Operand) (mask : Option ℕ) (by : Relation) (tokens : List Token)
    (number : ℕ) → IsRight tokens number
    → Runs most (in_mode state (mode.Group (comparing operand mask by None))) tokens
    (in_mode state (mode.Test operand mask by number))
right_runs most state operand mask by tokens number (Grammar.one_group group n is) =
    group_runs most state (comparing operand mask by None) group n is
right_runs most state operand mask by tokens number (Grammar.more_groups before group n more right is) =
    runs_joined most _ (in_mode state (mode.Test operand mask by n)) _ before (bar ∷ group)
    (right_runs most state operand mask by before n right)
    (more_tokens _ (in_mode state (mode.Group (comparing operand mask by (Some n)))) _ bar group refl
    (group_runs most state (comparing operand mask by (Some n)) group more is))

field_name : (most : ℕ) (state : State) (layer : Token) (field : FieldLayer) → IsField layer field
    → Runs most (in_mode state (mode.Operand false)) (layer ∷ left_bracket ∷ []) (in_mode state (mode.Offset field))
field_name most state layer field Grammar.field_ether =
    more_tokens _ (in_mode state (mode.Layer name.Ether)) _ _ _ refl (one_token most _ _ left_bracket refl)
field_name most state layer field Grammar.field_arp =
    more_tokens _ (in_mode state (mode.Layer name.Arp)) _ _ _ refl (one_token most _ _ left_bracket refl)
field_name most state layer field Grammar.field_ip =
    more_tokens _ (in_mode state (mode.Layer name.Ip)) _ _ _ refl (one_token most _ _ left_bracket refl)
field_name most state layer field Grammar.field_ip6 =
    more_tokens _ (in_mode state (mode.Layer name.Ip6)) _ _ _ refl (one_token most _ _ left_bracket refl)
field_name most state layer field Grammar.field_tcp =
    more_tokens _ (in_mode state (mode.Layer name.Tcp)) _ _ _ refl (one_token most _ _ left_bracket refl)
field_name most state layer field Grammar.field_udp =
    more_tokens _ (in_mode state (mode.Layer name.Udp)) _ _ _ refl (one_token most _ _ left_bracket refl)
field_name most state layer field Grammar.field_sctp =
    more_tokens _ (in_mode state (mode.Layer name.Sctp)) _ _ _ refl (one_token most _ _ left_bracket refl)
field_name most state layer field Grammar.field_icmp =
    more_tokens _ (in_mode state (mode.Layer name.Icmp)) _ _ _ refl (one_token most _ _ left_bracket refl)
field_name most state layer field Grammar.field_icmp6 =
    more_tokens _ (in_mode state (mode.Layer name.Icmp6)) _ _ _ refl (one_token most _ _ left_bracket refl)

access_runs : (most : ℕ) (state : State) (tokens : List Token) (operand : Operand) → IsAccess tokens operand
    → Runs most (in_mode state (mode.Operand false)) tokens (in_mode state (mode.Left operand None))
access_runs most state tokens operand Grammar.len = one_token most _ _ (keyword name.Len) refl
access_runs most state tokens operand (Grammar.one_byte layer field text offset is stated) =
    runs_joined most _ (in_mode state (mode.Offset field)) _ (layer ∷ left_bracket ∷ [])
    (word text ∷ right_bracket ∷ [])
    (field_name most state layer field is)
    (more_tokens _ (in_mode state (mode.OffsetEnd field offset)) _ (word text) (right_bracket ∷ [])
    (offset, stated, refl) (one_token most _ _ right_bracket refl))
access_runs most state tokens operand (Grammar.with_size layer field text size offset width is stated sized) =
    runs_joined most _ (in_mode state (mode.Offset field)) _ (layer ∷ left_bracket ∷ [])
    (word text ∷ colon ∷ word size ∷ right_bracket ∷ [])
    (field_name most state layer field is)
    (more_tokens _ (in_mode state (mode.OffsetEnd field offset)) _ (word text)
    (colon ∷ word size ∷ right_bracket ∷ []) (offset, stated, refl)
    (more_tokens _ (in_mode state (mode.Size field offset)) _ colon (word size ∷ right_bracket ∷ []) refl
    (more_tokens _ (in_mode state (mode.SizeEnd field offset width)) _ (word size) (right_bracket ∷ [])
    (width, sized, refl) (one_token most _ _ right_bracket refl))))

left_closes : (state : State) (operand : Operand) (mask : Option ℕ)
    → read_left state operand mask right_parenthesis ≡ close_left state operand mask state.frames
left_closes state operand None = refl
left_closes state operand (Some bits) = refl

left_compares : (state : State) (operand : Operand) (mask : Option ℕ) (by : Relation)
    → read_left state operand mask (relation by) ≡ Ok (in_mode state (mode.Group (comparing operand mask by None)))
left_compares state operand None by = refl
left_compares state operand (Some bits) by = refl

pub left_runs : (most levels : ℕ) (state : State) (tokens : List Token) (operand : Operand) (mask : Option ℕ)
    → IsLeft levels tokens operand mask → levels + levels_in state.frames ≤ most
    → Runs most (in_mode state (mode.Operand false)) tokens (in_mode state (mode.Left operand mask))
left_runs most levels state tokens operand mask (Grammar.access n access operand' is) space =
    access_runs most state access operand' is
left_runs most levels state tokens operand mask (Grammar.masked n before group operand' bits left is) space =
    runs_joined most _ (in_mode state (mode.Left operand' None)) _ before (ampersand ∷ group)
    (left_runs most n state before operand' None left space)
    (more_tokens _ (in_mode state (mode.Group (masking operand'))) _ ampersand group refl
    (group_runs most state (masking operand') group bits is))
left_runs most levels state tokens operand mask (Grammar.left_in_parentheses n inside operand' mask' left) space =
    let within : State = operand_state false state.head false (opened state.head state.only_values ∷ state.frames) in
    let fits : levels_in state.frames < most = omega (arith, space) in
    let deeper : n + suc (levels_in state.frames) ≤ most = omega (arith, space) in
    more_tokens _ within _ left_parenthesis (inside ++ right_parenthesis ∷ [])
    (opens most state false (opened state.head state.only_values) false fits)
    (runs_joined most _ (in_mode within (mode.Left operand' mask')) _ inside (right_parenthesis ∷ [])
    (left_runs most n within inside operand' mask' left deeper)
    (one_token most _ _ right_parenthesis (left_closes (in_mode within (mode.Left operand' mask')) operand' mask')))

-- ---- primitives without values

bare_one : (most : ℕ) (state after : State) (p : Primitive) (token : Token)
    → Reads most (in_mode state (mode.Operand false)) token after → settled after ≡ Some (finish_bare state p)
    → Settles most (in_mode state (mode.Operand false)) (token ∷ []) (finish_bare state p)
bare_one most state after p token reads same = (after, one_token most _ after token reads, same)

bare_two : (most : ℕ) (state between after : State) (p : Primitive) (token following : Token)
    → Reads most (in_mode state (mode.Operand false)) token between → Reads most between following after
    → settled after ≡ Some (finish_bare state p)
    → Settles most (in_mode state (mode.Operand false)) (token ∷ following ∷ []) (finish_bare state p)
bare_two most state between after p token following reads reads_on same =
    (after, more_tokens _ between after token (following ∷ []) reads (one_token most _ after following reads_on), same)

-- A network is its fields.
network_is : (network : Network) (address : IpAddr) (bits : ℕ) → network.address ≡ address → network.bits ≡ bits
    → record { address = address; bits = bits } ≡ network
network_is network address bits same size = λ i. record { address = sym same i; bits = sym size i }

comparison_settles : (most levels : ℕ) (state : State) (left right : List Token) (operand : Operand) (mask : Option ℕ)
    (by : Relation) (number : ℕ) → IsLeft levels left operand mask → IsRight right number
    → levels + levels_in state.frames ≤ most
    → Settles most (in_mode state (mode.Operand false)) (left ++ relation by ∷ right)
    (finish_bare state (number_test operand mask by number))
comparison_settles most levels state left right operand mask by number is_left is_right space = (
  in_mode state (mode.Test operand mask by number),
  runs_joined most _ (in_mode state (mode.Left operand mask)) _ left (relation by ∷ right)
      (left_runs most levels state left operand mask is_left space)
      (more_tokens _ (in_mode state (mode.Group (comparing operand mask by None))) _ (relation by) right
      (left_compares (in_mode state (mode.Left operand mask)) operand mask by)
      (right_runs most state operand mask by right number is_right)),
  refl,
)

pub bare_settles : (most levels : ℕ) (state : State) (tokens : List Token) (p : Primitive) → IsBare levels tokens p
    → levels + levels_in state.frames ≤ most
    → Settles most (in_mode state (mode.Operand false)) tokens (finish_bare state p)
bare_settles most levels state tokens p (Grammar.bare_ip n) space =
    bare_one most state (in_mode state (mode.Layer name.Ip)) _ _ refl refl
bare_settles most levels state tokens p (Grammar.bare_ip6 n) space =
    bare_one most state (in_mode state (mode.Layer name.Ip6)) _ _ refl refl
bare_settles most levels state tokens p (Grammar.bare_arp n) space =
    bare_one most state (in_mode state (mode.Layer name.Arp)) _ _ refl refl
bare_settles most levels state tokens p (Grammar.bare_tcp n) space =
    bare_one most state (in_mode state (mode.Layer name.Tcp)) _ _ refl refl
bare_settles most levels state tokens p (Grammar.bare_udp n) space =
    bare_one most state (in_mode state (mode.Layer name.Udp)) _ _ refl refl
bare_settles most levels state tokens p (Grammar.bare_sctp n) space =
    bare_one most state (in_mode state (mode.Layer name.Sctp)) _ _ refl refl
bare_settles most levels state tokens p (Grammar.bare_icmp n) space =
    bare_one most state (in_mode state (mode.Layer name.Icmp)) _ _ refl refl
bare_settles most levels state tokens p (Grammar.bare_icmp6 n) space =
    bare_one most state (in_mode state (mode.Layer name.Icmp6)) _ _ refl refl
bare_settles most levels state tokens p (Grammar.bare_igmp n) space = bare_one most state _ _ _ refl refl
bare_settles most levels state tokens p (Grammar.bare_ah n) space = bare_one most state _ _ _ refl refl
bare_settles most levels state tokens p (Grammar.bare_esp n) space = bare_one most state _ _ _ refl refl
bare_settles most levels state tokens p (Grammar.bare_broadcast n) space = bare_one most state _ _ _ refl refl
bare_settles most levels state tokens p (Grammar.bare_multicast n) space = bare_one most state _ _ _ refl refl
bare_settles most levels state tokens p (Grammar.bare_ether_broadcast n) space =
    bare_two most state (in_mode state (mode.Layer name.Ether)) _ _ _ _ refl refl refl
bare_settles most levels state tokens p (Grammar.bare_ether_multicast n) space =
    bare_two most state (in_mode state (mode.Layer name.Ether)) _ _ _ _ refl refl refl
bare_settles most levels state tokens p (Grammar.bare_ip_multicast n network same size) space =
    bare_two most state (in_mode state (mode.Layer name.Ip)) (finish_bare state multicast_v4) _ _ _ refl refl
    (ap (λ (n : Network). Some (finish_bare state (primitive.Address of.Ipv4 Destination n)))
    (network_is network _ 3 same size))
bare_settles most levels state tokens p (Grammar.bare_ip6_multicast n network same size) space =
    bare_two most state (in_mode state (mode.Layer name.Ip6)) (finish_bare state multicast_v6) _ _ _ refl refl
    (ap (λ (n : Network). Some (finish_bare state (primitive.Address of.Ipv6 Destination n)))
    (network_is network _ 8 same size))
bare_settles most levels state tokens p (Grammar.bare_vlan n) space =
    bare_one most state (in_mode state mode.Vlan) _ _ refl refl
bare_settles most levels state tokens p (Grammar.bare_vlan_with n text id stated) space =
    bare_two most state (in_mode state mode.Vlan) (finish_bare state (primitive.Vlan (Some id))) _ _ _ refl
    (id, stated, refl) refl
bare_settles most levels state tokens p (Grammar.bare_less n text number stated) space =
    bare_two most state (in_mode state (mode.PacketLength is.LessOrEqual))
    (finish_bare state (length_test is.LessOrEqual number)) _ _ _ refl (number, stated, refl) refl
bare_settles most levels state tokens p (Grammar.bare_greater n text number stated) space =
    bare_two most state (in_mode state (mode.PacketLength is.GreaterOrEqual))
    (finish_bare state (length_test is.GreaterOrEqual number)) _ _ _ refl (number, stated, refl) refl
bare_settles most levels state tokens p
    (Grammar.bare_comparison n left right operand mask by number is_left is_right) space =
    comparison_settles most n state left right operand mask by number is_left is_right space

-- ---- values

value_settled : (q : Head) (p : Primitive) (text : List ℕ) (inner : Bool) (frames : List Frame) → IsWordValue q text p
    → settled (after_value (operand_state true (Some q) inner frames) q p)
    ≡ Some (complete_state (Some q) inner (completed frames (test p)))
value_settled (head.Net layer side) (primitive.Address layer' side' network) text inner frames value = refl
value_settled (head.Net layer side) p text inner frames value = absurd value
value_settled q p text inner frames value = refl

mask_reads : (state : State) (layer : AddressLayer) (side : Side) (address : IpAddr) (text : List ℕ) (bits : ℕ)
    → IsMask address text bits
    → read_mask_word state layer side address ≡ Ok (in_mode state (mode.Mask layer side address))
mask_reads state layer side (V4 address) text bits fits = refl
mask_reads state layer side (V6 address) text bits fits = absurd fits

pub value_settles : (most : ℕ) (only inner : Bool) (frames : List Frame) (h : Head) (tokens : List Token)
    (p : Primitive) → IsValue h tokens p
    → Settles most (operand_state only (Some h) inner frames) tokens
    (complete_state (Some h) inner (completed frames (test p)))
value_settles most only inner frames h tokens p (Grammar.one_word q text p' value) = (
  after_value (operand_state true (Some q) inner frames) q p',
  one_token most _ _ (word text) (p', value, refl),
  value_settled q p' text inner frames value,
)
value_settles most only inner frames h tokens p
    (Grammar.with_length layer side text bits_text network bits is family fits clear) =
    let q : Head = head.Net layer side in
    let state : State = operand_state true (Some q) inner frames in
    let p' : Primitive = primitive.Address layer side (record { address = network.address; bits = bits }) in (
      finish_value state p',
      more_tokens _ (in_mode state (mode.Net layer side network)) _ (word text) (slash ∷ word bits_text ∷ [])
          (primitive.Address layer side network, (is, family, refl, refl), refl)
          (more_tokens _ (in_mode state (mode.Length layer side network.address)) _ slash (word bits_text ∷ []) refl
          (one_token most _ _ (word bits_text) (bits, fits, clear, refl))),
      refl,
    )
value_settles most only inner frames h tokens p
    (Grammar.with_mask layer side text mask network bits is family fits clear) =
    let q : Head = head.Net layer side in
    let state : State = operand_state true (Some q) inner frames in
    let p' : Primitive = primitive.Address layer side (record { address = network.address; bits = bits }) in (
      finish_value state p',
      more_tokens _ (in_mode state (mode.Net layer side network)) _ (word text) (keyword name.Mask ∷ word mask ∷ [])
          (primitive.Address layer side network, (is, family, refl, refl), refl)
          (more_tokens _ (in_mode state (mode.Mask layer side network.address)) _ (keyword name.Mask) (word mask ∷ [])
          (mask_reads (in_mode state (mode.Net layer side network)) layer side network.address mask bits fits)
          (one_token most _ _ (word mask) (bits, fits, clear, refl))),
      refl,
    )

-- ---- qualifiers

-- After a token the other side is expected, and then the state has both sides.
two_sides : (most : ℕ) (state : State) (sided : Sided) (first second_side both_sides : Side) (token second : Token)
    → Reads most (in_mode state (mode.Side sided first)) token
    (in_mode state (mode.OtherSide sided second_side both_sides))
    → Reads most (in_mode state (mode.OtherSide sided second_side both_sides)) second
    (in_mode state (mode.Side sided both_sides))
    → Runs most (in_mode state (mode.Side sided first)) (token ∷ second ∷ [])
    (in_mode state (mode.Side sided both_sides))
two_sides most state sided first second_side both_sides token second reads reads_on =
    more_tokens _ (in_mode state (mode.OtherSide sided second_side both_sides)) _ token (second ∷ []) reads
    (one_token most _ _ second reads_on)

-- A side is read in a state that reads `src` and `dst`.
side_runs : (most : ℕ) (state between : State) (sided : Sided) (tokens : List Token) (side : Side) → IsSide tokens side
    → Reads most between src (in_mode state (mode.Side sided Source))
    → Reads most between dst (in_mode state (mode.Side sided Destination))
    → Runs most between tokens (in_mode state (mode.Side sided side))
side_runs most state between sided tokens side Grammar.source reads_src reads_dst =
    one_token most _ _ src reads_src
side_runs most state between sided tokens side Grammar.destination reads_src reads_dst =
    one_token most _ _ dst reads_dst
side_runs most state between sided tokens side Grammar.source_or reads_src reads_dst =
    more_tokens _ _ _ src (or ∷ dst ∷ []) reads_src
    (two_sides most state sided Source Destination Either or dst refl refl)
side_runs most state between sided tokens side Grammar.destination_or reads_src reads_dst =
    more_tokens _ _ _ dst (or ∷ src ∷ []) reads_dst
    (two_sides most state sided Destination Source Either or src refl refl)
side_runs most state between sided tokens side Grammar.source_and reads_src reads_dst =
    more_tokens _ _ _ src (and ∷ dst ∷ []) reads_src
    (two_sides most state sided Source Destination Both and dst refl refl)
side_runs most state between sided tokens side Grammar.destination_and reads_src reads_dst =
    more_tokens _ _ _ dst (and ∷ src ∷ []) reads_dst
    (two_sides most state sided Destination Source Both and src refl refl)

-- A keyword after any side.
after_side : (most : ℕ) (state : State) (sided : Sided) (side : Side) (last : Keyword)
    → read_side most state sided side (keyword last) ≡ read_sided_word state sided side last
after_side most state sided Source last = refl
after_side most state sided Destination last = refl
after_side most state sided Either last = refl
after_side most state sided Both last = refl

-- Qualifiers that end with a keyword, after a side or without one.
ended_runs : (most : ℕ) (state between : State) (sided : Sided) (sides : List Token) (side : Side) (last : Keyword)
    (h : Side → Head) → IsSideIfAny sides side
    → Reads most between src (in_mode state (mode.Side sided Source))
    → Reads most between dst (in_mode state (mode.Side sided Destination))
    → Reads most between (keyword last) (qualified state (h Either))
    → ((side : Side) → read_sided_word (in_mode state (mode.Side sided side)) sided side last
    ≡ Ok (qualified state (h side)))
    → Runs most between (sides ++ keyword last ∷ []) (qualified state (h side))
ended_runs most state between sided sides side last h Grammar.no_side reads_src reads_dst reads_last after =
    one_token most _ _ (keyword last) reads_last
ended_runs most state between sided sides side last h (Grammar.written_side tokens side' is) reads_src reads_dst
    reads_last after =
    runs_joined most between (in_mode state (mode.Side sided side')) _ tokens (keyword last ∷ [])
    (side_runs most state between sided tokens side' is reads_src reads_dst)
    (one_token most _ _ (keyword last)
    (after_side most (in_mode state (mode.Side sided side')) sided side' last ∙ after side'))

-- Three lists of tokens are read, the last two together.
runs_three : (most : ℕ) (state between after : State) (prefix middle back : List Token) → Runs most state prefix between
    → Runs most between (middle ++ back) after → Runs most state (prefix ++ middle ++ back) after
runs_three most state between after prefix middle back runs others =
    let (last, runs_middle, runs_back) = runs_apart most between after middle back others in
    runs_joined most state last after (prefix ++ middle) back
    (runs_joined most state between last prefix middle runs runs_middle) runs_back

-- The name of a network layer, if there is one, is read, and then qualifiers of its addresses.
layer_runs : (most : ℕ) (state : State) (tokens : List Token) (layer : AddressLayer) → IsAddressLayer tokens layer
    → (between : State) × Runs most (in_mode state (mode.Operand false)) tokens between
    × Reads most between src (in_mode state (mode.Side (Addresses layer) Source))
    × Reads most between dst (in_mode state (mode.Side (Addresses layer) Destination))
    × Reads most between (keyword name.Host) (qualified state (head.Host layer Either))
    × Reads most between (keyword name.Net) (qualified state (head.Net layer Either))
layer_runs most state tokens layer Grammar.any_layer =
    (in_mode state (mode.Operand false), no_tokens _, refl, refl, refl, refl)
layer_runs most state tokens layer Grammar.address_of_ip =
    (in_mode state (mode.Layer name.Ip), one_token most _ _ _ refl, refl, refl, refl, refl)
layer_runs most state tokens layer Grammar.address_of_ip6 =
    (in_mode state (mode.Layer name.Ip6), one_token most _ _ _ refl, refl, refl, refl, refl)
layer_runs most state tokens layer Grammar.address_of_arp =
    (in_mode state (mode.Layer name.Arp), one_token most _ _ _ refl, refl, refl, refl, refl)

-- The name of a transport protocol, if there is one, is read, and then qualifiers of its ports.
protocol_runs : (most : ℕ) (state : State) (tokens : List Token) (ports : PortProtocol) → IsPortProtocol tokens ports
    → (between : State) × (sided : Sided) × Runs most (in_mode state (mode.Operand false)) tokens between
    × (Reads most between src (in_mode state (mode.Side sided Source))
    × Reads most between dst (in_mode state (mode.Side sided Destination)))
    × (Reads most between (keyword name.Port) (qualified state (head.Port ports Either))
    × Reads most between (keyword name.PortRange) (qualified state (head.PortRange ports Either)))
    × ((side : Side) → (read_sided_word (in_mode state (mode.Side sided side)) sided side name.Port
    ≡ Ok (qualified state (head.Port ports side)))
    × (read_sided_word (in_mode state (mode.Side sided side)) sided side name.PortRange
    ≡ Ok (qualified state (head.PortRange ports side))))
protocol_runs most state tokens ports Grammar.any_protocol =
    (in_mode state (mode.Operand false), Addresses of.Any, no_tokens _, (refl, refl), (refl, refl), λ side. (refl, refl))
protocol_runs most state tokens ports Grammar.port_of_tcp = (
  in_mode state (mode.Layer name.Tcp),
  Ports protocol.Tcp,
  one_token most _ _ _ refl,
  (refl, refl),
  (refl, refl),
  λ side. (refl, refl),
)
protocol_runs most state tokens ports Grammar.port_of_udp = (
  in_mode state (mode.Layer name.Udp),
  Ports protocol.Udp,
  one_token most _ _ _ refl,
  (refl, refl),
  (refl, refl),
  λ side. (refl, refl),
)
protocol_runs most state tokens ports Grammar.port_of_sctp = (
  in_mode state (mode.Layer name.Sctp),
  Ports protocol.Sctp,
  one_token most _ _ _ refl,
  (refl, refl),
  (refl, refl),
  λ side. (refl, refl),
)

-- Qualifiers lead to a state in which values are expected.
abbrev Readies : (most : ℕ) → State → List Token → Head → Type 0
Readies most state tokens h =
    (after : State) × Runs most (in_mode state (mode.Operand false)) tokens after
    × IsReady after h state.only_values state.frames

ready_qualified : (most : ℕ) (state : State) (tokens : List Token) (h : Head)
    → Runs most (in_mode state (mode.Operand false)) tokens (qualified state h) → Readies most state tokens h
ready_qualified most state tokens h runs = (qualified state h, runs, (inl (refl, refl), refl, refl))

ready_side : (most : ℕ) (state : State) (tokens : List Token) (sided : Sided) (side : Side) (h : Head)
    → side_head sided side ≡ Some h
    → Runs most (in_mode state (mode.Operand false)) tokens (in_mode state (mode.Side sided side))
    → Readies most state tokens h
ready_side most state tokens sided side h is runs =
    (in_mode state (mode.Side sided side), runs, (inr (sided, side, h, refl, is, refl, refl), refl, refl))

sided_host : (state : State) (layer : AddressLayer) (side : Side)
    → read_sided_word state (Addresses layer) side name.Host ≡ Ok (qualified state (head.Host layer side))
sided_host state of.Any side = refl
sided_host state layer side = refl

sided_net : (state : State) (layer : AddressLayer) (side : Side)
    → read_sided_word state (Addresses layer) side name.Net ≡ Ok (qualified state (head.Net layer side))
sided_net state of.Any side = refl
sided_net state layer side = refl

head_readies : (most : ℕ) (state : State) (tokens : List Token) (h : Head) → IsHead tokens h
    → Readies most state tokens h
head_readies most state tokens h (Grammar.head_host layers sides layer side is_layer is_side) =
    let (between, runs, reads_src, reads_dst, reads_host, reads_net) = layer_runs most state layers layer is_layer in
    ready_qualified most state (layers ++ sides ++ keyword name.Host ∷ []) (head.Host layer side)
    (runs_three most _ between _ layers sides (keyword name.Host ∷ []) runs
    (ended_runs most state between (Addresses layer) sides side name.Host (head.Host layer) is_side reads_src reads_dst
    reads_host (λ s. sided_host (in_mode state (mode.Side (Addresses layer) s)) layer s)))
head_readies most state tokens h (Grammar.head_host_left_out layers sides layer side is_layer is_side) =
    let (between, runs, reads_src, reads_dst, reads_host, reads_net) = layer_runs most state layers layer is_layer in
    ready_side most state (layers ++ sides) (Addresses layer) side (head.Host layer side) refl
    (runs_joined most _ between _ layers sides runs
    (side_runs most state between (Addresses layer) sides side is_side reads_src reads_dst))
head_readies most state tokens h (Grammar.head_net layers sides layer side is_layer is_side) =
    let (between, runs, reads_src, reads_dst, reads_host, reads_net) = layer_runs most state layers layer is_layer in
    ready_qualified most state (layers ++ sides ++ keyword name.Net ∷ []) (head.Net layer side)
    (runs_three most _ between _ layers sides (keyword name.Net ∷ []) runs
    (ended_runs most state between (Addresses layer) sides side name.Net (head.Net layer) is_side reads_src reads_dst
    reads_net (λ s. sided_net (in_mode state (mode.Side (Addresses layer) s)) layer s)))
head_readies most state tokens h (Grammar.head_station sides side is_side) =
    let between : State = in_mode state (mode.Layer name.Ether) in
    ready_qualified most state (keyword name.Ether ∷ sides ++ keyword name.Host ∷ []) (head.Station side)
    (more_tokens _ between _ (keyword name.Ether) (sides ++ keyword name.Host ∷ []) refl
    (ended_runs most state between Stations sides side name.Host head.Station is_side refl refl refl (λ s. refl)))
head_readies most state tokens h (Grammar.head_station_left_out sides side is_side) =
    let between : State = in_mode state (mode.Layer name.Ether) in
    ready_side most state (keyword name.Ether ∷ sides) Stations side (head.Station side) refl
    (more_tokens _ between _ (keyword name.Ether) sides refl
    (side_runs most state between Stations sides side is_side refl refl))
head_readies most state tokens h (Grammar.head_port protocols sides ports side is_protocol is_side) =
    let (between, sided, runs, sides_read, words_read, after) =
    protocol_runs most state protocols ports is_protocol in
    ready_qualified most state (protocols ++ sides ++ keyword name.Port ∷ []) (head.Port ports side)
    (runs_three most _ between _ protocols sides (keyword name.Port ∷ []) runs
    (ended_runs most state between sided sides side name.Port (head.Port ports) is_side sides_read.0 sides_read.1
    words_read.0 (λ side'. (after side').0)))
head_readies most state tokens h (Grammar.head_port_range protocols sides ports side is_protocol is_side) =
    let (between, sided, runs, sides_read, words_read, after) =
    protocol_runs most state protocols ports is_protocol in
    ready_qualified most state (protocols ++ sides ++ keyword name.PortRange ∷ []) (head.PortRange ports side)
    (runs_three most _ between _ protocols sides (keyword name.PortRange ∷ []) runs
    (ended_runs most state between sided sides side name.PortRange (head.PortRange ports) is_side sides_read.0
    sides_read.1 words_read.1 (λ side'. (after side').1)))
head_readies most state tokens h (Grammar.head_proto versions ip Grammar.any_version) =
    ready_qualified most state _ _ (one_token most _ _ _ refl)
head_readies most state tokens h (Grammar.head_proto versions ip Grammar.version_v4) =
    ready_qualified most state _ _
    (more_tokens _ (in_mode state (mode.Layer name.Ip)) _ _ _ refl (one_token most _ _ _ refl))
head_readies most state tokens h (Grammar.head_proto versions ip Grammar.version_v6) =
    ready_qualified most state _ _
    (more_tokens _ (in_mode state (mode.Layer name.Ip6)) _ _ _ refl (one_token most _ _ _ refl))
head_readies most state tokens h Grammar.head_ether_proto =
    ready_qualified most state _ _
    (more_tokens _ (in_mode state (mode.Layer name.Ether)) _ _ _ refl (one_token most _ _ _ refl))

-- Qualifiers are read where an operand is expected.
pub head_runs : (most : ℕ) (q : Option Head) (inner : Bool) (frames : List Frame) (tokens : List Token) (h : Head)
    → IsHead tokens h
    → (after : State) × Runs most (operand_state false q inner frames) tokens after × IsReady after h inner frames
head_runs most q inner frames tokens h is = head_readies most (operand_state false q inner frames) tokens h is
