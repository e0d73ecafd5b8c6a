-- The parser of filter expressions as a machine that reads one token at a time: its states, the state after a token, and
-- the kind of error of a token that a state does not allow.
use Rattle.std.specs.Prelude.{◌≡◌, ℕ, suc, ◌⊎◌, nat_lt, if◌then◌else◌, Bool, true, false, IsTrue, bit_or, List, [], ◌∷◌, take, Option, Some, None, Result, Ok, Err}
use Rattle.std.specs.List.{list_any}
use Rattle.std.specs.declared.net.ip_addr.IpAddr.{IpAddr}
use Rattle.std.specs.declared.net.ip_addr.IpAddr.TheVariants.{V4, V6}
use Rattle.ep_base.specs.EtherTypes.{ipv4_type, ipv6_type, arp_type}
use Rattle.filter_tokens.specs.declared.filter_error.FilterErrorKind.{FilterErrorKind}
use Rattle.filter_tokens.specs.declared.filter_error.FilterErrorKind.TheVariants as kind
use Rattle.filter_tokens.specs.declared.keyword.Keyword.{Keyword}
use Rattle.filter_tokens.specs.declared.keyword.Keyword.TheVariants as name
use Rattle.filter_tokens.specs.declared.network.Network.{Network}
use Rattle.filter_tokens.specs.declared.primitive.AddressLayer.{AddressLayer}
use Rattle.filter_tokens.specs.declared.primitive.AddressLayer.TheVariants as of
use Rattle.filter_tokens.specs.declared.primitive.FieldLayer.{FieldLayer}
use Rattle.filter_tokens.specs.declared.primitive.FieldLayer.TheVariants as field
use Rattle.filter_tokens.specs.declared.primitive.IpVersion.TheVariants as version
use Rattle.filter_tokens.specs.declared.primitive.Operand.{Operand}
use Rattle.filter_tokens.specs.declared.primitive.Operand.TheVariants.{Length, Bytes}
use Rattle.filter_tokens.specs.declared.primitive.PortProtocol.{PortProtocol}
use Rattle.filter_tokens.specs.declared.primitive.PortProtocol.TheVariants as protocol
use Rattle.filter_tokens.specs.declared.primitive.Primitive.{Primitive}
use Rattle.filter_tokens.specs.declared.primitive.Primitive.TheVariants as primitive
use Rattle.filter_tokens.specs.declared.primitive.Relation.{Relation}
use Rattle.filter_tokens.specs.declared.primitive.Relation.TheVariants as is
use Rattle.filter_tokens.specs.declared.primitive.Side.{Side}
use Rattle.filter_tokens.specs.declared.primitive.Side.TheVariants.{Source, Destination, Either, Both}
use Rattle.filter_tokens.specs.declared.primitive.Width.{Width}
use Rattle.filter_tokens.specs.declared.primitive.Width.TheVariants.{One}
use Rattle.filter_tokens.specs.Networks.{has_no_host_bits}
use Rattle.filter_tokens.specs.Tokens.{Token, keyword, word, and, or, not, relation, left_parenthesis, right_parenthesis, left_bracket, right_bracket, colon, slash, ampersand, bar, wrong, is_digit}
use Rattle.filter_tokens.specs.Values.{IsConstant, IsLength, IsMask, IsNumberText, IsSizeText, most_number}
use Rattle.filter_language.specs.declared.head.Head.{Head}
use Rattle.filter_language.specs.declared.head.Head.TheVariants as head
use Rattle.filter_language.specs.declared.mode.Comparison.{Comparison}
use Rattle.filter_language.specs.declared.mode.Mode.{Mode}
use Rattle.filter_language.specs.declared.mode.Mode.TheVariants as mode
use Rattle.filter_language.specs.declared.mode.Sided.{Sided}
use Rattle.filter_language.specs.declared.mode.Sided.TheVariants.{Addresses, Stations, Ports}
use Rattle.filter_language.specs.Grammar.{IsWordValue}
use Rattle.filter_language.specs.Primitives.{ethernet_broadcast, ethernet_multicast, length_test, number_test, protocol_test, type_test}
use Rattle.filter_language.specs.Refusals.{IsOperandKind}
use Rattle.filter_language.specs.Trees.{Expr, test, negated, both, either}

-- Frames around the next operand, from the inside out: a complete expression, which has no operand after it yet; the
-- left operand of `and` or `or`; `not`; and `(`, with the qualifiers in force before it, and whether only values are
-- allowed outside.
pub data Frame : Type 0 where
  expression : Expr → Frame
  left_of_and : Expr → Frame
  left_of_or : Expr → Frame
  negating : Frame
  opened : Option Head → Bool → Frame

-- A state: the part of an operand that was read, the qualifiers in force, whether only values are allowed in the
-- innermost parenthesis, and the frames around the operand.
pub record State : Type 0 where
  pub mode : Mode
  pub head : Option Head
  pub only_values : Bool
  pub frames : List Frame

-- The state before the first token.
abbrev pub first_state : State
first_state = record { mode = mode.Operand false; head = None; only_values = false; frames = [] }

-- ---- frames

-- The number of `(` and `not` that are open.
abbrev pub levels_in : List Frame → ℕ
levels_in [] = 0
levels_in (negating ∷ frames) = suc (levels_in frames)
levels_in (opened q only ∷ frames) = suc (levels_in frames)
levels_in (frame ∷ frames) = levels_in frames

-- The frames after an operand: it is negated for each `not` before it, and joined with a left operand.
abbrev pub completed : List Frame → Expr → List Frame
completed (negating ∷ frames) e = completed frames (negated e)
completed (left_of_and e ∷ frames) f = expression (both e f) ∷ frames
completed (left_of_or e ∷ frames) f = expression (either e f) ∷ frames
completed frames e = expression e ∷ frames

-- ---- states

abbrev pub in_mode : State → Mode → State
in_mode state next = record {
  mode = next;
  head = state.head;
  only_values = state.only_values;
  frames = state.frames;
}

-- Qualifiers were read, which values follow.
abbrev pub qualified : State → Head → State
qualified state h = record {
  mode = mode.Operand true;
  head = Some h;
  only_values = state.only_values;
  frames = state.frames;
}

-- A value was read, with its qualifiers in force.
abbrev pub finish_value : State → Primitive → State
finish_value state p = record {
  mode = mode.Complete;
  head = state.head;
  only_values = state.only_values;
  frames = completed state.frames (test p);
}

-- A primitive without values was read, which leaves no qualifiers in force.
abbrev pub finish_bare : State → Primitive → State
finish_bare state p = record {
  mode = mode.Complete;
  head = None;
  only_values = state.only_values;
  frames = completed state.frames (test p);
}

-- The primitive that the name of a layer is by itself.
abbrev pub layer_primitive : Keyword → Option Primitive
layer_primitive name.Ip = Some (type_test ipv4_type)
layer_primitive name.Ip6 = Some (type_test ipv6_type)
layer_primitive name.Arp = Some (type_test arp_type)
layer_primitive name.Tcp = Some (protocol_test version.Any 6)
layer_primitive name.Udp = Some (protocol_test version.Any 17)
layer_primitive name.Sctp = Some (protocol_test version.Any 132)
layer_primitive name.Icmp = Some (protocol_test version.V4 1)
layer_primitive name.Icmp6 = Some (protocol_test version.V6 58)
layer_primitive _ = None

-- The state with the operand complete, if it can be complete.
abbrev pub settled_layer : State → Option Primitive → Option State
settled_layer state None = None
settled_layer state (Some p) = Some (finish_bare state p)

abbrev pub settled_in : State → Mode → Option State
settled_in state mode.Complete = Some state
settled_in state (mode.Layer layer) = settled_layer state (layer_primitive layer)
settled_in state (mode.Host p) = Some (finish_value state p)
settled_in state (mode.Net layer side network) = Some (finish_value state (primitive.Address layer side network))
settled_in state mode.Vlan = Some (finish_bare state (primitive.Vlan None))
settled_in state (mode.Test operand mask by number) = Some (finish_bare state (number_test operand mask by number))
settled_in state other = None

abbrev pub settled : State → Option State
settled state = settled_in state state.mode

-- The expression of a text that ends in a state outside all parentheses. None if the text cannot end there.
abbrev pub expression_in : List Frame → Option Expr
expression_in (expression e ∷ []) = Some e
expression_in frames = None

abbrev pub expression_of : Option State → Option Expr
expression_of None = None
expression_of (Some state) = expression_in state.frames

-- ---- tokens that are no words

-- Result of a token in a state: the next state, or the kind of error.
abbrev pub Reading : Type 0
Reading = Result State FilterErrorKind

-- A level is opened, if fewer than `most` are.
abbrev pub open_level : (most : ℕ) → State → (only : Bool) → Frame → (inside : Bool) → Reading
open_level most state only frame inside =
    if nat_lt (levels_in state.frames) most
    then Ok (record {
      mode = mode.Operand only;
      head = state.head;
      only_values = inside;
      frames = frame ∷ state.frames;
    })
    else Err kind.Deep

-- An operator after an operand.
abbrev pub join_frames : State → (Expr → Frame) → List Frame → Reading
join_frames state left (expression e ∷ frames) = Ok (record {
  mode = mode.Operand state.only_values;
  head = state.head;
  only_values = state.only_values;
  frames = left e ∷ frames;
})
join_frames state left frames = Err kind.Misplaced

-- `)` after an operand: the parenthesis is an operand of the frames around it.
abbrev pub close_frames : List Frame → Reading
close_frames (expression e ∷ opened q only ∷ frames) = Ok (record {
  mode = mode.Complete;
  head = q;
  only_values = only;
  frames = completed frames e;
})
close_frames frames = Err kind.Misplaced

-- After a complete operand.
abbrev pub read_after : Option State → Token → Reading
read_after None token = Err kind.Misplaced
read_after (Some state) and = join_frames state left_of_and state.frames
read_after (Some state) or = join_frames state left_of_or state.frames
read_after (Some state) right_parenthesis = close_frames state.frames
read_after (Some state) token = Err kind.Misplaced

-- Where an operand begins with a keyword.
abbrev pub read_keyword : State → Keyword → Reading
read_keyword state name.Len = Ok (in_mode state (mode.Left Length None))
read_keyword state name.Vlan = Ok (in_mode state mode.Vlan)
read_keyword state name.Less = Ok (in_mode state (mode.PacketLength is.LessOrEqual))
read_keyword state name.Greater = Ok (in_mode state (mode.PacketLength is.GreaterOrEqual))
read_keyword state name.Broadcast = Ok (finish_bare state ethernet_broadcast)
read_keyword state name.Multicast = Ok (finish_bare state ethernet_multicast)
read_keyword state name.Igmp = Ok (finish_bare state (protocol_test version.V4 2))
read_keyword state name.Ah = Ok (finish_bare state (protocol_test version.Any 51))
read_keyword state name.Esp = Ok (finish_bare state (protocol_test version.Any 50))
read_keyword state name.Proto = Ok (qualified state (head.Protocol version.Any))
read_keyword state name.Src = Ok (in_mode state (mode.Side (Addresses of.Any) Source))
read_keyword state name.Dst = Ok (in_mode state (mode.Side (Addresses of.Any) Destination))
read_keyword state name.Host = Ok (qualified state (head.Host of.Any Either))
read_keyword state name.Net = Ok (qualified state (head.Net of.Any Either))
read_keyword state name.Port = Ok (qualified state (head.Port protocol.Any Either))
read_keyword state name.PortRange = Ok (qualified state (head.PortRange protocol.Any Either))
read_keyword state name.Mask = Err kind.Misplaced
read_keyword state layer = Ok (in_mode state (mode.Layer layer))

-- Where an operand is expected.
abbrev pub read_operand : (most : ℕ) → State → (only : Bool) → Token → Reading
read_operand most state only not = open_level most state only negating state.only_values
read_operand most state only left_parenthesis =
    open_level most state only (opened state.head state.only_values) only
read_operand most state false (keyword name) = read_keyword state name
read_operand most state only token = Err kind.Misplaced

-- The layer whose bytes a keyword names.
abbrev pub field_of : Keyword → Option FieldLayer
field_of name.Ether = Some field.Ethernet
field_of name.Arp = Some field.Arp
field_of name.Ip = Some field.Ipv4
field_of name.Ip6 = Some field.Ipv6
field_of name.Tcp = Some field.Tcp
field_of name.Udp = Some field.Udp
field_of name.Sctp = Some field.Sctp
field_of name.Icmp = Some field.Icmpv4
field_of name.Icmp6 = Some field.Icmpv6
field_of _ = None

abbrev pub read_offset : State → Option FieldLayer → Reading
read_offset state None = Err kind.Misplaced
read_offset state (Some layer) = Ok (in_mode state (mode.Offset layer))

-- The network of the multicast addresses of IPv4, `224.0.0.0/3`, and of IPv6, `ff00::/8`.
abbrev pub multicast_v4 : Primitive
multicast_v4 = primitive.Address of.Ipv4 Destination (record {
  address = V4 (record { octets = 224 ∷ 0 ∷ 0 ∷ 0 ∷ [] });
  bits = 3;
})

abbrev pub multicast_v6 : Primitive
multicast_v6 = primitive.Address of.Ipv6 Destination (record {
  address = V6 (record { segments = 65280 ∷ 0 ∷ 0 ∷ 0 ∷ 0 ∷ 0 ∷ 0 ∷ 0 ∷ [] });
  bits = 8;
})

-- Qualifiers of addresses, after the name of a network layer, if there is one.
abbrev pub read_address_word : State → AddressLayer → Keyword → Reading
read_address_word state layer name.Src = Ok (in_mode state (mode.Side (Addresses layer) Source))
read_address_word state layer name.Dst = Ok (in_mode state (mode.Side (Addresses layer) Destination))
read_address_word state layer name.Host = Ok (qualified state (head.Host layer Either))
read_address_word state layer name.Net = Ok (qualified state (head.Net layer Either))
read_address_word state layer _ = Err kind.Misplaced

-- Qualifiers of ports, after the name of a transport protocol.
abbrev pub read_port_word : State → PortProtocol → Keyword → Reading
read_port_word state ports name.Src = Ok (in_mode state (mode.Side (Ports ports) Source))
read_port_word state ports name.Dst = Ok (in_mode state (mode.Side (Ports ports) Destination))
read_port_word state ports name.Port = Ok (qualified state (head.Port ports Either))
read_port_word state ports name.PortRange = Ok (qualified state (head.PortRange ports Either))
read_port_word state ports _ = Err kind.Misplaced

-- A keyword after the name of a layer.
abbrev pub read_layer_word : State → (layer following : Keyword) → Reading
read_layer_word state name.Ip name.Proto = Ok (qualified state (head.Protocol version.V4))
read_layer_word state name.Ip name.Multicast = Ok (finish_bare state multicast_v4)
read_layer_word state name.Ip following = read_address_word state of.Ipv4 following
read_layer_word state name.Ip6 name.Proto = Ok (qualified state (head.Protocol version.V6))
read_layer_word state name.Ip6 name.Multicast = Ok (finish_bare state multicast_v6)
read_layer_word state name.Ip6 following = read_address_word state of.Ipv6 following
read_layer_word state name.Arp following = read_address_word state of.Arp following
read_layer_word state name.Tcp following = read_port_word state protocol.Tcp following
read_layer_word state name.Udp following = read_port_word state protocol.Udp following
read_layer_word state name.Sctp following = read_port_word state protocol.Sctp following
read_layer_word state name.Ether name.Broadcast = Ok (finish_bare state ethernet_broadcast)
read_layer_word state name.Ether name.Multicast = Ok (finish_bare state ethernet_multicast)
read_layer_word state name.Ether name.Proto = Ok (qualified state head.EtherType)
read_layer_word state name.Ether name.Host = Ok (qualified state (head.Station Either))
read_layer_word state name.Ether name.Src = Ok (in_mode state (mode.Side Stations Source))
read_layer_word state name.Ether name.Dst = Ok (in_mode state (mode.Side Stations Destination))
read_layer_word state layer _ = Err kind.Misplaced

-- After the name of a layer.
abbrev pub read_layer : State → Keyword → Token → Reading
read_layer state layer left_bracket = read_offset state (field_of layer)
read_layer state layer (keyword next) = read_layer_word state layer next
read_layer state layer token = read_after (settled_layer state (layer_primitive layer)) token

-- The qualifiers that a side is by itself, without `host`.
abbrev pub side_head : Sided → Side → Option Head
side_head (Addresses layer) side = Some (head.Host layer side)
side_head Stations side = Some (head.Station side)
side_head (Ports ports) side = None

-- A keyword after a side.
abbrev pub read_sided_word : State → Sided → Side → Keyword → Reading
read_sided_word state (Addresses layer) side name.Host = Ok (qualified state (head.Host layer side))
read_sided_word state (Addresses layer) side name.Net = Ok (qualified state (head.Net layer side))
read_sided_word state (Addresses of.Any) side name.Port = Ok (qualified state (head.Port protocol.Any side))
read_sided_word state (Addresses of.Any) side name.PortRange =
    Ok (qualified state (head.PortRange protocol.Any side))
read_sided_word state Stations side name.Host = Ok (qualified state (head.Station side))
read_sided_word state (Ports ports) side name.Port = Ok (qualified state (head.Port ports side))
read_sided_word state (Ports ports) side name.PortRange = Ok (qualified state (head.PortRange ports side))
read_sided_word state sided side _ = Err kind.Misplaced

-- Where values follow a side without `host`.
abbrev pub read_side_values : (most : ℕ) → State → Option Head → Token → Reading
read_side_values most state None token = Err kind.Misplaced
read_side_values most state (Some h) token = read_operand most (qualified state h) true token

-- After a side that is complete.
abbrev pub read_sided : (most : ℕ) → State → Sided → Side → Token → Reading
read_sided most state sided side (keyword next) = read_sided_word state sided side next
read_sided most state sided side token = read_side_values most state (side_head sided side) token

-- After `src` or `dst`, which can be the first of two sides.
abbrev pub read_side : (most : ℕ) → State → Sided → Side → Token → Reading
read_side most state sided Source or = Ok (in_mode state (mode.OtherSide sided Destination Either))
read_side most state sided Source and = Ok (in_mode state (mode.OtherSide sided Destination Both))
read_side most state sided Destination or = Ok (in_mode state (mode.OtherSide sided Source Either))
read_side most state sided Destination and = Ok (in_mode state (mode.OtherSide sided Source Both))
read_side most state sided side token = read_sided most state sided side token

-- Where the other side is expected.
abbrev pub read_other_side : State → Sided → (other side : Side) → Token → Reading
read_other_side state sided Source side (keyword name.Src) = Ok (in_mode state (mode.Side sided side))
read_other_side state sided Destination side (keyword name.Dst) = Ok (in_mode state (mode.Side sided side))
read_other_side state sided other side token = Err kind.Misplaced

-- After an address of a host.
abbrev pub read_host : State → Primitive → Token → Reading
read_host state p slash = Err kind.NetOnly
read_host state p (keyword name.Mask) = Err kind.NetOnly
read_host state p token = read_after (Some (finish_value state p)) token

-- After a network.
abbrev pub read_mask_word : State → AddressLayer → Side → IpAddr → Reading
read_mask_word state layer side (V4 address) = Ok (in_mode state (mode.Mask layer side (V4 address)))
read_mask_word state layer side (V6 address) = Err kind.Misplaced

abbrev pub read_net : State → AddressLayer → Side → Network → Token → Reading
read_net state layer side network slash = Ok (in_mode state (mode.Length layer side network.address))
read_net state layer side network (keyword name.Mask) = read_mask_word state layer side network.address
read_net state layer side network token =
    read_after (Some (finish_value state (primitive.Address layer side network))) token

-- An operator of arithmetic in a byte test, or another token that is not allowed there.
abbrev pub test_kind : Token → FilterErrorKind
test_kind ampersand = kind.Arithmetic
test_kind bar = kind.Arithmetic
test_kind slash = kind.Arithmetic
test_kind token = kind.Misplaced

-- A layer, `len` or `(` where a constant is expected, or another token that is not allowed there.
abbrev pub field_kind : Option FieldLayer → FilterErrorKind
field_kind None = kind.Misplaced
field_kind (Some layer) = kind.Arithmetic

abbrev pub constant_kind : Token → FilterErrorKind
constant_kind left_parenthesis = kind.Arithmetic
constant_kind (keyword name.Len) = kind.Arithmetic
constant_kind (keyword layer) = field_kind (field_of layer)
constant_kind token = kind.Misplaced

-- The bits of constants that were read, and of another one.
abbrev pub union : Option ℕ → ℕ → ℕ
union None number = number
union (Some bits) number = bit_or bits number

-- The mode after a constant, or after constants in parentheses: they are the mask, or bits of the number.
abbrev pub group_mode : Comparison → Option Relation → ℕ → Mode
group_mode comparison None number = mode.Left comparison.operand (Some number)
group_mode comparison (Some by) number =
    mode.Test comparison.operand comparison.mask by (union comparison.number number)

-- The comparison whose mask is expected, and those whose number is.
abbrev pub masking : Operand → Comparison
masking operand = record { operand = operand; mask = None; relation = None; number = None }

abbrev pub comparing : Operand → Option ℕ → Relation → Option ℕ → Comparison
comparing operand mask by number = record { operand = operand; mask = mask; relation = Some by; number = number }

abbrev pub read_offset_end : State → FieldLayer → ℕ → Token → Reading
read_offset_end state layer offset colon = Ok (in_mode state (mode.Size layer offset))
read_offset_end state layer offset right_bracket = Ok (in_mode state (mode.Left (Bytes layer offset One) None))
read_offset_end state layer offset token = Err (test_kind token)

abbrev pub read_size_end : State → FieldLayer → ℕ → Width → Token → Reading
read_size_end state layer offset width right_bracket =
    Ok (in_mode state (mode.Left (Bytes layer offset width) None))
read_size_end state layer offset width token = Err (test_kind token)

-- `)` after the operand of a byte test, which is read in parentheses of its own.
abbrev pub close_left : State → Operand → Option ℕ → List Frame → Reading
close_left state operand mask (opened q only ∷ frames) = Ok (record {
  mode = mode.Left operand mask;
  head = q;
  only_values = only;
  frames = frames;
})
close_left state operand mask frames = Err kind.Misplaced

abbrev pub read_left : State → Operand → Option ℕ → Token → Reading
read_left state operand None ampersand = Ok (in_mode state (mode.Group (masking operand)))
read_left state operand mask right_parenthesis = close_left state operand mask state.frames
read_left state operand mask (relation by) = Ok (in_mode state (mode.Group (comparing operand mask by None)))
read_left state operand mask token = Err (test_kind token)

abbrev pub read_group : State → Comparison → Token → Reading
read_group state comparison left_parenthesis = Ok (in_mode state (mode.GroupItem comparison None))
read_group state comparison token = Err (constant_kind token)

abbrev pub read_group_end : State → Comparison → ℕ → Token → Reading
read_group_end state comparison bits bar = Ok (in_mode state (mode.GroupItem comparison (Some bits)))
read_group_end state comparison bits right_parenthesis =
    Ok (in_mode state (group_mode comparison comparison.relation bits))
read_group_end state comparison bits token = Err (test_kind token)

abbrev pub read_test : State → Operand → Option ℕ → Relation → ℕ → Token → Reading
read_test state operand mask by number bar =
    Ok (in_mode state (mode.Group (comparing operand mask by (Some number))))
read_test state operand mask by number ampersand = Err kind.Arithmetic
read_test state operand mask by number slash = Err kind.Arithmetic
read_test state operand mask by number token =
    read_after (Some (finish_bare state (number_test operand mask by number))) token

-- A token that is neither a word nor wrong.
abbrev pub read_in : (most : ℕ) → State → Mode → Token → Reading
read_in most state (mode.Operand only) token = read_operand most state only token
read_in most state mode.Complete token = read_after (Some state) token
read_in most state (mode.Layer layer) token = read_layer state layer token
read_in most state (mode.Side sided side) token = read_side most state sided side token
read_in most state (mode.OtherSide sided other side) token = read_other_side state sided other side token
read_in most state (mode.Host p) token = read_host state p token
read_in most state (mode.Net layer side network) token = read_net state layer side network token
read_in most state mode.Vlan token = read_after (Some (finish_bare state (primitive.Vlan None))) token
read_in most state (mode.Offset layer) token = Err (constant_kind token)
read_in most state (mode.OffsetEnd layer offset) token = read_offset_end state layer offset token
read_in most state (mode.SizeEnd layer offset width) token = read_size_end state layer offset width token
read_in most state (mode.Left operand mask) token = read_left state operand mask token
read_in most state (mode.Group comparison) token = read_group state comparison token
read_in most state (mode.GroupItem comparison bits) token = Err (constant_kind token)
read_in most state (mode.GroupEnd comparison bits) token = read_group_end state comparison bits token
read_in most state (mode.Test operand mask by number) token = read_test state operand mask by number token
read_in most state other token = Err kind.Misplaced

-- ---- words

-- The state after a value.
abbrev pub after_value : State → Head → Primitive → State
after_value state (head.Host layer side) p = in_mode state (mode.Host p)
after_value state (head.Net layer side) (primitive.Address layer' side' network) =
    in_mode state (mode.Net layer' side' network)
after_value state q p = finish_value state p

-- The word is a value of these qualifiers, after which the parser is in this state.
abbrev pub ReadsValue : State → Option Head → List ℕ → State → Type 0
ReadsValue state None text next = ⊥
ReadsValue state (Some q) text next =
    (p : Primitive) × IsWordValue q text p × (next ≡ after_value (qualified state q) q p)

-- The word is a prefix length or a mask that leaves no bit of the address set.
abbrev pub ReadsPrefix : (IpAddr → List ℕ → ℕ → Type 0) → State → AddressLayer → Side → IpAddr → List ℕ → State → Type 0
ReadsPrefix IsPrefix state layer side address text next =
    (bits : ℕ) × IsPrefix address text bits × (has_no_host_bits (record { address = address; bits = bits }) ≡ true)
    × (next ≡ finish_value state (primitive.Address layer side (record { address = address; bits = bits })))

-- The word is a constant, after which the mode is this.
abbrev pub ReadsConstant : State → (ℕ → Mode) → List ℕ → State → Type 0
ReadsConstant state mode_with text next = (number : ℕ) × IsConstant text number × (next ≡ in_mode state (mode_with number))

-- The word is read in this mode.
abbrev pub ReadsWord : State → Mode → List ℕ → State → Type 0
ReadsWord state (mode.Operand only) text next = ReadsValue state state.head text next
ReadsWord state (mode.Side sided side) text next = ReadsValue state (side_head sided side) text next
ReadsWord state (mode.Length layer side address) text next = ReadsPrefix IsLength state layer side address text next
ReadsWord state (mode.Mask layer side address) text next = ReadsPrefix IsMask state layer side address text next
ReadsWord state mode.Vlan text next =
    (id : ℕ) × IsNumberText 4095 text id × (next ≡ finish_bare state (primitive.Vlan (Some id)))
ReadsWord state (mode.PacketLength by) text next =
    (number : ℕ) × IsNumberText most_number text number × (next ≡ finish_bare state (length_test by number))
ReadsWord state (mode.Offset layer) text next = ReadsConstant state (λ number. mode.OffsetEnd layer number) text next
ReadsWord state (mode.Size layer offset) text next =
    (width : Width) × IsSizeText text width × (next ≡ in_mode state (mode.SizeEnd layer offset width))
ReadsWord state (mode.Group comparison) text next =
    ReadsConstant state (λ number. group_mode comparison comparison.relation number) text next
ReadsWord state (mode.GroupItem comparison bits) text next =
    ReadsConstant state (λ number. mode.GroupEnd comparison (union bits number)) text next
ReadsWord state other text next = ⊥

-- The kind of a word where a value is expected.
abbrev pub StopsValue : Option Head → List ℕ → FilterErrorKind → Type 0
StopsValue None text found = IsOperandKind None text found
StopsValue (Some q) text found = ((p : Primitive) → ¬ IsWordValue q text p) × IsOperandKind (Some q) text found

abbrev pub StopsSide : Option Head → List ℕ → FilterErrorKind → Type 0
StopsSide None text found = found ≡ kind.Misplaced
StopsSide (Some q) text found = StopsValue (Some q) text found

-- The kind of a word where a prefix length or a mask is expected.
abbrev pub StopsPrefix : (IpAddr → List ℕ → ℕ → Type 0) → FilterErrorKind → IpAddr → List ℕ → FilterErrorKind → Type 0
StopsPrefix IsPrefix otherwise address text found =
    ((bits : ℕ) × IsPrefix address text bits
    × (has_no_host_bits (record { address = address; bits = bits }) ≡ false) × (found ≡ kind.HostBits))
    ⊎ (((bits : ℕ) → ¬ IsPrefix address text bits) × (found ≡ otherwise))

abbrev pub StopsConstant : List ℕ → FilterErrorKind → Type 0
StopsConstant text found = ((number : ℕ) → ¬ IsConstant text number) × (found ≡ kind.NotANumber)

-- A word has this kind of error in this mode.
abbrev pub StopsWord : State → Mode → List ℕ → FilterErrorKind → Type 0
StopsWord state (mode.Operand only) text found = StopsValue state.head text found
StopsWord state (mode.Side sided side) text found = StopsSide (side_head sided side) text found
StopsWord state (mode.Length layer side address) text found = StopsPrefix IsLength kind.NotALength address text found
StopsWord state (mode.Mask layer side address) text found = StopsPrefix IsMask kind.NotAMask address text found
StopsWord state mode.Vlan text found =
    (IsTrue (list_any is_digit (take 1 text)) × ((id : ℕ) → ¬ IsNumberText 4095 text id) × (found ≡ kind.NotAVlan))
    ⊎ ((¬ IsTrue (list_any is_digit (take 1 text))) × (found ≡ kind.Misplaced))
StopsWord state (mode.PacketLength by) text found =
    ((number : ℕ) → ¬ IsNumberText most_number text number) × (found ≡ kind.NotANumber)
StopsWord state (mode.Offset layer) text found = StopsConstant text found
StopsWord state (mode.Size layer offset) text found =
    ((width : Width) → ¬ IsSizeText text width) × (found ≡ kind.NotASize)
StopsWord state (mode.Group comparison) text found = StopsConstant text found
StopsWord state (mode.GroupItem comparison bits) text found = StopsConstant text found
StopsWord state other text found = found ≡ kind.Misplaced

-- ---- tokens

-- A token leads from one state to another, with at most `most` levels open.
abbrev pub Reads : (most : ℕ) → State → Token → State → Type 0
Reads most state (word text) next = ReadsWord state state.mode text next
Reads most state (wrong own) next = ⊥
Reads most state token next = read_in most state state.mode token ≡ Ok next

-- A token is not allowed in a state, and has this kind of error.
abbrev pub Stops : (most : ℕ) → State → Token → FilterErrorKind → Type 0
Stops most state (word text) found = StopsWord state state.mode text found
Stops most state (wrong own) found = found ≡ own
Stops most state token found = read_in most state state.mode token ≡ Err found

-- Tokens lead from one state to another.
pub data Runs (most : ℕ) : State → List Token → State → Type 0 where
  no_tokens : (state : State) → Runs most state [] state
  more_tokens : (state between next : State) (token : Token) (tokens : List Token) → Reads most state token between
      → Runs most between tokens next → Runs most state (token ∷ tokens) next

-- An operand is awaited with these qualifiers in force; only values, if the last index is true.
abbrev pub IsAwaiting : State → Option Head → Bool → Type 0
IsAwaiting state q only =
    ((state.mode ≡ mode.Operand only) × (state.head ≡ q))
    ⊎ ((sided : Sided) × (side : Side) × (h : Head) × (state.mode ≡ mode.Side sided side)
    × (side_head sided side ≡ Some h) × (q ≡ Some h) × (only ≡ true))
