-- The grammar of filter expressions: which tokens are which expression. `levels` is the number of `(` and `not` that can
-- still be opened, and a qualifier in force is that of the last value, which a value without qualifiers has too.
use Rattle.std.specs.Prelude.{◌≡◌, ℕ, suc, ◌≤◌, true, bit_or, List, [], ◌∷◌, ◌++◌, replicate, Option, Some, None}
use Rattle.std.specs.Net.Grammar.{IsIpText}
use Rattle.std.specs.declared.net.ip_addr.IpAddr.TheVariants.{V4, V6}
use Rattle.ep_base.specs.EtherTypes.{ipv4_type, ipv6_type, arp_type}
use Rattle.filter_tokens.specs.declared.keyword.Keyword.TheVariants as name
use Rattle.filter_tokens.specs.declared.network.Network.{Network}
use Rattle.filter_tokens.specs.declared.primitive.AddressLayer.{AddressLayer}
use Rattle.filter_tokens.specs.declared.primitive.AddressLayer.TheVariants as of
use Rattle.filter_tokens.specs.declared.primitive.FieldLayer.{FieldLayer}
use Rattle.filter_tokens.specs.declared.primitive.FieldLayer.TheVariants as field
use Rattle.filter_tokens.specs.declared.primitive.IpVersion.{IpVersion}
use Rattle.filter_tokens.specs.declared.primitive.IpVersion.TheVariants as version
use Rattle.filter_tokens.specs.declared.primitive.Operand.{Operand}
use Rattle.filter_tokens.specs.declared.primitive.Operand.TheVariants.{Length, Bytes}
use Rattle.filter_tokens.specs.declared.primitive.PortProtocol.{PortProtocol}
use Rattle.filter_tokens.specs.declared.primitive.PortProtocol.TheVariants as protocol
use Rattle.filter_tokens.specs.declared.primitive.Primitive.{Primitive}
use Rattle.filter_tokens.specs.declared.primitive.Primitive.TheVariants as primitive
use Rattle.filter_tokens.specs.declared.primitive.Relation.{Relation}
use Rattle.filter_tokens.specs.declared.primitive.Relation.TheVariants as is
use Rattle.filter_tokens.specs.declared.primitive.Side.{Side}
use Rattle.filter_tokens.specs.declared.primitive.Side.TheVariants.{Source, Destination, Either, Both}
use Rattle.filter_tokens.specs.declared.primitive.Width.{Width}
use Rattle.filter_tokens.specs.declared.primitive.Width.TheVariants.{One}
use Rattle.filter_tokens.specs.Networks.{address_width, has_no_host_bits}
use Rattle.filter_tokens.specs.Tokens.{Token, keyword, word, and, or, not, relation, left_parenthesis, right_parenthesis, left_bracket, right_bracket, colon, slash, ampersand, bar}
use Rattle.filter_tokens.specs.Values.{IsConstant, IsFamily, IsLength, IsMask, IsNetworkText, IsNumberText, IsPortText, IsRangeText, IsSizeText, IsStation, most_number}
use Rattle.filter_language.specs.declared.head.Head.{Head}
use Rattle.filter_language.specs.declared.head.Head.TheVariants as head
use Rattle.filter_language.specs.Primitives.{ethernet_broadcast, ethernet_multicast, length_test, number_test, protocol_test, type_test}
use Rattle.filter_language.specs.Trees.{Expr, test, negated, both, either}

-- ---- heads: the qualifiers before a value

abbrev pub src : Token
src = keyword name.Src

abbrev pub dst : Token
dst = keyword name.Dst

-- A side that is written.
pub data IsSide : List Token → Side → Type 0 where
  source : IsSide (src ∷ []) Source
  destination : IsSide (dst ∷ []) Destination
  source_or : IsSide (src ∷ or ∷ dst ∷ []) Either
  destination_or : IsSide (dst ∷ or ∷ src ∷ []) Either
  source_and : IsSide (src ∷ and ∷ dst ∷ []) Both
  destination_and : IsSide (dst ∷ and ∷ src ∷ []) Both

-- A side, written or not.
pub data IsSideIfAny : List Token → Side → Type 0 where
  no_side : IsSideIfAny [] Either
  written_side : (tokens : List Token) (side : Side) → IsSide tokens side → IsSideIfAny tokens side

-- A network layer whose addresses are meant, written or not.
pub data IsAddressLayer : List Token → AddressLayer → Type 0 where
  any_layer : IsAddressLayer [] of.Any
  address_of_ip : IsAddressLayer (keyword name.Ip ∷ []) of.Ipv4
  address_of_ip6 : IsAddressLayer (keyword name.Ip6 ∷ []) of.Ipv6
  address_of_arp : IsAddressLayer (keyword name.Arp ∷ []) of.Arp

-- A transport protocol whose ports are meant, written or not.
pub data IsPortProtocol : List Token → PortProtocol → Type 0 where
  any_protocol : IsPortProtocol [] protocol.Any
  port_of_tcp : IsPortProtocol (keyword name.Tcp ∷ []) protocol.Tcp
  port_of_udp : IsPortProtocol (keyword name.Udp ∷ []) protocol.Udp
  port_of_sctp : IsPortProtocol (keyword name.Sctp ∷ []) protocol.Sctp

-- An IP version, written or not.
pub data IsIpVersion : List Token → IpVersion → Type 0 where
  any_version : IsIpVersion [] version.Any
  version_v4 : IsIpVersion (keyword name.Ip ∷ []) version.V4
  version_v6 : IsIpVersion (keyword name.Ip6 ∷ []) version.V6

-- Qualifiers. After a side, `host` can be left out.
pub data IsHead : List Token → Head → Type 0 where
  head_host : (layers sides : List Token) (layer : AddressLayer) (side : Side) → IsAddressLayer layers layer
      → IsSideIfAny sides side → IsHead (layers ++ sides ++ keyword name.Host ∷ []) (head.Host layer side)
  head_host_left_out : (layers sides : List Token) (layer : AddressLayer) (side : Side) → IsAddressLayer layers layer
      → IsSide sides side → IsHead (layers ++ sides) (head.Host layer side)
  head_net : (layers sides : List Token) (layer : AddressLayer) (side : Side) → IsAddressLayer layers layer
      → IsSideIfAny sides side → IsHead (layers ++ sides ++ keyword name.Net ∷ []) (head.Net layer side)
  head_station : (sides : List Token) (side : Side) → IsSideIfAny sides side
      → IsHead (keyword name.Ether ∷ sides ++ keyword name.Host ∷ []) (head.Station side)
  head_station_left_out : (sides : List Token) (side : Side) → IsSide sides side
      → IsHead (keyword name.Ether ∷ sides) (head.Station side)
  head_port : (protocols sides : List Token) (ports : PortProtocol) (side : Side) → IsPortProtocol protocols ports
      → IsSideIfAny sides side → IsHead (protocols ++ sides ++ keyword name.Port ∷ []) (head.Port ports side)
  head_port_range : (protocols sides : List Token) (ports : PortProtocol) (side : Side) → IsPortProtocol protocols ports
      → IsSideIfAny sides side → IsHead (protocols ++ sides ++ keyword name.PortRange ∷ []) (head.PortRange ports side)
  head_proto : (versions : List Token) (ip : IpVersion) → IsIpVersion versions ip
      → IsHead (versions ++ keyword name.Proto ∷ []) (head.Protocol ip)
  head_ether_proto : IsHead (keyword name.Ether ∷ keyword name.Proto ∷ []) head.EtherType

-- ---- values

-- A value that is one word.
abbrev pub IsWordValue : Head → List ℕ → Primitive → Type 0
IsWordValue (head.Host layer side) text (primitive.Address layer' side' network) =
    IsIpText text network.address × (network.bits ≡ address_width network.address) × IsFamily layer network.address
    × (layer' ≡ layer) × (side' ≡ side)
IsWordValue (head.Net layer side) text (primitive.Address layer' side' network) =
    IsNetworkText text network × IsFamily layer network.address × (layer' ≡ layer) × (side' ≡ side)
IsWordValue (head.Station side) text (primitive.Station side' octets) = IsStation text octets × (side' ≡ side)
IsWordValue (head.Port ports side) text (primitive.Port ports' side' low high) =
    IsPortText text low × (high ≡ low) × (ports' ≡ ports) × (side' ≡ side)
IsWordValue (head.PortRange ports side) text (primitive.Port ports' side' low high) =
    IsRangeText text low high × (ports' ≡ ports) × (side' ≡ side)
IsWordValue (head.Protocol ip) text (primitive.Protocol ip' number) = IsNumberText 255 text number.0 × (ip' ≡ ip)
IsWordValue head.EtherType text (primitive.EtherType type) = IsNumberText 65535 text type.0 × (1536 ≤ type.0)
IsWordValue q text p = ⊥

-- A value: one word, or a network with a prefix length or a mask, which leaves no bit of the address set.
pub data IsValue : Head → List Token → Primitive → Type 0 where
  one_word : (q : Head) (text : List ℕ) (p : Primitive) → IsWordValue q text p → IsValue q (word text ∷ []) p
  with_length : (layer : AddressLayer) (side : Side) (text bits_text : List ℕ) (network : Network) (bits : ℕ)
      → IsNetworkText text network → IsFamily layer network.address → IsLength network.address bits_text bits
      → has_no_host_bits (record { address = network.address; bits = bits }) ≡ true
      → IsValue (head.Net layer side) (word text ∷ slash ∷ word bits_text ∷ [])
      (primitive.Address layer side (record { address = network.address; bits = bits }))
  with_mask : (layer : AddressLayer) (side : Side) (text mask : List ℕ) (network : Network) (bits : ℕ)
      → IsNetworkText text network → IsFamily layer network.address → IsMask network.address mask bits
      → has_no_host_bits (record { address = network.address; bits = bits }) ≡ true
      → IsValue (head.Net layer side) (word text ∷ keyword name.Mask ∷ word mask ∷ [])
      (primitive.Address layer side (record { address = network.address; bits = bits }))

-- `and` or `or`, with what it does to two expressions.
pub data IsOperator : Token → (Expr → Expr → Expr) → Type 0 where
  conjunction : IsOperator and both
  disjunction : IsOperator or either

-- Values of a head: one; `not` and values; or in parentheses values with operators between, joined from the left.
mutual
  pub data IsValues : (levels : ℕ) → Head → List Token → Expr → Type 0 where
    value : (levels : ℕ) (q : Head) (tokens : List Token) (p : Primitive) → IsValue q tokens p
        → IsValues levels q tokens (test p)
    not_values : (levels : ℕ) (q : Head) (tokens : List Token) (e : Expr) → IsValues levels q tokens e
        → IsValues (suc levels) q (not ∷ tokens) (negated e)
    values_in_parentheses : (levels : ℕ) (q : Head) (tokens : List Token) (e : Expr) → IsJoinedValues levels q tokens e
        → IsValues (suc levels) q (left_parenthesis ∷ tokens ++ right_parenthesis ∷ []) e

  pub data IsJoinedValues : (levels : ℕ) → Head → List Token → Expr → Type 0 where
    first_values : (levels : ℕ) (q : Head) (tokens : List Token) (e : Expr) → IsValues levels q tokens e
        → IsJoinedValues levels q tokens e
    more_values : (levels : ℕ) (q : Head) (left right : List Token) (operator : Token) (join : Expr → Expr → Expr)
        (e f : Expr) → IsJoinedValues levels q left e → IsOperator operator join → IsValues levels q right f
        → IsJoinedValues levels q (left ++ operator ∷ right) (join e f)

-- ---- byte tests

-- A layer whose bytes are read.
pub data IsField : Token → FieldLayer → Type 0 where
  field_ether : IsField (keyword name.Ether) field.Ethernet
  field_arp : IsField (keyword name.Arp) field.Arp
  field_ip : IsField (keyword name.Ip) field.Ipv4
  field_ip6 : IsField (keyword name.Ip6) field.Ipv6
  field_tcp : IsField (keyword name.Tcp) field.Tcp
  field_udp : IsField (keyword name.Udp) field.Udp
  field_sctp : IsField (keyword name.Sctp) field.Sctp
  field_icmp : IsField (keyword name.Icmp) field.Icmpv4
  field_icmp6 : IsField (keyword name.Icmp6) field.Icmpv6

-- Constants with `|` between: the number with the bits of all of them.
pub data IsUnion : List Token → ℕ → Type 0 where
  one_constant : (text : List ℕ) (number : ℕ) → IsConstant text number → IsUnion (word text ∷ []) number
  more_constants : (tokens : List Token) (text : List ℕ) (number other : ℕ) → IsUnion tokens number
      → IsConstant text other → IsUnion (tokens ++ bar ∷ word text ∷ []) (bit_or number other)

-- A constant, or constants with `|` between in parentheses.
pub data IsGroup : List Token → ℕ → Type 0 where
  constant : (text : List ℕ) (number : ℕ) → IsConstant text number → IsGroup (word text ∷ []) number
  in_parentheses : (tokens : List Token) (number : ℕ) → IsUnion tokens number
      → IsGroup (left_parenthesis ∷ tokens ++ right_parenthesis ∷ []) number

-- The right side of a comparison: groups with `|` between.
pub data IsRight : List Token → ℕ → Type 0 where
  one_group : (tokens : List Token) (number : ℕ) → IsGroup tokens number → IsRight tokens number
  more_groups : (tokens group : List Token) (number other : ℕ) → IsRight tokens number → IsGroup group other
      → IsRight (tokens ++ bar ∷ group) (bit_or number other)

-- The operand of a byte test: the length, or one, two or four bytes of a layer.
pub data IsAccess : List Token → Operand → Type 0 where
  len : IsAccess (keyword name.Len ∷ []) Length
  one_byte : (layer : Token) (read : FieldLayer) (text : List ℕ) (offset : ℕ) → IsField layer read
      → IsConstant text offset → IsAccess (layer ∷ left_bracket ∷ word text ∷ right_bracket ∷ []) (Bytes read offset One)
  with_size : (layer : Token) (read : FieldLayer) (text size : List ℕ) (offset : ℕ) (width : Width)
      → IsField layer read → IsConstant text offset → IsSizeText size width
      → IsAccess (layer ∷ left_bracket ∷ word text ∷ colon ∷ word size ∷ right_bracket ∷ []) (Bytes read offset width)

-- The left side of a byte test: an operand, with a mask once at most, in any parentheses.
pub data IsLeft : (levels : ℕ) → List Token → Operand → Option ℕ → Type 0 where
  access : (levels : ℕ) (tokens : List Token) (operand : Operand) → IsAccess tokens operand
      → IsLeft levels tokens operand None
  masked : (levels : ℕ) (tokens group : List Token) (operand : Operand) (mask : ℕ) → IsLeft levels tokens operand None
      → IsGroup group mask → IsLeft levels (tokens ++ ampersand ∷ group) operand (Some mask)
  left_in_parentheses : (levels : ℕ) (tokens : List Token) (operand : Operand) (mask : Option ℕ)
      → IsLeft levels tokens operand mask
      → IsLeft (suc levels) (left_parenthesis ∷ tokens ++ right_parenthesis ∷ []) operand mask

-- ---- primitives without values

pub data IsBare : (levels : ℕ) → List Token → Primitive → Type 0 where
  bare_ip : (levels : ℕ) → IsBare levels (keyword name.Ip ∷ []) (type_test ipv4_type)
  bare_ip6 : (levels : ℕ) → IsBare levels (keyword name.Ip6 ∷ []) (type_test ipv6_type)
  bare_arp : (levels : ℕ) → IsBare levels (keyword name.Arp ∷ []) (type_test arp_type)
  bare_tcp : (levels : ℕ) → IsBare levels (keyword name.Tcp ∷ []) (protocol_test version.Any 6)
  bare_udp : (levels : ℕ) → IsBare levels (keyword name.Udp ∷ []) (protocol_test version.Any 17)
  bare_sctp : (levels : ℕ) → IsBare levels (keyword name.Sctp ∷ []) (protocol_test version.Any 132)
  bare_icmp : (levels : ℕ) → IsBare levels (keyword name.Icmp ∷ []) (protocol_test version.V4 1)
  bare_icmp6 : (levels : ℕ) → IsBare levels (keyword name.Icmp6 ∷ []) (protocol_test version.V6 58)
  bare_igmp : (levels : ℕ) → IsBare levels (keyword name.Igmp ∷ []) (protocol_test version.V4 2)
  bare_ah : (levels : ℕ) → IsBare levels (keyword name.Ah ∷ []) (protocol_test version.Any 51)
  bare_esp : (levels : ℕ) → IsBare levels (keyword name.Esp ∷ []) (protocol_test version.Any 50)
  bare_broadcast : (levels : ℕ) → IsBare levels (keyword name.Broadcast ∷ []) ethernet_broadcast
  bare_ether_broadcast : (levels : ℕ) → IsBare levels (keyword name.Ether ∷ keyword name.Broadcast ∷ []) ethernet_broadcast
  bare_multicast : (levels : ℕ) → IsBare levels (keyword name.Multicast ∷ []) ethernet_multicast
  bare_ether_multicast : (levels : ℕ) → IsBare levels (keyword name.Ether ∷ keyword name.Multicast ∷ []) ethernet_multicast
  bare_ip_multicast : (levels : ℕ) (network : Network)
      → network.address ≡ V4 (record { octets = 224 ∷ 0 ∷ 0 ∷ 0 ∷ [] }) → network.bits ≡ 3
      → IsBare levels (keyword name.Ip ∷ keyword name.Multicast ∷ [])
      (primitive.Address of.Ipv4 Destination network)
  bare_ip6_multicast : (levels : ℕ) (network : Network)
      → network.address ≡ V6 (record { segments = 65280 ∷ replicate 7 0 }) → network.bits ≡ 8
      → IsBare levels (keyword name.Ip6 ∷ keyword name.Multicast ∷ [])
      (primitive.Address of.Ipv6 Destination network)
  bare_vlan : (levels : ℕ) → IsBare levels (keyword name.Vlan ∷ []) (primitive.Vlan None)
  bare_vlan_with : (levels : ℕ) (text : List ℕ) (id : ℕ) → IsNumberText 4095 text id
      → IsBare levels (keyword name.Vlan ∷ word text ∷ []) (primitive.Vlan (Some id))
  bare_less : (levels : ℕ) (text : List ℕ) (number : ℕ) → IsNumberText most_number text number
      → IsBare levels (keyword name.Less ∷ word text ∷ []) (length_test is.LessOrEqual number)
  bare_greater : (levels : ℕ) (text : List ℕ) (number : ℕ) → IsNumberText most_number text number
      → IsBare levels (keyword name.Greater ∷ word text ∷ []) (length_test is.GreaterOrEqual number)
  bare_comparison : (levels : ℕ) (left right : List Token) (operand : Operand) (mask : Option ℕ) (by : Relation) (number : ℕ)
      → IsLeft levels left operand mask → IsRight right number
      → IsBare levels (left ++ relation by ∷ right) (number_test operand mask by number)

-- ---- expressions

-- An operand and an expression, with the qualifiers in force before and after them. A primitive without values leaves
-- none; a parenthesis leaves those before it. Operators have equal precedence, from the left.
mutual
  pub data IsOperand : (levels : ℕ) → Option Head → List Token → Expr → Option Head → Type 0 where
    negation : (levels : ℕ) (q after : Option Head) (tokens : List Token) (e : Expr) → IsOperand levels q tokens e after
        → IsOperand (suc levels) q (not ∷ tokens) (negated e) after
    parentheses : (levels : ℕ) (q after : Option Head) (tokens : List Token) (e : Expr)
        → IsExpression levels q tokens e after
        → IsOperand (suc levels) q (left_parenthesis ∷ tokens ++ right_parenthesis ∷ []) e q
    bare : (levels : ℕ) (q : Option Head) (tokens : List Token) (p : Primitive) → IsBare levels tokens p
        → IsOperand levels q tokens (test p) None
    qualified : (levels : ℕ) (q : Option Head) (heads values : List Token) (h : Head) (e : Expr) → IsHead heads h
        → IsValues levels h values e → IsOperand levels q (heads ++ values) e (Some h)
    in_force : (levels : ℕ) (h : Head) (tokens : List Token) (p : Primitive) → IsValue h tokens p
        → IsOperand levels (Some h) tokens (test p) (Some h)

  pub data IsExpression : (levels : ℕ) → Option Head → List Token → Expr → Option Head → Type 0 where
    first_operand : (levels : ℕ) (q after : Option Head) (tokens : List Token) (e : Expr)
        → IsOperand levels q tokens e after → IsExpression levels q tokens e after
    more_operands : (levels : ℕ) (q between after : Option Head) (left right : List Token) (operator : Token)
        (join : Expr → Expr → Expr) (e f : Expr) → IsExpression levels q left e between → IsOperator operator join
        → IsOperand levels between right f after
        → IsExpression levels q (left ++ operator ∷ right) (join e f) after

-- The tokens of a whole text: none, or an expression.
pub data IsFilter : (levels : ℕ) → List Token → Option Expr → Type 0 where
  empty : (levels : ℕ) → IsFilter levels [] None
  expression : (levels : ℕ) (tokens : List Token) (e : Expr) (after : Option Head)
      → IsExpression levels None tokens e after → IsFilter levels tokens (Some e)

-- The number of `(` and `not` that can be open at a time, and of bytes that a text can have.
abbrev pub most_levels : ℕ
most_levels = 64

abbrev pub most_bytes : ℕ
most_bytes = 65536
