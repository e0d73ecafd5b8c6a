-- The tokens of a filter as it is printed, and what the grammar says of it: that it fits.
use Rattle.std.proofs.Common.{ℕ, suc, ◌+◌, ◌/◌, ◌%◌, ◌≤◌, ◌==◌, max, cond, List, [], ◌∷◌, ◌++◌, Option, Some, None, codes, decimal, arith}
use Rattle.std.specs.Net.Text.{ip_text}
use Rattle.filter_tokens.specs.declared.keyword.Keyword.TheVariants as name
use Rattle.filter_tokens.specs.declared.network.Network.{Network}
use Rattle.filter_tokens.specs.declared.primitive.AddressLayer.{AddressLayer}
use Rattle.filter_tokens.specs.declared.primitive.AddressLayer.TheVariants as of
use Rattle.filter_tokens.specs.declared.primitive.FieldLayer.{FieldLayer}
use Rattle.filter_tokens.specs.declared.primitive.FieldLayer.TheVariants as field
use Rattle.filter_tokens.specs.declared.primitive.IpVersion.{IpVersion}
use Rattle.filter_tokens.specs.declared.primitive.IpVersion.TheVariants as version
use Rattle.filter_tokens.specs.declared.primitive.Operand.{Operand}
use Rattle.filter_tokens.specs.declared.primitive.Operand.TheVariants.{Length, Bytes}
use Rattle.filter_tokens.specs.declared.primitive.PortProtocol.{PortProtocol}
use Rattle.filter_tokens.specs.declared.primitive.PortProtocol.TheVariants as protocol
use Rattle.filter_tokens.specs.declared.primitive.Primitive.{Primitive}
use Rattle.filter_tokens.specs.declared.primitive.Primitive.TheVariants as primitive
use Rattle.filter_tokens.specs.declared.primitive.Side.{Side}
use Rattle.filter_tokens.specs.declared.primitive.Side.TheVariants.{Source, Destination, Either, Both}
use Rattle.filter_tokens.specs.declared.primitive.Width.{Width}
use Rattle.filter_tokens.specs.declared.primitive.Width.TheVariants.{One, Two, Four}
use Rattle.filter_tokens.specs.Networks.{address_width}
use Rattle.filter_tokens.specs.Tokens
use Rattle.filter_tokens.specs.Tokens.{Token, keyword, word, and, or, relation, left_parenthesis, right_parenthesis, left_bracket, right_bracket, colon, slash, ampersand}
use Rattle.filter_tokens.specs.Values.{most_number}
use Rattle.filter_language.specs.declared.head.Head.{Head}
use Rattle.filter_language.specs.Grammar
use Rattle.filter_language.specs.Grammar.{IsExpression, IsJoinedValues, IsOperand, IsOperator, IsValues, dst, src}
use Rattle.filter_tokens.specs.PrimitiveTexts.{hex_pair, station_text}
use Rattle.filter_language.specs.Trees.{Expr, test, negated, both, either}
use Rattle.packet_filter.proofs.FitLemmas.{Fits, bare_fits, value_fits}

-- ---- the tokens that are printed

abbrev pub version_tokens : IpVersion → List Token
version_tokens version.Any = []
version_tokens version.V4 = keyword name.Ip ∷ []
version_tokens version.V6 = keyword name.Ip6 ∷ []

abbrev pub layer_tokens : AddressLayer → List Token
layer_tokens of.Any = []
layer_tokens of.Ipv4 = keyword name.Ip ∷ []
layer_tokens of.Ipv6 = keyword name.Ip6 ∷ []
layer_tokens of.Arp = keyword name.Arp ∷ []

abbrev pub side_tokens : Side → List Token
side_tokens Source = src ∷ []
side_tokens Destination = dst ∷ []
side_tokens Either = src ∷ or ∷ dst ∷ []
side_tokens Both = src ∷ and ∷ dst ∷ []

abbrev pub ports_tokens : PortProtocol → List Token
ports_tokens protocol.Any = []
ports_tokens protocol.Tcp = keyword name.Tcp ∷ []
ports_tokens protocol.Udp = keyword name.Udp ∷ []
ports_tokens protocol.Sctp = keyword name.Sctp ∷ []

abbrev pub field_token : FieldLayer → Token
field_token field.Ethernet = keyword name.Ether
field_token field.Arp = keyword name.Arp
field_token field.Ipv4 = keyword name.Ip
field_token field.Ipv6 = keyword name.Ip6
field_token field.Tcp = keyword name.Tcp
field_token field.Udp = keyword name.Udp
field_token field.Sctp = keyword name.Sctp
field_token field.Icmpv4 = keyword name.Icmp
field_token field.Icmpv6 = keyword name.Icmp6

abbrev pub width_word : Width → List ℕ
width_word One = codes "1"
width_word Two = codes "2"
width_word Four = codes "4"

abbrev pub operand_tokens : Operand → List Token
operand_tokens Length = keyword name.Len ∷ []
operand_tokens (Bytes layer offset width) =
    field_token layer ∷ left_bracket ∷ word (decimal offset) ∷ colon ∷ word (width_word width) ∷ right_bracket ∷ []

-- The tokens of a network, after its qualifiers.
abbrev pub network_tokens : Network → List Token
network_tokens network =
    cond (network.bits == address_width network.address)
    (keyword name.Host ∷ word (ip_text network.address) ∷ [])
    (keyword name.Net ∷ word (ip_text network.address) ∷ slash ∷ word (decimal network.bits) ∷ [])

abbrev pub range_tokens : ℕ → ℕ → List Token
range_tokens low high =
    cond (low == high) (keyword name.Port ∷ word (decimal low) ∷ [])
    (keyword name.PortRange ∷ word (decimal low ++ codes "-" ++ decimal high) ∷ [])

abbrev pub mask_tokens : ℕ → List Token
mask_tokens mask = cond (mask == most_number) [] (ampersand ∷ word (decimal mask) ∷ [])

abbrev pub type_word : ℕ → List ℕ
type_word type = codes "0x" ++ (hex_pair (type / 256) ++ hex_pair (type % 256))

abbrev pub primitive_tokens : Primitive → List Token
primitive_tokens (primitive.EtherType type) = keyword name.Ether ∷ keyword name.Proto ∷ word (type_word type.0) ∷ []
primitive_tokens (primitive.Protocol ip number) =
    version_tokens ip ++ keyword name.Proto ∷ word (decimal number.0) ∷ []
primitive_tokens (primitive.Address layer side network) =
    layer_tokens layer ++ (side_tokens side ++ network_tokens network)
primitive_tokens (primitive.Station side station) =
    keyword name.Ether ∷ (side_tokens side ++ keyword name.Host ∷ word (station_text station) ∷ [])
primitive_tokens (primitive.Port ports side low high) =
    ports_tokens ports ++ (side_tokens side ++ range_tokens low high)
primitive_tokens (primitive.Vlan None) = keyword name.Vlan ∷ []
primitive_tokens (primitive.Vlan (Some id)) = keyword name.Vlan ∷ word (decimal id) ∷ []
primitive_tokens (primitive.Number operand mask by number) =
    operand_tokens operand ++ (mask_tokens mask ++ relation by ∷ word (decimal number) ∷ [])

-- Tokens, in parentheses if they are those of `and` or `or`.
abbrev pub grouped_tokens : Expr → List Token → List Token
grouped_tokens (test p) tokens = tokens
grouped_tokens (negated e) tokens = tokens
grouped_tokens (both e f) tokens = left_parenthesis ∷ tokens ++ right_parenthesis ∷ []
grouped_tokens (either e f) tokens = left_parenthesis ∷ tokens ++ right_parenthesis ∷ []

abbrev pub printed_tokens : Expr → List Token
printed_tokens (test p) = primitive_tokens p
printed_tokens (negated e) = Tokens.not ∷ grouped_tokens e (printed_tokens e)
printed_tokens (both e f) = printed_tokens e ++ and ∷ grouped_tokens f (printed_tokens f)
printed_tokens (either e f) = printed_tokens e ++ or ∷ grouped_tokens f (printed_tokens f)

-- ---- what fits

abbrev pub FitsAll : Expr → Type 0
FitsAll (test p) = Fits p
FitsAll (negated e) = FitsAll e
FitsAll (both e f) = FitsAll e × FitsAll f
FitsAll (either e f) = FitsAll e × FitsAll f

-- ---- levels

-- Whether an expression is `and` or `or` of two others.
abbrev pub group_level : Expr → ℕ
group_level (test p) = 0
group_level (negated e) = 0
group_level (both e f) = 1
group_level (either e f) = 1

-- The number of `not` and `(` that are open at a time in the printed form.
abbrev pub levels_of : Expr → ℕ
levels_of (test p) = 0
levels_of (negated e) = suc (group_level e + levels_of e)
levels_of (both e f) = max (levels_of e) (group_level f + levels_of f)
levels_of (either e f) = max (levels_of e) (group_level f + levels_of f)

-- ---- from the grammar

-- An operand or expression of the grammar fits, and needs no more levels.
abbrev pub IsPrintable : (levels : ℕ) → Expr → Type 0
IsPrintable levels e = FitsAll e × (levels_of e ≤ levels)

abbrev pub IsPrintableOperand : (levels : ℕ) → Expr → Type 0
IsPrintableOperand levels e = FitsAll e × (group_level e + levels_of e ≤ levels)

group_level-le : (e : Expr) → group_level e ≤ 1
group_level-le (test p) = omega arith
group_level-le (negated e) = omega arith
group_level-le (both e f) = omega arith
group_level-le (either e f) = omega arith

-- An expression in parentheses.
in_parentheses : (levels : ℕ) (e : Expr) → IsPrintable levels e → IsPrintableOperand (suc levels) e
in_parentheses levels e (fits, few) = (fits, omega (arith, few, group_level-le e))

operand_alone : (levels : ℕ) (e : Expr) → IsPrintableOperand levels e → IsPrintable levels e
operand_alone levels e (fits, few) = (fits, omega (arith, few))

joined_printable : (levels : ℕ) (operator : Token) (join : Expr → Expr → Expr) (e f : Expr)
    → IsOperator operator join → IsPrintable levels e → IsPrintableOperand levels f → IsPrintable levels (join e f)
joined_printable levels operator join e f Grammar.conjunction (fits, few) (right_fits, right_few) =
    ((fits, right_fits), omega (arith, few, right_few))
joined_printable levels operator join e f Grammar.disjunction (fits, few) (right_fits, right_few) =
    ((fits, right_fits), omega (arith, few, right_few))

negated_printable : (levels : ℕ) (e : Expr) → IsPrintableOperand levels e → IsPrintableOperand (suc levels) (negated e)
negated_printable levels e (fits, few) = (fits, omega (arith, few))

mutual
  values_printable : (levels : ℕ) (q : Head) (tokens : List Token) (e : Expr) → IsValues levels q tokens e
      → IsPrintableOperand levels e
  values_printable levels q tokens e (Grammar.value n q' inside p is) = (value_fits q' inside p is, omega arith)
  values_printable levels q tokens e (Grammar.not_values n q' inside e' is) =
      negated_printable n e' (values_printable n q' inside e' is)
  values_printable levels q tokens e (Grammar.values_in_parentheses n q' inside e' is) =
      in_parentheses n e' (joined_values_printable n q' inside e' is)

  joined_values_printable : (levels : ℕ) (q : Head) (tokens : List Token) (e : Expr) → IsJoinedValues levels q tokens e
      → IsPrintable levels e
  joined_values_printable levels q tokens e (Grammar.first_values n q' inside e' is) =
      operand_alone n e' (values_printable n q' inside e' is)
  joined_values_printable levels q tokens e (Grammar.more_values n q' left right operator join e' f is joins more) =
      joined_printable n operator join e' f joins (joined_values_printable n q' left e' is)
      (values_printable n q' right f more)

mutual
  operand_printable : (levels : ℕ) (q after : Option Head) (tokens : List Token) (e : Expr)
      → IsOperand levels q tokens e after → IsPrintableOperand levels e
  operand_printable levels q after tokens e (Grammar.negation n q' last inside e' is) =
      negated_printable n e' (operand_printable n q' last inside e' is)
  operand_printable levels q after tokens e (Grammar.parentheses n q' last inside e' is) =
      in_parentheses n e' (expression_printable n q' last inside e' is)
  operand_printable levels q after tokens e (Grammar.bare n q' inside p is) = (bare_fits n inside p is, omega arith)
  operand_printable levels q after tokens e (Grammar.qualified n q' heads values h e' is values_are) =
      values_printable n h values e' values_are
  operand_printable levels q after tokens e (Grammar.in_force n h inside p is) = (value_fits h inside p is, omega arith)

  -- An expression of the grammar fits, and its printed form needs no more levels.
  pub expression_printable : (levels : ℕ) (q after : Option Head) (tokens : List Token) (e : Expr)
      → IsExpression levels q tokens e after → IsPrintable levels e
  expression_printable levels q after tokens e (Grammar.first_operand n q' last inside e' is) =
      operand_alone n e' (operand_printable n q' last inside e' is)
  expression_printable levels q after tokens e
      (Grammar.more_operands n q' between last left right operator join e' f is joins operand) =
      joined_printable n operator join e' f joins (expression_printable n q' between left e' is)
      (operand_printable n between last right f operand)
