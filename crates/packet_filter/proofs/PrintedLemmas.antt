-- Lemmas about the tokens of a filter as it is printed: they are in the grammar.
use Rattle.std.proofs.Common.{◌≡◌, ℕ, zero, suc, ◌/◌, ◌%◌, ◌<◌, ◌≤◌, ◌==◌, ◌⊎◌, inl, inr, List, [], ◌∷◌, ◌++◌, length, Option, Some, None, unwrap_or, codes, decimal, refl, ap, sym, subst, ◌∙◌, arith, append_assoc, eq-eqb, ne_eqb, lit≤, lit<}
use Rattle.std.proofs.lemmas.Fmt.{decimal_digit}
use Rattle.std.proofs.lemmas.Bool.{cases_eq}
use Rattle.std.proofs.lemmas.Str.{digit_value-digit_char}
use Rattle.std.specs.Char.{digit_value}
use Rattle.std.specs.Net.Text.{ip_text}
use Rattle.filter_tokens.specs.declared.keyword.Keyword.TheVariants as name
use Rattle.filter_tokens.specs.declared.network.Network.{Network}
use Rattle.filter_tokens.specs.declared.primitive.AddressLayer.{AddressLayer}
use Rattle.filter_tokens.specs.declared.primitive.AddressLayer.TheVariants as of
use Rattle.filter_tokens.specs.declared.primitive.FieldLayer.{FieldLayer}
use Rattle.filter_tokens.specs.declared.primitive.FieldLayer.TheVariants as field
use Rattle.filter_tokens.specs.declared.primitive.IpVersion.{IpVersion}
use Rattle.filter_tokens.specs.declared.primitive.IpVersion.TheVariants as version
use Rattle.filter_tokens.specs.declared.primitive.Operand.{Operand}
use Rattle.filter_tokens.specs.declared.primitive.Operand.TheVariants.{Length, Bytes}
use Rattle.filter_tokens.specs.declared.primitive.PortProtocol.{PortProtocol}
use Rattle.filter_tokens.specs.declared.primitive.PortProtocol.TheVariants as protocol
use Rattle.filter_tokens.specs.declared.primitive.Primitive.{Primitive}
use Rattle.filter_tokens.specs.declared.primitive.Primitive.TheVariants as primitive
use Rattle.filter_tokens.specs.declared.primitive.Relation.{Relation}
use Rattle.filter_tokens.specs.declared.primitive.Side.{Side}
use Rattle.filter_tokens.specs.declared.primitive.Side.TheVariants.{Source, Destination, Either, Both}
use Rattle.filter_tokens.specs.declared.primitive.Width.{Width}
use Rattle.filter_tokens.specs.declared.primitive.Width.TheVariants.{One, Two, Four}
use Rattle.filter_tokens.specs.Networks.{address_width}
use Rattle.filter_tokens.specs.Names.{constant_names, port_names}
use Rattle.filter_tokens.specs.Tokens
use Rattle.filter_tokens.specs.Tokens.{Token, keyword, word, and, or, relation, left_parenthesis, right_parenthesis, slash, ampersand}
use Rattle.filter_tokens.specs.Values.{IsConstant, IsNumberText, IsOctet, IsOctets, IsPortText, IsSizeText, most_number}
use Rattle.filter_language.specs.declared.head.Head.{Head}
use Rattle.filter_language.specs.declared.head.Head.TheVariants as head
use Rattle.filter_language.specs.Grammar
use Rattle.filter_language.specs.Grammar.{IsAccess, IsAddressLayer, IsExpression, IsField, IsHead, IsIpVersion, IsLeft, IsOperand, IsOperator, IsPortProtocol, IsSide, IsValue}
use Rattle.filter_tokens.specs.PrimitiveTexts.{hex_digit, hex_pair, station_text}
use Rattle.filter_language.specs.Trees.{Expr, test, negated, both, either}
use Rattle.packet_filter.proofs.AddressTextLemmas.{Below, ip_text_is}
use Rattle.packet_filter.proofs.WordTextLemmas.{begins_with_digit, decimal_begins, if_false, if_true, no_name}
use Rattle.packet_filter.proofs.FitLemmas.{Fits, FitsOperand}
use Rattle.packet_filter.proofs.PrintedTokens.{IsPrintable, IsPrintableOperand, field_token, group_level, grouped_tokens, layer_tokens, mask_tokens, network_tokens, operand_tokens, ports_tokens, primitive_tokens, printed_tokens, range_tokens, side_tokens, type_word, version_tokens, width_word}

-- ---- primitives, back in the grammar

-- The tokens are an operand.
abbrev IsPrimitive : ℕ → Option Head → List Token → Primitive → Type 0
IsPrimitive levels q tokens p = (after : Option Head) × IsOperand levels q tokens (test p) after

-- Qualifiers and a value are an operand.
one_value : (levels : ℕ) (q : Option Head) (heads values : List Token) (h : Head) (p : Primitive) → IsHead heads h
    → IsValue h values p → IsPrimitive levels q (heads ++ values) p
one_value levels q heads values h p is value_is =
    (Some h, Grammar.qualified levels q heads values h (test p) is (Grammar.value levels h values p value_is))

at_tokens : (levels : ℕ) (q : Option Head) (tokens other : List Token) (p : Primitive) → tokens ≡ other
    → IsPrimitive levels q tokens p → IsPrimitive levels q other p
at_tokens levels q tokens other p same is = subst (λ (list : List Token). IsPrimitive levels q list p) same is

side_is : (side : Side) → IsSide (side_tokens side) side
side_is Source = Grammar.source
side_is Destination = Grammar.destination
side_is Either = Grammar.source_or
side_is Both = Grammar.source_and

layer_is : (layer : AddressLayer) → IsAddressLayer (layer_tokens layer) layer
layer_is of.Any = Grammar.any_layer
layer_is of.Ipv4 = Grammar.address_of_ip
layer_is of.Ipv6 = Grammar.address_of_ip6
layer_is of.Arp = Grammar.address_of_arp

ports_are : (ports : PortProtocol) → IsPortProtocol (ports_tokens ports) ports
ports_are protocol.Any = Grammar.any_protocol
ports_are protocol.Tcp = Grammar.port_of_tcp
ports_are protocol.Udp = Grammar.port_of_udp
ports_are protocol.Sctp = Grammar.port_of_sctp

version_is : (ip : IpVersion) → IsIpVersion (version_tokens ip) ip
version_is version.Any = Grammar.any_version
version_is version.V4 = Grammar.version_v4
version_is version.V6 = Grammar.version_v6

field_is : (layer : FieldLayer) → IsField (field_token layer) layer
field_is field.Ethernet = Grammar.field_ether
field_is field.Arp = Grammar.field_arp
field_is field.Ipv4 = Grammar.field_ip
field_is field.Ipv6 = Grammar.field_ip6
field_is field.Tcp = Grammar.field_tcp
field_is field.Udp = Grammar.field_udp
field_is field.Sctp = Grammar.field_sctp
field_is field.Icmpv4 = Grammar.field_icmp
field_is field.Icmpv6 = Grammar.field_icmp6

-- Qualifiers whose last token is the keyword before the value.
regrouped : (a b : List Token) (last : Token) (values : List Token)
    → ((a ++ b) ++ last ∷ []) ++ values ≡ a ++ (b ++ last ∷ values)
regrouped a b last values = append_assoc (a ++ b) (last ∷ []) values ∙ append_assoc a b (last ∷ values)

-- A text of digits is a number, and no name.
decimal_constant : (number : ℕ) → number ≤ most_number → IsConstant (decimal number) number
decimal_constant number small =
    inr (
      no_name begins_with_digit (decimal number) constant_names (decimal_begins number (omega (arith, small))) refl,
      inl (refl, small),
    )

decimal_port : (port : ℕ) → port ≤ 65535 → IsPortText (decimal port) port
decimal_port port small =
    inr (
      no_name begins_with_digit (decimal port) port_names (decimal_begins port (omega (arith, small))) refl,
      inl (refl, small),
    )

hex_value : (n : ℕ) → n < 16 → digit_value (hex_digit n) ≡ n
hex_value n small = digit_value-digit_char n (omega (arith, small))

-- Two hexadecimal digits are the byte.
hex_octet : (byte : ℕ) → byte < 256 → IsOctet (hex_pair byte) byte
hex_octet byte small =
    let high : digit_value (hex_digit (byte / 16)) ≡ byte / 16 = hex_value (byte / 16) (omega (arith, small)) in
    let low : digit_value (hex_digit (byte % 16)) ≡ byte % 16 = hex_value (byte % 16) (omega arith) in (
      (omega arith, (omega (arith, high, small), (omega (arith, low), tt))),
      omega arith,
      omega (arith, high, low),
    )

station_octets : (octets : List ℕ) → 0 < length octets → Below 256 octets → IsOctets (station_text octets) octets
station_octets [] some below = absurd (omega (arith, some))
station_octets (octet ∷ []) some below = hex_octet octet below.0
station_octets (octet ∷ following ∷ octets) some below = (
  hex_pair octet,
  station_text (following ∷ octets),
  refl,
  hex_octet octet below.0,
  station_octets (following ∷ octets) (omega arith) below.1,
)

-- Four hexadecimal digits are the number.
type_number : (type : ℕ) → type ≤ 65535 → IsNumberText 65535 (type_word type) type
type_number type small =
    let a : digit_value (hex_digit (type / 256 / 16)) ≡ type / 256 / 16 =
    hex_value (type / 256 / 16) (omega (arith, small)) in
    let b : digit_value (hex_digit (type / 256 % 16)) ≡ type / 256 % 16 = hex_value (type / 256 % 16) (omega arith) in
    let c : digit_value (hex_digit (type % 256 / 16)) ≡ type % 256 / 16 = hex_value (type % 256 / 16) (omega arith) in
    let d : digit_value (hex_digit (type % 256 % 16)) ≡ type % 256 % 16 = hex_value (type % 256 % 16) (omega arith) in
    inr (
      hex_pair (type / 256) ++ hex_pair (type % 256),
      inl refl,
      (omega arith, (omega (arith, a, small), (omega (arith, b), (omega (arith, c), (omega (arith, d), tt))))),
      omega (arith, a, b, c, d),
      small,
    )

size_text : (width : Width) → IsSizeText (width_word width) width
size_text One = inl (sym (decimal_digit 1 (lit< tt)), lit≤ tt)
size_text Two = inl (sym (decimal_digit 2 (lit< tt)), lit≤ tt)
size_text Four = inl (sym (decimal_digit 4 (lit< tt)), lit≤ tt)

network_operand : (levels : ℕ) (q : Option Head) (layer : AddressLayer) (side : Side) (network : Network)
    → Fits (primitive.Address layer side network)
    → ((network.bits ≡ address_width network.address) ⊎ (network.bits ≡ address_width network.address → ⊥))
    → IsPrimitive levels q (layer_tokens layer ++ (side_tokens side ++ network_tokens network))
    (primitive.Address layer side network)
network_operand levels q layer side network (address, family, few, none) (inl all) =
    let values : List Token = word (ip_text network.address) ∷ [] in
    at_tokens levels q _ _ (primitive.Address layer side network)
    (regrouped (layer_tokens layer) (side_tokens side) (keyword name.Host) values
    ∙ ap (λ (list : List Token). layer_tokens layer ++ (side_tokens side ++ list))
    (sym (if_true (network.bits == address_width network.address) (keyword name.Host ∷ values)
    (keyword name.Net ∷ word (ip_text network.address) ∷ slash ∷ word (decimal network.bits) ∷ [])
    (eq-eqb network.bits (address_width network.address) all))))
    (one_value levels q ((layer_tokens layer ++ side_tokens side) ++ keyword name.Host ∷ []) values
    (head.Host layer side) (primitive.Address layer side network)
    (Grammar.head_host (layer_tokens layer) (side_tokens side) layer side (layer_is layer)
    (Grammar.written_side (side_tokens side) side (side_is side)))
    (Grammar.one_word (head.Host layer side) (ip_text network.address) (primitive.Address layer side network)
    (ip_text_is network.address address, all, family, refl, refl)))
network_operand levels q layer side network (address, family, few, none) (inr longer) =
    let values : List Token = word (ip_text network.address) ∷ slash ∷ word (decimal network.bits) ∷ [] in
    at_tokens levels q _ _ (primitive.Address layer side network)
    (regrouped (layer_tokens layer) (side_tokens side) (keyword name.Net) values
    ∙ ap (λ (list : List Token). layer_tokens layer ++ (side_tokens side ++ list))
    (sym (if_false (network.bits == address_width network.address)
    (keyword name.Host ∷ word (ip_text network.address) ∷ []) (keyword name.Net ∷ values)
    (ne_eqb network.bits (address_width network.address) longer))))
    (one_value levels q ((layer_tokens layer ++ side_tokens side) ++ keyword name.Net ∷ []) values
    (head.Net layer side) (primitive.Address layer side network)
    (Grammar.head_net (layer_tokens layer) (side_tokens side) layer side (layer_is layer)
    (Grammar.written_side (side_tokens side) side (side_is side)))
    (Grammar.with_length layer side (ip_text network.address) (decimal network.bits)
    (record { address = network.address; bits = address_width network.address }) network.bits
    (inl (ip_text_is network.address address, refl)) family (refl, few) none))

port_operand : (levels : ℕ) (q : Option Head) (ports : PortProtocol) (side : Side) (low high : ℕ)
    → Fits (primitive.Port ports side low high) → ((low ≡ high) ⊎ (low ≡ high → ⊥))
    → IsPrimitive levels q (ports_tokens ports ++ (side_tokens side ++ range_tokens low high))
    (primitive.Port ports side low high)
port_operand levels q ports side low high (ordered, small) (inl same) =
    let values : List Token = word (decimal low) ∷ [] in
    at_tokens levels q _ _ (primitive.Port ports side low high)
    (regrouped (ports_tokens ports) (side_tokens side) (keyword name.Port) values
    ∙ ap (λ (list : List Token). ports_tokens ports ++ (side_tokens side ++ list))
    (sym (if_true (low == high) (keyword name.Port ∷ values)
    (keyword name.PortRange ∷ word (decimal low ++ codes "-" ++ decimal high) ∷ []) (eq-eqb low high same))))
    (one_value levels q ((ports_tokens ports ++ side_tokens side) ++ keyword name.Port ∷ []) values
    (head.Port ports side) (primitive.Port ports side low high)
    (Grammar.head_port (ports_tokens ports) (side_tokens side) ports side (ports_are ports)
    (Grammar.written_side (side_tokens side) side (side_is side)))
    (Grammar.one_word (head.Port ports side) (decimal low) (primitive.Port ports side low high)
    (decimal_port low (omega (arith, ordered, small)), sym same, refl, refl)))
port_operand levels q ports side low high (ordered, small) (inr differ) =
    let range : List ℕ = decimal low ++ codes "-" ++ decimal high in
    let values : List Token = word range ∷ [] in
    at_tokens levels q _ _ (primitive.Port ports side low high)
    (regrouped (ports_tokens ports) (side_tokens side) (keyword name.PortRange) values
    ∙ ap (λ (list : List Token). ports_tokens ports ++ (side_tokens side ++ list))
    (sym (if_false (low == high) (keyword name.Port ∷ word (decimal low) ∷ []) (keyword name.PortRange ∷ values)
    (ne_eqb low high differ))))
    (one_value levels q ((ports_tokens ports ++ side_tokens side) ++ keyword name.PortRange ∷ []) values
    (head.PortRange ports side) (primitive.Port ports side low high)
    (Grammar.head_port_range (ports_tokens ports) (side_tokens side) ports side (ports_are ports)
    (Grammar.written_side (side_tokens side) side (side_is side)))
    (Grammar.one_word (head.PortRange ports side) range (primitive.Port ports side low high) (
      inr (low, high, refl, omega (arith, ordered, small), small, omega (arith, ordered), omega (arith, ordered)),
      refl,
      refl,
    )))

access_is : (operand : Operand) → FitsOperand operand → IsAccess (operand_tokens operand) operand
access_is Length fits = Grammar.len
access_is (Bytes layer offset width) fits =
    Grammar.with_size (field_token layer) layer (decimal offset) (width_word width) offset width (field_is layer)
    (decimal_constant offset fits) (size_text width)

-- The tokens before and after a relation.
comparison_operand : (levels : ℕ) (q : Option Head) (left : List Token) (operand : Operand) (mask : Option ℕ)
    (by : Relation) (number : ℕ) → IsLeft levels left operand mask → number ≤ most_number
    → IsPrimitive levels q (left ++ relation by ∷ word (decimal number) ∷ [])
    (primitive.Number operand (unwrap_or mask most_number) by number)
comparison_operand levels q left operand mask by number is small = (
  None,
  Grammar.bare levels q (left ++ relation by ∷ word (decimal number) ∷ [])
      (primitive.Number operand (unwrap_or mask most_number) by number)
      (Grammar.bare_comparison levels left (word (decimal number) ∷ []) operand mask by number is
      (Grammar.one_group (word (decimal number) ∷ []) number
      (Grammar.constant (decimal number) number (decimal_constant number small)))),
)

number_operand : (levels : ℕ) (q : Option Head) (operand : Operand) (mask : ℕ) (by : Relation) (number : ℕ)
    → Fits (primitive.Number operand mask by number) → ((mask ≡ most_number) ⊎ (mask ≡ most_number → ⊥))
    → IsPrimitive levels q
    (operand_tokens operand ++ (mask_tokens mask ++ relation by ∷ word (decimal number) ∷ []))
    (primitive.Number operand mask by number)
number_operand levels q operand mask by number (fits, small_mask, small) (inl all) =
    let last : List Token = relation by ∷ word (decimal number) ∷ [] in
    subst (λ (m : ℕ). IsPrimitive levels q (operand_tokens operand ++ (mask_tokens m ++ last))
    (primitive.Number operand m by number)) (sym all)
    (comparison_operand levels q (operand_tokens operand) operand None by number
    (Grammar.access levels (operand_tokens operand) operand (access_is operand fits)) small)
number_operand levels q operand mask by number (fits, small_mask, small) (inr masks) =
    let last : List Token = relation by ∷ word (decimal number) ∷ [] in
    let group : List Token = word (decimal mask) ∷ [] in
    at_tokens levels q _ _ (primitive.Number operand mask by number)
    (append_assoc (operand_tokens operand) (ampersand ∷ group) last
    ∙ ap (λ (list : List Token). operand_tokens operand ++ (list ++ last))
    (sym (if_false (mask == most_number) [] (ampersand ∷ group) (ne_eqb mask most_number masks))))
    (comparison_operand levels q (operand_tokens operand ++ ampersand ∷ group) operand (Some mask) by number
    (Grammar.masked levels (operand_tokens operand) group operand mask
    (Grammar.access levels (operand_tokens operand) operand (access_is operand fits))
    (Grammar.constant (decimal mask) mask (decimal_constant mask small_mask))) small)

-- A primitive that fits is an operand as it is printed.
primitive_operand : (levels : ℕ) (q : Option Head) (p : Primitive) → Fits p
    → IsPrimitive levels q (primitive_tokens p) p
primitive_operand levels q (primitive.EtherType type) fits =
    one_value levels q (keyword name.Ether ∷ keyword name.Proto ∷ []) (word (type_word type.0) ∷ []) head.EtherType
    (primitive.EtherType type) Grammar.head_ether_proto
    (Grammar.one_word head.EtherType (type_word type.0) (primitive.EtherType type) (type_number type.0 fits.1, fits.0))
primitive_operand levels q (primitive.Protocol ip number) fits =
    let values : List Token = word (decimal number.0) ∷ [] in
    at_tokens levels q _ _ (primitive.Protocol ip number)
    (append_assoc (version_tokens ip) (keyword name.Proto ∷ []) values)
    (one_value levels q (version_tokens ip ++ keyword name.Proto ∷ []) values (head.Protocol ip)
    (primitive.Protocol ip number) (Grammar.head_proto (version_tokens ip) ip (version_is ip))
    (Grammar.one_word (head.Protocol ip) (decimal number.0) (primitive.Protocol ip number) (inl (refl, fits), refl)))
primitive_operand levels q (primitive.Address layer side network) fits =
    network_operand levels q layer side network fits (cases_eq network.bits (address_width network.address))
primitive_operand levels q (primitive.Station side octets) fits =
    let values : List Token = word (station_text octets) ∷ [] in
    at_tokens levels q _ _ (primitive.Station side octets)
    (append_assoc (keyword name.Ether ∷ side_tokens side) (keyword name.Host ∷ []) values)
    (one_value levels q (keyword name.Ether ∷ side_tokens side ++ keyword name.Host ∷ []) values (head.Station side)
    (primitive.Station side octets)
    (Grammar.head_station (side_tokens side) side (Grammar.written_side (side_tokens side) side (side_is side)))
    (Grammar.one_word (head.Station side) (station_text octets) (primitive.Station side octets)
    ((station_octets octets (omega (arith, fits.0)) fits.1, fits.0), refl)))
primitive_operand levels q (primitive.Port ports side low high) fits =
    port_operand levels q ports side low high fits (cases_eq low high)
primitive_operand levels q (primitive.Vlan None) fits =
    (None, Grammar.bare levels q (keyword name.Vlan ∷ []) (primitive.Vlan None) (Grammar.bare_vlan levels))
primitive_operand levels q (primitive.Vlan (Some id)) fits = (
  None,
  Grammar.bare levels q (keyword name.Vlan ∷ word (decimal id) ∷ []) (primitive.Vlan (Some id))
      (Grammar.bare_vlan_with levels (decimal id) id (inl (refl, fits))),
)
primitive_operand levels q (primitive.Number operand mask by number) fits =
    number_operand levels q operand mask by number fits (cases_eq mask most_number)

-- ---- expressions, back in the grammar

abbrev PrintsExpression : Expr → List Token → Type 0
PrintsExpression e tokens =
    (levels : ℕ) (q : Option Head) → IsPrintable levels e → (after : Option Head) × IsExpression levels q tokens e after

abbrev PrintsOperand : Expr → List Token → Type 0
PrintsOperand e tokens =
    (levels : ℕ) (q : Option Head) → IsPrintableOperand levels e
    → (after : Option Head) × IsOperand levels q tokens e after

alone : (e : Expr) (tokens : List Token) → group_level e ≡ 0 → PrintsOperand e tokens → PrintsExpression e tokens
alone e tokens none operand levels q (fits, few) =
    let (after, is) = operand levels q (fits, omega (arith, none, few)) in
    (after, Grammar.first_operand levels q after tokens e is)

negated_prints : (e : Expr) (tokens : List Token) → PrintsOperand e tokens
    → PrintsOperand (negated e) (Tokens.not ∷ tokens)
negated_prints e tokens operand zero q (fits, few) = absurd (omega (arith, few))
negated_prints e tokens operand (suc levels) q (fits, few) =
    let (after, is) = operand levels q (fits, omega (arith, few)) in
    (after, Grammar.negation levels q after tokens e is)

parentheses_print : (e : Expr) (tokens : List Token) → group_level e ≡ 1 → PrintsExpression e tokens
    → PrintsOperand e (left_parenthesis ∷ tokens ++ right_parenthesis ∷ [])
parentheses_print e tokens group expression zero q (fits, few) = absurd (omega (arith, few, group))
parentheses_print e tokens group expression (suc levels) q (fits, few) =
    let (after, is) = expression levels q (fits, omega (arith, few, group)) in
    (q, Grammar.parentheses levels q after tokens e is)

joined_prints : (operator : Token) (join : Expr → Expr → Expr) (e f : Expr) (left right : List Token)
    → IsOperator operator join → PrintsExpression e left → PrintsOperand f right
    → (levels : ℕ) (q : Option Head) → IsPrintable levels e → IsPrintableOperand levels f
    → (after : Option Head) × IsExpression levels q (left ++ operator ∷ right) (join e f) after
joined_prints operator join e f left right joins left_prints right_prints levels q fits right_fits =
    let (between, is) = left_prints levels q fits in
    let (after, is_right) = right_prints levels between right_fits in
    (after, Grammar.more_operands levels q between after left right operator join e f is joins is_right)

both_prints : (e f : Expr) (left right : List Token) → PrintsExpression e left → PrintsOperand f right
    → PrintsExpression (both e f) (left ++ and ∷ right)
both_prints e f left right left_prints right_prints levels q (fits, few) =
    joined_prints and both e f left right Grammar.conjunction left_prints right_prints levels q
    (fits.0, omega (arith, few)) (fits.1, omega (arith, few))

either_prints : (e f : Expr) (left right : List Token) → PrintsExpression e left → PrintsOperand f right
    → PrintsExpression (either e f) (left ++ or ∷ right)
either_prints e f left right left_prints right_prints levels q (fits, few) =
    joined_prints or either e f left right Grammar.disjunction left_prints right_prints levels q
    (fits.0, omega (arith, few)) (fits.1, omega (arith, few))

-- An expression as it is printed, alone and as an operand.
prints : (e : Expr) → PrintsExpression e (printed_tokens e) × PrintsOperand e (grouped_tokens e (printed_tokens e))
prints (test p) =
    let operand : PrintsOperand (test p) (primitive_tokens p) = λ levels q fits. primitive_operand levels q p fits.0 in
    (alone (test p) (primitive_tokens p) refl operand, operand)
prints (negated e) =
    let operand : PrintsOperand (negated e) (printed_tokens (negated e)) =
    negated_prints e (grouped_tokens e (printed_tokens e)) (prints e).1 in
    (alone (negated e) (printed_tokens (negated e)) refl operand, operand)
prints (both e f) =
    let expression : PrintsExpression (both e f) (printed_tokens (both e f)) =
    both_prints e f (printed_tokens e) (grouped_tokens f (printed_tokens f)) (prints e).0 (prints f).1 in
    (expression, parentheses_print (both e f) (printed_tokens (both e f)) refl expression)
prints (either e f) =
    let expression : PrintsExpression (either e f) (printed_tokens (either e f)) =
    either_prints e f (printed_tokens e) (grouped_tokens f (printed_tokens f)) (prints e).0 (prints f).1 in
    (expression, parentheses_print (either e f) (printed_tokens (either e f)) refl expression)

-- An expression that fits is one as it is printed, whatever qualifiers are in force.
pub printed_expression : (levels : ℕ) (q : Option Head) (e : Expr) → IsPrintable levels e
    → (after : Option Head) × IsExpression levels q (printed_tokens e) e after
printed_expression levels q e fits = (prints e).0 levels q fits
