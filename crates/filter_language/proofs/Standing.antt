-- The grammar's description of the tokens that lead to a state of the parser.
use Rattle.std.proofs.Common.{◌≡◌, ℕ, Bool, true, false, List, [], ◌∷◌, ◌++◌, Option, Some, None, refl, ap, sym, ◌∙◌, subst, append_assoc}
use Rattle.std.specs.declared.net.ip_addr.IpAddr.{IpAddr}
use Rattle.std.specs.declared.net.ip_addr.IpAddr.TheVariants.{V4}
use Rattle.std.specs.declared.net.ipv4_addr.Ipv4Addr.{Ipv4Addr}
use Rattle.filter_tokens.specs.declared.keyword.Keyword.{Keyword}
use Rattle.filter_tokens.specs.declared.keyword.Keyword.TheVariants as name
use Rattle.filter_tokens.specs.declared.network.Network.{Network}
use Rattle.filter_tokens.specs.declared.primitive.AddressLayer.{AddressLayer}
use Rattle.filter_tokens.specs.declared.primitive.FieldLayer.{FieldLayer}
use Rattle.filter_tokens.specs.declared.primitive.Operand.{Operand}
use Rattle.filter_tokens.specs.declared.primitive.PortProtocol.{PortProtocol}
use Rattle.filter_tokens.specs.declared.primitive.Primitive.{Primitive}
use Rattle.filter_tokens.specs.declared.primitive.Relation.{Relation}
use Rattle.filter_tokens.specs.declared.primitive.Relation.TheVariants as comparison
use Rattle.filter_tokens.specs.declared.primitive.Side.{Side}
use Rattle.filter_tokens.specs.declared.primitive.Side.TheVariants.{Source, Destination, Either, Both}
use Rattle.filter_tokens.specs.declared.primitive.Width.{Width}
use Rattle.filter_tokens.specs.Tokens.{Token, keyword, word, and, or, relation, left_parenthesis, left_bracket, colon, slash, ampersand, bar}
use Rattle.filter_tokens.specs.Values.{IsConstant, IsFamily, IsNetworkText, IsSizeText}
use Rattle.filter_language.specs.declared.head.Head.{Head}
use Rattle.filter_language.specs.declared.head.Head.TheVariants as head
use Rattle.filter_language.specs.declared.mode.Comparison.{Comparison}
use Rattle.filter_language.specs.declared.mode.Mode.{Mode}
use Rattle.filter_language.specs.declared.mode.Mode.TheVariants as mode
use Rattle.filter_language.specs.declared.mode.Sided.{Sided}
use Rattle.filter_language.specs.declared.mode.Sided.TheVariants.{Addresses, Stations, Ports}
use Rattle.filter_language.specs.Grammar.{IsAddressLayer, IsBare, IsField, IsGroup, IsHead, IsLeft, IsPortProtocol, IsRight, IsSide, IsUnion, IsValue, IsWordValue, bare, in_force, masked, more_groups, one_group, value, src, dst}
use Rattle.filter_language.specs.States.{Frame, State, completed, field_of, group_mode, masking, comparing}
use Rattle.filter_language.specs.Trees.{test}
use Rattle.filter_language.proofs.ContextLemmas.{Context, Filled, IsFilling, after_head, fill}

-- The tokens are those of a context and a part of an operand.
pub record After (most : ℕ) (tokens : List Token) (frames : List Frame) (q : Option Head) (group only : Bool)
    (IsPart : ℕ → List Token → Type 0) : Type 0 where
  pub levels : ℕ
  pub prefix : List Token
  pub part : List Token
  pub joined : tokens ≡ prefix ++ part
  pub context : Context most levels prefix frames q group only
  pub is_part : IsPart levels part

-- The tokens before a side, for what the side qualifies.
pub data IsSided : List Token → Sided → Type 0 where
  sided_addresses : (layers : List Token) (layer : AddressLayer) → IsAddressLayer layers layer
      → IsSided layers (Addresses layer)
  sided_stations : IsSided (keyword name.Ether ∷ []) Stations
  sided_ports : (protocols : List Token) (ports : PortProtocol) → IsPortProtocol protocols ports
      → IsSided protocols (Ports ports)

-- A side and an operator, the side that is expected, and the side that both make.
pub data IsFirstSide : List Token → Side → Side → Type 0 where
  source_or_next : IsFirstSide (src ∷ or ∷ []) Destination Either
  source_and_next : IsFirstSide (src ∷ and ∷ []) Destination Both
  destination_or_next : IsFirstSide (dst ∷ or ∷ []) Source Either
  destination_and_next : IsFirstSide (dst ∷ and ∷ []) Source Both

-- The tokens before a group of constants.
pub data IsComparing : (levels : ℕ) → List Token → Comparison → Type 0 where
  masks : (levels : ℕ) (left : List Token) (operand : Operand) → IsLeft levels left operand None
      → IsComparing levels (left ++ ampersand ∷ []) (masking operand)
  compares : (levels : ℕ) (left : List Token) (operand : Operand) (mask : Option ℕ) (by : Relation)
      → IsLeft levels left operand mask
      → IsComparing levels (left ++ relation by ∷ []) (comparing operand mask by None)
  compares_more : (levels : ℕ) (left right : List Token) (operand : Operand) (mask : Option ℕ) (by : Relation)
      (number : ℕ) → IsLeft levels left operand mask → IsRight right number
      → IsComparing levels (left ++ relation by ∷ right ++ bar ∷ []) (comparing operand mask by (Some number))

-- Constants in a parenthesis, before another one.
pub data IsItems : List Token → Option ℕ → Type 0 where
  no_items : IsItems [] None
  some_items : (items : List Token) (bits : ℕ) → IsUnion items bits → IsItems (items ++ bar ∷ []) (Some bits)

-- The part of an operand that was read in a mode that allows any operand.
pub data IsPart : Mode → (levels : ℕ) → List Token → Type 0 where
  part_layer : (levels : ℕ) (layer : Keyword) (read : FieldLayer) → field_of layer ≡ Some read
      → IsPart (mode.Layer layer) levels (keyword layer ∷ [])
  part_side : (levels : ℕ) (sided : Sided) (side : Side) (layers sides : List Token) → IsSided layers sided
      → IsSide sides side → IsPart (mode.Side sided side) levels (layers ++ sides)
  part_first_side : (levels : ℕ) (sided : Sided) (expected side : Side) (layers sides : List Token)
      → IsSided layers sided → IsFirstSide sides expected side
      → IsPart (mode.OtherSide sided expected side) levels (layers ++ sides)
  part_vlan : (levels : ℕ) → IsPart mode.Vlan levels (keyword name.Vlan ∷ [])
  part_less : (levels : ℕ) → IsPart (mode.PacketLength comparison.LessOrEqual) levels (keyword name.Less ∷ [])
  part_greater : (levels : ℕ) → IsPart (mode.PacketLength comparison.GreaterOrEqual) levels (keyword name.Greater ∷ [])
  part_offset : (levels : ℕ) (layer : Token) (read : FieldLayer) → IsField layer read
      → IsPart (mode.Offset read) levels (layer ∷ left_bracket ∷ [])
  part_offset_end : (levels : ℕ) (layer : Token) (read : FieldLayer) (text : List ℕ) (offset : ℕ)
      → IsField layer read → IsConstant text offset
      → IsPart (mode.OffsetEnd read offset) levels (layer ∷ left_bracket ∷ word text ∷ [])
  part_size : (levels : ℕ) (layer : Token) (read : FieldLayer) (text : List ℕ) (offset : ℕ)
      → IsField layer read → IsConstant text offset
      → IsPart (mode.Size read offset) levels (layer ∷ left_bracket ∷ word text ∷ colon ∷ [])
  part_size_end : (levels : ℕ) (layer : Token) (read : FieldLayer) (text size : List ℕ) (offset : ℕ) (width : Width)
      → IsField layer read → IsConstant text offset → IsSizeText size width
      → IsPart (mode.SizeEnd read offset width) levels (layer ∷ left_bracket ∷ word text ∷ colon ∷ word size ∷ [])
  part_left : (levels : ℕ) (part : List Token) (operand : Operand) (mask : Option ℕ)
      → IsLeft levels part operand mask → IsPart (mode.Left operand mask) levels part
  part_group : (levels : ℕ) (part : List Token) (compared : Comparison) → IsComparing levels part compared
      → IsPart (mode.Group compared) levels part
  part_item : (levels : ℕ) (part items : List Token) (compared : Comparison) (bits : Option ℕ)
      → IsComparing levels part compared → IsItems items bits
      → IsPart (mode.GroupItem compared bits) levels (part ++ left_parenthesis ∷ items)
  part_item_end : (levels : ℕ) (part items : List Token) (compared : Comparison) (bits : ℕ)
      → IsComparing levels part compared → IsUnion items bits
      → IsPart (mode.GroupEnd compared bits) levels (part ++ left_parenthesis ∷ items)
  part_test : (levels : ℕ) (left right : List Token) (operand : Operand) (mask : Option ℕ) (by : Relation) (number : ℕ)
      → IsLeft levels left operand mask → IsRight right number
      → IsPart (mode.Test operand mask by number) levels (left ++ relation by ∷ right)

-- The part of a value that was read in a mode, with these qualifiers.
pub data IsValuePart : Mode → Head → List Token → Type 0 where
  part_host : (layer : AddressLayer) (side : Side) (text : List ℕ) (p : Primitive)
      → IsWordValue (head.Host layer side) text p
      → IsValuePart (mode.Host p) (head.Host layer side) (word text ∷ [])
  part_net : (layer : AddressLayer) (side : Side) (text : List ℕ) (network : Network) → IsNetworkText text network
      → IsFamily layer network.address
      → IsValuePart (mode.Net layer side network) (head.Net layer side) (word text ∷ [])
  part_length : (layer : AddressLayer) (side : Side) (text : List ℕ) (address : IpAddr) (bits : ℕ)
      → IsNetworkText text (record { address = address; bits = bits }) → IsFamily layer address
      → IsValuePart (mode.Length layer side address) (head.Net layer side) (word text ∷ slash ∷ [])
  part_mask : (layer : AddressLayer) (side : Side) (text : List ℕ) (address : Ipv4Addr) (bits : ℕ)
      → IsNetworkText text (record { address = V4 address; bits = bits }) → IsFamily layer (V4 address)
      → IsValuePart (mode.Mask layer side (V4 address)) (head.Net layer side)
      (word text ∷ keyword name.Mask ∷ [])

-- A part of a value is read, where any operand is allowed or only values are.
abbrev pub AfterValue : (most : ℕ) → List Token → State → Mode → Type 0
AfterValue most tokens state reading =
    (only : Bool) × (h : Head) × (state.head ≡ Some h)
    × After most tokens state.frames state.head state.only_values only
    (λ levels part. IsValuePart reading h part)

-- The grammar's description of the tokens that lead to a state in this mode.
abbrev pub HoldsIn : (most : ℕ) → List Token → State → Mode → Type 0
HoldsIn most tokens state (mode.Operand only) =
    (levels : ℕ) × Context most levels tokens state.frames state.head state.only_values only
HoldsIn most tokens state mode.Complete = Filled most tokens state.frames state.head state.only_values
HoldsIn most tokens state (mode.Host p) = AfterValue most tokens state (mode.Host p)
HoldsIn most tokens state (mode.Net layer side network) =
    AfterValue most tokens state (mode.Net layer side network)
HoldsIn most tokens state (mode.Length layer side address) =
    AfterValue most tokens state (mode.Length layer side address)
HoldsIn most tokens state (mode.Mask layer side address) =
    AfterValue most tokens state (mode.Mask layer side address)
HoldsIn most tokens state reading =
    After most tokens state.frames state.head state.only_values false (IsPart reading)

abbrev pub IsValid : (most : ℕ) → List Token → State → Type 0
IsValid most tokens state = HoldsIn most tokens state state.mode

-- ---- parts

-- A part is followed by more tokens.
pub extend : {IsPart IsLonger : ℕ → List Token → Type 0} (most : ℕ) (tokens more : List Token) (frames : List Frame)
    (q : Option Head) (group only : Bool) → After most tokens frames q group only IsPart
    → ((levels : ℕ) (part : List Token) → IsPart levels part → IsLonger levels (part ++ more))
    → After most (tokens ++ more) frames q group only IsLonger
extend most tokens more frames q group only present longer = record {
  levels = present.levels;
  prefix = present.prefix;
  part = present.part ++ more;
  joined = ap (λ list. list ++ more) present.joined ∙ append_assoc present.prefix present.part more;
  context = present.context;
  is_part = longer present.levels present.part present.is_part;
}

-- A part after a context.
pub begin : {IsPart : ℕ → List Token → Type 0} (most levels : ℕ) (tokens part : List Token) (frames : List Frame)
    (q : Option Head) (group only : Bool) → Context most levels tokens frames q group only → IsPart levels part
    → After most (tokens ++ part) frames q group only IsPart
begin most levels tokens part frames q group only present is = record {
  levels = levels;
  prefix = tokens;
  part = part;
  joined = refl;
  context = present;
  is_part = is;
}

-- A primitive without values after a context.
pub bare_fills : (most : ℕ) (tokens : List Token) (frames : List Frame) (q : Option Head) (group : Bool)
    (p : Primitive) → After most tokens frames q group false (λ levels part. IsBare levels part p)
    → Filled most tokens (completed frames (test p)) None group
bare_fills most tokens frames q group p present =
    subst (λ list. Filled most list (completed frames (test p)) None group) (sym present.joined)
    (fill most present.levels present.prefix frames q group false present.part (test p) None present.context
    (bare present.levels q present.part p present.is_part))

value_filling : (levels : ℕ) (q : Option Head) (only : Bool) (h : Head) (part : List Token) (p : Primitive)
    → q ≡ Some h → IsValue h part p → IsFilling only levels q part (test p) q
value_filling levels q false h part p in_use is =
    subst (λ head. IsFilling false levels head part (test p) head) (sym in_use) (in_force levels h part p is)
value_filling levels q true h part p in_use is = (h, in_use, in_use, value levels h part p is)

-- A value after a context.
pub value_fills : (most : ℕ) (tokens : List Token) (frames : List Frame) (q : Option Head) (group only : Bool)
    (h : Head) (p : Primitive) → q ≡ Some h
    → After most tokens frames q group only (λ levels part. IsValue h part p)
    → Filled most tokens (completed frames (test p)) q group
value_fills most tokens frames q group only h p in_use present =
    subst (λ list. Filled most list (completed frames (test p)) q group) (sym present.joined)
    (fill most present.levels present.prefix frames q group only present.part (test p) q present.context
    (value_filling present.levels q only h present.part p in_use present.is_part))

-- Qualifiers after a context.
pub head_context : (most : ℕ) (tokens : List Token) (frames : List Frame) (q : Option Head) (group : Bool) (h : Head)
    → After most tokens frames q group false (λ levels part. IsHead part h)
    → (levels : ℕ) × Context most levels tokens frames (Some h) group true
head_context most tokens frames q group h present = (
  present.levels,
  subst (λ list. Context most present.levels list frames (Some h) group true) (sym present.joined)
      (after_head present.levels present.prefix present.part frames q group h present.context present.is_part),
)

-- Constants after the tokens before them.
pub group_part : (levels : ℕ) (part group : List Token) (compared : Comparison) (number : ℕ)
    → IsComparing levels part compared → IsGroup group number
    → IsPart (group_mode compared compared.relation number) levels (part ++ group)
group_part levels _ group _ number (masks _ left operand is) constants =
    part_left levels (left ++ ampersand ∷ [] ++ group) operand (Some number)
    (subst (λ list. IsLeft levels list operand (Some number)) (sym (append_assoc left (ampersand ∷ []) group))
    (masked levels left group operand number is constants))
group_part levels _ group _ number (compares _ left operand mask by is) constants =
    subst (IsPart (mode.Test operand mask by number) levels) (sym (append_assoc left (relation by ∷ []) group))
    (part_test levels left group operand mask by number is (one_group group number constants))
group_part levels _ group _ number (compares_more _ left right operand mask by bits is rights) constants =
    subst (IsPart (group_mode (comparing operand mask by (Some bits)) (Some by) number) levels)
    (sym (append_assoc (left ++ relation by ∷ right) (bar ∷ []) group
    ∙ append_assoc left (relation by ∷ right) (bar ∷ group)))
    (part_test levels left (right ++ bar ∷ group) operand mask by _ is
    (more_groups right group bits number rights constants))
