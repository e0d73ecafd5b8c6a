-- Tokens after which an operand is complete, for each state of the parser.
use Rattle.std.proofs.Common.{◌≡◌, ℕ, Bool, true, false, List, [], ◌∷◌, ◌++◌, Option, Some, None, refl, ap, sym, ◌∙◌, subst, append_assoc, codes, decimal, ◌⊎◌, inl, inr, ⊎_elim}
use Rattle.std.specs.declared.net.ip_addr.IpAddr.{IpAddr}
use Rattle.std.specs.declared.net.ip_addr.IpAddr.TheVariants.{V4}
use Rattle.filter_tokens.specs.declared.keyword.Keyword.{Keyword}
use Rattle.filter_tokens.specs.declared.keyword.Keyword.TheVariants as name
use Rattle.filter_tokens.specs.declared.primitive.AddressLayer.{AddressLayer}
use Rattle.filter_tokens.specs.declared.primitive.FieldLayer.{FieldLayer}
use Rattle.filter_tokens.specs.declared.primitive.IpVersion.TheVariants as version
use Rattle.filter_tokens.specs.declared.primitive.Operand.{Operand}
use Rattle.filter_tokens.specs.declared.primitive.Operand.TheVariants.{Bytes}
use Rattle.filter_tokens.specs.declared.primitive.Primitive.{Primitive}
use Rattle.filter_tokens.specs.declared.primitive.Primitive.TheVariants as primitive
use Rattle.filter_tokens.specs.declared.primitive.Relation.{Relation}
use Rattle.filter_tokens.specs.declared.primitive.Relation.TheVariants as comparison
use Rattle.filter_tokens.specs.declared.primitive.Side.{Side}
use Rattle.filter_tokens.specs.declared.primitive.Side.TheVariants.{Source, Destination, Either, Both}
use Rattle.filter_tokens.specs.declared.primitive.Width.{Width}
use Rattle.filter_tokens.specs.declared.primitive.Width.TheVariants.{One}
use Rattle.filter_language.specs.declared.head.Head.{Head}
use Rattle.filter_language.specs.declared.head.Head.TheVariants as head
use Rattle.filter_language.specs.declared.mode.Comparison.{Comparison}
use Rattle.filter_language.specs.declared.mode.Mode.{Mode}
use Rattle.filter_language.specs.declared.mode.Mode.TheVariants as mode
use Rattle.filter_language.specs.declared.mode.Sided.{Sided}
use Rattle.filter_language.specs.declared.mode.Sided.TheVariants.{Addresses, Stations, Ports}
use Rattle.std.proofs.lemmas.List.{append-nil}
use Rattle.filter_tokens.specs.Tokens.{Token, keyword, word, relation, left_bracket, right_bracket, right_parenthesis}
use Rattle.filter_tokens.specs.Networks.{address_width}
use Rattle.filter_language.specs.Grammar.{IsBare, IsHead, IsValue, bare_comparison, bare_tcp, bare_vlan, constant, one_group, one_word, with_length, with_mask, src, dst}
use Rattle.filter_language.specs.Primitives.{number_test, protocol_test}
use Rattle.filter_language.specs.States.{Frame, State, completed, finish_value, group_mode, union}
use Rattle.filter_language.specs.Trees.{test}
use Rattle.filter_language.proofs.ContextLemmas.{Context, Filled, context_head}
use Rattle.filter_language.proofs.Standing.{After, IsFirstSide, IsPart, IsValuePart, HoldsIn, bare_fills, begin, destination_and_next, destination_or_next, head_context, part_first_side, source_and_next, source_or_next, part_layer, part_length, part_mask, part_vlan, value_fills}
use Rattle.filter_language.proofs.ReadLemmas.{settle, test_bare}
use Rattle.filter_language.proofs.LayerReadLemmas.{named_offset}
use Rattle.filter_language.proofs.SideReadLemmas.{second_destination, second_source, side_is_head, side_port}
use Rattle.filter_language.proofs.StandReadLemmas.{constant_part, item_closes, item_part, left_is, offset_end, offset_left, packet_length, size_end, size_left}
use Rattle.filter_language.proofs.WitnessLemmas.{all_are_prefix, all_bits_length, all_bits_mask, one_size, value_of, zero_constant, zero_number}

-- An expression is complete after these tokens and others.
abbrev pub Ends : (most : ℕ) → List Token → Type 0
Ends most tokens =
    (more : List Token) × (frames : List Frame) × (q : Option Head) × (group : Bool)
    × Filled most (tokens ++ more) frames q group

-- A part of a primitive without values, or of qualifiers, is complete after others.
abbrev BareEnds : (levels : ℕ) → List Token → Type 0
BareEnds levels part = (more : List Token) × (p : Primitive) × IsBare levels (part ++ more) p

abbrev HeadEnds : List Token → Type 0
HeadEnds part = (more : List Token) × (h : Head) × IsHead (part ++ more) h

-- ---- primitives without values

more_ends : (levels : ℕ) (part step : List Token) → BareEnds levels (part ++ step) → BareEnds levels part
more_ends levels part step (more, p, is) =
    (step ++ more, p, subst (λ list. IsBare levels list p) (append_assoc part step more) is)

left_ends : (levels : ℕ) (part : List Token) (operand : Operand) (mask : Option ℕ)
    → IsPart (mode.Left operand mask) levels part → BareEnds levels part
left_ends levels part operand mask is = (
  relation comparison.Equal ∷ word (codes "0") ∷ [],
  number_test operand mask comparison.Equal 0,
  bare_comparison levels part (word (codes "0") ∷ []) operand mask comparison.Equal 0
      (left_is levels part operand mask is)
      (one_group (word (codes "0") ∷ []) 0 (constant (codes "0") 0 zero_constant)),
)

test_ends : (levels : ℕ) (part : List Token) (operand : Operand) (mask : Option ℕ) (by : Relation) (number : ℕ)
    → IsPart (mode.Test operand mask by number) levels part → BareEnds levels part
test_ends levels part operand mask by number is = (
  [],
  number_test operand mask by number,
  subst (λ list. IsBare levels list (number_test operand mask by number)) (sym (append-nil part))
      (test_bare levels part operand mask by number is),
)

grouped_ends : (levels : ℕ) (part : List Token) (compared : Comparison) (by : Option Relation) (number : ℕ)
    → IsPart (group_mode compared by number) levels part → BareEnds levels part
grouped_ends levels part compared None number is = left_ends levels part compared.operand (Some number) is
grouped_ends levels part compared (Some by) number is =
    test_ends levels part compared.operand compared.mask by (union compared.number number) is

group_ends : (levels : ℕ) (part : List Token) (compared : Comparison) → IsPart (mode.Group compared) levels part
    → BareEnds levels part
group_ends levels part compared is =
    more_ends levels part (word (codes "0") ∷ [])
    (grouped_ends levels (part ++ word (codes "0") ∷ []) compared compared.relation 0
    (constant_part levels part compared (codes "0") 0 zero_constant is))

item_end_ends : (levels : ℕ) (part : List Token) (compared : Comparison) (bits : ℕ)
    → IsPart (mode.GroupEnd compared bits) levels part → BareEnds levels part
item_end_ends levels part compared bits is =
    more_ends levels part (right_parenthesis ∷ [])
    (grouped_ends levels (part ++ right_parenthesis ∷ []) compared compared.relation bits
    (item_closes levels part compared bits is))

item_ends : (levels : ℕ) (part : List Token) (compared : Comparison) (bits : Option ℕ)
    → IsPart (mode.GroupItem compared bits) levels part → BareEnds levels part
item_ends levels part compared bits is =
    more_ends levels part (word (codes "0") ∷ [])
    (item_end_ends levels (part ++ word (codes "0") ∷ []) compared (union bits 0)
    (item_part levels part compared bits (codes "0") 0 zero_constant is))

offset_end_ends : (levels : ℕ) (part : List Token) (layer : FieldLayer) (offset : ℕ)
    → IsPart (mode.OffsetEnd layer offset) levels part → BareEnds levels part
offset_end_ends levels part layer offset is =
    more_ends levels part (right_bracket ∷ [])
    (left_ends levels (part ++ right_bracket ∷ []) (Bytes layer offset One) None
    (offset_left levels part layer offset is))

offset_ends : (levels : ℕ) (part : List Token) (layer : FieldLayer) → IsPart (mode.Offset layer) levels part
    → BareEnds levels part
offset_ends levels part layer is =
    more_ends levels part (word (codes "0") ∷ [])
    (offset_end_ends levels (part ++ word (codes "0") ∷ []) layer 0
    (offset_end levels part layer (codes "0") 0 zero_constant is))

size_end_ends : (levels : ℕ) (part : List Token) (layer : FieldLayer) (offset : ℕ) (width : Width)
    → IsPart (mode.SizeEnd layer offset width) levels part → BareEnds levels part
size_end_ends levels part layer offset width is =
    more_ends levels part (right_bracket ∷ [])
    (left_ends levels (part ++ right_bracket ∷ []) (Bytes layer offset width) None
    (size_left levels part layer offset width is))

size_ends : (levels : ℕ) (part : List Token) (layer : FieldLayer) (offset : ℕ)
    → IsPart (mode.Size layer offset) levels part → BareEnds levels part
size_ends levels part layer offset is =
    more_ends levels part (word (codes "1") ∷ [])
    (size_end_ends levels (part ++ word (codes "1") ∷ []) layer offset One
    (size_end levels part layer offset (codes "1") One one_size is))

layer_ends : (levels : ℕ) (part : List Token) (named : Keyword) → IsPart (mode.Layer named) levels part
    → BareEnds levels part
layer_ends _ _ _ (part_layer levels named read found) =
    more_ends levels (keyword named ∷ []) (left_bracket ∷ [])
    (offset_ends levels (keyword named ∷ left_bracket ∷ []) read
    (named_offset levels (keyword named ∷ []) named read found (part_layer levels named read found)))

vlan_ends : (levels : ℕ) (part : List Token) → IsPart mode.Vlan levels part → BareEnds levels part
vlan_ends _ _ (part_vlan levels) = ([], primitive.Vlan None, bare_vlan levels)

length_ends : (levels : ℕ) (part : List Token) (by : Relation) → IsPart (mode.PacketLength by) levels part
    → BareEnds levels part
length_ends levels part by is =
    (word (codes "0") ∷ [], _, packet_length levels part by (codes "0") 0 (zero_number _) is)

-- ---- qualifiers

side_ends : (levels : ℕ) (part : List Token) (sided : Sided) (side : Side) → IsPart (mode.Side sided side) levels part
    → HeadEnds part
side_ends levels part (Addresses layer) side is = (
  [],
  head.Host layer side,
  subst (λ list. IsHead list (head.Host layer side)) (sym (append-nil part))
      (side_is_head levels part (Addresses layer) side (head.Host layer side) refl is),
)
side_ends levels part Stations side is = (
  [],
  head.Station side,
  subst (λ list. IsHead list (head.Station side)) (sym (append-nil part))
      (side_is_head levels part Stations side (head.Station side) refl is),
)
side_ends levels part (Ports ports) side is =
    (keyword name.Port ∷ [], head.Port ports side, side_port levels part ports side is)

more_head_ends : (part step : List Token) → HeadEnds (part ++ step) → HeadEnds part
more_head_ends part step (more, h, is) =
    (step ++ more, h, subst (λ list. IsHead list h) (append_assoc part step more) is)

-- The side that is expected after another one is `src` or `dst`.
is_single : (sides : List Token) (expected side : Side) → IsFirstSide sides expected side
    → (expected ≡ Source) ⊎ (expected ≡ Destination)
is_single _ _ _ source_or_next = inr refl
is_single _ _ _ source_and_next = inr refl
is_single _ _ _ destination_or_next = inl refl
is_single _ _ _ destination_and_next = inl refl

never_either : (sides : List Token) (side : Side) → IsFirstSide sides Either side → ⊥
never_either sides side is =
    ⊎_elim (λ same. let never : ⊥ = cc in never) (λ same. let never : ⊥ = cc in never) (is_single sides Either side is)

never_both : (sides : List Token) (side : Side) → IsFirstSide sides Both side → ⊥
never_both sides side is =
    ⊎_elim (λ same. let never : ⊥ = cc in never) (λ same. let never : ⊥ = cc in never) (is_single sides Both side is)

other_side_ends : (levels : ℕ) (part : List Token) (sided : Sided) (expected side : Side)
    → IsPart (mode.OtherSide sided expected side) levels part → HeadEnds part
other_side_ends levels part sided Source side is =
    more_head_ends part (src ∷ [])
    (side_ends levels (part ++ src ∷ []) sided side (second_source levels part sided side is))
other_side_ends levels part sided Destination side is =
    more_head_ends part (dst ∷ [])
    (side_ends levels (part ++ dst ∷ []) sided side (second_destination levels part sided side is))
other_side_ends _ _ _ Either _ (part_first_side levels sided _ side layers sides before is) =
    absurd (never_either sides side is)
other_side_ends _ _ _ Both _ (part_first_side levels sided _ side layers sides before is) =
    absurd (never_both sides side is)

-- ---- contexts

-- A part that is complete with more tokens.
extended : {IsPart IsLonger : ℕ → List Token → Type 0} (most : ℕ) (tokens more : List Token) (frames : List Frame)
    (q : Option Head) (group only : Bool) (present : After most tokens frames q group only IsPart)
    → IsLonger present.levels (present.part ++ more) → After most (tokens ++ more) frames q group only IsLonger
extended most tokens more frames q group only present is = record {
  levels = present.levels;
  prefix = present.prefix;
  part = present.part ++ more;
  joined = ap (λ list. list ++ more) present.joined ∙ append_assoc present.prefix present.part more;
  context = present.context;
  is_part = is;
}

bare_end : {IsPart : ℕ → List Token → Type 0} (most : ℕ) (tokens : List Token) (frames : List Frame)
    (q : Option Head) (group : Bool) (present : After most tokens frames q group false IsPart)
    → BareEnds present.levels present.part → Ends most tokens
bare_end most tokens frames q group present (more, p, is) = (
  more,
  completed frames (test p),
  None,
  group,
  bare_fills most (tokens ++ more) frames q group p (extended most tokens more frames q group false present is),
)

later_ends : (most : ℕ) (tokens step : List Token) → Ends most (tokens ++ step) → Ends most tokens
later_ends most tokens step (more, frames, q, group, is) = (
  step ++ more,
  frames,
  q,
  group,
  subst (λ list. Filled most list frames q group) (append_assoc tokens step more) is,
)

already_ends : (most : ℕ) (tokens : List Token) (frames : List Frame) (q : Option Head) (group : Bool)
    → Filled most tokens frames q group → Ends most tokens
already_ends most tokens frames q group is =
    ([], frames, q, group, subst (λ list. Filled most list frames q group) (sym (append-nil tokens)) is)

values_end : (most levels : ℕ) (tokens : List Token) (frames : List Frame) (group only : Bool) (h : Head)
    → Context most levels tokens frames (Some h) group only → Ends most tokens
values_end most levels tokens frames group only h present =
    let (text, p, is) = value_of h in (
      word text ∷ [],
      completed frames (test p),
      Some h,
      group,
      value_fills most (tokens ++ word text ∷ []) frames (Some h) group only h p refl
          (begin most levels tokens (word text ∷ []) frames (Some h) group only present (one_word h text p is)),
    )

head_end : {IsPart : ℕ → List Token → Type 0} (most : ℕ) (tokens : List Token) (frames : List Frame)
    (q : Option Head) (group : Bool) (present : After most tokens frames q group false IsPart) → HeadEnds present.part
    → Ends most tokens
head_end most tokens frames q group present (more, h, is) =
    let (levels, context) =
    head_context most (tokens ++ more) frames q group h (extended most tokens more frames q group false present is) in
    later_ends most tokens more (values_end most levels (tokens ++ more) frames group true h context)

operand_ends : (most levels : ℕ) (tokens : List Token) (frames : List Frame) (q : Option Head) (group only : Bool)
    → Context most levels tokens frames q group only → Ends most tokens
operand_ends most levels tokens frames q group false present = (
  keyword name.Tcp ∷ [],
  completed frames (test (protocol_test version.Any 6)),
  None,
  group,
  bare_fills most (tokens ++ keyword name.Tcp ∷ []) frames q group (protocol_test version.Any 6)
      (begin most levels tokens (keyword name.Tcp ∷ []) frames q group false present (bare_tcp levels)),
)
operand_ends most levels tokens frames q group true present =
    let (h, in_use) = context_head most levels tokens frames q group true present refl in
    values_end most levels tokens frames group true h
    (subst (λ found. Context most levels tokens frames found group true) in_use present)

-- ---- values

length_end : (h : Head) (part : List Token) (layer : AddressLayer) (side : Side) (address : IpAddr)
    → IsValuePart (mode.Length layer side address) h part
    → (more : List Token) × (p : Primitive) × IsValue h (part ++ more) p
length_end _ _ _ _ _ (part_length layer side text address bits network family) = (
  word (decimal (address_width address)) ∷ [],
  _,
  with_length layer side text (decimal (address_width address)) (record { address = address; bits = bits })
      (address_width address) network family (all_bits_length address) (all_are_prefix text address bits network),
)

mask_end : (h : Head) (part : List Token) (layer : AddressLayer) (side : Side) (address : IpAddr)
    → IsValuePart (mode.Mask layer side address) h part
    → (more : List Token) × (p : Primitive) × IsValue h (part ++ more) p
mask_end _ _ _ _ _ (part_mask layer side text address bits network family) =
    let (mask, is) = all_bits_mask address in (
      word mask ∷ [],
      _,
      with_mask layer side text mask (record { address = V4 address; bits = bits }) 32 network family is
          (all_are_prefix text (V4 address) bits network),
    )

value_end : {IsPart : ℕ → List Token → Type 0} (most : ℕ) (tokens : List Token) (frames : List Frame)
    (q : Option Head) (group only : Bool) (h : Head) → q ≡ Some h
    → (present : After most tokens frames q group only IsPart)
    → (more : List Token) × (p : Primitive) × IsValue h (present.part ++ more) p → Ends most tokens
value_end most tokens frames q group only h in_use present (more, p, is) = (
  more,
  completed frames (test p),
  q,
  group,
  value_fills most (tokens ++ more) frames q group only h p in_use
      (extended most tokens more frames q group only present is),
)

-- ---- states

-- After the tokens of each state, an operand can be completed.
pub holds_ends : (most : ℕ) (tokens : List Token) (state : State) (reading : Mode)
    → HoldsIn most tokens state reading → Ends most tokens
holds_ends most tokens state (mode.Operand only) (levels, present) =
    operand_ends most levels tokens state.frames state.head state.only_values only present
holds_ends most tokens state mode.Complete present =
    already_ends most tokens state.frames state.head state.only_values present
holds_ends most tokens state (mode.Layer layer) present =
    bare_end most tokens state.frames state.head state.only_values present
    (layer_ends present.levels present.part layer present.is_part)
holds_ends most tokens state (mode.Side sided side) present =
    head_end most tokens state.frames state.head state.only_values present
    (side_ends present.levels present.part sided side present.is_part)
holds_ends most tokens state (mode.OtherSide sided expected side) present =
    head_end most tokens state.frames state.head state.only_values present
    (other_side_ends present.levels present.part sided expected side present.is_part)
holds_ends most tokens state (mode.Host p) present =
    let final : State = finish_value state p in
    already_ends most tokens final.frames final.head final.only_values
    (settle most tokens state (mode.Host p) final present refl)
holds_ends most tokens state (mode.Net layer side network) present =
    let final : State = finish_value state (primitive.Address layer side network) in
    already_ends most tokens final.frames final.head final.only_values
    (settle most tokens state (mode.Net layer side network) final present refl)
holds_ends most tokens state (mode.Length layer side address) (only, h, in_use, present) =
    value_end most tokens state.frames state.head state.only_values only h in_use present
    (length_end h present.part layer side address present.is_part)
holds_ends most tokens state (mode.Mask layer side address) (only, h, in_use, present) =
    value_end most tokens state.frames state.head state.only_values only h in_use present
    (mask_end h present.part layer side address present.is_part)
holds_ends most tokens state mode.Vlan present =
    bare_end most tokens state.frames state.head state.only_values present
    (vlan_ends present.levels present.part present.is_part)
holds_ends most tokens state (mode.PacketLength by) present =
    bare_end most tokens state.frames state.head state.only_values present
    (length_ends present.levels present.part by present.is_part)
holds_ends most tokens state (mode.Offset layer) present =
    bare_end most tokens state.frames state.head state.only_values present
    (offset_ends present.levels present.part layer present.is_part)
holds_ends most tokens state (mode.OffsetEnd layer offset) present =
    bare_end most tokens state.frames state.head state.only_values present
    (offset_end_ends present.levels present.part layer offset present.is_part)
holds_ends most tokens state (mode.Size layer offset) present =
    bare_end most tokens state.frames state.head state.only_values present
    (size_ends present.levels present.part layer offset present.is_part)
holds_ends most tokens state (mode.SizeEnd layer offset width) present =
    bare_end most tokens state.frames state.head state.only_values present
    (size_end_ends present.levels present.part layer offset width present.is_part)
holds_ends most tokens state (mode.Left operand mask) present =
    bare_end most tokens state.frames state.head state.only_values present
    (left_ends present.levels present.part operand mask present.is_part)
holds_ends most tokens state (mode.Group compared) present =
    bare_end most tokens state.frames state.head state.only_values present
    (group_ends present.levels present.part compared present.is_part)
holds_ends most tokens state (mode.GroupItem compared bits) present =
    bare_end most tokens state.frames state.head state.only_values present
    (item_ends present.levels present.part compared bits present.is_part)
holds_ends most tokens state (mode.GroupEnd compared bits) present =
    bare_end most tokens state.frames state.head state.only_values present
    (item_end_ends present.levels present.part compared bits present.is_part)
holds_ends most tokens state (mode.Test operand mask by number) present =
    bare_end most tokens state.frames state.head state.only_values present
    (test_ends present.levels present.part operand mask by number present.is_part)
