-- The grammar holds of a token after the tokens of a state: byte tests, words, and all tokens.
use Rattle.std.proofs.Common.{◌≡◌, ℕ, suc, Bool, true, false, List, [], ◌∷◌, ◌++◌, Option, Some, None, Ok, refl, ap, sym, ◌∙◌, subst, append_assoc}
use Rattle.std.specs.declared.net.ip_addr.IpAddr.{IpAddr}
use Rattle.std.specs.declared.net.ip_addr.IpAddr.TheVariants.{V4}
use Rattle.filter_tokens.specs.declared.primitive.AddressLayer.{AddressLayer}
use Rattle.filter_tokens.specs.declared.primitive.FieldLayer.{FieldLayer}
use Rattle.filter_tokens.specs.declared.primitive.Operand.{Operand}
use Rattle.filter_tokens.specs.declared.primitive.Operand.TheVariants.{Bytes}
use Rattle.filter_tokens.specs.declared.primitive.Primitive.{Primitive}
use Rattle.filter_tokens.specs.declared.primitive.Primitive.TheVariants as primitive
use Rattle.filter_tokens.specs.declared.primitive.Relation.{Relation}
use Rattle.filter_tokens.specs.declared.primitive.Side.{Side}
use Rattle.filter_tokens.specs.declared.primitive.Width.{Width}
use Rattle.filter_tokens.specs.declared.primitive.Width.TheVariants.{One}
use Rattle.filter_language.specs.declared.head.Head.{Head}
use Rattle.filter_language.specs.declared.head.Head.TheVariants as head
use Rattle.filter_language.specs.declared.mode.Comparison.{Comparison}
use Rattle.filter_language.specs.declared.mode.Mode.{Mode}
use Rattle.filter_language.specs.declared.mode.Mode.TheVariants as mode
use Rattle.filter_language.specs.declared.mode.Sided.{Sided}
use Rattle.std.proofs.lemmas.List.{append-nil}
use Rattle.filter_tokens.specs.Networks.{has_no_host_bits}
use Rattle.filter_tokens.specs.Tokens.{Token, word, relation, left_parenthesis, right_parenthesis, right_bracket, colon, slash, ampersand, bar, wrong}
use Rattle.filter_tokens.specs.Values.{IsConstant, IsFamily, IsLength, IsMask, IsNumberText, IsSizeText, most_number}
use Rattle.filter_language.specs.Grammar.{IsBare, IsLeft, IsUnion, IsValue, IsWordValue, access, bare_greater, bare_less, bare_vlan_with, constant, in_parentheses, left_in_parentheses, more_constants, one_byte, one_constant, one_word, with_length, with_mask, with_size}
use Rattle.filter_language.specs.Primitives.{length_test}
use Rattle.filter_language.specs.States.{Frame, State, Reads, ReadsValue, ReadsWord, Runs, opened, after_value, close_left, comparing, finish_bare, first_state, group_mode, in_mode, masking, more_tokens, no_tokens, qualified, read_group, read_group_end, read_in, read_left, read_offset_end, read_size_end, read_test, side_head, union}
use Rattle.filter_language.proofs.ContextLemmas.{Context, at_once, at_start, unopened}
use Rattle.filter_language.proofs.Standing.{After, IsItems, IsPart, IsValuePart, IsValid, HoldsIn, bare_fills, begin, compares, compares_more, extend, group_part, masks, no_items, part_greater, part_group, part_host, part_item, part_item_end, part_left, part_length, part_less, part_mask, part_net, part_offset, part_offset_end, part_size, part_size_end, part_test, part_vlan, some_items, value_fills}
use Rattle.filter_language.proofs.ReadLemmas.{after_reads, operand_reads, read_ok, refused, settle}
use Rattle.filter_language.proofs.LayerReadLemmas.{layer_reads}
use Rattle.filter_language.proofs.SideReadLemmas.{host_reads, net_reads, other_side_reads, side_context, side_reads}

-- ---- byte tests

offset_size : (levels : ℕ) (part : List Token) (layer : FieldLayer) (offset : ℕ)
    → IsPart (mode.OffsetEnd layer offset) levels part → IsPart (mode.Size layer offset) levels (part ++ colon ∷ [])
offset_size _ _ _ _ (part_offset_end levels layer read text offset field is) =
    part_size levels layer read text offset field is

-- One byte of a layer, after its offset.
pub offset_left : (levels : ℕ) (part : List Token) (layer : FieldLayer) (offset : ℕ)
    → IsPart (mode.OffsetEnd layer offset) levels part
    → IsPart (mode.Left (Bytes layer offset One) None) levels (part ++ right_bracket ∷ [])
offset_left _ _ _ _ (part_offset_end levels layer read text offset field is) =
    part_left levels _ (Bytes read offset One) None (access levels _ _ (one_byte layer read text offset field is))

-- Bytes of a layer, after their number.
pub size_left : (levels : ℕ) (part : List Token) (layer : FieldLayer) (offset : ℕ) (width : Width)
    → IsPart (mode.SizeEnd layer offset width) levels part
    → IsPart (mode.Left (Bytes layer offset width) None) levels (part ++ right_bracket ∷ [])
size_left _ _ _ _ _ (part_size_end levels layer read text size offset width field is sized) =
    part_left levels _ (Bytes read offset width) None
    (access levels _ _ (with_size layer read text size offset width field is sized))

pub left_is : (levels : ℕ) (part : List Token) (operand : Operand) (mask : Option ℕ)
    → IsPart (mode.Left operand mask) levels part → IsLeft levels part operand mask
left_is _ _ _ _ (part_left levels part operand mask is) = is

part_reads : (most : ℕ) (tokens : List Token) (state : State) (reading following : Mode) (token : Token)
    → After most tokens state.frames state.head state.only_values false (IsPart reading)
    → ((levels : ℕ) (part : List Token) → IsPart reading levels part → IsPart following levels (part ++ token ∷ []))
    → After most (tokens ++ token ∷ []) state.frames state.head state.only_values false (IsPart following)
part_reads most tokens state reading following token present longer =
    extend most tokens (token ∷ []) state.frames state.head state.only_values false present longer

offset_end_reads : (most : ℕ) (tokens : List Token) (state : State) (layer : FieldLayer) (offset : ℕ) (token : Token)
    (new : State) → HoldsIn most tokens state (mode.OffsetEnd layer offset)
    → read_offset_end state layer offset token ≡ Ok new → IsValid most (tokens ++ token ∷ []) new
offset_end_reads most tokens state layer offset colon new present is =
    read_ok _ _ _ _ is
    (part_reads most tokens state _ _ colon present (λ levels part is_part. offset_size levels part layer offset is_part))
offset_end_reads most tokens state layer offset right_bracket new present is =
    read_ok _ _ _ _ is
    (part_reads most tokens state _ _ right_bracket present
    (λ levels part is_part. offset_left levels part layer offset is_part))
offset_end_reads most tokens state layer offset _ new present is = refused _ new is

size_end_reads : (most : ℕ) (tokens : List Token) (state : State) (layer : FieldLayer) (offset : ℕ) (width : Width)
    (token : Token) (new : State) → HoldsIn most tokens state (mode.SizeEnd layer offset width)
    → read_size_end state layer offset width token ≡ Ok new → IsValid most (tokens ++ token ∷ []) new
size_end_reads most tokens state layer offset width right_bracket new present is =
    read_ok _ _ _ _ is
    (part_reads most tokens state _ _ right_bracket present
    (λ levels part is_part. size_left levels part layer offset width is_part))
size_end_reads most tokens state layer offset width _ new present is = refused _ new is

close_left_reads : (most : ℕ) (tokens : List Token) (state : State) (operand : Operand) (mask : Option ℕ)
    (frames : List Frame) (q : Option Head) (group : Bool) (new : State)
    → After most tokens frames q group false (IsPart (mode.Left operand mask))
    → close_left state operand mask frames ≡ Ok new → IsValid most (tokens ++ right_parenthesis ∷ []) new
close_left_reads most tokens state operand mask (opened q only ∷ frames) after group new present is =
    let (before, prefix_is, context) =
    unopened most present.levels present.prefix frames q after group only present.context in
    read_ok _ _ _ _ is
    (record {
      levels = suc present.levels;
      prefix = before;
      part = left_parenthesis ∷ present.part ++ right_parenthesis ∷ [];
      joined =
          ap (λ list. list ++ right_parenthesis ∷ []) (present.joined ∙ ap (λ list. list ++ present.part) prefix_is)
          ∙ append_assoc (before ++ left_parenthesis ∷ []) present.part (right_parenthesis ∷ [])
          ∙ append_assoc before (left_parenthesis ∷ []) (present.part ++ right_parenthesis ∷ []);
      context = context;
      is_part = part_left (suc present.levels) _ operand mask
          (left_in_parentheses present.levels present.part operand mask
          (left_is present.levels present.part operand mask present.is_part));
    })
close_left_reads most tokens state operand mask frames after group new present is = refused _ new is

left_masks : (levels : ℕ) (part : List Token) (operand : Operand) → IsPart (mode.Left operand None) levels part
    → IsPart (mode.Group (masking operand)) levels (part ++ ampersand ∷ [])
left_masks _ _ _ (part_left levels part operand _ is) =
    part_group levels (part ++ ampersand ∷ []) (masking operand) (masks levels part operand is)

left_compares : (levels : ℕ) (part : List Token) (operand : Operand) (mask : Option ℕ) (by : Relation)
    → IsPart (mode.Left operand mask) levels part
    → IsPart (mode.Group (comparing operand mask by None)) levels (part ++ relation by ∷ [])
left_compares _ _ _ _ by (part_left levels part operand mask is) =
    part_group levels (part ++ relation by ∷ []) (comparing operand mask by None)
    (compares levels part operand mask by is)

left_reads : (most : ℕ) (tokens : List Token) (state : State) (operand : Operand) (mask : Option ℕ) (token : Token)
    (new : State) → HoldsIn most tokens state (mode.Left operand mask)
    → read_left state operand mask token ≡ Ok new → IsValid most (tokens ++ token ∷ []) new
left_reads most tokens state operand None ampersand new present is =
    read_ok _ _ _ _ is
    (part_reads most tokens state _ _ ampersand present (λ levels part is_part. left_masks levels part operand is_part))
left_reads most tokens state operand mask right_parenthesis new present is =
    close_left_reads most tokens state operand mask state.frames state.head state.only_values new present is
left_reads most tokens state operand mask (relation by) new present is =
    read_ok _ _ _ _ is
    (part_reads most tokens state _ _ (relation by) present
    (λ levels part is_part. left_compares levels part operand mask by is_part))
left_reads most tokens state operand mask _ new present is = refused _ new is

group_opens : (levels : ℕ) (part : List Token) (compared : Comparison) → IsPart (mode.Group compared) levels part
    → IsPart (mode.GroupItem compared None) levels (part ++ left_parenthesis ∷ [])
group_opens _ _ _ (part_group levels part compared is) = part_item levels part [] compared None is no_items

group_reads : (most : ℕ) (tokens : List Token) (state : State) (compared : Comparison) (token : Token) (new : State)
    → HoldsIn most tokens state (mode.Group compared) → read_group state compared token ≡ Ok new
    → IsValid most (tokens ++ token ∷ []) new
group_reads most tokens state compared left_parenthesis new present is =
    read_ok _ _ _ _ is
    (part_reads most tokens state _ _ left_parenthesis present
    (λ levels part is_part. group_opens levels part compared is_part))
group_reads most tokens state compared _ new present is = refused _ new is

-- The mode after constants.
grouped : (most : ℕ) (tokens : List Token) (state : State) (compared : Comparison) (by : Option Relation) (number : ℕ)
    → After most tokens state.frames state.head state.only_values false (IsPart (group_mode compared by number))
    → HoldsIn most tokens state (group_mode compared by number)
grouped most tokens state compared None number present = present
grouped most tokens state compared (Some by) number present = present

item_continues : (levels : ℕ) (part : List Token) (compared : Comparison) (bits : ℕ)
    → IsPart (mode.GroupEnd compared bits) levels part
    → IsPart (mode.GroupItem compared (Some bits)) levels (part ++ bar ∷ [])
item_continues _ _ _ _ (part_item_end levels part items compared bits is constants) =
    subst (IsPart (mode.GroupItem compared (Some bits)) levels)
    (sym (append_assoc part (left_parenthesis ∷ items) (bar ∷ [])))
    (part_item levels part (items ++ bar ∷ []) compared (Some bits) is (some_items items bits constants))

-- Constants in parentheses.
pub item_closes : (levels : ℕ) (part : List Token) (compared : Comparison) (bits : ℕ)
    → IsPart (mode.GroupEnd compared bits) levels part
    → IsPart (group_mode compared compared.relation bits) levels (part ++ right_parenthesis ∷ [])
item_closes _ _ _ _ (part_item_end levels part items compared bits is constants) =
    subst (IsPart (group_mode compared compared.relation bits) levels)
    (sym (append_assoc part (left_parenthesis ∷ items) (right_parenthesis ∷ [])))
    (group_part levels part (left_parenthesis ∷ items ++ right_parenthesis ∷ []) compared bits is
    (in_parentheses items bits constants))

group_end_reads : (most : ℕ) (tokens : List Token) (state : State) (compared : Comparison) (bits : ℕ) (token : Token)
    (new : State) → HoldsIn most tokens state (mode.GroupEnd compared bits)
    → read_group_end state compared bits token ≡ Ok new → IsValid most (tokens ++ token ∷ []) new
group_end_reads most tokens state compared bits bar new present is =
    read_ok _ _ _ _ is
    (part_reads most tokens state _ _ bar present
    (λ levels part is_part. item_continues levels part compared bits is_part))
group_end_reads most tokens state compared bits right_parenthesis new present is =
    read_ok most (tokens ++ right_parenthesis ∷ []) (in_mode state (group_mode compared compared.relation bits)) new is
    (grouped most (tokens ++ right_parenthesis ∷ []) state compared compared.relation bits
    (part_reads most tokens state _ _ right_parenthesis present
    (λ levels part is_part. item_closes levels part compared bits is_part)))
group_end_reads most tokens state compared bits _ new present is = refused _ new is

test_continues : (levels : ℕ) (part : List Token) (operand : Operand) (mask : Option ℕ) (by : Relation) (number : ℕ)
    → IsPart (mode.Test operand mask by number) levels part
    → IsPart (mode.Group (comparing operand mask by (Some number))) levels (part ++ bar ∷ [])
test_continues _ _ _ _ _ _ (part_test levels left right operand mask by number is rights) =
    part_group levels (left ++ relation by ∷ right ++ bar ∷ []) (comparing operand mask by (Some number))
    (compares_more levels left right operand mask by number is rights)

test_reads : (most : ℕ) (tokens : List Token) (state : State) (operand : Operand) (mask : Option ℕ) (by : Relation)
    (number : ℕ) (token : Token) (new : State) → HoldsIn most tokens state (mode.Test operand mask by number)
    → read_test state operand mask by number token ≡ Ok new → IsValid most (tokens ++ token ∷ []) new
test_reads most tokens state operand mask by number bar new present is =
    read_ok _ _ _ _ is
    (part_reads most tokens state _ _ bar present
    (λ levels part is_part. test_continues levels part operand mask by number is_part))
test_reads most tokens state operand mask by number ampersand new present is = refused _ new is
test_reads most tokens state operand mask by number slash new present is = refused _ new is
test_reads most tokens state operand mask by number token new present is =
    after_reads most tokens (Some (finish_bare state _)) token new
    (λ final settled. settle most tokens state (mode.Test operand mask by number) final present settled) is

-- ---- words

-- A state that is given by an equation.
is_at : (most : ℕ) (tokens : List Token) (new found : State) → new ≡ found → IsValid most tokens found
    → IsValid most tokens new
is_at most tokens new found same holds = subst (IsValid most tokens) (sym same) holds

value_reads : (most levels : ℕ) (tokens : List Token) (state : State) (only : Bool) (h : Head) (text : List ℕ)
    (p : Primitive) (new : State) → Context most levels tokens state.frames (Some h) state.only_values only
    → IsWordValue h text p → new ≡ after_value (qualified state h) h p → IsValid most (tokens ++ word text ∷ []) new
value_reads most levels tokens state only (head.Host layer side) text p new present is same =
    is_at _ _ _ _ same (
      only,
      head.Host layer side,
      refl,
      begin most levels tokens (word text ∷ []) state.frames (Some (head.Host layer side)) state.only_values only present
          (part_host layer side text p is),
    )
value_reads most levels tokens state only (head.Net layer side) text (primitive.Address layer' side' network) new present
    (is, family, layer_is, side_is) same =
    let belongs : IsFamily layer' network.address =
    subst (λ found. IsFamily found network.address) (sym layer_is) family in
    is_at _ _ _ _ same (
      only,
      head.Net layer' side',
      (λ i. Some (head.Net (sym layer_is i) (sym side_is i))),
      begin most levels tokens (word text ∷ []) state.frames (Some (head.Net layer side)) state.only_values only present
          (part_net layer' side' text network is belongs),
    )
value_reads most levels tokens state only (head.Net layer side) text _ new present is same = absurd is
value_reads most levels tokens state only h text p new present is same =
    is_at _ _ _ _ same
    (value_fills most (tokens ++ word text ∷ []) state.frames (Some h) state.only_values only h p refl
    (begin most levels tokens (word text ∷ []) state.frames (Some h) state.only_values only present
    (one_word h text p is)))

found_value_reads : (most levels : ℕ) (tokens : List Token) (state : State) (only : Bool) (found : Option Head)
    (text : List ℕ) (new : State) → Context most levels tokens state.frames found state.only_values only
    → ReadsValue state found text new → IsValid most (tokens ++ word text ∷ []) new
found_value_reads most levels tokens state only None text new present is = absurd is
found_value_reads most levels tokens state only (Some h) text new present (p, is, same) =
    value_reads most levels tokens state only h text p new present is same

side_value_reads : (most : ℕ) (tokens : List Token) (state : State) (sided : Sided) (side : Side) (found : Option Head)
    (text : List ℕ) (new : State) → HoldsIn most tokens state (mode.Side sided side) → side_head sided side ≡ found
    → ReadsValue state found text new → IsValid most (tokens ++ word text ∷ []) new
side_value_reads most tokens state sided side None text new present found is = absurd is
side_value_reads most tokens state sided side (Some h) text new present found (p, is, same) =
    let (levels, context) = side_context most tokens state sided side h found present in
    value_reads most levels tokens state true h text p new context is same

length_value : (h : Head) (part : List Token) (layer : AddressLayer) (side : Side) (address : IpAddr) (text : List ℕ)
    (bits : ℕ) → IsLength address text bits → has_no_host_bits (record { address = address; bits = bits }) ≡ true
    → IsValuePart (mode.Length layer side address) h part
    → IsValue h (part ++ word text ∷ []) (primitive.Address layer side (record { address = address; bits = bits }))
length_value _ _ _ _ _ text bits is fits (part_length layer side address_text address width network family) =
    with_length layer side address_text text (record { address = address; bits = width }) bits network family is fits

mask_value : (h : Head) (part : List Token) (layer : AddressLayer) (side : Side) (address : IpAddr) (text : List ℕ)
    (bits : ℕ) → IsMask address text bits → has_no_host_bits (record { address = address; bits = bits }) ≡ true
    → IsValuePart (mode.Mask layer side address) h part
    → IsValue h (part ++ word text ∷ []) (primitive.Address layer side (record { address = address; bits = bits }))
mask_value _ _ _ _ _ text bits is fits (part_mask layer side address_text address width network family) =
    with_mask layer side address_text text (record { address = V4 address; bits = width }) bits network family is fits

vlan_value : (levels : ℕ) (part : List Token) (text : List ℕ) (id : ℕ) → IsNumberText 4095 text id
    → IsPart mode.Vlan levels part → IsBare levels (part ++ word text ∷ []) (primitive.Vlan (Some id))
vlan_value _ _ text id is (part_vlan levels) = bare_vlan_with levels text id is

-- `less` or `greater` with a number.
pub packet_length : (levels : ℕ) (part : List Token) (by : Relation) (text : List ℕ) (number : ℕ)
    → IsNumberText most_number text number → IsPart (mode.PacketLength by) levels part
    → IsBare levels (part ++ word text ∷ []) (length_test by number)
packet_length _ _ _ text number is (part_less levels) = bare_less levels text number is
packet_length _ _ _ text number is (part_greater levels) = bare_greater levels text number is

pub offset_end : (levels : ℕ) (part : List Token) (layer : FieldLayer) (text : List ℕ) (offset : ℕ)
    → IsConstant text offset → IsPart (mode.Offset layer) levels part
    → IsPart (mode.OffsetEnd layer offset) levels (part ++ word text ∷ [])
offset_end _ _ _ text offset is (part_offset levels layer read field) =
    part_offset_end levels layer read text offset field is

pub size_end : (levels : ℕ) (part : List Token) (layer : FieldLayer) (offset : ℕ) (text : List ℕ) (width : Width)
    → IsSizeText text width → IsPart (mode.Size layer offset) levels part
    → IsPart (mode.SizeEnd layer offset width) levels (part ++ word text ∷ [])
size_end _ _ _ _ text width is (part_size levels layer read offset_text offset field found) =
    part_size_end levels layer read offset_text text offset width field found is

-- A constant after the tokens before a group.
pub constant_part : (levels : ℕ) (part : List Token) (compared : Comparison) (text : List ℕ) (number : ℕ)
    → IsConstant text number → IsPart (mode.Group compared) levels part
    → IsPart (group_mode compared compared.relation number) levels (part ++ word text ∷ [])
constant_part _ _ _ text number is (part_group levels part compared before) =
    group_part levels part (word text ∷ []) compared number before (constant text number is)

one_item : (items : List Token) (bits : Option ℕ) (text : List ℕ) (number : ℕ) → IsConstant text number
    → IsItems items bits → IsUnion (items ++ word text ∷ []) (union bits number)
one_item _ _ text number is no_items = one_constant text number is
one_item _ _ text number is (some_items items bits before) =
    subst (λ list. IsUnion list (union (Some bits) number)) (sym (append_assoc items (bar ∷ []) (word text ∷ [])))
    (more_constants items text bits number before is)

-- A constant in a parenthesis.
pub item_part : (levels : ℕ) (part : List Token) (compared : Comparison) (bits : Option ℕ) (text : List ℕ) (number : ℕ)
    → IsConstant text number → IsPart (mode.GroupItem compared bits) levels part
    → IsPart (mode.GroupEnd compared (union bits number)) levels (part ++ word text ∷ [])
item_part _ _ _ _ text number is (part_item levels part items compared bits before constants) =
    subst (IsPart (mode.GroupEnd compared (union bits number)) levels)
    (sym (append_assoc part (left_parenthesis ∷ items) (word text ∷ [])))
    (part_item_end levels part (items ++ word text ∷ []) compared (union bits number) before
    (one_item items bits text number is constants))

-- A word after the tokens of a state.
words_read : (most : ℕ) (tokens : List Token) (state : State) (reading : Mode) (text : List ℕ) (new : State)
    → HoldsIn most tokens state reading → ReadsWord state reading text new
    → IsValid most (tokens ++ word text ∷ []) new
words_read most tokens state (mode.Operand only) text new (levels, present) is =
    found_value_reads most levels tokens state only state.head text new present is
words_read most tokens state (mode.Side sided side) text new present is =
    side_value_reads most tokens state sided side (side_head sided side) text new present refl is
words_read most tokens state (mode.Length layer side address) text new (only, h, in_use, present) (bits, is, fits, same) =
    is_at _ _ _ _ same
    (value_fills most (tokens ++ word text ∷ []) state.frames state.head state.only_values only h _ in_use
    (extend most tokens (word text ∷ []) state.frames state.head state.only_values only present
    (λ levels part is_part. length_value h part layer side address text bits is fits is_part)))
words_read most tokens state (mode.Mask layer side address) text new (only, h, in_use, present) (bits, is, fits, same) =
    is_at _ _ _ _ same
    (value_fills most (tokens ++ word text ∷ []) state.frames state.head state.only_values only h _ in_use
    (extend most tokens (word text ∷ []) state.frames state.head state.only_values only present
    (λ levels part is_part. mask_value h part layer side address text bits is fits is_part)))
words_read most tokens state mode.Vlan text new present (id, is, same) =
    is_at _ _ _ _ same
    (bare_fills most (tokens ++ word text ∷ []) state.frames state.head state.only_values _
    (extend most tokens (word text ∷ []) state.frames state.head state.only_values false present
    (λ levels part is_part. vlan_value levels part text id is is_part)))
words_read most tokens state (mode.PacketLength by) text new present (number, is, same) =
    is_at _ _ _ _ same
    (bare_fills most (tokens ++ word text ∷ []) state.frames state.head state.only_values _
    (extend most tokens (word text ∷ []) state.frames state.head state.only_values false present
    (λ levels part is_part. packet_length levels part by text number is is_part)))
words_read most tokens state (mode.Offset layer) text new present (number, is, same) =
    is_at _ _ _ _ same
    (part_reads most tokens state _ _ (word text) present
    (λ levels part is_part. offset_end levels part layer text number is is_part))
words_read most tokens state (mode.Size layer offset) text new present (width, is, same) =
    is_at _ _ _ _ same
    (part_reads most tokens state _ _ (word text) present
    (λ levels part is_part. size_end levels part layer offset text width is is_part))
words_read most tokens state (mode.Group compared) text new present (number, is, same) =
    is_at _ _ _ (in_mode state (group_mode compared compared.relation number)) same
    (grouped most (tokens ++ word text ∷ []) state compared compared.relation number
    (part_reads most tokens state _ _ (word text) present
    (λ levels part is_part. constant_part levels part compared text number is is_part)))
words_read most tokens state (mode.GroupItem compared bits) text new present (number, is, same) =
    is_at _ _ _ _ same
    (part_reads most tokens state _ _ (word text) present
    (λ levels part is_part. item_part levels part compared bits text number is is_part))
words_read most tokens state _ text new present is = absurd is

-- ---- all tokens

-- A token that is no word, after the tokens of a state.
plain_reads : (most : ℕ) (tokens : List Token) (state : State) (reading : Mode) (token : Token) (new : State)
    → HoldsIn most tokens state reading → read_in most state reading token ≡ Ok new
    → IsValid most (tokens ++ token ∷ []) new
plain_reads most tokens state (mode.Operand only) token new present is =
    operand_reads most tokens state only token new present is
plain_reads most tokens state mode.Complete token new present is =
    after_reads most tokens (Some state) token new
    (λ final settled. settle most tokens state mode.Complete final present settled) is
plain_reads most tokens state (mode.Layer layer) token new present is =
    layer_reads most tokens state layer token new present is
plain_reads most tokens state (mode.Side sided side) token new present is =
    side_reads most tokens state sided side token new present is
plain_reads most tokens state (mode.OtherSide sided expected side) token new present is =
    other_side_reads most tokens state sided expected side token new present is
plain_reads most tokens state (mode.Host p) token new present is = host_reads most tokens state p token new present is
plain_reads most tokens state (mode.Net layer side network) token new present is =
    net_reads most tokens state layer side network token new present is
plain_reads most tokens state mode.Vlan token new present is =
    after_reads most tokens (Some (finish_bare state (primitive.Vlan None))) token new
    (λ final settled. settle most tokens state mode.Vlan final present settled) is
plain_reads most tokens state (mode.OffsetEnd layer offset) token new present is =
    offset_end_reads most tokens state layer offset token new present is
plain_reads most tokens state (mode.SizeEnd layer offset width) token new present is =
    size_end_reads most tokens state layer offset width token new present is
plain_reads most tokens state (mode.Left operand mask) token new present is =
    left_reads most tokens state operand mask token new present is
plain_reads most tokens state (mode.Group compared) token new present is =
    group_reads most tokens state compared token new present is
plain_reads most tokens state (mode.GroupEnd compared bits) token new present is =
    group_end_reads most tokens state compared bits token new present is
plain_reads most tokens state (mode.Test operand mask by number) token new present is =
    test_reads most tokens state operand mask by number token new present is
plain_reads most tokens state _ token new present is = refused _ new is

-- A token after the tokens of a state.
pub reads_stand : (most : ℕ) (tokens : List Token) (state new : State) (token : Token) → IsValid most tokens state
    → Reads most state token new → IsValid most (tokens ++ token ∷ []) new
reads_stand most tokens state new (word text) present is = words_read most tokens state state.mode text new present is
reads_stand most tokens state new (wrong own) present is = absurd is
reads_stand most tokens state new token present is = plain_reads most tokens state state.mode token new present is

run_holds : (most : ℕ) (prefix tokens : List Token) (state new : State) → IsValid most prefix state
    → Runs most state tokens new → IsValid most (prefix ++ tokens) new
run_holds most prefix _ _ _ present (no_tokens state) =
    subst (λ list. IsValid most list state) (sym (append-nil prefix)) present
run_holds most prefix _ _ _ present (more_tokens state between new token tokens read others) =
    subst (λ list. IsValid most list new) (append_assoc prefix (token ∷ []) tokens)
    (run_holds most (prefix ++ token ∷ []) tokens between new
    (reads_stand most prefix state between token present read) others)

-- The grammar's description of the tokens that the parser has read.
pub runs_stand : (most : ℕ) (tokens : List Token) (state : State) → Runs most first_state tokens state
    → IsValid most tokens state
runs_stand most tokens state runs =
    run_holds most [] tokens first_state state (most, at_once most [] [] None false at_start) runs
