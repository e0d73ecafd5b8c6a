-- The grammar holds of a token after the tokens of a state: operands that end, and operands that begin.
use Rattle.std.proofs.Common.{◌≡◌, ℕ, zero, suc, Bool, true, false, cond, ltb, List, [], ◌∷◌, ◌++◌, Option, Some, None, Ok, Err, refl, subst, arith}
use Rattle.std.proofs.lemmas.Bool.{ltb-true}
use Rattle.filter_tokens.specs.declared.filter_error.FilterErrorKind.{FilterErrorKind}
use Rattle.filter_tokens.specs.declared.keyword.Keyword.{Keyword}
use Rattle.filter_tokens.specs.declared.keyword.Keyword.TheVariants as name
use Rattle.filter_tokens.specs.declared.network.Network.{Network}
use Rattle.filter_tokens.specs.declared.primitive.AddressLayer.{AddressLayer}
use Rattle.filter_tokens.specs.declared.primitive.AddressLayer.TheVariants as of
use Rattle.filter_tokens.specs.declared.primitive.FieldLayer.TheVariants as field
use Rattle.filter_tokens.specs.declared.primitive.IpVersion.TheVariants as version
use Rattle.filter_tokens.specs.declared.primitive.Operand.{Operand}
use Rattle.filter_tokens.specs.declared.primitive.Operand.TheVariants.{Length}
use Rattle.filter_tokens.specs.declared.primitive.PortProtocol.TheVariants as protocol
use Rattle.filter_tokens.specs.declared.primitive.Primitive.{Primitive}
use Rattle.filter_tokens.specs.declared.primitive.Primitive.TheVariants as primitive
use Rattle.filter_tokens.specs.declared.primitive.Relation.{Relation}
use Rattle.filter_tokens.specs.declared.primitive.Relation.TheVariants as comparison
use Rattle.filter_tokens.specs.declared.primitive.Side.{Side}
use Rattle.filter_tokens.specs.declared.primitive.Side.TheVariants.{Source, Destination, Either}
use Rattle.filter_tokens.specs.Tokens.{Token, keyword, and, or, not, left_parenthesis, right_parenthesis}
use Rattle.filter_language.specs.declared.head.Head.{Head}
use Rattle.filter_language.specs.declared.head.Head.TheVariants as head
use Rattle.filter_language.specs.declared.mode.Mode.{Mode}
use Rattle.filter_language.specs.declared.mode.Mode.TheVariants as mode
use Rattle.filter_language.specs.declared.mode.Sided.TheVariants.{Addresses}
use Rattle.filter_language.specs.Grammar.{IsBare, IsHead, IsValue, access, any_layer, any_protocol, any_version, bare_ah, bare_arp, bare_broadcast, bare_comparison, bare_esp, bare_icmp, bare_icmp6, bare_igmp, bare_ip, bare_ip6, bare_multicast, bare_sctp, bare_tcp, bare_udp, bare_vlan, destination, head_host, head_net, head_port, head_port_range, head_proto, len, no_side, one_word, source}
use Rattle.filter_language.specs.Primitives.{ethernet_broadcast, ethernet_multicast, number_test, protocol_test}
use Rattle.filter_language.specs.States.{Frame, State, Reading, expression, left_of_and, left_of_or, negating, opened, close_frames, finish_bare, join_frames, layer_primitive, levels_in, open_level, qualified, read_after, read_keyword, read_operand, settled_in, settled_layer}
use Rattle.filter_language.proofs.ContextLemmas.{Context, Filled, after_and, after_not, after_open, after_or, at_once, close, context_levels, filled}
use Rattle.filter_language.proofs.Standing.{After, IsPart, IsValuePart, IsValid, HoldsIn, bare_fills, begin, head_context, part_greater, part_host, part_layer, part_left, part_less, part_net, part_side, part_test, part_vlan, sided_addresses, value_fills}

-- ---- results

some_state : (state new : State) → Some state ≡ Some new → state ≡ new
some_state state new is = cc

ok_state : (state new : State) → ◌≡◌ {A = Reading} (Ok state) (Ok new) → state ≡ new
ok_state state new is = cc

-- A token that is not allowed leads to no state.
pub refused : {A : Type 0} (found : FilterErrorKind) (new : State) → ◌≡◌ {A = Reading} (Err found) (Ok new) → A
refused found new is = let never : ⊥ = cc in absurd never

not_settled : {A : Type 0} (new : State) → ◌≡◌ {A = Option State} None (Some new) → A
not_settled new is = let never : ⊥ = cc in absurd never

-- The state after a token is the state that was found.
pub read_ok : (most : ℕ) (tokens : List Token) (state new : State) → ◌≡◌ {A = Reading} (Ok state) (Ok new)
    → IsValid most tokens state → IsValid most tokens new
read_ok most tokens state new is holds = subst (IsValid most tokens) (ok_state state new is) holds

-- ---- operands that end

-- A part that is also another one.
pub change : {IsOne IsOther : ℕ → List Token → Type 0} (most : ℕ) (tokens : List Token) (frames : List Frame)
    (q : Option Head) (group only : Bool) → After most tokens frames q group only IsOne
    → ((levels : ℕ) (part : List Token) → IsOne levels part → IsOther levels part)
    → After most tokens frames q group only IsOther
change most tokens frames q group only present changed = record {
  levels = present.levels;
  prefix = present.prefix;
  part = present.part;
  joined = present.joined;
  context = present.context;
  is_part = changed present.levels present.part present.is_part;
}

-- An expression is complete after the tokens of a state.
abbrev pub IsComplete : (most : ℕ) → List Token → State → Type 0
IsComplete most tokens state = Filled most tokens state.frames state.head state.only_values

some_primitive : (found p : Primitive) → Some found ≡ Some p → found ≡ p
some_primitive found p is = cc

named_bare : (levels : ℕ) (layer : Keyword) (found p : Primitive) → IsBare levels (keyword layer ∷ []) found
    → Some found ≡ Some p → IsBare levels (keyword layer ∷ []) p
named_bare levels layer found p bare is =
    subst (IsBare levels (keyword layer ∷ [])) (some_primitive found p is) bare

no_primitive : {A : Type 0} (p : Primitive) → ◌≡◌ {A = Option Primitive} None (Some p) → A
no_primitive p is = let never : ⊥ = cc in absurd never

layer_bare : (levels : ℕ) (layer : Keyword) (p : Primitive) → layer_primitive layer ≡ Some p
    → IsBare levels (keyword layer ∷ []) p
layer_bare levels name.Ip p is = named_bare levels name.Ip _ p (bare_ip levels) is
layer_bare levels name.Ip6 p is = named_bare levels name.Ip6 _ p (bare_ip6 levels) is
layer_bare levels name.Arp p is = named_bare levels name.Arp _ p (bare_arp levels) is
layer_bare levels name.Tcp p is = named_bare levels name.Tcp _ p (bare_tcp levels) is
layer_bare levels name.Udp p is = named_bare levels name.Udp _ p (bare_udp levels) is
layer_bare levels name.Sctp p is = named_bare levels name.Sctp _ p (bare_sctp levels) is
layer_bare levels name.Icmp p is = named_bare levels name.Icmp _ p (bare_icmp levels) is
layer_bare levels name.Icmp6 p is = named_bare levels name.Icmp6 _ p (bare_icmp6 levels) is
layer_bare levels _ p is = no_primitive p is

part_bare : (levels : ℕ) (part : List Token) (layer : Keyword) (p : Primitive) → layer_primitive layer ≡ Some p
    → IsPart (mode.Layer layer) levels part → IsBare levels part p
part_bare _ _ _ p is (part_layer levels layer read found) = layer_bare levels layer p is

vlan_bare : (levels : ℕ) (part : List Token) → IsPart mode.Vlan levels part
    → IsBare levels part (primitive.Vlan None)
vlan_bare _ _ (part_vlan levels) = bare_vlan levels

pub test_bare : (levels : ℕ) (part : List Token) (operand : Operand) (mask : Option ℕ) (by : Relation) (number : ℕ)
    → IsPart (mode.Test operand mask by number) levels part
    → IsBare levels part (number_test operand mask by number)
test_bare _ _ _ _ _ _ (part_test levels left right operand mask by number is rights) =
    bare_comparison levels left right operand mask by number is rights

host_value : (h : Head) (part : List Token) (p : Primitive) → IsValuePart (mode.Host p) h part → IsValue h part p
host_value _ _ _ (part_host layer side text p is) = one_word (head.Host layer side) text p is

net_value : (h : Head) (part : List Token) (layer : AddressLayer) (side : Side) (network : Network)
    → IsValuePart (mode.Net layer side network) h part → IsValue h part (primitive.Address layer side network)
net_value _ _ _ _ _ (part_net layer side text network is family) =
    one_word (head.Net layer side) text (primitive.Address layer side network) (is, family, refl, refl)

settle_layer : (most : ℕ) (tokens : List Token) (state : State) (layer : Keyword) (found : Option Primitive)
    (final : State) → HoldsIn most tokens state (mode.Layer layer) → layer_primitive layer ≡ found
    → settled_layer state found ≡ Some final → IsComplete most tokens final
settle_layer most tokens state layer None final present name_is is = not_settled final is
settle_layer most tokens state layer (Some p) final present name_is is =
    subst (IsComplete most tokens) (some_state _ final is)
    (bare_fills most tokens state.frames state.head state.only_values p
    (change most tokens state.frames state.head state.only_values false present
    (λ levels part is_part. part_bare levels part layer p name_is is_part)))

-- An operand that can be complete is an operand of the grammar.
pub settle : (most : ℕ) (tokens : List Token) (state : State) (reading : Mode) (final : State)
    → HoldsIn most tokens state reading → settled_in state reading ≡ Some final → IsComplete most tokens final
settle most tokens state mode.Complete final present is =
    subst (IsComplete most tokens) (some_state state final is) present
settle most tokens state (mode.Layer layer) final present is =
    settle_layer most tokens state layer (layer_primitive layer) final present refl is
settle most tokens state (mode.Host p) final (only, h, in_use, present) is =
    subst (IsComplete most tokens) (some_state _ final is)
    (value_fills most tokens state.frames state.head state.only_values only h p in_use
    (change most tokens state.frames state.head state.only_values only present
    (λ levels part is_part. host_value h part p is_part)))
settle most tokens state (mode.Net layer side network) final (only, h, in_use, present) is =
    subst (IsComplete most tokens) (some_state _ final is)
    (value_fills most tokens state.frames state.head state.only_values only h
    (primitive.Address layer side network) in_use
    (change most tokens state.frames state.head state.only_values only present
    (λ levels part is_part. net_value h part layer side network is_part)))
settle most tokens state mode.Vlan final present is =
    subst (IsComplete most tokens) (some_state _ final is)
    (bare_fills most tokens state.frames state.head state.only_values (primitive.Vlan None)
    (change most tokens state.frames state.head state.only_values false present
    (λ levels part is_part. vlan_bare levels part is_part)))
settle most tokens state (mode.Test operand mask by number) final present is =
    subst (IsComplete most tokens) (some_state _ final is)
    (bare_fills most tokens state.frames state.head state.only_values (number_test operand mask by number)
    (change most tokens state.frames state.head state.only_values false present
    (λ levels part is_part. test_bare levels part operand mask by number is_part)))
settle most tokens state _ final present is = not_settled final is

-- ---- after an operand

and_reads : (most : ℕ) (tokens : List Token) (state new : State) (frames : List Frame)
    → Filled most tokens frames state.head state.only_values → join_frames state left_of_and frames ≡ Ok new
    → IsValid most (tokens ++ and ∷ []) new
and_reads most _ state new _ (filled levels prefix part frames q _ _ e present inside) is =
    read_ok _ _ _ _ is
    (levels, after_and levels prefix part frames q state.head state.only_values e present inside)

or_reads : (most : ℕ) (tokens : List Token) (state new : State) (frames : List Frame)
    → Filled most tokens frames state.head state.only_values → join_frames state left_of_or frames ≡ Ok new
    → IsValid most (tokens ++ or ∷ []) new
or_reads most _ state new _ (filled levels prefix part frames q _ _ e present inside) is =
    read_ok _ _ _ _ is
    (levels, after_or levels prefix part frames q state.head state.only_values e present inside)

close_reads : (most : ℕ) (tokens : List Token) (new : State) (frames : List Frame) (q : Option Head) (group : Bool)
    → Filled most tokens frames q group → close_frames frames ≡ Ok new
    → IsValid most (tokens ++ right_parenthesis ∷ []) new
close_reads most tokens new (expression e ∷ opened q only ∷ frames) after group present is =
    read_ok _ _ _ _ is (close most tokens frames q after group only e present)
close_reads most tokens new frames after group present is = refused _ new is

-- A token after an operand that can be complete.
pub after_reads : (most : ℕ) (tokens : List Token) (found : Option State) (token : Token) (new : State)
    → ((final : State) → found ≡ Some final → IsComplete most tokens final) → read_after found token ≡ Ok new
    → IsValid most (tokens ++ token ∷ []) new
after_reads most tokens None token new complete is = refused _ new is
after_reads most tokens (Some state) and new complete is =
    and_reads most tokens state new state.frames (complete state refl) is
after_reads most tokens (Some state) or new complete is =
    or_reads most tokens state new state.frames (complete state refl) is
after_reads most tokens (Some state) right_parenthesis new complete is =
    close_reads most tokens new state.frames state.head state.only_values (complete state refl) is
after_reads most tokens (Some state) _ new complete is = refused _ new is

-- ---- where an operand is expected

level_opened : (b : Bool) (state new : State) (found : FilterErrorKind)
    → ◌≡◌ {A = Reading} (cond b (Ok state) (Err found)) (Ok new) → (b ≡ true) × (state ≡ new)
level_opened true state new found is = (refl, ok_state state new is)
level_opened false state new found is = refused found new is

-- Where a level can be opened, one fewer can be opened after it.
one_less : (most levels : ℕ) (tokens : List Token) (frames : List Frame) (q : Option Head) (group only : Bool)
    → ltb (levels_in frames) most ≡ true → Context most levels tokens frames q group only
    → (less : ℕ) × Context most (suc less) tokens frames q group only
one_less most zero tokens frames q group only fits present =
    absurd (omega (
      arith,
      ltb-true (levels_in frames) most fits,
      context_levels most zero tokens frames q group only present,
    ))
one_less most (suc less) tokens frames q group only fits present = (less, present)

not_reads : (most : ℕ) (tokens : List Token) (state : State) (only : Bool) (new : State)
    → HoldsIn most tokens state (mode.Operand only)
    → open_level most state only negating state.only_values ≡ Ok new → IsValid most (tokens ++ not ∷ []) new
not_reads most tokens state only new (levels, present) is =
    let (fits, same) = level_opened (ltb (levels_in state.frames) most) _ new _ is in
    let (less, below) =
    one_less most levels tokens state.frames state.head state.only_values only fits present in
    subst (IsValid most (tokens ++ not ∷ [])) same
    (less, after_not less tokens state.frames state.head state.only_values only below)

open_reads : (most : ℕ) (tokens : List Token) (state : State) (only : Bool) (new : State)
    → HoldsIn most tokens state (mode.Operand only)
    → open_level most state only (opened state.head state.only_values) only ≡ Ok new
    → IsValid most (tokens ++ left_parenthesis ∷ []) new
open_reads most tokens state only new (levels, present) is =
    let (fits, same) = level_opened (ltb (levels_in state.frames) most) _ new _ is in
    let (less, below) =
    one_less most levels tokens state.frames state.head state.only_values only fits present in
    subst (IsValid most (tokens ++ left_parenthesis ∷ [])) same (
      less,
      at_once less (tokens ++ left_parenthesis ∷ []) (opened state.head state.only_values ∷ state.frames)
          state.head only (after_open less tokens state.frames state.head state.only_values only below),
    )

-- A keyword that begins a part, is an operand or is qualifiers.
begin_part : (most levels : ℕ) (tokens part : List Token) (state : State) (reading : Mode)
    → Context most levels tokens state.frames state.head state.only_values false → IsPart reading levels part
    → After most (tokens ++ part) state.frames state.head state.only_values false (IsPart reading)
begin_part most levels tokens part state reading present is =
    begin most levels tokens part state.frames state.head state.only_values false present is

begin_bare : (most levels : ℕ) (tokens part : List Token) (state : State) (p : Primitive)
    → Context most levels tokens state.frames state.head state.only_values false → IsBare levels part p
    → IsComplete most (tokens ++ part) (finish_bare state p)
begin_bare most levels tokens part state p present is =
    bare_fills most (tokens ++ part) state.frames state.head state.only_values p
    (begin most levels tokens part state.frames state.head state.only_values false present is)

begin_head : (most levels : ℕ) (tokens part : List Token) (state : State) (h : Head)
    → Context most levels tokens state.frames state.head state.only_values false → IsHead part h
    → HoldsIn most (tokens ++ part) (qualified state h) (mode.Operand true)
begin_head most levels tokens part state h present is =
    head_context most (tokens ++ part) state.frames state.head state.only_values h
    (begin most levels tokens part state.frames state.head state.only_values false present is)

keyword_reads : (most levels : ℕ) (tokens : List Token) (state : State) (first : Keyword) (new : State)
    → Context most levels tokens state.frames state.head state.only_values false → read_keyword state first ≡ Ok new
    → IsValid most (tokens ++ keyword first ∷ []) new
keyword_reads most levels tokens state name.Len new present is =
    read_ok _ _ _ _ is (begin_part most levels tokens _ state (mode.Left Length None) present
    (part_left levels _ Length None (access levels _ Length len)))
keyword_reads most levels tokens state name.Vlan new present is =
    read_ok _ _ _ _ is (begin_part most levels tokens _ state mode.Vlan present (part_vlan levels))
keyword_reads most levels tokens state name.Less new present is =
    read_ok _ _ _ _ is (begin_part most levels tokens _ state (mode.PacketLength comparison.LessOrEqual) present
    (part_less levels))
keyword_reads most levels tokens state name.Greater new present is =
    read_ok _ _ _ _ is (begin_part most levels tokens _ state (mode.PacketLength comparison.GreaterOrEqual) present
    (part_greater levels))
keyword_reads most levels tokens state name.Broadcast new present is =
    read_ok _ _ _ _ is (begin_bare most levels tokens _ state ethernet_broadcast present (bare_broadcast levels))
keyword_reads most levels tokens state name.Multicast new present is =
    read_ok _ _ _ _ is (begin_bare most levels tokens _ state ethernet_multicast present (bare_multicast levels))
keyword_reads most levels tokens state name.Igmp new present is =
    read_ok _ _ _ _ is (begin_bare most levels tokens _ state (protocol_test version.V4 2) present (bare_igmp levels))
keyword_reads most levels tokens state name.Ah new present is =
    read_ok _ _ _ _ is (begin_bare most levels tokens _ state (protocol_test version.Any 51) present (bare_ah levels))
keyword_reads most levels tokens state name.Esp new present is =
    read_ok _ _ _ _ is (begin_bare most levels tokens _ state (protocol_test version.Any 50) present (bare_esp levels))
keyword_reads most levels tokens state name.Proto new present is =
    read_ok _ _ _ _ is (begin_head most levels tokens _ state (head.Protocol version.Any) present
    (head_proto [] version.Any any_version))
keyword_reads most levels tokens state name.Src new present is =
    read_ok _ _ _ _ is (begin_part most levels tokens _ state (mode.Side (Addresses of.Any) Source) present
    (part_side levels (Addresses of.Any) Source [] _ (sided_addresses [] of.Any any_layer) source))
keyword_reads most levels tokens state name.Dst new present is =
    read_ok _ _ _ _ is (begin_part most levels tokens _ state (mode.Side (Addresses of.Any) Destination) present
    (part_side levels (Addresses of.Any) Destination [] _ (sided_addresses [] of.Any any_layer) destination))
keyword_reads most levels tokens state name.Host new present is =
    read_ok _ _ _ _ is (begin_head most levels tokens _ state (head.Host of.Any Either) present
    (head_host [] [] of.Any Either any_layer no_side))
keyword_reads most levels tokens state name.Net new present is =
    read_ok _ _ _ _ is (begin_head most levels tokens _ state (head.Net of.Any Either) present
    (head_net [] [] of.Any Either any_layer no_side))
keyword_reads most levels tokens state name.Port new present is =
    read_ok _ _ _ _ is (begin_head most levels tokens _ state (head.Port protocol.Any Either) present
    (head_port [] [] protocol.Any Either any_protocol no_side))
keyword_reads most levels tokens state name.PortRange new present is =
    read_ok _ _ _ _ is (begin_head most levels tokens _ state (head.PortRange protocol.Any Either) present
    (head_port_range [] [] protocol.Any Either any_protocol no_side))
keyword_reads most levels tokens state name.Mask new present is = refused _ new is
keyword_reads most levels tokens state name.Ip new present is =
    read_ok _ _ _ _ is (begin_part most levels tokens _ state (mode.Layer name.Ip) present
    (part_layer levels name.Ip field.Ipv4 refl))
keyword_reads most levels tokens state name.Ip6 new present is =
    read_ok _ _ _ _ is (begin_part most levels tokens _ state (mode.Layer name.Ip6) present
    (part_layer levels name.Ip6 field.Ipv6 refl))
keyword_reads most levels tokens state name.Arp new present is =
    read_ok _ _ _ _ is (begin_part most levels tokens _ state (mode.Layer name.Arp) present
    (part_layer levels name.Arp field.Arp refl))
keyword_reads most levels tokens state name.Tcp new present is =
    read_ok _ _ _ _ is (begin_part most levels tokens _ state (mode.Layer name.Tcp) present
    (part_layer levels name.Tcp field.Tcp refl))
keyword_reads most levels tokens state name.Udp new present is =
    read_ok _ _ _ _ is (begin_part most levels tokens _ state (mode.Layer name.Udp) present
    (part_layer levels name.Udp field.Udp refl))
keyword_reads most levels tokens state name.Sctp new present is =
    read_ok _ _ _ _ is (begin_part most levels tokens _ state (mode.Layer name.Sctp) present
    (part_layer levels name.Sctp field.Sctp refl))
keyword_reads most levels tokens state name.Icmp new present is =
    read_ok _ _ _ _ is (begin_part most levels tokens _ state (mode.Layer name.Icmp) present
    (part_layer levels name.Icmp field.Icmpv4 refl))
keyword_reads most levels tokens state name.Icmp6 new present is =
    read_ok _ _ _ _ is (begin_part most levels tokens _ state (mode.Layer name.Icmp6) present
    (part_layer levels name.Icmp6 field.Icmpv6 refl))
keyword_reads most levels tokens state name.Ether new present is =
    read_ok _ _ _ _ is (begin_part most levels tokens _ state (mode.Layer name.Ether) present
    (part_layer levels name.Ether field.Ethernet refl))

-- A token where an operand is expected.
pub operand_reads : (most : ℕ) (tokens : List Token) (state : State) (only : Bool) (token : Token) (new : State)
    → HoldsIn most tokens state (mode.Operand only) → read_operand most state only token ≡ Ok new
    → IsValid most (tokens ++ token ∷ []) new
operand_reads most tokens state only not new present is = not_reads most tokens state only new present is
operand_reads most tokens state only left_parenthesis new present is = open_reads most tokens state only new present is
operand_reads most tokens state false (keyword first) new (levels, present) is =
    keyword_reads most levels tokens state first new present is
operand_reads most tokens state only _ new present is = refused _ new is
