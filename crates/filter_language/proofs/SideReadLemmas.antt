-- The grammar holds of a token after the tokens of a state: sides and values.
use Rattle.std.proofs.Common.{◌≡◌, ℕ, true, false, List, [], ◌∷◌, ◌++◌, Option, Some, None, Ok, refl, sym, subst, append_assoc}
use Rattle.std.specs.declared.net.ip_addr.IpAddr.{IpAddr}
use Rattle.std.specs.declared.net.ip_addr.IpAddr.TheVariants.{V4, V6}
use Rattle.std.specs.declared.net.ipv4_addr.Ipv4Addr.{Ipv4Addr}
use Rattle.filter_tokens.specs.declared.keyword.Keyword.{Keyword}
use Rattle.filter_tokens.specs.declared.keyword.Keyword.TheVariants as name
use Rattle.filter_tokens.specs.declared.network.Network.{Network}
use Rattle.filter_tokens.specs.declared.primitive.AddressLayer.{AddressLayer}
use Rattle.filter_tokens.specs.declared.primitive.AddressLayer.TheVariants as of
use Rattle.filter_tokens.specs.declared.primitive.PortProtocol.{PortProtocol}
use Rattle.filter_tokens.specs.declared.primitive.PortProtocol.TheVariants as protocol
use Rattle.filter_tokens.specs.declared.primitive.Primitive.{Primitive}
use Rattle.filter_tokens.specs.declared.primitive.Primitive.TheVariants as primitive
use Rattle.filter_tokens.specs.declared.primitive.Side.{Side}
use Rattle.filter_tokens.specs.declared.primitive.Side.TheVariants.{Source, Destination, Either, Both}
use Rattle.filter_tokens.specs.Tokens.{Token, keyword, and, or, slash}
use Rattle.filter_tokens.specs.Values.{IsFamily, IsNetworkText}
use Rattle.filter_language.specs.declared.head.Head.{Head}
use Rattle.filter_language.specs.declared.head.Head.TheVariants as head
use Rattle.filter_language.specs.declared.mode.Mode.TheVariants as mode
use Rattle.filter_language.specs.declared.mode.Sided.{Sided}
use Rattle.filter_language.specs.declared.mode.Sided.TheVariants.{Addresses, Stations, Ports}
use Rattle.filter_language.specs.Grammar.{IsHead, IsSide, any_layer, any_protocol, destination, destination_and, destination_or, head_host, head_host_left_out, head_net, head_port, head_port_range, head_station, head_station_left_out, source, source_and, source_or, written_side, src, dst}
use Rattle.filter_language.specs.States.{State, Reading, finish_value, in_mode, qualified, read_host, read_mask_word, read_net, read_other_side, read_side, read_side_values, read_sided, read_sided_word, side_head}
use Rattle.filter_language.proofs.Standing.{IsPart, IsSided, IsValuePart, IsValid, HoldsIn, destination_and_next, destination_or_next, extend, head_context, part_first_side, part_length, part_mask, part_net, part_side, sided_addresses, sided_ports, sided_stations, source_and_next, source_or_next}
use Rattle.filter_language.proofs.ReadLemmas.{after_reads, change, operand_reads, read_ok, refused, settle}

-- ---- sides

some_head : (found h : Head) → Some found ≡ Some h → found ≡ h
some_head found h is = cc

no_head : {A : Type 0} (h : Head) → ◌≡◌ {A = Option Head} None (Some h) → A
no_head h is = let never : ⊥ = cc in absurd never

sided_head : (layers sides : List Token) (sided : Sided) (side : Side) (h : Head) → IsSided layers sided
    → IsSide sides side → side_head sided side ≡ Some h → IsHead (layers ++ sides) h
sided_head _ sides _ side h (sided_addresses layers layer before) written is =
    subst (IsHead (layers ++ sides)) (some_head _ h is) (head_host_left_out layers sides layer side before written)
sided_head _ sides _ side h sided_stations written is =
    subst (IsHead (keyword name.Ether ∷ sides)) (some_head _ h is) (head_station_left_out sides side written)
sided_head _ sides _ side h (sided_ports protocols ports before) written is = no_head h is

-- The qualifiers that a side is by itself.
pub side_is_head : (levels : ℕ) (part : List Token) (sided : Sided) (side : Side) (h : Head)
    → side_head sided side ≡ Some h → IsPart (mode.Side sided side) levels part → IsHead part h
side_is_head _ _ _ _ h is (part_side levels sided side layers sides before written) =
    sided_head layers sides sided side h before written is

-- Values can follow the qualifiers that a side is by itself.
pub side_context : (most : ℕ) (tokens : List Token) (state : State) (sided : Sided) (side : Side) (h : Head)
    → side_head sided side ≡ Some h → HoldsIn most tokens state (mode.Side sided side)
    → HoldsIn most tokens (qualified state h) (mode.Operand true)
side_context most tokens state sided side h is present =
    head_context most tokens state.frames state.head state.only_values h
    (change most tokens state.frames state.head state.only_values false present
    (λ levels part is_part. side_is_head levels part sided side h is is_part))

values_read : (most : ℕ) (tokens : List Token) (state : State) (sided : Sided) (side : Side) (found : Option Head)
    (token : Token) (new : State) → HoldsIn most tokens state (mode.Side sided side) → side_head sided side ≡ found
    → read_side_values most state found token ≡ Ok new → IsValid most (tokens ++ token ∷ []) new
values_read most tokens state sided side None token new present found is = refused _ new is
values_read most tokens state sided side (Some h) token new present found is =
    operand_reads most tokens (qualified state h) true token new
    (side_context most tokens state sided side h found present) is

address_host : (levels : ℕ) (part : List Token) (layer : AddressLayer) (side : Side)
    → IsPart (mode.Side (Addresses layer) side) levels part
    → IsHead (part ++ keyword name.Host ∷ []) (head.Host layer side)
address_host _ _ _ _ (part_side levels _ side layers sides (sided_addresses _ layer before) written) =
    head_host layers sides layer side before (written_side sides side written)

address_net : (levels : ℕ) (part : List Token) (layer : AddressLayer) (side : Side)
    → IsPart (mode.Side (Addresses layer) side) levels part
    → IsHead (part ++ keyword name.Net ∷ []) (head.Net layer side)
address_net _ _ _ _ (part_side levels _ side layers sides (sided_addresses _ layer before) written) =
    head_net layers sides layer side before (written_side sides side written)

any_port : (levels : ℕ) (part : List Token) (side : Side) → IsPart (mode.Side (Addresses of.Any) side) levels part
    → IsHead (part ++ keyword name.Port ∷ []) (head.Port protocol.Any side)
any_port _ _ _ (part_side levels _ side _ sides (sided_addresses _ _ any_layer) written) =
    head_port [] sides protocol.Any side any_protocol (written_side sides side written)

any_port_range : (levels : ℕ) (part : List Token) (side : Side)
    → IsPart (mode.Side (Addresses of.Any) side) levels part
    → IsHead (part ++ keyword name.PortRange ∷ []) (head.PortRange protocol.Any side)
any_port_range _ _ _ (part_side levels _ side _ sides (sided_addresses _ _ any_layer) written) =
    head_port_range [] sides protocol.Any side any_protocol (written_side sides side written)

station_host : (levels : ℕ) (part : List Token) (side : Side) → IsPart (mode.Side Stations side) levels part
    → IsHead (part ++ keyword name.Host ∷ []) (head.Station side)
station_host _ _ _ (part_side levels _ side _ sides sided_stations written) =
    head_station sides side (written_side sides side written)

-- Ports after a side.
pub side_port : (levels : ℕ) (part : List Token) (ports : PortProtocol) (side : Side)
    → IsPart (mode.Side (Ports ports) side) levels part
    → IsHead (part ++ keyword name.Port ∷ []) (head.Port ports side)
side_port _ _ _ _ (part_side levels _ side layers sides (sided_ports _ ports before) written) =
    head_port layers sides ports side before (written_side sides side written)

side_port_range : (levels : ℕ) (part : List Token) (ports : PortProtocol) (side : Side)
    → IsPart (mode.Side (Ports ports) side) levels part
    → IsHead (part ++ keyword name.PortRange ∷ []) (head.PortRange ports side)
side_port_range _ _ _ _ (part_side levels _ side layers sides (sided_ports _ ports before) written) =
    head_port_range layers sides ports side before (written_side sides side written)

side_qualifies : (most : ℕ) (tokens : List Token) (state : State) (sided : Sided) (side : Side) (following : Keyword)
    (h : Head) (new : State) → ◌≡◌ {A = Reading} (Ok (qualified state h)) (Ok new)
    → HoldsIn most tokens state (mode.Side sided side)
    → ((levels : ℕ) (part : List Token) → IsPart (mode.Side sided side) levels part
    → IsHead (part ++ keyword following ∷ []) h)
    → IsValid most (tokens ++ keyword following ∷ []) new
side_qualifies most tokens state sided side following h new is present heads =
    read_ok _ _ _ _ is
    (head_context most (tokens ++ keyword following ∷ []) state.frames state.head state.only_values h
    (extend most tokens (keyword following ∷ []) state.frames state.head state.only_values false present heads))

-- A keyword after a side.
sided_word_reads : (most : ℕ) (tokens : List Token) (state : State) (sided : Sided) (side : Side) (following : Keyword)
    (new : State) → HoldsIn most tokens state (mode.Side sided side)
    → read_sided_word state sided side following ≡ Ok new → IsValid most (tokens ++ keyword following ∷ []) new
sided_word_reads most tokens state (Addresses layer) side name.Host new present is =
    side_qualifies most tokens state (Addresses layer) side name.Host _ new is present
    (λ levels part is_part. address_host levels part layer side is_part)
sided_word_reads most tokens state (Addresses layer) side name.Net new present is =
    side_qualifies most tokens state (Addresses layer) side name.Net _ new is present
    (λ levels part is_part. address_net levels part layer side is_part)
sided_word_reads most tokens state (Addresses of.Any) side name.Port new present is =
    side_qualifies most tokens state (Addresses of.Any) side name.Port _ new is present
    (λ levels part is_part. any_port levels part side is_part)
sided_word_reads most tokens state (Addresses of.Any) side name.PortRange new present is =
    side_qualifies most tokens state (Addresses of.Any) side name.PortRange _ new is present
    (λ levels part is_part. any_port_range levels part side is_part)
sided_word_reads most tokens state Stations side name.Host new present is =
    side_qualifies most tokens state Stations side name.Host _ new is present
    (λ levels part is_part. station_host levels part side is_part)
sided_word_reads most tokens state (Ports ports) side name.Port new present is =
    side_qualifies most tokens state (Ports ports) side name.Port _ new is present
    (λ levels part is_part. side_port levels part ports side is_part)
sided_word_reads most tokens state (Ports ports) side name.PortRange new present is =
    side_qualifies most tokens state (Ports ports) side name.PortRange _ new is present
    (λ levels part is_part. side_port_range levels part ports side is_part)
sided_word_reads most tokens state sided side _ new present is = refused _ new is

sided_reads : (most : ℕ) (tokens : List Token) (state : State) (sided : Sided) (side : Side) (token : Token)
    (new : State) → HoldsIn most tokens state (mode.Side sided side)
    → read_sided most state sided side token ≡ Ok new → IsValid most (tokens ++ token ∷ []) new
sided_reads most tokens state sided side (keyword following) new present is =
    sided_word_reads most tokens state sided side following new present is
sided_reads most tokens state sided side token new present is =
    values_read most tokens state sided side (side_head sided side) token new present refl is

source_or_part : (levels : ℕ) (part : List Token) (sided : Sided) → IsPart (mode.Side sided Source) levels part
    → IsPart (mode.OtherSide sided Destination Either) levels (part ++ or ∷ [])
source_or_part _ _ _ (part_side levels sided _ layers _ before source) =
    subst (IsPart (mode.OtherSide sided Destination Either) levels) (sym (append_assoc layers (src ∷ []) (or ∷ [])))
    (part_first_side levels sided Destination Either layers (src ∷ or ∷ []) before source_or_next)

source_and_part : (levels : ℕ) (part : List Token) (sided : Sided) → IsPart (mode.Side sided Source) levels part
    → IsPart (mode.OtherSide sided Destination Both) levels (part ++ and ∷ [])
source_and_part _ _ _ (part_side levels sided _ layers _ before source) =
    subst (IsPart (mode.OtherSide sided Destination Both) levels) (sym (append_assoc layers (src ∷ []) (and ∷ [])))
    (part_first_side levels sided Destination Both layers (src ∷ and ∷ []) before source_and_next)

destination_or_part : (levels : ℕ) (part : List Token) (sided : Sided)
    → IsPart (mode.Side sided Destination) levels part
    → IsPart (mode.OtherSide sided Source Either) levels (part ++ or ∷ [])
destination_or_part _ _ _ (part_side levels sided _ layers _ before destination) =
    subst (IsPart (mode.OtherSide sided Source Either) levels) (sym (append_assoc layers (dst ∷ []) (or ∷ [])))
    (part_first_side levels sided Source Either layers (dst ∷ or ∷ []) before destination_or_next)

destination_and_part : (levels : ℕ) (part : List Token) (sided : Sided)
    → IsPart (mode.Side sided Destination) levels part
    → IsPart (mode.OtherSide sided Source Both) levels (part ++ and ∷ [])
destination_and_part _ _ _ (part_side levels sided _ layers _ before destination) =
    subst (IsPart (mode.OtherSide sided Source Both) levels) (sym (append_assoc layers (dst ∷ []) (and ∷ [])))
    (part_first_side levels sided Source Both layers (dst ∷ and ∷ []) before destination_and_next)

side_continues : (most : ℕ) (tokens : List Token) (state : State) (sided : Sided) (side expected joined : Side)
    (operator : Token) (new : State)
    → ◌≡◌ {A = Reading} (Ok (in_mode state (mode.OtherSide sided expected joined))) (Ok new)
    → HoldsIn most tokens state (mode.Side sided side)
    → ((levels : ℕ) (part : List Token) → IsPart (mode.Side sided side) levels part
    → IsPart (mode.OtherSide sided expected joined) levels (part ++ operator ∷ []))
    → IsValid most (tokens ++ operator ∷ []) new
side_continues most tokens state sided side expected joined operator new is present parts =
    read_ok _ _ _ _ is
    (extend most tokens (operator ∷ []) state.frames state.head state.only_values false present parts)

-- A token after a side.
pub side_reads : (most : ℕ) (tokens : List Token) (state : State) (sided : Sided) (side : Side) (token : Token)
    (new : State) → HoldsIn most tokens state (mode.Side sided side)
    → read_side most state sided side token ≡ Ok new → IsValid most (tokens ++ token ∷ []) new
side_reads most tokens state sided Source or new present is =
    side_continues most tokens state sided Source Destination Either or new is present
    (λ levels part is_part. source_or_part levels part sided is_part)
side_reads most tokens state sided Source and new present is =
    side_continues most tokens state sided Source Destination Both and new is present
    (λ levels part is_part. source_and_part levels part sided is_part)
side_reads most tokens state sided Destination or new present is =
    side_continues most tokens state sided Destination Source Either or new is present
    (λ levels part is_part. destination_or_part levels part sided is_part)
side_reads most tokens state sided Destination and new present is =
    side_continues most tokens state sided Destination Source Both and new is present
    (λ levels part is_part. destination_and_part levels part sided is_part)
side_reads most tokens state sided side token new present is =
    sided_reads most tokens state sided side token new present is

both_sides : (layers sides : List Token) (sided : Sided) (side : Side) (levels : ℕ) (token : Token)
    → IsSided layers sided → IsSide (sides ++ token ∷ []) side
    → IsPart (mode.Side sided side) levels (layers ++ sides ++ token ∷ [])
both_sides layers sides sided side levels token before written =
    subst (IsPart (mode.Side sided side) levels) (sym (append_assoc layers sides (token ∷ [])))
    (part_side levels sided side layers (sides ++ token ∷ []) before written)

-- The second of two sides.
pub second_source : (levels : ℕ) (part : List Token) (sided : Sided) (side : Side)
    → IsPart (mode.OtherSide sided Source side) levels part → IsPart (mode.Side sided side) levels (part ++ src ∷ [])
second_source _ _ _ _ (part_first_side levels sided _ _ layers _ before destination_or_next) =
    both_sides layers (dst ∷ or ∷ []) sided Either levels src before destination_or
second_source _ _ _ _ (part_first_side levels sided _ _ layers _ before destination_and_next) =
    both_sides layers (dst ∷ and ∷ []) sided Both levels src before destination_and

pub second_destination : (levels : ℕ) (part : List Token) (sided : Sided) (side : Side)
    → IsPart (mode.OtherSide sided Destination side) levels part
    → IsPart (mode.Side sided side) levels (part ++ dst ∷ [])
second_destination _ _ _ _ (part_first_side levels sided _ _ layers _ before source_or_next) =
    both_sides layers (src ∷ or ∷ []) sided Either levels dst before source_or
second_destination _ _ _ _ (part_first_side levels sided _ _ layers _ before source_and_next) =
    both_sides layers (src ∷ and ∷ []) sided Both levels dst before source_and

-- A token where the other side is expected.
pub other_side_reads : (most : ℕ) (tokens : List Token) (state : State) (sided : Sided) (expected side : Side)
    (token : Token) (new : State) → HoldsIn most tokens state (mode.OtherSide sided expected side)
    → read_other_side state sided expected side token ≡ Ok new → IsValid most (tokens ++ token ∷ []) new
other_side_reads most tokens state sided Source side (keyword name.Src) new present is =
    read_ok _ _ _ _ is
    (extend most tokens (src ∷ []) state.frames state.head state.only_values false present
    (λ levels part is_part. second_source levels part sided side is_part))
other_side_reads most tokens state sided Destination side (keyword name.Dst) new present is =
    read_ok _ _ _ _ is
    (extend most tokens (dst ∷ []) state.frames state.head state.only_values false present
    (λ levels part is_part. second_destination levels part sided side is_part))
other_side_reads most tokens state sided expected side _ new present is = refused _ new is

-- ---- values

host_keyword : {A : Type 0} (state : State) (p : Primitive) (following : Keyword) (new : State)
    → read_host state p (keyword following) ≡ Ok new → A
host_keyword state p name.Mask new is = refused _ new is
host_keyword state p _ new is = refused _ new is

-- A token after an address of a host.
pub host_reads : (most : ℕ) (tokens : List Token) (state : State) (p : Primitive) (token : Token) (new : State)
    → HoldsIn most tokens state (mode.Host p) → read_host state p token ≡ Ok new
    → IsValid most (tokens ++ token ∷ []) new
host_reads most tokens state p slash new present is = refused _ new is
host_reads most tokens state p (keyword following) new present is = host_keyword state p following new is
host_reads most tokens state p token new present is =
    after_reads most tokens (Some (finish_value state p)) token new
    (λ final settled. settle most tokens state (mode.Host p) final present settled) is

with_slash : (h : Head) (part : List Token) (layer : AddressLayer) (side : Side) (network : Network)
    → IsValuePart (mode.Net layer side network) h part
    → IsValuePart (mode.Length layer side network.address) h (part ++ slash ∷ [])
with_slash _ _ _ _ _ (part_net layer side text network is family) =
    part_length layer side text network.address network.bits is family

with_mask_word : (h : Head) (part : List Token) (layer : AddressLayer) (side : Side) (network : Network)
    (address : Ipv4Addr) → network.address ≡ V4 address → IsValuePart (mode.Net layer side network) h part
    → IsValuePart (mode.Mask layer side (V4 address)) h (part ++ keyword name.Mask ∷ [])
with_mask_word _ _ _ _ _ address same (part_net layer side text network is family) =
    part_mask layer side text address network.bits
    (subst (λ found. IsNetworkText text (record { address = found; bits = network.bits })) same is)
    (subst (IsFamily layer) same family)

mask_reads : (most : ℕ) (tokens : List Token) (state : State) (layer : AddressLayer) (side : Side) (network : Network)
    (address : IpAddr) (new : State) → HoldsIn most tokens state (mode.Net layer side network)
    → network.address ≡ address → read_mask_word state layer side address ≡ Ok new
    → IsValid most (tokens ++ keyword name.Mask ∷ []) new
mask_reads most tokens state layer side network (V4 address) new (only, h, in_use, present) same is =
    read_ok _ _ _ _ is (
      only,
      h,
      in_use,
      extend most tokens (keyword name.Mask ∷ []) state.frames state.head state.only_values only present
          (λ levels part is_part. with_mask_word h part layer side network address same is_part),
    )
mask_reads most tokens state layer side network (V6 address) new present same is = refused _ new is

net_keyword : (most : ℕ) (tokens : List Token) (state : State) (layer : AddressLayer) (side : Side) (network : Network)
    (following : Keyword) (new : State) → HoldsIn most tokens state (mode.Net layer side network)
    → read_net state layer side network (keyword following) ≡ Ok new
    → IsValid most (tokens ++ keyword following ∷ []) new
net_keyword most tokens state layer side network name.Mask new present is =
    mask_reads most tokens state layer side network network.address new present refl is
net_keyword most tokens state layer side network _ new present is = refused _ new is

-- A token after a network.
pub net_reads : (most : ℕ) (tokens : List Token) (state : State) (layer : AddressLayer) (side : Side)
    (network : Network) (token : Token) (new : State) → HoldsIn most tokens state (mode.Net layer side network)
    → read_net state layer side network token ≡ Ok new → IsValid most (tokens ++ token ∷ []) new
net_reads most tokens state layer side network slash new (only, h, in_use, present) is =
    read_ok _ _ _ _ is (
      only,
      h,
      in_use,
      extend most tokens (slash ∷ []) state.frames state.head state.only_values only present
          (λ levels part is_part. with_slash h part layer side network is_part),
    )
net_reads most tokens state layer side network (keyword following) new present is =
    net_keyword most tokens state layer side network following new present is
net_reads most tokens state layer side network token new present is =
    after_reads most tokens (Some (finish_value state (primitive.Address layer side network))) token new
    (λ final settled. settle most tokens state (mode.Net layer side network) final present settled) is
