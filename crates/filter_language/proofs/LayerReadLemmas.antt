-- The grammar holds of a token after the tokens of a state: names of layers, sides and values.
use Rattle.std.proofs.Common.{◌≡◌, ℕ, false, List, [], ◌∷◌, ◌++◌, Option, Some, None, Ok, refl, subst}
use Rattle.filter_tokens.specs.declared.keyword.Keyword.{Keyword}
use Rattle.filter_tokens.specs.declared.keyword.Keyword.TheVariants as name
use Rattle.filter_tokens.specs.declared.primitive.AddressLayer.{AddressLayer}
use Rattle.filter_tokens.specs.declared.primitive.AddressLayer.TheVariants as of
use Rattle.filter_tokens.specs.declared.primitive.FieldLayer.{FieldLayer}
use Rattle.filter_tokens.specs.declared.primitive.IpVersion.TheVariants as version
use Rattle.filter_tokens.specs.declared.primitive.PortProtocol.{PortProtocol}
use Rattle.filter_tokens.specs.declared.primitive.PortProtocol.TheVariants as protocol
use Rattle.filter_tokens.specs.declared.primitive.Primitive.{Primitive}
use Rattle.filter_tokens.specs.declared.primitive.Side.{Side}
use Rattle.filter_tokens.specs.declared.primitive.Side.TheVariants.{Source, Destination, Either}
use Rattle.filter_tokens.specs.Tokens.{Token, keyword, left_bracket}
use Rattle.filter_language.specs.declared.head.Head.{Head}
use Rattle.filter_language.specs.declared.head.Head.TheVariants as head
use Rattle.filter_language.specs.declared.mode.Mode.TheVariants as mode
use Rattle.filter_language.specs.declared.mode.Sided.{Sided}
use Rattle.filter_language.specs.declared.mode.Sided.TheVariants.{Addresses, Stations, Ports}
use Rattle.filter_language.specs.Grammar.{IsAddressLayer, IsBare, IsField, IsHead, IsPortProtocol, IsSide, address_of_arp, address_of_ip, address_of_ip6, bare_ether_broadcast, bare_ether_multicast, bare_ip6_multicast, bare_ip_multicast, destination, field_arp, field_ether, field_icmp, field_icmp6, field_ip, field_ip6, field_sctp, field_tcp, field_udp, head_ether_proto, head_host, head_net, head_port, head_port_range, head_proto, head_station, no_side, port_of_sctp, port_of_tcp, port_of_udp, source, version_v4, version_v6}
use Rattle.filter_language.specs.Primitives.{ethernet_broadcast, ethernet_multicast}
use Rattle.filter_language.specs.States.{State, Reading, field_of, finish_bare, in_mode, layer_primitive, multicast_v4, multicast_v6, qualified, read_address_word, read_layer, read_layer_word, read_offset, read_port_word, settled_layer}
use Rattle.filter_language.proofs.Standing.{IsPart, IsSided, IsValid, HoldsIn, bare_fills, extend, head_context, part_layer, part_offset, part_side, sided_addresses, sided_ports, sided_stations}
use Rattle.filter_language.proofs.ReadLemmas.{after_reads, read_ok, refused, settle}

-- ---- names of layers

some_field : (found layer : FieldLayer) → Some found ≡ Some layer → found ≡ layer
some_field found layer is = cc

named_field : (named : Keyword) (found layer : FieldLayer) → IsField (keyword named) found → Some found ≡ Some layer
    → IsField (keyword named) layer
named_field named found layer field is = subst (IsField (keyword named)) (some_field found layer is) field

no_field : {A : Type 0} (layer : FieldLayer) → ◌≡◌ {A = Option FieldLayer} None (Some layer) → A
no_field layer is = let never : ⊥ = cc in absurd never

-- A keyword that names a layer whose bytes can be read.
pub field_is : (named : Keyword) (layer : FieldLayer) → field_of named ≡ Some layer → IsField (keyword named) layer
field_is name.Ether layer is = named_field name.Ether _ layer field_ether is
field_is name.Arp layer is = named_field name.Arp _ layer field_arp is
field_is name.Ip layer is = named_field name.Ip _ layer field_ip is
field_is name.Ip6 layer is = named_field name.Ip6 _ layer field_ip6 is
field_is name.Tcp layer is = named_field name.Tcp _ layer field_tcp is
field_is name.Udp layer is = named_field name.Udp _ layer field_udp is
field_is name.Sctp layer is = named_field name.Sctp _ layer field_sctp is
field_is name.Icmp layer is = named_field name.Icmp _ layer field_icmp is
field_is name.Icmp6 layer is = named_field name.Icmp6 _ layer field_icmp6 is
field_is _ layer is = no_field layer is

pub named_offset : (levels : ℕ) (part : List Token) (named : Keyword) (layer : FieldLayer) → field_of named ≡ Some layer
    → IsPart (mode.Layer named) levels part → IsPart (mode.Offset layer) levels (part ++ left_bracket ∷ [])
named_offset _ _ _ layer is (part_layer levels named read found) =
    part_offset levels (keyword named) layer (field_is named layer is)

offset_reads : (most : ℕ) (tokens : List Token) (state : State) (named : Keyword) (found : Option FieldLayer)
    (new : State) → HoldsIn most tokens state (mode.Layer named) → field_of named ≡ found
    → read_offset state found ≡ Ok new → IsValid most (tokens ++ left_bracket ∷ []) new
offset_reads most tokens state named None new present found is = refused _ new is
offset_reads most tokens state named (Some layer) new present found is =
    read_ok _ _ _ _ is
    (extend most tokens (left_bracket ∷ []) state.frames state.head state.only_values false present
    (λ levels part is_part. named_offset levels part named layer found is_part))

named_head : (levels : ℕ) (part : List Token) (named following : Keyword) (h : Head)
    → IsHead (keyword named ∷ keyword following ∷ []) h → IsPart (mode.Layer named) levels part
    → IsHead (part ++ keyword following ∷ []) h
named_head _ _ _ following h is (part_layer levels named read found) = is

layer_head : (most : ℕ) (tokens : List Token) (state : State) (named following : Keyword) (h : Head) (new : State)
    → ◌≡◌ {A = Reading} (Ok (qualified state h)) (Ok new) → HoldsIn most tokens state (mode.Layer named)
    → IsHead (keyword named ∷ keyword following ∷ []) h → IsValid most (tokens ++ keyword following ∷ []) new
layer_head most tokens state named following h new is present heads =
    read_ok _ _ _ _ is
    (head_context most (tokens ++ keyword following ∷ []) state.frames state.head state.only_values h
    (extend most tokens (keyword following ∷ []) state.frames state.head state.only_values false present
    (λ levels part is_part. named_head levels part named following h heads is_part)))

named_bare : (levels : ℕ) (part : List Token) (named following : Keyword) (p : Primitive)
    → IsBare levels (keyword named ∷ keyword following ∷ []) p → IsPart (mode.Layer named) levels part
    → IsBare levels (part ++ keyword following ∷ []) p
named_bare _ _ _ following p is (part_layer levels named read found) = is

layer_bare : (most : ℕ) (tokens : List Token) (state : State) (named following : Keyword) (p : Primitive) (new : State)
    → ◌≡◌ {A = Reading} (Ok (finish_bare state p)) (Ok new) → HoldsIn most tokens state (mode.Layer named)
    → ((levels : ℕ) → IsBare levels (keyword named ∷ keyword following ∷ []) p)
    → IsValid most (tokens ++ keyword following ∷ []) new
layer_bare most tokens state named following p new is present bare =
    read_ok _ _ _ _ is
    (bare_fills most (tokens ++ keyword following ∷ []) state.frames state.head state.only_values p
    (extend most tokens (keyword following ∷ []) state.frames state.head state.only_values false present
    (λ levels part is_part. named_bare levels part named following p (bare levels) is_part)))

named_side : (levels : ℕ) (part : List Token) (named following : Keyword) (sided : Sided) (side : Side)
    → IsSided (keyword named ∷ []) sided → IsSide (keyword following ∷ []) side → IsPart (mode.Layer named) levels part
    → IsPart (mode.Side sided side) levels (part ++ keyword following ∷ [])
named_side _ _ _ following sided side before is (part_layer levels named read found) =
    part_side levels sided side (keyword named ∷ []) (keyword following ∷ []) before is

layer_side : (most : ℕ) (tokens : List Token) (state : State) (named following : Keyword) (sided : Sided) (side : Side)
    (new : State) → ◌≡◌ {A = Reading} (Ok (in_mode state (mode.Side sided side))) (Ok new)
    → HoldsIn most tokens state (mode.Layer named) → IsSided (keyword named ∷ []) sided
    → IsSide (keyword following ∷ []) side → IsValid most (tokens ++ keyword following ∷ []) new
layer_side most tokens state named following sided side new is present before written =
    read_ok _ _ _ _ is
    (extend most tokens (keyword following ∷ []) state.frames state.head state.only_values false present
    (λ levels part is_part. named_side levels part named following sided side before written is_part))

address_word_reads : (most : ℕ) (tokens : List Token) (state : State) (named following : Keyword) (layer : AddressLayer)
    (new : State) → HoldsIn most tokens state (mode.Layer named) → IsAddressLayer (keyword named ∷ []) layer
    → read_address_word state layer following ≡ Ok new → IsValid most (tokens ++ keyword following ∷ []) new
address_word_reads most tokens state named name.Src layer new present before is =
    layer_side most tokens state named name.Src (Addresses layer) Source new is present
    (sided_addresses (keyword named ∷ []) layer before) source
address_word_reads most tokens state named name.Dst layer new present before is =
    layer_side most tokens state named name.Dst (Addresses layer) Destination new is present
    (sided_addresses (keyword named ∷ []) layer before) destination
address_word_reads most tokens state named name.Host layer new present before is =
    layer_head most tokens state named name.Host (head.Host layer Either) new is present
    (head_host (keyword named ∷ []) [] layer Either before no_side)
address_word_reads most tokens state named name.Net layer new present before is =
    layer_head most tokens state named name.Net (head.Net layer Either) new is present
    (head_net (keyword named ∷ []) [] layer Either before no_side)
address_word_reads most tokens state named _ layer new present before is = refused _ new is

port_word_reads : (most : ℕ) (tokens : List Token) (state : State) (named following : Keyword) (ports : PortProtocol)
    (new : State) → HoldsIn most tokens state (mode.Layer named) → IsPortProtocol (keyword named ∷ []) ports
    → read_port_word state ports following ≡ Ok new → IsValid most (tokens ++ keyword following ∷ []) new
port_word_reads most tokens state named name.Src ports new present before is =
    layer_side most tokens state named name.Src (Ports ports) Source new is present
    (sided_ports (keyword named ∷ []) ports before) source
port_word_reads most tokens state named name.Dst ports new present before is =
    layer_side most tokens state named name.Dst (Ports ports) Destination new is present
    (sided_ports (keyword named ∷ []) ports before) destination
port_word_reads most tokens state named name.Port ports new present before is =
    layer_head most tokens state named name.Port (head.Port ports Either) new is present
    (head_port (keyword named ∷ []) [] ports Either before no_side)
port_word_reads most tokens state named name.PortRange ports new present before is =
    layer_head most tokens state named name.PortRange (head.PortRange ports Either) new is present
    (head_port_range (keyword named ∷ []) [] ports Either before no_side)
port_word_reads most tokens state named _ ports new present before is = refused _ new is

-- A keyword after the name of a layer.
layer_word_reads : (most : ℕ) (tokens : List Token) (state : State) (named following : Keyword) (new : State)
    → HoldsIn most tokens state (mode.Layer named) → read_layer_word state named following ≡ Ok new
    → IsValid most (tokens ++ keyword following ∷ []) new
layer_word_reads most tokens state name.Ip name.Proto new present is =
    layer_head most tokens state name.Ip name.Proto (head.Protocol version.V4) new is present
    (head_proto (keyword name.Ip ∷ []) version.V4 version_v4)
layer_word_reads most tokens state name.Ip name.Multicast new present is =
    layer_bare most tokens state name.Ip name.Multicast multicast_v4 new is present
    (λ levels. bare_ip_multicast levels _ refl refl)
layer_word_reads most tokens state name.Ip following new present is =
    address_word_reads most tokens state name.Ip following of.Ipv4 new present address_of_ip is
layer_word_reads most tokens state name.Ip6 name.Proto new present is =
    layer_head most tokens state name.Ip6 name.Proto (head.Protocol version.V6) new is present
    (head_proto (keyword name.Ip6 ∷ []) version.V6 version_v6)
layer_word_reads most tokens state name.Ip6 name.Multicast new present is =
    layer_bare most tokens state name.Ip6 name.Multicast multicast_v6 new is present
    (λ levels. bare_ip6_multicast levels _ refl refl)
layer_word_reads most tokens state name.Ip6 following new present is =
    address_word_reads most tokens state name.Ip6 following of.Ipv6 new present address_of_ip6 is
layer_word_reads most tokens state name.Arp following new present is =
    address_word_reads most tokens state name.Arp following of.Arp new present address_of_arp is
layer_word_reads most tokens state name.Tcp following new present is =
    port_word_reads most tokens state name.Tcp following protocol.Tcp new present port_of_tcp is
layer_word_reads most tokens state name.Udp following new present is =
    port_word_reads most tokens state name.Udp following protocol.Udp new present port_of_udp is
layer_word_reads most tokens state name.Sctp following new present is =
    port_word_reads most tokens state name.Sctp following protocol.Sctp new present port_of_sctp is
layer_word_reads most tokens state name.Ether name.Broadcast new present is =
    layer_bare most tokens state name.Ether name.Broadcast ethernet_broadcast new is present
    (λ levels. bare_ether_broadcast levels)
layer_word_reads most tokens state name.Ether name.Multicast new present is =
    layer_bare most tokens state name.Ether name.Multicast ethernet_multicast new is present
    (λ levels. bare_ether_multicast levels)
layer_word_reads most tokens state name.Ether name.Proto new present is =
    layer_head most tokens state name.Ether name.Proto head.EtherType new is present head_ether_proto
layer_word_reads most tokens state name.Ether name.Host new present is =
    layer_head most tokens state name.Ether name.Host (head.Station Either) new is present
    (head_station [] Either no_side)
layer_word_reads most tokens state name.Ether name.Src new present is =
    layer_side most tokens state name.Ether name.Src Stations Source new is present sided_stations source
layer_word_reads most tokens state name.Ether name.Dst new present is =
    layer_side most tokens state name.Ether name.Dst Stations Destination new is present sided_stations destination
layer_word_reads most tokens state named _ new present is = refused _ new is

-- A token after the name of a layer.
pub layer_reads : (most : ℕ) (tokens : List Token) (state : State) (named : Keyword) (token : Token) (new : State)
    → HoldsIn most tokens state (mode.Layer named) → read_layer state named token ≡ Ok new
    → IsValid most (tokens ++ token ∷ []) new
layer_reads most tokens state named left_bracket new present is =
    offset_reads most tokens state named (field_of named) new present refl is
layer_reads most tokens state named (keyword following) new present is =
    layer_word_reads most tokens state named following new present is
layer_reads most tokens state named token new present is =
    after_reads most tokens (settled_layer state (layer_primitive named)) token new
    (λ final settled. settle most tokens state (mode.Layer named) final present settled) is
