-- A primitive that matches the first bytes of a packet matches the whole packet, by the layers of both.
use Rattle.std.proofs.Common.{◌≡◌, ◌⊎◌, ℕ, zero, suc, ◌+◌, ◌*◌, ◌^◌, ◌<◌, Bool, true, false, ◌&&◌, ◌||◌, ◌==◌, if◌then◌else◌, List, [], ◌∷◌, ◌++◌, map, length, drop, Option, Some, None, refl, ap, sym, subst, ◌∙◌, inl, inr, get_or, length-append, arith}
use Rattle.std.specs.Prelude.{bit_and, nat_le, nat_lt, option_and_then}
use Rattle.std.specs.List.{list_any}
use Rattle.std.specs.Option.{option_map_or}
use Rattle.std.proofs.lemmas.List.{append-nil, get_or_append_left}
use Rattle.std.proofs.lemmas.Bool.Decides.{nat_tests}
use borrow.Author.Tests.{eqb-true}
use Rattle.ep_base.specs.Bytes.{word_at, long_at}
use Rattle.ep_base.specs.EtherTypes.{ipv4_type, ipv6_type, arp_type}
use Rattle.ep_base.specs.IpNumbers.{icmpv4_number, tcp_number, udp_number, icmpv6_number}
use Rattle.ep_base.specs.IpPayload.{IpPayload}
use Rattle.ep_ext.specs.ExtensionParts.{ExtensionPart, part_next}
use Rattle.ep_ip.specs.declared.ipv4_header.Ipv4Header.{Ipv4Header}
use Rattle.ep_ip.specs.declared.ipv6_header.Ipv6Header.{Ipv6Header}
use Rattle.ep_link.specs.LinkExtensions.{LinkExtension, vlan, macsec, extension_header, link_ext_header_len}
use Rattle.ep_link.specs.declared.link_ext.link_ext_header.LinkExtHeader.TheVariants as header
use Rattle.ep_link.specs.declared.link_ext.single_vlan_header.SingleVlanHeader.{SingleVlanHeader}
use Rattle.ep_lax.specs.LaxLayers.{LaxLayers}
use Rattle.ep_packet.specs.Layers.{NetLayer, ipv4, ipv6, arp}
use Rattle.ep_packet.specs.Offsets.{link_len, tags_len}
use Rattle.ep_packet.specs.PayloadStarts.{are_first}
use Rattle.filter_tokens.specs.declared.primitive.AddressLayer.{AddressLayer}
use Rattle.filter_tokens.specs.declared.primitive.AddressLayer.TheVariants as of
use Rattle.filter_tokens.specs.declared.primitive.FieldLayer.{FieldLayer}
use Rattle.filter_tokens.specs.declared.primitive.FieldLayer.TheVariants as field
use Rattle.filter_tokens.specs.declared.primitive.IpVersion.{IpVersion}
use Rattle.filter_tokens.specs.declared.primitive.IpVersion.TheVariants as version
use Rattle.filter_tokens.specs.declared.primitive.Operand.TheVariants.{Length, Bytes}
use Rattle.filter_tokens.specs.declared.primitive.PortProtocol.{PortProtocol}
use Rattle.filter_tokens.specs.declared.primitive.PortProtocol.TheVariants as protocol
use Rattle.filter_tokens.specs.declared.primitive.Primitive.{Primitive}
use Rattle.filter_tokens.specs.declared.primitive.Primitive.TheVariants as primitive
use Rattle.filter_tokens.specs.declared.primitive.Side.{Side}
use Rattle.filter_tokens.specs.declared.primitive.Side.TheVariants.{Source, Destination, Either, Both}
use Rattle.filter_tokens.specs.declared.primitive.Width.{Width}
use Rattle.filter_tokens.specs.declared.primitive.Width.TheVariants.{One, Two, Four}
use Rattle.filter_tokens.specs.Networks.{is_within}
use Rattle.packet_filter.specs.Laws.{IsPositive}
use Rattle.packet_filter.specs.Meaning.{at_side, at_side_of, has_port, has_port_at, has_ports, has_relation, is_vlan, matches_expr, matches_primitive, number_at}
use Rattle.packet_filter.specs.Packets.{arp_addresses, Transport, addresses_of, bytes_of, bytes_of_number, bytes_of_type, bytes_of_version, ethernet_bytes, ip_numbers, is_type, is_version, link_type, packet_of, sctp_number, tag_type, tags_in, transport_in, transport_of, type_after}
use Rattle.filter_language.specs.Trees.{Expr, test, negated, both, either}
use Rattle.packet_filter.proofs.MoreLayers.{is_transport, IsNoNetType, MoreBytes, MoreLayers, MoreNet, MoreNets, MoreParts, MorePayload, MoreTags, MoreTransport}

-- ---- tests

both_more : (a b c d : Bool) → (a ≡ true → c ≡ true) → (b ≡ true → d ≡ true) → (a && b) ≡ true → (c && d) ≡ true
both_more true b c d first second are = subst (λ (x : Bool). (x && d) ≡ true) (sym (first refl)) (second are)
both_more false b c d first second are = absurd (let no = are in cc no)

either_more : (a b c d : Bool) → (a ≡ true → c ≡ true) → (b ≡ true → d ≡ true) → (a || b) ≡ true → (c || d) ≡ true
either_more true b c d first second are = subst (λ (x : Bool). (x || d) ≡ true) (sym (first refl)) refl
either_more false b true d first second are = refl
either_more false b false d first second are = second are

-- If a test of a value, if present, holds, so does the test of another one.
map_more : {A B : Type 0} (f : A → Bool) (g : B → Bool) (value : Option A) (other : Option B)
    → ((a : A) → value ≡ Some a → f a ≡ true → option_map_or g other false ≡ true)
    → option_map_or f value false ≡ true → option_map_or g other false ≡ true
map_more f g None other present is = absurd (let no : false ≡ true = is in cc no)
map_more f g (Some a) other present is = present a refl is

any_prefix : {A : Type 0} (f : A → Bool) (xs ys : List A) → list_any f xs ≡ true → list_any f (xs ++ ys) ≡ true
any_prefix f [] ys is = absurd (let no : false ≡ true = is in cc no)
any_prefix f (x ∷ xs) ys is =
    either_more (f x) (list_any f xs) (f x) (list_any f (xs ++ ys)) (λ same. same) (any_prefix f xs ys) is

map_prefix : {A B : Type 0} (f : A → B) (xs ys : List A) → map f (xs ++ ys) ≡ map f xs ++ map f ys
map_prefix f [] ys = refl
map_prefix f (x ∷ xs) ys = ap (λ l. f x ∷ l) (map_prefix f xs ys)

drop_more : (n : ℕ) (bytes others : List ℕ) → (rest : List ℕ) × (drop n (bytes ++ others) ≡ drop n bytes ++ rest)
drop_more zero bytes others = (others, refl)
drop_more (suc n) [] others = (drop (suc n) others, refl)
drop_more (suc n) (b ∷ bytes) others = drop_more n bytes others

-- ---- numbers in bytes

byte_more : (bytes rest : List ℕ) (at : ℕ) → at < length bytes → get_or (bytes ++ rest) at 0 ≡ get_or bytes at 0
byte_more bytes rest at within = get_or_append_left bytes rest 0 at within

word_more : (bytes rest : List ℕ) (at : ℕ) → at + 1 < length bytes → word_at (bytes ++ rest) at ≡ word_at bytes at
word_more bytes rest at within =
    let first = byte_more bytes rest at (omega (arith, within)) in
    let second = byte_more bytes rest (at + 1) within in
    λ i. 256 * first i + second i

test_present : (b : Bool) (x value : ℕ) → (if b then Some x else None) ≡ Some value → (b ≡ true) × (x ≡ value)
test_present true x value is = (refl, (let same : Some x ≡ Some value = is in cc same))
test_present false x value is = absurd (let no : None ≡ Some value = is in cc no)

present_if : (b : Bool) (x value : ℕ) → b ≡ true → x ≡ value → (if b then Some x else None) ≡ Some value
present_if b x value present same = ap (λ (t : Bool). if t then Some x else None) present ∙ ap Some same

within_more : (at : ℕ) (bytes rest : List ℕ) → nat_lt at (length bytes) ≡ true
    → (at < length bytes) × (nat_lt at (length (bytes ++ rest)) ≡ true)
within_more at bytes rest is =
    let within : at < length bytes = grind (arith, nat_tests, is) in
    let longer : at < length (bytes ++ rest) = omega (arith, within, length-append bytes rest) in
    (within, grind (arith, nat_tests, longer))

number_more : (width : Width) (at : ℕ) (bytes rest : List ℕ) (value : ℕ) → number_at width at bytes ≡ Some value
    → number_at width at (bytes ++ rest) ≡ Some value
number_more One at bytes rest value is =
    let here = test_present (nat_lt at (length bytes)) (get_or bytes at 0) value is in
    let within = within_more at bytes rest here.0 in
    present_if (nat_lt at (length (bytes ++ rest))) (get_or (bytes ++ rest) at 0) value within.1
    (byte_more bytes rest at within.0 ∙ here.1)
number_more Two at bytes rest value is =
    let here = test_present (nat_lt (at + 1) (length bytes)) (word_at bytes at) value is in
    let within = within_more (at + 1) bytes rest here.0 in
    present_if (nat_lt (at + 1) (length (bytes ++ rest))) (word_at (bytes ++ rest) at) value within.1
    (word_more bytes rest at within.0 ∙ here.1)
number_more Four at bytes rest value is =
    let here = test_present (nat_lt (at + 3) (length bytes)) (long_at bytes at) value is in
    let within = within_more (at + 3) bytes rest here.0 in
    let first = word_more bytes rest at (omega (arith, within.0)) in
    let second = word_more bytes rest (at + 2) (omega (arith, within.0)) in
    present_if (nat_lt (at + 3) (length (bytes ++ rest))) (long_at (bytes ++ rest) at) value within.1
    ((λ i. 2 ^ 16 * first i + second i) ∙ here.1)

value_more : (width : Width) (at : ℕ) (bytes more : Option (List ℕ)) (value : ℕ) → MoreBytes bytes more
    → option_and_then (number_at width at) bytes ≡ Some value → option_and_then (number_at width at) more ≡ Some value
value_more width at None more value are is = absurd (let no : None ≡ Some value = is in cc no)
value_more width at (Some bytes) None value are is = absurd are
value_more width at (Some bytes) (Some more) value are is =
    subst (λ (l : List ℕ). number_at width at l ≡ Some value) (sym are.1) (number_more width at bytes are.0 value is)

-- ---- tags

nets_of : (type : Option ℕ) (tags others : List LinkExtension) (net more : Option NetLayer)
    → MoreTags type tags others net more → MoreNets net more
nets_of type [] [] net more are = are
nets_of type [] (further ∷ others) net more are = subst (λ (n : Option NetLayer). MoreNets n more) (sym are.0) tt
nets_of type (tag ∷ tags) [] net more are = absurd are
nets_of type (tag ∷ tags) (same ∷ others) net more are = nets_of (tag_type tag) tags others net more are.2

any_tag : (f : LinkExtension → Bool)
    → ((tag same : LinkExtension) → extension_header same ≡ extension_header tag → tag_type same ≡ tag_type tag
    → f tag ≡ true → f same ≡ true)
    → (type : Option ℕ) (tags others : List LinkExtension) (net more : Option NetLayer)
    → MoreTags type tags others net more → list_any f tags ≡ true → list_any f others ≡ true
any_tag f keeps type [] others net more are is = absurd (let no : false ≡ true = is in cc no)
any_tag f keeps type (tag ∷ tags) [] net more are is = absurd are
any_tag f keeps type (tag ∷ tags) (same ∷ others) net more are is =
    either_more (f tag) (list_any f tags) (f same) (list_any f others) (keeps tag same are.0 are.1)
    (any_tag f keeps (tag_type tag) tags others net more are.2) is

type_kept : (number : ℕ) (tag same : LinkExtension) → extension_header same ≡ extension_header tag
    → tag_type same ≡ tag_type tag → is_type number (tag_type tag) ≡ true → is_type number (tag_type same) ≡ true
type_kept number tag same tags type is = ap (is_type number) type ∙ is

vlan_kept : (id : Option ℕ) (tag same : LinkExtension) → extension_header same ≡ extension_header tag
    → tag_type same ≡ tag_type tag → is_vlan id tag ≡ true → is_vlan id same ≡ true
vlan_kept None (vlan tag payload) (vlan same more) tags type is = refl
vlan_kept None (vlan tag payload) (macsec same more) tags type is =
    absurd (let no : header.Macsec same ≡ header.Vlan tag = tags in cc no)
vlan_kept None (macsec tag payload) same tags type is = absurd (let no : false ≡ true = is in cc no)
vlan_kept (Some id) (vlan tag payload) (vlan same more) tags type is =
    let one : header.Vlan same ≡ header.Vlan tag = tags in
    let equal : same ≡ tag = cc one in
    ap (λ (t : SingleVlanHeader). t.vlan_id == id) equal ∙ is
vlan_kept (Some id) (vlan tag payload) (macsec same more) tags type is =
    absurd (let no : header.Macsec same ≡ header.Vlan tag = tags in cc no)
vlan_kept (Some id) (macsec tag payload) same tags type is = absurd (let no : false ≡ true = is in cc no)

-- If the ether type after the tags is that of a network layer, there are no further tags.
tags_end : (number : ℕ) → ((type : Option ℕ) → IsNoNetType type → is_type number type ≡ false)
    → (type : Option ℕ) (tags others : List LinkExtension) (net more : Option NetLayer)
    → MoreTags type tags others net more → is_type number (type_after type tags) ≡ true
    → (type_after type others ≡ type_after type tags) × (tags_len others ≡ tags_len tags)
tags_end number none type [] [] net more are is = (refl, refl)
tags_end number none type [] (further ∷ others) net more are is =
    absurd (let no : false ≡ true = sym (none type are.1) ∙ is in cc no)
tags_end number none type (tag ∷ tags) [] net more are is = absurd are
tags_end number none type (tag ∷ tags) (same ∷ others) net more are is =
    let next = tags_end number none (tag_type tag) tags others net more are.2 is in (
      ap (λ (t : Option ℕ). type_after t others) are.1 ∙ next.0,
      λ i. link_ext_header_len (are.0 i) + next.1 i,
    )

-- ---- network layer

version_kept : (ip : IpVersion) (net more : NetLayer) → MoreNet net more → is_version ip more ≡ is_version ip net
version_kept version.Any (ipv4 header parts payload) (ipv4 same others more) are = refl
version_kept version.V4 (ipv4 header parts payload) (ipv4 same others more) are = refl
version_kept version.V6 (ipv4 header parts payload) (ipv4 same others more) are = refl
version_kept version.Any (ipv6 header parts payload) (ipv6 same others more) are = refl
version_kept version.V4 (ipv6 header parts payload) (ipv6 same others more) are = refl
version_kept version.V6 (ipv6 header parts payload) (ipv6 same others more) are = refl
version_kept version.Any (arp packet) (arp same) are = refl
version_kept version.V4 (arp packet) (arp same) are = refl
version_kept version.V6 (arp packet) (arp same) are = refl
version_kept ip net more are = absurd are

next_numbers : (f : ℕ → Bool) (parts : List ExtensionPart) (payload : IpPayload) (others : List ExtensionPart)
    (more : IpPayload) → MoreParts parts payload others more → list_any f (map part_next parts) ≡ true
    → list_any f (map part_next others) ≡ true
next_numbers f parts payload others more are is =
    ap (λ (l : List ExtensionPart). list_any f (map part_next l)) are.begins
    ∙ ap (list_any f) (map_prefix part_next parts are.further)
    ∙ any_prefix f (map part_next parts) (map part_next are.further) is

numbers_more : (number : ℕ) (net more : NetLayer) → MoreNet net more
    → list_any (λ other. other == number) (ip_numbers net) ≡ true
    → list_any (λ other. other == number) (ip_numbers more) ≡ true
numbers_more number (ipv4 header parts payload) (ipv4 same others more) are is =
    let f : ℕ → Bool = λ other. other == number in
    either_more (f header.protocol.0) (list_any f (map part_next parts)) (f same.protocol.0)
    (list_any f (map part_next others)) (λ first. ap (λ (h : Ipv4Header). f h.protocol.0) are.0 ∙ first)
    (next_numbers f parts payload others more are.1) is
numbers_more number (ipv6 header parts payload) (ipv6 same others more) are is =
    let f : ℕ → Bool = λ other. other == number in
    either_more (f header.next_header.0) (list_any f (map part_next parts)) (f same.next_header.0)
    (list_any f (map part_next others)) (λ first. ap (λ (h : Ipv6Header). f h.next_header.0) are.0 ∙ first)
    (next_numbers f parts payload others more are.1) is
numbers_more number (arp packet) (arp same) are is = is
numbers_more number net more are is = absurd are

addresses_kept : (layer : AddressLayer) (net more : NetLayer) → MoreNet net more
    → addresses_of layer more ≡ addresses_of layer net
addresses_kept of.Any (ipv4 header parts payload) (ipv4 same others more) are =
    ap (λ (h : Ipv4Header). h.source ∷ h.destination ∷ []) are.0
addresses_kept of.Ipv4 (ipv4 header parts payload) (ipv4 same others more) are =
    ap (λ (h : Ipv4Header). h.source ∷ h.destination ∷ []) are.0
addresses_kept of.Ipv6 (ipv4 header parts payload) (ipv4 same others more) are = refl
addresses_kept of.Arp (ipv4 header parts payload) (ipv4 same others more) are = refl
addresses_kept of.Any (ipv6 header parts payload) (ipv6 same others more) are =
    ap (λ (h : Ipv6Header). h.source ∷ h.destination ∷ []) are.0
addresses_kept of.Ipv6 (ipv6 header parts payload) (ipv6 same others more) are =
    ap (λ (h : Ipv6Header). h.source ∷ h.destination ∷ []) are.0
addresses_kept of.Ipv4 (ipv6 header parts payload) (ipv6 same others more) are = refl
addresses_kept of.Arp (ipv6 header parts payload) (ipv6 same others more) are = refl
addresses_kept of.Any (arp packet) (arp same) are = ap arp_addresses are
addresses_kept of.Arp (arp packet) (arp same) are = ap arp_addresses are
addresses_kept of.Ipv4 (arp packet) (arp same) are = refl
addresses_kept of.Ipv6 (arp packet) (arp same) are = refl
addresses_kept layer net more are = absurd are

net_more : (f g : NetLayer → Bool) → ((net more : NetLayer) → MoreNet net more → f net ≡ true → g more ≡ true)
    → (net more : Option NetLayer) → MoreNets net more → option_map_or f net false ≡ true
    → option_map_or g more false ≡ true
net_more f g keeps None more are is = absurd (let no : false ≡ true = is in cc no)
net_more f g keeps (Some net) None are is = absurd are
net_more f g keeps (Some net) (Some more) are is = keeps net more are is

nets : {layers more : LaxLayers} → MoreLayers layers more → MoreNets layers.net.layer more.net.layer
nets {layers = layers} {more = more} are =
    nets_of (link_type layers.link layers.net.layer) (tags_in layers) (tags_in more) layers.net.layer more.net.layer
    are.tags

-- ---- transport

-- The transport headers of two IP payloads, if the payloads begin with one.
begun_more : (begins same : Bool) (payload more : IpPayload)
    → ((same ≡ begins) × MorePayload payload more) ⊎ (is_transport payload.number ≡ false)
    → MoreTransport (if begins then Some (transport_of payload) else None)
    (if same then Some (transport_of more) else None)
begun_more false same payload more are = tt
begun_more true true payload more (inl are) = inr (are.1.number, (are.1.rest, are.1.bytes))
begun_more true false payload more (inl are) = absurd (let no : false ≡ true = are.0 in cc no)
begun_more true true payload more (inr none) = inl none
begun_more true false payload more (inr none) = none

transport_more : (net more : Option NetLayer) → MoreNets net more
    → MoreTransport (option_and_then transport_in net) (option_and_then transport_in more)
transport_more None more are = tt
transport_more (Some net) None are = absurd are
transport_more (Some (ipv4 header parts payload)) (Some (ipv4 same others more)) are =
    begun_more (header.fragment_offset == 0) (same.fragment_offset == 0) payload more
    (elim are.1.end [
      | inl all ↦ inl (ap (λ (h : Ipv4Header). h.fragment_offset == 0) are.0, all.1)
      | inr none ↦ inr none
    ])
transport_more (Some (ipv6 header parts payload)) (Some (ipv6 same others more)) are =
    begun_more (are_first parts) (are_first others) payload more
    (elim are.1.end [
      | inl all ↦ inl (
        ap are_first
            (are.1.begins ∙ ap (λ (l : List ExtensionPart). parts ++ l) all.0 ∙ append-nil parts),
        all.1,
      )
      | inr none ↦ inr none
    ])
transport_more (Some (arp packet)) (Some (arp same)) are = tt
transport_more (Some net) (Some more) are = absurd are

transports : {layers more : LaxLayers} → MoreLayers layers more
    → MoreTransport (option_and_then transport_in layers.net.layer) (option_and_then transport_in more.net.layer)
transports {layers = layers} {more = more} are = transport_more layers.net.layer more.net.layer (nets are)

left_of : (a b : Bool) → a ≡ true → (a || b) ≡ true
left_of a b is = ap (λ (x : Bool). x || b) is

right_of : (a b : Bool) → b ≡ true → (a || b) ≡ true
right_of true b is = refl
right_of false b is = is

-- A protocol with ports is a transport protocol.
ports_transport : (ports : PortProtocol) (number : ℕ) → has_ports ports number ≡ true → is_transport number ≡ true
ports_transport protocol.Any number is =
    let icmp : Bool = number == icmpv4_number || number == icmpv6_number in
    either_more (number == tcp_number) (number == udp_number || number == sctp_number) (number == tcp_number)
    (number == udp_number || (number == sctp_number || icmp)) (λ same. same)
    (either_more (number == udp_number) (number == sctp_number) (number == udp_number) (number == sctp_number || icmp)
    (λ same. same) (left_of (number == sctp_number) icmp)) is
ports_transport protocol.Tcp number is =
    left_of (number == tcp_number) (number == udp_number || (number == sctp_number
    || (number == icmpv4_number || number == icmpv6_number))) is
ports_transport protocol.Udp number is =
    right_of (number == tcp_number) (number == udp_number || (number == sctp_number
    || (number == icmpv4_number || number == icmpv6_number)))
    (left_of (number == udp_number) (number == sctp_number || (number == icmpv4_number || number == icmpv6_number)) is)
ports_transport protocol.Sctp number is =
    right_of (number == tcp_number) (number == udp_number || (number == sctp_number
    || (number == icmpv4_number || number == icmpv6_number)))
    (right_of (number == udp_number) (number == sctp_number || (number == icmpv4_number || number == icmpv6_number))
    (left_of (number == sctp_number) (number == icmpv4_number || number == icmpv6_number) is))

first_of_both : (a b : Bool) → (a && b) ≡ true → a ≡ true
first_of_both true b is = refl
first_of_both false b is = is

side_more : (side : Side) (a b c d : Bool) → (a ≡ true → c ≡ true) → (b ≡ true → d ≡ true)
    → at_side side a b ≡ true → at_side side c d ≡ true
side_more Source a b c d first second is = first is
side_more Destination a b c d first second is = second is
side_more Either a b c d first second is = either_more a b c d first second is
side_more Both a b c d first second is = both_more a b c d first second is

port_more : (at low high : ℕ) (bytes more rest : List ℕ) → more ≡ bytes ++ rest
    → has_port_at at low high bytes ≡ true → has_port_at at low high more ≡ true
port_more at low high bytes more rest same is =
    let f : ℕ → Bool = λ port. nat_le low port && nat_le port high in
    map_more f f (number_at Two at bytes) (number_at Two at more)
    (λ value present stored. ap (λ (v : Option ℕ). option_map_or f v false)
    (ap (number_at Two at) same ∙ number_more Two at bytes rest value present) ∙ stored) is

no_ports : (ports : PortProtocol) (side : Side) (low high : ℕ) (transport : Transport)
    → is_transport transport.number ≡ false → has_port ports side low high transport ≡ true → ⊥
no_ports ports side low high transport none is =
    let has = first_of_both (has_ports ports transport.number)
    (at_side side (has_port_at 0 low high transport.bytes) (has_port_at 2 low high transport.bytes)) is in
    let no : false ≡ true = sym none ∙ ports_transport ports transport.number has in
    cc no

ports_more : (ports : PortProtocol) (side : Side) (low high : ℕ) (transport more : Option Transport)
    → MoreTransport transport more → option_map_or (has_port ports side low high) transport false ≡ true
    → option_map_or (has_port ports side low high) more false ≡ true
ports_more ports side low high None more are is = absurd (let no : false ≡ true = is in cc no)
ports_more ports side low high (Some transport) None are is = absurd (no_ports ports side low high transport are is)
ports_more ports side low high (Some transport) (Some more) (inl none) is =
    absurd (no_ports ports side low high transport none is)
ports_more ports side low high (Some transport) (Some more) (inr are) is =
    both_more (has_ports ports transport.number)
    (at_side side (has_port_at 0 low high transport.bytes) (has_port_at 2 low high transport.bytes))
    (has_ports ports more.number)
    (at_side side (has_port_at 0 low high more.bytes) (has_port_at 2 low high more.bytes))
    (λ first. ap (has_ports ports) are.0 ∙ first)
    (side_more side (has_port_at 0 low high transport.bytes) (has_port_at 2 low high transport.bytes)
    (has_port_at 0 low high more.bytes) (has_port_at 2 low high more.bytes)
    (port_more 0 low high transport.bytes more.bytes are.1.0 are.1.1)
    (port_more 2 low high transport.bytes more.bytes are.1.0 are.1.1)) is

-- ---- bytes of layers

-- Bytes that are present under a condition. The second condition follows from the first.
bytes_if : (b c : Bool) (bytes more : Option (List ℕ)) → (b ≡ true → (c ≡ true) × MoreBytes bytes more)
    → MoreBytes (if b then bytes else None) (if c then more else None)
bytes_if false c bytes more are = tt
bytes_if true c bytes more are =
    let present = are refl in
    subst (λ (t : Bool). MoreBytes bytes (if t then more else None)) (sym present.0) present.1

none_present : (b : Bool) (bytes : List ℕ) (more : Option (List ℕ)) → (b ≡ true → ⊥)
    → MoreBytes (if b then Some bytes else None) more
none_present false bytes more none = tt
none_present true bytes more none = absurd (none refl)

other_number : (number other : ℕ) → is_transport number ≡ true → is_transport other ≡ false → (other == number) ≡ true
    → ⊥
other_number number other is none same =
    let equal : other ≡ number = eqb-true other number same in
    let no : false ≡ true = sym none ∙ ap is_transport equal ∙ is in
    cc no

number_bytes : (number : ℕ) → is_transport number ≡ true → (transport more : Option Transport)
    → MoreTransport transport more → MoreBytes (bytes_of_number number transport) (bytes_of_number number more)
number_bytes number is None more are = tt
number_bytes number is (Some transport) None are =
    none_present (transport.number == number) transport.bytes None (other_number number transport.number is are)
number_bytes number is (Some transport) (Some more) (inl none) =
    none_present (transport.number == number) transport.bytes (bytes_of_number number (Some more))
    (other_number number transport.number is none)
number_bytes number is (Some transport) (Some more) (inr are) =
    bytes_if (transport.number == number) (more.number == number) (Some transport.bytes) (Some more.bytes)
    (λ present. (ap (λ (n : ℕ). n == number) are.0 ∙ present, are.1))

version_bytes : (ip : IpVersion) (number : ℕ) → is_transport number ≡ true → (layers more : LaxLayers)
    (prefix others : List ℕ) (len : ℕ) → MoreLayers layers more
    → MoreBytes (bytes_of_version ip number (packet_of layers prefix len))
    (bytes_of_version ip number (packet_of more (prefix ++ others) len))
version_bytes ip number is layers more prefix others len are =
    bytes_if (option_map_or (is_version ip) layers.net.layer false) (option_map_or (is_version ip) more.net.layer false)
    (bytes_of_number number (option_and_then transport_in layers.net.layer))
    (bytes_of_number number (option_and_then transport_in more.net.layer))
    (λ present. (
      net_more (is_version ip) (is_version ip) (λ net same kept first. version_kept ip net same kept ∙ first)
          layers.net.layer more.net.layer (nets are) present,
      number_bytes number is (option_and_then transport_in layers.net.layer)
          (option_and_then transport_in more.net.layer) (transports are),
    ))

type_bytes : (number : ℕ) → ((type : Option ℕ) → IsNoNetType type → is_type number type ≡ false)
    → (layers more : LaxLayers) (prefix others : List ℕ) (len : ℕ) → MoreLayers layers more
    → MoreBytes (bytes_of_type number (packet_of layers prefix len))
    (bytes_of_type number (packet_of more (prefix ++ others) len))
type_bytes number none layers more prefix others len are =
    let type = link_type layers.link layers.net.layer in
    let at = link_len layers.link + tags_len (tags_in layers) in
    bytes_if (is_type number (type_after type (tags_in layers)))
    (is_type number (type_after (link_type more.link more.net.layer) (tags_in more)))
    (Some (drop at prefix)) (Some (drop (link_len more.link + tags_len (tags_in more)) (prefix ++ others)))
    (λ present.
    let end = tags_end number none type (tags_in layers) (tags_in more) layers.net.layer more.net.layer are.tags present in
    let rest = drop_more at prefix others in (
      ap (λ (t : Option ℕ). is_type number (type_after t (tags_in more))) are.type ∙ ap (is_type number) end.0 ∙ present,
      (rest.0, (λ i. drop (are.link.len i + end.1 i) (prefix ++ others)) ∙ rest.1),
    ))

link_bytes : (layers more : LaxLayers) (prefix others : List ℕ) (len : ℕ) → MoreLayers layers more
    → MoreBytes (ethernet_bytes (packet_of layers prefix len) layers.link)
    (ethernet_bytes (packet_of more (prefix ++ others) len) more.link)
link_bytes layers more prefix others len are =
    let complete = ethernet_bytes (packet_of more (prefix ++ others) len) more.link in
    elim are.link.ethernet [
      | inl none ↦ subst (λ (b : Option (List ℕ)). MoreBytes b complete) (sym (none (packet_of layers prefix len))) tt
      | inr is ↦
          subst (λ (b : Option (List ℕ)). MoreBytes b complete) (sym (is.0 (packet_of layers prefix len)))
          (subst (λ (b : Option (List ℕ)). MoreBytes (Some prefix) b)
          (sym (is.1 (packet_of more (prefix ++ others) len))) (others, refl))
    ]

bytes_more : (layer : FieldLayer) (layers more : LaxLayers) (prefix others : List ℕ) (len : ℕ) → MoreLayers layers more
    → MoreBytes (bytes_of layer (packet_of layers prefix len)) (bytes_of layer (packet_of more (prefix ++ others) len))
bytes_more field.Ethernet layers more prefix others len are = link_bytes layers more prefix others len are
bytes_more field.Ipv4 layers more prefix others len are =
    type_bytes ipv4_type (λ type none. none.ipv4) layers more prefix others len are
bytes_more field.Ipv6 layers more prefix others len are =
    type_bytes ipv6_type (λ type none. none.ipv6) layers more prefix others len are
bytes_more field.Arp layers more prefix others len are =
    type_bytes arp_type (λ type none. none.arp) layers more prefix others len are
bytes_more field.Tcp layers more prefix others len are = number_bytes tcp_number refl
    (option_and_then transport_in layers.net.layer) (option_and_then transport_in more.net.layer) (transports are)
bytes_more field.Udp layers more prefix others len are = number_bytes udp_number refl
    (option_and_then transport_in layers.net.layer) (option_and_then transport_in more.net.layer) (transports are)
bytes_more field.Sctp layers more prefix others len are = number_bytes sctp_number refl
    (option_and_then transport_in layers.net.layer) (option_and_then transport_in more.net.layer) (transports are)
bytes_more field.Icmpv4 layers more prefix others len are =
    version_bytes version.V4 icmpv4_number refl layers more prefix others len are
bytes_more field.Icmpv6 layers more prefix others len are =
    version_bytes version.V6 icmpv6_number refl layers more prefix others len are

-- ---- primitives

pub primitive_more : (p : Primitive) (layers more : LaxLayers) (prefix others : List ℕ) (len : ℕ)
    → MoreLayers layers more → matches_primitive p (packet_of layers prefix len) ≡ true
    → matches_primitive p (packet_of more (prefix ++ others) len) ≡ true
primitive_more (primitive.EtherType type) layers more prefix others len are is =
    either_more (is_type type.0 (link_type layers.link layers.net.layer))
    (list_any (λ extension. is_type type.0 (tag_type extension)) (tags_in layers))
    (is_type type.0 (link_type more.link more.net.layer))
    (list_any (λ extension. is_type type.0 (tag_type extension)) (tags_in more))
    (λ first. ap (is_type type.0) are.type ∙ first)
    (any_tag (λ extension. is_type type.0 (tag_type extension)) (type_kept type.0)
    (link_type layers.link layers.net.layer) (tags_in layers) (tags_in more) layers.net.layer more.net.layer are.tags) is
primitive_more (primitive.Protocol ip number) layers more prefix others len are is =
    let test : NetLayer → Bool = λ layer. is_version ip layer && list_any (λ other. other == number.0) (ip_numbers layer) in
    net_more test test
    (λ net same kept. both_more (is_version ip net) (list_any (λ other. other == number.0) (ip_numbers net))
    (is_version ip same) (list_any (λ other. other == number.0) (ip_numbers same))
    (λ first. version_kept ip net same kept ∙ first) (numbers_more number.0 net same kept))
    layers.net.layer more.net.layer (nets are) is
primitive_more (primitive.Address layer side network) layers more prefix others len are is =
    let test : NetLayer → Bool = λ net. at_side_of side (is_within network) (addresses_of layer net) in
    net_more test test
    (λ net same kept stored. ap (at_side_of side (is_within network)) (addresses_kept layer net same kept) ∙ stored)
    layers.net.layer more.net.layer (nets are) is
primitive_more (primitive.Station side station) layers more prefix others len are is = are.link.station side station ∙ is
primitive_more (primitive.Port ports side low high) layers more prefix others len are is =
    ports_more ports side low high (option_and_then transport_in layers.net.layer)
    (option_and_then transport_in more.net.layer) (transports are) is
primitive_more (primitive.Vlan id) layers more prefix others len are is =
    any_tag (is_vlan id) (vlan_kept id) (link_type layers.link layers.net.layer) (tags_in layers) (tags_in more)
    layers.net.layer more.net.layer are.tags is
primitive_more (primitive.Number Length mask relation number) layers more prefix others len are is = is
primitive_more (primitive.Number (Bytes layer at width) mask relation number) layers more prefix others len are is =
    let test : ℕ → Bool = λ value. has_relation relation (bit_and value mask) number in
    map_more test test
    (option_and_then (number_at width at) (bytes_of layer (packet_of layers prefix len)))
    (option_and_then (number_at width at) (bytes_of layer (packet_of more (prefix ++ others) len)))
    (λ value present stored. ap (λ (v : Option ℕ). option_map_or test v false)
    (value_more width at (bytes_of layer (packet_of layers prefix len))
    (bytes_of layer (packet_of more (prefix ++ others) len)) value (bytes_more layer layers more prefix others len are)
    present) ∙ stored) is

-- ---- expressions

pub expr_more : (e : Expr) (layers more : LaxLayers) (prefix others : List ℕ) (len : ℕ) → MoreLayers layers more
    → IsPositive e → matches_expr e (packet_of layers prefix len) ≡ true
    → matches_expr e (packet_of more (prefix ++ others) len) ≡ true
expr_more (test p) layers more prefix others len are positive is =
    primitive_more p layers more prefix others len are is
expr_more (negated e) layers more prefix others len are positive is = absurd positive
expr_more (both e f) layers more prefix others len are positive is =
    both_more (matches_expr e (packet_of layers prefix len)) (matches_expr f (packet_of layers prefix len))
    (matches_expr e (packet_of more (prefix ++ others) len)) (matches_expr f (packet_of more (prefix ++ others) len))
    (expr_more e layers more prefix others len are positive.0) (expr_more f layers more prefix others len are positive.1) is
expr_more (either e f) layers more prefix others len are positive is =
    either_more (matches_expr e (packet_of layers prefix len)) (matches_expr f (packet_of layers prefix len))
    (matches_expr e (packet_of more (prefix ++ others) len)) (matches_expr f (packet_of more (prefix ++ others) len))
    (expr_more e layers more prefix others len are positive.0) (expr_more f layers more prefix others len are positive.1) is
