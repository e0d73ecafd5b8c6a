-- Lemmas about primitives that the grammar allows: their numbers and addresses are in range.
use Rattle.std.proofs.Common.{◌≡◌, ℕ, zero, suc, ◌-◌, ◌*◌, ◌<◌, ◌≤◌, ◌&&◌, inl, inr, min, nat_le, Bool, true, false, cond, bit_or, List, [], ◌∷◌, ◌++◌, length, Option, Some, None, unwrap_or, replicate, refl, ap, ap₂, sym, subst, ◌∙◌, arith, length-append, leb-true, lit≤, lit<}
use Rattle.std.specs.Net.Addr.{ipv4_octets, ipv6_segments, octets_of}
use Rattle.std.specs.Str.{bytes_eq}
use Rattle.std.specs.declared.net.ip_addr.IpAddr.{IpAddr}
use Rattle.std.specs.declared.net.ip_addr.IpAddr.TheVariants.{V4, V6}
use Rattle.std.specs.declared.net.ipv4_addr.Ipv4Addr.{Ipv4Addr}
use Rattle.std.proofs.lemmas.List.{length-replicate}
use Rattle.std.proofs.lemmas.Nat.{or_of_32}
use Rattle.std.proofs.lemmas.Slice.Eq.{bytes_eq-Decides}
use Rattle.filter_tokens.specs.declared.network.Network.{Network}
use Rattle.filter_tokens.specs.declared.primitive.AddressLayer.{AddressLayer}
use Rattle.filter_tokens.specs.declared.primitive.AddressLayer.TheVariants as of
use Rattle.filter_tokens.specs.declared.primitive.Operand.{Operand}
use Rattle.filter_tokens.specs.declared.primitive.Operand.TheVariants.{Length, Bytes}
use Rattle.filter_tokens.specs.declared.primitive.Primitive.{Primitive}
use Rattle.filter_tokens.specs.declared.primitive.Primitive.TheVariants as primitive
use Rattle.filter_tokens.specs.declared.primitive.Side.TheVariants.{Destination}
use Rattle.filter_tokens.specs.Names.{constant_names, is_text, lookup_name, port_names}
use Rattle.filter_tokens.specs.Networks.{address_bytes, address_width, has_no_host_bits, kept_bits, network_bytes}
use Rattle.filter_tokens.specs.Tokens.{Token}
use Rattle.filter_tokens.specs.Values.{IsConstant, IsFamily, IsLeadingNumbers, IsMask, IsNetworkText, IsOctets, IsPortText, IsRangeText, most_number}
use Rattle.filter_tokens.proofs.ValueLemmas.{number_bound, octet_small}
use Rattle.filter_language.specs.declared.head.Head.{Head}
use Rattle.filter_language.specs.declared.head.Head.TheVariants as head
use Rattle.filter_language.specs.Grammar
use Rattle.filter_language.specs.Grammar.{IsAccess, IsBare, IsGroup, IsLeft, IsRight, IsUnion, IsValue, IsWordValue}
use Rattle.packet_filter.proofs.AddressTextLemmas.{Below, IsAddress, address_of_text, below_append, below_at, below_zeros}
use Rattle.packet_filter.proofs.WordTextLemmas.{left_true, right_true}

abbrev pub FitsOperand : Operand → Type 0
FitsOperand Length = Unit {0}
FitsOperand (Bytes layer offset width) = offset ≤ most_number

-- The numbers and addresses of a primitive are in range.
abbrev pub Fits : Primitive → Type 0
Fits (primitive.EtherType type) = (1536 ≤ type.0) × (type.0 ≤ 65535)
Fits (primitive.Protocol ip number) = number.0 ≤ 255
Fits (primitive.Address layer side network) =
    IsAddress network.address × IsFamily layer network.address × (network.bits ≤ address_width network.address)
    × (has_no_host_bits network ≡ true)
Fits (primitive.Station side octets) = (length octets ≡ 6) × Below 256 octets
Fits (primitive.Port ports side low high) = (low ≤ high) × (high ≤ 65535)
Fits (primitive.Vlan None) = Unit {0}
Fits (primitive.Vlan (Some id)) = id ≤ 4095
Fits (primitive.Number operand mask by number) = FitsOperand operand × (mask ≤ most_number) × (number ≤ most_number)

-- ---- names

-- No name has a value above `most`.
abbrev names_fit : ℕ → List (List ℕ × ℕ) → Bool
names_fit most [] = true
names_fit most (row ∷ rows) = nat_le row.1 most && names_fit most rows

first_or_later : (b : Bool) (here value most : ℕ) (later : Option ℕ) → here ≤ most
    → (later ≡ Some value → value ≤ most) → cond b (Some here) later ≡ Some value → value ≤ most
first_or_later true here value most later small others is =
    let same : here ≡ value = cc in omega (arith, same, small)
first_or_later false here value most later small others is = others is

name_bound : (most : ℕ) (text : List ℕ) (rows : List (List ℕ × ℕ)) (value : ℕ) → names_fit most rows ≡ true
    → lookup_name text rows ≡ Some value → value ≤ most
name_bound most text [] value fit is = let never : ⊥ = cc in absurd never
name_bound most text (row ∷ rows) value fit is =
    first_or_later (is_text text row.0) row.1 value most (lookup_name text rows)
    (leb-true row.1 most (left_true (nat_le row.1 most) (names_fit most rows) fit))
    (name_bound most text rows value (right_true (nat_le row.1 most) (names_fit most rows) fit)) is

-- ---- networks

octets_length : (segments : List ℕ) → length (octets_of segments) ≡ 2 * length segments
octets_length [] = refl
octets_length (s ∷ segments) = omega (arith, octets_length segments)

address_length : (address : IpAddr) → IsAddress address → 8 * length (address_bytes address) ≡ address_width address
address_length (V4 a) is = omega (arith, is.0)
address_length (V6 a) is = omega (arith, is.0, octets_length (ipv6_segments a))

kept_complete : (byte : ℕ) → kept_bits 8 byte ≡ byte
kept_complete byte = omega arith

-- All bits are kept.
network_complete : (bits : ℕ) (bytes : List ℕ) → 8 * length bytes ≤ bits → network_bytes bits bytes ≡ bytes
network_complete bits [] many = refl
network_complete bits (byte ∷ bytes) many =
    let eight : min bits 8 ≡ 8 = omega (arith, many) in
    let others : 8 * length bytes ≤ bits - 8 = omega (arith, many) in
    ap₂ (λ (n : ℕ) (list : List ℕ). kept_bits n byte ∷ list) eight (network_complete (bits - 8) bytes others)
    ∙ ap (λ (b : ℕ). b ∷ bytes) (kept_complete byte)

network_zeros : (n : ℕ) → network_bytes 0 (replicate n 0) ≡ replicate n 0
network_zeros zero = refl
network_zeros (suc n) = ap (λ (list : List ℕ). 0 ∷ list) (network_zeros n)

-- The bits of the first numbers are kept, and the others are 0.
network_prefix : (bits n : ℕ) (numbers : List ℕ) → bits ≡ 8 * length numbers
    → network_bytes bits (numbers ++ replicate n 0) ≡ numbers ++ replicate n 0
network_prefix bits n [] is = ap (λ (b : ℕ). network_bytes b (replicate n 0)) is ∙ network_zeros n
network_prefix bits n (byte ∷ numbers) is =
    let eight : min bits 8 ≡ 8 = omega (arith, is) in
    let others : bits - 8 ≡ 8 * length numbers = omega (arith, is) in
    ap₂ (λ (b : ℕ) (list : List ℕ). kept_bits b byte ∷ list) eight (network_prefix (bits - 8) n numbers others)
    ∙ ap (λ (b : ℕ). b ∷ (numbers ++ replicate n 0)) (kept_complete byte)

equal_bytes : (a b : List ℕ) → a ≡ b → bytes_eq a b ≡ true
equal_bytes a b same = (bytes_eq-Decides a b).1 same

complete_address : (address : IpAddr) (bits : ℕ) → IsAddress address → bits ≡ address_width address
    → bytes_eq (network_bytes bits (address_bytes address)) (address_bytes address) ≡ true
complete_address address bits is all =
    equal_bytes (network_bytes bits (address_bytes address)) (address_bytes address)
    (network_complete bits (address_bytes address) (omega (arith, all, address_length address is)))

leading_fits : (text numbers : List ℕ) → IsLeadingNumbers text numbers → Below 256 numbers × (length numbers ≤ 3)
leading_fits text [] is = absurd is
leading_fits text (a ∷ []) is = ((omega (arith, is.2), tt), omega arith)
leading_fits text (a ∷ b ∷ []) is = ((omega (arith, is.1), (omega (arith, is.2), tt)), omega arith)
leading_fits text (a ∷ b ∷ c ∷ []) is =
    ((omega (arith, is.1), (omega (arith, is.2), (omega (arith, is.3), tt))), omega arith)
leading_fits text (a ∷ b ∷ c ∷ d ∷ numbers) is = absurd is

-- The first numbers of an address, and zeros.
leading_address : (text numbers : List ℕ) (address : Ipv4Addr) → IsLeadingNumbers text numbers
    → ipv4_octets address ≡ numbers ++ replicate (4 - length numbers) 0 → IsAddress (V4 address)
leading_address text numbers address leading is =
    let (below, few) = leading_fits text numbers leading in
    let zeros : List ℕ = replicate (4 - length numbers) 0 in (
      omega (arith, ap length is, length-append numbers zeros, length-replicate {A = ℕ} (4 - length numbers) 0, few),
      below_at 256 (ipv4_octets address) (lit< tt)
          (subst (Below 256) (sym is)
          (below_append 256 numbers zeros below (below_zeros 256 (4 - length numbers) (lit< tt)))),
    )

-- A network without a prefix length.
abbrev FitsNetwork : IpAddr → ℕ → Type 0
FitsNetwork address bits =
    IsAddress address × (bits ≤ address_width address)
    × (bytes_eq (network_bytes bits (address_bytes address)) (address_bytes address) ≡ true)

leading_network : (text numbers : List ℕ) (address : Ipv4Addr) (bits : ℕ) → IsLeadingNumbers text numbers
    → bits ≡ 8 * length numbers → ipv4_octets address ≡ numbers ++ replicate (4 - length numbers) 0
    → FitsNetwork (V4 address) bits
leading_network text numbers address bits leading size is =
    let (below, few) = leading_fits text numbers leading in (
      leading_address text numbers address leading is,
      omega (arith, size, few),
      equal_bytes (network_bytes bits (ipv4_octets address)) (ipv4_octets address)
          (ap (network_bytes bits) is ∙ network_prefix bits (4 - length numbers) numbers size ∙ sym is),
    )

network_fits : (text : List ℕ) (network : Network) → IsNetworkText text network
    → FitsNetwork network.address network.bits
network_fits text network (inl (is, all)) =
    let address : IsAddress network.address = address_of_text text network.address is in
    (address, omega (arith, all), complete_address network.address network.bits address all)
network_fits text network (inr (numbers, address, leading, size, same, is)) =
    subst (λ (a : IpAddr). FitsNetwork a network.bits) (sym same)
    (leading_network text numbers address network.bits leading size is)

mask_bits : (address : IpAddr) (text : List ℕ) (bits : ℕ) → IsMask address text bits → bits ≤ address_width address
mask_bits (V4 a) text bits (mask, is) = is.1
mask_bits (V6 a) text bits is = absurd is

family_at : (layer other : AddressLayer) (address : IpAddr) → other ≡ layer → IsFamily layer address
    → IsFamily other address
family_at layer other address same is = subst (λ (l : AddressLayer). IsFamily l address) (sym same) is

-- ---- values

octets_below : (text octets : List ℕ) → IsOctets text octets → Below 256 octets
octets_below text [] is = absurd is
octets_below text (octet ∷ []) is =
    (subst (λ (n : ℕ). n < 256) is.2 (octet_small text is.0.1 is.1), tt)
octets_below text (octet ∷ following ∷ octets) (first, rest, is, here, others) = (
  subst (λ (n : ℕ). n < 256) here.2 (octet_small first here.0.1 here.1),
  octets_below rest (following ∷ octets) others,
)

port_bound : (text : List ℕ) (port : ℕ) → IsPortText text port → port ≤ 65535
port_bound text port (inl is) = name_bound 65535 text port_names port refl is
port_bound text port (inr (none, is)) = number_bound 65535 text port is

range_bound : (text : List ℕ) (low high : ℕ) → IsRangeText text low high → (low ≤ high) × (high ≤ 65535)
range_bound text low high (inl (is, same)) = (omega (arith, same), omega (arith, same, is.1))
range_bound text low high (inr (first, second, is, first_fits, second_fits, low_is, high_is)) =
    (omega (arith, low_is, high_is), omega (arith, high_is, first_fits, second_fits))

word_fits : (q : Head) (text : List ℕ) (p : Primitive) → IsWordValue q text p → Fits p
word_fits (head.Host layer side) text (primitive.Address layer' side' network) (is, all, family, same, same_side) =
    let address : IsAddress network.address = address_of_text text network.address is in (
      address,
      family_at layer layer' network.address same family,
      omega (arith, all),
      complete_address network.address network.bits address all,
    )
word_fits (head.Net layer side) text (primitive.Address layer' side' network) (is, family, same, same_side) =
    let (address, few, none) = network_fits text network is in
    (address, family_at layer layer' network.address same family, few, none)
word_fits (head.Station side) text (primitive.Station side' octets) is = (is.0.1, octets_below text octets is.0.0)
word_fits (head.Port ports side) text (primitive.Port ports' side' low high) (is, same, same_ports, same_side) =
    (omega (arith, same), omega (arith, same, port_bound text low is))
word_fits (head.PortRange ports side) text (primitive.Port ports' side' low high) is = range_bound text low high is.0
word_fits (head.Protocol ip) text (primitive.Protocol ip' number) is = number_bound 255 text number.0 is.0
word_fits head.EtherType text (primitive.EtherType type) is = (is.1, number_bound 65535 text type.0 is.0)
word_fits q text p is = absurd is

-- A value fits.
pub value_fits : (q : Head) (tokens : List Token) (p : Primitive) → IsValue q tokens p → Fits p
value_fits q tokens p (Grammar.one_word q' text p' is) = word_fits q' text p' is
value_fits q tokens p (Grammar.with_length layer side text bits_text network bits is family size none) =
    ((network_fits text network is).0, family, size.1, none)
value_fits q tokens p (Grammar.with_mask layer side text mask network bits is family size none) =
    ((network_fits text network is).0, family, mask_bits network.address mask bits size, none)

-- ---- byte tests

constant_bound : (text : List ℕ) (number : ℕ) → IsConstant text number → number ≤ most_number
constant_bound text number (inl is) = name_bound most_number text constant_names number refl is
constant_bound text number (inr (none, is)) = number_bound most_number text number is

or_bound : (a b : ℕ) → a ≤ most_number → b ≤ most_number → bit_or a b ≤ most_number
or_bound a b small small' = omega (arith, or_of_32 a b (omega (arith, small)) (omega (arith, small')))

union_bound : (tokens : List Token) (number : ℕ) → IsUnion tokens number → number ≤ most_number
union_bound tokens number (Grammar.one_constant text n is) = constant_bound text n is
union_bound tokens number (Grammar.more_constants prefix text n more union is) =
    or_bound n more (union_bound prefix n union) (constant_bound text more is)

group_bound : (tokens : List Token) (number : ℕ) → IsGroup tokens number → number ≤ most_number
group_bound tokens number (Grammar.constant text n is) = constant_bound text n is
group_bound tokens number (Grammar.in_parentheses inside n union) = union_bound inside n union

right_bound : (tokens : List Token) (number : ℕ) → IsRight tokens number → number ≤ most_number
right_bound tokens number (Grammar.one_group group n is) = group_bound group n is
right_bound tokens number (Grammar.more_groups prefix group n more right is) =
    or_bound n more (right_bound prefix n right) (group_bound group more is)

access_fits : (tokens : List Token) (operand : Operand) → IsAccess tokens operand → FitsOperand operand
access_fits tokens operand Grammar.len = tt
access_fits tokens operand (Grammar.one_byte layer read text offset is stated) = constant_bound text offset stated
access_fits tokens operand (Grammar.with_size layer read text size offset width is stated sized) =
    constant_bound text offset stated

left_fits : (levels : ℕ) (tokens : List Token) (operand : Operand) (mask : Option ℕ) → IsLeft levels tokens operand mask
    → FitsOperand operand × (unwrap_or mask most_number ≤ most_number)
left_fits levels tokens operand mask (Grammar.access n inside operand' is) =
    (access_fits inside operand' is, lit≤ tt)
left_fits levels tokens operand mask (Grammar.masked n inside group operand' bits left is) =
    ((left_fits n inside operand' None left).0, group_bound group bits is)
left_fits levels tokens operand mask (Grammar.left_in_parentheses n inside operand' mask' left) =
    left_fits n inside operand' mask' left

-- ---- primitives without values

multicast_fits : (layer : AddressLayer) (network known : Network) → network ≡ known
    → Fits (primitive.Address layer Destination known) → Fits (primitive.Address layer Destination network)
multicast_fits layer network known same fits =
    subst (λ (n : Network). Fits (primitive.Address layer Destination n)) (sym same) fits

-- A primitive without values fits.
pub bare_fits : (levels : ℕ) (tokens : List Token) (p : Primitive) → IsBare levels tokens p → Fits p
bare_fits levels tokens p (Grammar.bare_ip n) = (lit≤ tt, lit≤ tt)
bare_fits levels tokens p (Grammar.bare_ip6 n) = (lit≤ tt, lit≤ tt)
bare_fits levels tokens p (Grammar.bare_arp n) = (lit≤ tt, lit≤ tt)
bare_fits levels tokens p (Grammar.bare_tcp n) = lit≤ tt
bare_fits levels tokens p (Grammar.bare_udp n) = lit≤ tt
bare_fits levels tokens p (Grammar.bare_sctp n) = lit≤ tt
bare_fits levels tokens p (Grammar.bare_icmp n) = lit≤ tt
bare_fits levels tokens p (Grammar.bare_icmp6 n) = lit≤ tt
bare_fits levels tokens p (Grammar.bare_igmp n) = lit≤ tt
bare_fits levels tokens p (Grammar.bare_ah n) = lit≤ tt
bare_fits levels tokens p (Grammar.bare_esp n) = lit≤ tt
bare_fits levels tokens p (Grammar.bare_broadcast n) =
    (refl, (lit< tt, (lit< tt, (lit< tt, (lit< tt, (lit< tt, (lit< tt, tt)))))))
bare_fits levels tokens p (Grammar.bare_ether_broadcast n) =
    (refl, (lit< tt, (lit< tt, (lit< tt, (lit< tt, (lit< tt, (lit< tt, tt)))))))
bare_fits levels tokens p (Grammar.bare_multicast n) = (lit≤ tt, lit≤ tt, lit≤ tt)
bare_fits levels tokens p (Grammar.bare_ether_multicast n) = (lit≤ tt, lit≤ tt, lit≤ tt)
bare_fits levels tokens p (Grammar.bare_ip_multicast n network same size) =
    multicast_fits of.Ipv4 network (record { address = V4 (record { octets = 224 ∷ 0 ∷ 0 ∷ 0 ∷ [] }); bits = 3 })
    (λ i. record { address = same i; bits = size i }) (
      (refl, below_at 256 (224 ∷ 0 ∷ 0 ∷ 0 ∷ []) (lit< tt) (lit< tt, (lit< tt, (lit< tt, (lit< tt, tt))))),
      tt,
      lit≤ tt,
      refl,
    )
bare_fits levels tokens p (Grammar.bare_ip6_multicast n network same size) =
    multicast_fits of.Ipv6 network (record { address = V6 (record { segments = 65280 ∷ replicate 7 0 }); bits = 8 })
    (λ i. record { address = same i; bits = size i }) (
      (refl, below_at 65536 (65280 ∷ replicate 7 0) (lit< tt) (lit< tt, below_zeros 65536 7 (lit< tt))),
      tt,
      lit≤ tt,
      refl,
    )
bare_fits levels tokens p (Grammar.bare_vlan n) = tt
bare_fits levels tokens p (Grammar.bare_vlan_with n text id is) = number_bound 4095 text id is
bare_fits levels tokens p (Grammar.bare_less n text number is) = (tt, lit≤ tt, number_bound most_number text number is)
bare_fits levels tokens p (Grammar.bare_greater n text number is) =
    (tt, lit≤ tt, number_bound most_number text number is)
bare_fits levels tokens p (Grammar.bare_comparison n left right operand mask by number is is_right) =
    let (operand_fits, mask_fits) = left_fits n left operand mask is in
    (operand_fits, mask_fits, right_bound right number is_right)
