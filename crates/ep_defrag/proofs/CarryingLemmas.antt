-- If some frame carries a fragment of a stream, other frames carry its other fragments.
use Rattle.std.proofs.Common.{◌≡◌, ℕ, zero, suc, ◌+◌, ◌*◌, ◌/◌, ◌^◌, ◌<◌, ◌≤◌, Bool, true, false, cond, ◌||◌, eqb, ltb}
use Rattle.std.proofs.Common.{List, [], ◌∷◌, ◌++◌, append_assoc, length, Option, Some, None, sym, refl, ap, ◌∙◌, subst}
use Rattle.std.proofs.Common.{inl, inr, arith}
use Rattle.std.specs.List.{AllByRecursion}
use Rattle.std.specs.Option.{option_and_then}
use Rattle.std.proofs.lemmas.Bool.{cases_Bool}
use Rattle.std.proofs.lemmas.Bool.Decides.{nat_tests}
use Rattle.std.proofs.lemmas.List.{append-nil, length-append}
use Rattle.ep_base.specs.Bytes.{AreBytes}
use Rattle.ep_base.specs.EtherTypes.{ipv4_type, ipv6_type, vlan_type}
use Rattle.ep_base.specs.IpNumbers.{authentication_number, fragment_number, hop_by_hop_number}
use Rattle.ep_base.specs.Readings.{slices}
use Rattle.ep_base.specs.declared.ether_type.EtherType.{EtherType}
use Rattle.ep_base.specs.declared.len_source.LenSource.TheVariants as by_source
use Rattle.ep_ext.specs.declared.ip_auth_header.IpAuthHeader.{IpAuthHeader}
use Rattle.ep_ext.specs.declared.ipv6_fragment_header.Ipv6FragmentHeader.{Ipv6FragmentHeader}
use Rattle.ep_ext.specs.Chains.{IpVersion, ipv4, ipv6, chain_of, demand_of, ends, takes, misplaced, is_first}
use Rattle.ep_ext.specs.Chains.{IsChainAfter, IsExtensionChain}
use Rattle.ep_ext.specs.ExtensionParts.{ExtensionPart, hop_by_hop, destination_options, routing, fragment}
use Rattle.ep_ext.specs.ExtensionParts.{authentication, part_next, IsExtensionPart}
use Rattle.ep_ext.specs.FragmentHeader.{FitsFragmentHeader, fragment_header_bytes}
use Rattle.ep_ext.specs.IpAuth.{ip_auth_with, ip_auth_bytes}
use Rattle.ep_ip.specs.declared.ipv4_header.Ipv4Header.{Ipv4Header}
use Rattle.ep_ip.specs.declared.ipv6_header.Ipv6Header.{Ipv6Header}
use Rattle.ep_ip.specs.Ipv4.{FitsIpv4, ipv4_header_len, ipv4_flags_with, ipv4_bytes, default_ipv4_header}
use Rattle.ep_ip.specs.Ipv4.{is_ipv4_fragment}
use Rattle.ep_ip.specs.Ipv6.{ipv6_bytes}
use Rattle.ep_ip.specs.IpPackets.{IpPacket, ipv4_part, ipv6_part, IsIpv4, IsIpv6}
use Rattle.ep_link.specs.declared.link_ext.single_vlan_header.SingleVlanHeader.{SingleVlanHeader}
use Rattle.ep_link.specs.LinkExtensions.{LinkExtension, vlan, macsec, BeginsLinkExtension}
use Rattle.ep_link.specs.LinkSlices.{ether_payload}
use Rattle.ep_link.specs.LinuxSll.{protocol_ether_type}
use Rattle.ep_link.specs.Vlan.{vlan_bytes}
use Rattle.ep_packet.specs.declared.entry.Entry.{Entry}
use Rattle.ep_packet.specs.declared.entry.Entry.TheVariants as at_entry
use Rattle.ep_packet.specs.FrameFragments.{FragmentId, ipv4_id, ipv6_id, FrameFragment, first_fragment, ipv6_fragment}
use Rattle.ep_packet.specs.FrameFragments.{net_fragment}
use Rattle.ep_packet.specs.Frame.{NetKind, only_ipv4, only_ipv6, only_arp, any_ip, net_kind, IsNetLayer, IsNetPart}
use Rattle.ep_packet.specs.Frame.{IsInside, IsFrame}
use Rattle.ep_packet.specs.Layers.{Layers, NetLayer, ipv4_layer, ipv6_layer}
use Rattle.ep_packet.specs.VlanTags.{vlan_ids_in}
use Rattle.ep_transport.specs.TransportParts.{TransportLayer}
use Rattle.ep_defrag.specs.IpFragments.{IpFragment}
use Rattle.ep_defrag.specs.Completing.{CarryingFrame, is_part, CarriesOf}
use Rattle.ep_build.proofs.ByteListLemmas.{AllBytes, all, none, more, both, both_bytes, word, long}

-- ---- the identifier of a stream from a frame that carries a fragment

-- Holds if a frame can have these addresses, this identification and this protocol number.
abbrev FitsId : FragmentId → ℕ → Type 0
FitsId (ipv4_id source destination identification) number =
    (length source ≡ 4) × AreBytes source × (length destination ≡ 4) × AreBytes destination
    × (identification < 2 ^ 16) × (number < 2 ^ 8)
FitsId (ipv6_id source destination identification) number =
    (length source ≡ 16) × AreBytes source × (length destination ≡ 16) × AreBytes destination
    × (identification < 2 ^ 32) × (number < 2 ^ 8) × (demand_of ipv6 slices (fragment_number ∷ []) number ≡ ends)

-- Holds if a frame can have these VLAN identifiers.
abbrev FitIds : List ℕ → Type 0
FitIds ids = AllByRecursion (λ id. id < 2 ^ 12) ids

and_then_some : {X Y : Type 0} (f : X → Option Y) (found : Option X) (y : Y) → option_and_then f found ≡ Some y
    → (x : X) × (found ≡ Some x) × (f x ≡ Some y)
and_then_some f None y some = absurd (cc)
and_then_some f (Some x) y some = (x, refl, some)

from_test : {X : Type 0} (test : Bool) (value found : X) → cond test (Some value) None ≡ Some found → value ≡ found
from_test true value found some = cc
from_test false value found some = absurd (cc)

-- ---- chains of extension headers
next_fits : (number : ℕ) (bytes : List ℕ) (part : ExtensionPart) (rest : List ℕ)
    → IsExtensionPart number bytes part rest → part_next part < 2 ^ 8
next_fits number bytes (hop_by_hop header) rest is = is.1.fits.next_header
next_fits number bytes (destination_options header) rest is = is.1.fits.next_header
next_fits number bytes (routing header) rest is = is.1.fits.next_header
next_fits number bytes (fragment header) rest is = is.1.encodes.fits.next_header
next_fits number bytes (authentication header) rest is = is.1.encodes.fits.next_header

last_fits : (version : IpVersion) (taken : List ℕ) (number : ℕ) (bytes : List ℕ) (parts : List ExtensionPart)
    (last : ℕ) (rest : List ℕ) → number < 2 ^ 8 → IsChainAfter version slices taken number bytes parts last rest
    → last < 2 ^ 8
last_fits version taken number bytes [] last rest fits chain = omega (arith, fits, chain.1)
last_fits version taken number bytes (part ∷ parts) last rest fits chain =
    last_fits version (number ∷ taken) (part_next part) chain.1.0 parts last rest
    (next_fits number bytes part chain.1.0 chain.1.1) chain.1.2

-- The number of the hop-by-hop options does not end a chain.
goes_on : (taken : List ℕ) → cond (is_first taken) takes misplaced ≡ ends → ⊥
goes_on [] same = cc
goes_on (nearest ∷ taken) same = cc

-- A number that ends a chain ends it after any headers.
ends_after : (taken other : List ℕ) (number : ℕ) → demand_of ipv6 slices taken number ≡ ends
    → demand_of ipv6 slices other number ≡ ends
ends_after taken other number is = elim (cases_Bool (eqb number hop_by_hop_number)) [
  | inl hop ↦ absurd (goes_on taken (rw hop at is))
  | inr more ↦ rw more (rw more at is)
]

last_ends : (taken other : List ℕ) (number : ℕ) (bytes : List ℕ) (parts : List ExtensionPart) (last : ℕ)
    (rest : List ℕ) → IsChainAfter ipv6 slices taken number bytes parts last rest
    → demand_of ipv6 slices other last ≡ ends
last_ends taken other number bytes [] last rest chain =
    rw (chain.1) (ends_after taken other number chain.0)
last_ends taken other number bytes (part ∷ parts) last rest chain =
    last_ends (number ∷ taken) other (part_next part) chain.1.0 parts last rest chain.1.2

header_fits : (taken : List ℕ) (number : ℕ) (bytes : List ℕ) (parts : List ExtensionPart) (last : ℕ)
    (rest : List ℕ) → IsChainAfter ipv6 slices taken number bytes parts last rest → (found : Ipv6FragmentHeader)
    → first_fragment parts ≡ Some found → FitsFragmentHeader found
header_fits taken number bytes [] last rest chain found first = absurd (cc)
header_fits taken number bytes (hop_by_hop header ∷ parts) last rest chain found first =
    header_fits (number ∷ taken) header.next_header.0 chain.1.0 parts last rest chain.1.2 found first
header_fits taken number bytes (destination_options header ∷ parts) last rest chain found first =
    header_fits (number ∷ taken) header.next_header.0 chain.1.0 parts last rest chain.1.2 found first
header_fits taken number bytes (routing header ∷ parts) last rest chain found first =
    header_fits (number ∷ taken) header.next_header.0 chain.1.0 parts last rest chain.1.2 found first
header_fits taken number bytes (authentication header ∷ parts) last rest chain found first =
    header_fits (number ∷ taken) header.next_header.0 chain.1.0 parts last rest chain.1.2 found first
header_fits taken number bytes (fragment header ∷ parts) last rest chain found first =
    let same : header ≡ found = cc in
    subst FitsFragmentHeader same chain.1.1.1.encodes.fits

-- ---- the network layer
ipv4_named : (ids bytes : List ℕ) (packet : IpPacket Ipv4Header) (found : FrameFragment) → IsIpv4 slices bytes packet
    → net_fragment ids (ipv4_layer packet) ≡ Some found → (found.vlan_ids ≡ ids) × FitsId found.id found.payload_number
ipv4_named ids bytes packet found is carries =
    let fits = is.cut.encodes.fits in
    let number : packet.payload.number < 2 ^ 8 =
    last_fits ipv4 [] packet.header.protocol.0 is.content packet.extensions packet.payload.number packet.payload.bytes
    fits.protocol is.chain in
    subst (λ (f : FrameFragment). (f.vlan_ids ≡ ids) × FitsId f.id f.payload_number)
    (from_test (is_ipv4_fragment packet.header) _ found carries)
    (refl, (fits.source_len, fits.source, fits.destination_len, fits.destination, fits.identification, number))

ipv6_named : (ids bytes : List ℕ) (packet : IpPacket Ipv6Header) (found : FrameFragment) → IsIpv6 slices bytes packet
    → net_fragment ids (ipv6_layer packet) ≡ Some found → (found.vlan_ids ≡ ids) × FitsId found.id found.payload_number
ipv6_named ids bytes packet found is carries =
    let header = packet.header in
    let fits = is.cut.fits in
    let first = and_then_some (ipv6_fragment ids header packet.payload) (first_fragment packet.extensions) found
    carries in
    let part_fits =
    header_fits [] header.next_header.0 is.content packet.extensions packet.payload.number packet.payload.bytes is.chain
    first.0 first.1 in
    let number : packet.payload.number < 2 ^ 8 =
    last_fits ipv6 [] header.next_header.0 is.content packet.extensions packet.payload.number packet.payload.bytes
    fits.next_header is.chain in
    let ends = last_ends [] (fragment_number ∷ []) header.next_header.0 is.content packet.extensions
    packet.payload.number packet.payload.bytes is.chain in
    subst (λ (f : FrameFragment). (f.vlan_ids ≡ ids) × FitsId f.id f.payload_number)
    (from_test _ _ found first.2) (
      refl,
      (
        fits.source_len,
        fits.source,
        fits.destination_len,
        fits.destination,
        part_fits.identification,
        number,
        ends,
      ),
    )

net_named : (ids : List ℕ) (kind : NetKind) (bytes : List ℕ) (layer : NetLayer) (found : FrameFragment)
    → IsNetLayer slices kind bytes layer → net_fragment ids layer ≡ Some found
    → (found.vlan_ids ≡ ids) × FitsId found.id found.payload_number
net_named ids only_ipv4 bytes layer found (packet, is, same) carries =
    ipv4_named ids bytes packet found is (rw same at carries)
net_named ids only_ipv6 bytes layer found (packet, is, same) carries =
    ipv6_named ids bytes packet found is (rw same at carries)
net_named ids only_arp bytes layer found (part, is, same) carries =
    absurd (let none : None ≡ Some found = rw same at carries in cc)
net_named ids any_ip bytes layer found (ipv4_part packet, is, same) carries =
    ipv4_named ids bytes packet found is (rw same at carries)
net_named ids any_ip bytes layer found (ipv6_part packet, is, same) carries =
    ipv6_named ids bytes packet found is (rw same at carries)

-- ---- the frame
abbrev IsSomeLayer : NetLayer → Type 0
IsSomeLayer layer = (kind : NetKind) × ((bytes : List ℕ) × IsNetLayer slices kind bytes layer)

record Inner (space : ℕ) (extensions : List LinkExtension) (net : Option NetLayer) : Type 0 where
  pub count : length (vlan_ids_in extensions) ≤ space
  pub fit : FitIds (vlan_ids_in extensions)
  pub layer : (layer : NetLayer) → net ≡ Some layer → IsSomeLayer layer

net_present : (kind : Option NetKind) (bytes : List ℕ) (net : Option NetLayer) (transport : Option TransportLayer)
    → IsNetPart slices kind bytes net transport → (layer : NetLayer) → net ≡ Some layer → IsSomeLayer layer
net_present None bytes net transport is layer present = absurd (let none : None ≡ Some layer = sym is.0 ∙ present in cc)
net_present (Some kind) bytes net transport is layer present =
    let both : Some is.0 ≡ Some layer = sym is.2 ∙ present in
    let same : is.0 ≡ layer = cc in
    (kind, (bytes, subst (IsNetLayer slices kind bytes) same is.1))

inner : (space : ℕ) (type : Option EtherType) (bytes : List ℕ) (extensions : List LinkExtension)
    (net : Option NetLayer) (transport : Option TransportLayer)
    → IsInside slices space type bytes extensions net transport → Inner space extensions net
inner space None bytes extensions net transport is =
    rw (is.0) (record {
      count = omega arith;
      fit = tt;
      layer = λ layer present. absurd (let none : None ≡ Some layer = sym is.1 ∙ present in cc);
    })
inner zero (Some type) bytes [] net transport is =
    record { count = omega arith; fit = tt; layer = net_present (net_kind type) bytes net transport is }
inner (suc space) (Some type) bytes [] net transport is =
    record { count = omega arith; fit = tt; layer = net_present (net_kind type) bytes net transport is.1 }
inner zero (Some type) bytes (extension ∷ others) net transport is = absurd is
inner (suc space) (Some type) bytes (vlan tag payload ∷ others) net transport is =
    let rest = inner space (Some tag.ether_type) payload others net transport is.1 in
    record { count = omega (arith, rest.count); fit = (is.0.1.1.fits.vlan_id, rest.fit); layer = rest.layer }
inner (suc space) (Some type) bytes (macsec tag payload ∷ others) net transport is =
    let rest = inner space _ _ others net transport is.1 in
    record { count = omega (arith, rest.count); fit = rest.fit; layer = rest.layer }

frame_inner : (by : Entry) (bytes : List ℕ) (layers : Layers) → IsFrame by bytes layers
    → Inner 3 layers.link_exts layers.net
frame_inner at_entry.Ethernet bytes layers is =
    inner 3 (Some is.0.header.ether_type) is.0.payload layers.link_exts layers.net layers.transport is.3
frame_inner at_entry.LinuxSll bytes layers is =
    inner 3 (protocol_ether_type is.0.header.protocol_type) is.0.payload layers.link_exts layers.net layers.transport
    is.3
frame_inner (at_entry.EtherType type) bytes layers is =
    inner 3 (Some type) bytes layers.link_exts layers.net layers.transport is.1
frame_inner at_entry.Ip bytes layers is =
    rw (is.1) (record {
      count = omega arith;
      fit = tt;
      layer = net_present (Some any_ip) bytes layers.net layers.transport is.2;
    })

record IsNamed (found : FrameFragment) : Type 0 where
  pub count : length found.vlan_ids ≤ 3
  pub fit : FitIds found.vlan_ids
  pub id : FitsId found.id found.payload_number

named : (seen : CarryingFrame) → IsNamed seen.found
named seen =
    let layers = seen.layers in
    let within = frame_inner seen.entry seen.bytes layers seen.is in
    let present = and_then_some (net_fragment (vlan_ids_in layers.link_exts)) layers.net seen.found seen.carries in
    let layer = within.layer present.0 present.1 in
    let stated = net_named (vlan_ids_in layers.link_exts) layer.0 layer.1.0 present.0 seen.found layer.1.1 present.2 in
    record {
      count = rw (stated.0) within.count;
      fit = rw (stated.0) within.fit;
      id = stated.1;
    }

-- ---- tags
abbrev type_of : ℕ → EtherType
type_of number = record { 0 = number }

-- ether type before VLAN tags with these identifiers that are followed by this ether type
abbrev type_before : List ℕ → ℕ → ℕ
type_before [] type = type
type_before (id ∷ ids) type = vlan_type

abbrev tag_with : ℕ → ℕ → SingleVlanHeader
tag_with id type = record { pcp = 0; drop_eligible_indicator = false; vlan_id = id; ether_type = type_of type }

abbrev tags_bytes : List ℕ → ℕ → List ℕ
tags_bytes [] type = []
tags_bytes (id ∷ ids) type = vlan_bytes (tag_with id (type_before ids type)) ++ tags_bytes ids type

abbrev tags : List ℕ → ℕ → List ℕ → List LinkExtension
tags [] type payload = []
tags (id ∷ ids) type payload =
    vlan (tag_with id (type_before ids type)) (tags_bytes ids type ++ payload) ∷ tags ids type payload

tags_ids : (ids : List ℕ) (type : ℕ) (payload : List ℕ) → vlan_ids_in (tags ids type payload) ≡ ids
tags_ids [] type payload = refl
tags_ids (id ∷ ids) type payload = ap (λ others. id ∷ others) (tags_ids ids type payload)

type_fits : (ids : List ℕ) (type : ℕ) → type < 2 ^ 16 → type_before ids type < 2 ^ 16
type_fits [] type fits = fits
type_fits (id ∷ ids) type fits = omega arith

tag_is_bytes : (tag : SingleVlanHeader) → AllBytes (vlan_bytes tag)
tag_is_bytes tag = word _ _ (word tag.ether_type.0 [] none)

tags_are_bytes : (ids : List ℕ) (type : ℕ) → AllBytes (tags_bytes ids type)
tags_are_bytes [] type = none
tags_are_bytes (id ∷ ids) type =
    let tag = tag_with id (type_before ids type) in
    both (vlan_bytes tag) (tags_bytes ids type) (tag_is_bytes tag).fits (tags_are_bytes ids type)

inside_tags : (ids : List ℕ) (space type : ℕ) (payload : List ℕ) (net : Option NetLayer)
    (transport : Option TransportLayer) → length ids ≤ space → FitIds ids → type < 2 ^ 16
    → (¬ BeginsLinkExtension (type_of type)) → IsNetPart slices (net_kind (type_of type)) payload net transport
    → IsInside slices space (Some (type_of (type_before ids type))) (tags_bytes ids type ++ payload)
    (tags ids type payload) net transport
inside_tags [] zero type payload net transport few fit fits no_tag part = part
inside_tags [] (suc space) type payload net transport few fit fits no_tag part = (no_tag, part)
inside_tags (id ∷ ids) zero type payload net transport few fit fits no_tag part = absurd (omega (arith, few))
inside_tags (id ∷ ids) (suc space) type payload net transport few fit fits no_tag part =
    let tag = tag_with id (type_before ids type) in (
      (
        [],
        (
          inl refl,
          record {
            fits = record { pcp = omega arith; vlan_id = fit.0; ether_type = type_fits ids type fits };
            parts =
                append_assoc (vlan_bytes tag) (tags_bytes ids type) payload
                ∙ sym (append-nil (vlan_bytes tag ++ (tags_bytes ids type ++ payload)));
            cut = refl;
          },
        ),
      ),
      inside_tags ids space type payload net transport (omega (arith, few)) fit.1 fits no_tag part,
    )

-- ---- a frame of tags and a network layer
frame_of : (ids : List ℕ) (type : ℕ) (packet : List ℕ) (layer : NetLayer) (found : FrameFragment)
    → length ids ≤ 3 → FitIds ids → type < 2 ^ 16 → (¬ BeginsLinkExtension (type_of type)) → AreBytes packet
    → IsNetPart slices (net_kind (type_of type)) packet (Some layer) None → net_fragment ids layer ≡ Some found
    → (frame : CarryingFrame) × (frame.found ≡ found)
frame_of ids type packet layer found few fit fits no_tag bytes part carries =
    let complete = tags_bytes ids type ++ packet in
    let before = type_of (type_before ids type) in (
      record {
        entry = at_entry.EtherType before;
        bytes = complete;
        are_bytes = both_bytes (tags_bytes ids type) packet (tags_are_bytes ids type).fits bytes;
        layers = record {
          link = Some (ether_payload before by_source.Slice complete);
          link_exts = tags ids type packet;
          net = Some layer;
          transport = None;
        };
        is = (refl, inside_tags ids 3 type packet (Some layer) None few fit fits no_tag part);
        found = found;
        carries = rw (tags_ids ids type packet) carries;
      },
      refl,
    )

no_extension4 : BeginsLinkExtension (type_of ipv4_type) → ⊥
no_extension4 (inl (inl same)) = absurd (omega (arith, same))
no_extension4 (inl (inr (inl same))) = absurd (omega (arith, same))
no_extension4 (inl (inr (inr same))) = absurd (omega (arith, same))
no_extension4 (inr same) = absurd (omega (arith, same))

no_extension6 : BeginsLinkExtension (type_of ipv6_type) → ⊥
no_extension6 (inl (inl same)) = absurd (omega (arith, same))
no_extension6 (inl (inr (inl same))) = absurd (omega (arith, same))
no_extension6 (inl (inr (inr same))) = absurd (omega (arith, same))
no_extension6 (inr same) = absurd (omega (arith, same))

-- ---- the network layer of a fragment
module _ (ids : List ℕ) (number offset : ℕ) (follow : Bool) (bytes : List ℕ) where
  abbrev found_of : FragmentId → FrameFragment
  found_of id = record {
    vlan_ids = ids;
    id = id;
    payload_number = number;
    offset = offset;
    more = follow;
    bytes = bytes;
  }

  module _ (few : length ids ≤ 3) (fit : FitIds ids) (number_fits : number < 2 ^ 8) (offset_fits : offset < 2 ^ 13)
      (short : length bytes ≤ 32768) (are_bytes : AreBytes bytes) (part : (follow || ltb 0 offset) ≡ true) where
    -- ---- IPv4: the content after the header, or after an authentication header if the protocol number is 51
    record Content : Type 0 where
      pub protocol : ℕ
      pub protocol_fits : protocol < 2 ^ 8
      pub extensions : List ExtensionPart
      pub content : List ℕ
      pub len : length content ≤ 12 + length bytes
      pub chain : IsExtensionChain ipv4 slices protocol content (chain_of extensions number bytes)
      pub all_bytes : AreBytes content

    abbrev auth : IpAuthHeader
    auth = ip_auth_with (record { 0 = number }) 0 0 []

    auth_is_bytes : AllBytes (ip_auth_bytes auth)
    auth_is_bytes =
        more _ _ number_fits
        (more _ _ (omega arith) (word 0 _ (long auth.spi _ (long auth.sequence_number [] none))))

    content_of : Content
    content_of = elim (cases_Bool (eqb number authentication_number)) [
      | inl same ↦ record {
        protocol = authentication_number;
        protocol_fits = omega arith;
        extensions = authentication auth ∷ [];
        content = ip_auth_bytes auth ++ bytes;
        len = omega arith;
        chain = (
          refl,
          (
            bytes,
            (
              refl,
              record {
                encoded = ip_auth_bytes auth;
                encodes = record {
                  fits = record {
                    next_header = number_fits;
                    spi = omega arith;
                    sequence_number = omega arith;
                    icv_len = omega arith;
                    icv_words = refl;
                    icv = λ i. omega arith;
                  };
                  reserved = 0;
                  bits = omega arith;
                  same = refl;
                };
                parts = refl;
              },
            ),
            (refl, refl, refl),
          ),
        );
        all_bytes = both_bytes (ip_auth_bytes auth) bytes auth_is_bytes.fits are_bytes;
      }
      | inr other ↦ record {
        protocol = number;
        protocol_fits = number_fits;
        extensions = [];
        content = bytes;
        len = omega arith;
        chain = (rw other refl, refl, refl);
        all_bytes = are_bytes;
      }
    ]

    module _ (sender receiver : List ℕ) (identification : ℕ) (sender_len : length sender ≡ 4)
        (sender_bytes : AreBytes sender) (receiver_len : length receiver ≡ 4) (receiver_bytes : AreBytes receiver)
        (identification_fits : identification < 2 ^ 16) where
      abbrev inner4 : Content
      inner4 = content_of

      abbrev header4 : Ipv4Header
      header4 = record default_ipv4_header {
        total_len = 20 + length inner4.content;
        identification = identification;
        dont_fragment = false;
        more_fragments = follow;
        fragment_offset = offset;
        time_to_live = 64;
        protocol = record { 0 = inner4.protocol };
        source = sender;
        destination = receiver;
      }

      header4_len : length (ipv4_bytes header4) ≡ 20
      header4_len =
          omega
          (arith, length-append (sender ++ receiver) [], length-append sender receiver, sender_len, receiver_len)

      fits4 : FitsIpv4 header4
      fits4 = record {
        dscp = omega arith;
        ecn = omega arith;
        total_len = omega (arith, inner4.len, short);
        identification = identification_fits;
        fragment_offset = offset_fits;
        time_to_live = omega arith;
        protocol = inner4.protocol_fits;
        header_checksum = omega arith;
        source_len = sender_len;
        source = sender_bytes;
        destination_len = receiver_len;
        destination = receiver_bytes;
        options_len = omega arith;
        options_words = refl;
        options = λ i. omega arith;
      }

      abbrev packet4 : IpPacket Ipv4Header
      packet4 = record {
        header = header4;
        extensions = inner4.extensions;
        payload = record { number = number; fragmented = true; source = by_source.Ipv4HeaderTotalLen; bytes = bytes };
        left = [];
      }

      is4 : IsIpv4 slices (ipv4_bytes header4 ++ inner4.content) packet4
      is4 = record {
        content = inner4.content;
        cut = record {
          encoded = ipv4_bytes header4;
          encodes = record { fits = fits4; reserved = 0; flag = omega arith; same = refl };
          parts = sym (append-nil (ipv4_bytes header4 ++ inner4.content));
          cut = omega (arith, header4_len);
        };
        chain = inner4.chain;
        fragmented = sym part;
        source = refl;
      }

      header4_bytes : AllBytes (ipv4_bytes header4)
      header4_bytes =
          more (2 ^ 4 * 4 + ipv4_header_len header4 / 4) _ (omega arith) (more 0 _ (omega arith)
          (word header4.total_len _ (word identification _ (word (ipv4_flags_with 0 header4) _
          (more 64 _ (omega arith) (more inner4.protocol _ inner4.protocol_fits
          (word 0 ((sender ++ receiver) ++ [])
          (both (sender ++ receiver) [] (both_bytes sender receiver sender_bytes receiver_bytes) none))))))))

      bytes4 : AllBytes (ipv4_bytes header4 ++ inner4.content)
      bytes4 = both (ipv4_bytes header4) inner4.content header4_bytes.fits (all inner4.content inner4.all_bytes)

      frame4 : (frame : CarryingFrame) × (frame.found ≡ found_of (ipv4_id sender receiver identification))
      frame4 =
          frame_of ids ipv4_type (ipv4_bytes header4 ++ inner4.content) (ipv4_layer packet4)
          (found_of (ipv4_id sender receiver identification)) few fit (omega arith) (λ begins. no_extension4 begins)
          bytes4.fits
          (ipv4_layer packet4, (packet4, is4, refl), refl, inl refl)
          (rw part refl)

    -- ---- IPv6: the content after the header and a fragment header
    module _ (sender receiver : List ℕ) (identification : ℕ) (sender_len : length sender ≡ 16)
        (sender_bytes : AreBytes sender) (receiver_len : length receiver ≡ 16) (receiver_bytes : AreBytes receiver)
        (identification_fits : identification < 2 ^ 32)
        (last : demand_of ipv6 slices (fragment_number ∷ []) number ≡ ends) where
      abbrev part6 : Ipv6FragmentHeader
      part6 = record {
        next_header = record { 0 = number };
        fragment_offset = offset;
        more_fragments = follow;
        identification = identification;
      }

      abbrev content6 : List ℕ
      content6 = fragment_header_bytes part6 ++ bytes

      abbrev header6 : Ipv6Header
      header6 = record {
        traffic_class = 0;
        flow_label = 0;
        payload_length = 8 + length bytes;
        next_header = record { 0 = fragment_number };
        hop_limit = 64;
        source = sender;
        destination = receiver;
      }

      abbrev packet6 : IpPacket Ipv6Header
      packet6 = record {
        header = header6;
        extensions = fragment part6 ∷ [];
        payload = record { number = number; fragmented = true; source = by_source.Ipv6HeaderPayloadLen; bytes = bytes };
        left = [];
      }

      positive : eqb (8 + length bytes) 0 ≡ false
      positive = grind (arith, nat_tests)

      or_false : (a : Bool) → (a || false) ≡ a
      or_false true = refl
      or_false false = refl

      is6 : IsIpv6 slices (ipv6_bytes header6 ++ content6) packet6
      is6 = record {
        content = content6;
        cut = record {
          fits = record {
            traffic_class = omega arith;
            flow_label = omega arith;
            payload_length = omega (arith, short);
            next_header = omega arith;
            hop_limit = omega arith;
            source_len = sender_len;
            source = sender_bytes;
            destination_len = receiver_len;
            destination = receiver_bytes;
          };
          parts = sym (append-nil (ipv6_bytes header6 ++ content6));
          cut = inl (omega arith, omega arith);
        };
        chain = (
          refl,
          (
            bytes,
            (
              refl,
              record {
                encoded = fragment_header_bytes part6;
                encodes = record {
                  fits = record {
                    next_header = number_fits;
                    fragment_offset = offset_fits;
                    identification = identification_fits;
                  };
                  reserved_byte = 0;
                  byte = omega arith;
                  reserved_bits = 0;
                  bits = omega arith;
                  same = refl;
                };
                parts = refl;
              },
            ),
            (last, refl, refl),
          ),
        );
        fragmented = sym (or_false (follow || ltb 0 offset) ∙ part);
        source = rw positive refl;
      }

      header6_bytes : AllBytes (ipv6_bytes header6)
      header6_bytes =
          long (2 ^ 28 * 6) _ (word (8 + length bytes) _
          (more fragment_number _ (omega arith) (more 64 (sender ++ receiver) (omega arith)
          (both sender receiver sender_bytes (all receiver receiver_bytes)))))

      part6_bytes : AllBytes (fragment_header_bytes part6)
      part6_bytes = more _ _ number_fits (more _ _ (omega arith) (word _ _ (long identification [] none)))

      content6_bytes : AllBytes content6
      content6_bytes = both (fragment_header_bytes part6) bytes part6_bytes.fits (all bytes are_bytes)

      bytes6 : AllBytes (ipv6_bytes header6 ++ content6)
      bytes6 = both (ipv6_bytes header6) content6 header6_bytes.fits content6_bytes

      frame6 : (frame : CarryingFrame) × (frame.found ≡ found_of (ipv6_id sender receiver identification))
      frame6 =
          frame_of ids ipv6_type (ipv6_bytes header6 ++ content6) (ipv6_layer packet6)
          (found_of (ipv6_id sender receiver identification)) few fit (omega arith) (λ begins. no_extension6 begins)
          bytes6.fits
          (ipv6_layer packet6, (packet6, is6, refl), refl, inl refl)
          (rw part refl)

    frame_by : (id : FragmentId) → FitsId id number → (frame : CarryingFrame) × (frame.found ≡ found_of id)
    frame_by (ipv4_id sender receiver identification) fits =
        frame4 sender receiver identification fits.0 fits.1 fits.2 fits.3 fits.4
    frame_by (ipv6_id sender receiver identification) fits =
        frame6 sender receiver identification fits.0 fits.1 fits.2 fits.3 fits.4 fits.6

number_of : (id : FragmentId) (number : ℕ) → FitsId id number → number < 2 ^ 8
number_of (ipv4_id sender receiver identification) number fits = fits.5
number_of (ipv6_id sender receiver identification) number fits = fits.5

-- If a frame carries a fragment of a stream, each fragment of the stream that fits into a frame is carried by some
-- frame.
pub carrying : (seen : CarryingFrame) (wanted : IpFragment) → wanted.offset < 2 ^ 13
    → length wanted.bytes ≤ 32768 → AreBytes wanted.bytes → is_part wanted ≡ true
    → (frame : CarryingFrame) × CarriesOf seen wanted frame
carrying seen wanted offset_fits short are_bytes part =
    let found = seen.found in
    let name = named seen in
    frame_by found.vlan_ids found.payload_number wanted.offset wanted.more wanted.bytes name.count name.fit
    (number_of found.id found.payload_number name.id) offset_fits short are_bytes part found.id name.id
