-- IP headers that are linked for their content are read back from it, in both readings.
use Rattle.std.proofs.Common.{◌≡◌, ℕ, ◌||◌, ◌&&◌, Bool, true, false, not, if◌then◌else◌, List, [], ◌∷◌, ◌++◌}
use Rattle.std.proofs.Common.{length, Option, Some, None, refl, sym, ap, ◌∙◌}
use Rattle.std.specs.Option.{option_and_then, option_map}
use Rattle.ep_base.specs.IpNumbers.{fragment_number}
use Rattle.ep_base.specs.IpPayload.{IpPayload}
use Rattle.ep_base.specs.Readings.{Reading, slices, headers as by_value}
use Rattle.ep_base.specs.declared.ip_number.IpNumber.{IpNumber}
use Rattle.ep_ext.specs.declared.ip_auth_header.IpAuthHeader.{IpAuthHeader}
use Rattle.ep_ext.specs.declared.ipv4_exts.Ipv4Extensions.{Ipv4Extensions}
use Rattle.ep_ext.specs.declared.ipv6_exts.Ipv6Extensions.{Ipv6Extensions}
use Rattle.ep_ext.specs.declared.ipv6_fragment_header.Ipv6FragmentHeader.{Ipv6FragmentHeader}
use Rattle.ep_ext.specs.declared.ipv6_raw_ext_header.Ipv6RawExtHeader.{Ipv6RawExtHeader}
use Rattle.ep_ext.specs.declared.ipv6_routing_exts.Ipv6RoutingExtensions.{Ipv6RoutingExtensions}
use Rattle.ep_ext.specs.Chains.{Demand, IsChainAfter, chain_fragments, demand_of, ends, ipv4, ipv6, is_ipv6_extension}
use Rattle.ep_ext.specs.Chains.{is_first, is_taken, misplaced, takes}
use Rattle.ep_ext.specs.ExtensionParts.{ExtensionPart, authentication, destination_options, fragment, hop_by_hop}
use Rattle.ep_ext.specs.ExtensionParts.{part_fragments, part_next, optional_part, routing}
use Rattle.ep_ext.specs.Ipv4Chains.{ip_auth_leading_to, ipv4_parts}
use Rattle.ep_ext.specs.Ipv6Chains.{after_auth, after_destination, after_fragment, after_hop_by_hop, after_routing}
use Rattle.ep_ext.specs.Ipv6Chains.{extensions_of, final_by, fragment_leading_to, ipv6_linked, ipv6_parts}
use Rattle.ep_ext.specs.Ipv6Chains.{no_ipv6_extensions, raw_leading_to, routing_header, routing_leading_to}
use Rattle.ep_ext.specs.Ipv6Chains.{with_destination, with_part, with_parts}
use Rattle.ep_ext.specs.FragmentHeader.{is_ipv6_fragment}
use Rattle.ep_ip.specs.Ipv4.{is_ipv4_fragment}
use Rattle.ep_ip.specs.IpPackets.{IpPacket, IpPart, IsIp, IsIpv4, IsIpv6, ipv4_part, ipv6_part}
use Rattle.ep_ip.specs.declared.ipv4_header.Ipv4Header.{Ipv4Header}
use Rattle.ep_ip.specs.declared.ipv6_header.Ipv6Header.{Ipv6Header}
use Rattle.ep_packet.specs.FrameFragments.{FrameFragment, first_fragment, ipv4_fragment, ipv6_fragment, net_fragment}
use Rattle.ep_packet.specs.Frame.{IsNetLayer, NetKind, any_ip, only_ipv4, only_ipv6}
use Rattle.ep_packet.specs.IpHeaders.{EndsExtensions, FitIpHeaders, headers_for, headers_fragment}
use Rattle.ep_packet.specs.IpHeaders.{ip_headers_of, ip_part_extensions, ip_part_payload, payload_of_headers}
use Rattle.ep_packet.specs.IpHeaders.{with_checksum}
use Rattle.ep_packet.specs.Layers.{NetLayer, ipv4 as ipv4_net, ipv6 as ipv6_net, arp as arp_net}
use Rattle.ep_packet.specs.Layers.{ipv4_layer, ipv6_layer, net_payload}
use Rattle.ep_packet.specs.declared.ip_headers.IpHeaders.{IpHeaders}
use Rattle.ep_packet.specs.declared.ip_headers.IpHeaders.TheVariants as version
use Rattle.ep_packet.proofs.IpHeadersLemmas.{read}
use Rattle.ep_build.specs.BuiltFragments.{headers_carry}
use Rattle.ep_build.specs.BuiltFrames.{ip_frame}
use Rattle.ep_build.proofs.HeaderListLemmas.{header_lists}

-- The network layer protocol of these headers, by their ether type.
abbrev pub kind_of : IpHeaders → NetKind
kind_of (version.Ipv4 header extensions) = only_ipv4
kind_of (version.Ipv6 header extensions) = only_ipv6

-- The network layer has these headers.
abbrev pub HasHeaders : IpHeaders → NetLayer → Type 0
HasHeaders (version.Ipv4 header extensions) (ipv4_net found parts payload) = found ≡ header
HasHeaders (version.Ipv4 header extensions) (ipv6_net found parts payload) = ⊥
HasHeaders (version.Ipv6 header extensions) (ipv4_net found parts payload) = ⊥
HasHeaders (version.Ipv6 header extensions) (ipv6_net found parts payload) =
    (found ≡ header) × (extensions_of parts ≡ extensions)
HasHeaders headers (arp_net packet) = ⊥

-- The network layer of these headers, as they are written, before this payload.
abbrev pub layer_with : IpHeaders → IpPayload → NetLayer
layer_with (version.Ipv4 header extensions) payload = ipv4_net header (ipv4_parts extensions) payload
layer_with (version.Ipv6 header extensions) payload = ipv6_net header (ipv6_parts extensions) payload

-- The bytes are a network layer of the headers' version, with this payload and these headers as written, which carries
-- the fragment that the headers state.
pub record NetOf (reading : Reading) (headers written : IpHeaders) (bytes : List ℕ) (payload : IpPayload)
    : Type 0 where
  pub layer : NetLayer
  pub typed : IsNetLayer reading (kind_of headers) bytes layer
  pub any : IsNetLayer reading any_ip bytes layer
  pub has_payload : net_payload layer ≡ Some payload
  pub carries : (vlan_ids : List ℕ) → net_fragment vlan_ids layer ≡ headers_carry vlan_ids headers payload
  pub has_headers : HasHeaders written layer
  pub has_layer : layer ≡ layer_with written payload

-- ---- chains after which no extension header follows are equal in both readings

chain_4 : (reading : Reading) (taken : List ℕ) (number : ℕ) (bytes : List ℕ) (parts : List ExtensionPart) (last : ℕ)
    (rest : List ℕ) → IsChainAfter ipv4 by_value taken number bytes parts last rest
    → IsChainAfter ipv4 reading taken number bytes parts last rest
chain_4 reading taken number bytes [] last rest is = is
chain_4 reading taken number bytes (part ∷ parts) last rest is = (
  is.0,
  (is.1.0, is.1.1, chain_4 reading (number ∷ taken) (part_next part) is.1.0 parts last rest is.1.2),
)

-- The demand of a next header value, by its properties: hop-by-hop options, being the first header, an extension
-- header, a kind that was read before.
abbrev demand_by : Bool → Bool → Bool → Bool → Demand
demand_by hop first extension second =
    if hop then (if first then takes else misplaced)
    else if not extension then ends
    else if second then ends
    else takes

ends_after : (first extension second : Bool) → extension ≡ false → demand_by false first extension second ≡ ends
ends_after first true second none = absurd (cc)
ends_after first false second none = refl

ends_by : (hop a b c d first second : Bool) → (hop || a || b || c || d) ≡ false
    → demand_by hop first (hop || a || b || c || d) second ≡ ends
ends_by true true b c d first second none = absurd (cc)
ends_by true false true c d first second none = absurd (cc)
ends_by true false false true d first second none = absurd (cc)
ends_by true false false false true first second none = absurd (cc)
ends_by true false false false false first second none = absurd (cc)
ends_by false a b c d first second none = ends_after first (false || a || b || c || d) second none

takes_by : (hop first extension second : Bool) → demand_by hop first extension second ≡ takes
    → demand_by hop first extension false ≡ takes
takes_by true first extension second is = is
takes_by false first true second is = refl
takes_by false first false second is = absurd (cc)

ends_too : (reading : Reading) (taken : List ℕ) (number : ℕ) → is_ipv6_extension number ≡ false
    → demand_of ipv6 reading taken number ≡ ends
ends_too reading taken number none = ends_by _ _ _ _ _ _ _ none

takes_too : (reading : Reading) (taken : List ℕ) (number : ℕ) → demand_of ipv6 by_value taken number ≡ takes
    → demand_of ipv6 reading taken number ≡ takes
takes_too slices taken number is = takes_by _ _ _ _ is
takes_too by_value taken number is = is

chain_6 : (reading : Reading) (taken : List ℕ) (number : ℕ) (bytes : List ℕ) (parts : List ExtensionPart) (last : ℕ)
    (rest : List ℕ) → is_ipv6_extension last ≡ false → IsChainAfter ipv6 by_value taken number bytes parts last rest
    → IsChainAfter ipv6 reading taken number bytes parts last rest
chain_6 reading taken number bytes [] last rest none is = (
  ends_too reading taken number (ap is_ipv6_extension (sym is.1) ∙ none),
  is.1,
  is.2,
)
chain_6 reading taken number bytes (part ∷ parts) last rest none is = (
  takes_too reading taken number is.0,
  (is.1.0, is.1.1, chain_6 reading (number ∷ taken) (part_next part) is.1.0 parts last rest none is.1.2),
)

in_reading_4 : (reading : Reading) (bytes : List ℕ) (packet : IpPacket Ipv4Header) → IsIpv4 by_value bytes packet
    → IsIpv4 reading bytes packet
in_reading_4 reading bytes packet is = record {
  content = is.content;
  cut = is.cut;
  chain = chain_4 reading [] packet.header.protocol.0 is.content packet.extensions packet.payload.number
      packet.payload.bytes is.chain;
  fragmented = is.fragmented;
  source = is.source;
}

in_reading_6 : (reading : Reading) (bytes : List ℕ) (packet : IpPacket Ipv6Header)
    → is_ipv6_extension packet.payload.number ≡ false → IsIpv6 by_value bytes packet → IsIpv6 reading bytes packet
in_reading_6 reading bytes packet none is = record {
  content = is.content;
  cut = is.cut;
  chain = chain_6 reading [] packet.header.next_header.0 is.content packet.extensions packet.payload.number
      packet.payload.bytes none is.chain;
  fragmented = is.fragmented;
  source = is.source;
}

-- ---- owned headers have at most one fragment header, the first

-- A kind that was read is so after one more header.
taken_by : (nearest second : Bool) (taken : Bool) → taken ≡ true → second ≡ false
    → (if nearest then true else if second then false else taken) ≡ true
taken_by true second taken present other = refl
taken_by false true taken present other = absurd (cc)
taken_by false false taken present other = present

and_false : (a : Bool) → (a && false) ≡ false
and_false true = refl
and_false false = refl

taken_after : (taken : List ℕ) (number : ℕ) → is_taken taken fragment_number ≡ true
    → is_taken (number ∷ taken) fragment_number ≡ true
taken_after taken number present = taken_by _ _ _ present (and_false _)

-- After a fragment header, the number of a fragment header ends the chain.
second_ends : (taken : List ℕ) (number : ℕ) → number ≡ fragment_number → is_taken taken fragment_number ≡ true
    → demand_of ipv6 by_value taken number ≡ takes → ⊥
second_ends taken number is present demands =
    let again : demand_of ipv6 by_value taken fragment_number ≡ takes =
    ap (λ (n : ℕ). demand_of ipv6 by_value taken n) (sym is) ∙ demands in
    let not_again : demand_by false (is_first taken) true (is_taken taken fragment_number) ≡ ends =
    ap (λ (t : Bool). demand_by false (is_first taken) true t) present in
    let both : ends ≡ takes = sym not_again ∙ again in absurd (cc)

destination_kept : (before : Ipv6Extensions) (header : Ipv6RawExtHeader) (after : Option Ipv6RoutingExtensions)
    → (with_destination before header after).fragment ≡ before.fragment
destination_kept before header None = refl
destination_kept before header (Some after) = refl

-- After a fragment header, a chain has no other fragment header.
kept_fragment : (taken : List ℕ) (number : ℕ) (bytes : List ℕ) (parts : List ExtensionPart) (last : ℕ) (rest : List ℕ)
    (before : Ipv6Extensions) → is_taken taken fragment_number ≡ true
    → IsChainAfter ipv6 by_value taken number bytes parts last rest
    → (with_parts before parts).fragment ≡ before.fragment
kept_fragment taken number bytes [] last rest before present is = refl
kept_fragment taken number bytes (hop_by_hop header ∷ parts) last rest before present is =
    kept_fragment (number ∷ taken) header.next_header.0 is.1.0 parts last rest
    (with_part before (hop_by_hop header)) (taken_after taken number present) is.1.2
kept_fragment taken number bytes (destination_options header ∷ parts) last rest before present is =
    kept_fragment (number ∷ taken) header.next_header.0 is.1.0 parts last rest
    (with_part before (destination_options header)) (taken_after taken number present) is.1.2
    ∙ destination_kept before header before.routing
kept_fragment taken number bytes (routing header ∷ parts) last rest before present is =
    kept_fragment (number ∷ taken) header.next_header.0 is.1.0 parts last rest
    (with_part before (routing header)) (taken_after taken number present) is.1.2
kept_fragment taken number bytes (fragment header ∷ parts) last rest before present is =
    absurd (second_ends taken number is.1.1.0 present is.0)
kept_fragment taken number bytes (authentication header ∷ parts) last rest before present is =
    kept_fragment (number ∷ taken) header.next_header.0 is.1.0 parts last rest
    (with_part before (authentication header)) (taken_after taken number present) is.1.2

-- The first fragment header of a chain is that of the owned headers.
first_after : (taken : List ℕ) (number : ℕ) (bytes : List ℕ) (parts : List ExtensionPart) (last : ℕ) (rest : List ℕ)
    (before : Ipv6Extensions) → before.fragment ≡ None
    → IsChainAfter ipv6 by_value taken number bytes parts last rest
    → first_fragment parts ≡ (with_parts before parts).fragment
first_after taken number bytes [] last rest before none is = sym none
first_after taken number bytes (hop_by_hop header ∷ parts) last rest before none is =
    first_after (number ∷ taken) header.next_header.0 is.1.0 parts last rest
    (with_part before (hop_by_hop header)) none is.1.2
first_after taken number bytes (destination_options header ∷ parts) last rest before none is =
    first_after (number ∷ taken) header.next_header.0 is.1.0 parts last rest
    (with_part before (destination_options header)) (destination_kept before header before.routing ∙ none) is.1.2
first_after taken number bytes (routing header ∷ parts) last rest before none is =
    first_after (number ∷ taken) header.next_header.0 is.1.0 parts last rest
    (with_part before (routing header)) none is.1.2
first_after taken number bytes (fragment header ∷ parts) last rest before none is = sym
    (kept_fragment (number ∷ taken) header.next_header.0 is.1.0 parts last rest
    (with_part before (fragment header))
    (ap (λ (n : ℕ). is_taken (n ∷ taken) fragment_number) is.1.1.0) is.1.2)
first_after taken number bytes (authentication header ∷ parts) last rest before none is =
    first_after (number ∷ taken) header.next_header.0 is.1.0 parts last rest
    (with_part before (authentication header)) none is.1.2

first_by_value : (number : ℕ) (bytes : List ℕ) (parts : List ExtensionPart) (last : ℕ) (rest : List ℕ)
    → IsChainAfter ipv6 by_value [] number bytes parts last rest
    → first_fragment parts ≡ (extensions_of parts).fragment
first_by_value number bytes parts last rest is =
    first_after [] number bytes parts last rest no_ipv6_extensions refl is

-- Linked headers state the fragment that the headers state.
linked_carry : (vlan_ids : List ℕ) (header : Ipv6Header) (part : Option Ipv6FragmentHeader) (next : IpNumber)
    (payload : IpPayload)
    → option_and_then (ipv6_fragment vlan_ids header payload) (option_map (fragment_leading_to next) part)
    ≡ option_and_then (ipv6_fragment vlan_ids header payload) part
linked_carry vlan_ids header None next payload = refl
linked_carry vlan_ids header (Some part) next payload = refl

-- ---- network layer

net_4 : (reading : Reading) (header present : Ipv4Header) (extensions these : Ipv4Extensions) (bytes : List ℕ)
    (payload : IpPayload) (part : IpPart) → ((vlan_ids : List ℕ)
    → ipv4_fragment vlan_ids present payload ≡ ipv4_fragment vlan_ids header payload) → IsIp by_value bytes part
    → ip_headers_of part ≡ version.Ipv4 present these → ip_part_extensions part ≡ ipv4_parts these
    → ip_part_payload part ≡ payload
    → NetOf reading (version.Ipv4 header extensions) (version.Ipv4 present these) bytes payload
net_4 reading header present extensions these bytes payload (ipv4_part packet) same is same_headers same_extensions
    same_payload =
    let here = in_reading_4 reading bytes packet is in
    let same_header : packet.header ≡ present = cc in record {
      layer = ipv4_layer packet;
      typed = (packet, here, refl);
      any = (ipv4_part packet, here, refl);
      has_payload = ap (λ (p : IpPayload). Some p) same_payload;
      carries = λ vlan_ids.
          ap (λ (h : Ipv4Header). ipv4_fragment vlan_ids h packet.payload) same_header
          ∙ ap (ipv4_fragment vlan_ids present) same_payload ∙ same vlan_ids;
      has_headers = same_header;
      has_layer = λ i. ipv4_net (same_header i) (same_extensions i) (same_payload i);
    }
net_4 reading header present extensions these bytes payload (ipv6_part packet) same is same_headers same_extensions
    same_payload = absurd (cc)

net_6 : (reading : Reading) (header present : Ipv6Header) (extensions these : Ipv6Extensions) (bytes : List ℕ)
    (payload : IpPayload) (part : IpPart) → ((vlan_ids : List ℕ)
    → headers_carry vlan_ids (version.Ipv6 present these) payload
    ≡ headers_carry vlan_ids (version.Ipv6 header extensions) payload) → is_ipv6_extension payload.number ≡ false
    → IsIp by_value bytes part → ip_headers_of part ≡ version.Ipv6 present these
    → ip_part_extensions part ≡ ipv6_parts these → ip_part_payload part ≡ payload
    → NetOf reading (version.Ipv6 header extensions) (version.Ipv6 present these) bytes payload
net_6 reading header present extensions these bytes payload (ipv4_part packet) same none is same_headers same_extensions
    same_payload = absurd (cc)
net_6 reading header present extensions these bytes payload (ipv6_part packet) same none is same_headers same_parts
    same_payload =
    let ends_so = ap (λ (p : IpPayload). is_ipv6_extension p.number) same_payload ∙ none in
    let here = in_reading_6 reading bytes packet ends_so is in
    let same_header : packet.header ≡ present = cc in
    let same_extensions : extensions_of packet.extensions ≡ these = cc in
    let first = first_by_value packet.header.next_header.0 is.content packet.extensions packet.payload.number
    packet.payload.bytes is.chain in record {
      layer = ipv6_layer packet;
      typed = (packet, here, refl);
      any = (ipv6_part packet, here, refl);
      has_payload = ap (λ (p : IpPayload). Some p) same_payload;
      carries = λ vlan_ids.
          ap (option_and_then (ipv6_fragment vlan_ids packet.header packet.payload)) first
          ∙ ap (λ (h : Ipv6Header). headers_carry vlan_ids
          (version.Ipv6 h (extensions_of packet.extensions)) packet.payload) same_header
          ∙ ap (λ (e : Ipv6Extensions). headers_carry vlan_ids (version.Ipv6 present e) packet.payload) same_extensions
          ∙ ap (headers_carry vlan_ids (version.Ipv6 present these)) same_payload ∙ same vlan_ids;
      has_headers = (same_header, same_extensions);
      has_layer = λ i. ipv6_net (same_header i) (same_parts i) (same_payload i);
    }

-- Headers that are linked to a number of no extension header, with the length of their content, are read back.
pub net_of : (reading : Reading) (headers : IpHeaders) (last : IpNumber) (content : List ℕ)
    → FitIpHeaders (headers_for headers last (length content)) → EndsExtensions headers last.0
    → NetOf reading headers (with_checksum (headers_for headers last (length content))) (ip_frame headers last content)
    (payload_of_headers (headers_for headers last (length content)) last content)
net_of reading (version.Ipv4 header extensions) last content fit other =
    let back = read (version.Ipv4 header extensions) last content fit other in
    net_4 reading header _ extensions _ _ _ back.part (λ vlan_ids. refl) back.is back.same_headers back.same_extensions
    back.same_payload
net_of reading (version.Ipv6 header extensions) last content fit other =
    let back = read (version.Ipv6 header extensions) last content fit other in
    net_6 reading header _ extensions _ _ _ back.part
    (λ vlan_ids. linked_carry vlan_ids header extensions.fragment (after_fragment extensions last)
    (payload_of_headers (headers_for (version.Ipv6 header extensions) last (length content)) last content)) other
    back.is back.same_headers back.same_extensions back.same_payload

-- ---- linked headers are a fragment if the headers are

or_step : (x y z w : Bool) → y ≡ (z || w) → (x || y) ≡ ((x || z) || w)
or_step true y z w same = refl
or_step false y z w same = same

fragments-append : (parts more : List ExtensionPart)
    → chain_fragments (parts ++ more) ≡ (chain_fragments parts || chain_fragments more)
fragments-append [] more = refl
fragments-append (part ∷ parts) more =
    or_step (part_fragments part) _ (chain_fragments parts) (chain_fragments more) (fragments-append parts more)

fragments_both : (a b c d : List ExtensionPart) → chain_fragments a ≡ chain_fragments b
    → chain_fragments c ≡ chain_fragments d → chain_fragments (a ++ c) ≡ chain_fragments (b ++ d)
fragments_both a b c d first second =
    fragments-append a c ∙ ap (λ (x : Bool). x || chain_fragments c) first
    ∙ ap (λ (x : Bool). chain_fragments b || x) second ∙ sym (fragments-append b d)

hop_by_hop_same : (next : IpNumber) (header : Option Ipv6RawExtHeader)
    → chain_fragments (optional_part hop_by_hop (option_map (raw_leading_to next) header))
    ≡ chain_fragments (optional_part hop_by_hop header)
hop_by_hop_same next None = refl
hop_by_hop_same next (Some header) = refl

destination_same : (next : IpNumber) (header : Option Ipv6RawExtHeader)
    → chain_fragments (optional_part destination_options (option_map (raw_leading_to next) header))
    ≡ chain_fragments (optional_part destination_options header)
destination_same next None = refl
destination_same next (Some header) = refl

routing_same : (next last : IpNumber) (after : Option Ipv6RoutingExtensions)
    → chain_fragments
    (optional_part routing (option_map routing_header (option_map (routing_leading_to next last) after)))
    ≡ chain_fragments (optional_part routing (option_map routing_header after))
routing_same next last None = refl
routing_same next last (Some after) = refl

final_same : (next last : IpNumber) (after : Option Ipv6RoutingExtensions)
    → chain_fragments (optional_part destination_options (final_by (option_map (routing_leading_to next last) after)))
    ≡ chain_fragments (optional_part destination_options (final_by after))
final_same next last None = refl
final_same next last (Some after) = destination_same last after.final_destination_options

fragment_same : (next : IpNumber) (header : Option Ipv6FragmentHeader)
    → chain_fragments (optional_part fragment (option_map (fragment_leading_to next) header))
    ≡ chain_fragments (optional_part fragment header)
fragment_same next None = refl
fragment_same next (Some header) = refl

auth_same : (next : IpNumber) (header : Option IpAuthHeader)
    → chain_fragments (optional_part authentication (option_map (ip_auth_leading_to next) header))
    ≡ chain_fragments (optional_part authentication header)
auth_same next None = refl
auth_same next (Some header) = refl

ipv6_same : (extensions : Ipv6Extensions) (last : IpNumber)
    → chain_fragments (ipv6_parts (ipv6_linked extensions last)) ≡ chain_fragments (ipv6_parts extensions)
ipv6_same extensions last =
    let new = header_lists (ipv6_linked extensions last) in
    let old = header_lists extensions in
    let ab = fragments_both new.hop old.hop new.destination old.destination
    (hop_by_hop_same (after_hop_by_hop extensions last) extensions.hop_by_hop_options)
    (destination_same (after_destination extensions last) extensions.destination_options) in
    let abc = fragments_both (new.hop ++ new.destination) (old.hop ++ old.destination) new.after old.after ab
    (routing_same (after_routing extensions last) last extensions.routing) in
    let fragments_before_auth = fragments_both (new.hop ++ new.destination ++ new.after) (old.hop ++ old.destination ++ old.after)
    new.fragments old.fragments abc
    (fragment_same (after_fragment extensions last) extensions.fragment) in
    let abcde = fragments_both (new.hop ++ new.destination ++ new.after ++ new.fragments)
    (old.hop ++ old.destination ++ old.after ++ old.fragments) new.auth old.auth fragments_before_auth
    (auth_same (after_auth extensions last) extensions.auth) in
    fragments_both (new.hop ++ new.destination ++ new.after ++ new.fragments ++ new.auth)
    (old.hop ++ old.destination ++ old.after ++ old.fragments ++ old.auth) new.final old.final abcde
    (final_same (after_routing extensions last) last extensions.routing)

-- If headers carry a fragment, `headers_fragment` is true for them.
or_true : (a : Bool) → (a || true) ≡ true
or_true true = refl
or_true false = refl

prefix_fragments : (parts more : List ExtensionPart) → chain_fragments parts ≡ true
    → chain_fragments (parts ++ more) ≡ true
prefix_fragments parts more present =
    fragments-append parts more ∙ ap (λ (x : Bool). x || chain_fragments more) present

back_fragments : (parts more : List ExtensionPart) → chain_fragments more ≡ true
    → chain_fragments (parts ++ more) ≡ true
back_fragments parts more present =
    fragments-append parts more ∙ ap (λ (x : Bool). chain_fragments parts || x) present ∙ or_true (chain_fragments parts)

if_some : (test : Bool) (found stated : FrameFragment) → (if test then Some stated else None) ≡ Some found → test ≡ true
if_some true found stated is = refl
if_some false found stated is = absurd (cc)

stated_6 : (vlan_ids : List ℕ) (header : Ipv6Header) (payload : IpPayload) (part : Option Ipv6FragmentHeader)
    (found : FrameFragment) → option_and_then (ipv6_fragment vlan_ids header payload) part ≡ Some found
    → chain_fragments (optional_part fragment part) ≡ true
stated_6 vlan_ids header payload None found is = absurd (cc)
stated_6 vlan_ids header payload (Some part) found is =
    ap (λ (x : Bool). x || false) (if_some (is_ipv6_fragment part) found _ is)

pub stated_fragments : (vlan_ids : List ℕ) (headers : IpHeaders) (payload : IpPayload) (found : FrameFragment)
    → headers_carry vlan_ids headers payload ≡ Some found → headers_fragment headers ≡ true
stated_fragments vlan_ids (version.Ipv4 header extensions) payload found is =
    if_some (is_ipv4_fragment header) found _ is
stated_fragments vlan_ids (version.Ipv6 header extensions) payload found is =
    let lists = header_lists extensions in
    let here = stated_6 vlan_ids header payload extensions.fragment found is in
    prefix_fragments (lists.hop ++ lists.destination ++ lists.after ++ lists.fragments ++ lists.auth) lists.final
    (prefix_fragments (lists.hop ++ lists.destination ++ lists.after ++ lists.fragments) lists.auth
    (back_fragments (lists.hop ++ lists.destination ++ lists.after) lists.fragments here))

pub fragments_linked : (headers : IpHeaders) (last : IpNumber) (len : ℕ)
    → headers_fragment (headers_for headers last len) ≡ headers_fragment headers
fragments_linked (version.Ipv4 header extensions) last len = refl
fragments_linked (version.Ipv6 header extensions) last len = ipv6_same extensions last
