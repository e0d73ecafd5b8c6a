-- An expression without `not` that matches the first bytes of a packet matches the whole packet.
use Rattle.std.proofs.Common.{◌≡◌, ℕ, List, [], ◌++◌, false, map, Option, Some, None, refl, ap, sym, subst, ◌∙◌, inl, inr}
use Rattle.std.specs.Prelude.{option_map}
use Rattle.ep_base.specs.Bytes.{AreBytes}
use Rattle.ep_base.specs.Tables.{Parts, parts_of}
use Rattle.ep_base.specs.declared.ether_type.EtherType.{EtherType}
use Rattle.ep_base.specs.declared.len_source.LenSource.TheVariants as source
use Rattle.ep_base.proofs.BytesLemmas.{AreBytes-payload}
use Rattle.ep_link.specs.declared.link.ethernet2_header.Ethernet2Header.{Ethernet2Header}
use Rattle.ep_link.specs.declared.link.linux_sll_header.LinuxSllHeader.{LinuxSllHeader}
use Rattle.ep_link.specs.Ethernet2.{ethernet2_bytes, ethernet2_header_len, IsEthernet2}
use Rattle.ep_link.specs.LinkSlices.{LinkLayer, ethernet2, linux_sll as sll, ether_payload, unlimited_ether_payload}
use Rattle.ep_link.specs.LinuxSll.{linux_sll_bytes, linux_sll_header_len, IsLinuxSll, protocol_ether_type}
use Rattle.ep_packet.specs.declared.entry.Entry.{Entry}
use Rattle.ep_packet.specs.declared.entry.Entry.TheVariants.{Ethernet as ethernet, LinuxSll as linux_sll, EtherType as ether_type, Ip as ip}
use Rattle.ep_packet.specs.Frame.{any_ip, most_link_exts}
use Rattle.ep_packet.specs.Layers.{NetLayer, ipv4, ipv6, arp, ipv4_layer, ipv6_layer}
use Rattle.ep_packet.proofs.LayerLawLemmas.{layer_laws}
use Rattle.ep_lax.specs.Lax.{IsLax, IsLaxInside, IsLaxNet}
use Rattle.ep_lax.specs.LaxLayers.{LaxLayers, LaxNet}
use Rattle.ep_lax.specs.StrictFrames.{extension_in}
use Rattle.ep_lax.proofs.LaxLawLemmas.{Tagged}
use Rattle.ep_lax.proofs.MoreBytesLemmas.{complete_more}
use Rattle.packet_filter.specs.Laws.{HoldsOfMore}
use Rattle.packet_filter.specs.Packets.{ip_type, link_type, payload_type, tags_in, type_number}
use Rattle.filter_language.specs.Trees.{Expr}
use Rattle.packet_filter.proofs.MoreLayers.{MoreLayers, MoreLink, MoreNet, MoreNets, MoreTags}
use Rattle.packet_filter.proofs.MoreNetLemmas.{net_pair}
use Rattle.packet_filter.proofs.MorePrimitiveLemmas.{expr_more}
use Rattle.packet_filter.proofs.MoreTagLemmas.{tags_pair}

-- ---- link layers

same_ethernet : (header : Ethernet2Header) (payload more : List ℕ)
    → MoreLink (Some (ethernet2 header payload)) (Some (ethernet2 header more))
same_ethernet header payload more = record {
  len = refl;
  station = λ side station. refl;
  ethernet = inr (λ packet. refl, λ packet. refl);
}

same_sll : (header : LinuxSllHeader) (payload more : List ℕ)
    → MoreLink (Some (sll header payload)) (Some (sll header more))
same_sll header payload more =
    record { len = refl; station = λ side station. refl; ethernet = inl (λ packet. refl) }

same_payload : (type : EtherType) (payload more : List ℕ)
    → MoreLink (Some (ether_payload type source.Slice payload)) (Some (ether_payload type source.Slice more))
same_payload type payload more =
    record { len = refl; station = λ side station. refl; ethernet = inl (λ packet. refl) }

no_link : MoreLink None None
no_link = record { len = refl; station = λ side station. refl; ethernet = inl (λ packet. refl) }

-- The ether type of a Linux cooked capture does not depend on the payload.
sll_type : (type : Option EtherType) (payload : List ℕ)
    → option_map payload_type (option_map (unlimited_ether_payload payload) type) ≡ type_number type
sll_type None payload = refl
sll_type (Some type) payload = refl

-- A link layer with the ether type of its payload, before the layers of both.
linked : (layers more : LaxLayers) (link longer : LinkLayer) (type : Option EtherType) → layers.link ≡ Some link
    → more.link ≡ Some longer → MoreLink (Some link) (Some longer)
    → ((net : Option NetLayer) → link_type (Some link) net ≡ type_number type)
    → ((net : Option NetLayer) → link_type (Some longer) net ≡ type_number type)
    → MoreTags (type_number type) (tags_in layers) (tags_in more) layers.net.layer more.net.layer
    → MoreLayers layers more
linked layers more link longer type is present links here_type present_type tags =
    let here = ap (λ (l : Option LinkLayer). link_type l layers.net.layer) is ∙ here_type layers.net.layer in
    let found = ap (λ (l : Option LinkLayer). link_type l more.net.layer) present ∙ present_type more.net.layer in
    record {
      link = subst (λ (l : Option LinkLayer). MoreLink l more.link) (sym is)
          (subst (λ (l : Option LinkLayer). MoreLink (Some link) l) (sym present) links);
      type = found ∙ sym here;
      tags = subst (λ (t : Option ℕ). MoreTags t (tags_in layers) (tags_in more) layers.net.layer more.net.layer)
          (sym here) tags;
    }

-- ---- packets without link layer

same_ip : (net more : NetLayer) → MoreNet net more → ip_type more ≡ ip_type net
same_ip (ipv4 header parts payload) (ipv4 same others more) are = refl
same_ip (ipv6 header parts payload) (ipv6 same others more) are = refl
same_ip (arp packet) (arp same) are = refl
same_ip net more are = absurd are

-- A packet without link layer has a network layer.
ip_layer_present : (bytes : List ℕ) (net : LaxNet) → IsLaxNet 0 false (Some any_ip) bytes net
    → (layer : NetLayer) × (net.layer ≡ Some layer)
ip_layer_present bytes net (inl is) = (ipv4_layer is.0.packet, ap (λ (n : LaxNet). n.layer) is.2.2)
ip_layer_present bytes net (inr is) = (ipv6_layer is.0.packet, ap (λ (n : LaxNet). n.layer) is.2.2)

type_without_link : (layer : NetLayer) (net more : Option NetLayer) → net ≡ Some layer → MoreNets net more
    → link_type None more ≡ link_type None net
type_without_link layer None more present are = absurd (let no : None ≡ Some layer = present in cc no)
type_without_link layer (Some net) None present are = absurd are
type_without_link layer (Some net) (Some more) present are = same_ip net more are

-- ---- packets

layers_more : (entry : Entry) (prefix others : List ℕ) (layers more : LaxLayers) → AreBytes (prefix ++ others)
    → IsLax entry prefix layers → IsLax entry (prefix ++ others) more → MoreLayers layers more
layers_more ethernet prefix others layers more fits (frame, is, link, inside) (again, present, found, within) =
    let header = frame.header in
    let payload = frame.payload ++ others in
    let holds : IsEthernet2 (prefix ++ others) (parts_of header payload []) = record {
      fits = is.fits;
      parts = complete_more prefix (ethernet2_bytes header) frame.payload frame.left others is.parts is.cut;
      cut = refl;
    } in
    let equal : again ≡ parts_of header payload [] =
    (layer_laws.ethernet2 (prefix ++ others) fits).one_value again (parts_of header payload []) present holds in
    linked layers more (ethernet2 header frame.payload) (ethernet2 header payload) (Some header.ether_type) link
    (found ∙ ap (λ (f : Parts Ethernet2Header). Some (ethernet2 f.header f.payload)) equal)
    (same_ethernet header frame.payload payload) (λ net. refl) (λ net. refl)
    (tags_pair most_link_exts ethernet2_header_len ethernet2_header_len false false (Some header.ether_type) frame.payload
    others layers.link_exts more.link_exts layers.net more.net
    (AreBytes-payload (prefix ++ others) (ethernet2_bytes header) payload [] fits holds.parts) inside
    (subst (λ (f : Parts Ethernet2Header). IsLaxInside most_link_exts ethernet2_header_len false (Some f.header.ether_type)
    f.payload more.link_exts more.net) equal within))
layers_more linux_sll prefix others layers more fits (frame, is, link, inside) (again, present, found, within) =
    let header = frame.header in
    let payload = frame.payload ++ others in
    let holds : IsLinuxSll (prefix ++ others) (parts_of header payload []) = record {
      fits = is.fits;
      parts = complete_more prefix (linux_sll_bytes header) frame.payload frame.left others is.parts is.cut;
      cut = refl;
    } in
    let equal : again ≡ parts_of header payload [] =
    (layer_laws.linux_sll (prefix ++ others) fits).one_value again (parts_of header payload []) present holds in
    let type = protocol_ether_type header.protocol_type in
    linked layers more (sll header frame.payload) (sll header payload) type link
    (found ∙ ap (λ (f : Parts LinuxSllHeader). Some (sll f.header f.payload)) equal)
    (same_sll header frame.payload payload) (λ net. sll_type type frame.payload) (λ net. sll_type type payload)
    (tags_pair most_link_exts linux_sll_header_len linux_sll_header_len false false type frame.payload
    others layers.link_exts more.link_exts layers.net more.net
    (AreBytes-payload (prefix ++ others) (linux_sll_bytes header) payload [] fits holds.parts) inside
    (subst (λ (f : Parts LinuxSllHeader). IsLaxInside most_link_exts linux_sll_header_len false
    (protocol_ether_type f.header.protocol_type) f.payload more.link_exts more.net) equal within))
layers_more (ether_type type) prefix others layers more fits (link, inside) (found, within) =
    linked layers more (ether_payload type source.Slice prefix) (ether_payload type source.Slice (prefix ++ others))
    (Some type) link found (same_payload type prefix (prefix ++ others)) (λ net. refl) (λ net. refl)
    (tags_pair most_link_exts 0 0 false false (Some type) prefix others layers.link_exts more.link_exts layers.net more.net
    fits inside within)
layers_more ip prefix others layers more fits (link, extensions, net) (found, none, within) =
    let nets = net_pair 0 0 false false (Some any_ip) prefix others layers.net more.net fits net within in
    let layer = ip_layer_present prefix layers.net net in
    let type = link_type layers.link layers.net.layer in
    record {
      link = subst (λ (l : Option LinkLayer). MoreLink l more.link) (sym link)
          (subst (λ (l : Option LinkLayer). MoreLink None l) (sym found) no_link);
      type = ap (λ (l : Option LinkLayer). link_type l more.net.layer) found
          ∙ type_without_link layer.0 layers.net.layer more.net.layer layer.1 nets
          ∙ sym (ap (λ (l : Option LinkLayer). link_type l layers.net.layer) link);
      tags = subst (λ (l : List Tagged). MoreTags type (map extension_in l) (tags_in more) layers.net.layer
          more.net.layer) (sym extensions)
          (subst (λ (l : List Tagged). MoreTags type [] (map extension_in l) layers.net.layer more.net.layer) (sym none)
          nets);
    }

pub more_bytes : (e : Expr) (entry : Entry) (prefix others : List ℕ) → HoldsOfMore e entry prefix others
more_bytes e entry prefix others = λ layers more len fits positive is present matches.
    expr_more e layers more prefix others len (layers_more entry prefix others layers more fits is present) positive matches
