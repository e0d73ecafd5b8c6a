-- The tags of the first bytes of a packet, and those of the whole packet.
use Rattle.std.proofs.Common.{◌≡◌, ℕ, zero, suc, ◌+◌, Bool, List, [], ◌∷◌, ◌++◌, map, Option, Some, None, refl, ap, sym, subst, ◌∙◌, inl, inr}
use Rattle.ep_base.specs.Bytes.{AreBytes}
use Rattle.ep_base.specs.declared.ether_type.EtherType.{EtherType}
use Rattle.ep_link.specs.LinkExtensions.{BeginsLinkExtension, extension_header, extension_payload, extension_type, link_ext_header_len}
use Rattle.ep_packet.specs.Frame.{net_kind}
use Rattle.ep_lax.specs.Lax.{IsLaxInside}
use Rattle.ep_lax.specs.LaxLayers.{LaxNet}
use Rattle.ep_lax.specs.StrictFrames.{extension_in}
use Rattle.ep_lax.proofs.LaxLawLemmas.{Tagged, lax_extension_begins, lax_extension_decided, lax_extension_fits, lax_refused_begins}
use Rattle.ep_lax.proofs.MoreBytesLemmas.{extension_more}
use Rattle.packet_filter.specs.Packets.{type_number}
use Rattle.packet_filter.proofs.MoreLayers.{IsNoNetType, MoreNets, MoreTags}
use Rattle.packet_filter.proofs.MoreNetLemmas.{net_pair}

-- ---- ether types

no_net_type : (type number : ℕ) → type ≡ number → IsNoNetType (Some number) → IsNoNetType (Some type)
no_net_type type number is none = subst (λ (n : ℕ). IsNoNetType (Some n)) (sym is) none

-- The ether type of a tag is not that of IP or ARP.
tag_no_net : (type : EtherType) → BeginsLinkExtension type → IsNoNetType (type_number (Some type))
tag_no_net type (inl (inl is)) = no_net_type type.0 _ is (record { ipv4 = refl; ipv6 = refl; arp = refl })
tag_no_net type (inl (inr (inl is))) = no_net_type type.0 _ is (record { ipv4 = refl; ipv6 = refl; arp = refl })
tag_no_net type (inl (inr (inr is))) = no_net_type type.0 _ is (record { ipv4 = refl; ipv6 = refl; arp = refl })
tag_no_net type (inr is) = no_net_type type.0 _ is (record { ipv4 = refl; ipv6 = refl; arp = refl })

-- ---- tags and the network layer after them

no_tags : (type : Option ℕ) (net other : LaxNet) → net.layer ≡ None → MoreTags type [] [] net.layer other.layer
no_tags type net other none = subst (λ n. MoreNets n other.layer) (sym none) tt

pub tags_pair : (space offset place : ℕ) (outer inner : Bool) (type : Option EtherType) (bytes more : List ℕ)
    (extensions others : List Tagged) (net other : LaxNet) → AreBytes (bytes ++ more)
    → IsLaxInside space offset outer type bytes extensions net
    → IsLaxInside space place inner type (bytes ++ more) others other
    → MoreTags (type_number type) (map extension_in extensions) (map extension_in others) net.layer other.layer
tags_pair space offset place outer inner None bytes more extensions others net other fits is present =
    subst (λ (l : List Tagged). MoreTags None (map extension_in l) (map extension_in others) net.layer other.layer)
    (sym is.0)
    (subst (λ (l : List Tagged). MoreTags None [] (map extension_in l) net.layer other.layer) (sym present.0)
    (no_tags None net other (ap (λ (n : LaxNet). n.layer) is.1)))
tags_pair zero offset place outer inner (Some type) bytes more [] [] net other fits is present =
    net_pair offset place outer inner (net_kind type) bytes more net other fits is present
tags_pair zero offset place outer inner (Some type) bytes more [] (further ∷ others) net other fits is present =
    absurd present
tags_pair zero offset place outer inner (Some type) bytes more (tagged ∷ extensions) others net other fits is present =
    absurd is
tags_pair (suc space) offset place outer inner (Some type) bytes more [] [] net other fits (inl is) (inl present) =
    net_pair offset place outer inner (net_kind type) bytes more net other fits is.1 present.1
tags_pair (suc space) offset place outer inner (Some type) bytes more [] [] net other fits (inl is) (inr refused) =
    absurd (is.0 (lax_refused_begins place type (bytes ++ more) refused.0 refused.1))
tags_pair (suc space) offset place outer inner (Some type) bytes more [] [] net other fits (inr refused) present =
    no_tags (Some type.0) net other (ap (λ (n : LaxNet). n.layer) refused.2)
tags_pair (suc space) offset place outer inner (Some type) bytes more [] (further ∷ others) net other fits (inl is)
    present =
    absurd (is.0 (lax_extension_begins inner type (bytes ++ more) further present.0))
tags_pair (suc space) offset place outer inner (Some type) bytes more [] (further ∷ others) net other fits
    (inr refused) present =
    (ap (λ (n : LaxNet). n.layer) refused.2, tag_no_net type (lax_refused_begins offset type bytes refused.0 refused.1))
tags_pair (suc space) offset place outer inner (Some type) bytes more (tagged ∷ extensions) [] net other fits is
    (inl present) =
    absurd (present.0 (lax_extension_begins outer type bytes tagged is.0))
tags_pair (suc space) offset place outer inner (Some type) bytes more (tagged ∷ extensions) [] net other fits is
    (inr refused) =
    let here = extension_more outer inner type bytes more tagged is.0 in
    absurd ((lax_extension_decided place inner type (bytes ++ more) fits
    (lax_extension_begins outer type bytes tagged is.0)).not_both here.read refused.0 here.is refused.1)
tags_pair (suc space) offset place outer inner (Some type) bytes more (tagged ∷ extensions) (same ∷ others) net other
    fits is present =
    let here = extension_more outer inner type bytes more tagged is.0 in
    let equal : same ≡ here.read = (lax_extension_decided place inner type (bytes ++ more) fits
    (lax_extension_begins outer type bytes tagged is.0)).one_value same here.read present.0 here.is in
    let at = place + link_ext_header_len (extension_header here.read.0) in
    let payload = lax_extension_fits inner type (bytes ++ more) here.read fits here.is in
    let next = subst (λ (r : Tagged). IsLaxInside space (place + link_ext_header_len (extension_header r.0)) r.1
    (extension_type r.0) (extension_payload r.0) others other) equal present.1 in
    let typed = subst (λ (t : Option EtherType). IsLaxInside space at here.read.1 t (extension_payload here.read.0) others
    other) here.same_type next in
    let longer = subst (λ (l : List ℕ). IsLaxInside space at here.read.1 (extension_type tagged.0) l others other)
    here.payload typed in (
      ap (λ (r : Tagged). extension_header r.0) equal ∙ here.tag,
      ap (λ (r : Tagged). type_number (extension_type r.0)) equal ∙ ap type_number here.same_type,
      tags_pair space (offset + link_ext_header_len (extension_header tagged.0)) at tagged.1 here.read.1
          (extension_type tagged.0) (extension_payload tagged.0) here.rest extensions others net other
          (subst AreBytes here.payload payload) is.1 longer,
    )
