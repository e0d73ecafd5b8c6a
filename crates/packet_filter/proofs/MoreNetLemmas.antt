-- The network layer of the first bytes of a packet, and that of the whole packet.
use Rattle.std.proofs.Common.{◌≡◌, ℕ, ◌+◌, Bool, List, ◌++◌, Option, Some, None, refl, ap, sym, subst, ◌∙◌, inl, inr, arith}
use Rattle.ep_base.specs.Bytes.{AreBytes}
use Rattle.ep_base.specs.Readings.{slices}
use Rattle.ep_base.specs.declared.len_source.LenSource.TheVariants as source
use Rattle.ep_base.proofs.TableLemmas.{decided}
use Rattle.ep_ext.specs.Chains.{ipv4 as for_ipv4, ipv6 as for_ipv6, chain_fragments}
use Rattle.ep_ext.specs.ChainPrefixes.{IsLaxChain}
use Rattle.ep_ip.specs.declared.ipv4_header.Ipv4Header.{Ipv4Header}
use Rattle.ep_ip.specs.declared.ipv6_header.Ipv6Header.{Ipv6Header}
use Rattle.ep_ip.specs.Ipv4.{IsIpv4Header, ipv4_header_len, is_ipv4_fragment}
use Rattle.ep_ip.specs.Ipv6.{IsIpv6Header, ipv6_bytes}
use Rattle.ep_ip.specs.LaxIp.{LaxIp, IsLaxIpv4After, IsLaxIpv6After, lax_ipv6_source}
use Rattle.ep_ip.proofs.Ipv4Lemmas.{ipv4_header_is_read}
use Rattle.ep_ip.proofs.Ipv6Lemmas.{ipv6_header_is_read}
use Rattle.ep_ip.proofs.LaxIpLemmas.{after_ipv4_fits, after_ipv6_fits, cut_fits, lax_ipv4_version, lax_ipv6_version}
use Rattle.ep_link.specs.Arp.{Arp, IsArp, arp_bytes}
use Rattle.ep_packet.specs.Frame.{NetKind, only_ipv4, only_ipv6, only_arp, any_ip}
use Rattle.ep_packet.specs.Layers.{NetLayer, ipv4, ipv6, arp, ipv4_layer, ipv6_layer}
use Rattle.ep_packet.proofs.LayerLawLemmas.{layer_laws}
use Rattle.ep_lax.specs.Lax.{IsIpv4Net, IsIpv6Net, IsLaxNet}
use Rattle.ep_lax.specs.LaxLayers.{LaxNet}
use Rattle.ep_lax.proofs.MoreIpLemmas.{cut_more, ipv4_more, ipv6_more}
use Rattle.ep_lax.proofs.MoreTransportLemmas.{parts_more}
use Rattle.packet_filter.proofs.MoreChainLemmas.{lax_chain_more, parts_of_chain}
use Rattle.packet_filter.proofs.MoreLayers.{MoreNets}

-- ---- headers

ipv4_holds : (bytes more : List ℕ) (read : Ipv4Header × List ℕ) → IsIpv4Header bytes read
    → IsIpv4Header (bytes ++ more) (read.0, read.1 ++ more)
ipv4_holds bytes more read is = record {
  encoded = is.encoded;
  encodes = is.encodes;
  parts = parts_more bytes is.encoded read.1 more is.parts;
}

ipv6_holds : (bytes more : List ℕ) (read : Ipv6Header × List ℕ) → IsIpv6Header bytes read
    → IsIpv6Header (bytes ++ more) (read.0, read.1 ++ more)
ipv6_holds bytes more read is =
    record { fits = is.fits; parts = parts_more bytes (ipv6_bytes read.0) read.1 more is.parts }

arp_holds : (bytes more : List ℕ) (part : Arp × List ℕ) → IsArp bytes part
    → IsArp (bytes ++ more) (part.0, part.1 ++ more)
arp_holds bytes more part is =
    record { fits = is.fits; parts = parts_more bytes (arp_bytes part.0) part.1 more is.parts }

-- ---- packets

pub ipv4_pair : (offset place : ℕ) (outer inner : Bool) (bytes more : List ℕ) (net other : LaxNet)
    → AreBytes (bytes ++ more) → IsIpv4Net offset outer bytes net → IsIpv4Net place inner (bytes ++ more) other
    → MoreNets net.layer other.layer
ipv4_pair offset place outer inner bytes more net other fits is present =
    let header = is.1.0.0 in
    let len = ipv4_header_len header in
    let holds = ipv4_holds bytes more is.1.0 is.1.1 in
    let read : Ipv4Header × List ℕ = (header, is.1.0.1 ++ more) in
    let equal : present.1.0 ≡ read =
    (decided ipv4_header_is_read (bytes ++ more) fits).one_value present.1.0 read present.1.1 holds in
    let prefix = is.1.2 in
    let complete = subst (λ (r : Ipv4Header × List ℕ). IsLaxIpv4After inner r present.0) equal present.1.2 in
    let rest = cut_more len header.total_len source.Ipv4HeaderTotalLen outer inner len is.1.0.1 more prefix.cut complete.cut
    prefix.cuts complete.cuts in
    let payload = cut_fits len header.total_len source.Ipv4HeaderTotalLen inner len read.1 complete.cut
    (after_ipv4_fits (bytes ++ more) read fits holds) complete.cuts in
    let chain = lax_chain_more for_ipv4 header.protocol.0 prefix.cut.payload rest.0 prefix.chain complete.chain prefix.refused
    complete.refused (subst AreBytes rest.1 payload) prefix.is_chain
    (subst (λ (l : List ℕ). IsLaxChain for_ipv4 header.protocol.0 l complete.chain complete.refused) rest.1 complete.is_chain) in
    let here = ap (λ (n : LaxNet). n.layer) is.2.2
    ∙ ap (λ (l : LaxIp Ipv4Header). Some (ipv4_layer l.packet)) prefix.is in
    let found = ap (λ (n : LaxNet). n.layer) present.2.2
    ∙ ap (λ (l : LaxIp Ipv4Header). Some (ipv4_layer l.packet)) complete.is in
    subst (λ (n : Option NetLayer). MoreNets n other.layer) (sym here)
    (subst (λ (n : Option NetLayer). MoreNets (Some (ipv4 header prefix.chain.parts (record {
      number = prefix.chain.last;
      fragmented = is_ipv4_fragment header;
      source = prefix.cut.source;
      bytes = prefix.chain.rest;
    }))) n) (sym found) (
      refl,
      parts_of_chain prefix.chain complete.chain (is_ipv4_fragment header) (is_ipv4_fragment header) prefix.cut.source
          complete.cut.source chain,
    ))

pub ipv6_pair : (offset place : ℕ) (outer inner : Bool) (bytes more : List ℕ) (net other : LaxNet)
    → AreBytes (bytes ++ more) → IsIpv6Net offset outer bytes net → IsIpv6Net place inner (bytes ++ more) other
    → MoreNets net.layer other.layer
ipv6_pair offset place outer inner bytes more net other fits is present =
    let header = is.1.0.0 in
    let stated = 40 + header.payload_length in
    let holds = ipv6_holds bytes more is.1.0 is.1.1 in
    let read : Ipv6Header × List ℕ = (header, is.1.0.1 ++ more) in
    let equal : present.1.0 ≡ read =
    (decided ipv6_header_is_read (bytes ++ more) fits).one_value present.1.0 read present.1.1 holds in
    let prefix = is.1.2 in
    let complete = subst (λ (r : Ipv6Header × List ℕ). IsLaxIpv6After inner r present.0) equal present.1.2 in
    let rest = cut_more 41 stated source.Ipv6HeaderPayloadLen outer inner 40 is.1.0.1 more prefix.cut complete.cut
    prefix.cuts complete.cuts in
    let payload = cut_fits 41 stated source.Ipv6HeaderPayloadLen inner 40 read.1 complete.cut
    (after_ipv6_fits (bytes ++ more) read fits holds) complete.cuts in
    let chain = lax_chain_more for_ipv6 header.next_header.0 prefix.cut.payload rest.0 prefix.chain complete.chain
    prefix.refused complete.refused (subst AreBytes rest.1 payload) prefix.is_chain
    (subst (λ (l : List ℕ). IsLaxChain for_ipv6 header.next_header.0 l complete.chain complete.refused) rest.1 complete.is_chain) in
    let here = ap (λ (n : LaxNet). n.layer) is.2.2
    ∙ ap (λ (l : LaxIp Ipv6Header). Some (ipv6_layer l.packet)) prefix.is in
    let found = ap (λ (n : LaxNet). n.layer) present.2.2
    ∙ ap (λ (l : LaxIp Ipv6Header). Some (ipv6_layer l.packet)) complete.is in
    subst (λ (n : Option NetLayer). MoreNets n other.layer) (sym here)
    (subst (λ (n : Option NetLayer). MoreNets (Some (ipv6 header prefix.chain.parts (record {
      number = prefix.chain.last;
      fragmented = chain_fragments prefix.chain.parts;
      source = lax_ipv6_source header prefix.cut;
      bytes = prefix.chain.rest;
    }))) n) (sym found) (
      refl,
      parts_of_chain prefix.chain complete.chain (chain_fragments prefix.chain.parts)
          (chain_fragments complete.chain.parts) (lax_ipv6_source header prefix.cut) (lax_ipv6_source header complete.cut) chain,
    ))

-- Without a network layer in the first bytes, the whole packet may have any.
no_net_more : (net : LaxNet) (more : Option NetLayer) → net.layer ≡ None → MoreNets net.layer more
no_net_more net more none = subst (λ (n : Option NetLayer). MoreNets n more) (sym none) tt

pub net_pair : (offset place : ℕ) (outer inner : Bool) (kind : Option NetKind) (bytes more : List ℕ) (net other : LaxNet)
    → AreBytes (bytes ++ more) → IsLaxNet offset outer kind bytes net → IsLaxNet place inner kind (bytes ++ more) other
    → MoreNets net.layer other.layer
net_pair offset place outer inner None bytes more net other fits is present =
    no_net_more net other.layer (ap (λ (n : LaxNet). n.layer) is)
net_pair offset place outer inner (Some only_ipv4) bytes more net other fits (inl refused) present =
    no_net_more net other.layer (ap (λ (n : LaxNet). n.layer) refused.2)
net_pair offset place outer inner (Some only_ipv4) bytes more net other fits (inr is) (inl refused) =
    absurd ((decided ipv4_header_is_read (bytes ++ more) fits).not_both (is.1.0.0, is.1.0.1 ++ more) refused.1.0
    (ipv4_holds bytes more is.1.0 is.1.1) refused.1.1)
net_pair offset place outer inner (Some only_ipv4) bytes more net other fits (inr is) (inr present) =
    ipv4_pair offset place outer inner bytes more net other fits is present
net_pair offset place outer inner (Some only_ipv6) bytes more net other fits (inl refused) present =
    no_net_more net other.layer (ap (λ (n : LaxNet). n.layer) refused.2)
net_pair offset place outer inner (Some only_ipv6) bytes more net other fits (inr is) (inl refused) =
    absurd ((decided ipv6_header_is_read (bytes ++ more) fits).not_both (is.1.0.0, is.1.0.1 ++ more) refused.1.0
    (ipv6_holds bytes more is.1.0 is.1.1) refused.1.1)
net_pair offset place outer inner (Some only_ipv6) bytes more net other fits (inr is) (inr present) =
    ipv6_pair offset place outer inner bytes more net other fits is present
net_pair offset place outer inner (Some only_arp) bytes more net other fits (inl refused) present =
    no_net_more net other.layer (ap (λ (n : LaxNet). n.layer) refused.2)
net_pair offset place outer inner (Some only_arp) bytes more net other fits (inr (part, is, same)) (inl refused) =
    absurd ((layer_laws.arp (bytes ++ more) fits).not_both (part.0, part.1 ++ more) refused.1.0
    (arp_holds bytes more part is) refused.1.1)
net_pair offset place outer inner (Some only_arp) bytes more net other fits (inr (part, is, same))
    (inr (again, present, found)) =
    let equal : again ≡ (part.0, part.1 ++ more) =
    (layer_laws.arp (bytes ++ more) fits).one_value again (part.0, part.1 ++ more) present (arp_holds bytes more part is) in
    let packet : again.0 ≡ part.0 = λ i. (equal i).0 in
    subst (λ (n : LaxNet). MoreNets n.layer other.layer) (sym same)
    (subst (λ (n : LaxNet). MoreNets (Some (arp part.0)) n.layer) (sym found) packet)
net_pair offset place outer inner (Some any_ip) bytes more net other fits (inl is) (inl present) =
    ipv4_pair offset place outer inner bytes more net other fits is present
net_pair offset place outer inner (Some any_ip) bytes more net other fits (inr is) (inr present) =
    ipv6_pair offset place outer inner bytes more net other fits is present
net_pair offset place outer inner (Some any_ip) bytes more net other fits (inl is) (inr present) =
    let longer = ipv4_more offset place outer inner bytes more net fits is in
    let four = lax_ipv4_version slices inner (bytes ++ more) longer.is.0 longer.is.1 in
    let six = lax_ipv6_version slices inner (bytes ++ more) present.0 present.1 in
    absurd (omega (arith, four, six))
net_pair offset place outer inner (Some any_ip) bytes more net other fits (inr is) (inl present) =
    let longer = ipv6_more offset place outer inner bytes more net fits is in
    let six = lax_ipv6_version slices inner (bytes ++ more) longer.is.0 longer.is.1 in
    let four = lax_ipv4_version slices inner (bytes ++ more) present.0 present.1 in
    absurd (omega (arith, four, six))
