use Rattle.std.proofs.Common.{◌≡◌, Bool, refl}
use Rattle.std.specs.Bool.{Decides}
use Rattle.std.specs.Cmp.{booleans_Decides}
use Rattle.std.proofs.lemmas.Bool.Decides.{Decides-eqb, Decides-and, Decides-like}
use Rattle.std.proofs.lemmas.Slice.Eq.{slice_eq-Decides}
use Rattle.ep_base.proofs.ComparisonLemmas.{apart}
use Rattle.ep_link.specs.Macsec.{unmodified, modified}
use Rattle.ep_base.specs.declared.lax_ip_payload_slice.LaxIpPayloadSlice.{LaxIpPayloadSlice}
use Rattle.ep_lax.specs.declared.lax_link_ext_slice.LaxLinkExtSlice.TheVariants as extension
use Rattle.ep_lax.specs.declared.lax_macsec_payload_slice.LaxMacsecPayloadSlice.TheVariants as slice
use Rattle.ep_lax.specs.declared.lax_net_slice.LaxNetSlice.TheVariants as net
use Rattle.ep_base.specs.IpPayload.{lax_ip_payload_of}
use Rattle.ep_lax.proofs.laws.comparisons.equalities.Goals as goal

pub returns-clause-ether_payloads : goal.returns-clause-ether_payloads
returns-clause-ether_payloads c a b =
    Decides-like _ (λ all. (all.0, all.1.0, all.1.1.0, all.1.1.1)) (λ same. (same.0, (same.1, (same.2, same.3))))
    (Decides-and _ _ (booleans_Decides a.incomplete b.incomplete)
    (Decides-and _ _ (c.equalities.ensures.ether_types a.ether_type b.ether_type)
    (Decides-and _ _ (c.equalities.ensures.len_sources a.len_source b.len_source)
    (slice_eq-Decides Decides-eqb a.payload.now b.payload.now _ refl))))

pub returns-clause-ip_payloads : goal.returns-clause-ip_payloads
returns-clause-ip_payloads c a b =
    Decides-like _ (λ all. (all.0, all.1.0, all.1.1.0, all.1.1.1.0, all.1.1.1.1))
    (λ same. (same.0, (same.1, (same.2, (same.3, same.4)))))
    (Decides-and _ _ (booleans_Decides a.incomplete b.incomplete)
    (Decides-and _ _ (c.equalities.ensures.ip_numbers a.ip_number b.ip_number)
    (Decides-and _ _ (booleans_Decides a.fragmented b.fragmented)
    (Decides-and _ _ (c.equalities.ensures.len_sources a.len_source b.len_source)
    (slice_eq-Decides Decides-eqb a.payload.now b.payload.now _ refl)))))

-- Payloads that slices contain, with bytes missing or not.
same_payload : {r : Bool} (a b : LaxIpPayloadSlice)
    → Decides r ((a.incomplete ≡ b.incomplete) × (a.ip_number ≡ b.ip_number) × (a.fragmented ≡ b.fragmented)
    × (a.len_source ≡ b.len_source) × (a.payload.now ≡ b.payload.now))
    → Decides r ((a.incomplete ≡ b.incomplete) × (lax_ip_payload_of a ≡ lax_ip_payload_of b))
same_payload a b =
    Decides-like _
    (λ all. (
      all.0,
      λ i. record { number = (all.1 i).0; fragmented = all.2 i; source = all.3 i; bytes = all.4 i },
    ))
    (λ same. (
      same.0,
      λ i. record { 0 = (same.1 i).number },
      λ i. (same.1 i).fragmented,
      λ i. (same.1 i).source,
      λ i. (same.1 i).bytes,
    ))

pub returns-clause-ipv4 : goal.returns-clause-ipv4
returns-clause-ipv4 c a b =
    Decides-like _
    (λ all. record { header = all.0; extensions = all.1.0; incomplete = all.1.1.0; payload = all.1.1.1 })
    (λ same. (same.header, (same.extensions, (same.incomplete, same.payload))))
    (Decides-and _ _ (slice_eq-Decides Decides-eqb a.header.bytes.slice.now b.header.bytes.slice.now _ refl)
    (Decides-and _ _ (c.comparisons.ensures.ipv4_slices a.extensions b.extensions)
    (same_payload a.payload b.payload (returns-clause-ip_payloads c a.payload b.payload))))

pub returns-clause-ipv6 : goal.returns-clause-ipv6
returns-clause-ipv6 c a b =
    Decides-like _
    (λ all. record {
      header = all.0;
      first = all.1.0.0;
      extensions = all.1.0.1;
      incomplete = all.1.1.0;
      payload = all.1.1.1;
    })
    (λ same. (same.header, ((same.first, same.extensions), (same.incomplete, same.payload))))
    (Decides-and _ _ (slice_eq-Decides Decides-eqb a.header.bytes.slice.now b.header.bytes.slice.now _ refl)
    (Decides-and _ _ (c.comparisons.ensures.ipv6_slices a.extensions b.extensions)
    (same_payload a.payload b.payload (returns-clause-ip_payloads c a.payload b.payload))))

pub returns-clause-macsec_payloads : goal.returns-clause-macsec_payloads
returns-clause-macsec_payloads c (slice.Unmodified a) (slice.Unmodified b) =
    Decides-like _
    (λ all. (all.0, λ i. unmodified (all.1 i) (all.2 i) (all.3 i)))
    (λ same. (same.0, cc same.1, cc same.1, cc same.1))
    (returns-clause-ether_payloads c a b)
returns-clause-macsec_payloads c (slice.Modified missing a) (slice.Modified missed b) =
    Decides-like _ (λ all. (all.0, λ i. modified (all.1 i))) (λ same. (same.0, cc same.1))
    (Decides-and _ _ (booleans_Decides missing missed) (slice_eq-Decides Decides-eqb a.now b.now _ refl))
returns-clause-macsec_payloads c (slice.Unmodified a) (slice.Modified missed b) = apart (λ same. cc same.1)
returns-clause-macsec_payloads c (slice.Modified missing a) (slice.Unmodified b) = apart (λ same. cc same.1)

pub returns-clause-macsec : goal.returns-clause-macsec
returns-clause-macsec c a b =
    Decides-and _ _ (slice_eq-Decides Decides-eqb a.header.tag.slice.now b.header.tag.slice.now _ refl)
    (returns-clause-macsec_payloads c a.payload b.payload)

pub returns-clause-link_exts : goal.returns-clause-link_exts
returns-clause-link_exts c (extension.Vlan a) (extension.Vlan b) =
    slice_eq-Decides Decides-eqb a.bytes.slice.now b.bytes.slice.now _ refl
returns-clause-link_exts c (extension.Macsec a) (extension.Macsec b) = returns-clause-macsec c a b
returns-clause-link_exts c (extension.Vlan a) (extension.Macsec b) = apart (λ same. same)
returns-clause-link_exts c (extension.Macsec a) (extension.Vlan b) = apart (λ same. same)

pub returns-clause-net : goal.returns-clause-net
returns-clause-net c (net.Ipv4 a) (net.Ipv4 b) = returns-clause-ipv4 c a b
returns-clause-net c (net.Ipv6 a) (net.Ipv6 b) = returns-clause-ipv6 c a b
returns-clause-net c (net.Arp a) (net.Arp b) =
    slice_eq-Decides Decides-eqb a.bytes.slice.now b.bytes.slice.now _ refl
returns-clause-net c a b = apart (λ same. same)
