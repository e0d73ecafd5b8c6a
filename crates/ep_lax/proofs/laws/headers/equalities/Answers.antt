use Rattle.std.proofs.Common.{◌≡◌, refl, ap}
use Rattle.std.specs.Cmp.{booleans_Decides}
use Rattle.std.proofs.lemmas.Bool.Decides.{Decides-eqb, Decides-and, Decides-like}
use Rattle.std.proofs.lemmas.Slice.Eq.{slice_eq-Decides}
use Rattle.ep_base.specs.IpPayload.{lax_ip_payload_of}
use Rattle.ep_base.proofs.ComparisonLemmas.{apart}
use Rattle.ep_lax.specs.LaxPayloadParts.{ether, icmpv4, icmpv6, ip, linux_sll, macsec_modified, tcp, udp}
use Rattle.ep_lax.specs.LaxPayloads.{LaxEtherPayload, lax_ether_payload_of}
use Rattle.ep_lax.specs.declared.lax_payload_slice.LaxPayloadSlice.TheVariants as slice
use Rattle.ep_lax.proofs.laws.headers.equalities.Goals as goal

pub returns-clause-payloads : goal.returns-clause-payloads
returns-clause-payloads c slice.Empty slice.Empty = (λ equal. refl, λ same. refl)
returns-clause-payloads c (slice.Ether a) (slice.Ether b) =
    Decides-like _
    (λ all i. ether
    (record { ether_type = all.1 i; len_source = all.2 i; bytes = all.3 i; incomplete = all.0 i }))
    (λ same. let parts : lax_ether_payload_of a ≡ lax_ether_payload_of b = cc same in (
      ap (λ (p : LaxEtherPayload). p.incomplete) parts,
      ap (λ (p : LaxEtherPayload). p.ether_type) parts,
      ap (λ (p : LaxEtherPayload). p.len_source) parts,
      ap (λ (p : LaxEtherPayload). p.bytes) parts,
    )) (c.equalities.ensures.ether_payloads a b)
returns-clause-payloads c (slice.MacsecModified a missing) (slice.MacsecModified b missed) =
    Decides-like _ (λ all i. macsec_modified (all.0 i) (all.1 i)) (λ same. (cc same, cc same))
    (Decides-and _ _ (slice_eq-Decides Decides-eqb a.now b.now _ refl) (booleans_Decides missing missed))
returns-clause-payloads c (slice.LinuxSll a) (slice.LinuxSll b) =
    Decides-like _ (λ all i. linux_sll (all.0 i) (all.1 i)) (λ same. (cc same, cc same))
    (c.equalities-2.ensures.linux_sll_payload a b)
returns-clause-payloads c (slice.Ip a) (slice.Ip b) =
    Decides-like _
    (λ all i. ip (record { number = (all.1 i).0; fragmented = all.2 i; source = all.3 i; bytes = all.4 i }) (all.0 i))
    (λ same.
    let parts : lax_ip_payload_of a ≡ lax_ip_payload_of b = cc same in
    let missing : a.incomplete ≡ b.incomplete = cc same in (
      missing,
      λ i. record { 0 = (parts i).number },
      λ i. (parts i).fragmented,
      λ i. (parts i).source,
      λ i. (parts i).bytes,
    )) (c.equalities.ensures.ip_payloads a b)
returns-clause-payloads c (slice.Udp a missing) (slice.Udp b missed) =
    Decides-like _ (λ all i. udp (all.0 i) (all.1 i)) (λ same. (cc same, cc same))
    (Decides-and _ _ (slice_eq-Decides Decides-eqb a.now b.now _ refl) (booleans_Decides missing missed))
returns-clause-payloads c (slice.Tcp a missing) (slice.Tcp b missed) =
    Decides-like _ (λ all i. tcp (all.0 i) (all.1 i)) (λ same. (cc same, cc same))
    (Decides-and _ _ (slice_eq-Decides Decides-eqb a.now b.now _ refl) (booleans_Decides missing missed))
returns-clause-payloads c (slice.Icmpv4 a missing) (slice.Icmpv4 b missed) =
    Decides-like _ (λ all i. icmpv4 (all.0 i) (all.1 i)) (λ same. (cc same, cc same))
    (Decides-and _ _ (slice_eq-Decides Decides-eqb a.now b.now _ refl) (booleans_Decides missing missed))
returns-clause-payloads c (slice.Icmpv6 a missing) (slice.Icmpv6 b missed) =
    Decides-like _ (λ all i. icmpv6 (all.0 i) (all.1 i)) (λ same. (cc same, cc same))
    (Decides-and _ _ (slice_eq-Decides Decides-eqb a.now b.now _ refl) (booleans_Decides missing missed))
returns-clause-payloads c a b = apart (λ same. cc same)
