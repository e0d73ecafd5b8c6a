use Rattle.std.proofs.Common.{◌≡◌, refl, ap}
use Rattle.std.proofs.lemmas.Bool.{false≢true}
use Rattle.std.proofs.lemmas.Bool.Decides.{Decides-eqb, Decides-like}
use Rattle.std.proofs.lemmas.Slice.Eq.{slice_eq-Decides}
use Rattle.ep_link.specs.EtherPayloads.{EtherPayload, ether_payload_of}
use Rattle.ep_base.specs.IpPayload.{IpPayload, ip_payload_of}
use Rattle.ep_packet.specs.PayloadParts.{ether, macsec_modified, ip, udp, tcp, icmpv4, icmpv6}
use Rattle.ep_packet.specs.declared.payload_slice.PayloadSlice.TheVariants as slice
use Rattle.ep_packet.proofs.laws.comparisons.Goals as goal

pub returns-clause-payloads : goal.returns-clause-payloads
returns-clause-payloads c slice.Empty slice.Empty = (λ equal. refl, λ same. refl)
returns-clause-payloads c (slice.Ether a) (slice.Ether b) =
    Decides-like _
    (λ all i. ether (record { ether_type = all.0 i; len_source = all.1 i; bytes = all.2 i }))
    (λ same. let parts : ether_payload_of a ≡ ether_payload_of b = cc same in (
      ap (λ (p : EtherPayload). p.ether_type) parts,
      ap (λ (p : EtherPayload). p.len_source) parts,
      ap (λ (p : EtherPayload). p.bytes) parts,
    )) (c.equalities.ensures.ether_payloads a b)
returns-clause-payloads c (slice.MacsecMod a) (slice.MacsecMod b) =
    Decides-like _ (ap macsec_modified) (λ same. cc same) (slice_eq-Decides Decides-eqb a.now b.now _ refl)
returns-clause-payloads c (slice.Ip a) (slice.Ip b) =
    Decides-like _
    (λ all i. ip (record { number = (all.0 i).0; fragmented = all.1 i; source = all.2 i; bytes = all.3 i }))
    (λ same. let parts : ip_payload_of a ≡ ip_payload_of b = cc same in (
      λ i. record { 0 = (parts i).number },
      ap (λ (p : IpPayload). p.fragmented) parts,
      ap (λ (p : IpPayload). p.source) parts,
      ap (λ (p : IpPayload). p.bytes) parts,
    )) (c.equalities.ensures.ip_payloads a b)
returns-clause-payloads c (slice.Udp a) (slice.Udp b) =
    Decides-like _ (ap udp) (λ same. cc same) (slice_eq-Decides Decides-eqb a.now b.now _ refl)
returns-clause-payloads c (slice.Tcp a) (slice.Tcp b) =
    Decides-like _ (ap tcp) (λ same. cc same) (slice_eq-Decides Decides-eqb a.now b.now _ refl)
returns-clause-payloads c (slice.Icmpv4 a) (slice.Icmpv4 b) =
    Decides-like _ (ap icmpv4) (λ same. cc same) (slice_eq-Decides Decides-eqb a.now b.now _ refl)
returns-clause-payloads c (slice.Icmpv6 a) (slice.Icmpv6 b) =
    Decides-like _ (ap icmpv6) (λ same. cc same) (slice_eq-Decides Decides-eqb a.now b.now _ refl)
returns-clause-payloads c a b = (λ equal. absurd (false≢true equal), λ same. absurd (cc same))
