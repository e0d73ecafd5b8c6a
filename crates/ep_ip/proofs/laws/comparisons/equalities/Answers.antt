use Rattle.std.proofs.Common.{◌≡◌, Bool, refl}
use Rattle.std.specs.Bool.{Decides}
use Rattle.std.specs.Cmp.{booleans_Decides}
use Rattle.std.proofs.lemmas.Bool.Decides.{Decides-eqb, Decides-and, Decides-like}
use Rattle.std.proofs.lemmas.Slice.Eq.{slice_eq-Decides}
use Rattle.ep_base.specs.IpPayload.{ip_payload_of}
use Rattle.ep_base.specs.declared.ip_payload_slice.IpPayloadSlice.{IpPayloadSlice}
use Rattle.ep_base.proofs.ComparisonLemmas.{apart, five, five_same, made_same, stored_same}
use Rattle.ep_ip.specs.declared.ip_slice.IpSlice.TheVariants as slice
use Rattle.ep_ip.specs.declared.ipv4_header.Ipv4Header.{Ipv4Header}
use Rattle.ep_ip.proofs.laws.comparisons.equalities.Goals as goal

pub returns-clause-ipv4_options : goal.returns-clause-ipv4_options
returns-clause-ipv4_options c a b = stored_same 40 (λ n. n) a b (λ same. same)

pub returns-clause-ipv4_header : goal.returns-clause-ipv4_header
returns-clause-ipv4_header c a b =
    made_same
    (λ (h : Ipv4Header). five h.dscp h.ecn h.total_len h.identification
    (five h.dont_fragment h.more_fragments h.fragment_offset h.time_to_live
    (five h.protocol.0 h.header_checksum h.source h.destination h.options)))
    (λ p. record {
      dscp = p.0;
      ecn = p.1;
      total_len = p.2;
      identification = p.3;
      dont_fragment = p.4.0;
      more_fragments = p.4.1;
      fragment_offset = p.4.2;
      time_to_live = p.4.3;
      protocol = record { 0 = p.4.4.0 };
      header_checksum = p.4.4.1;
      source = p.4.4.2;
      destination = p.4.4.3;
      options = p.4.4.4;
    }) (λ h. refl) a b
    (five_same (Decides-eqb a.dscp b.dscp) (Decides-eqb a.ecn b.ecn) (Decides-eqb a.total_len b.total_len)
    (Decides-eqb a.identification b.identification)
    (five_same (booleans_Decides a.dont_fragment b.dont_fragment) (booleans_Decides a.more_fragments b.more_fragments)
    (Decides-eqb a.fragment_offset b.fragment_offset) (Decides-eqb a.time_to_live b.time_to_live)
    (five_same (Decides-eqb a.protocol.0 b.protocol.0) (Decides-eqb a.header_checksum b.header_checksum)
    (slice_eq-Decides Decides-eqb a.source b.source _ refl)
    (slice_eq-Decides Decides-eqb a.destination b.destination _ refl)
    (returns-clause-ipv4_options c a.options b.options))))

-- Comparing the payloads of two slices decides whether they are equal.
same_payload : {r : Bool} (a b : IpPayloadSlice)
    → Decides r ((a.ip_number ≡ b.ip_number) × (a.fragmented ≡ b.fragmented) × (a.len_source ≡ b.len_source)
    × (a.payload.now ≡ b.payload.now))
    → Decides r (ip_payload_of a ≡ ip_payload_of b)
same_payload a b =
    Decides-like _ (λ all i. record { number = (all.0 i).0; fragmented = all.1 i; source = all.2 i; bytes = all.3 i })
    (λ same. (
      λ i. record { 0 = (same i).number },
      λ i. (same i).fragmented,
      λ i. (same i).source,
      λ i. (same i).bytes,
    ))

pub returns-clause-ipv4_slice : goal.returns-clause-ipv4_slice
returns-clause-ipv4_slice c a b =
    Decides-like _ (λ all. record { header = all.0; extensions = all.1.0; payload = all.1.1 })
    (λ same. (same.header, (same.extensions, same.payload)))
    (Decides-and _ _ (slice_eq-Decides Decides-eqb a.header.bytes.slice.now b.header.bytes.slice.now _ refl)
    (Decides-and _ _ (c.comparisons.ensures.ipv4_slices a.extensions b.extensions)
    (same_payload a.payload b.payload (c.equalities.ensures.ip_payloads a.payload b.payload))))

pub returns-clause-ipv6_slice : goal.returns-clause-ipv6_slice
returns-clause-ipv6_slice c a b =
    Decides-like _
    (λ all. record { header = all.0; first = all.1.0.0; extensions = all.1.0.1; payload = all.1.1 })
    (λ same. (same.header, ((same.first, same.extensions), same.payload)))
    (Decides-and _ _ (slice_eq-Decides Decides-eqb a.header.bytes.slice.now b.header.bytes.slice.now _ refl)
    (Decides-and _ _ (c.comparisons.ensures.ipv6_slices a.extensions b.extensions)
    (same_payload a.payload b.payload (c.equalities.ensures.ip_payloads a.payload b.payload))))

pub returns-clause-ip_slice : goal.returns-clause-ip_slice
returns-clause-ip_slice c (slice.Ipv4 a) (slice.Ipv4 b) = returns-clause-ipv4_slice c a b
returns-clause-ip_slice c (slice.Ipv4 a) (slice.Ipv6 b) = apart (λ same. same)
returns-clause-ip_slice c (slice.Ipv6 a) (slice.Ipv4 b) = apart (λ same. same)
returns-clause-ip_slice c (slice.Ipv6 a) (slice.Ipv6 b) = returns-clause-ipv6_slice c a b
