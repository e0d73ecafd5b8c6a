use Rattle.std.proofs.Common.{refl, ap, rules}
use Rattle.std.proofs.lemmas.Bool.{false≢true}
use Rattle.std.proofs.lemmas.Bool.Decides.{Decides-and, Decides-eqb, Decides-like}
use Rattle.std.proofs.lemmas.Slice.Eq.{slice_eq-Decides}
use Rattle.ep_base.proofs.ComparisonLemmas.{five, five_same, made_same, two, two_same}
use Rattle.ep_transport.specs.declared.icmpv4.timestamp_message.TimestampMessage.{TimestampMessage}
use Rattle.ep_transport.specs.declared.icmpv4_header.Icmpv4Header.{Icmpv4Header}
use Rattle.ep_transport.specs.declared.icmpv4_type.Icmpv4Type.TheVariants as v4
use Rattle.ep_transport.specs.declared.icmpv6_header.Icmpv6Header.{Icmpv6Header}
use Rattle.ep_transport.specs.declared.icmpv6_type.Icmpv6Type.TheVariants as v6
use Rattle.ep_transport.specs.declared.icmp_echo_header.IcmpEchoHeader.{IcmpEchoHeader}
use Rattle.ep_transport.proofs.laws.icmp.comparisons.Goals as goal

pub returns-clause-echoes : goal.returns-clause-echoes
returns-clause-echoes c a b =
    made_same (λ (e : IcmpEchoHeader). two e.id e.seq) (λ p. record { id = p.0; seq = p.1 }) (λ e. refl) a b
    (two_same (Decides-eqb a.id b.id) (Decides-eqb a.seq b.seq))

pub returns-clause-timestamps : goal.returns-clause-timestamps
returns-clause-timestamps c a b =
    made_same
    (λ (t : TimestampMessage). five t.id t.seq t.originate_timestamp t.receive_timestamp t.transmit_timestamp)
    (λ p. record {
      id = p.0;
      seq = p.1;
      originate_timestamp = p.2;
      receive_timestamp = p.3;
      transmit_timestamp = p.4;
    }) (λ t. refl) a b
    (five_same (Decides-eqb a.id b.id) (Decides-eqb a.seq b.seq)
    (Decides-eqb a.originate_timestamp b.originate_timestamp) (Decides-eqb a.receive_timestamp b.receive_timestamp)
    (Decides-eqb a.transmit_timestamp b.transmit_timestamp))

pub returns-clause-icmpv4_exceeded : goal.returns-clause-icmpv4_exceeded
returns-clause-icmpv4_exceeded c = search rules

pub returns-clause-icmpv4_types : goal.returns-clause-icmpv4_types
returns-clause-icmpv4_types c (v4.Unknown type code bytes) (v4.Unknown type' code' bytes') =
    Decides-like _ (λ all i. v4.Unknown (all.0 i) (all.1.0 i) (all.1.1 i)) (λ same. (cc same, (cc same, cc same)))
    (Decides-and _ _ (Decides-eqb type type')
    (Decides-and _ _ (Decides-eqb code code') (slice_eq-Decides Decides-eqb bytes bytes' _ refl)))
returns-clause-icmpv4_types c (v4.EchoReply a) (v4.EchoReply b) =
    Decides-like _ (ap v4.EchoReply) (λ same. cc same) (returns-clause-echoes c a b)
returns-clause-icmpv4_types c (v4.DestinationUnreachable code mtu) (v4.DestinationUnreachable code' mtu') =
    Decides-like _ (λ both i. v4.DestinationUnreachable (both.0 i) (both.1 i)) (λ same. (cc same, cc same))
    (Decides-and _ _ (Decides-eqb code code') (Decides-eqb mtu mtu'))
returns-clause-icmpv4_types c (v4.Redirect code gateway) (v4.Redirect code' gateway') =
    Decides-like _ (λ both i. v4.Redirect (both.0 i) (both.1 i)) (λ same. (cc same, cc same))
    (Decides-and _ _ (Decides-eqb code code') (slice_eq-Decides Decides-eqb gateway gateway' _ refl))
returns-clause-icmpv4_types c (v4.EchoRequest a) (v4.EchoRequest b) =
    Decides-like _ (ap v4.EchoRequest) (λ same. cc same) (returns-clause-echoes c a b)
returns-clause-icmpv4_types c (v4.TimeExceeded a) (v4.TimeExceeded b) =
    Decides-like _ (ap v4.TimeExceeded) (λ same. cc same) (returns-clause-icmpv4_exceeded c a b)
returns-clause-icmpv4_types c (v4.ParameterProblem code pointer) (v4.ParameterProblem code' pointer') =
    Decides-like _ (λ both i. v4.ParameterProblem (both.0 i) (both.1 i)) (λ same. (cc same, cc same))
    (Decides-and _ _ (Decides-eqb code code') (Decides-eqb pointer pointer'))
returns-clause-icmpv4_types c (v4.TimestampRequest a) (v4.TimestampRequest b) =
    Decides-like _ (ap v4.TimestampRequest) (λ same. cc same) (returns-clause-timestamps c a b)
returns-clause-icmpv4_types c (v4.TimestampReply a) (v4.TimestampReply b) =
    Decides-like _ (ap v4.TimestampReply) (λ same. cc same) (returns-clause-timestamps c a b)
returns-clause-icmpv4_types c a b = (λ equal. absurd (false≢true equal), λ same. absurd (cc same))

pub returns-clause-icmpv4 : goal.returns-clause-icmpv4
returns-clause-icmpv4 c a b =
    made_same (λ (h : Icmpv4Header). two h.icmp_type h.checksum) (λ p. record { icmp_type = p.0; checksum = p.1 })
    (λ h. refl) a b
    (two_same (returns-clause-icmpv4_types c a.icmp_type b.icmp_type) (Decides-eqb a.checksum b.checksum))

pub returns-clause-icmpv6_exceeded : goal.returns-clause-icmpv6_exceeded
returns-clause-icmpv6_exceeded c = search rules

pub returns-clause-icmpv6_types : goal.returns-clause-icmpv6_types
returns-clause-icmpv6_types c (v6.Unknown type code bytes) (v6.Unknown type' code' bytes') =
    Decides-like _ (λ all i. v6.Unknown (all.0 i) (all.1.0 i) (all.1.1 i)) (λ same. (cc same, (cc same, cc same)))
    (Decides-and _ _ (Decides-eqb type type')
    (Decides-and _ _ (Decides-eqb code code') (slice_eq-Decides Decides-eqb bytes bytes' _ refl)))
returns-clause-icmpv6_types c (v6.DestinationUnreachable code) (v6.DestinationUnreachable code') =
    Decides-like _ (ap v6.DestinationUnreachable) (λ same. cc same) (Decides-eqb code code')
returns-clause-icmpv6_types c (v6.PacketTooBig mtu) (v6.PacketTooBig mtu') =
    Decides-like _ (ap v6.PacketTooBig) (λ same. cc same) (Decides-eqb mtu mtu')
returns-clause-icmpv6_types c (v6.TimeExceeded a) (v6.TimeExceeded b) =
    Decides-like _ (ap v6.TimeExceeded) (λ same. cc same) (returns-clause-icmpv6_exceeded c a b)
returns-clause-icmpv6_types c (v6.ParameterProblem code pointer) (v6.ParameterProblem code' pointer') =
    Decides-like _ (λ both i. v6.ParameterProblem (both.0 i) (both.1 i)) (λ same. (cc same, cc same))
    (Decides-and _ _ (Decides-eqb code code') (Decides-eqb pointer pointer'))
returns-clause-icmpv6_types c (v6.EchoRequest a) (v6.EchoRequest b) =
    Decides-like _ (ap v6.EchoRequest) (λ same. cc same) (returns-clause-echoes c a b)
returns-clause-icmpv6_types c (v6.EchoReply a) (v6.EchoReply b) =
    Decides-like _ (ap v6.EchoReply) (λ same. cc same) (returns-clause-echoes c a b)
returns-clause-icmpv6_types c a b = (λ equal. absurd (false≢true equal), λ same. absurd (cc same))

pub returns-clause-icmpv6 : goal.returns-clause-icmpv6
returns-clause-icmpv6 c a b =
    made_same (λ (h : Icmpv6Header). two h.icmp_type h.checksum) (λ p. record { icmp_type = p.0; checksum = p.1 })
    (λ h. refl) a b
    (two_same (returns-clause-icmpv6_types c a.icmp_type b.icmp_type) (Decides-eqb a.checksum b.checksum))
