use Rattle.std.proofs.Common.{inl, inr}
use Rattle.etherparse_c.specs.FieldAnswers.{HasIcmpv4, HasIcmpv6, HasTcp, HasUdp}
use Rattle.etherparse_c.proofs.FieldLemmas.{transport_kind_0, transport_kind_1, transport_kind_6, transport_kind_17}
use Rattle.etherparse_c.proofs.FieldLemmas.{transport_kind_58, reads_as, reads_at}
use Rattle.etherparse_c.proofs.transport_fields.read_transport.Goals as goal

pub returns-in-1 : goal.returns-in-1
returns-in-1 c =
    let part = c.args.packet.now.transport in
    reads_as
    (reads_at HasIcmpv4 c.args.bytes.now c.in-Some.header.now part.offset part.len
    c.in-Some.ensures.0 c.in-Some.ensures.1 c.read_icmpv4.ensures)
    (λ other holds. inr (inl (c.in-1.is, holds)))
    (λ other at. transport_kind_1 c.in-1.is at)

pub returns-then-part-eq-TRANSPORT_TCP : goal.returns-then-part-eq-TRANSPORT_TCP
returns-then-part-eq-TRANSPORT_TCP c =
    let part = c.args.packet.now.transport in
    reads_as
    (reads_at (HasTcp part.offset) c.args.bytes.now c.in-Some.header.now part.offset part.len
    c.in-Some.ensures.0 c.in-Some.ensures.1 c.read_tcp.ensures)
    (λ other holds. inr (inr (inl (c.if-part-eq-TRANSPORT_TCP.true, holds))))
    (λ other at. transport_kind_6 c.if-part-eq-TRANSPORT_TCP.true at)

pub returns-then-part-eq-TRANSPORT_UDP : goal.returns-then-part-eq-TRANSPORT_UDP
returns-then-part-eq-TRANSPORT_UDP c =
    let part = c.args.packet.now.transport in
    reads_as
    (reads_at HasUdp c.args.bytes.now c.in-Some.header.now part.offset part.len
    c.in-Some.ensures.0 c.in-Some.ensures.1 c.read_udp.ensures)
    (λ other holds. inr (inr (inr (inl (c.if-part-eq-TRANSPORT_UDP.true, holds)))))
    (λ other at. transport_kind_17 c.if-part-eq-TRANSPORT_UDP.true at)

pub returns-in-58 : goal.returns-in-58
returns-in-58 c =
    let part = c.args.packet.now.transport in
    reads_as
    (reads_at HasIcmpv6 c.args.bytes.now c.in-Some.header.now part.offset part.len
    c.in-Some.ensures.0 c.in-Some.ensures.1 c.read_icmpv6.ensures)
    (λ other holds. inr (inr (inr (inr (c.in-58.is, holds)))))
    (λ other at. transport_kind_58 c.in-58.is at)

pub returns-then-part-eq0 : goal.returns-then-part-eq0
returns-then-part-eq0 c = reads_as c.read_ports.ensures (λ other holds. inl (c.if-part-eq0.true, holds))
    (λ other at. transport_kind_0 c.if-part-eq0.true at)
