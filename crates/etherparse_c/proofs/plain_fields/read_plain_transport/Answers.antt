use Rattle.std.proofs.Common.{inl, inr}
use Rattle.etherparse_c.specs.FieldAnswers.{HasTcp, HasUdp}
use Rattle.etherparse_c.proofs.FieldLemmas.{reads_as, reads_at, reads_true, transport_kind_6, transport_kind_17}
use Rattle.etherparse_c.proofs.plain_fields.read_plain_transport.Goals as goal

pub returns-then-part-eq-TRANSPORT_TCP : goal.returns-then-part-eq-TRANSPORT_TCP
returns-then-part-eq-TRANSPORT_TCP c =
    let part = c.args.packet.now.transport in
    λ is_read. reads_true is_read (reads_as
    (reads_at (HasTcp part.offset) c.args.bytes.now c.in-Some.header.now part.offset part.len
    c.in-Some.ensures.0 c.in-Some.ensures.1 c.read_tcp.ensures)
    (λ other holds. inr (inr (inl (c.if-part-eq-TRANSPORT_TCP.true, holds))))
    (λ other at. transport_kind_6 c.if-part-eq-TRANSPORT_TCP.true at))

pub returns-then-part-eq-TRANSPORT_UDP : goal.returns-then-part-eq-TRANSPORT_UDP
returns-then-part-eq-TRANSPORT_UDP c =
    let part = c.args.packet.now.transport in
    λ is_read. reads_true is_read (reads_as
    (reads_at HasUdp c.args.bytes.now c.in-Some.header.now part.offset part.len
    c.in-Some.ensures.0 c.in-Some.ensures.1 c.read_udp.ensures)
    (λ other holds. inr (inr (inr (inl (c.if-part-eq-TRANSPORT_UDP.true, holds)))))
    (λ other at. transport_kind_17 c.if-part-eq-TRANSPORT_UDP.true at))
