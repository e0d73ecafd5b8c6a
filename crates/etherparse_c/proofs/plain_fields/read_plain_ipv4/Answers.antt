use Rattle.std.proofs.Common.{inl, inr}
use Rattle.etherparse_c.specs.FieldAnswers.{HasIpv4}
use Rattle.etherparse_c.proofs.FieldLemmas.{net_kind_4, reads_as, reads_at, reads_first, reads_true}
use Rattle.etherparse_c.proofs.plain_fields.read_plain_ipv4.Goals as goal

pub returns-then-net-eq-NET_IPV4 : goal.returns-then-net-eq-NET_IPV4
returns-then-net-eq-NET_IPV4 c = λ is_read. reads_true is_read (reads_as
    (reads_first (reads_at (HasIpv4 c.args.net.now.offset c.args.described.now) c.args.bytes.now c.in-Some.header.now
    c.args.net.now.offset c.args.net.now.len c.in-Some.ensures.0 c.in-Some.ensures.1 c.read_ipv4.ensures)
    c.no_arp_fields.ensures)
    (λ other holds. inr (inr (inl (c.if-net-eq-NET_IPV4.true, holds))))
    (λ other at. net_kind_4 c.if-net-eq-NET_IPV4.true at))
