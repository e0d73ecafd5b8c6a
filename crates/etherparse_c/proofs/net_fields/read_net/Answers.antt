use Rattle.std.proofs.Common.{inl, inr}
use Rattle.etherparse_c.specs.FieldAnswers.{HasArp, HasIpv4, HasIpv6}
use Rattle.etherparse_c.proofs.FieldLemmas.{net_kind_1, net_kind_4, net_kind_6}
use Rattle.etherparse_c.proofs.FieldLemmas.{reads_as, reads_at, reads_first, reads_second}
use Rattle.etherparse_c.proofs.net_fields.read_net.Goals as goal

pub returns-then-net-eq-NET_ARP : goal.returns-then-net-eq-NET_ARP
returns-then-net-eq-NET_ARP c = reads_as
    (reads_second (reads_at (HasArp c.args.net.now.offset) c.args.bytes.now c.in-Some.header.now
    c.args.net.now.offset c.args.net.now.len c.in-Some.ensures.0 c.in-Some.ensures.1 c.read_arp.ensures)
    c.no_ip_fields-then-net-eq-NET_ARP.ensures)
    (λ other holds. inr (inl (c.if-net-eq-NET_ARP.true, holds)))
    (λ other at. net_kind_1 c.if-net-eq-NET_ARP.true at)

pub returns-then-net-eq-NET_IPV4 : goal.returns-then-net-eq-NET_IPV4
returns-then-net-eq-NET_IPV4 c = reads_as
    (reads_first (reads_at (HasIpv4 c.args.net.now.offset c.args.described.now) c.args.bytes.now c.in-Some.header.now
    c.args.net.now.offset c.args.net.now.len c.in-Some.ensures.0 c.in-Some.ensures.1 c.read_ipv4.ensures)
    c.no_arp_fields-then-net-eq-NET_IPV4.ensures)
    (λ other holds. inr (inr (inl (c.if-net-eq-NET_IPV4.true, holds))))
    (λ other at. net_kind_4 c.if-net-eq-NET_IPV4.true at)

pub returns-then-net-eq-NET_IPV6 : goal.returns-then-net-eq-NET_IPV6
returns-then-net-eq-NET_IPV6 c = reads_as
    (reads_first (reads_at (HasIpv6 c.args.described.now) c.args.bytes.now c.in-Some.header.now
    c.args.net.now.offset c.args.net.now.len c.in-Some.ensures.0 c.in-Some.ensures.1 c.read_ipv6.ensures)
    c.no_arp_fields-then-net-eq-NET_IPV6.ensures)
    (λ other holds. inr (inr (inr (c.if-net-eq-NET_IPV6.true, holds))))
    (λ other at. net_kind_6 c.if-net-eq-NET_IPV6.true at)
