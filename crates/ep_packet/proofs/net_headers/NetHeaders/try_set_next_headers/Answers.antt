use Rattle.std.proofs.Common.{refl, ap}
use Rattle.ep_packet.specs.declared.ip_headers.IpHeaders.TheVariants as ip
use Rattle.ep_packet.specs.declared.net_headers.NetHeaders.TheVariants as net
use Rattle.ep_packet.specs.NetHeaders.{ip_in}
use Rattle.ep_packet.proofs.net_headers.NetHeaders.try_set_next_headers.Goals as goal

pub returns-in-Ipv4 : goal.returns-in-Ipv4
returns-in-Ipv4 c =
    let header = c.in-Ipv4.header in
    let linked = c.set_next_headers-header.ensures in (
      ip.Ipv4 header c.in-Ipv4.extensions,
      ap ip_in c.in-Ipv4.is,
      (λ i. net.Ipv4 (record header { protocol = linked.first i }) (linked.linked i)),
      refl,
    )

pub returns-in-Ipv6 : goal.returns-in-Ipv6
returns-in-Ipv6 c =
    let header = c.in-Ipv6.header in
    let linked = c.set_next_headers-header-in-Ipv6.ensures in (
      ip.Ipv6 header c.in-Ipv6.extensions,
      ap ip_in c.in-Ipv6.is,
      (λ i. net.Ipv6 (record header { next_header = linked.first i }) (linked.linked i)),
      refl,
    )
