use Rattle.ep_ip.specs.Ipv4Slices.{ipv4_slice_packet}
use Rattle.ep_packet.proofs.IpHeadersLemmas.{ipv4_by_value}
use Rattle.ep_packet.proofs.ip_headers_read.read_ipv4.Goals as goal

pub returns-in-Ok-clause-ok : goal.returns-in-Ok-clause-ok
returns-in-Ok-clause-ok c =
    let ok = c.in-Ok.ensures.ok in
    let packet = ipv4_slice_packet c.in-Ok.packet ok.0 in
    (packet, ipv4_by_value c.args.slice.now packet ok.2, c.value_of_ipv4.ensures ok.0)
