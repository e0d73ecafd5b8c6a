use Rattle.std.proofs.Common.{arith}
use Rattle.ep_ip.specs.IpPackets.{ipv4_part}
use Rattle.ep_ip.specs.Ipv4Slices.{ipv4_slice_packet}
use Rattle.ep_packet.proofs.IpHeadersLemmas.{empty_refused, ipv4_by_value, version_refused}
use Rattle.ep_packet.proofs.ip_headers_read.read_ip.Goals as goal

pub returns-then-slice-eq0-clause-err : goal.returns-then-slice-eq0-clause-err
returns-then-slice-eq0-clause-err c =
    empty_refused c.args.slice.now _ (omega arith) c.empty_slice_error.ensures

pub returns-clause-err : goal.returns-clause-err
returns-clause-err c =
    version_refused c.args.slice.now _ _ c.unsupported.ensures (omega arith) (omega arith) (λ e. omega (arith, e))
    (λ e. omega (arith, e))

pub returns-in-Ok-clause-ok : goal.returns-in-Ok-clause-ok
returns-in-Ok-clause-ok c =
    let ok = c.in-Ok.ensures.ok in
    let packet = ipv4_slice_packet c.in-Ok.packet ok.0 in
    (ipv4_part packet, ipv4_by_value c.args.slice.now packet ok.2, c.value_of_ipv4.ensures ok.0)
