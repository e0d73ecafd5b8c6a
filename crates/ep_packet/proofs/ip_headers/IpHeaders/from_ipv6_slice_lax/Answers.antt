use Rattle.std.proofs.Common.{false, arith}
use Rattle.ep_base.specs.Bytes.{AreBytes}
use Rattle.ep_base.specs.Readings.{headers}
use Rattle.ep_ip.proofs.LaxIpLemmas.{lax_ipv6_decided}
use Rattle.ep_packet.specs.LaxIpHeaders.{ShowsLaxIpv6}
use Rattle.ep_packet.proofs.IpHeadersLemmas.{only_by}
use Rattle.ep_packet.proofs.ip_headers.IpHeaders.from_ipv6_slice_lax.Goals as goal

pub returns : goal.returns
returns c =
    let bytes = c.args.slice.now in
    let fits : AreBytes bytes = λ i. omega (arith, c.type_inv.slice i) in
    let read = c.read_ipv6.ensures in
    record {
      ok = read.ok;
      only = only_by ShowsLaxIpv6 (lax_ipv6_decided headers false bytes fits) c.read_ipv6.result read.ok read.err;
      err = read.err;
    }
