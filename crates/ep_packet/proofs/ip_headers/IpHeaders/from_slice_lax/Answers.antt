use Rattle.std.proofs.Common.{arith}
use Rattle.ep_base.specs.Bytes.{AreBytes}
use Rattle.ep_base.specs.Readings.{headers}
use Rattle.ep_packet.proofs.LaxIpHeadersLemmas.{lax_ip_decided}
use Rattle.ep_packet.specs.LaxIpHeaders.{ShowsLaxIp}
use Rattle.ep_packet.proofs.IpHeadersLemmas.{only_by}
use Rattle.ep_packet.proofs.ip_headers.IpHeaders.from_slice_lax.Goals as goal

pub returns : goal.returns
returns c =
    let bytes = c.args.slice.now in
    let fits : AreBytes bytes = λ i. omega (arith, c.type_inv.slice i) in
    let read = c.read_ip.ensures in
    record {
      ok = read.ok;
      only = only_by ShowsLaxIp (lax_ip_decided headers bytes fits) c.read_ip.result read.ok read.err;
      err = read.err;
    }
