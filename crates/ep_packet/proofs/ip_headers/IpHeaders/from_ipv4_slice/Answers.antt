use Rattle.std.proofs.Common.{arith}
use Rattle.ep_base.specs.Bytes.{AreBytes}
use Rattle.ep_base.specs.Readings.{headers}
use Rattle.ep_ip.specs.declared.ipv4_header.Ipv4Header.{Ipv4Header}
use Rattle.ep_ip.specs.IpPackets.{IpPacket, ipv4_part}
use Rattle.ep_ip.proofs.PacketLemmas.{ipv4_decided}
use Rattle.ep_packet.specs.IpHeaders.{AreOfPart}
use Rattle.ep_packet.proofs.IpHeadersLemmas.{only_by}
use Rattle.ep_packet.proofs.ip_headers.IpHeaders.from_ipv4_slice.Goals as goal

pub returns : goal.returns
returns c =
    let bytes = c.args.slice.now in
    let fits : AreBytes bytes = λ i. omega (arith, c.type_inv.slice i) in
    let read = c.read_ipv4.ensures in
    record {
      ok = read.ok;
      only = only_by (λ (packet : IpPacket Ipv4Header). AreOfPart (ipv4_part packet)) (ipv4_decided headers bytes fits)
          c.read_ipv4.result read.ok read.err;
      err = read.err;
    }
