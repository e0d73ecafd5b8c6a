use Rattle.std.proofs.Common.{arith}
use Rattle.ep_base.specs.Bytes.{AreBytes}
use Rattle.ep_base.specs.Readings.{headers}
use Rattle.ep_ip.specs.declared.ipv6_header.Ipv6Header.{Ipv6Header}
use Rattle.ep_ip.specs.IpPackets.{IpPacket, ipv6_part}
use Rattle.ep_ip.proofs.PacketLemmas.{ipv6_decided}
use Rattle.ep_packet.specs.IpHeaders.{AreOfPart}
use Rattle.ep_packet.proofs.IpHeadersLemmas.{only_by}
use Rattle.ep_packet.proofs.ip_headers.IpHeaders.from_ipv6_slice.Goals as goal

pub returns : goal.returns
returns c =
    let bytes = c.args.slice.now in
    let fits : AreBytes bytes = λ i. omega (arith, c.type_inv.slice i) in
    let read = c.read_ipv6.ensures in
    record {
      ok = read.ok;
      only = only_by (λ (packet : IpPacket Ipv6Header). AreOfPart (ipv6_part packet)) (ipv6_decided headers bytes fits)
          c.read_ipv6.result read.ok read.err;
      err = read.err;
    }
