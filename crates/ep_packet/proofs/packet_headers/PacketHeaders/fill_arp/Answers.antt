use Rattle.std.proofs.Common.{Some, None, ap}
use Rattle.ep_link.specs.Arp.{Arp}
use Rattle.ep_link.specs.ArpSlices.{arp_slice_packet}
use Rattle.ep_packet.specs.PacketHeaders.{arp_packet, headers_of}
use Rattle.ep_packet.specs.PayloadParts.{empty}
use Rattle.ep_packet.proofs.HeadersLemmas.{fills_arp}
use Rattle.ep_packet.proofs.packet_headers.PacketHeaders.fill_arp.Goals as goal

pub returns-in-Ok-clause-ok : goal.returns-in-Ok-clause-ok
returns-in-Ok-clause-ok c =
    let old = headers_of c.args.self.now in
    let ok = c.in-Ok.ensures.ok in
    fills_arp c.args.slice.now ok.0 (arp_slice_packet c.in-Ok.packet) old _ ok.2
    (ap (λ (a : Arp). record old { net = Some (arp_packet a); transport = None; payload = empty }) c.to_header.ensures)
