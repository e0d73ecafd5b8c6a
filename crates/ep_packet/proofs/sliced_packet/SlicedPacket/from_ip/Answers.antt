use Rattle.std.proofs.Common.{None, map, refl, ap, arith}
use Rattle.ep_link.specs.LinkExtensions.{link_extension_of}
use Rattle.ep_packet.specs.declared.sliced_packet.SlicedPacket.{SlicedPacket}
use Rattle.ep_packet.specs.declared.entry.Entry.TheVariants.{Ip as ip}
use Rattle.ep_packet.specs.Layers.{layers_of}
use Rattle.ep_packet.proofs.LayerLawLemmas.{frame_law}
use Rattle.ep_packet.proofs.sliced_packet.SlicedPacket.from_ip.Goals as goal

pub returns-in-Err-clause-only : goal.returns-in-Err-clause-only
returns-in-Err-clause-only c = λ layers is.
    absurd ((frame_law ip c.args.slice.now (λ i. omega (arith, c.type_inv.slice i))).not_both layers
    c.in-Err.error is c.in-Err.ensures.err)

pub returns-in-Ok-clause-only : goal.returns-in-Ok-clause-only
returns-in-Ok-clause-only c = λ layers is.
    let packet : SlicedPacket = record {
      link = None;
      link_exts = c.new.result;
      net = c.fill_ip.new.net;
      transport = c.fill_ip.new.transport;
    } in
    (frame_law ip c.args.slice.now (λ i. omega (arith, c.type_inv.slice i))).one_value (layers_of packet) layers
    (refl, ap (map link_extension_of) c.new.ensures, c.in-Ok.ensures.ok.part) is
