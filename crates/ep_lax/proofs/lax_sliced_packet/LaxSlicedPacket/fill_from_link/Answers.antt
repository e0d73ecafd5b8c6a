use Rattle.std.proofs.Common.{Some, refl}
use Rattle.ep_lax.specs.declared.lax_sliced_packet.LaxSlicedPacket.{LaxSlicedPacket}
use Rattle.ep_lax.proofs.LaxLinkLemmas.{lax_after}
use Rattle.ep_lax.proofs.lax_sliced_packet.LaxSlicedPacket.fill_from_link.Goals as goal

pub returns : goal.returns
returns c =
    let new = c.fill_inside.new in
    let packet : LaxSlicedPacket = record {
      link = Some c.args.part.link;
      link_exts = new.link_exts;
      net = new.net;
      transport = new.transport;
      stop_err = new.stop_err;
    } in
    lax_after c.args.part packet refl c.fill_inside.ensures
