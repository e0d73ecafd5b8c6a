use Rattle.ep_packet.specs.declared.entry.Entry.TheVariants.{EtherType as ether_type}
use Rattle.ep_lax.proofs.lax_sliced_packet.LaxSlicedPacket.fill_ether_type.Goals as goal

pub returns-clause-ok : goal.returns-clause-ok
returns-clause-ok c =
    (c.fill_from_link.ensures (ether_type c.args.ether_type) c.args.slice.now c.ether_type.ensures.begins).0

pub returns-clause-bytes : goal.returns-clause-bytes
returns-clause-bytes c =
    (c.fill_from_link.ensures (ether_type c.args.ether_type) c.args.slice.now c.ether_type.ensures.begins).1
