use Rattle.ep_packet.specs.declared.entry.Entry.TheVariants.{Ethernet as ethernet}
use Rattle.ep_lax.proofs.lax_sliced_packet.LaxSlicedPacket.fill.Goals as goal

pub returns-in-Ok-clause-bytes : goal.returns-in-Ok-clause-bytes
returns-in-Ok-clause-bytes c = (c.fill_from_link.ensures ethernet c.args.slice.now c.in-Ok.ensures.ok).1
