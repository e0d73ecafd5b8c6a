use Rattle.ep_packet.specs.declared.entry.Entry.TheVariants.{LinuxSll as linux_sll}
use Rattle.ep_lax.proofs.lax_sliced_packet.LaxSlicedPacket.fill_linux_sll.Goals as goal

pub returns-in-Ok-clause-ok : goal.returns-in-Ok-clause-ok
returns-in-Ok-clause-ok c = (c.fill_from_link.ensures linux_sll c.args.slice.now c.in-Ok.ensures.ok).0

pub returns-in-Ok-clause-bytes : goal.returns-in-Ok-clause-bytes
returns-in-Ok-clause-bytes c = (c.fill_from_link.ensures linux_sll c.args.slice.now c.in-Ok.ensures.ok).1
