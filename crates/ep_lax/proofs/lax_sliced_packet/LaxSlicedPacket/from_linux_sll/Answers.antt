use Rattle.std.proofs.Common.{arith}
use Rattle.ep_packet.specs.declared.entry.Entry.TheVariants.{LinuxSll as linux_sll}
use Rattle.ep_lax.specs.LaxPackets.{lax_layers_of}
use Rattle.ep_lax.proofs.LaxEntryLemmas.{lax_decided}
use Rattle.ep_lax.proofs.lax_sliced_packet.LaxSlicedPacket.from_linux_sll.Goals as goal

pub returns-in-Ok-clause-only : goal.returns-in-Ok-clause-only
returns-in-Ok-clause-only c = λ layers is.
    (lax_decided linux_sll c.args.slice.now (λ i. omega (arith, c.type_inv.slice i))).one_value
    (lax_layers_of c.of_tag.result) layers (c.of_tag.ensures linux_sll c.args.slice.now c.in-Ok.ensures.ok).0 is

pub returns-in-Ok-clause-ok : goal.returns-in-Ok-clause-ok
returns-in-Ok-clause-ok c = (c.of_tag.ensures linux_sll c.args.slice.now c.in-Ok.ensures.ok).0

pub returns-in-Ok-clause-bytes : goal.returns-in-Ok-clause-bytes
returns-in-Ok-clause-bytes c = (c.of_tag.ensures linux_sll c.args.slice.now c.in-Ok.ensures.ok).1
