use Rattle.std.proofs.Common.{arith}
use Rattle.ep_packet.specs.declared.entry.Entry.TheVariants.{Ip as ip}
use Rattle.ep_lax.specs.LaxPackets.{lax_layers_of}
use Rattle.ep_lax.proofs.LaxEntryLemmas.{lax_decided}
use Rattle.ep_lax.proofs.lax_sliced_packet.LaxSlicedPacket.from_ip.Goals as goal

pub returns-in-Ok-clause-only : goal.returns-in-Ok-clause-only
returns-in-Ok-clause-only c = λ layers is.
    (lax_decided ip c.args.slice.now (λ i. omega (arith, c.type_inv.slice i))).one_value
    (lax_layers_of c.fill_ip.new.self) layers c.in-Ok.ensures.ok is
