use Rattle.std.proofs.Common.{arith}
use Rattle.ep_lax.specs.LaxPackets.{lax_layers_of}
use Rattle.ep_lax.proofs.LaxEntryLemmas.{lax_decided}
use Rattle.ep_lax.proofs.lax_sliced_packet.LaxSlicedPacket.slice_into.Goals as goal

pub returns-in-Ok-clause-only : goal.returns-in-Ok-clause-only
returns-in-Ok-clause-only c = λ layers is.
    (lax_decided c.args.entry c.args.bytes.now (λ i. omega (arith, c.type_inv.bytes i))).one_value
    (lax_layers_of c.fill.new.self) layers c.in-Ok.ensures.ok is

pub returns-in-Err-clause-only : goal.returns-in-Err-clause-only
returns-in-Err-clause-only c = λ layers is.
    absurd ((lax_decided c.args.entry c.args.bytes.now (λ i. omega (arith, c.type_inv.bytes i))).not_both layers
    c.in-Err.error is c.in-Err.ensures.err)
