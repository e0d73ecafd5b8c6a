use Rattle.std.proofs.Common.{arith}
use Rattle.ep_packet.specs.declared.entry.Entry.TheVariants.{EtherType as ether_type}
use Rattle.ep_lax.specs.LaxPackets.{lax_layers_of}
use Rattle.ep_lax.proofs.LaxEntryLemmas.{lax_decided}
use Rattle.ep_lax.proofs.lax_sliced_packet.LaxSlicedPacket.from_ether_type.Goals as goal

pub returns-clause-only : goal.returns-clause-only
returns-clause-only c = λ layers is.
    (lax_decided (ether_type c.args.ether_type) c.args.slice.now (λ i. omega (arith, c.type_inv.slice i))).one_value
    (lax_layers_of c.of_tag.result) layers (c.of_tag.ensures (ether_type c.args.ether_type) c.args.slice.now
    c.ether_type.ensures.begins).0 is

pub returns-clause-ok : goal.returns-clause-ok
returns-clause-ok c =
    (c.of_tag.ensures (ether_type c.args.ether_type) c.args.slice.now c.ether_type.ensures.begins).0

pub returns-clause-bytes : goal.returns-clause-bytes
returns-clause-bytes c =
    (c.of_tag.ensures (ether_type c.args.ether_type) c.args.slice.now c.ether_type.ensures.begins).1
