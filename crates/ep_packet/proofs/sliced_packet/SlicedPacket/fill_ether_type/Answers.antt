use Rattle.std.proofs.Common.{arith}
use Rattle.ep_packet.specs.declared.entry.Entry.TheVariants.{EtherType as ether_type}
use Rattle.ep_packet.proofs.EntryLemmas.{enters_frame}
use Rattle.ep_packet.proofs.sliced_packet.SlicedPacket.fill_ether_type.Goals as goal

pub returns : goal.returns
returns c =
    let packet = c.fill_from_link.new.self in
    let enters = enters_frame (ether_type c.args.ether_type) c.args.slice.now c.ether_type.result c.fill_from_link.result
    (λ _. packet)
    (λ i. omega (arith, c.type_inv.slice i)) c.ether_type.ensures.begins c.fill_from_link.ensures.ok
    c.fill_from_link.ensures.err in
    record { ok = enters.ok; bytes = enters.shows; err = enters.err }
