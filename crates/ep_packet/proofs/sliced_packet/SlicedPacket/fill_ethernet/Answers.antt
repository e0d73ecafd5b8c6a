use Rattle.std.proofs.Common.{arith}
use Rattle.ep_packet.specs.declared.entry.Entry.TheVariants.{Ethernet as ethernet}
use Rattle.ep_packet.proofs.EntryLemmas.{enters_frame}
use Rattle.ep_packet.proofs.sliced_packet.SlicedPacket.fill_ethernet.Goals as goal

pub returns-in-Ok : goal.returns-in-Ok
returns-in-Ok c =
    let packet = c.fill_from_link.new.self in
    let enters = enters_frame ethernet c.args.slice.now c.in-Ok.part c.fill_from_link.result (λ _. packet)
    (λ i. omega (arith, c.type_inv.slice i)) c.in-Ok.ensures.ok c.fill_from_link.ensures.ok c.fill_from_link.ensures.err in
    record { ok = enters.ok; bytes = enters.shows; err = enters.err }
