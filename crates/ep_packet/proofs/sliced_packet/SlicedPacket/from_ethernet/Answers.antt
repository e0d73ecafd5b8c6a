use Rattle.std.proofs.Common.{refl, inl, arith}
use Rattle.ep_packet.specs.declared.entry.Entry.TheVariants.{Ethernet as ethernet}
use Rattle.ep_packet.specs.declared.err.slice_error.SliceError.TheVariants.{Len}
use Rattle.ep_packet.proofs.EntryLemmas.{enters_frame}
use Rattle.ep_packet.proofs.LayerLawLemmas.{frame_law}
use Rattle.ep_packet.proofs.sliced_packet.SlicedPacket.from_ethernet.Goals as goal

pub returns-in-Err-clause-only : goal.returns-in-Err-clause-only
returns-in-Err-clause-only c = λ layers is.
    absurd ((frame_law ethernet c.args.slice.now (λ i. omega (arith, c.type_inv.slice i))).not_both layers
    (Len c.in-Err.error) is (inl (c.in-Err.error, c.in-Err.ensures.err, refl)))

pub returns-in-Ok : goal.returns-in-Ok
returns-in-Ok c =
    let enters = enters_frame ethernet c.args.slice.now c.in-Ok.part c.slice_from_link.result (λ packet. packet)
    (λ i. omega (arith, c.type_inv.slice i)) c.in-Ok.ensures.ok c.slice_from_link.ensures.ok c.slice_from_link.ensures.err in
    record { ok = enters.ok; only = enters.only; bytes = enters.shows; err = enters.err }
