use Rattle.std.proofs.Common.{◌≡◌, false, drop}
use Rattle.ep_lax.specs.LaxPackets.{extensions_incomplete}
use Rattle.ep_lax.proofs.lax_sliced_packet.LaxSlicedPacket.extensions_incomplete.Given as goal

abbrev pub invariant-loop-extension : goal.invariant-loop-extension
invariant-loop-extension l =
    extensions_incomplete l.incomplete (drop l.extension-index l.self.link_exts.items)
    ≡ extensions_incomplete false l.self.link_exts.items
