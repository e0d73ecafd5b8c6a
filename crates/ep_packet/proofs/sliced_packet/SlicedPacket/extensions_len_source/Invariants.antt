use Rattle.std.proofs.Common.{◌≡◌, map, drop}
use Rattle.ep_link.specs.LinkExtensions.{link_extension_of}
use Rattle.ep_packet.specs.Payloads.{have_short_len}
use Rattle.ep_packet.proofs.sliced_packet.SlicedPacket.extensions_len_source.Given as goal

abbrev pub invariant-loop-extension : goal.invariant-loop-extension
invariant-loop-extension l =
    have_short_len (map link_extension_of (drop l.extension-index l.self.link_exts.items))
    ≡ have_short_len (map link_extension_of l.self.link_exts.items)
