use Rattle.std.proofs.Common.{◌≡◌, map, drop}
use Rattle.ep_base.specs.declared.len_source.LenSource.TheVariants as source
use Rattle.ep_lax.specs.LaxPayloads.{source_after}
use Rattle.ep_lax.specs.LaxViews.{lax_extension_of}
use Rattle.ep_lax.proofs.lax_sliced_packet.LaxSlicedPacket.extensions_len_source.Given as goal

abbrev pub invariant-loop-extension : goal.invariant-loop-extension
invariant-loop-extension l =
    source_after l.len_source (map lax_extension_of (drop l.extension-index l.self.link_exts.items))
    ≡ source_after source.Slice (map lax_extension_of l.self.link_exts.items)
