use Rattle.std.proofs.Common.{◌≡◌, false, drop}
use Rattle.ep_lax.specs.LaxViews.{lax_extensions_of}
use Rattle.ep_lax.specs.WholeFrames.{are_complete}
use Rattle.ep_lax.proofs.lax_sliced_packet_frame.are_complete.Given as goal

-- The remaining tags decide for all tags: no byte of the payloads of the tags before them is missing.
abbrev pub invariant-loop-extension : goal.invariant-loop-extension
invariant-loop-extension l =
    are_complete (lax_extensions_of false l.extensions)
    ≡ are_complete (lax_extensions_of false (drop l.extension-index l.extensions))
