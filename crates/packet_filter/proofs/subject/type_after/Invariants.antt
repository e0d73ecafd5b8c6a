use Rattle.std.proofs.Common.{◌≡◌, drop, map}
use Rattle.ep_lax.specs.LaxViews.{lax_extension_of}
use Rattle.packet_filter.specs.Packets.{type_after, type_number}
use Rattle.packet_filter.proofs.subject.type_after.Given as goal

-- The ether type so far leads to the one after all tags.
abbrev pub invariant-loop-extension : goal.invariant-loop-extension
invariant-loop-extension l =
    type_after (type_number l.ether_type) (map lax_extension_of (drop l.extension-index l.extensions))
    ≡ type_after (type_number l.fn.ether_type) (map lax_extension_of l.extensions)
