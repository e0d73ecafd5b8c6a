use Rattle.std.proofs.Common.{◌≡◌, ◌≤◌, ◌+◌, ◌*◌, drop, map}
use Rattle.ep_lax.specs.LaxViews.{lax_extension_of}
use Rattle.ep_packet.specs.Offsets.{tags_len}
use Rattle.packet_filter.proofs.subject.tags_len.Given as goal

-- The tags already iterated and the remaining ones have the length of all tags.
abbrev pub invariant-loop-extension : goal.invariant-loop-extension
invariant-loop-extension l =
    (l.len + tags_len (map lax_extension_of (drop l.extension-index l.extensions))
    ≡ tags_len (map lax_extension_of l.extensions))
    × (l.len ≤ 16 * l.extension-index)
