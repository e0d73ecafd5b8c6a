use Rattle.std.proofs.Common.{◌≡◌, ◌≤◌, ◌+◌, ◌*◌, drop, map}
use Rattle.ep_link.specs.LinkExtensions.{link_extension_of}
use Rattle.ep_packet.specs.Offsets.{tags_len}
use Rattle.ep_packet.proofs.sliced_packet_payload.tags_len.Given as goal

-- The lengths of the tags visited and of those to come add up to the length of all.
abbrev pub invariant-loop-extension : goal.invariant-loop-extension
invariant-loop-extension l =
    (l.len + tags_len (map link_extension_of (drop l.extension-index l.extensions))
    ≡ tags_len (map link_extension_of l.extensions))
    × (l.len ≤ 16 * l.extension-index)
