use Rattle.std.proofs.Common.{◌≡◌, ◌+◌, length}
use Rattle.ep_ext.specs.Ipv6ExtensionSlices.{bytes_left, ipv6_slice_bytes, ipv6_slice_parts, parts_left}
use Rattle.ep_packet.specs.Offsets.{parts_len}
use Rattle.ep_packet.proofs.header_lens.extensions_len.Given as goal

-- The lengths of the extension headers visited and of those to come add up to the length of all.
abbrev pub invariant-loop-extension : goal.invariant-loop-extension
invariant-loop-extension l =
    (l.len + parts_len (parts_left l.extension-iterator) ≡ parts_len (ipv6_slice_parts l.fn.extensions))
    × (l.len + length (bytes_left l.extension-iterator) ≡ length (ipv6_slice_bytes l.fn.extensions))
    × (goal.iterator-loop-extension).can_next l.extension-iterator
    × (goal.iterator-loop-extension).is_finite l.extension-iterator
