use Rattle.std.proofs.Common.{◌≡◌, ◌++◌}
use Rattle.etherparse.specs.Ipv6ExtensionSlices.{ipv6_slice_parts, parts_left}
use Rattle.packet_text.specs.Networks.{parts_text}
use Rattle.packet_text.proofs.networks.push_ipv6_extensions.Given as goal

-- The text so far, with that of the remaining extension headers, is the complete text.
abbrev pub invariant-loop-extension : goal.invariant-loop-extension
invariant-loop-extension l =
    (l.output.items ++ parts_text (parts_left l.extension-iterator)
    ≡ l.initial.output.items ++ parts_text (ipv6_slice_parts l.fn.extensions))
    × (goal.iterator-loop-extension).can_next l.extension-iterator
    × (goal.iterator-loop-extension).is_finite l.extension-iterator
