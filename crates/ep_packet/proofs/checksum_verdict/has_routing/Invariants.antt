use Rattle.std.proofs.Common.{◌≡◌}
use Rattle.ep_ext.specs.Ipv6ExtensionSlices.{ipv6_slice_parts, parts_left}
use Rattle.ep_packet.specs.Verdicts.{has_routing}
use Rattle.ep_packet.proofs.checksum_verdict.has_routing.Given as goal

-- The remaining extension headers include a routing header if and only if all of them do.
abbrev pub invariant-loop-extension : goal.invariant-loop-extension
invariant-loop-extension l =
    (has_routing (parts_left l.extension-iterator) ≡ has_routing (ipv6_slice_parts l.fn.extensions))
    × (goal.iterator-loop-extension).can_next l.extension-iterator
    × (goal.iterator-loop-extension).is_finite l.extension-iterator
