use Rattle.std.proofs.Common.{◌≡◌}
use Rattle.ep_ext.specs.Ipv6ExtensionSlices.{ipv6_slice_parts, parts_left}
use Rattle.ep_packet.specs.PayloadStarts.{are_first}
use Rattle.ep_lax.proofs.lax_net_slice.are_first.Given as goal

-- No extension header so far has a fragment offset other than 0.
abbrev pub invariant-loop-extension : goal.invariant-loop-extension
invariant-loop-extension l =
    (are_first (parts_left l.extension-iterator) ≡ are_first (ipv6_slice_parts l.fn.extensions))
    × (goal.iterator-loop-extension).can_next l.extension-iterator
    × (goal.iterator-loop-extension).is_finite l.extension-iterator
