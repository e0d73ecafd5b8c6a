use Rattle.std.proofs.Common.{◌≡◌, ◌==◌, map}
use Rattle.std.specs.List.{list_any}
use Rattle.ep_ext.specs.ExtensionParts.{part_next}
use Rattle.ep_ext.specs.Ipv6ExtensionSlices.{ipv6_slice_parts, parts_left}
use Rattle.packet_filter.proofs.subject.has_ipv6_next.Given as goal

-- No extension header so far has the number.
abbrev pub invariant-loop-extension : goal.invariant-loop-extension
invariant-loop-extension l =
    (list_any (λ other. other == l.number.0) (map part_next (parts_left l.extension-iterator))
    ≡ list_any (λ other. other == l.number.0) (map part_next (ipv6_slice_parts l.fn.extensions)))
    × (goal.iterator-loop-extension).can_next l.extension-iterator
    × (goal.iterator-loop-extension).is_finite l.extension-iterator
