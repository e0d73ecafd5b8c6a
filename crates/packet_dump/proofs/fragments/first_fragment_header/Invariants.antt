use Rattle.std.proofs.Common.{◌≡◌}
use Rattle.etherparse.specs.FrameFragments.{first_fragment}
use Rattle.etherparse.specs.Ipv6ExtensionSlices.{ipv6_slice_parts, parts_left}
use Rattle.packet_dump.proofs.fragments.first_fragment_header.Given as goal

-- No header passed so far is a fragment header.
abbrev pub invariant-loop-extension : goal.invariant-loop-extension
invariant-loop-extension l =
    (first_fragment (parts_left l.extension-iterator) ≡ first_fragment (ipv6_slice_parts l.fn.extensions))
    × (goal.iterator-loop-extension).can_next l.extension-iterator
    × (goal.iterator-loop-extension).is_finite l.extension-iterator
