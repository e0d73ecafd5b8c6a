use Rattle.std.proofs.Common.{length}
use Rattle.ep_base.specs.Readings.{slices}
use Rattle.ep_ext.proofs.PrefixLemmas.{PrefixRead}
use Rattle.ep_ext.proofs.ipv6_exts_slice.Ipv6ExtensionsSlice.from_slice_lax.Given as goal

abbrev pub invariant-loop-offset : goal.invariant-loop-offset
invariant-loop-offset l = PrefixRead slices l.number.0 l.slice l.next.0 l.rest l.fragmented

abbrev pub decreases-loop-offset : goal.decreases-loop-offset
decreases-loop-offset l = length l.rest
