use Rattle.std.proofs.Common.{length}
use Rattle.ep_ext.proofs.ValuePrefixLemmas.{ValueRead}
use Rattle.ep_ext.proofs.ipv6_exts.Ipv6Extensions.fill_lax.Given as goal

abbrev pub invariant-loop-offset : goal.invariant-loop-offset
invariant-loop-offset l = ValueRead l.fn.number.0 l.slice l.next.0 l.rest l.self

abbrev pub decreases-loop-offset : goal.decreases-loop-offset
decreases-loop-offset l = length l.rest
