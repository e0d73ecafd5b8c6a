use Rattle.ep_ext.proofs.WalkLemmas.{HasWalked}
use Rattle.ep_ext.proofs.WalkMarkLemmas.{marks_left}
use Rattle.ep_ext.proofs.ipv6_exts.Ipv6Extensions.next_header.Given as goal

abbrev pub invariant-loop-header : goal.invariant-loop-header
invariant-loop-header l = HasWalked l.self l.fn.first.0 l.number.0 l.marks

abbrev pub decreases-loop-header : goal.decreases-loop-header
decreases-loop-header l = marks_left l.marks
