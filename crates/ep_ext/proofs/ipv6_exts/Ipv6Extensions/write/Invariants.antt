use Rattle.ep_ext.proofs.WalkLemmas.{HasWritten}
use Rattle.ep_ext.proofs.WalkMarkLemmas.{marks_left}
use Rattle.ep_ext.proofs.ipv6_exts.Ipv6Extensions.write.Given as goal

abbrev pub invariant-loop-header : goal.invariant-loop-header
invariant-loop-header l = HasWritten l.self l.fn.first.0 l.number.0 l.marks l.fn.buf l.buf

abbrev pub decreases-loop-header : goal.decreases-loop-header
decreases-loop-header l = marks_left l.marks
