use Rattle.std.proofs.Common.{arith}
use Rattle.etherparse_c.proofs.bounded_pooling.discarded_count.Goals as goal

pub returns : goal.returns
returns c = omega (arith, c.discarded_count.ensures.count)
