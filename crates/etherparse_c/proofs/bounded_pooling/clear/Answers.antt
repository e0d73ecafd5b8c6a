use Rattle.std.proofs.Common.{refl}
use Rattle.etherparse_c.proofs.bounded_pooling.clear.Goals as goal

pub returns : goal.returns
returns c = record { step = c.clear.ensures.step; bounded = c.clear.ensures.bounded; waiting = refl }
