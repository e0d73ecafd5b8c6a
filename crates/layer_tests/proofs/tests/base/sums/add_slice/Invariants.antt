use Rattle.std.proofs.Common.{length}
use Rattle.layer_tests.proofs.tests.base.sums.add_slice.Given as goal

abbrev pub decreases-loop-piece : goal.decreases-loop-piece
decreases-loop-piece l = length l.rest
