use Rattle.std.proofs.Common.{length}
use Rattle.ep_defrag.proofs.StreamWalkLemmas.{Removes}
use Rattle.ep_defrag.proofs.holdings.Holdings.remove_all.Given as goal

abbrev pub invariant-loop-slot : goal.invariant-loop-slot
invariant-loop-slot g l = Removes l.initial.self l.self

abbrev pub decreases-loop-slot : goal.decreases-loop-slot
decreases-loop-slot g l = length l.self.table
