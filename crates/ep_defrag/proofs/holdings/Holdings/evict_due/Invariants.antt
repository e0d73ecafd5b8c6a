use Rattle.ep_defrag.proofs.StreamWalkLemmas.{Visits}
use Rattle.ep_defrag.proofs.holdings.Holdings.evict_due.Given as goal

abbrev pub invariant-loop-visited : goal.invariant-loop-visited
invariant-loop-visited g l = Visits l.limits l.now l.idle l.initial.self l.self l._visited
