use Rattle.std.proofs.lemmas.Grind.{common_steps}
use Rattle.std.proofs.Common.{refl, arith}
use Rattle.ep_defrag.proofs.HoldingsLemmas.{left_then, left_touched}
use Rattle.ep_defrag.proofs.holdings.Holdings.settle.Goals as goal

pub returns-clause-settled : goal.returns-clause-settled
returns-clause-settled g c = grind (arith, common_steps)

pub returns-clause-left : goal.returns-clause-left
returns-clause-left g c =
    let self = c.args.self.now in
    let placed = c.places.ensures.taken self.table c.args.slot c.requires.taken.0 c.requires.taken.1 in
    left_then self _ _ (left_touched self _ c.args.slot c.requires.taken.0 placed c.touch.ensures refl)
    c.evict_over_limits.ensures.left

pub evict_over_limits-requires : goal.evict_over_limits-requires
evict_over_limits-requires g c = grind (arith, common_steps)
