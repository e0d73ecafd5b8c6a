use Rattle.std.proofs.Common.{[], arith}
use Rattle.ep_defrag.specs.BoundedCounts.{no_statistics}
use Rattle.ep_defrag.proofs.BoundedSumLemmas.{add_up_from}
use Rattle.ep_defrag.proofs.laws.bounded_pools.counters_add_up.Goals as goal

pub returns : goal.returns
returns g c limits calls =
    add_up_from g.CustomChannelId.PartialEq.eq g.met.CustomChannelId.Eq.laws limits [] 0 no_statistics calls tt
    (λ below. omega arith)
