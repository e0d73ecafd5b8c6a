use Rattle.std.proofs.Common.{[], arith}
use Rattle.ep_defrag.specs.BoundedRuns.{rows_from}
use Rattle.ep_defrag.proofs.BoundedWithinLemmas.{are_within-from, calls_within}
use Rattle.ep_defrag.proofs.laws.bounded_pools.within_limits.Goals as goal

pub returns : goal.returns
returns g c limits calls =
    let eq = g.CustomChannelId.PartialEq.eq in
    are_within-from limits (rows_from limits eq [] 0 calls)
    (calls_within limits eq [] 0 calls (record { few = omega arith; room = omega arith }))
