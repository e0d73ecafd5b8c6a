use Rattle.std.proofs.Common.{refl, ◌∙◌, ◌++◌}
use Rattle.ep_defrag.specs.BoundedCounts.{counted}
use Rattle.ep_defrag.specs.BoundedNames.{names_of, open_names}
use Rattle.ep_defrag.proofs.RowRemovalLemmas.{expired_step, names_due, names_not_due, reports_due}
use Rattle.ep_defrag.proofs.bounded_defrag_pool.BoundedDefragPool.expire.Goals as goal

pub returns-clause-step : goal.returns-clause-step
returns-clause-step g c =
    let due = c.evict_due.ensures.due in
    let table = c.self.inside.holdings.table in
    let limits = c.self.inside.limits in
    let counters = c.self.inside.holdings.statistics in
    rw (← c.self.view_is) (λ rows number holds_rows.
    expired_step g.CustomChannelId.PartialEq.eq g.met.CustomChannelId.Eq.laws _ _ rows number c.args.now c.args.idle
    holds_rows c.fit.ensures
    ((λ i. names_of (due.table i)) ∙ names_not_due limits c.args.now c.args.idle table)
    (due.evicted ∙ (λ i. c.clear.ensures.items i ++ reports_due limits c.args.now c.args.idle table i))
    refl
    (due.statistics
    ∙ (λ i. record counters {
      expired = counted counters.expired (open_names (names_due limits c.args.now c.args.idle table i));
    })))
