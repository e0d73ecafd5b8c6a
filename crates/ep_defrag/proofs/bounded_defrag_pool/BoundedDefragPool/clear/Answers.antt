use Rattle.std.proofs.Common.{refl, ◌∙◌}
use Rattle.ep_defrag.specs.BoundedNames.{names_of}
use Rattle.ep_defrag.proofs.RowRemovalLemmas.{cleared}
use Rattle.ep_defrag.proofs.bounded_defrag_pool.BoundedDefragPool.clear.Goals as goal

pub returns-clause-step : goal.returns-clause-step
returns-clause-step g c =
    let all = c.remove_all.ensures.removed in
    rw (← c.self.view_is) (λ rows number holds_rows.
    cleared g.CustomChannelId.PartialEq.eq _ _ rows number holds_rows c.fit.ensures (λ i. names_of (all.table i))
    ((λ i. (all.evicted i).items) ∙ c.clear.ensures.items) refl all.statistics)
