use Rattle.lru_table.proofs.TableLemmas.{reversed, table_kept, below_kept}
use Rattle.lru_table.proofs.table.LruTable.touch.Goals as goal

pub invariant_of-self : goal.invariant_of-self
invariant_of-self g c =
    let at = reversed c.args.slot c.self.inside.cache.entries c.self.invariant.0.distinct in
    rw c.promote.ensures.entries (
      table_kept g.K.PartialEq.eq _ _ c.self.invariant.0 at.keeps_promoted,
      c.self.invariant.1,
      c.self.invariant.2,
      below_kept c.self.inside.numbers _ _ c.self.invariant.3
          at.keeps_promoted,
    )

pub returns : goal.returns
returns g c =
    let at = reversed c.args.slot c.self.inside.cache.entries c.self.invariant.0.distinct in
    rw (← c.self.view_is, c.promote.ensures.entries) at.newest
