use Rattle.lru_table.proofs.TableLemmas.{reversed}
use Rattle.lru_table.proofs.table.LruTable.get.Goals as goal

pub returns-in-Some : goal.returns-in-Some
returns-in-Some g c =
    let at = reversed c.args.slot c.self.inside.cache.entries c.self.invariant.0.distinct in
    rw (← c.self.view_is, ← at.value) c.in-Some.ensures

pub returns-in-None : goal.returns-in-None
returns-in-None g c =
    let at = reversed c.args.slot c.self.inside.cache.entries c.self.invariant.0.distinct in
    rw (← c.self.view_is, ← at.value) c.in-None.ensures
