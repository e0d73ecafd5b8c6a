use Rattle.std.proofs.Common.{refl}
use Rattle.lru_table.proofs.TableLemmas.{pops, table_kept, below_kept}
use Rattle.lru_table.proofs.table.LruTable.pop_oldest.Goals.{in-Some, in-None}
use Rattle.lru_table.proofs.table.LruTable.pop_oldest.Goals as goal

pub invariant_of-self : goal.invariant_of-self
invariant_of-self g c =
    let at = pops c.self.inside.cache.entries c.self.invariant.0.distinct in
    rw c.pop_lru.ensures.entries (
      table_kept g.K.PartialEq.eq _ _ c.self.invariant.0 at.keeps,
      c.self.invariant.1,
      c.self.invariant.2,
      below_kept c.self.inside.numbers _ _ c.self.invariant.3 at.keeps,
    )

pub returns-clause-removed : goal.returns-clause-removed
returns-clause-removed g c =
    let at = pops c.self.inside.cache.entries c.self.invariant.0.distinct in
    rw (← c.self.view_is, ← at.first, ← c.pop_lru.ensures.value) (elim c.match-pop_lru.branch [
      | in-Some w ↦ rw (w.result-is, w.in-Some.is) refl
      | in-None w ↦ rw (w.result-is, w.in-None.is) refl
    ])

pub returns-clause-kept : goal.returns-clause-kept
returns-clause-kept g c =
    let at = pops c.self.inside.cache.entries c.self.invariant.0.distinct in
    rw (← c.self.view_is, c.pop_lru.ensures.entries) at.rest
