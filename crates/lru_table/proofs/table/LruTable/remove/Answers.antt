use Rattle.std.proofs.Common.{◌<◌, ◌^◌, arith}
use Rattle.lru_table.proofs.TableLemmas.{reversed, table_kept, below_kept}
use Rattle.lru_table.proofs.VacancyLemmas.{vacated}
use Rattle.lru_table.proofs.table.LruTable.remove.Goals as goal

pub invariant_of-self : goal.invariant_of-self
invariant_of-self g c =
    let at = reversed c.args.slot c.self.inside.cache.entries c.self.invariant.0.distinct in
    rw c.pop.ensures.entries (
      table_kept g.K.PartialEq.eq _ _ c.self.invariant.0 at.keeps_removed,
      c.self.invariant.1,
      c.self.invariant.2,
      below_kept c.self.inside.numbers _ _ c.self.invariant.3 at.keeps_removed,
    )

pub returns-clause-removed : goal.returns-clause-removed
returns-clause-removed g c =
    let at = reversed c.args.slot c.self.inside.cache.entries c.self.invariant.0.distinct in
    rw (← c.self.view_is, ← at.value) c.pop.ensures.value

pub returns-clause-kept : goal.returns-clause-kept
returns-clause-kept g c =
    let at = reversed c.args.slot c.self.inside.cache.entries c.self.invariant.0.distinct in
    rw (← c.self.view_is, c.pop.ensures.entries) at.removed

pub returns-clause-vacated : goal.returns-clause-vacated
returns-clause-vacated g c = λ key present.
    let at = reversed c.args.slot c.self.inside.cache.entries c.self.invariant.0.distinct in
    let fits : c.self.inside.numbers < 2 ^ 64 = omega arith in
    let here = rw (← c.self.view_is) at present in
    rw (c.pop.ensures.entries, at.removed)
    (vacated g.K.PartialEq.eq g.met.K.Eq.laws c.self.inside.numbers _ c.args.slot here.0 key c.self.invariant.0
    c.self.invariant.3 fits here.1 here.2)
