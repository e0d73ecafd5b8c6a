use Rattle.std.proofs.Common.{◌-◌, ◌≤◌, length, arith}
use Rattle.lru_table.proofs.VacancyLemmas.{put_free, table_insert, below_insert}
use Rattle.lru_table.proofs.table.LruTable.insert.Goals as goal

pub invariant_of-self : goal.invariant_of-self
invariant_of-self g c = rw c.in_err-put.ensures.err c.self.invariant

pub invariant_of-self-2 : goal.invariant_of-self-2
invariant_of-self-2 g c =
    let vacant = rw (← c.self.view_is) at c.requires in
    let fits : length c.self.inside.cache.entries ≤ c.self.inside.cache.cap - 1 =
    omega (arith, c.len-len.ensures.len, c.len-len.ensures.fits, c.self.invariant.1) in
    rw (
      c.in_ok-put.ensures.entries,
      put_free c.self.inside.cache c.args.slot (c.args.key, c.args.value) vacant.free
          fits,
    ) (
      table_insert g.K.PartialEq.eq g.met.K.Eq.laws _ c.args.slot c.args.key c.args.value c.self.invariant.0 vacant,
      c.self.invariant.1,
      omega (arith, c.max-self-inside.ensures),
      below_insert c.self.inside.numbers c.max-self-inside.result _ c.args.slot (c.args.key, c.args.value)
          c.self.invariant.3 (omega (arith, c.max-self-inside.ensures)) (omega (arith, c.max-self-inside.ensures)),
    )

pub returns-clause-ok : goal.returns-clause-ok
returns-clause-ok g c =
    let vacant = rw (← c.self.view_is) at c.requires in
    let fits : length c.self.inside.cache.entries ≤ c.self.inside.cache.cap - 1 =
    omega (arith, c.len-len.ensures.len, c.len-len.ensures.fits, c.self.invariant.1) in
    rw (← c.self.view_is, c.in_ok-put.ensures.entries)
    (put_free c.self.inside.cache c.args.slot (c.args.key, c.args.value) vacant.free fits)
