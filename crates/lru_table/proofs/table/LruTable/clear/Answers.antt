use Rattle.lru_table.proofs.TableLemmas.{table_nil, below_nil}
use Rattle.lru_table.proofs.table.LruTable.clear.Goals as goal

pub invariant_of-self : goal.invariant_of-self
invariant_of-self g c =
    rw c.clear.ensures (
      table_nil g.K.PartialEq.eq,
      c.self.invariant.1,
      c.self.invariant.2,
      below_nil
          c.self.inside.numbers,
    )
