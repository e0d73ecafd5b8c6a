use Rattle.std.proofs.Common.{refl, arith}
use Rattle.lru_table.proofs.TableLemmas.{table_nil, below_nil}
use Rattle.lru_table.proofs.table.LruTable.new.Goals as goal

pub invariant_of-result : goal.invariant_of-result
invariant_of-result g c =
    rw c.in_ok-unbounded_with_hasher.ensures (table_nil g.K.PartialEq.eq, refl, omega arith, below_nil 1)
