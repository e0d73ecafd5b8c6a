use Rattle.std.proofs.Common.{reverse}
use Rattle.lru_table.proofs.SearchLemmas.{IsSearched}
use Rattle.lru_table.proofs.table.LruTable.find_value.Given as goal

abbrev pub invariant-loop-number : goal.invariant-loop-number
invariant-loop-number g l =
    IsSearched g.K.PartialEq.eq (reverse l.self-inside.cache.entries) l.hash l.key l.self-inside.numbers l.number l.free
