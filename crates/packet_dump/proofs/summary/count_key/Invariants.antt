use Rattle.std.proofs.Common.{◌≡◌, ◌++◌, drop, take}
use Rattle.packet_dump.specs.Summaries.{with_one}
use Rattle.packet_dump.proofs.summary.count_key.Given as goal

-- The entries so far have other keys.
abbrev pub invariant-loop-index : goal.invariant-loop-index
invariant-loop-index g l =
    take l.index l.counts.items ++ with_one g.K.PartialEq.eq l.key (drop l.index l.counts.items)
    ≡ with_one g.K.PartialEq.eq l.key l.initial.counts.items
