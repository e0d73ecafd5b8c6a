use Rattle.std.proofs.Common.{length, nat_lt, rules}
use Rattle.std.proofs.lemmas.Bool.{ltb-true, ltb-false}
use Rattle.std.proofs.lemmas.List.Sorted.{IsPartitionPoint-from_clause, IsPartitionedBy-ltb}
use Rattle.ep_defrag.specs.declared.ip_frag_range.IpFragRange.{IpFragRange}
use Rattle.ep_defrag.proofs.ApartLemmas.{ends_rise}
use Rattle.ep_defrag.proofs.JoiningLemmas.{near_at_end, near_in_last, some_between}
use Rattle.ep_defrag.proofs.ip_defrag_sections.neighbours.Goals as goal

pub returns-then-last-range-clause-near : goal.returns-then-last-range-clause-near
returns-then-last-range-clause-near c =
    near_at_end c.args.range c.args.sections.now c.requires.separate _ c.if-count-eq0.false
    c.if-last-range.true

pub returns-then-last-range-clause-merging : goal.returns-then-last-range-clause-merging
returns-then-last-range-clause-merging c merging =
    some_between c.args.range c.requires.ordered c.args.sections.now c.requires.separate
    (length c.args.sections.now) (length c.args.sections.now)
    (returns-then-last-range-clause-near c) merging

pub returns-then-last-range-2-clause-near : goal.returns-then-last-range-2-clause-near
returns-then-last-range-2-clause-near c =
    near_in_last c.args.range c.requires.ordered c.args.sections.now c.requires.separate _ c.if-count-eq0.false
    c.if-last-range.false c.if-last-range-2.true

pub find_end_of_neighbours-to-requires-clause-earlier : goal.find_end_of_neighbours-to-requires-clause-earlier
find_end_of_neighbours-to-requires-clause-earlier c k d low high =
    ltb-true _ _
    ((IsPartitionPoint-from_clause (λ (section : IpFragRange). nat_lt section.end c.args.range.start)
    c.args.sections.now c.partition_point-from.result c.partition_point-from.ensures.partitioned
    (IsPartitionedBy-ltb (λ (section : IpFragRange). section.end) c.args.sections.now c.args.range.start
    (ends_rise c.args.sections.now c.requires.separate))
    (λ a r f called. search rules)).0 k d low high)

pub find_end_of_neighbours-to-requires-clause-rest : goal.find_end_of_neighbours-to-requires-clause-rest
find_end_of_neighbours-to-requires-clause-rest c k d low high =
    ltb-false _ _
    ((IsPartitionPoint-from_clause (λ (section : IpFragRange). nat_lt section.end c.args.range.start)
    c.args.sections.now c.partition_point-from.result c.partition_point-from.ensures.partitioned
    (IsPartitionedBy-ltb (λ (section : IpFragRange). section.end) c.args.sections.now c.args.range.start
    (ends_rise c.args.sections.now c.requires.separate))
    (λ a r f called. search rules)).1 k d low high)

pub returns-clause-merging : goal.returns-clause-merging
returns-clause-merging c merging =
    some_between c.args.range c.requires.ordered c.args.sections.now c.requires.separate c.partition_point-from.result
    c.find_end_of_neighbours-to.result c.find_end_of_neighbours-to.ensures.near merging
