use Rattle.std.proofs.Common.{◌≡◌, ◌<◌, ◌+◌, set, refl, rules, arith}
use Rattle.std.specs.List.{remove_range}
use Rattle.ep_defrag.specs.Ranges.{hull, AreSeparate}
use Rattle.std.proofs.lemmas.Bool.Decides.{nat_tests}
use Rattle.ep_defrag.proofs.JoiningLemmas.{insert_joins, insert_apart, union_joins, union_apart}
use Rattle.ep_defrag.proofs.ip_defrag_sections.join.Goals as goal

pub returns-then-is_empty-clause-items : goal.returns-then-is_empty-clause-items
returns-then-is_empty-clause-items c =
    let near = c.requires.near in
    let same : c.args.near.start ≡ c.args.near.end = grind (arith, nat_tests, near.order) in
    insert_joins c.args.range c.requires.ordered c.args.sections.now.items c.requires.separate c.args.near.start
    c.args.near.end near c.insert.new.self.items same (search rules)

pub returns-then-is_empty-clause-separate : goal.returns-then-is_empty-clause-separate
returns-then-is_empty-clause-separate c =
    let near = c.requires.near in
    let same : c.args.near.start ≡ c.args.near.end = grind (arith, nat_tests, near.order) in
    insert_apart c.args.range c.requires.ordered c.args.sections.now.items c.requires.separate c.args.near.start
    c.args.near.end near c.insert.new.self.items same (search rules)

pub returns-clause-items : goal.returns-clause-items
returns-clause-items c =
    let some : c.args.near.start < c.args.near.end = grind (arith, nat_tests) in
    union_joins c.args.range c.requires.ordered c.args.sections.now.items c.requires.separate c.args.near.start
    c.args.near.end c.requires.near _ some c.index-first.result.now c.index-last.result.now (search rules)
    (search rules) (search rules)

pub returns-clause-separate : goal.returns-clause-separate
returns-clause-separate c =
    let range = c.args.range in
    let sections = c.args.sections.now.items in
    let from = c.args.near.start in
    let to = c.args.near.end in
    let some : from < to = grind (arith, nat_tests) in
    let union = hull (hull range c.index-first.result.now) c.index-last.result.now in
    let left = remove_range (set sections from union) (from + 1) to in
    let apart : AreSeparate left =
    union_apart range c.requires.ordered sections c.requires.separate from to c.requires.near left some
    c.index-first.result.now c.index-last.result.now (search rules) (search rules) refl in
    search (rules, apart)
