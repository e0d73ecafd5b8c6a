use Rattle.std.proofs.Common.{rules, ◌≡◌, length, arith}
use Rattle.etherparse_c.proofs.TagLemmas.{two_tags, three_tags, two_slots, three_slots, two_end, three_end}
use Rattle.etherparse_c.proofs.tags.describe_tags.Goals as goal

pub returns-in_default-split_first-2-clause-slots :
    goal.returns-in_default-split_first-2-clause-slots
returns-in_default-split_first-2-clause-slots g c =
    let none : length c.in-Some-split_first.others.now ≡ 0 = search rules in
    two_slots g.Slice.TagSlice.extension c.args.offset
    (two_tags c.in-Some.ensures.cases.0 c.in-Some-split_first.ensures.cases.0 none)
    c.tag_part-outer.ensures c.tag_part-middle.ensures c.no_tag-in_default-split_first-2-2.ensures

pub returns-in_default-split_first-2-clause-end : goal.returns-in_default-split_first-2-clause-end
returns-in_default-split_first-2-clause-end g c =
    let none : length c.in-Some-split_first.others.now ≡ 0 = search rules in
    two_end g.Slice.TagSlice.extension c.args.offset
    (two_tags c.in-Some.ensures.cases.0 c.in-Some-split_first.ensures.cases.0 none)
    c.tag_part-outer.ensures c.tag_part-middle.ensures

pub overflow_add-end : goal.overflow_add-end
overflow_add-end g c =
    let same = three_tags c.in-Some.ensures.cases.0 c.in-Some-split_first.ensures.cases.0
    c.in-Some-split_first-2.ensures.cases.0 c.requires.most in
    omega (
      arith,
      three_end g.Slice.TagSlice.extension c.args.offset same c.tag_part-outer.ensures c.tag_part-middle.ensures
          c.tag_part-inner.ensures,
      c.requires.place,
    )

pub returns-clause-slots : goal.returns-clause-slots
returns-clause-slots g c =
    let same = three_tags c.in-Some.ensures.cases.0 c.in-Some-split_first.ensures.cases.0
    c.in-Some-split_first-2.ensures.cases.0 c.requires.most in
    three_slots g.Slice.TagSlice.extension c.args.offset same c.tag_part-outer.ensures c.tag_part-middle.ensures
    c.tag_part-inner.ensures

pub returns-clause-end : goal.returns-clause-end
returns-clause-end g c =
    let same = three_tags c.in-Some.ensures.cases.0 c.in-Some-split_first.ensures.cases.0
    c.in-Some-split_first-2.ensures.cases.0 c.requires.most in
    three_end g.Slice.TagSlice.extension c.args.offset same c.tag_part-outer.ensures c.tag_part-middle.ensures
    c.tag_part-inner.ensures
