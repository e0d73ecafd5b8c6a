use Rattle.std.proofs.Common.{◌≡◌, ◌+◌, ◌-◌, ◌<◌, ap, refl, nat_le, get_or, inl, inr, arith, rules}
use Rattle.std.proofs.lemmas.Bool.{cases_lt, leb-true, leb-false}
use Rattle.std.proofs.lemmas.List.Sorted.{IsPartitionPoint-from_clause, IsPartitionedBy-leb}
use Rattle.ep_defrag.specs.declared.ip_frag_range.IpFragRange.{IpFragRange}
use Rattle.ep_defrag.proofs.ApartLemmas.{starts_rise}
use Rattle.ep_defrag.proofs.JoiningLemmas.{near_from_place}
use Rattle.ep_defrag.proofs.ip_defrag_sections.find_end_of_neighbours.Goals as goal

pub returns-then-starts_after : goal.returns-then-starts_after
returns-then-starts_after c = record {
  near = near_from_place c.args.range c.args.sections.now c.requires.separate c.args.from c.args.from (omega arith)
      c.requires.within c.requires.earlier c.requires.rest
      (λ d more. absurd (omega arith))
      (λ d more. c.if-starts_after.ensures.yes refl more d);
}

pub returns-then-starts_after-2 : goal.returns-then-starts_after-2
returns-then-starts_after-2 c =
    let last = c.if-starts_after.ensures.no refl in
    let place : c.args.from + 1 - 1 ≡ c.args.from = omega arith in
    record {
      near = near_from_place c.args.range c.args.sections.now c.requires.separate c.args.from (c.args.from + 1)
          (omega arith)
          (omega (arith, last.0)) c.requires.earlier c.requires.rest
          (λ d more. omega (arith, last.1 d, ap (λ at. (get_or c.args.sections.now at d).start) place))
          (λ d more. c.if-starts_after-2.ensures.yes refl more d);
    }

pub returns-then-starts_after-3 : goal.returns-then-starts_after-3
returns-then-starts_after-3 c =
    let last = c.if-starts_after-2.ensures.no refl in
    let place : c.args.from + 2 - 1 ≡ c.args.from + 1 = omega arith in
    record {
      near = near_from_place c.args.range c.args.sections.now c.requires.separate c.args.from (c.args.from + 2)
          (omega arith)
          (omega (arith, last.0)) c.requires.earlier c.requires.rest
          (λ d more. omega (arith, last.1 d, ap (λ at. (get_or c.args.sections.now at d).start) place))
          (λ d more. c.if-starts_after-3.ensures.yes refl more d);
    }

pub returns : goal.returns
returns c =
    let range = c.args.range in
    let sections = c.args.sections.now in
    let last = c.if-starts_after-3.ensures.no refl in
    let to = c.partition_point.result in
    let point = IsPartitionPoint-from_clause (λ (section : IpFragRange). nat_le section.start range.end) sections to
    c.partition_point.ensures.partitioned
    (IsPartitionedBy-leb (λ (section : IpFragRange). section.start) sections range.end
    (starts_rise sections c.requires.separate))
    (λ a r f called. search rules) in
    let order : c.args.from + 2 < to = elim (cases_lt (c.args.from + 2) to) [
      | inl after ↦ after
      | inr before ↦ absurd (omega (
        arith,
        last.1 range,
        leb-false _ _ (point.1 (c.args.from + 2) range before last.0),
      ))
    ] in
    record {
      near = near_from_place range sections c.requires.separate c.args.from to (omega arith)
          c.partition_point.ensures.bound c.requires.earlier c.requires.rest
          (λ d more. leb-true _ _ (point.0 (to - 1) d (omega arith) (omega arith)))
          (λ d more. leb-false _ _ (point.1 to d (omega arith) more));
    }
