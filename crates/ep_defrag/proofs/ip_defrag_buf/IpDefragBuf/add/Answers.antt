use Rattle.std.proofs.Common.{List, ◌∙◌, inr, rules}
use Rattle.ep_defrag.specs.IpFragments.{IpFragment, fragment_with}
use Rattle.ep_defrag.specs.FragmentRefusals.{RefusesFragment}
use Rattle.ep_defrag.specs.Buffers.{HoldsFragments, IsUnchanged}
use Rattle.ep_defrag.proofs.BufferLemmas.{HoldsFragments-push, HoldsFragments-same, refusal_by_reach, failed_needs_memory}
use Rattle.ep_defrag.proofs.ip_defrag_buf.IpDefragBuf.add.Goals as goal

pub returns-in_err-range-clause-err : goal.returns-in_err-range-clause-err
returns-in_err-range-clause-err c = search rules

pub returns-in_err-range-clause-keeps : goal.returns-in_err-range-clause-keeps
returns-in_err-range-clause-keeps c = search rules

pub returns-clause-fits : goal.returns-clause-fits
returns-clause-fits c accepted holds =
    refusal_by_reach c.args.self.now c.reach.result c.reach.ensures accepted
    (fragment_with c.args.offset c.args.more_fragments c.args.payload.now) holds
    ∙ c.in_ok-range.ensures.answer

pub returns-clause-holds : goal.returns-clause-holds
returns-clause-holds c accepted holds =
    HoldsFragments-push c.args.self.now c.accept.new.self accepted
    (fragment_with c.args.offset c.args.more_fragments c.args.payload.now) holds
    (returns-clause-fits c accepted holds) (search rules) (search rules) (search rules)

pub returns-in_err-range-clause-refused : goal.returns-in_err-range-clause-refused
returns-in_err-range-clause-refused c =
    let fragment = fragment_with c.args.offset c.args.more_fragments c.args.payload.now in
    let refuses : (accepted : List IpFragment) → HoldsFragments c.args.self.now accepted
    → RefusesFragment accepted fragment c.in_err-range.field-0.0 = λ accepted holds.
    refusal_by_reach c.args.self.now c.reach.result c.reach.ensures accepted fragment holds
    ∙ c.in_err-range.ensures.answer in
    search (rules, refuses)

pub returns-then-is_err-clause-refused : goal.returns-then-is_err-clause-refused
returns-then-is_err-clause-refused c accepted holds =
    inr
    (failed_needs_memory c.args.self.now c.reach.result c.reach.ensures accepted
    (fragment_with c.args.offset c.args.more_fragments c.args.payload.now) holds
    c.in_ok-range.ensures.answer c.in_ok-range.range c.in_ok-range.ensures.ok _ c.is_err.result
    c.is_err.ensures.negation c.if-is_err.true
    c.accept.ensures.in_place c.from.result c.from.ensures)

pub returns-then-is_err-clause-keeps : goal.returns-then-is_err-clause-keeps
returns-then-is_err-clause-keeps c accepted holds =
    let same : IsUnchanged c.args.self.now c.accept.new.self = search rules in
    HoldsFragments-same c.args.self.now c.accept.new.self accepted holds same.contents same.sections same.end
