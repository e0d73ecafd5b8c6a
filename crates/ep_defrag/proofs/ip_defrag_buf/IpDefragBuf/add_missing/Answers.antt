use Rattle.std.proofs.Common.{List, ◌∙◌, inr, rules}
use Rattle.ep_defrag.specs.IpFragments.{IpFragment, fragment_with}
use Rattle.ep_defrag.specs.FragmentRefusals.{RefusesFragment}
use Rattle.ep_defrag.specs.Buffers.{HoldsFragments}
use Rattle.ep_defrag.proofs.BufferLemmas.{refusal_by_reach, failed_needs_memory}
use Rattle.ep_defrag.proofs.BoundedOverlapLemmas.{HoldsFragments-missing}
use Rattle.ep_defrag.proofs.ip_defrag_buf.IpDefragBuf.add_missing.Goals as goal

pub returns-in_err-filled-clause-refused : goal.returns-in_err-filled-clause-refused
returns-in_err-filled-clause-refused c =
    let fragment = fragment_with c.args.offset c.args.more_fragments c.args.payload.now in
    let refuses : (accepted : List IpFragment) → HoldsFragments c.args.self.now accepted
    → RefusesFragment accepted fragment c.in_err-filled.field-0.0 = λ accepted holds.
    refusal_by_reach c.args.self.now c.reach.result c.reach.ensures accepted fragment holds
    ∙ c.in_err-filled.ensures.answer in
    search (rules, refuses)

pub returns-clause-fits : goal.returns-clause-fits
returns-clause-fits c accepted holds =
    refusal_by_reach c.args.self.now c.reach.result c.reach.ensures accepted
    (fragment_with c.args.offset c.args.more_fragments c.args.payload.now) holds
    ∙ c.in_ok-filled.ensures.answer

pub returns-clause-holds : goal.returns-clause-holds
returns-clause-holds c accepted holds =
    HoldsFragments-missing c.args.self.now c.accept_missing.new.self accepted
    (fragment_with c.args.offset c.args.more_fragments c.args.payload.now) holds
    (returns-clause-fits c accepted holds) (search rules) (search rules) (search rules)

pub returns-then-is_err-clause-refused : goal.returns-then-is_err-clause-refused
returns-then-is_err-clause-refused c accepted holds =
    inr
    (failed_needs_memory c.args.self.now c.reach.result c.reach.ensures accepted
    (fragment_with c.args.offset c.args.more_fragments c.args.payload.now) holds
    c.in_ok-filled.ensures.answer c.in_ok-filled.filled c.in_ok-filled.ensures.ok _ c.is_err.result
    c.is_err.ensures.negation c.if-is_err.true
    c.accept_missing.ensures.in_place c.from.result c.from.ensures)
