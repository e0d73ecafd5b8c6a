use Rattle.std.proofs.Common.{List, rules}
use Rattle.ep_defrag.specs.IpFragments.{IpFragment, fragment_with}
use Rattle.ep_defrag.specs.FragmentRefusals.{Fits, RefusesFragment}
use Rattle.ep_defrag.specs.Buffers.{HoldsFragments}
use Rattle.ep_defrag.proofs.BufferLemmas.{data_len}
use Rattle.ep_defrag.proofs.ip_defrag_buf.IpDefragBuf.check.Goals as goal

pub returns-in_err-checked_range : goal.returns-in_err-checked_range
returns-in_err-checked_range c =
    let fragment = fragment_with c.args.offset c.args.more_fragments c.args.payload.now in
    let refuses : (accepted : List IpFragment) → HoldsFragments c.args.self.now accepted
    → RefusesFragment accepted fragment c.in_err-checked_range.field-0.0 = λ accepted holds.
    rw (← holds.end, ← data_len c.args.self.now accepted holds, ← c.reach.ensures)
    c.in_err-checked_range.ensures.answer in
    search (rules, refuses)

pub returns : goal.returns
returns c =
    let fragment = fragment_with c.args.offset c.args.more_fragments c.args.payload.now in
    let fits : (accepted : List IpFragment) → HoldsFragments c.args.self.now accepted → Fits accepted fragment =
    λ accepted holds.
    rw (← holds.end, ← data_len c.args.self.now accepted holds, ← c.reach.ensures)
    c.in_ok-checked_range.ensures.answer in
    search (rules, fits)
