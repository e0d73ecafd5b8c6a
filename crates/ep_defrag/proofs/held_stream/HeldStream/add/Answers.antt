use Rattle.std.proofs.Common.{◌≡◌, ◌≤◌, ◌<◌, Bool, true, false, IsTrue, inl, inr, sym, ◌∙◌, arith}
use Rattle.std.proofs.lemmas.Bool.{cases_lt, false≢true}
use Rattle.ep_defrag.specs.IpFragments.{IpFragment, fragment_end}
use Rattle.ep_defrag.specs.declared.bounded_limits.DefragLimits.{DefragLimits}
use Rattle.ep_defrag.proofs.StreamAddingLemmas.{stream_discards, stream_rejects, stream_accepts}
use Rattle.ep_defrag.proofs.held_stream.HeldStream.add.Goals as goal

within : (limits : DefragLimits) (fragment : IpFragment) (long : Bool) → long ≡ false
    → (limits.payload < fragment_end fragment → IsTrue long) → fragment_end fragment ≤ limits.payload
within limits fragment long is_short says = elim (cases_lt limits.payload (fragment_end fragment)) [
  | inl above ↦ absurd (false≢true (sym is_short ∙ says above))
  | inr short ↦ short
]

pub returns-then-discards : goal.returns-then-discards
returns-then-discards c =
    stream_discards c.args.limits.now c.args.self.now c.in-Some.buffer c.args.fragment.now c.in-Some.is
    (within c.args.limits.now c.args.fragment.now c.is_too_long.result c.if-is_too_long.false c.is_too_long.ensures.1)
    (omega arith) c.discards.result c.discards.ensures c.if-discards.true

pub returns-in-Err : goal.returns-in-Err
returns-in-Err c =
    stream_rejects c.args.limits.now c.args.self.now c.in-Some.buffer c.args.fragment.now c.in-Some.is
    (within c.args.limits.now c.args.fragment.now c.is_too_long.result c.if-is_too_long.false c.is_too_long.ensures.1)
    (omega arith) c.discards.result c.discards.ensures c.if-discards.false c.add_kept.new.buffer c.in-Err.error
    c.in-Err.ensures.refused c.in-Err.ensures.err c.in-Err.ensures.err_capacity

pub returns-then-complete : goal.returns-then-complete
returns-then-complete c =
    stream_accepts c.args.limits.now c.args.self.now c.in-Some.buffer c.args.fragment.now c.in-Some.is
    (within c.args.limits.now c.args.fragment.now c.is_too_long.result c.if-is_too_long.false c.is_too_long.ensures.1)
    (omega arith) c.discards.result c.discards.ensures c.if-discards.false c.add_kept.new.buffer c.args.now true
    c.in_default-add_kept.ensures.fits c.in_default-add_kept.ensures.holds c.if-complete.ensures.complete

pub returns-else-complete : goal.returns-else-complete
returns-else-complete c =
    stream_accepts c.args.limits.now c.args.self.now c.in-Some.buffer c.args.fragment.now c.in-Some.is
    (within c.args.limits.now c.args.fragment.now c.is_too_long.result c.if-is_too_long.false c.is_too_long.ensures.1)
    (omega arith) c.discards.result c.discards.ensures c.if-discards.false c.add_kept.new.buffer c.args.now false
    c.in_default-add_kept.ensures.fits c.in_default-add_kept.ensures.holds c.if-complete.ensures.complete
