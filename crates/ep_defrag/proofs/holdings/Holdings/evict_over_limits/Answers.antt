use Rattle.std.proofs.Common.{ℕ, ◌∷◌, [], length, ap, arith}
use Rattle.std.proofs.lemmas.List.{length-append}
use Rattle.ep_defrag.specs.BoundedHoldings.{report_of}
use Rattle.ep_defrag.proofs.StreamEntryLemmas.{oldest_taken, oldest_shorter}
use Rattle.ep_defrag.proofs.HoldingsLemmas.{left_then}
use Rattle.ep_defrag.proofs.LimitHoldingLemmas.{evicts_none, oldest_evicted}
use Rattle.ep_defrag.proofs.holdings.Holdings.evict_over_limits.Goals as goal

pub evict-requires-clause-taken : goal.evict-requires-clause-taken
evict-requires-clause-taken g c =
    oldest_taken c.loop-cause.self.table c.in-Some-oldest.slot c.walks.ensures.found c.in-Some-oldest.ensures

pub loop-cause-smaller : goal.loop-cause-smaller
loop-cause-smaller g c =
    let taken =
    oldest_taken c.loop-cause.self.table c.in-Some-oldest.slot c.walks.ensures.found c.in-Some-oldest.ensures in
    let gone = rw taken.1 at c.evict.ensures.evicted in
    omega (
      arith,
      oldest_shorter c.loop-cause.self.table c.in-Some-oldest.slot c.walks.ensures.removed c.in-Some-oldest.ensures,
      ap {B = ℕ} (λ entries. length entries) gone.table,
    )

pub loop-cause-preserved : goal.loop-cause-preserved
loop-cause-preserved g c =
    let taken =
    oldest_taken c.loop-cause.self.table c.in-Some-oldest.slot c.walks.ensures.found c.in-Some-oldest.ensures in
    let gone = rw taken.1 at c.evict.ensures.evicted in (
      omega (
        arith,
        c.loop-cause.invariant.0,
        oldest_shorter c.loop-cause.self.table c.in-Some-oldest.slot c.walks.ensures.removed c.in-Some-oldest.ensures,
        ap {B = ℕ} (λ entries. length entries) gone.table,
        ap {B = ℕ} (λ items. length items) gone.evicted,
        length-append c.loop-cause.self.evicted.items (report_of taken.0 c.in-Some.cause ∷ []),
        gone.capacity,
      ),
      left_then _ _ _ c.loop-cause.invariant.1 c.evict.ensures.left,
      λ final later. c.loop-cause.invariant.2 final
          (oldest_evicted g.CustomChannelId.PartialEq.eq g.met.CustomChannelId.Eq.laws c.args.limits.now
          c.loop-cause.self c.evict.new.self final c.in-Some-oldest.slot taken.0 c.in-Some.cause taken.1
          c.walks.ensures.found c.walks.ensures.removed c.in-Some-oldest.ensures
          (λ rows all. c.in-Some.ensures.cause rows all) gone later),
    )

pub returns-clause-evicted : goal.returns-clause-evicted
returns-clause-evicted g c =
    c.loop-cause.invariant.2 c.loop-cause.self
    (evicts_none g.CustomChannelId.PartialEq.eq g.met.CustomChannelId.Eq.laws c.args.limits.now c.loop-cause.self
    c.fit.ensures (λ rows all. c.in_default.ensures.cause rows all))
