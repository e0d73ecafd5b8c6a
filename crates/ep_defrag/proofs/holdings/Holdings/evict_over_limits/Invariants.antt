use Rattle.std.proofs.Common.{length}
use Rattle.ep_defrag.specs.BoundedHoldings.{CanReport, AreLeft, names_held, EvictsForLimits}
use Rattle.ep_defrag.specs.declared.holdings.Holdings.{Holdings}
use Rattle.ep_defrag.proofs.holdings.Holdings.evict_over_limits.Given as goal

abbrev pub invariant-loop-cause : goal.invariant-loop-cause
invariant-loop-cause g l = CanReport l.self × AreLeft l.initial.self l.self
    × ((final : Holdings _ _ _) → EvictsForLimits g.CustomChannelId.PartialEq.eq l.limits (names_held l.self) l.self
    final
    → EvictsForLimits g.CustomChannelId.PartialEq.eq l.limits (names_held l.initial.self) l.initial.self final)

abbrev pub decreases-loop-cause : goal.decreases-loop-cause
decreases-loop-cause g l = length l.self.table
