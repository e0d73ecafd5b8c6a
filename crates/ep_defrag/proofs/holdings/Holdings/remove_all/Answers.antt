use Rattle.std.proofs.Common.{ℕ, length, ap, arith}
use Rattle.ep_defrag.proofs.StreamEntryLemmas.{oldest_taken, oldest_none, oldest_shorter}
use Rattle.ep_defrag.proofs.StreamWalkLemmas.{oldest_at, removes_none, removes_oldest, removes_all}
use Rattle.ep_defrag.proofs.holdings.Holdings.remove_all.Goals as goal

pub remove-requires : goal.remove-requires
remove-requires g c = oldest_taken c.loop-slot.self.table c.in-Some.slot c.walks.ensures.found c.in-Some.ensures

pub loop-slot-smaller : goal.loop-slot-smaller
loop-slot-smaller g c =
    let taken = oldest_taken c.loop-slot.self.table c.in-Some.slot c.walks.ensures.found c.in-Some.ensures in
    let gone = rw taken.1 at c.remove.ensures.removed in
    omega (
      arith,
      oldest_shorter c.loop-slot.self.table c.in-Some.slot c.walks.ensures.removed c.in-Some.ensures,
      ap {B = ℕ} (λ entries. length entries) gone.table,
    )

pub loop-slot-init : goal.loop-slot-init
loop-slot-init g c = removes_none c.args.self.now

pub loop-slot-preserved : goal.loop-slot-preserved
loop-slot-preserved g c =
    let oldest = oldest_at c.loop-slot.self.table c.in-Some.slot c.walks.ensures.found c.walks.ensures.touched
    c.walks.ensures.removed c.in-Some.ensures in
    let gone = rw oldest.found at c.remove.ensures.removed in
    removes_oldest _ _ _ c.in-Some.slot oldest c.loop-slot.invariant gone c.remove.ensures.left

pub returns-clause-removed : goal.returns-clause-removed
returns-clause-removed g c =
    removes_all _ _ (oldest_none c.loop-slot.self.table c.in_default.ensures) c.fit.ensures c.loop-slot.invariant

pub returns-clause-left : goal.returns-clause-left
returns-clause-left g c = c.loop-slot.invariant.left
