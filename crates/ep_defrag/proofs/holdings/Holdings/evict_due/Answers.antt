use Rattle.std.proofs.Common.{arith, inl, inr, refl, sym, subst, ◌∙◌}
use Rattle.ep_defrag.specs.BoundedCounts.{AddUp}
use Rattle.ep_defrag.proofs.HeldNameLemmas.{has_touched}
use Rattle.ep_defrag.proofs.StreamEntryLemmas.{oldest_taken, oldest_none}
use Rattle.ep_defrag.proofs.HoldingsLemmas.{left_touched}
use Rattle.ep_defrag.proofs.StreamWalkLemmas.{oldest_at, visits_none, visits_due, visits_other, visits_all}
use Rattle.ep_defrag.proofs.holdings.Holdings.evict_due.Goals.{then-is_due, else-is_due}
use Rattle.ep_defrag.proofs.holdings.Holdings.evict_due.Goals as goal

pub evict-requires-clause-taken : goal.evict-requires-clause-taken
evict-requires-clause-taken g c =
    oldest_taken c.loop-visited.self.table c.in-Some.slot c.walks.ensures.found c.in-Some.ensures

pub invariant_of-self : goal.invariant_of-self
invariant_of-self g c =
    let self = c.loop-visited.self in
    let taken = oldest_taken self.table c.in-Some.slot c.walks.ensures.found c.in-Some.ensures in
    let placed = c.places.ensures.taken self.table c.in-Some.slot taken.0 taken.1 in
    let same = has_touched self.table c.in-Some.slot taken.0 placed in
    rw (c.touch.ensures) (record {
      room = self.room ∙ sym same.room;
      states = omega (arith, self.states, same.streams, same.len);
      reportable = omega (arith, self.reportable, same.len);
      sums = subst (AddUp self.statistics) (sym same.streams) self.sums;
    })

pub loop-visited-init : goal.loop-visited-init
loop-visited-init g c =
    visits_none _ _ _ c.args.self.now c.fit.ensures (omega (arith, c.requires, c.args.self.now.reportable))

pub loop-visited-preserved : goal.loop-visited-preserved
loop-visited-preserved g c =
    let initial = c.args.self.now in
    let self = c.loop-visited.self in
    let oldest = oldest_at self.table c.in-Some.slot c.walks.ensures.found c.walks.ensures.touched
    c.walks.ensures.removed c.in-Some.ensures in
    let is = rw oldest.found at c.is_due.ensures in
    elim c.if-is_due.branch [
      | then-is_due w ↦
          let gone = rw oldest.found at w.evict.ensures.evicted in
          rw (w.self-is)
          (visits_due _ _ _ initial self c.loop-visited._visited c.in-Some.slot oldest c.loop-visited.invariant
          (omega (arith, c.len-visited-end.ensures.len, c.loop-visited-test.true)) w.evict.new.self
          (sym is ∙ w.if-is_due.true) gone w.evict.ensures.left)
      | else-is_due w ↦
          let placed = c.places.ensures.taken self.table c.in-Some.slot oldest.name oldest.found in
          rw (w.self-is)
          (visits_other _ _ _ initial self c.loop-visited._visited c.in-Some.slot oldest c.loop-visited.invariant
          (omega (arith, c.len-visited-end.ensures.len, c.loop-visited-test.true)) _
          (sym is ∙ w.if-is_due.false) w.touch.ensures refl refl
          (left_touched self _ c.in-Some.slot oldest.name placed w.touch.ensures refl))
    ]

pub returns-in_default-clause-due : goal.returns-in_default-clause-due
returns-in_default-clause-due g c =
    visits_all _ _ _ _ _ _ c.loop-visited.invariant
    (inl (oldest_none c.loop-visited.self.table c.in_default.ensures))

pub returns-in_default-clause-left : goal.returns-in_default-clause-left
returns-in_default-clause-left g c = c.loop-visited.invariant.left

pub returns-clause-due : goal.returns-clause-due
returns-clause-due g c =
    visits_all _ _ _ _ _ _ c.loop-visited.invariant
    (inr (omega (arith, c.len-visited-end.ensures.len)))

pub returns-clause-left : goal.returns-clause-left
returns-clause-left g c = c.loop-visited.invariant.left
