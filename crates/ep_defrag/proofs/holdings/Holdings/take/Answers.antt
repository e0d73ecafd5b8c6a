use Rattle.std.proofs.Common.{◌≡◌, ℕ, ◌+◌, cond, refl, sym, ap, subst, ◌∙◌, arith}
use Rattle.lru_table.specs.LruTable.{without}
use Rattle.ep_defrag.specs.BoundedCounts.{AddUp}
use Rattle.ep_defrag.proofs.HeldNameLemmas.{Placed, HasBeside, open_once, open_in, has_without}
use Rattle.ep_defrag.proofs.HoldingsLemmas.{left_without}
use Rattle.ep_defrag.proofs.DepartureLemmas.{departed}
use Rattle.ep_defrag.proofs.holdings.Holdings.take.Given.{Over}
use Rattle.ep_defrag.proofs.holdings.Holdings.take.Goals.{then-is_some, else-is_some, After-room as AfterRemoval}
use Rattle.ep_defrag.proofs.holdings.Holdings.take.Goals as goal

-- the entry of the slot in the table before
entry : (g : Over) (c : AfterRemoval g)
    → Placed c.args.self.now.table c.args.slot (c.in_ok-id.id, c.in_ok-id.stream)
entry g c =
    c.places.ensures.taken c.args.self.now.table c.args.slot (c.in_ok-id.id, c.in_ok-id.stream)
    (sym c.in_ok-id.ensures.removed)

-- The sums of the table before, beside those of the table without the entry.
sums_without : (g : Over) (c : AfterRemoval g)
    → HasBeside c.args.self.now.table c.in_ok-id.stream (without c.args.slot c.args.self.now.table)
sums_without g c = has_without c.args.self.now.table c.args.slot (c.in_ok-id.id, c.in_ok-id.stream) (entry g c)

pub overflow_sub-self : goal.overflow_sub-self
overflow_sub-self g c =
    let sums = sums_without g (goal.at.overflow_sub-self g c).After-room in
    omega (arith, sums.room, c.args.self.now.room, c.room.ensures.shown)

pub invariant_of-self-then-is_some : goal.invariant_of-self-then-is_some
invariant_of-self-then-is_some g c =
    let self = c.args.self.now in
    let sums = sums_without g (goal.at.invariant_of-self-then-is_some g c).After-room in
    let rest : ℕ = open_in (without c.args.slot self.table) in
    let once : open_once c.in_ok-id.stream ≡ 1 =
    ap {B = ℕ} (λ b. cond b 1 0) (sym c.is_some.ensures ∙ c.if-is_some.true) in
    rw (c.remove.ensures.kept) (record {
      room = omega (arith, sums.room, self.room, c.room.ensures.shown);
      states = omega (arith, sums.streams, sums.len, self.states, once);
      reportable = omega (arith, sums.len, self.reportable);
      sums = rw (c.count_departure.ensures)
          (departed self.statistics c.args.departure rest
          (subst (AddUp self.statistics) (sums.streams ∙ ap {B = ℕ} (λ n. n + rest) once) self.sums));
    })

pub overflow_sub-self-else-is_some : goal.overflow_sub-self-else-is_some
overflow_sub-self-else-is_some g c =
    let self = c.args.self.now in
    let sums = sums_without g (goal.at.overflow_sub-self-else-is_some g c).After-room in
    let none : open_once c.in_ok-id.stream ≡ 0 =
    ap {B = ℕ} (λ b. cond b 1 0) (sym c.is_some.ensures ∙ c.if-is_some.false) in
    omega (arith, sums.streams, sums.len, sums.fit, self.states, none)

pub invariant_of-self-else-is_some : goal.invariant_of-self-else-is_some
invariant_of-self-else-is_some g c =
    let self = c.args.self.now in
    let sums = sums_without g (goal.at.invariant_of-self-else-is_some g c).After-room in
    let none : open_once c.in_ok-id.stream ≡ 0 =
    ap {B = ℕ} (λ b. cond b 1 0) (sym c.is_some.ensures ∙ c.if-is_some.false) in
    rw (c.remove.ensures.kept) (record {
      room = omega (arith, sums.room, self.room, c.room.ensures.shown);
      states = omega (arith, sums.streams, sums.len, sums.fit, self.states, none);
      reportable = omega (arith, sums.len, self.reportable);
      sums = subst (AddUp self.statistics) (omega (arith, sums.streams, none)) self.sums;
    })

pub returns-clause-vacated : goal.returns-clause-vacated
returns-clause-vacated g c = elim c.if-is_some.branch [
  | then-is_some w ↦ rw (w.self-is) c.remove.ensures.vacated
  | else-is_some w ↦ rw (w.self-is) c.remove.ensures.vacated
]

pub returns-clause-left : goal.returns-clause-left
returns-clause-left g c =
    let self = c.args.self.now in
    let placed = entry g (goal.at.returns-clause-left g c).After-room in
    elim c.if-is_some.branch [
      | then-is_some w ↦ rw (w.self-is) (left_without self _ c.args.slot _ placed c.remove.ensures.kept refl)
      | else-is_some w ↦ rw (w.self-is) (left_without self _ c.args.slot _ placed c.remove.ensures.kept refl)
    ]
