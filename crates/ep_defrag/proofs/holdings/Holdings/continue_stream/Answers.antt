use Rattle.std.proofs.Common.{◌≡◌, ℕ, ◌+◌, true, false, cond, is_some, Option}
use Rattle.std.proofs.Common.{refl, sym, ap, subst, ◌∙◌, arith}
use Rattle.ep_defrag.specs.declared.held_stream.HeldStream.{HeldStream}
use Rattle.ep_defrag.specs.declared.departure.Departure.TheVariants.{Completed, Evicted}
use Rattle.ep_defrag.specs.declared.evicted_stream.EvictionCause.TheVariants.{Overlap}
use Rattle.ep_defrag.specs.BoundedCounts.{AddUp, counted}
use Rattle.std.specs.Option.{option_map_or}
use Rattle.lru_table.specs.LruTable.{with_value}
use Rattle.ep_defrag.specs.Capacities.{room_of}
use Rattle.ep_defrag.specs.BoundedAdding.{StreamRejects, StreamDiscards, StreamAccepts}
use Rattle.ep_defrag.specs.BoundedNames.{AreHashed, names_of, held_room}
use Rattle.ep_defrag.specs.Streams.{same_stream}
use Rattle.ep_defrag.proofs.HeldNameLemmas.{StreamEntries, Placed, open_once, open_in}
use Rattle.ep_defrag.proofs.StreamWrittenLemmas.{WrittenSums, WrittenHoldings, written_sums, written_holdings}
use Rattle.ep_defrag.proofs.StreamWrittenLemmas.{within_written, within_without}
use Rattle.ep_defrag.proofs.StreamEntryLemmas.{hashed_written}
use Rattle.ep_defrag.proofs.HoldingsLemmas.{few_from, hashed_left}
use Rattle.ep_defrag.proofs.DepartureLemmas.{departed}
use Rattle.ep_defrag.proofs.FragmentStepLemmas.{not_begun}
use Rattle.ep_defrag.proofs.FragmentHoldingLemmas.{rejects, discards}
use Rattle.ep_defrag.proofs.FragmentTakingLemmas.{open_departure, takes_complete, takes_rest, accepted_present}
use Rattle.ep_defrag.proofs.holdings.Holdings.continue_stream.Given.{Over}
use Rattle.ep_defrag.proofs.holdings.Holdings.continue_stream.Goals.{After-room-room as AfterAdding}
use Rattle.ep_defrag.proofs.holdings.Holdings.continue_stream.Goals as goal

-- the entry of the slot in the table
entry : (g : Over) (c : AfterAdding g) → Placed c.args.self.now.table c.args.slot c.requires.present.0
entry g c = c.places.ensures.taken c.args.self.now.table c.args.slot c.requires.present.0 c.requires.present.1

-- The stream that the slot lends is the stream of the entry.
lent : (g : Over) (c : AfterAdding g) → c.in-Some.stream.now ≡ c.requires.present.0.1
lent g c = let value = rw c.requires.present.1 at c.in-Some.ensures.value in cc

-- The name of the entry is that of the fragment.
alike : (g : Over) (c : AfterAdding g)
    → same_stream g.CustomChannelId.PartialEq.eq c.args.id c.requires.present.0.0 ≡ true
alike g c = sym (c.names.ensures c.args.id c.requires.present.0.0) ∙ c.requires.present.2

-- The sums of the table after the fragment was added to the stream.
written : (g : Over) (c : AfterAdding g)
    → WrittenSums c.args.self.now.table c.args.slot c.requires.present.0 c.add-added.new.self (entry g c)
written g c =
    written_sums c.args.self.now.table c.args.slot c.requires.present.0 c.add-added.new.self (entry g c)

-- The invariant after the fragment, if the stream stays as open as it was.
stays : (g : Over) (c : AfterAdding g) → open_once c.add-added.new.self ≡ open_once c.in-Some.stream.now
    → WrittenHoldings c.args.self.now c.args.slot c.requires.present.0 c.add-added.new.self (entry g c)
    c.room-room_before.result c.room-room.result
stays g c once =
    written_holdings c.args.self.now c.args.slot c.requires.present.0 c.add-added.new.self (entry g c) _ _
    (c.room-room_before.ensures.shown ∙ ap {B = ℕ} (λ (s : HeldStream). held_room s) (lent g c))
    c.room-room.ensures.shown (once ∙ ap (λ (s : HeldStream). open_once s) (lent g c))

-- The names are hashed after the fragment, as they were before.
hashed_after : (g : Over) (c : AfterAdding g)
    → AreHashed g.CustomChannelId.Hash.hash_input c.args.self.now.keys c.args.self.now.table
    → AreHashed g.CustomChannelId.Hash.hash_input c.args.self.now.keys
    (with_value c.args.slot c.add-added.new.self c.args.self.now.table)
hashed_after g c =
    hashed_written g.CustomChannelId.Hash.hash_input c.args.self.now.keys c.args.self.now.table c.args.slot
    c.requires.present.0 c.add-added.new.self (entry g c)

pub overflow_sub-self : goal.overflow_sub-self
overflow_sub-self g c =
    let at = (goal.at.overflow_sub-self g c).After-room-room in
    let self = c.args.self.now in
    let sums = written g at in
    omega (
      arith,
      sums.small,
      self.room,
      c.room-room_before.ensures.shown,
      ap {B = ℕ} (λ (s : HeldStream). held_room s) (lent g at),
    )

pub invariant_of-self-in-Rejected-1 : goal.invariant_of-self-in-Rejected-1
invariant_of-self-in-Rejected-1 g c =
    let kept =
    stays g (goal.at.invariant_of-self-in-Rejected-1 g c).After-room-room
    (ap {B = ℕ} (λ b. cond b 1 0) c.in-Rejected.ensures.state) in
    record { room = kept.room; states = kept.states; reportable = kept.reportable; sums = kept.sums }

pub invariant_of-self-in-Discards : goal.invariant_of-self-in-Discards
invariant_of-self-in-Discards g c =
    let at = (goal.at.invariant_of-self-in-Discards g c).After-room-room in
    let self = c.args.self.now in
    let name = c.requires.present.0 in
    let sums = written g at in
    let once : open_once name.1 ≡ 1 =
    sym (ap (λ (s : HeldStream). open_once s) (lent g at))
    ∙ ap {B = ℕ} (λ b. cond b 1 0) c.in-Discards.ensures.was_open in
    let none : open_once c.add-added.new.self ≡ 0 =
    ap {B = ℕ} (λ (b : Option _). cond (is_some b) 1 0) c.in-Discards.ensures.freed in
    let opens : open_in self.table ≡ 1 + open_in (with_value c.args.slot c.add-added.new.self self.table) =
    omega (arith, sums.streams, once, none) in
    record {
      room = omega (
        arith,
        sums.room,
        sums.small,
        self.room,
        c.room-room_before.ensures.shown,
        c.room-room.ensures.shown,
        ap {B = ℕ} (λ (s : HeldStream). held_room s) (lent g at),
      );
      states = omega (arith, opens, sums.len, self.states);
      reportable = omega (arith, sums.len, self.reportable, c.push_reserved.ensures.capacity);
      sums = rw (c.count_gone.ensures)
          (departed self.statistics (Evicted Overlap) _ (subst (AddUp self.statistics) opens self.sums));
    }

pub invariant_of-self-in-Completes : goal.invariant_of-self-in-Completes
invariant_of-self-in-Completes g c =
    let kept =
    stays g (goal.at.invariant_of-self-in-Completes g c).After-room-room
    (ap {B = ℕ} (λ b. cond b 1 0) (c.in-Completes.ensures.is_open ∙ sym c.in-Completes.ensures.was_open)) in
    record { room = kept.room; states = kept.states; reportable = kept.reportable; sums = kept.sums }

pub invariant_of-self-in-Continues : goal.invariant_of-self-in-Continues
invariant_of-self-in-Continues g c =
    let kept =
    stays g (goal.at.invariant_of-self-in-Continues g c).After-room-room
    (ap {B = ℕ} (λ b. cond b 1 0) (c.in-Continues.ensures.is_open ∙ sym c.in-Continues.ensures.was_open)) in
    record { room = kept.room; states = kept.states; reportable = kept.reportable; sums = kept.sums }

pub settle-requires-clause-taken : goal.settle-requires-clause-taken
settle-requires-clause-taken g c =
    let placed = entry g (goal.at.settle-requires-clause-taken g c).After-room-room in
    ((c.requires.present.0.0, c.add-added.new.self), (placed.3 c.add-added.new.self).found)

pub settle-requires-clause-few : goal.settle-requires-clause-few
settle-requires-clause-few g c =
    let sums = written g (goal.at.settle-requires-clause-few g c).After-room-room in
    omega (arith, sums.len, few_from c.args.limits.now c.args.self.now c.requires.within)

pub returns-in-Rejected-clause-takes : goal.returns-in-Rejected-clause-takes
returns-in-Rejected-clause-takes g c =
    let at = (goal.at.returns-in-Rejected-clause-takes g c).After-room-room in
    rejects g.CustomChannelId.PartialEq.eq g.met.CustomChannelId.Eq.laws c.args.limits.now c.args.self.now c.args.id
    c.args.fragment.now c.args.now c.args.slot c.requires.present.0 (entry g at) (alike g at) _
    c.add-added.new.self refl refl refl c.fit.ensures c.in-Rejected.error
    (subst
    (λ (old : HeldStream).
    StreamRejects c.args.limits.now old c.add-added.new.self c.args.fragment.now c.in-Rejected.error) (lent g at)
    c.in-Rejected.ensures)

pub returns-in-Rejected-clause-within : goal.returns-in-Rejected-clause-within
returns-in-Rejected-clause-within g c =
    let at = (goal.at.returns-in-Rejected-clause-within g c).After-room-room in
    within_written c.args.self.now.table c.args.slot c.requires.present.0 c.add-added.new.self (entry g at)
    c.args.limits.now
    (omega (arith, c.in-Rejected.ensures.room, ap {B = ℕ} (λ (s : HeldStream). held_room s) (lent g at)))
    c.requires.within

pub returns-in-Rejected-clause-hashed : goal.returns-in-Rejected-clause-hashed
returns-in-Rejected-clause-hashed g c hashed =
    hashed_after g (goal.at.returns-in-Rejected-clause-hashed g c).After-room-room hashed

pub returns-in-Discards-clause-takes : goal.returns-in-Discards-clause-takes
returns-in-Discards-clause-takes g c =
    let at = (goal.at.returns-in-Discards-clause-takes g c).After-room-room in
    discards g.CustomChannelId.PartialEq.eq g.met.CustomChannelId.Eq.laws c.args.limits.now c.args.self.now c.args.id
    c.args.fragment.now c.args.now c.args.slot c.requires.present.0 (entry g at) (alike g at) _
    c.add-added.new.self refl c.push_reserved.ensures.items c.count_gone.ensures c.fit.ensures
    (subst (λ (old : HeldStream). StreamDiscards c.args.limits.now old c.add-added.new.self c.args.fragment.now)
    (lent g at) c.in-Discards.ensures)

pub returns-in-Discards-clause-within : goal.returns-in-Discards-clause-within
returns-in-Discards-clause-within g c =
    let at = (goal.at.returns-in-Discards-clause-within g c).After-room-room in
    within_written c.args.self.now.table c.args.slot c.requires.present.0 c.add-added.new.self (entry g at)
    c.args.limits.now
    (omega (arith, ap {B = ℕ} (λ (b : Option _). option_map_or room_of b 0) c.in-Discards.ensures.freed))
    c.requires.within

pub returns-in-Discards-clause-hashed : goal.returns-in-Discards-clause-hashed
returns-in-Discards-clause-hashed g c hashed =
    hashed_after g (goal.at.returns-in-Discards-clause-hashed g c).After-room-room hashed

pub returns-in-Completes-clause-takes : goal.returns-in-Completes-clause-takes
returns-in-Completes-clause-takes g c =
    let at = (goal.at.returns-in-Completes-clause-takes g c).After-room-room in
    let stream = c.add-added.new.self in
    let found = ((entry g at).3 stream).found in
    let accepted =
    subst (λ (old : HeldStream). StreamAccepts c.args.limits.now old stream c.args.fragment.now c.args.now true)
    (lent g at) c.in-Completes.ensures in
    let after =
    accepted_present g.CustomChannelId.PartialEq.eq g.met.CustomChannelId.Eq.laws c.args.limits.now c.args.self.now
    c.args.id
    c.args.fragment.now c.args.now c.args.slot c.requires.present.0 (entry g at) (alike g at) stream true accepted in
    let taken = rw found at c.complete.ensures.taken in
    takes_complete g.CustomChannelId.PartialEq.eq g.met.CustomChannelId.Eq.laws c.args.limits.now c.args.self.now
    c.args.id c.args.fragment.now c.args.now _ (c.requires.present.0.0, stream) false c.fit.ensures _ after.accepts
    (ap (λ (entries : StreamEntries _). names_of entries) taken.table ∙ after.removed) (λ i. (taken.evicted i).items)
    (taken.statistics ∙ open_departure c.args.self.now.statistics stream.buffer Completed accepted.is_open
    ∙ (λ i. record (not_begun c.args.self.now.statistics c.fit.ensures i) {
      completed = counted c.args.self.now.statistics.completed 1;
    }))
    c.complete.result (rw found at c.complete.ensures.payload)

pub returns-in-Completes-clause-within : goal.returns-in-Completes-clause-within
returns-in-Completes-clause-within g c =
    let placed = entry g (goal.at.returns-in-Completes-clause-within g c).After-room-room in
    let taken = rw ((placed.3 c.add-added.new.self).found) at c.complete.ensures.taken in
    rw (taken.table)
    (within_without c.args.self.now.table c.args.slot c.requires.present.0 c.add-added.new.self placed
    c.args.limits.now c.requires.within)

pub returns-in-Completes-clause-hashed : goal.returns-in-Completes-clause-hashed
returns-in-Completes-clause-hashed g c hashed =
    hashed_left g.CustomChannelId.Hash.hash_input _ _ c.complete.ensures.left
    (hashed_after g (goal.at.returns-in-Completes-clause-hashed g c).After-room-room hashed)

pub returns-in-Continues-clause-takes : goal.returns-in-Continues-clause-takes
returns-in-Continues-clause-takes g c =
    let at = (goal.at.returns-in-Continues-clause-takes g c).After-room-room in
    let stream = c.add-added.new.self in
    let found = ((entry g at).3 stream).found in
    let accepted =
    subst (λ (old : HeldStream). StreamAccepts c.args.limits.now old stream c.args.fragment.now c.args.now false)
    (lent g at) c.in-Continues.ensures in
    let after =
    accepted_present g.CustomChannelId.PartialEq.eq g.met.CustomChannelId.Eq.laws c.args.limits.now c.args.self.now
    c.args.id
    c.args.fragment.now c.args.now c.args.slot c.requires.present.0 (entry g at) (alike g at) stream false accepted in
    let over = rw found at c.settle.ensures.over_budget in
    takes_rest g.CustomChannelId.PartialEq.eq g.met.CustomChannelId.Eq.laws c.args.limits.now c.args.self.now c.args.id
    c.args.fragment.now c.args.now _ (c.requires.present.0.0, stream) false c.fit.ensures _ after.accepts _ refl
    (not_begun c.args.self.now.statistics c.fit.ensures) c.args.slot after.removed after.touched accepted.is_open
    c.settle.result (λ above. over (omega (arith, above, c.room-room.ensures.shown)))
    (λ below. c.settle.ensures.settled (omega (arith, below, c.room-room.ensures.shown)))

pub returns-in-Continues-clause-hashed : goal.returns-in-Continues-clause-hashed
returns-in-Continues-clause-hashed g c hashed =
    hashed_left g.CustomChannelId.Hash.hash_input _ _ c.settle.ensures.left
    (hashed_after g (goal.at.returns-in-Continues-clause-hashed g c).After-room-room hashed)

pub settle-requires-clause-own : goal.settle-requires-clause-own
settle-requires-clause-own g c =
    let placed = entry g (goal.at.settle-requires-clause-own g c).After-room-room in
    rw ((placed.3 c.add-added.new.self).found) (sym c.room-room.ensures.shown)
