use Rattle.std.proofs.Common.{[], ◌∷◌, ◌++◌, refl, sym, ap, ◌∙◌, arith}
use Rattle.ep_defrag.specs.declared.evicted_stream.EvictionCause.TheVariants.{Expired}
use Rattle.ep_defrag.specs.KeyedHashes.{name_hash}
use Rattle.ep_defrag.specs.BoundedNames.{names_of, open_names}
use Rattle.ep_defrag.specs.BoundedCounts.{with_answer}
use Rattle.ep_defrag.specs.BoundedHoldings.{report_of}
use Rattle.ep_defrag.proofs.HeldNameLemmas.{has_without}
use Rattle.ep_defrag.proofs.HoldingsLemmas.{within_left, hashed_left}
use Rattle.ep_defrag.proofs.AnswerCounterLemmas.{answer_adds_up}
use Rattle.ep_defrag.proofs.FragmentCallLemmas.{takes_bounded, own_absent, own_young, own_expired, table_differs}
use Rattle.ep_defrag.proofs.RowRemovalLemmas.{one_name, no_name}
use Rattle.ep_defrag.proofs.bounded_defrag_pool.BoundedDefragPool.process_fragment.Goals.{in-Present+then-expired, in-Present+else-expired, in-Vacant}
use Rattle.ep_defrag.proofs.bounded_defrag_pool.BoundedDefragPool.process_fragment.Goals as goal

pub evict-requires-clause-taken : goal.evict-requires-clause-taken
evict-requires-clause-taken g c =
    let found = rw c.in-Present.is at c.find_expired-lookup.ensures.found in
    (found.1.0, found.1.1)

pub evict-requires-clause-reportable : goal.evict-requires-clause-reportable
evict-requires-clause-reportable g c =
    let table = c.self.inside.holdings.table in
    let found = rw c.in-Present.is at c.find_expired-lookup.ensures.found in
    let here = found.1 in
    let placed = c.places.ensures.taken table c.in-Present.slot here.0 here.1 in
    let sums = has_without table c.in-Present.slot here.0 placed in
    omega (arith, sums.len, c.self.inside.holdings.reportable, c.clear.ensures.len, c.clear.ensures.capacity)

pub begin_stream-requires-clause-vacant : goal.begin_stream-requires-clause-vacant
begin_stream-requires-clause-vacant g c =
    let found = rw c.in-Present.is at c.find_expired-lookup.ensures.found in
    c.evict.ensures.vacated c.args.id found.1

pub begin_stream-requires-clause-hashed : goal.begin_stream-requires-clause-hashed
begin_stream-requires-clause-hashed g c =
    let found = rw c.in-Present.is at c.find_expired-lookup.ensures.found in
    found.0 ∙ ap (λ keys. name_hash g.CustomChannelId.Hash.hash_input keys c.args.id) (sym c.evict.ensures.left.keys)

pub begin_stream-requires-clause-within : goal.begin_stream-requires-clause-within
begin_stream-requires-clause-within g c =
    within_left c.self.inside.limits _ _ c.evict.ensures.left c.self.invariant.0

pub begin_stream-requires-clause-names : goal.begin_stream-requires-clause-names
begin_stream-requires-clause-names g c =
    hashed_left g.CustomChannelId.Hash.hash_input _ _ c.evict.ensures.left c.self.invariant.1

pub continue_stream-requires-clause-present : goal.continue_stream-requires-clause-present
continue_stream-requires-clause-present g c =
    let found = rw c.in-Present.is at c.find_expired-lookup.ensures.found in
    found.1

pub continue_stream-requires-clause-within : goal.continue_stream-requires-clause-within
continue_stream-requires-clause-within g c = c.self.invariant.0

pub continue_stream-requires-clause-silent : goal.continue_stream-requires-clause-silent
continue_stream-requires-clause-silent g c = c.clear.ensures.len

pub begin_stream-answer-requires-clause-vacant : goal.begin_stream-answer-requires-clause-vacant
begin_stream-answer-requires-clause-vacant g c =
    let found = rw c.in-Vacant.is at c.find_expired-lookup.ensures.found in
    found.1

pub begin_stream-answer-requires-clause-hashed : goal.begin_stream-answer-requires-clause-hashed
begin_stream-answer-requires-clause-hashed g c =
    let found = rw c.in-Vacant.is at c.find_expired-lookup.ensures.found in
    found.0

pub begin_stream-answer-requires-clause-names : goal.begin_stream-answer-requires-clause-names
begin_stream-answer-requires-clause-names g c = c.self.invariant.1

pub begin_stream-answer-requires-clause-within : goal.begin_stream-answer-requires-clause-within
begin_stream-answer-requires-clause-within g c = c.self.invariant.0

pub invariant_of-self-inside-2 : goal.invariant_of-self-inside-2
invariant_of-self-inside-2 g c =
    let holdings = c.match-lookup.self-inside.holdings in
    record {
      room = holdings.room;
      states = holdings.states;
      reportable = holdings.reportable;
      sums = rw (c.count_answer.ensures)
          (answer_adds_up holdings.statistics (open_names (names_of holdings.table)) c.match-lookup.answer
          holdings.sums);
    }

pub invariant_of-self : goal.invariant_of-self
invariant_of-self g c = elim c.match-lookup.branch [
  | in-Present+then-expired w ↦ rw (w.self-inside-is) (
    w.begin_stream.ensures.within,
    w.begin_stream.ensures.hashed
        (hashed_left g.CustomChannelId.Hash.hash_input _ _ w.evict.ensures.left c.self.invariant.1),
  )
  | in-Present+else-expired w ↦ rw (w.self-inside-is) (
    w.continue_stream.ensures.within,
    w.continue_stream.ensures.hashed c.self.invariant.1,
  )
  | in-Vacant w ↦ rw (w.self-inside-is) (
    w.begin_stream-answer.ensures.within,
    w.begin_stream-answer.ensures.hashed c.self.invariant.1,
  )
]

pub returns-clause-takes : goal.returns-clause-takes
returns-clause-takes g c =
    let eq = g.CustomChannelId.PartialEq.eq in
    let laws = g.met.CustomChannelId.Eq.laws in
    let id = c.args.id in
    let limits = c.self.inside.limits in
    let table = c.self.inside.holdings.table in
    let counters = c.self.inside.holdings.statistics in
    let after = c.match-lookup.self-inside.holdings in
    let differ = table_differs eq laws g.CustomChannelId.Hash.hash_input g.met.CustomChannelId.Hash.respects_eq _
    c.names.ensures after.keys after.table (invariant_of-self g c).1 c.len.ensures.valid in
    rw (← c.self.view_is) (elim c.match-lookup.branch [
      | in-Present+then-expired w ↦
          let found = rw w.in-Present.is at c.find_expired-lookup.ensures.found in
          let here = found.1 in
          let placed = c.places.ensures.taken table w.in-Present.slot here.0 here.1 in
          let gone = rw here.1 at w.evict.ensures.evicted in
          let old =
          sym (rw here.1 at (rw w.in-Present.is at c.find_expired-lookup.ensures.expired)) ∙ w.if-expired.true in
          takes_bounded eq laws _ _ _ _ id c.args.fragment.now c.args.now _ w.begin_stream.ensures.takes c.fit.ensures
          (λ names.
          let one = one_name eq laws id table w.in-Present.slot here.0 placed
          (sym (c.names.ensures id here.0.0) ∙ here.2) names in
          own_expired eq limits c.args.now id (names_of table) counters c.fit.ensures _ here.0 one.1 old
          ((λ i. names_of (gone.table i)) ∙ one.0)
          (gone.evicted ∙ (λ i. c.clear.ensures.items i ++ report_of here.0 Expired ∷ [])) gone.statistics)
          (λ i. names_of ((w.self-inside-is i).holdings.table)) (λ i. (w.self-inside-is i).holdings.evicted.items)
          (λ i. (w.self-inside-is i).limits)
          (c.count_answer.ensures
          ∙ (λ i. with_answer ((w.self-inside-is i).holdings.statistics) (w.answer-is i)))
          differ c.match-lookup.answer w.answer-is
      | in-Present+else-expired w ↦
          let found = rw w.in-Present.is at c.find_expired-lookup.ensures.found in
          let here = found.1 in
          let placed = c.places.ensures.taken table w.in-Present.slot here.0 here.1 in
          let young =
          sym (rw here.1 at (rw w.in-Present.is at c.find_expired-lookup.ensures.expired)) ∙ w.if-expired.false in
          takes_bounded eq laws _ _ _ _ id c.args.fragment.now c.args.now _ w.continue_stream.ensures.takes
          c.fit.ensures
          (λ names.
          let one = one_name eq laws id table w.in-Present.slot here.0 placed
          (sym (c.names.ensures id here.0.0) ∙ here.2) names in
          own_young eq limits c.args.now id (names_of table) counters c.fit.ensures _ here.0 one.1 young refl
          c.clear.ensures.items refl)
          (λ i. names_of ((w.self-inside-is i).holdings.table)) (λ i. (w.self-inside-is i).holdings.evicted.items)
          (λ i. (w.self-inside-is i).limits)
          (c.count_answer.ensures
          ∙ (λ i. with_answer ((w.self-inside-is i).holdings.statistics) (w.answer-is i)))
          differ c.match-lookup.answer w.answer-is
      | in-Vacant w ↦
          let vacant = rw w.in-Vacant.is at c.find_expired-lookup.ensures.found in
          let none = no_name eq laws id g.CustomChannelId.Hash.hash_input g.met.CustomChannelId.Hash.respects_eq
          c.self.inside.holdings.keys table w.in-Vacant.slot c.self.invariant.1 vacant.0
          (λ entry inside hashes. sym (c.names.ensures id entry.1.0) ∙ vacant.1.absent entry inside hashes) in
          takes_bounded eq laws _ _ _ _ id c.args.fragment.now c.args.now _ w.begin_stream-answer.ensures.takes
          c.fit.ensures
          (λ names.
          own_absent eq limits c.args.now id (names_of table) counters c.fit.ensures _ none refl c.clear.ensures.items
          refl)
          (λ i. names_of ((w.self-inside-is i).holdings.table)) (λ i. (w.self-inside-is i).holdings.evicted.items)
          (λ i. (w.self-inside-is i).limits)
          (c.count_answer.ensures
          ∙ (λ i. with_answer ((w.self-inside-is i).holdings.statistics) (w.answer-is i)))
          differ c.match-lookup.answer w.answer-is
    ])

pub returns-clause-bounded : goal.returns-clause-bounded
returns-clause-bounded g c =
    let within = (invariant_of-self g c).0 in
    record { names = within.few; room = within.small }
