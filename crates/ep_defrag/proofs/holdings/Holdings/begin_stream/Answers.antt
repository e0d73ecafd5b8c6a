use Rattle.std.proofs.Common.{◌≡◌, ◌+◌, true, false, length, Some, Result, Ok, Err, OnOk, OnErr}
use Rattle.std.proofs.Common.{refl, sym, ap, ◌∙◌, arith}
use Rattle.std.specs.Result.{is_err}
use Rattle.lru_table.specs.LruTable.{entry_at, without, with_newest}
use Rattle.std.proofs.lemmas.Bool.{false≢true}
use Rattle.ep_defrag.specs.declared.ip_defrag_error.IpDefragError.TheVariants.{AllocationFailure}
use Rattle.ep_defrag.specs.declared.bounded_defrag_error.BoundedDefragError.TheVariants.{Rejected}
use Rattle.ep_defrag.specs.IpFragments.{fragment_end}
use Rattle.ep_defrag.specs.BoundedNames.{HeldName, names_of}
use Rattle.ep_defrag.proofs.HeldNameLemmas.{StreamEntries}
use Rattle.ep_defrag.proofs.StreamEntryLemmas.{hashed_pushed}
use Rattle.ep_defrag.proofs.HoldingsLemmas.{hashed_left}
use Rattle.ep_defrag.proofs.FragmentTakingLemmas.{takes_complete, takes_rest, accepts_absent}
use Rattle.ep_defrag.proofs.FragmentBeginLemmas.{pushed, pushed_removed, pushed_touched, absent_names, begins_rejected, begins_starved, begins_discarded}
use Rattle.ep_defrag.proofs.holdings.Holdings.begin_stream.Goals as goal

on_ok : {T E : Type 0} (result : Result T E) (P : Type 0) → is_err result ≡ false → OnOk result P → P
on_ok (Ok value) P ok holds = holds
on_ok (Err error) P ok holds = absurd (false≢true (sym ok))

on_err : {T E : Type 0} (result : Result T E) (P : Type 0) → is_err result ≡ true → OnErr result P → P
on_err (Ok value) P err holds = absurd (false≢true err)
on_err (Err error) P err holds = holds

pub returns-in-Rejected-clause-takes : goal.returns-in-Rejected-clause-takes
returns-in-Rejected-clause-takes g c =
    let self = c.args.self.now in
    let eq = g.CustomChannelId.PartialEq.eq in
    let absent = absent_names eq g.met.CustomChannelId.Eq.laws g.CustomChannelId.Hash.hash_input
    g.met.CustomChannelId.Hash.respects_eq self.keys self.table c.requires.names c.args.slot c.args.id c.requires.hashed
    (λ entry inside hash. sym (c.names.ensures c.args.id entry.1.0) ∙ c.requires.vacant.absent entry inside hash) in
    begins_rejected eq c.args.limits.now self self c.args.id c.args.fragment.now c.args.now absent _
    (record { contents = c.new-3.ensures.holds; within = tt }) refl refl refl c.fit.ensures c.add.new.self
    c.in-Rejected.error
    c.in-Rejected.ensures

pub returns-in-Discards-clause-takes : goal.returns-in-Discards-clause-takes
returns-in-Discards-clause-takes g c =
    let self = c.args.self.now in
    let eq = g.CustomChannelId.PartialEq.eq in
    let absent = absent_names eq g.met.CustomChannelId.Eq.laws g.CustomChannelId.Hash.hash_input
    g.met.CustomChannelId.Hash.respects_eq self.keys self.table c.requires.names c.args.slot c.args.id c.requires.hashed
    (λ entry inside hash. sym (c.names.ensures c.args.id entry.1.0) ∙ c.requires.vacant.absent entry inside hash) in
    begins_discarded eq c.args.limits.now self self c.args.id c.args.fragment.now c.args.now absent _
    (record { contents = c.new-3.ensures.holds; within = tt }) refl refl refl c.fit.ensures c.add.new.self
    c.in-Discards.ensures

pub returns-in-Completes-clause-takes : goal.returns-in-Completes-clause-takes
returns-in-Completes-clause-takes g c =
    let self = c.args.self.now in
    let eq = g.CustomChannelId.PartialEq.eq in
    let laws = g.met.CustomChannelId.Eq.laws in
    let absent = absent_names eq laws g.CustomChannelId.Hash.hash_input
    g.met.CustomChannelId.Hash.respects_eq self.keys self.table c.requires.names c.args.slot c.args.id c.requires.hashed
    (λ entry inside hash. sym (c.names.ensures c.args.id entry.1.0) ∙ c.requires.vacant.absent entry inside hash) in
    takes_complete eq laws c.args.limits.now self c.args.id c.args.fragment.now c.args.now (names_of self.table)
    (c.args.id, c.add.new.self) true c.fit.ensures _
    (accepts_absent eq laws c.args.limits.now self c.args.id c.args.fragment.now c.args.now absent _ c.add.new.self refl
    (record { contents = c.new-3.ensures.holds; within = tt }) true c.in-Completes.ensures)
    refl refl
    (λ i. record self.statistics { begun = c.count.ensures i; completed = c.count-in-Completes.ensures i })
    c.take_payload.result c.take_payload.ensures

pub returns-then-is_err-clause-takes : goal.returns-then-is_err-clause-takes
returns-then-is_err-clause-takes g c =
    let self = c.args.self.now in
    let eq = g.CustomChannelId.PartialEq.eq in
    let failed : is_err c.hold.result ≡ true = sym c.is_err.ensures.value ∙ c.if-is_err.true in
    let absent = absent_names eq g.met.CustomChannelId.Eq.laws g.CustomChannelId.Hash.hash_input
    g.met.CustomChannelId.Hash.respects_eq self.keys self.table c.requires.names c.args.slot c.args.id c.requires.hashed
    (λ entry inside hash. sym (c.names.ensures c.args.id entry.1.0) ∙ c.requires.vacant.absent entry inside hash) in
    let end : c.from.result + length c.fragment.inside.payload.now ≡ fragment_end c.args.fragment.now =
    rw (← c.fragment.view_is) (omega (arith, c.from.ensures, c.byte_offset.ensures)) in
    begins_starved eq c.args.limits.now self c.hold.new.self c.args.id c.args.fragment.now c.args.now absent _
    (record { contents = c.new-3.ensures.holds; within = tt })
    (on_err c.hold.result _ failed c.hold.ensures.err_table) c.hold.ensures.evicted
    (on_err c.hold.result _ failed c.hold.ensures.err_statistics) c.fit.ensures c.add.new.self false
    c.in-Continues.ensures _ (ap (λ len. Rejected (AllocationFailure len)) end)

pub settle-requires-clause-taken : goal.settle-requires-clause-taken
settle-requires-clause-taken g c =
    let self = c.args.self.now in
    let added = on_ok c.hold.result _ (sym c.is_err.ensures.value ∙ c.if-is_err.false) c.hold.ensures.table in
    let is = pushed c.args.slot (c.args.id, c.add.new.self) self.table c.requires.vacant.free in
    rw added ((c.args.id, c.add.new.self), is.found)

pub settle-requires-clause-own : goal.settle-requires-clause-own
settle-requires-clause-own g c =
    let self = c.args.self.now in
    let added = on_ok c.hold.result _ (sym c.is_err.ensures.value ∙ c.if-is_err.false) c.hold.ensures.table in
    let is = pushed c.args.slot (c.args.id, c.add.new.self) self.table c.requires.vacant.free in
    rw (added, is.found) (sym c.room-room.ensures.shown)

pub returns-clause-takes : goal.returns-clause-takes
returns-clause-takes g c =
    let self = c.args.self.now in
    let mid = c.hold.new.self in
    let eq = g.CustomChannelId.PartialEq.eq in
    let laws = g.met.CustomChannelId.Eq.laws in
    let held_name : HeldName _ = (c.args.id, c.add.new.self) in
    let done : is_err c.hold.result ≡ false = sym c.is_err.ensures.value ∙ c.if-is_err.false in
    let added = on_ok c.hold.result _ done c.hold.ensures.table in
    let is = pushed c.args.slot held_name self.table c.requires.vacant.free in
    let at_slot : entry_at c.args.slot mid.table ≡ Some held_name =
    ap (λ (entries : StreamEntries _). entry_at c.args.slot entries) added ∙ is.found in
    let over = rw at_slot at c.settle.ensures.over_budget in
    let absent = absent_names eq laws g.CustomChannelId.Hash.hash_input
    g.met.CustomChannelId.Hash.respects_eq self.keys self.table c.requires.names c.args.slot c.args.id c.requires.hashed
    (λ entry inside hash. sym (c.names.ensures c.args.id entry.1.0) ∙ c.requires.vacant.absent entry inside hash) in
    takes_rest eq laws c.args.limits.now self c.args.id c.args.fragment.now c.args.now (names_of self.table)
    held_name true
    c.fit.ensures _
    (accepts_absent eq laws c.args.limits.now self c.args.id c.args.fragment.now c.args.now absent _ c.add.new.self refl
    (record { contents = c.new-3.ensures.holds; within = tt }) false c.in-Continues.ensures)
    mid c.hold.ensures.evicted (on_ok c.hold.result _ done c.hold.ensures.statistics) c.args.slot
    (ap (λ (entries : StreamEntries _). names_of (without c.args.slot entries)) added
    ∙ pushed_removed c.args.slot held_name self.table c.requires.vacant.free)
    (ap (λ (entries : StreamEntries _). names_of (with_newest c.args.slot entries)) added
    ∙ pushed_touched c.args.slot held_name self.table c.requires.vacant.free)
    c.in-Continues.ensures.is_open c.settle.result
    (λ above. over (omega (arith, above, c.room-room.ensures.shown)))
    (λ below. c.settle.ensures.settled (omega (arith, below, c.room-room.ensures.shown)))

pub returns-clause-hashed : goal.returns-clause-hashed
returns-clause-hashed g c hashed =
    let self = c.args.self.now in
    let channel = g.CustomChannelId.Hash.hash_input in
    let added = on_ok c.hold.result _ (sym c.is_err.ensures.value ∙ c.if-is_err.false) c.hold.ensures.table in
    hashed_left channel c.hold.new.self _ c.settle.ensures.left
    (rw (added, c.hold.ensures.keys)
    (hashed_pushed channel self.keys self.table c.args.slot (c.args.id, c.add.new.self) c.requires.hashed hashed))
