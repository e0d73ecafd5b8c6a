use Rattle.std.proofs.Common.{refl, sym, ◌∙◌}
use Rattle.ep_defrag.specs.BoundedNames.{names_of}
use Rattle.ep_defrag.proofs.RowRemovalLemmas.{one_name, no_name, is_present, is_absent, removes_present, removes_absent}
use Rattle.ep_defrag.proofs.bounded_defrag_pool.BoundedDefragPool.remove.Goals as goal

pub returns-in-Present-clause-step : goal.returns-in-Present-clause-step
returns-in-Present-clause-step g c =
    let table = c.self.inside.holdings.table in
    let slot = c.in-Present.slot in
    let here = c.in-Present.ensures.1 in
    let gone = rw here.1 at c.remove.ensures.removed in
    let placed = c.places.ensures.taken table slot here.0 here.1 in
    rw (← c.self.view_is) (λ rows number holds_rows.
    let one = one_name g.CustomChannelId.PartialEq.eq g.met.CustomChannelId.Eq.laws c.args.id.now table slot here.0
    placed (sym (c.names.ensures c.args.id.now here.0.0) ∙ here.2) holds_rows.differ in
    removes_present g.CustomChannelId.PartialEq.eq g.met.CustomChannelId.Eq.laws c.args.id.now _ _
    rows holds_rows number
    here.0 c.fit.ensures ((λ i. names_of (gone.table i)) ∙ one.0) one.1
    ((λ i. (gone.evicted i).items) ∙ c.clear.ensures.items) refl gone.statistics)

pub returns-in-Present-clause-present : goal.returns-in-Present-clause-present
returns-in-Present-clause-present g c =
    let table = c.self.inside.holdings.table in
    let slot = c.in-Present.slot in
    let here = c.in-Present.ensures.1 in
    let placed = c.places.ensures.taken table slot here.0 here.1 in
    rw (← c.self.view_is) (λ rows holds_rows.
    let one = one_name g.CustomChannelId.PartialEq.eq g.met.CustomChannelId.Eq.laws c.args.id.now table slot here.0
    placed (sym (c.names.ensures c.args.id.now here.0.0) ∙ here.2) holds_rows.differ in
    is_present g.CustomChannelId.PartialEq.eq g.met.CustomChannelId.Eq.laws c.args.id.now _ _ rows holds_rows
    here.0 one.1)

pub returns-in-Vacant-clause-step : goal.returns-in-Vacant-clause-step
returns-in-Vacant-clause-step g c =
    let vacant = c.in-Vacant.ensures in
    let none = no_name g.CustomChannelId.PartialEq.eq g.met.CustomChannelId.Eq.laws c.args.id.now
    g.CustomChannelId.Hash.hash_input g.met.CustomChannelId.Hash.respects_eq c.self.inside.holdings.keys
    c.self.inside.holdings.table c.in-Vacant.field-0 c.self.invariant.1 vacant.0
    (λ entry inside hashes. sym (c.names.ensures c.args.id.now entry.1.0) ∙ vacant.1.absent entry inside hashes) in
    rw (← c.self.view_is) (λ rows number holds_rows.
    removes_absent g.CustomChannelId.PartialEq.eq g.met.CustomChannelId.Eq.laws c.args.id.now _ _ rows holds_rows number
    c.fit.ensures none refl c.clear.ensures.items refl refl)

pub returns-in-Vacant-clause-present : goal.returns-in-Vacant-clause-present
returns-in-Vacant-clause-present g c =
    let vacant = c.in-Vacant.ensures in
    let none = no_name g.CustomChannelId.PartialEq.eq g.met.CustomChannelId.Eq.laws c.args.id.now
    g.CustomChannelId.Hash.hash_input g.met.CustomChannelId.Hash.respects_eq c.self.inside.holdings.keys
    c.self.inside.holdings.table c.in-Vacant.field-0 c.self.invariant.1 vacant.0
    (λ entry inside hashes. sym (c.names.ensures c.args.id.now entry.1.0) ∙ vacant.1.absent entry inside hashes) in
    rw (← c.self.view_is) (λ rows holds_rows.
    is_absent g.CustomChannelId.PartialEq.eq g.met.CustomChannelId.Eq.laws c.args.id.now _ _ rows holds_rows
    none)
