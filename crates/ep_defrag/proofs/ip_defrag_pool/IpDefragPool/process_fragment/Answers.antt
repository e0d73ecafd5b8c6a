use Rattle.std.proofs.Common.{ap, sym, refl, subst, ◌∙◌}
use Rattle.std.specs.Option.{option_map}
use Rattle.ep_defrag.specs.declared.ip_defrag_pool.OpenStream.{OpenStream}
use Rattle.ep_defrag.specs.Pools.{stream_at, payload_in, IsWhetherComplete}
use Rattle.ep_defrag.proofs.EntryLemmas.{absent_stream, changed_again, rewritten_stream}
use Rattle.ep_defrag.proofs.TakingLemmas.{goes_on_refused, goes_on_more, goes_on_complete}
use Rattle.ep_defrag.proofs.ip_defrag_pool.IpDefragPool.process_fragment.Goals as goal

pub begin_stream-requires : goal.begin_stream-requires
begin_stream-requires g c =
    rw c.get_mut.follows.holds-at-none
    (absent_stream g.CustomChannelId.PartialEq.eq g.met.CustomChannelId.Eq.laws _ (λ i a b. c.names.ensures a b i)
    c.self.inside.limit c.self.inside.streams.entries c.args.id (sym c.in_default.ensures.value))

pub returns-in-Err : goal.returns-in-Err
returns-in-Err g c =
    let next : OpenStream _ = record { buffer = c.add.new.buffer; timestamp = c.in-Some.stream.now.timestamp } in
    let of = rewritten_stream g.CustomChannelId.PartialEq.eq g.met.CustomChannelId.Eq.laws _
    (λ i a b. c.names.ensures a b i) c.self.inside.limit c.self.inside.streams.entries
    (c.get_mut.follows.lender next).entries c.args.id (c.get_mut.follows.holds next).4 c.in-Some.stream.now next
    (sym c.in-Some.ensures.value) (c.get_mut.follows.holds next).0 in
    rw (← c.self.view_is) (goes_on_refused g.CustomChannelId.PartialEq.eq g.met.CustomChannelId.Eq.laws _ _ c.args.id _
    c.args.timestamp (stream_at (of.key, c.in-Some.stream.now)) (stream_at (of.key, next)) of.named refl of.now refl
    c.in-Err.error
    c.in-Err.ensures.refuses)

pub returns-then-not-payload_complete : goal.returns-then-not-payload_complete
returns-then-not-payload_complete g c =
    let next : OpenStream _ = record { buffer = c.add.new.buffer; timestamp = c.args.timestamp } in
    let of = rewritten_stream g.CustomChannelId.PartialEq.eq g.met.CustomChannelId.Eq.laws _
    (λ i a b. c.names.ensures a b i) c.self.inside.limit c.self.inside.streams.entries
    (c.get_mut.follows.lender next).entries c.args.id (c.get_mut.follows.holds next).4 c.in-Some.stream.now next
    (sym c.in-Some.ensures.value) (c.get_mut.follows.holds next).0 in
    rw (← c.self.view_is) (goes_on_more g.CustomChannelId.PartialEq.eq g.met.CustomChannelId.Eq.laws _ _ c.args.id _
    c.args.timestamp (stream_at (of.key, c.in-Some.stream.now)) (stream_at (of.key, next)) of.named refl of.now refl
    c.in-Ok.ensures.takes (subst (IsWhetherComplete c.add.new.buffer) c.if-not-payload_complete.true
    c.in-Ok.ensures.complete))

pub returns : goal.returns
returns g c =
    let next : OpenStream _ = record { buffer = c.add.new.buffer; timestamp = c.args.timestamp } in
    let of = rewritten_stream g.CustomChannelId.PartialEq.eq g.met.CustomChannelId.Eq.laws _
    (λ i a b. c.names.ensures a b i) c.self.inside.limit c.self.inside.streams.entries
    (c.get_mut.follows.lender next).entries c.args.id (c.get_mut.follows.holds next).4 c.in-Some.stream.now next
    (sym c.in-Some.ensures.value) (c.get_mut.follows.holds next).0 in
    rw (← c.self.view_is) (goes_on_complete g.CustomChannelId.PartialEq.eq g.met.CustomChannelId.Eq.laws _ _ c.args.id _
    c.args.timestamp (stream_at (of.key, c.in-Some.stream.now)) (stream_at (of.key, next)) of.named refl
    (changed_again g.CustomChannelId.PartialEq.eq g.met.CustomChannelId.Eq.laws _ _ _ c.args.id _ _ of.now
    c.complete_stream.ensures.ends)
    c.in-Ok.ensures.takes
    (subst (IsWhetherComplete c.add.new.buffer) c.if-not-payload_complete.false c.in-Ok.ensures.complete)
    c.complete_stream.result
    (c.complete_stream.ensures.payload ∙ ap (option_map (payload_in c.args.id)) of.now.here))
