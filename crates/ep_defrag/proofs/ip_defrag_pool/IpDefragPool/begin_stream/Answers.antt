use Rattle.std.proofs.Common.{◌≡◌, None, rules, ap, refl, sym, subst, [], ◌∙◌}
use Rattle.ep_defrag.specs.declared.ip_defrag_pool.OpenStream.{OpenStream}
use Rattle.ep_defrag.specs.Calls.{Payload}
use Rattle.ep_defrag.specs.Pools.{stream_at, stream_named}
use Rattle.ep_defrag.specs.Streams.{source_of}
use Rattle.ep_defrag.proofs.EntryLemmas.{put_stream}
use Rattle.ep_defrag.proofs.TakingLemmas.{begins_refused, begins_complete, begins}
use Rattle.ep_defrag.proofs.ip_defrag_pool.IpDefragPool.begin_stream.Goals as goal

pub returns-in-Err : goal.returns-in-Err
returns-in-Err g c =
    begins_refused g.CustomChannelId.PartialEq.eq g.met.CustomChannelId.Eq.laws c.args.self.now _ c.args.id
    c.args.fragment.now c.args.timestamp c.requires c.take-buffer.result
    c.take-buffer.ensures.holds c.self.view_is c.in-Err.error
    (rw (← c.self.view_is) (c.in-Err.ensures.refuses.why [] c.take-buffer.ensures.holds))

pub returns-then-payload_complete : goal.returns-then-payload_complete
returns-then-payload_complete g c =
    begins_complete g.CustomChannelId.PartialEq.eq g.met.CustomChannelId.Eq.laws c.args.self.now _ c.args.id
    c.args.fragment.now c.args.timestamp c.requires c.take-buffer.result
    c.take-buffer.ensures.holds c.self.view_is c.add.new.buffer c.payload_of.result
    (c.payload_of.ensures ∙ ap {B = Payload} (λ bytes. record {
      ip_number = c.args.id.payload_ip_number;
      len_source = source_of c.args.id.ip;
      bytes = bytes;
    }) c.take_bufs-payload.ensures.data)
    c.take-buffer.ensures.data (rw (← c.self.view_is) c.in-Ok.ensures.takes) (search rules)

pub returns : goal.returns
returns g c =
    let stream : OpenStream _ = record { buffer = c.add.new.buffer; timestamp = c.args.timestamp } in
    let now : c.match-this.self ≡ (c.self.inside.limit, c.insert.new.self.entries) = search rules in
    rw now
    (begins g.CustomChannelId.PartialEq.eq g.met.CustomChannelId.Eq.laws c.args.self.now _ c.args.id
    c.args.fragment.now c.args.timestamp c.requires c.take-buffer.result
    c.take-buffer.ensures.holds (stream_at (c.args.id, stream))
    (rw (← c.self.view_is)
    (put_stream g.CustomChannelId.PartialEq.eq g.met.CustomChannelId.Eq.laws _ (λ i a b. c.names.ensures a b i)
    c.self.inside.limit c.self.inside.streams.entries c.insert.new.self.entries c.args.id c.insert.ensures.unique stream
    _ _ c.in_default.ensures.old (subst (λ pool. stream_named g.CustomChannelId.PartialEq.eq c.args.id pool ≡ None)
    (sym c.self.view_is) c.requires) c.in_default.ensures.entries))
    refl refl c.take-buffer.ensures.ip_number c.take-buffer.ensures.data c.take-buffer.ensures.sections
    c.take-buffer.ensures.end (rw (← c.self.view_is) c.in-Ok.ensures.takes) (search rules))
