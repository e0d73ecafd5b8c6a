use Rattle.std.proofs.Common.{ap, sym, refl, ◌∙◌, Some}
use Rattle.ep_defrag.specs.Calls.{Payload}
use Rattle.ep_defrag.specs.Streams.{source_of}
use Rattle.ep_defrag.proofs.EntryLemmas.{absent_in, present_stream, removed_from}
use Rattle.ep_defrag.proofs.ip_defrag_pool.IpDefragPool.complete_stream.Goals as goal

pub returns-in_err-stream-clause-payload : goal.returns-in_err-stream-clause-payload
returns-in_err-stream-clause-payload g c =
    rw (
      c.from_residual.ensures,
      absent_in g.CustomChannelId.PartialEq.eq g.met.CustomChannelId.Eq.laws _ (λ i a b. c.names.ensures a b i)
          c.self.inside.limit c.self.inside.streams.entries _ c.self.view_is c.args.id.now
          c.in_err-stream.ensures.value,
    ) refl

pub returns-in_err-stream-clause-ends : goal.returns-in_err-stream-clause-ends
returns-in_err-stream-clause-ends g c =
    removed_from g.CustomChannelId.PartialEq.eq g.met.CustomChannelId.Eq.laws _ (λ i a b. c.names.ensures a b i)
    c.self.inside.limit c.self.inside.streams.entries c.remove.new.self.entries c.args.id.now c.remove.ensures.unique
    _ c.self.view_is c.remove.ensures.updates.1 c.remove.ensures.entries

pub returns-clause-payload : goal.returns-clause-payload
returns-clause-payload g c =
    let is =
    present_stream g.CustomChannelId.PartialEq.eq g.met.CustomChannelId.Eq.laws _ (λ i a b. c.names.ensures a b i)
    c.self.inside.limit c.self.inside.streams.entries c.args.id.now c.in_ok-stream.stream
    (sym c.in_ok-stream.ensures.value) in
    rw (← c.self.view_is, is.named)
    (ap (λ payload. Some payload) (c.payload_of.ensures ∙ ap {B = Payload} (λ bytes. record {
      ip_number = c.args.id.now.payload_ip_number;
      len_source = source_of c.args.id.now.ip;
      bytes = bytes;
    }) c.take_bufs-payload.ensures.data))

pub returns-clause-ends : goal.returns-clause-ends
returns-clause-ends g c =
    removed_from g.CustomChannelId.PartialEq.eq g.met.CustomChannelId.Eq.laws _ (λ i a b. c.names.ensures a b i)
    c.self.inside.limit c.self.inside.streams.entries c.remove.new.self.entries c.args.id.now c.remove.ensures.unique
    _ c.self.view_is c.remove.ensures.updates.1 c.remove.ensures.entries
