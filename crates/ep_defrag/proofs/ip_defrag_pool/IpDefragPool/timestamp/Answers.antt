use Rattle.std.proofs.Common.{sym, refl}
use Rattle.ep_defrag.proofs.EntryLemmas.{absent_stream, present_stream}
use Rattle.ep_defrag.proofs.ip_defrag_pool.IpDefragPool.timestamp.Goals as goal

pub returns-in-None : goal.returns-in-None
returns-in-None g c =
    rw (
      ← c.self.view_is,
      absent_stream g.CustomChannelId.PartialEq.eq g.met.CustomChannelId.Eq.laws _ (λ i a b. c.names.ensures a b i)
          c.self.inside.limit c.self.inside.streams.entries c.args.id.now (sym c.in-None.ensures.value),
    ) refl

pub returns-in-Some : goal.returns-in-Some
returns-in-Some g c =
    let is =
    present_stream g.CustomChannelId.PartialEq.eq g.met.CustomChannelId.Eq.laws _ (λ i a b. c.names.ensures a b i)
    c.self.inside.limit c.self.inside.streams.entries c.args.id.now c.in-Some.stream.now
    (sym c.in-Some.ensures.value) in
    rw (← c.self.view_is, is.named) refl
