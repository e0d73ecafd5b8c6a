use Rattle.std.proofs.Common.{sym, refl}
use Rattle.ep_defrag.proofs.EntryLemmas.{absent_in, present_stream, removed_from}
use Rattle.ep_defrag.proofs.PoolTableLemmas.{HoldsTable-removed}
use Rattle.ep_defrag.proofs.ip_defrag_pool.IpDefragPool.remove.Goals as goal

pub returns-in_err-stream-clause-ends : goal.returns-in_err-stream-clause-ends
returns-in_err-stream-clause-ends g c =
    removed_from g.CustomChannelId.PartialEq.eq g.met.CustomChannelId.Eq.laws _ (λ i a b. c.names.ensures a b i)
    c.self.inside.limit c.self.inside.streams.entries c.remove.new.self.entries c.args.id.now c.remove.ensures.unique
    _ c.self.view_is c.remove.ensures.updates.1 c.remove.ensures.entries

pub returns-in_err-stream-clause-holds : goal.returns-in_err-stream-clause-holds
returns-in_err-stream-clause-holds g c =
    HoldsTable-removed g.CustomChannelId.PartialEq.eq g.met.CustomChannelId.Eq.laws _ _ c.args.id.now
    (returns-in_err-stream-clause-ends g c)

pub returns-clause-ends : goal.returns-clause-ends
returns-clause-ends g c =
    removed_from g.CustomChannelId.PartialEq.eq g.met.CustomChannelId.Eq.laws _ (λ i a b. c.names.ensures a b i)
    c.self.inside.limit c.self.inside.streams.entries c.remove.new.self.entries c.args.id.now c.remove.ensures.unique
    _ c.self.view_is c.remove.ensures.updates.1 c.remove.ensures.entries

pub returns-clause-holds : goal.returns-clause-holds
returns-clause-holds g c =
    HoldsTable-removed g.CustomChannelId.PartialEq.eq g.met.CustomChannelId.Eq.laws _ _ c.args.id.now
    (returns-clause-ends g c)

pub returns-in_err-stream-clause-timestamp : goal.returns-in_err-stream-clause-timestamp
returns-in_err-stream-clause-timestamp g c =
    rw (
      c.from_residual.ensures,
      absent_in g.CustomChannelId.PartialEq.eq g.met.CustomChannelId.Eq.laws _ (λ i a b. c.names.ensures a b i)
          c.self.inside.limit c.self.inside.streams.entries _ c.self.view_is c.args.id.now
          c.in_err-stream.ensures.value,
    ) refl

pub returns-clause-timestamp : goal.returns-clause-timestamp
returns-clause-timestamp g c =
    let is =
    present_stream g.CustomChannelId.PartialEq.eq g.met.CustomChannelId.Eq.laws _ (λ i a b. c.names.ensures a b i)
    c.self.inside.limit c.self.inside.streams.entries c.args.id.now c.in_ok-stream.stream
    (sym c.in_ok-stream.ensures.value) in
    rw (← c.self.view_is, is.named) refl
