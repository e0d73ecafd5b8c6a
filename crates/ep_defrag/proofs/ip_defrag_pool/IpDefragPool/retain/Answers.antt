use Rattle.std.proofs.Common.{◌≡◌, rules, of_calls, refl}
use Rattle.ep_defrag.proofs.PoolTableLemmas.{HoldsTable-answered, leaves_answered, holds_answered}
use Rattle.ep_defrag.proofs.ip_defrag_pool.IpDefragPool.retain.Goals as goal

pub returns-clause-answered : goal.returns-clause-answered
returns-clause-answered g c =
    rw (← c.self.view_is)
    (leaves_answered g.F.Fn c.args.keep _ (λ test. test.0.now ≡ c.args.keep)
    (λ test key value answer left next keeps called. (
      search (of_calls, rules),
      search (of_calls, rules),
      search (of_calls, rules),
    )) c.self.inside.limit _ c.self.inside.streams.entries c.retain.new.self.entries refl
    c.retain.ensures.filtered)

pub returns-clause-holds : goal.returns-clause-holds
returns-clause-holds g c = λ table holds answers reported.
    HoldsTable-answered g.F.Fn c.args.keep answers reported g.CustomChannelId.PartialEq.eq c.args.self.now _ table holds
    (returns-clause-answered g c)

pub returns-clause-entries : goal.returns-clause-entries
returns-clause-entries g c = λ table holds.
    holds_answered g.F.Fn c.args.keep g.CustomChannelId.PartialEq.eq c.args.self.now _ table holds
    (returns-clause-answered g c)
