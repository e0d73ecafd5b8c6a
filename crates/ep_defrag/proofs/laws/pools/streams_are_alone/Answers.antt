use Rattle.ep_defrag.proofs.AloneLemmas.{alone}
use Rattle.ep_defrag.proofs.laws.pools.streams_are_alone.Goals as goal

pub returns : goal.returns
returns g c limit keep name a b same =
    alone limit g.CustomChannelId.PartialEq.eq keep g.met.CustomChannelId.Eq.laws name a b same
