use Rattle.ep_defrag.proofs.BoundedGivenLemmas.{payload_agrees}
use Rattle.ep_defrag.proofs.laws.bounded_pools.payloads_agree.Goals as goal

pub returns : goal.returns
returns g c limits calls name fragment now granted payload strict done =
    payload_agrees g.CustomChannelId.PartialEq.eq g.met.CustomChannelId.Eq.laws limits strict calls name fragment now
    granted payload done
