use Rattle.ep_defrag.proofs.CallLemmas.{table_after-push}
use Rattle.ep_defrag.proofs.laws.pools.one_more_call.Goals as goal

pub returns : goal.returns
returns g c limit keep calls call name = table_after-push limit g.CustomChannelId.PartialEq.eq keep calls call name
