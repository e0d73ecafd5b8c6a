use Rattle.ep_defrag.specs.Pools.{limit_of, stream_named}
use Rattle.ep_defrag.proofs.CompletingLemmas.{reach_short}
use Rattle.ep_defrag.proofs.FramesCompleteLemmas.{entry_data}
use Rattle.ep_defrag.proofs.laws.pools.data_within_limit.Goals as goal

pub returns-clause-reach : goal.returns-clause-reach
returns-clause-reach g c limit accepted fit = reach_short limit accepted fit

pub returns-clause-data : goal.returns-clause-data
returns-clause-data g c pool table name holds =
    entry_data (limit_of pool) (stream_named g.CustomChannelId.PartialEq.eq name pool) (table name) (holds.each name)
