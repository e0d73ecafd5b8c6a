use Rattle.ep_defrag.specs.Pools.{limit_of, stream_named}
use Rattle.ep_defrag.proofs.SectionCountLemmas.{sections_few, entry_few}
use Rattle.ep_defrag.proofs.laws.pools.sections_within_limit.Goals as goal

pub returns-clause-buffer : goal.returns-clause-buffer
returns-clause-buffer g c limit buffer accepted holds fit = sections_few limit buffer accepted holds fit

pub returns-clause-pool : goal.returns-clause-pool
returns-clause-pool g c pool table name holds =
    entry_few (limit_of pool) (stream_named g.CustomChannelId.PartialEq.eq name pool) (table name) (holds.each name)
