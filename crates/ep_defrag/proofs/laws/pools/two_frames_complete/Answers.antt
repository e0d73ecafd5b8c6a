use Rattle.std.proofs.Common.{refl}
use Rattle.ep_defrag.specs.Completing.{name_in}
use Rattle.ep_defrag.specs.Pools.{limit_of, stream_named}
use Rattle.ep_defrag.proofs.CarryingLemmas.{carrying}
use Rattle.ep_defrag.proofs.FramesCompleteLemmas.{entry_in_turn, frames_complete}
use Rattle.ep_defrag.proofs.laws.pools.two_frames_complete.Goals as goal

pub returns-clause-some : goal.returns-clause-some
returns-clause-some g c seen fragment offset short bytes part = carrying seen fragment offset short bytes part

pub returns-clause-complete : goal.returns-clause-complete
returns-clause-complete g c pool table seen channel prefix back timestamp holds least prefix_bytes back_bytes fill =
    let eq = g.CustomChannelId.PartialEq.eq in
    let name = name_in seen channel in
    let fit = entry_in_turn (limit_of pool) (stream_named eq name pool) (table name) (holds.each name) in
    frames_complete (limit_of pool) eq g.met.CustomChannelId.Eq.laws seen channel table (table name) refl fit.0 fit.1
    least prefix back fill prefix_bytes back_bytes timestamp
