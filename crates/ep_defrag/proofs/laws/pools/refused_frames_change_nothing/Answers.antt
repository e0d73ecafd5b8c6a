use Rattle.std.proofs.Common.{[]}
use Rattle.ep_defrag.proofs.FrameLemmas.{answers_in}
use Rattle.ep_defrag.proofs.laws.pools.refused_frames_change_nothing.Goals as goal

pub returns : goal.returns
returns g c limit keep reads = answers_in limit g.CustomChannelId.PartialEq.eq keep [] reads
