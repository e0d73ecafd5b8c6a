use Rattle.ep_defrag.proofs.FrameLemmas.{read_once}
use Rattle.ep_defrag.proofs.laws.pools.frame_calls.Goals as goal

pub returns : goal.returns
returns g c = read_once c.frames.ensures.slices
