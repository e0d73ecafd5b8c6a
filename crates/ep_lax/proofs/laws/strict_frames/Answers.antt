use Rattle.ep_lax.proofs.StrictLemmas.{frame_is_complete}
use Rattle.ep_lax.proofs.laws.strict_frames.Goals as goal

pub returns : goal.returns
returns c = frame_is_complete
