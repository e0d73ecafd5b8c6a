use Rattle.ep_lax.proofs.CompleteFrameLemmas.{complete_is_frame}
use Rattle.ep_lax.proofs.laws.whole_is_frame.Goals as goal

pub returns : goal.returns
returns c = complete_is_frame
