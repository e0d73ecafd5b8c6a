use Rattle.ep_lax.proofs.NestedLengthLemmas.{frame_includes}
use Rattle.ep_lax.proofs.laws.length_fields.Goals as goal

pub returns : goal.returns
returns c = frame_includes
