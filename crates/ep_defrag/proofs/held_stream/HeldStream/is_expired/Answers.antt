use Rattle.std.proofs.Common.{arith}
use Rattle.std.proofs.lemmas.Grind.{common_steps}
use Rattle.ep_defrag.proofs.held_stream.HeldStream.is_expired.Goals as goal

pub returns : goal.returns
returns c = grind (arith, common_steps)
