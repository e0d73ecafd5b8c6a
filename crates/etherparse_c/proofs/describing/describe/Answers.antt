use Rattle.std.proofs.Common.{arith}
use Rattle.std.proofs.lemmas.Grind.{common_steps}
use Rattle.etherparse_c.proofs.describing.describe.Goals as goal

pub returns : goal.returns
returns c = grind (arith, common_steps)
