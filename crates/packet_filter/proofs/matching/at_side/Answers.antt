use Rattle.std.proofs.Common.{arith}
use Rattle.std.proofs.lemmas.Grind.{common_steps}
use Rattle.packet_filter.proofs.matching.at_side.Goals as goal

pub returns-then-source-2 : goal.returns-then-source-2
returns-then-source-2 c = grind (arith, common_steps)
