use Rattle.std.proofs.Common.{arith}
use Rattle.std.proofs.lemmas.Grind.{common_steps}
use Rattle.packet_filter.proofs.step.later_steps.Goals as goal

pub returns-then-len-steps : goal.returns-then-len-steps
returns-then-len-steps c = grind (arith, common_steps)
