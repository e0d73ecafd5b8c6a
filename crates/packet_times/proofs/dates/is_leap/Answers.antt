use Rattle.std.proofs.Common.{arith}
use Rattle.std.proofs.lemmas.Grind.{common_steps}
use Rattle.packet_times.proofs.dates.is_leap.Goals as goal

pub returns-else-year-ne0 : goal.returns-else-year-ne0
returns-else-year-ne0 c = grind (arith, common_steps)
