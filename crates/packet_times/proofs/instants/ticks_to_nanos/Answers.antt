use Rattle.std.proofs.lemmas.Grind.{common_steps}
use Rattle.std.proofs.Common.{arith}
use Rattle.packet_times.proofs.instants.ticks_to_nanos.Goals as goal

pub returns-in-1000000-clause-value : goal.returns-in-1000000-clause-value
returns-in-1000000-clause-value c = grind (arith, common_steps)
