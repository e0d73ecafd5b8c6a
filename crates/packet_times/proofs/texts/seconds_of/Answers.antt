use Rattle.std.proofs.lemmas.Grind.{common_steps}
use Rattle.std.proofs.Common.{arith}
use Rattle.packet_times.proofs.texts.seconds_of.Goals as goal

pub returns-then-instant-lt-WORD : goal.returns-then-instant-lt-WORD
returns-then-instant-lt-WORD c = grind (arith, common_steps)
