use Rattle.std.proofs.Common.{arith}
use Rattle.std.proofs.lemmas.Grind.{common_steps}
use Rattle.packet_dump.proofs.fragments.ipv4_fragment.Goals as goal

pub returns : goal.returns
returns c = grind (arith, common_steps)
