use Rattle.std.proofs.Common.{arith}
use Rattle.std.proofs.lemmas.Grind.{common_steps}
use Rattle.ep_packet.proofs.sliced_packet_walk.fill_net.Goals as goal

pub returns-in-Some-IPV4-clause-err : goal.returns-in-Some-IPV4-clause-err
returns-in-Some-IPV4-clause-err c = grind (arith, common_steps)
