use Rattle.std.proofs.Common.{arith}
use Rattle.std.proofs.lemmas.Grind.{common_steps}
use Rattle.ep_lax.proofs.lax_sliced_packet_frame.is_whole_net.Goals as goal

pub returns-in-Some-Ipv6 : goal.returns-in-Some-Ipv6
returns-in-Some-Ipv6 c = grind (arith, common_steps)

pub returns-then-not-payload : goal.returns-then-not-payload
returns-then-not-payload c = grind (arith, common_steps)
