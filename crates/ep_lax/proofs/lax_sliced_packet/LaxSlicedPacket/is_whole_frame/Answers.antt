use Rattle.std.proofs.Common.{arith}
use Rattle.std.proofs.lemmas.Grind.{common_steps}
use Rattle.ep_lax.proofs.lax_sliced_packet.LaxSlicedPacket.is_whole_frame.Goals as goal

pub returns-then-is_whole_net : goal.returns-then-is_whole_net
returns-then-is_whole_net c = grind (arith, common_steps)
