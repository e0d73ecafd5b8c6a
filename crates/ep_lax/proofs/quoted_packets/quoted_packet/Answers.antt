use Rattle.std.proofs.Common.{arith}
use Rattle.std.proofs.lemmas.Grind.{common_steps}
use Rattle.ep_lax.proofs.quoted_packets.quoted_packet.Goals as goal

pub returns-in-Icmpv6 : goal.returns-in-Icmpv6
returns-in-Icmpv6 c = grind (arith, common_steps)
