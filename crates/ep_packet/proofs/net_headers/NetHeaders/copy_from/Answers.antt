use Rattle.std.proofs.Common.{arith}
use Rattle.std.proofs.lemmas.Grind.{common_steps}
use Rattle.ep_packet.proofs.net_headers.NetHeaders.copy_from.Goals as goal

pub returns-in-Ipv6-self : goal.returns-in-Ipv6-self
returns-in-Ipv6-self c = grind (arith, common_steps)
