use Rattle.std.proofs.lemmas.Grind.{common_steps}
use Rattle.std.proofs.Common.{arith}
use Rattle.ep_link.proofs.arp.arp_operation.ArpOperation.name.Goals as goal

pub returns-in-REPLY : goal.returns-in-REPLY
returns-in-REPLY c = grind (arith, common_steps)

pub returns-in_default : goal.returns-in_default
returns-in_default c = grind (arith, common_steps)
