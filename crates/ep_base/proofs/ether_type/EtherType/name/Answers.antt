use Rattle.std.proofs.lemmas.Grind.{common_steps}
use Rattle.std.proofs.Common.{arith}
use Rattle.ep_base.proofs.ether_type.EtherType.name.Goals as goal

pub returns-in-IPV6 : goal.returns-in-IPV6
returns-in-IPV6 c = grind (arith, common_steps)

pub returns-in_default : goal.returns-in_default
returns-in_default c = grind (arith, common_steps)
