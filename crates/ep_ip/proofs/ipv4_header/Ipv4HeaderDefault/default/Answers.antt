use Rattle.std.proofs.lemmas.Grind.{common_steps}
use Rattle.std.proofs.Common.{arith}
use Rattle.ep_ip.proofs.ipv4_header.Ipv4HeaderDefault.default.Goals as goal

pub returns : goal.returns
returns c = grind (arith, common_steps)
