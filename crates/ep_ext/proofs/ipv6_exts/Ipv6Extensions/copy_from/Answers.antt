use Rattle.std.proofs.lemmas.Grind.{common_steps}
use Rattle.std.proofs.Common.{arith}
use Rattle.ep_ext.proofs.ipv6_exts.Ipv6Extensions.copy_from.Goals as goal

pub returns-in-Some-auth : goal.returns-in-Some-auth
returns-in-Some-auth c = grind (arith, common_steps)
