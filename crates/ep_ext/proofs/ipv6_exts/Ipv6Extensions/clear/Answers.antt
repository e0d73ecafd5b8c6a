use Rattle.std.proofs.Common.{arith}
use Rattle.std.proofs.lemmas.Grind.{common_steps}
use Rattle.ep_ext.proofs.ipv6_exts.Ipv6Extensions.clear.Goals as goal

pub returns-then-is_some-5 : goal.returns-then-is_some-5
returns-then-is_some-5 c = grind (arith, common_steps)

pub returns-else-is_some-5 : goal.returns-else-is_some-5
returns-else-is_some-5 c = grind (arith, common_steps)
