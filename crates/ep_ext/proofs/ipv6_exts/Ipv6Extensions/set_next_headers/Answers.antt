use Rattle.std.proofs.lemmas.Grind.{common_steps}
use Rattle.std.proofs.Common.{arith}
use Rattle.ep_ext.proofs.ipv6_exts.Ipv6Extensions.set_next_headers.Goals as goal

pub returns-clause-linked : goal.returns-clause-linked
returns-clause-linked c = grind (arith, common_steps)

pub returns-clause-first : goal.returns-clause-first
returns-clause-first c = grind (arith, common_steps)
