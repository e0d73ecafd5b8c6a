use Rattle.std.proofs.lemmas.Grind.{common_steps}
use Rattle.std.proofs.Common.{arith}
use Rattle.ep_defrag.proofs.ip_defrag_buf.IpDefragBuf.reserve.Goals as goal

pub returns-in_err-grown-clause-in_place : goal.returns-in_err-grown-clause-in_place
returns-in_err-grown-clause-in_place c = grind (arith, common_steps)

pub returns-in_err-grown-clause-lacks_capacity : goal.returns-in_err-grown-clause-lacks_capacity
returns-in_err-grown-clause-lacks_capacity c = grind (arith, common_steps)
