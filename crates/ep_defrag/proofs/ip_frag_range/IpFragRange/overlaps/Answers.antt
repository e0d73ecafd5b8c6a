use Rattle.std.proofs.Common.{arith}
use Rattle.std.proofs.lemmas.Grind.{common_steps}
use Rattle.ep_defrag.proofs.ip_frag_range.IpFragRange.overlaps.Goals as goal

pub returns : goal.returns
returns c = grind (arith, common_steps)
