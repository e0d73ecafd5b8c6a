use Rattle.std.proofs.lemmas.Grind.{common_steps}
use Rattle.std.proofs.Common.{arith}
use Rattle.ep_defrag.proofs.ip_defrag_buf.IpDefragBuf.merge.Goals as goal

pub returns-then-not-more_fragments-clause-data : goal.returns-then-not-more_fragments-clause-data
returns-then-not-more_fragments-clause-data c = grind (arith, common_steps)
