use Rattle.std.proofs.lemmas.Grind.{common_steps}
use Rattle.std.proofs.Common.{rules, arith}
use Rattle.ep_defrag.proofs.ip_defrag_buf.checked_range.Goals as goal

pub returns-then-conflicts-clause-answer : goal.returns-then-conflicts-clause-answer
returns-then-conflicts-clause-answer c = search rules

pub returns-clause-answer : goal.returns-clause-answer
returns-clause-answer c = grind (arith, common_steps)
