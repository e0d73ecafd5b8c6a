use Rattle.std.proofs.Common.{arith}
use Rattle.std.proofs.lemmas.Grind.{common_steps}
use Rattle.link_types.proofs.openings.sll2_opening.Goals as goal

pub returns-then-skips_sll2-clause-value : goal.returns-then-skips_sll2-clause-value
returns-then-skips_sll2-clause-value c = grind (arith, common_steps)
