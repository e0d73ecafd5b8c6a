use Rattle.std.proofs.Common.{arith}
use Rattle.std.proofs.lemmas.Grind.{common_steps}
use Rattle.etherparse_c.proofs.bounded_pooling.store_bounded_refusal.Goals as goal

pub returns-in-OverBudget-clause-status : goal.returns-in-OverBudget-clause-status
returns-in-OverBudget-clause-status c = grind (arith, common_steps)
