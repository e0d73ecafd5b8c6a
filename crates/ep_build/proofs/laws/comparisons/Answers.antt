use Rattle.std.proofs.Common.{arith}
use Rattle.std.proofs.lemmas.Grind.{common_steps}
use Rattle.ep_build.proofs.laws.comparisons.Goals as goal

pub returns-clause-write_errors : goal.returns-clause-write_errors
returns-clause-write_errors c = grind (arith, common_steps)

pub returns-clause-slice_write_errors : goal.returns-clause-slice_write_errors
returns-clause-slice_write_errors c = grind (arith, common_steps)
