use Rattle.std.proofs.lemmas.Grind.{common_steps}
use Rattle.std.proofs.Common.{arith}
use Rattle.ep_defrag.proofs.holdings.Holdings.find_expired.Goals as goal

pub returns-in-Some-clause-expired : goal.returns-in-Some-clause-expired
returns-in-Some-clause-expired g c = grind (arith, common_steps)
