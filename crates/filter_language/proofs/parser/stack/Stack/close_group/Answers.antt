use Rattle.std.proofs.Common.{arith}
use Rattle.std.proofs.lemmas.Grind.{common_steps}
use Rattle.filter_language.proofs.parser.stack.Stack.close_group.Goals as goal

pub returns-in-Some-Group-clause-group : goal.returns-in-Some-Group-clause-group
returns-in-Some-Group-clause-group c = grind (arith, common_steps)
