use Rattle.std.proofs.Common.{arith}
use Rattle.std.proofs.lemmas.Grind.{common_steps}
use Rattle.filter_language.proofs.parser.words.network_change.Goals as goal

pub returns-then-has_no_host_bits-clause-ok : goal.returns-then-has_no_host_bits-clause-ok
returns-then-has_no_host_bits-clause-ok c = grind (arith, common_steps)
