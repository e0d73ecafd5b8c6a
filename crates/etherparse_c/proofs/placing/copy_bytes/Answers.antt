use Rattle.std.proofs.Common.{arith}
use Rattle.std.proofs.lemmas.Grind.{common_steps}
use Rattle.etherparse_c.proofs.placing.copy_bytes.Goals as goal

pub returns-then-buffer-bytes : goal.returns-then-buffer-bytes
returns-then-buffer-bytes c = grind (arith, common_steps)
