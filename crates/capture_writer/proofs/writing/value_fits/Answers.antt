use Rattle.std.proofs.Common.{arith}
use Rattle.capture_writer.proofs.writing.value_fits.Goals as goal

pub returns-clause-bytes : goal.returns-clause-bytes
returns-clause-bytes c = λ i. omega (arith, c.type_inv.bytes i)
