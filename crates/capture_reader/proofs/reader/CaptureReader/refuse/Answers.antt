use Rattle.std.proofs.lemmas.Grind.{common_steps}
use Rattle.std.proofs.Common.{arith}
use Rattle.capture_reader.proofs.reader.CaptureReader.refuse.Goals as goal

pub returns-in-Cut : goal.returns-in-Cut
returns-in-Cut c = grind (arith, common_steps)
