use Rattle.std.proofs.lemmas.Grind.{common_steps}
use Rattle.std.proofs.Common.{arith}
use Rattle.ep_base.proofs.err.len_error.LenError.add_offset.Goals as goal

pub returns : goal.returns
returns c = grind (arith, common_steps)
