use Rattle.std.proofs.lemmas.Grind.{common_steps}
use Rattle.std.proofs.Common.{arith}
use Rattle.ep_base.proofs.len_source.LenSource.limited_by.Goals as goal

pub returns-in-Slice : goal.returns-in-Slice
returns-in-Slice c = grind (arith, common_steps)
