use Rattle.std.proofs.Common.{refl, arith}
use Rattle.std.proofs.lemmas.Grind.{common_steps}
use Rattle.ep_build.proofs.link_part.tags_ether_type.Goals as goal

pub returns-in-Single : goal.returns-in-Single
returns-in-Single c = rw c.in-Single.is refl

pub returns-in-Double : goal.returns-in-Double
returns-in-Double c = grind (arith, common_steps)
