use Rattle.std.proofs.Common.{rules}
use Rattle.ep_build.proofs.link_part.tags_with_type.Goals as goal

pub returns-in-Single : goal.returns-in-Single
returns-in-Single c = search rules
