use Rattle.ep_defrag.specs.NameHashes.{initial}
use Rattle.ep_defrag.proofs.name_hasher.NameHasherDefault.default.Goals as goal

pub returns : goal.returns
unfolding initial
returns c = rw c.default.ensures
