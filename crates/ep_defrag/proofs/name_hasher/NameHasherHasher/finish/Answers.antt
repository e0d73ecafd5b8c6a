use Rattle.ep_defrag.specs.NameHashes.{stepped, finished}
use Rattle.ep_defrag.proofs.name_hasher.NameHasherHasher.finish.Goals as goal

pub returns : goal.returns
unfolding stepped finished
returns c = rw (c.finish.ensures, c.flush.ensures)
