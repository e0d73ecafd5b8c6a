use Rattle.ep_defrag.specs.NameHashes.{stepped}
use Rattle.ep_defrag.proofs.name_hasher.NameHasher.flush_word.Goals as goal

pub returns : goal.returns
unfolding stepped
returns c = rw (c.write.ensures, c.to_le_bytes.ensures)
