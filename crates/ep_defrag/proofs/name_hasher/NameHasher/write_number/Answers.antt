use Rattle.std.proofs.lemmas.Bool.{lt-ltb, le-ltb}
use Rattle.ep_defrag.specs.NameHashes.{number_step, stepped}
use Rattle.ep_defrag.proofs.name_hasher.NameHasher.write_number.Goals as goal

pub returns-then-number-lt256 : goal.returns-then-number-lt256
unfolding number_step stepped
returns-then-number-lt256 c = rw (lt-ltb c.args.number 256 c.if-number-lt256.true, c.flush.ensures)

pub returns : goal.returns
unfolding number_step stepped
returns c = rw (le-ltb c.args.number 256 c.if-number-lt256.false, c.flush_word-2.ensures, c.flush_word.ensures)
