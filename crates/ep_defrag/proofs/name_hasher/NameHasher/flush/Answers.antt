use Rattle.std.proofs.lemmas.Bool.{lt-ltb, le-ltb}
use Rattle.ep_defrag.specs.NameHashes.{rest_of, stepped}
use Rattle.ep_defrag.proofs.name_hasher.NameHasher.flush.Goals as goal

pub returns-then-self-gt1 : goal.returns-then-self-gt1
unfolding rest_of
returns-then-self-gt1 c = rw (lt-ltb 1 c.args.self.now.waiting c.if-self-gt1.true) c.flush_word.ensures

pub returns : goal.returns
unfolding rest_of stepped
returns c = rw (le-ltb 1 c.args.self.now.waiting c.if-self-gt1.false)
