use Rattle.std.proofs.Common.{◌<◌, ◌≤◌, ◌+◌, arith}
use Rattle.std.proofs.lemmas.Bool.{le-leb, lt-leb}
use Rattle.ep_defrag.specs.NameHashes.{capacity_step, stepped}
use Rattle.ep_defrag.proofs.name_hasher.NameHasher.reserve_bytes.Goals as goal

pub returns-then-saturating_add-gt-MOST_WAITING : goal.returns-then-saturating_add-gt-MOST_WAITING
unfolding capacity_step
returns-then-saturating_add-gt-MOST_WAITING c =
    let count = c.args.self.now.count in
    let many : 3 < count + c.args.bytes = omega arith in
    rw (lt-leb (count + c.args.bytes) 3 many) c.flush_word.ensures

pub returns-else-saturating_add-gt-MOST_WAITING : goal.returns-else-saturating_add-gt-MOST_WAITING
unfolding capacity_step stepped
returns-else-saturating_add-gt-MOST_WAITING c =
    let count = c.args.self.now.count in
    let few : count + c.args.bytes ≤ 3 = omega arith in
    rw (le-leb (count + c.args.bytes) 3 few)
