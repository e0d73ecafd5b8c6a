use Rattle.std.proofs.Common.{rules, ◌≡◌, ℕ, min, map, ap, ◌∙◌}
use Rattle.std.specs.Map.{values_of}
use Rattle.std.specs.Map.Iter.{deref}
use Rattle.std.proofs.lemmas.Map.Iter.{iter_end}
use Rattle.ep_defrag.proofs.EntryLemmas.{bytes_by_values}
use Rattle.ep_defrag.proofs.ip_defrag_pool.IpDefragPool.held_bytes.Goals as goal

pub returns : goal.returns
returns g c =
    let all : map deref c.loop-stream.yielded ≡ values_of c.args.self.now.1 = search (rules, iter_end) in
    c.loop-stream.invariant
    ∙ ap (λ (bytes : ℕ). min bytes 18446744073709551615) (bytes_by_values c.args.self.now.1 c.loop-stream.yielded all)
