use Rattle.std.proofs.Common.{◌≡◌, map, drop}
use Rattle.filter_tokens.specs.Names.{lookup_name}
use Rattle.filter_tokens.proofs.names.find_name.Given as goal

abbrev pub invariant-loop-name : goal.invariant-loop-name
invariant-loop-name g l =
    lookup_name l.word (map (λ row. (row.0.now, row.1)) l.names)
    ≡ lookup_name l.word (map (λ row. (row.0.now, row.1)) (drop l.name-index l.names))
