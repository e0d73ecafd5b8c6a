use Rattle.std.proofs.Common.{◌≡◌, map, drop}
use Rattle.std.specs.List.{list_any}
use Rattle.filter_tokens.specs.Names.{is_text}
use Rattle.filter_tokens.proofs.names.is_one_of.Given as goal

abbrev pub invariant-loop-name : goal.invariant-loop-name
invariant-loop-name l =
    list_any (is_text l.word) (map (λ name. name.now) l.words)
    ≡ list_any (is_text l.word) (map (λ name. name.now) (drop l.name-index l.words))
