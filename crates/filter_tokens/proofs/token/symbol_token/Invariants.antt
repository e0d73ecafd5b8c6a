use Rattle.std.proofs.Common.{◌≡◌, map, drop}
use Rattle.filter_tokens.specs.ShownTokens.{shown_token}
use Rattle.filter_tokens.specs.Tokens.{symbol_of}
use Rattle.filter_tokens.proofs.token.symbol_token.Given as goal

abbrev pub invariant-loop-symbol : goal.invariant-loop-symbol
invariant-loop-symbol l =
    symbol_of (map (λ row. (row.0.now, shown_token row.1 row.0.now)) l.symbols) l.text
    ≡ symbol_of (map (λ row. (row.0.now, shown_token row.1 row.0.now)) (drop l.symbol-index l.symbols)) l.text
