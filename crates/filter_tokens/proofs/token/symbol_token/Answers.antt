use Rattle.std.proofs.Common.{arith, sym, ◌∙◌}
use Rattle.filter_tokens.proofs.TokenLemmas.{symbol_here}
use Rattle.filter_tokens.proofs.token.symbol_token.Goals as goal

pub returns-then-starts_with-clause-token : goal.returns-then-starts_with-clause-token
returns-then-starts_with-clause-token c =
    symbol_here c.args.text.now c.args.symbols.now c.loop-symbol.symbol-index _ (omega arith) (cc)
    ∙ sym c.loop-symbol.invariant
