use Rattle.std.proofs.Common.{arith, sym, ◌∙◌}
use Rattle.std.proofs.lemmas.List.{take_rest}
use Rattle.filter_tokens.proofs.TokenListLemmas.{colon_first, escaped_first, length_is, symbol_first, word_first}
use Rattle.filter_tokens.proofs.token.first_token.Goals as goal

pub returns-then-is_alphanumeric-clause-token : goal.returns-then-is_alphanumeric-clause-token
returns-then-is_alphanumeric-clause-token c =
    word_first _ _ c.args.text.now c.word_of.result.now (omega arith)
    (sym c.is_alphanumeric.ensures ∙ c.if-is_alphanumeric.true) c.word_of.ensures.value c.word_token.ensures.token
    c.word_token.ensures.len

pub returns-then-is_alphanumeric-clause-some : goal.returns-then-is_alphanumeric-clause-some
returns-then-is_alphanumeric-clause-some c =
    λ no_end. length_is _ _ c.args.text.now (omega arith) (returns-then-is_alphanumeric-clause-token c)

pub returns-then-first-eq58-clause-token : goal.returns-then-first-eq58-clause-token
returns-then-first-eq58-clause-token c =
    colon_first _ _ c.args.text.now (omega arith) c.if-first-eq58.true c.colon_token.ensures.word
    c.colon_token.ensures.colon

pub returns-then-first-eq58-clause-some : goal.returns-then-first-eq58-clause-some
returns-then-first-eq58-clause-some c =
    λ no_end. length_is _ _ c.args.text.now (omega arith) (returns-then-first-eq58-clause-token c)

pub returns-then-first-eq92-clause-token : goal.returns-then-first-eq92-clause-token
returns-then-first-eq92-clause-token c =
    escaped_first _ _ c.args.text.now _ (omega arith) c.if-first-eq92.true (take_rest c.args.text.now 1)
    c.escaped_token.ensures.token

pub returns-then-first-eq92-clause-some : goal.returns-then-first-eq92-clause-some
returns-then-first-eq92-clause-some c =
    λ no_end. length_is _ _ c.args.text.now (omega arith) (returns-then-first-eq92-clause-token c)

pub returns-clause-token : goal.returns-clause-token
returns-clause-token c =
    c.symbol_token.ensures.token
    ∙ sym (symbol_first c.args.text.now (omega arith) (sym c.is_alphanumeric.ensures ∙ c.if-is_alphanumeric.false)
    c.if-first-eq58.false c.if-first-eq92.false)

pub returns-clause-some : goal.returns-clause-some
returns-clause-some c =
    λ no_end. length_is _ _ c.args.text.now (omega arith) (returns-clause-token c)
