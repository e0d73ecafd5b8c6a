use Rattle.filter_tokens.specs.Tokens.{is_continuation}
use Rattle.filter_tokens.proofs.TokenLemmas.{prefix_found}
use Rattle.filter_tokens.proofs.token.continuation_len.Goals as goal

pub returns-clause-bound : goal.returns-clause-bound
returns-clause-bound c =
    (prefix_found is_continuation c.args.text.now c.find_non_continuation.result c.unwrap_or.result c.unwrap_or.ensures c.find_non_continuation.ensures).1

pub returns-clause-value : goal.returns-clause-value
returns-clause-value c =
    (prefix_found is_continuation c.args.text.now c.find_non_continuation.result c.unwrap_or.result c.unwrap_or.ensures c.find_non_continuation.ensures).0
