use Rattle.filter_tokens.specs.Tokens.{is_run_byte}
use Rattle.filter_tokens.proofs.TokenLemmas.{prefix_found}
use Rattle.filter_tokens.proofs.token.run_len.Goals as goal

pub returns-clause-bound : goal.returns-clause-bound
returns-clause-bound c =
    (prefix_found is_run_byte c.args.text.now c.find_non_run_byte.result c.unwrap_or.result c.unwrap_or.ensures c.find_non_run_byte.ensures).1

pub returns-clause-value : goal.returns-clause-value
returns-clause-value c =
    (prefix_found is_run_byte c.args.text.now c.find_non_run_byte.result c.unwrap_or.result c.unwrap_or.ensures c.find_non_run_byte.ensures).0
