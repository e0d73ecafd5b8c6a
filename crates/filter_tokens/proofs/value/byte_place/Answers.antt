use Rattle.std.proofs.Common.{◌==◌}
use Rattle.filter_tokens.proofs.TokenLemmas.{place_found}
use Rattle.filter_tokens.proofs.value.byte_place.Goals as goal

pub returns-clause-bound : goal.returns-clause-bound
returns-clause-bound c =
    (place_found (λ b. b == c.args.other) c.args.text.now c.find_byte.result c.unwrap_or.result c.unwrap_or.ensures
    c.find_byte.ensures).1

pub returns-clause-value : goal.returns-clause-value
returns-clause-value c =
    (place_found (λ b. b == c.args.other) c.args.text.now c.find_byte.result c.unwrap_or.result c.unwrap_or.ensures
    c.find_byte.ensures).0
