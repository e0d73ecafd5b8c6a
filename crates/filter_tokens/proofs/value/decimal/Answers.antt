use Rattle.std.proofs.Common.{rules}
use Rattle.filter_tokens.proofs.ValueLemmas.{decimal_number, no_decimal}
use Rattle.filter_tokens.proofs.value.decimal.Goals as goal

pub returns-then-has_leading_zero-clause-only : goal.returns-then-has_leading_zero-clause-only
returns-then-has_leading_zero-clause-only c =
    λ value stated. absurd (no_decimal c.args.word.now value (search rules) stated)

pub returns-clause-some : goal.returns-clause-some
returns-clause-some c = (decimal_number c.args.word.now c.digits.result (search rules) c.digits.ensures).0

pub returns-clause-only : goal.returns-clause-only
returns-clause-only c = (decimal_number c.args.word.now c.digits.result (search rules) c.digits.ensures).1
