use Rattle.filter_tokens.proofs.ValueLemmas.{numeral_is_utf8}
use Rattle.filter_tokens.proofs.value.digits.Goals as goal

pub returns-in_default : goal.returns-in_default
returns-in_default c =
    λ stated. c.in_default.ensures.cases.0 (numeral_is_utf8 c.args.radix c.args.text.now c.requires.high stated.0)
