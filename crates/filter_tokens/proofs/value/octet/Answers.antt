use Rattle.std.proofs.Common.{◌∙◌, arith}
use Rattle.filter_tokens.proofs.ValueLemmas.{narrow_result, octet_small}
use Rattle.filter_tokens.proofs.value.octet.Goals as goal

pub returns-in_err-digits-clause-only : goal.returns-in_err-digits-clause-only
returns-in_err-digits-clause-only c =
    λ value stated.
    absurd (c.in_err-digits.ensures (stated.0, omega (arith, octet_small c.args.text.now stated.0.1 stated.1)))

pub returns-clause-only : goal.returns-clause-only
returns-clause-only c =
    λ value stated.
    narrow_result 255 c.in_ok-digits.field-0 value c.narrow_byte.result c.narrow_byte.ensures
    (c.in_ok-digits.ensures.1 ∙ stated.2) (omega (arith, octet_small c.args.text.now stated.0.1 stated.1, stated.2))
