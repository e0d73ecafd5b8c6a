use Rattle.std.proofs.Common.{lit≤}
use Rattle.filter_tokens.proofs.ValueLemmas.{narrow_is, narrow_result, not_narrow, number_bound}
use Rattle.filter_tokens.proofs.value.byte_number.Goals as goal

pub returns-in_err-number-clause-only : goal.returns-in_err-number-clause-only
returns-in_err-number-clause-only c =
    λ value stated. absurd (not_narrow 255 c.args.word.now value (lit≤ tt) c.in_err-number.ensures.only stated)

pub returns-clause-only : goal.returns-clause-only
returns-clause-only c =
    λ value stated.
    narrow_result 255 c.in_ok-number.field-0 value c.narrow_byte.result c.narrow_byte.ensures
    (narrow_is 255 c.args.word.now c.in_ok-number.field-0 value (lit≤ tt) c.in_ok-number.ensures.only stated)
    (number_bound 255 c.args.word.now value stated)
