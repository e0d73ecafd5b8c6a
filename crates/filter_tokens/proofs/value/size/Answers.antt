use Rattle.std.proofs.Common.{Some, ap, sym, ◌∙◌, rules}
use Rattle.filter_tokens.proofs.ValueLemmas.{is_four, is_one, is_other, is_two, no_size, size_is}
use Rattle.filter_tokens.proofs.value.size.Goals as goal

pub returns-in_err-number-clause-only : goal.returns-in_err-number-clause-only
returns-in_err-number-clause-only c =
    λ width stated. absurd (no_size c.args.word.now width c.in_err-number.ensures.only stated)

pub returns-in-1-clause-only : goal.returns-in-1-clause-only
returns-in-1-clause-only c =
    λ width stated.
    ap Some (is_one width (sym c.in-1.is
    ∙ size_is c.args.word.now c.in_ok-number.field-0 width c.in_ok-number.ensures.only stated))

pub returns-in-2-clause-only : goal.returns-in-2-clause-only
returns-in-2-clause-only c =
    λ width stated.
    ap Some (is_two width (sym c.in-2.is
    ∙ size_is c.args.word.now c.in_ok-number.field-0 width c.in_ok-number.ensures.only stated))

pub returns-in-4-clause-only : goal.returns-in-4-clause-only
returns-in-4-clause-only c =
    λ width stated.
    ap Some (is_four width (sym c.in-4.is
    ∙ size_is c.args.word.now c.in_ok-number.field-0 width c.in_ok-number.ensures.only stated))

pub returns-in_default-clause-only : goal.returns-in_default-clause-only
returns-in_default-clause-only c =
    λ width stated.
    absurd (is_other c.in_ok-number.field-0 width
    (size_is c.args.word.now c.in_ok-number.field-0 width c.in_ok-number.ensures.only stated) (search rules)
    (search rules)
    (search rules))
