use Rattle.std.proofs.Common.{Some, ap, ◌∙◌, arith, lit≤}
use Rattle.filter_tokens.proofs.ValueLemmas.{narrow_is, not_narrow, number_bound}
use Rattle.filter_tokens.proofs.value.ether_type.Goals as goal

pub returns-in_err-number-clause-only : goal.returns-in_err-number-clause-only
returns-in_err-number-clause-only c =
    λ value stated. absurd (not_narrow 65535 c.args.word.now value (lit≤ tt) c.in_err-number.ensures.only stated.0)

pub returns-in_err-number-2-clause-only : goal.returns-in_err-number-2-clause-only
returns-in_err-number-2-clause-only c =
    λ value stated.
    let same =
    narrow_is 65535 c.args.word.now c.in_ok-number.field-0 value (lit≤ tt) c.in_ok-number.ensures.only stated.0 in
    absurd (c.in_err-number-2.ensures (omega (arith, same, number_bound 65535 c.args.word.now value stated.0)))

pub returns-then-number-ge1536-clause-only : goal.returns-then-number-ge1536-clause-only
returns-then-number-ge1536-clause-only c =
    λ value stated.
    ap Some (c.in_ok-number-2.ensures.1
    ∙ narrow_is 65535 c.args.word.now c.in_ok-number.field-0 value (lit≤ tt) c.in_ok-number.ensures.only stated.0)

pub returns-else-number-ge1536-clause-only : goal.returns-else-number-ge1536-clause-only
returns-else-number-ge1536-clause-only c =
    λ value stated.
    let same =
    narrow_is 65535 c.args.word.now c.in_ok-number.field-0 value (lit≤ tt) c.in_ok-number.ensures.only stated.0 in
    absurd (omega (arith, same, c.in_ok-number-2.ensures.1, stated.1, c.if-number-ge1536.false))
