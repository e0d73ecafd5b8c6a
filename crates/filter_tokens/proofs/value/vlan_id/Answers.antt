use Rattle.std.proofs.Common.{Some, ap, ◌∙◌, arith, lit≤}
use Rattle.filter_tokens.proofs.ValueLemmas.{narrow_is, not_narrow, number_bound}
use Rattle.filter_tokens.proofs.value.vlan_id.Goals as goal

pub returns-in_err-number-clause-only : goal.returns-in_err-number-clause-only
returns-in_err-number-clause-only c =
    λ value stated. absurd (not_narrow 4095 c.args.word.now value (lit≤ tt) c.in_err-number.ensures.only stated)

pub returns-in_err-narrow_port-clause-only : goal.returns-in_err-narrow_port-clause-only
returns-in_err-narrow_port-clause-only c =
    λ value stated.
    let same =
    narrow_is 4095 c.args.word.now c.in_ok-number.field-0 value (lit≤ tt) c.in_ok-number.ensures.only stated in
    absurd (c.in_err-narrow_port.ensures (omega (arith, same, number_bound 4095 c.args.word.now value stated)))

pub returns-in-Ok-clause-only : goal.returns-in-Ok-clause-only
returns-in-Ok-clause-only c =
    λ value stated.
    ap Some (c.in-Ok.ensures.1 ∙ c.in_ok-narrow_port.ensures.1
    ∙ narrow_is 4095 c.args.word.now c.in_ok-number.field-0 value (lit≤ tt) c.in_ok-number.ensures.only stated)

pub returns-in-Err-clause-only : goal.returns-in-Err-clause-only
returns-in-Err-clause-only c =
    λ value stated.
    let same =
    narrow_is 4095 c.args.word.now c.in_ok-number.field-0 value (lit≤ tt) c.in_ok-number.ensures.only stated in
    absurd (omega (
      arith,
      same,
      c.in_ok-narrow_port.ensures.1,
      c.in-Err.ensures.0,
      number_bound 4095 c.args.word.now value stated,
    ))
