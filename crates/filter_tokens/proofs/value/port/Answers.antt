use Rattle.std.proofs.Common.{sym, lit≤}
use Rattle.filter_tokens.specs.Names.{lookup_name, port_names}
use Rattle.filter_tokens.proofs.ValueLemmas.{narrow_is, narrow_result, not_named, not_narrow, number_bound}
use Rattle.filter_tokens.proofs.value.port.Goals as goal

pub returns-in_err-number-in-None-clause-only : goal.returns-in_err-number-in-None-clause-only
returns-in_err-number-in-None-clause-only c =
    λ value stated.
    absurd (not_narrow 65535 c.args.word.now value (lit≤ tt) c.in_err-number-in-None.ensures.only
    (not_named (lookup_name c.args.word.now port_names) value (sym c.in-None.ensures) stated))

pub returns-in_ok-number-in-None-clause-only : goal.returns-in_ok-number-in-None-clause-only
returns-in_ok-number-in-None-clause-only c =
    λ value stated.
    let text = not_named (lookup_name c.args.word.now port_names) value (sym c.in-None.ensures) stated in
    narrow_result 65535 c.in_ok-number-in-None.field-0 value c.narrow_port.result c.narrow_port.ensures
    (narrow_is 65535 c.args.word.now c.in_ok-number-in-None.field-0 value (lit≤ tt)
    c.in_ok-number-in-None.ensures.only text)
    (number_bound 65535 c.args.word.now value text)
