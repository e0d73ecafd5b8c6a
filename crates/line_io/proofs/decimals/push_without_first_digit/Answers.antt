use Rattle.std.proofs.Common.{◌-◌, ◌+◌, drop, take, arith}
use Rattle.line_io.proofs.DecimalLemmas.{digits-after_first}
use Rattle.line_io.proofs.ResultLemmas.{OnOk-appended}
use Rattle.line_io.proofs.decimals.push_without_first_digit.Goals as goal

pub returns-clause-text : goal.returns-clause-text
returns-clause-text c =
    let digits = c.write_digits-start.new.digits in
    let start = c.write_digits-start.result in
    OnOk-appended c.extend_from_slice.result c.args.output.now.items c.extend_from_slice.new.self.items
    (take (20 - (start + 1)) (drop (start + 1) digits)) _ c.extend_from_slice.ensures.items
    (digits-after_first c.args.number start digits (omega (arith, c.write_digits-start.array_long))
    c.write_digits-start.ensures.text)
