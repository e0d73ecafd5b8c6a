use Rattle.std.proofs.lemmas.Grind.{common_steps}
use Rattle.std.proofs.Common.{◌++◌, ap, sym, ◌∙◌, arith}
use Rattle.std.proofs.lemmas.Fmt.{decimal_digit}
use Rattle.line_io.proofs.decimals.push_four.Goals as goal

pub returns-then-number-lt10-clause-text : goal.returns-then-number-lt10-clause-text
returns-then-number-lt10-clause-text c =
    c.push_reserved.ensures.items
    ∙ ap (λ t. c.args.output.now.items ++ t) (sym (decimal_digit c.args.number c.if-number-lt10.true))

pub three-requires-clause-most : goal.three-requires-clause-most
three-requires-clause-most c = grind (arith, common_steps)
