use Rattle.std.proofs.Common.{◌++◌, ◌∙◌, ap, sym}
use Rattle.std.proofs.lemmas.Fmt.{decimal_digit}
use Rattle.line_io.proofs.decimals.push.Goals as goal

pub returns-then-spare-gt0-clause-text : goal.returns-then-spare-gt0-clause-text
returns-then-spare-gt0-clause-text c =
    c.push_reserved.ensures.items
    ∙ ap (λ t. c.args.output.now.items ++ t) (sym (decimal_digit c.args.number c.if-number-lt10.true))
