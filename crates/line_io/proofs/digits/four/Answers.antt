use Rattle.std.proofs.Common.{sym}
use Rattle.line_io.proofs.DecimalLemmas.{decimal_four}
use Rattle.line_io.proofs.digits.four.Goals as goal

pub returns : goal.returns
returns c =
    rw (c.tens.ensures, c.ones.ensures, c.tens-2.ensures, c.ones-2.ensures)
    (sym (decimal_four c.args.number c.requires.least c.requires.most))
