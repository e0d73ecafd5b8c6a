use Rattle.std.proofs.Common.{sym}
use Rattle.line_io.proofs.DecimalLemmas.{decimal_three}
use Rattle.line_io.proofs.digits.three.Goals as goal

pub returns : goal.returns
returns c =
    rw (c.tens.ensures, c.ones.ensures)
    (sym (decimal_three c.args.number c.requires.least c.requires.most))
