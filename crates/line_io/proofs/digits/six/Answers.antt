use Rattle.std.proofs.Common.{sym}
use Rattle.line_io.proofs.DecimalLemmas.{decimal_six}
use Rattle.line_io.proofs.digits.six.Goals as goal

pub returns : goal.returns
returns c =
    rw (c.tens.ensures, c.ones.ensures, c.tens-2.ensures, c.ones-2.ensures, c.tens-3.ensures, c.ones-3.ensures)
    (sym (decimal_six c.args.number c.requires.least c.requires.most))
