use Rattle.std.proofs.Common.{sym}
use Rattle.line_io.proofs.DecimalLemmas.{decimal_ten}
use Rattle.line_io.proofs.digits.ten.Goals as goal

pub returns : goal.returns
returns c =
    rw (c.tens.ensures, c.ones.ensures, c.tens-2.ensures, c.ones-2.ensures, c.tens-3.ensures, c.ones-3.ensures, c.tens-4.ensures, c.ones-4.ensures, c.tens-5.ensures, c.ones-5.ensures)
    (sym (decimal_ten c.args.number c.requires.least c.requires.most))
