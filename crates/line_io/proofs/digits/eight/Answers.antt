use Rattle.std.proofs.Common.{sym}
use Rattle.line_io.proofs.DecimalLemmas.{decimal_eight}
use Rattle.line_io.proofs.digits.eight.Goals as goal

pub returns : goal.returns
returns c =
    rw (c.tens.ensures, c.ones.ensures, c.tens-2.ensures, c.ones-2.ensures, c.tens-3.ensures, c.ones-3.ensures, c.tens-4.ensures, c.ones-4.ensures)
    (sym (decimal_eight c.args.number c.requires.least c.requires.most))
