use Rattle.line_io.proofs.DecimalLemmas.{first_of_pair}
use Rattle.line_io.proofs.digits.tens.Goals as goal

pub returns : goal.returns
returns c = first_of_pair c.args.pair c.requires
