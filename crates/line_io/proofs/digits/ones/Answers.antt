use Rattle.line_io.proofs.DecimalLemmas.{second_of_pair}
use Rattle.line_io.proofs.digits.ones.Goals as goal

pub returns : goal.returns
returns c = second_of_pair c.args.pair c.requires
