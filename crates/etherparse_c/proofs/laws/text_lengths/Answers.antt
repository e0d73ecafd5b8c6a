use Rattle.etherparse_c.proofs.TextLengthLemmas.{texts_fit}
use Rattle.etherparse_c.proofs.laws.text_lengths.Goals as goal

pub returns : goal.returns
returns c = texts_fit
