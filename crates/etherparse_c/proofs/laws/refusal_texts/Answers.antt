use Rattle.etherparse_c.proofs.TextLemmas.{texts_of_refusals}
use Rattle.etherparse_c.proofs.laws.refusal_texts.Goals as goal

pub returns : goal.returns
returns c = texts_of_refusals
