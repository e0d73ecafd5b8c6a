use Rattle.packet_filter.proofs.TextLemmas.{text_law}
use Rattle.packet_filter.proofs.laws.texts.Goals as goal

pub returns : goal.returns
returns c = λ text. text_law text
