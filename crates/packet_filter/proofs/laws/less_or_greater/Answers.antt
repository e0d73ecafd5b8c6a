use Rattle.packet_filter.proofs.LawLemmas.{less_or_greater}
use Rattle.packet_filter.proofs.laws.less_or_greater.Goals as goal

pub returns : goal.returns
returns c = λ packet number. less_or_greater packet number
