use Rattle.packet_filter.proofs.ReadBackLemmas.{read_back}
use Rattle.packet_filter.proofs.laws.read_back.Goals as goal

pub returns : goal.returns
returns c = read_back
