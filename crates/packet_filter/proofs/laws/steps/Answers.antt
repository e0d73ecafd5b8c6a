use Rattle.filter_language.proofs.TreeLemmas.{reads_back}
use Rattle.packet_filter.proofs.laws.steps.Goals as goal

pub returns : goal.returns
returns c = λ tree. reads_back tree
