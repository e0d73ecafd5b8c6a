use Rattle.ep_defrag.proofs.CompletingLemmas.{two_complete}
use Rattle.ep_defrag.proofs.laws.pools.two_fragments_complete.Goals as goal

pub returns : goal.returns
returns c limit accepted prefix back least fit fill = two_complete limit accepted fit prefix back fill least
