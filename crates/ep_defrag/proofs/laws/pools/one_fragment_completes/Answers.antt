use Rattle.ep_defrag.proofs.CompletingLemmas.{one_fits, one_completes}
use Rattle.ep_defrag.proofs.laws.pools.one_fragment_completes.Goals as goal

pub returns : goal.returns
returns c limit accepted bytes fit len =
    (one_fits limit accepted fit bytes len, one_completes limit accepted fit bytes len)
