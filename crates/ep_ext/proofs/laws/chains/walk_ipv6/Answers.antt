use Rattle.ep_ext.proofs.WalkLawLemmas.{walk_decided}
use Rattle.ep_ext.proofs.laws.chains.walk_ipv6.Goals as goal

pub returns : goal.returns
returns c = walk_decided
