use Rattle.ep_lax.proofs.LaxEntryLemmas.{lax_decided}
use Rattle.ep_lax.proofs.laws.lax.Goals as goal

pub returns : goal.returns
returns c = lax_decided
