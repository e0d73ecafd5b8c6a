use Rattle.ep_base.specs.Readings.{headers}
use Rattle.ep_lax.proofs.LaxEntryLemmas.{lax_in_decided}
use Rattle.ep_lax.proofs.laws.headers.lax.Goals as goal

pub returns : goal.returns
returns c = lax_in_decided headers
