use Rattle.ep_base.specs.Readings.{slices}
use Rattle.ep_lax.proofs.LaxOrderLemmas.{lax_in_order}
use Rattle.ep_lax.proofs.laws.lax_bytes.Goals as goal

pub returns : goal.returns
returns c = lax_in_order slices
