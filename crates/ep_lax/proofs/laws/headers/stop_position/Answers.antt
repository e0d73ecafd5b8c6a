use Rattle.ep_base.specs.Readings.{headers}
use Rattle.ep_lax.proofs.LaxStopPlaceLemmas.{stop_place}
use Rattle.ep_lax.proofs.laws.headers.stop_position.Goals as goal

pub returns : goal.returns
returns c = stop_place headers
