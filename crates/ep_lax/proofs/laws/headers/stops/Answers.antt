use Rattle.ep_base.specs.Readings.{headers}
use Rattle.ep_lax.proofs.LaxNextLayerLemmas.{no_stop_no_next, stop_is_next}
use Rattle.ep_lax.proofs.laws.headers.stops.Goals as goal

pub returns : goal.returns
returns c = record { next = stop_is_next headers; none = no_stop_no_next headers }
