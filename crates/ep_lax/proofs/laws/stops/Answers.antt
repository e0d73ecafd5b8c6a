use Rattle.ep_base.specs.Readings.{slices}
use Rattle.ep_lax.proofs.LaxStopEntryLemmas.{first_is_strict, frame_tells, stops_are_strict}
use Rattle.ep_lax.proofs.LaxErrorLayerLemmas.{first_not_long}
use Rattle.ep_lax.proofs.LaxNextLayerLemmas.{no_stop_no_next, stop_is_next}
use Rattle.ep_lax.proofs.laws.stops.Goals as goal

pub returns : goal.returns
returns c = record {
  strict = frame_tells;
  first = λ entry bytes error refused.
      (first_is_strict entry bytes error refused, first_not_long entry bytes error refused);
  stop = stops_are_strict;
  next = stop_is_next slices;
  none = no_stop_no_next slices;
}
