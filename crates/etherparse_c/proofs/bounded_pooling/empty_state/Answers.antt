use Rattle.std.proofs.Common.{refl}
use Rattle.etherparse_c.proofs.bounded_pooling.empty_state.Goals as goal

pub returns : goal.returns
returns c = record {
  names = c.in-Ok.ensures.names;
  limits = c.in-Ok.ensures.limits;
  evicted = c.in-Ok.ensures.evicted;
  statistics = c.in-Ok.ensures.statistics;
  waiting = refl;
}
