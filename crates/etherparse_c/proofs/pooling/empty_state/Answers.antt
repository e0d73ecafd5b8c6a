use Rattle.std.proofs.Common.{refl}
use Rattle.etherparse_c.proofs.pooling.empty_state.Goals as goal

pub returns : goal.returns
returns c = record {
  holds = c.with_limit.ensures.holds;
  streams = c.with_limit.ensures.streams;
  limit = c.with_limit.ensures.limit;
  waiting = refl;
}
