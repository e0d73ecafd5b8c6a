use Rattle.etherparse_c.proofs.BoundedLimitLemmas.{none_waits}
use Rattle.etherparse_c.proofs.laws.bounded_limit_fits_payloads.Goals as goal

pub returns : goal.returns
returns c = none_waits
