use Rattle.etherparse_c.proofs.LimitLemmas.{none_waits}
use Rattle.etherparse_c.proofs.laws.limit_fits_payloads.Goals as goal

pub returns : goal.returns
returns c = none_waits c.data_within_limit.ensures.data
