use Rattle.ep_base.proofs.SumLemmas.{ones_sum-checksum}
use Rattle.ep_base.proofs.laws.checksum_is_found.Goals as goal

pub returns : goal.returns
returns c = ones_sum-checksum
