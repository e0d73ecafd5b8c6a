use Rattle.ep_base.proofs.SumLemmas.{ones_sum-append}
use Rattle.ep_base.proofs.laws.sum_of_parts.Goals as goal

pub returns : goal.returns
returns c = ones_sum-append
