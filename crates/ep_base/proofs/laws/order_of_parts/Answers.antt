use Rattle.ep_base.proofs.SumLemmas.{ones_sum-exchange}
use Rattle.ep_base.proofs.laws.order_of_parts.Goals as goal

pub returns : goal.returns
returns c = ones_sum-exchange
