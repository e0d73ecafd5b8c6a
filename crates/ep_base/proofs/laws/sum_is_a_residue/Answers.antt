use Rattle.ep_base.proofs.SumLemmas.{ones_sum-mod, ones_sum_le, ones_sum-zero}
use Rattle.ep_base.proofs.laws.sum_is_a_residue.Goals as goal

pub returns-clause-same : goal.returns-clause-same
returns-clause-same c = ones_sum-mod

pub returns-clause-bound : goal.returns-clause-bound
returns-clause-bound c = ones_sum_le

pub returns-clause-zero : goal.returns-clause-zero
returns-clause-zero c = ones_sum-zero
