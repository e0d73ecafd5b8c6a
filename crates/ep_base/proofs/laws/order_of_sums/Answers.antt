use Rattle.ep_base.proofs.SumLemmas.{ones_add-comm, ones_add-assoc, ones_add-none}
use Rattle.ep_base.proofs.laws.order_of_sums.Goals as goal

pub returns-clause-commutes : goal.returns-clause-commutes
returns-clause-commutes c = ones_add-comm

pub returns-clause-associates : goal.returns-clause-associates
returns-clause-associates c = ones_add-assoc

pub returns-clause-nothing : goal.returns-clause-nothing
returns-clause-nothing c = ones_add-none
