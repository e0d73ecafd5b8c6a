use Rattle.etherparse_c.proofs.BoundedAnswerLemmas.{new_bounded}
use Rattle.etherparse_c.proofs.bounded_pooling.new_pool.Goals as goal

pub returns : goal.returns
returns c = new_bounded c.in-Some.ensures c.store_pool.ensures
