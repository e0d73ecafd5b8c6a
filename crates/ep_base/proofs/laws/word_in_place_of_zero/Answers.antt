use Rattle.ep_base.proofs.SumLemmas.{ones_sum-word}
use Rattle.ep_base.proofs.laws.word_in_place_of_zero.Goals as goal

pub returns : goal.returns
returns c = ones_sum-word
