use Rattle.frame_bench.proofs.AnswerLemmas.{answered}
use Rattle.frame_bench.proofs.laws.answers.Goals as goal

pub returns : goal.returns
returns c = answered c.frames.ensures.slices
