use Rattle.std.proofs.Common.{refl}
use Rattle.filter_language.proofs.words.size_change.Goals as goal

pub returns-in-Some-clause-ok : goal.returns-in-Some-clause-ok
returns-in-Some-clause-ok c = λ most state token. (_, refl, (c.in-Some.width, c.in-Some.ensures.some, refl))
