use Rattle.std.proofs.Common.{refl}
use Rattle.filter_language.proofs.words.qualified_change.Goals as goal

pub returns-in-Some-clause-ok : goal.returns-in-Some-clause-ok
returns-in-Some-clause-ok c = λ most state token.
    (_, c.after_value.ensures.value most state token, (c.in-Some.primitive, c.in-Some.ensures.some, refl))

pub returns-in-None-clause-err : goal.returns-in-None-clause-err
returns-in-None-clause-err c = (c.in-None.ensures.none, c.value_error.ensures)
