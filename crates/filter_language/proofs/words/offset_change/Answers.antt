use Rattle.std.proofs.Common.{refl}
use Rattle.filter_tokens.proofs.ValueLemmas.{none_is_some}
use Rattle.filter_language.proofs.words.offset_change.Goals as goal

pub returns-in-Some-clause-ok : goal.returns-in-Some-clause-ok
returns-in-Some-clause-ok c = λ most state token.
    (_, refl, (c.in-Some.offset, c.in-Some.ensures.some, refl))

pub returns-in-None-clause-err : goal.returns-in-None-clause-err
returns-in-None-clause-err c = λ state. (λ number stated. none_is_some (c.in-None.ensures.only number stated), refl)
