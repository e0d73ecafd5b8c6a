use Rattle.std.proofs.Common.{refl, ap}
use Rattle.filter_tokens.specs.declared.primitive.Primitive.{Primitive}
use Rattle.filter_tokens.proofs.ValueLemmas.{none_is_some}
use Rattle.filter_language.specs.States.{finish_bare}
use Rattle.filter_language.proofs.words.packet_length_change.Goals as goal

pub returns-in-Some-clause-ok : goal.returns-in-Some-clause-ok
returns-in-Some-clause-ok c = λ most state token.
    (_, refl, (c.in-Some.number, c.in-Some.ensures.some, ap (λ (p : Primitive). finish_bare state p) c.number_test.ensures))

pub returns-in-None-clause-err : goal.returns-in-None-clause-err
returns-in-None-clause-err c = λ state. (λ number stated. none_is_some (c.in-None.ensures.only number stated), refl)
