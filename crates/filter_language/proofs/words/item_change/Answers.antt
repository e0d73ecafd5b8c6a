use Rattle.std.proofs.Common.{refl, ap}
use Rattle.filter_tokens.proofs.ValueLemmas.{none_is_some}
use Rattle.filter_language.specs.declared.mode.Mode.TheVariants as mode
use Rattle.filter_language.specs.States.{in_mode}
use Rattle.filter_language.proofs.words.item_change.Goals as goal

pub returns-in-Some-clause-ok : goal.returns-in-Some-clause-ok
returns-in-Some-clause-ok c = λ most state token.
    (_, refl, (c.in-Some.number, c.in-Some.ensures.some, ap (λ n. in_mode state (mode.GroupEnd c.args.comparison n)) c.union.ensures))

pub returns-in-None-clause-err : goal.returns-in-None-clause-err
returns-in-None-clause-err c = λ state. (λ number stated. none_is_some (c.in-None.ensures.only number stated), refl)
