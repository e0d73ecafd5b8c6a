use Rattle.std.proofs.Common.{refl, inl, rules}
use Rattle.filter_tokens.proofs.ValueLemmas.{none_is_some}
use Rattle.filter_language.proofs.words.vlan_change.Goals as goal

pub returns-in-Some-clause-ok : goal.returns-in-Some-clause-ok
returns-in-Some-clause-ok c = λ most state token. (_, refl, (c.in-Some.id, c.in-Some.ensures.some, refl))

pub returns-then-begins_with_digit-clause-err : goal.returns-then-begins_with_digit-clause-err
returns-then-begins_with_digit-clause-err c = λ state.
    inl (search rules, λ id stated. none_is_some (c.in-None.ensures.only id stated), refl)
