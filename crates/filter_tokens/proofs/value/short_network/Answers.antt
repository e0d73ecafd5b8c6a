use Rattle.std.proofs.Common.{[], ◌∷◌}
use Rattle.filter_tokens.proofs.LeadingLemmas.{leading_result, one_leading_network, one_part, three_leading_network, three_parts, two_leading_network, two_parts}
use Rattle.filter_tokens.proofs.value.short_network.Goals as goal

pub returns-in_default-clause-some : goal.returns-in_default-clause-some
returns-in_default-clause-some c =
    one_leading_network c.args.word.now c.one_number_network.result c.one_number_network.ensures.some

pub returns-in_default-clause-only : goal.returns-in_default-clause-only
returns-in_default-clause-only c =
    λ numbers stated.
    let (a, is, decimal_a, some) = one_part c.args.word.now numbers c.in_default.ensures stated in
    leading_result numbers (a ∷ []) c.one_number_network.result is (c.one_number_network.ensures.only a decimal_a some)

pub returns-in-Some-split_once-clause-some : goal.returns-in-Some-split_once-clause-some
returns-in-Some-split_once-clause-some c =
    three_leading_network c.args.word.now c.in-Some.first.now c.in-Some.others.now c.in-Some-split_once.second.now
    c.in-Some-split_once.third.now c.three_number_network.result c.in-Some.ensures.0 c.in-Some.ensures.1
    c.in-Some.ensures.2 c.in-Some-split_once.ensures.0 c.in-Some-split_once.ensures.1
    c.in-Some-split_once.ensures.2 c.three_number_network.ensures.some

pub returns-in-Some-split_once-clause-only : goal.returns-in-Some-split_once-clause-only
returns-in-Some-split_once-clause-only c =
    λ numbers stated.
    let (x, y, z, is, first_is, second_is, third_is) =
    three_parts c.args.word.now c.in-Some.first.now c.in-Some.others.now c.in-Some-split_once.second.now
    c.in-Some-split_once.third.now numbers c.in-Some.ensures.0 c.in-Some.ensures.1 c.in-Some.ensures.2
    c.in-Some-split_once.ensures.0 c.in-Some-split_once.ensures.1 c.in-Some-split_once.ensures.2 stated in
    leading_result numbers (x ∷ y ∷ z ∷ []) c.three_number_network.result is
    (c.three_number_network.ensures.only x y z first_is second_is third_is)

pub returns-in-None-clause-some : goal.returns-in-None-clause-some
returns-in-None-clause-some c =
    two_leading_network c.args.word.now c.in-Some.first.now c.in-Some.others.now c.two_number_network.result
    c.in-Some.ensures.0 c.in-Some.ensures.1 c.in-Some.ensures.2 c.two_number_network.ensures.some

pub returns-in-None-clause-only : goal.returns-in-None-clause-only
returns-in-None-clause-only c =
    λ numbers stated.
    let (x, y, is, first_is, second_is) =
    two_parts c.args.word.now c.in-Some.first.now c.in-Some.others.now numbers c.in-Some.ensures.0
    c.in-Some.ensures.1 c.in-Some.ensures.2 c.in-None.ensures stated in
    leading_result numbers (x ∷ y ∷ []) c.two_number_network.result is
    (c.two_number_network.ensures.only x y first_is second_is)
