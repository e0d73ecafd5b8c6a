use Rattle.std.proofs.Common.{Some, subst, sym, ◌∙◌}
use Rattle.filter_tokens.specs.Values.{IsDecimal}
use Rattle.filter_tokens.proofs.ValueLemmas.{none_is_some, one_port, one_result, pair_range, two_ports}
use Rattle.filter_tokens.proofs.value.port_range.Goals as goal

pub returns-in_err-port-in-None-clause-only : goal.returns-in_err-port-in-None-clause-only
returns-in_err-port-in-None-clause-only c =
    λ low high stated.
    absurd (none_is_some (c.in_err-port-in-None.ensures.only low
    (one_port c.args.word.now low high c.in-None.ensures stated).0))

pub returns-in-Some-clause-some : goal.returns-in-Some-clause-some
returns-in-Some-clause-some c =
    pair_range c.args.word.now c.in-Some.first.now c.in-Some.second.now c.port_pair.result c.in-Some.ensures.0
    c.in-Some.ensures.1 c.in-Some.ensures.2 c.port_pair.ensures.some

pub returns-in-Some-clause-only : goal.returns-in-Some-clause-only
returns-in-Some-clause-only c =
    λ low high stated.
    let (a, b, a_is, b_is, low_is, high_is) = two_ports c.args.word.now low high c.in-Some.ensures.0 stated in
    c.port_pair.ensures.only a b (subst (λ t. IsDecimal 65535 t a) (sym c.in-Some.ensures.1) a_is)
    (subst (λ t. IsDecimal 65535 t b) (sym c.in-Some.ensures.2) b_is)
    ∙ (λ i. Some (sym low_is i, sym high_is i))

pub returns-in_ok-port-in-None-clause-only : goal.returns-in_ok-port-in-None-clause-only
returns-in_ok-port-in-None-clause-only c =
    λ low high stated.
    let present = one_port c.args.word.now low high c.in-None.ensures stated in
    one_result c.in_ok-port-in-None.port low high (c.in_ok-port-in-None.ensures.only low present.0) present.1
