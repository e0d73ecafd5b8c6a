use Rattle.std.proofs.Common.{eqb-true, sym, ◌∙◌, arith}
use Rattle.filter_tokens.proofs.NumberLemmas.{fits, four_bytes, not_true, within_numbers, within_other}
use Rattle.filter_tokens.proofs.network.is_in_ipv4.Goals as goal

pub has_prefix-requires-clause-below : goal.has_prefix-requires-clause-below
has_prefix-requires-clause-below c =
    fits 32 c.number_of.result c.args.address.now (λ i. omega (arith, c.type_inv.address i))
    (omega (arith, c.if-address-eq4.true)) (c.number_of.ensures.ipv4 c.if-address-eq4.true)

pub returns-then-address-eq4 : goal.returns-then-address-eq4
returns-then-address-eq4 c =
    c.has_prefix.ensures
    ∙ within_numbers c.args.bits 32 c.number_of.result _ c.args.address.now c.args.network.now
    (λ i. omega (arith, c.type_inv.address i)) c.fits-network (c.if-address-eq4.true ∙ sym c.told-network)
    (omega (arith, c.if-address-eq4.true)) (c.number_of.ensures.ipv4 c.if-address-eq4.true)
    (c.from.ensures ∙ c.from_be_bytes.ensures ∙ four_bytes c.args.network.now c.told-network)

pub returns-else-address-eq4 : goal.returns-else-address-eq4
returns-else-address-eq4 c =
    not_true _ (λ is. c.if-address-eq4.false (eqb-true _ _ is))
    ∙ within_other c.args.bits c.args.address.now c.args.network.now
    (λ same. c.if-address-eq4.false (same ∙ c.told-network))
