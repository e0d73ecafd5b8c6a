use Rattle.std.proofs.Common.{eqb-true, sym, ◌∙◌, arith}
use Rattle.filter_tokens.proofs.NumberLemmas.{sixteen_bytes, not_true, within_numbers, within_other}
use Rattle.filter_tokens.proofs.network.is_in_ipv6.Goals as goal

pub returns-then-address-eq16 : goal.returns-then-address-eq16
returns-then-address-eq16 c =
    c.has_prefix.ensures
    ∙ within_numbers c.args.bits 128 c.number_of.result _ c.args.address.now c.args.network.now
    (λ i. omega (arith, c.type_inv.address i)) c.fits-network (c.if-address-eq16.true ∙ sym c.told-network)
    (omega (arith, c.if-address-eq16.true)) (c.number_of.ensures.ipv6 c.if-address-eq16.true)
    (c.from_be_bytes.ensures ∙ sixteen_bytes c.args.network.now c.told-network)

pub returns-else-address-eq16 : goal.returns-else-address-eq16
returns-else-address-eq16 c =
    not_true _ (λ is. c.if-address-eq16.false (eqb-true _ _ is))
    ∙ within_other c.args.bits c.args.address.now c.args.network.now
    (λ same. c.if-address-eq16.false (same ∙ c.told-network))
