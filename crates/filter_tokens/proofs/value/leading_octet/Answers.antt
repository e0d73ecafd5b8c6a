use Rattle.std.proofs.Common.{arith, subst, sym, ◌∙◌}
use Rattle.filter_tokens.specs.Values.{IsOctet}
use Rattle.filter_tokens.proofs.ValueLemmas.{colon_split, none_is_some, octet_first, some_is}
use Rattle.filter_tokens.proofs.value.leading_octet.Goals as goal

pub returns-in_default-clause-only : goal.returns-in_default-clause-only
returns-in_default-clause-only c =
    λ first rest value is stated.
    omega (arith, (octet_first c.args.text.now first rest value is stated).0, c.in_default.ensures)

pub returns-in-Some-octet-clause-some : goal.returns-in-Some-octet-clause-some
returns-in-Some-octet-clause-some c = (
  c.in-Some.first.now,
  colon_split c.args.text.now c.in-Some.first.now c.in-Some.rest.now c.in-Some.ensures.0 c.in-Some.ensures.1
      c.in-Some.ensures.2,
  c.in-Some-octet.ensures.some,
)

pub returns-in-Some-octet-clause-only : goal.returns-in-Some-octet-clause-only
returns-in-Some-octet-clause-only c =
    λ first rest value is stated.
    let present = octet_first c.args.text.now first rest value is stated in (
      some_is c.in-Some-octet.value value (c.in-Some-octet.ensures.only value
          (subst (λ t. IsOctet t value) (sym (c.in-Some.ensures.1 ∙ present.1)) stated)),
      c.in-Some.ensures.2 ∙ present.2,
    )

pub returns-in-None-clause-only : goal.returns-in-None-clause-only
returns-in-None-clause-only c =
    λ first rest value is stated.
    let present = octet_first c.args.text.now first rest value is stated in
    none_is_some (c.in-None.ensures.only value
    (subst (λ t. IsOctet t value) (sym (c.in-Some.ensures.1 ∙ present.1)) stated))
