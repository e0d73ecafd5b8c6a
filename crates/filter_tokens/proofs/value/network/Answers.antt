use Rattle.std.proofs.Common.{Some, inl, ap, subst, sym, ◌∙◌}
use Rattle.std.specs.Net.Grammar.{IsIpText}
use Rattle.filter_tokens.specs.Networks.{address_width}
use Rattle.filter_tokens.proofs.OnceLemmas.{one_network}
use Rattle.filter_tokens.proofs.value.network.Goals as goal

pub returns-in-Some-clause-only : goal.returns-in-Some-clause-only
returns-in-Some-clause-only c =
    λ value stated.
    ap Some (one_network c.args.word.now c.whole_network.result value
    (inl (
      subst (λ a. IsIpText c.args.word.now a) (sym c.whole_network.ensures.address) c.in-Some.ensures.some,
      c.whole_network.ensures.bits ∙ ap address_width (sym c.whole_network.ensures.address),
    )) stated)
