use Rattle.std.proofs.Common.{refl, inr, subst, sym}
use Rattle.filter_tokens.specs.declared.filter_error.FilterErrorKind.TheVariants as kind
use Rattle.filter_tokens.proofs.ValueLemmas.{none_is_some}
use Rattle.filter_language.specs.declared.head.Head.{Head}
use Rattle.filter_language.specs.Refusals.{IsValueKind}
use Rattle.filter_language.proofs.words.value_error.Goals as goal

pub returns-in-None : goal.returns-in-None
returns-in-None c =
    subst (λ (h : Head). IsValueKind h c.args.word.now kind.NotAnAddress) (sym c.in-Host.is)
    (inr (λ stated. none_is_some (c.in-None.ensures.only stated.0 stated.1), refl))

pub returns-in-None-network : goal.returns-in-None-network
returns-in-None-network c =
    subst (λ (h : Head). IsValueKind h c.args.word.now kind.NotANetwork) (sym c.in-Net.is)
    (inr (λ stated. none_is_some (c.in-None-network.ensures.only stated.0 stated.1), refl))
