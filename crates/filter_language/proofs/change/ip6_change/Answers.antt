use Rattle.std.proofs.Common.{◌∙◌}
use Rattle.filter_tokens.specs.declared.keyword.Keyword.TheVariants as name
use Rattle.filter_language.proofs.ChangeLemmas.{address_of_ip6}
use Rattle.filter_language.proofs.change.ip6_change.Goals as goal

pub returns-in_default : goal.returns-in_default
returns-in_default c = record {
  value = λ most state token.
      address_of_ip6 state c.args.following c.in_default.not-Proto c.in_default.not-Multicast
      ∙ c.address_change.ensures.value most state token;
  apt = c.address_change.ensures.apt name.Ip6;
}
