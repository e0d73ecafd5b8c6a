use Rattle.std.proofs.Common.{◌≡◌, Some, subst}
use Rattle.filter_tokens.specs.declared.network.Network.{Network}
use Rattle.filter_tokens.specs.Values.{IsFamily}
use Rattle.filter_tokens.proofs.ValueLemmas.{none_is_some}
use Rattle.filter_language.proofs.WordValueLemmas.{no_net}
use Rattle.filter_language.proofs.words.net_value.Goals as goal

pub returns-in-None-clause-none : goal.returns-in-None-clause-none
returns-in-None-clause-none c =
    no_net c.args.layer c.args.side c.args.word.now
    (λ network stated family. none_is_some (c.in-None.ensures.only network stated))

pub returns-else-is_family-clause-none : goal.returns-else-is_family-clause-none
returns-else-is_family-clause-none c =
    no_net c.args.layer c.args.side c.args.word.now
    (λ network stated family.
    let found = c.in-Some.network in
    let both : Some found ≡ Some network = c.in-Some.ensures.only network stated in
    let same : network ≡ found = cc in
    c.is_family.ensures.no c.if-is_family.false
    (subst (λ (n : Network). IsFamily c.args.layer n.address) same family))
