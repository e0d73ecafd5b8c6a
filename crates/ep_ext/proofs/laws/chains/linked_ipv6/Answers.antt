use Rattle.ep_ext.proofs.LinkLemmas.{linked_walk, linked_value, linked_chain}
use Rattle.ep_ext.proofs.WalkLawLemmas.{linked_not_refused}
use Rattle.ep_ext.proofs.laws.chains.linked_ipv6.Goals as goal

pub returns : goal.returns
returns c = record {
  walk = linked_walk;
  not_refused = linked_not_refused;
  value = linked_value;
  chain = linked_chain;
}
