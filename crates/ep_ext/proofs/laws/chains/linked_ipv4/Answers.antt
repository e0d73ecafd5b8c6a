use Rattle.ep_ext.proofs.LinkLemmas.{linked_walk_4, linked_chain_4}
use Rattle.ep_ext.proofs.laws.chains.linked_ipv4.Goals as goal

pub returns : goal.returns
returns c = record { walk = linked_walk_4; chain = linked_chain_4 }
