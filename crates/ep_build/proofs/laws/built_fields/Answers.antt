use Rattle.ep_build.proofs.KeptFieldsLemmas.{arp_kept, fragment_kept, transport_kept}
use Rattle.ep_build.proofs.laws.built_fields.Goals as goal

pub returns-clause-transport : goal.returns-clause-transport
returns-clause-transport c = transport_kept

pub returns-clause-fragment : goal.returns-clause-fragment
returns-clause-fragment c = fragment_kept

pub returns-clause-arp : goal.returns-clause-arp
returns-clause-arp c = arp_kept
