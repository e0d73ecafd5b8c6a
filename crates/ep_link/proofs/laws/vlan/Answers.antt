use Rattle.ep_base.proofs.TableLemmas.{decided}
use Rattle.ep_link.proofs.VlanLemmas.{vlan_is_read}
use Rattle.ep_link.proofs.laws.vlan.Goals as goal

pub returns : goal.returns
returns c = decided vlan_is_read
