use Rattle.ep_base.proofs.TableLemmas.{decided}
use Rattle.ep_link.proofs.VlanLemmas.{double_vlan_is_read}
use Rattle.ep_link.proofs.laws.double_vlan.Goals as goal

pub returns : goal.returns
returns c = decided double_vlan_is_read
