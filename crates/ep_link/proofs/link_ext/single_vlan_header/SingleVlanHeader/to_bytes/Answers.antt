use Rattle.std.proofs.lemmas.Grind.{common_steps}
use Rattle.std.proofs.Common.{arith}
use Rattle.ep_link.proofs.link_ext.single_vlan_header.SingleVlanHeader.to_bytes.Goals as goal

pub returns : goal.returns
returns c = grind (arith, common_steps)
