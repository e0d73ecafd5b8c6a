use Rattle.std.proofs.lemmas.Grind.{common_steps}
use Rattle.std.proofs.Common.{arith}
use Rattle.ep_base.proofs.numbers.vlan_id.VlanId.try_new.Goals as goal

pub invariant_of-result : goal.invariant_of-result
invariant_of-result c = grind (arith, common_steps)

pub returns-then-value-le4095 : goal.returns-then-value-le4095
returns-then-value-le4095 c = grind (arith, common_steps)
