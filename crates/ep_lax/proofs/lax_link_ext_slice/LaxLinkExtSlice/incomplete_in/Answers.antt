use Rattle.std.proofs.Common.{arith}
use Rattle.std.proofs.lemmas.Grind.{common_steps}
use Rattle.ep_lax.proofs.lax_link_ext_slice.LaxLinkExtSlice.incomplete_in.Goals as goal

pub returns-in-Vlan : goal.returns-in-Vlan
returns-in-Vlan c = grind (arith, common_steps)
