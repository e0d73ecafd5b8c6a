use Rattle.std.proofs.lemmas.Grind.{common_steps}
use Rattle.std.proofs.Common.{arith}
use Rattle.ep_ext.proofs.ipv6_fragment_header.Ipv6FragmentHeaderClone.clone.Goals as goal

pub returns : goal.returns
returns c = grind (arith, common_steps)
