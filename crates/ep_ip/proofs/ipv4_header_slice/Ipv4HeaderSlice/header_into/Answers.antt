use Rattle.std.proofs.Common.{arith}
use Rattle.std.proofs.lemmas.Grind.{common_steps}
use Rattle.ep_ip.proofs.ipv4_header_slice.Ipv4HeaderSlice.header_into.Goals as goal

pub returns : goal.returns
returns c = grind (arith, common_steps)
