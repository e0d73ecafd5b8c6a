use Rattle.std.proofs.Common.{arith}
use Rattle.std.proofs.lemmas.Grind.{common_steps}
use Rattle.ep_lax.proofs.lax_ipv6_slice.LaxIpv6Slice.headers_len.Goals as goal

pub returns : goal.returns
returns c = grind (arith, common_steps)
