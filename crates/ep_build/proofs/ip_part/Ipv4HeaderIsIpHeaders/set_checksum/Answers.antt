use Rattle.std.proofs.Common.{arith}
use Rattle.std.proofs.lemmas.Grind.{common_steps}
use Rattle.ep_build.proofs.ip_part.Ipv4HeaderIsIpHeaders.set_checksum.Goals as goal

pub returns-in-Ok : goal.returns-in-Ok
returns-in-Ok c = grind (arith, common_steps)

pub returns-in-Err-Icmpv6InIpv4 : goal.returns-in-Err-Icmpv6InIpv4
returns-in-Err-Icmpv6InIpv4 c = grind (arith, common_steps)
