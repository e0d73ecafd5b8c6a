use Rattle.std.proofs.Common.{arith}
use Rattle.std.proofs.lemmas.Grind.{common_steps}
use Rattle.ep_packet.proofs.checksum_verdict.ChecksumVerdict.between_ipv6.Goals as goal

pub returns-then-checksum-eq0 : goal.returns-then-checksum-eq0
returns-then-checksum-eq0 c = grind (arith, common_steps)
