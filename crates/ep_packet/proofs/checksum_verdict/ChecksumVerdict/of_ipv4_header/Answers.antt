use Rattle.std.proofs.Common.{arith}
use Rattle.std.proofs.lemmas.Grind.{common_steps}
use Rattle.ep_packet.proofs.checksum_verdict.ChecksumVerdict.of_ipv4_header.Goals as goal

pub returns-in-Some-default-empty : goal.returns-in-Some-default-empty
returns-in-Some-default-empty c = grind (arith, common_steps)
