use Rattle.std.proofs.lemmas.Grind.{common_steps}
use Rattle.std.proofs.Common.{arith}
use Rattle.ep_ip.proofs.ipv4_header.Ipv4Header.set_payload_len.Goals as goal

pub returns-then-len-max_allowed : goal.returns-then-len-max_allowed
returns-then-len-max_allowed c = grind (arith, common_steps)
