use Rattle.std.proofs.Common.{rules}
use Rattle.ep_packet.proofs.ip_headers.IpHeaders.copy_from.Goals as goal

pub returns-then-is_some : goal.returns-then-is_some
returns-then-is_some c = search rules
