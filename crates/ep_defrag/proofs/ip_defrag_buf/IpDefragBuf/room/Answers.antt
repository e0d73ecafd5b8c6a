use Rattle.std.proofs.Common.{rules}
use Rattle.ep_defrag.proofs.ip_defrag_buf.IpDefragBuf.room.Goals as goal

pub returns-clause-shown : goal.returns-clause-shown
returns-clause-shown c = search rules
