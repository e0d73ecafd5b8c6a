use Rattle.std.proofs.Common.{rules}
use Rattle.ep_defrag.proofs.ip_defrag_buf.IpDefragBuf.new.Goals as goal

pub returns-clause-holds : goal.returns-clause-holds
returns-clause-holds c = search rules

pub returns-clause-data : goal.returns-clause-data
returns-clause-data c = search rules
