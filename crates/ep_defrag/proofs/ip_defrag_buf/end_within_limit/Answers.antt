use Rattle.std.proofs.Common.{rules}
use Rattle.ep_defrag.proofs.ip_defrag_buf.end_within_limit.Goals as goal

pub returns-in_err-ok : goal.returns-in_err-ok
returns-in_err-ok c = search rules
