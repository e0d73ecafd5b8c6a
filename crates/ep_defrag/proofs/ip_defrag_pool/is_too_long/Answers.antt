use Rattle.std.proofs.Common.{rules}
use Rattle.ep_defrag.proofs.ip_defrag_pool.is_too_long.Goals as goal

pub returns : goal.returns
returns c = search rules
