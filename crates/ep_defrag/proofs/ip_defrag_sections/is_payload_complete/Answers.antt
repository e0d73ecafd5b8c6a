use Rattle.std.proofs.Common.{rules}
use Rattle.ep_defrag.proofs.ip_defrag_sections.is_payload_complete.Goals as goal

pub returns-else-is_some : goal.returns-else-is_some
returns-else-is_some c = search rules
