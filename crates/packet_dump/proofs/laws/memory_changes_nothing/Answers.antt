use Rattle.packet_dump.proofs.MemoryLemmas.{memory_changes_nothing}
use Rattle.packet_dump.proofs.laws.memory_changes_nothing.Goals as goal

pub returns : goal.returns
returns c = memory_changes_nothing
