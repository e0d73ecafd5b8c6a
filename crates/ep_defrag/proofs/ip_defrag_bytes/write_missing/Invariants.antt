use Rattle.ep_defrag.proofs.BoundedWritingLemmas.{IsWrittenTo}
use Rattle.ep_defrag.proofs.ip_defrag_bytes.write_missing.Given as goal

abbrev pub invariant-loop-section : goal.invariant-loop-section
invariant-loop-section l =
    IsWrittenTo l.fn.bytes.items l.sections l.range l.payload l.bytes.items l.from l.section-index
