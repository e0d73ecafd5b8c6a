use Rattle.packet_dump.proofs.eviction_lines.push_cleared.Goals as goal

pub returns-in-Ok-None : goal.returns-in-Ok-None
returns-in-Ok-None c =
    let none = rw c.in-Ok-None.is at c.in-Ok-None.field-0-is in
    rw (c.in-Ok-None.is, none) c.push_own_eviction.ensures
