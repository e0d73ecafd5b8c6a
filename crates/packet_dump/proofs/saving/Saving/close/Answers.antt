use Rattle.std.proofs.Common.{true}
use Rattle.packet_dump.proofs.saving.Saving.close.Goals as goal

pub returns-clause-closes : goal.returns-clause-closes
returns-clause-closes g c =
    λ options wanted packets saved saves.
    c.flush.ensures.flushes options wanted true packets saved
    (c.in_ok-finish.ensures.finishes options wanted packets saved saves)
