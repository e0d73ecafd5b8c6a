use Rattle.packet_dump.proofs.SavingLemmas.{saves_failed}
use Rattle.packet_dump.proofs.saving.Saving.write.Goals as goal

pub returns-in-Ok-clause-flushes : goal.returns-in-Ok-clause-flushes
returns-in-Ok-clause-flushes g c =
    λ options wanted closed packets saved saves.
    (c.args.self.now.bytes.items, rw c.as_slice.ensures.value at c.in-Ok.ensures.all, saves)

pub returns-in-Err-clause-flushes : goal.returns-in-Err-clause-flushes
returns-in-Err-clause-flushes g c =
    let saving = c.args.self.now in
    let prefix = rw c.as_slice.ensures.value at c.in-Err.ensures.prefix in
    λ options wanted closed packets saved saves. (
      prefix.0,
      prefix.2,
      saves_failed options wanted closed saving.state packets saved saving.bytes.items prefix.0 prefix.1
          c.requires.busy prefix.3 saves,
    )
