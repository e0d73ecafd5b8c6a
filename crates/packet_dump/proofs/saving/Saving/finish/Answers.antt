use Rattle.std.proofs.Common.{sym, ◌∙◌}
use Rattle.std.proofs.lemmas.Result.{on_ok_weaker}
use Rattle.packet_dump.proofs.SavingLemmas.{saves_finished}
use Rattle.packet_dump.proofs.saving.Saving.finish.Goals as goal

pub returns-then-is_empty-clause-finishes : goal.returns-then-is_empty-clause-finishes
returns-then-is_empty-clause-finishes c =
    let saving = c.args.self.now in
    on_ok_weaker c.push_heading.result
    (λ pushed options wanted packets saved saves.
    rw pushed (rw (sym c.is_empty.ensures ∙ c.if-is_empty.true) at
    (saves_finished options wanted saving.state packets saved saving.bytes.items saves))) c.push_heading.ensures.ok

pub returns-else-is_empty-clause-finishes : goal.returns-else-is_empty-clause-finishes
returns-else-is_empty-clause-finishes c =
    let saving = c.args.self.now in
    λ options wanted packets saved saves.
    rw (sym c.is_empty.ensures ∙ c.if-is_empty.false) at
    (saves_finished options wanted saving.state packets saved saving.bytes.items saves)
