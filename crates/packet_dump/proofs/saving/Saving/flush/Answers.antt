use Rattle.std.proofs.Common.{[], sym, ◌∙◌}
use Rattle.std.proofs.KnownBytes.{Appends-nil}
use Rattle.line_io.specs.WatchedWords.{inner_of}
use Rattle.packet_dump.proofs.SavingLemmas.{saves_idle}
use Rattle.packet_dump.proofs.saving.Saving.flush.Goals as goal

pub returns-then-is_idle-clause-flushes : goal.returns-then-is_idle-clause-flushes
returns-then-is_idle-clause-flushes g c =
    λ options wanted closed packets saved saves. (
      [],
      Appends-nil (g.F.Write.contents (inner_of c.args.file.now)),
      saves_idle options wanted closed c.args.self.now.state packets saved c.args.self.now.bytes.items
          (sym c.is_idle.ensures.value ∙ c.if-is_idle.true) saves,
    )
