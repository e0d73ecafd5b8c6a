use Rattle.std.proofs.Common.{refl, subst, sym}
use Rattle.capture_reader.specs.Readers.{Answers}
use Rattle.capture_reader.proofs.ReaderLemmas.{refused_answers, refused_block}
use Rattle.capture_reader.proofs.reader.CaptureReader.advance_block.Goals as goal

pub returns-in-Err : goal.returns-in-Err
returns-in-Err c =
    let self = c.args.self.now in
    let rows = refused_block self c.args.order c.in-Err.refusal c.requires c.in-Err.ensures.err in
    subst (Answers self self) (sym c.refuse.ensures)
    (refused_answers self self c.in-Err.refusal (record { stage = refl; rest = refl; offset = refl }) rows.0 rows.1)
