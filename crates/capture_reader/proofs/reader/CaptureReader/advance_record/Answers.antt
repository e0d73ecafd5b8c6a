use Rattle.std.proofs.Common.{refl, subst, sym, ◌<◌, length, length-drop, arith}
use Rattle.std.proofs.lemmas.Grind.{common_steps}
use Rattle.capture_reader.specs.Classic.{RefusesRecord}
use Rattle.capture_reader.specs.Readers.{Answers, reader_rest, reader_stage}
use Rattle.capture_reader.proofs.ReaderLemmas.{refused_answers, refused_record, some_left}
use Rattle.capture_reader.proofs.StepLemmas.{steps_packet}
use Rattle.capture_reader.proofs.reader.CaptureReader.advance_record.Goals as goal

pub returns-in-Ok : goal.returns-in-Ok
returns-in-Ok c =
    let self = c.args.self.now in
    let is = rw c.rest.ensures at c.in-Ok.ensures.ok in
    let long = rw c.rest.ensures at c.in-Ok.ensures.within in
    steps_packet self _ c.args.heading c.in-Ok.record.kept c.requires refl refl refl refl refl refl long
    c.known-self.ensures is

pub returns-in-Err : goal.returns-in-Err
returns-in-Err c =
    let self = c.args.self.now in
    let refused : RefusesRecord c.args.heading.order (reader_rest self) c.in-Err.refusal =
    rw c.rest.ensures at c.in-Err.ensures.err in
    let some : 0 < length (reader_rest self) = grind (arith, common_steps, length-drop self.end self.buffer.items) in
    subst (Answers self self) (sym c.refuse.ensures)
    (refused_answers self self c.in-Err.refusal (record { stage = refl; rest = refl; offset = refl })
    (some_left (reader_stage self) (reader_rest self) some)
    (refused_record self c.args.heading c.in-Err.refusal c.requires refused))
