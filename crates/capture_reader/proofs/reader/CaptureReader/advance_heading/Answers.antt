use Rattle.std.proofs.Common.{refl, subst, sym}
use Rattle.capture_reader.specs.Captures.{heading}
use Rattle.capture_reader.specs.Classic.{RefusesHeading}
use Rattle.capture_reader.specs.Readers.{Answers, reader_rest}
use Rattle.capture_reader.proofs.ReaderLemmas.{refused_answers, refused_heading}
use Rattle.capture_reader.proofs.StepLemmas.{shows_heading, steps_heading}
use Rattle.capture_reader.proofs.reader.CaptureReader.advance_heading.Goals as goal

pub returns-in-Ok : goal.returns-in-Ok
returns-in-Ok c =
    let self = c.args.self.now in
    let first = c.in-Ok.heading in
    let is = rw c.rest.ensures at c.in-Ok.ensures.ok in
    let long = rw c.rest.ensures at c.in-Ok.ensures.long in (
      heading first,
      shows_heading self first c.requires.start,
      steps_heading self _ first c.requires.start refl refl refl refl long is,
    )

pub returns-in-Err : goal.returns-in-Err
returns-in-Err c =
    let self = c.args.self.now in
    let refused : RefusesHeading (reader_rest self) c.in-Err.refusal = rw c.rest.ensures at c.in-Err.ensures.err in
    let rows = refused_heading self c.in-Err.refusal c.requires.start c.requires.no_section refused in
    subst (Answers self self) (sym c.refuse.ensures)
    (refused_answers self self c.in-Err.refusal (record { stage = refl; rest = refl; offset = refl }) rows.0 rows.1)
