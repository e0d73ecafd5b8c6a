use Rattle.std.proofs.Common.{refl, ap, subst, sym}
use Rattle.ep_base.specs.Tables.{Refuses}
use Rattle.capture_reader.specs.BlockContents.{section_of}
use Rattle.capture_reader.specs.Captures.{in_section, inside, trailing_len, trailing_rows}
use Rattle.capture_reader.specs.Readers.{Answers, reader_rest, stage_of}
use Rattle.capture_reader.proofs.ReaderLemmas.{refused_part}
use Rattle.capture_reader.proofs.StepLemmas.{part_steps}
use Rattle.capture_reader.proofs.reader.CaptureReader.read_trailing_len.Goals as goal

pub returns-in-Ok : goal.returns-in-Ok
returns-in-Ok c =
    let self = c.args.self.now in
    let section = section_of c.args.order self.interfaces.items in
    let fits = c.in-Ok.ensures.fits in
    let parts = rw c.rest.ensures at c.in-Ok.ensures.parts in
    let long = rw c.rest.ensures at c.in-Ok.ensures.long in
    part_steps self _ (inside section c.args.len 0) (in_section section) trailing_len 4
    (ap (λ s. stage_of s self.interfaces.items) c.requires) (refl, fits) refl parts long refl refl refl refl refl

pub returns-in-Err : goal.returns-in-Err
returns-in-Err c =
    let self = c.args.self.now in
    let section = section_of c.args.order self.interfaces.items in
    let refused : Refuses (trailing_rows c.args.order c.args.len (reader_rest self)) c.in-Err.refusal =
    rw c.rest.ensures at c.in-Err.ensures.err in
    subst (Answers self self) (sym c.refuse.ensures)
    (refused_part self (inside section c.args.len 0) c.in-Err.refusal
    (ap (λ s. stage_of s self.interfaces.items) c.requires) refl refused)
