use Rattle.std.proofs.Common.{◌-◌, refl, ap, subst, sym}
use Rattle.ep_base.specs.Tables.{Refuses}
use Rattle.capture_reader.specs.BlockContents.{section_of}
use Rattle.capture_reader.specs.Captures.{in_section, inside, long_header, long_rows}
use Rattle.capture_reader.specs.Numbers.{word32_at}
use Rattle.capture_reader.specs.Readers.{Answers, reader_rest, stage_of}
use Rattle.capture_reader.proofs.ReaderLemmas.{prefix_refused, refused_part}
use Rattle.capture_reader.proofs.StepLemmas.{part_steps}
use Rattle.capture_reader.proofs.reader.CaptureReader.read_long_header.Goals as goal

pub parse_long_len-requires : goal.parse_long_len-requires
parse_long_len-requires c = rw c.rest.ensures c.requires.long

pub returns-in-Ok : goal.returns-in-Ok
returns-in-Ok c =
    let self = c.args.self.now in
    let section = section_of c.args.order self.interfaces.items in
    let len = c.in-Ok.len in
    let number = word32_at c.args.order (reader_rest self) 0 in
    let fits = rw c.rest.ensures at c.in-Ok.ensures.fits in
    let parts = rw c.rest.ensures at c.in-Ok.ensures.parts in
    let long = rw c.rest.ensures at c.in-Ok.ensures.long in
    part_steps self _ (in_section section) (inside section len (len - 12)) (long_header number len) 8
    (ap (λ s. stage_of s self.interfaces.items) c.requires.blocks) fits refl parts long refl refl refl refl refl

pub returns-in-Err : goal.returns-in-Err
returns-in-Err c =
    let self = c.args.self.now in
    let refused : Refuses (long_rows c.args.order (reader_rest self)) c.in-Err.refusal = rw c.rest.ensures at
    c.in-Err.ensures.err in
    let section = section_of c.args.order self.interfaces.items in
    let rows = prefix_refused section (reader_rest self) c.in-Err.refusal c.requires.long refused in
    subst (Answers self self) (sym c.refuse.ensures)
    (refused_part self (in_section section) c.in-Err.refusal
    (ap (λ s. stage_of s self.interfaces.items) c.requires.blocks) rows.0 rows.1)
