use Rattle.std.proofs.Common.{◌≡◌, ◌≤◌, ◌-◌, ◌∙◌, min, refl, ap, sym, length, take}
use Rattle.std.proofs.Common.{length-take-le, take-append-drop, arith}
use Rattle.capture_reader.specs.BlockContents.{section_of}
use Rattle.capture_reader.specs.Captures.{inside, most_stretch, stretch}
use Rattle.capture_reader.specs.Readers.{reader_rest, stage_of}
use Rattle.capture_reader.proofs.StepLemmas.{part_steps}
use Rattle.capture_reader.proofs.reader.CaptureReader.skip_long_body.Goals as goal

pub returns : goal.returns
returns c =
    let self = c.args.self.now in
    let section = section_of c.args.order self.interfaces.items in
    let left = c.args.left in
    let rest = reader_rest self in
    let k = c.min-wanted.result in
    let is : k ≡ min left most_stretch = c.min-wanted.ensures in
    let present : length c.rest-available.result.now ≡ length rest = ap length c.rest-available.ensures in
    let within : k ≤ length rest = omega (arith, present) in
    let size : length (take k rest) ≡ k = length-take-le k rest within in
    part_steps self _ (inside section c.args.len left) (inside section c.args.len (left - k)) (stretch (take k rest)) k
    (ap (λ s. stage_of s self.interfaces.items) c.requires.inside) (c.requires.some, size ∙ is) refl
    (sym (take-append-drop k rest)) within refl refl refl (ap (λ n. inside section c.args.len (left - n)) size) refl
