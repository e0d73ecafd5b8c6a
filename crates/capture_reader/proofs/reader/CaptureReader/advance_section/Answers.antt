use Rattle.std.proofs.Common.{◌≡◌, ◌∙◌, sym, ap, vec_len, arith}
use Rattle.capture_reader.specs.States.{described_at_start}
use Rattle.capture_reader.proofs.StepLemmas.{blocks_first}
use Rattle.capture_reader.proofs.reader.CaptureReader.advance_section.Goals as goal

pub advance_block-requires : goal.advance_block-requires
advance_block-requires c =
    let self = c.args.self.now in
    let fresh : vec_len self.interfaces ≡ 0 =
    ap (λ s. described_at_start s (vec_len self.interfaces)) (sym c.requires.start) ∙ self.fresh in
    blocks_first self c.requires.start (omega (arith, fresh)) c.requires.begins
