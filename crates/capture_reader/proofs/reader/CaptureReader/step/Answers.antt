use Rattle.std.proofs.Common.{ap, sym, ◌∙◌, length-drop, arith}
use Rattle.capture_reader.specs.Captures.{begins_long}
use Rattle.capture_reader.proofs.StepLemmas.{blocks_next, ends_blocks}
use Rattle.capture_reader.proofs.reader.CaptureReader.step.Goals as goal

pub advance_block-requires : goal.advance_block-requires
advance_block-requires c =
    let self = c.args.self.now in
    blocks_next self c.in-Blocks.order c.in-Blocks.is (omega (arith, length-drop self.end self.buffer.items))
    (ap (begins_long c.in-Blocks.order) (sym c.rest-in-Blocks.ensures) ∙ sym c.begins_long.ensures
    ∙ c.if-begins_long.false)

pub returns-then-self-len : goal.returns-then-self-len
returns-then-self-len c =
    let self = c.args.self.now in
    ends_blocks self c.in-Blocks.order c.in-Blocks.is (omega (arith, length-drop self.end self.buffer.items))
