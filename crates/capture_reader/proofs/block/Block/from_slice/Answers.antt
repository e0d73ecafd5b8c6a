use Rattle.std.proofs.Common.{arith}
use Rattle.ep_base.specs.Bytes.{AreBytes}
use Rattle.capture_reader.proofs.FrameLemmas.{complete_block}
use Rattle.capture_reader.proofs.block.Block.from_slice.Goals as goal

pub returns-in-Ok-content-clause-ok : goal.returns-in-Ok-content-clause-ok
returns-in-Ok-content-clause-ok c =
    let fits : AreBytes c.args.bytes.now = λ i. omega (arith, c.type_inv.bytes i) in
    (complete_block c.args.order c.args.bytes.now c.in-Ok.framing c.args.interfaces.now c.in-Ok-content.content fits
    c.in-Ok.ensures.ok c.in-Ok-content.ensures.ok).0

pub returns-in-Ok-content-clause-after : goal.returns-in-Ok-content-clause-after
returns-in-Ok-content-clause-after c =
    let fits : AreBytes c.args.bytes.now = λ i. omega (arith, c.type_inv.bytes i) in
    (complete_block c.args.order c.args.bytes.now c.in-Ok.framing c.args.interfaces.now c.in-Ok-content.content fits
    c.in-Ok.ensures.ok c.in-Ok-content.ensures.ok).1

pub returns-in-Ok-content-clause-shown : goal.returns-in-Ok-content-clause-shown
returns-in-Ok-content-clause-shown c =
    let fits : AreBytes c.args.bytes.now = λ i. omega (arith, c.type_inv.bytes i) in
    (complete_block c.args.order c.args.bytes.now c.in-Ok.framing c.args.interfaces.now c.in-Ok-content.content fits
    c.in-Ok.ensures.ok c.in-Ok-content.ensures.ok).2

pub returns-in-Ok-content-clause-fits : goal.returns-in-Ok-content-clause-fits
returns-in-Ok-content-clause-fits c =
    let fits : AreBytes c.args.bytes.now = λ i. omega (arith, c.type_inv.bytes i) in
    (complete_block c.args.order c.args.bytes.now c.in-Ok.framing c.args.interfaces.now c.in-Ok-content.content fits
    c.in-Ok.ensures.ok c.in-Ok-content.ensures.ok).3
