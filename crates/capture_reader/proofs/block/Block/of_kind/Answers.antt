use Rattle.std.proofs.Common.{arith}
use Rattle.ep_base.specs.Bytes.{AreBytes}
use Rattle.capture_reader.specs.BlockContents.{section_of}
use Rattle.capture_reader.proofs.FrameLemmas.{body_no_block, complete_block, framed_short, refused_no_block}
use Rattle.capture_reader.proofs.block.Block.of_kind.Goals as goal

pub returns-clause-ok : goal.returns-clause-ok
returns-clause-ok c =
    let fits : AreBytes c.args.bytes.now = λ i. omega (arith, c.type_inv.bytes i) in
    (complete_block c.args.order c.args.bytes.now c.in-Ok.framing c.args.interfaces.now c.in-Ok-content.content fits
    c.in-Ok.ensures.ok c.in-Ok-content.ensures.ok).0

pub returns-clause-after : goal.returns-clause-after
returns-clause-after c =
    let fits : AreBytes c.args.bytes.now = λ i. omega (arith, c.type_inv.bytes i) in
    (complete_block c.args.order c.args.bytes.now c.in-Ok.framing c.args.interfaces.now c.in-Ok-content.content fits
    c.in-Ok.ensures.ok c.in-Ok-content.ensures.ok).1

pub returns-clause-shown : goal.returns-clause-shown
returns-clause-shown c =
    let fits : AreBytes c.args.bytes.now = λ i. omega (arith, c.type_inv.bytes i) in
    (complete_block c.args.order c.args.bytes.now c.in-Ok.framing c.args.interfaces.now c.in-Ok-content.content fits
    c.in-Ok.ensures.ok c.in-Ok-content.ensures.ok).2

pub returns-clause-fits : goal.returns-clause-fits
returns-clause-fits c =
    let fits : AreBytes c.args.bytes.now = λ i. omega (arith, c.type_inv.bytes i) in
    (complete_block c.args.order c.args.bytes.now c.in-Ok.framing c.args.interfaces.now c.in-Ok-content.content fits
    c.in-Ok.ensures.ok c.in-Ok-content.ensures.ok).3

pub returns-clause-short : goal.returns-clause-short
returns-clause-short c = framed_short c.args.order c.args.bytes.now c.in-Ok.framing c.in-Ok.ensures.ok

pub returns-in_default-clause-none : goal.returns-in_default-clause-none
returns-in_default-clause-none c =
    let interfaces = c.args.interfaces.now in
    refused_no_block (section_of c.args.order interfaces) c.args.bytes.now _ (c.in_default.ensures.err interfaces)

pub returns-in_default-content-clause-none : goal.returns-in_default-content-clause-none
returns-in_default-content-clause-none c =
    body_no_block c.args.order c.args.bytes.now c.in-Ok.framing c.args.interfaces.now _ c.in-Ok.ensures.ok
    c.in_default-content.ensures.err
