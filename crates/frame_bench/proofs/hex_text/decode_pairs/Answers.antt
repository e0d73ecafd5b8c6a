use Rattle.std.proofs.Common.{◌+◌, ◌*◌, ◌%◌, ◌<◌, arith}
use Rattle.std.proofs.lemmas.List.{length-set}
use Rattle.frame_bench.proofs.HexTextLemmas.{IsDecodedTo-all, IsDecodedTo-more, IsDecodedTo-small}
use Rattle.frame_bench.proofs.hex_text.decode_pairs.Goals as goal

pub bytes-preserved : goal.bytes-preserved
bytes-preserved c =
    let known = c.bytes.invariant in
    let more = IsDecodedTo-more c.args.text.now c.bytes.bytes c.bytes.at c.bytes.seen known.0
    (omega (arith, c.bytes-test.true, c.bytes.auto.bytes)) known.1 in
    let long = length-set c.bytes.bytes c.bytes.at
    ((16 * c.digit_value-high.result + c.digit_value-low.result) % 256) in (
      omega (arith, known.0, long),
      rw (c.digit_value-high.ensures, c.digit_value-low.ensures) more,
    )

pub returns-clause-decoded : goal.returns-clause-decoded
returns-clause-decoded c = λ holds.
    let small : c.bytes.seen < 256 = grind (arith) in
    let known = c.bytes.invariant in
    IsDecodedTo-all c.args.text.now c.bytes.bytes c.bytes.at c.bytes.seen known.0
    (omega (arith, c.bytes-test.false, c.bytes.auto.bytes)) known.1 small

pub returns-clause-only : goal.returns-clause-only
returns-clause-only c = λ value decodes.
    let small = IsDecodedTo-small c.args.text.now c.bytes.bytes value c.bytes.at c.bytes.seen
    c.bytes.invariant.1 decodes in
    grind (arith)
