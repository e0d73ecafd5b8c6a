use Rattle.std.proofs.Common.{arith}
use Rattle.hex.specs.Hex.{lower_digits}
use Rattle.hex.proofs.Pairs.{encode_step, encode_done}
use Rattle.frame_bench.proofs.hex_text.encode_pairs.Goals as goal

pub bytes-preserved : goal.bytes-preserved
bytes-preserved c =
    encode_step lower_digits c.args.bytes.now c.bytes.text c.bytes.at _ _ (omega arith) (omega arith)
    c.lower_digit-high.ensures c.lower_digit-low.ensures c.bytes.invariant

pub returns : goal.returns
returns c =
    encode_done lower_digits c.args.bytes.now c.bytes.text c.bytes.at (omega arith) (omega arith) c.bytes.invariant
