use Rattle.frame_bench.proofs.HexTextLemmas.{value-in_table}
use Rattle.frame_bench.proofs.hex_text.digit_value.Goals as goal

pub returns : goal.returns
returns c = rw c.from.ensures (value-in_table c.args.byte c.ranges.byte.fits)
