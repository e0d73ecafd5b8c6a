use Rattle.std.proofs.Common.{arith}
use Rattle.frame_bench.proofs.HexTextLemmas.{digit-computed}
use Rattle.frame_bench.proofs.hex_text.lower_digit.Goals as goal

pub returns-then-value-lt10 : goal.returns-then-value-lt10
returns-then-value-lt10 c = grind (arith, digit-computed c.args.value c.requires)

pub returns : goal.returns
returns c = grind (arith, digit-computed c.args.value c.requires)
