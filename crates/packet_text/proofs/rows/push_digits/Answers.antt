use Rattle.std.proofs.Common.{arith}
use Rattle.packet_text.proofs.RowLemmas.{AreDigits-more}
use Rattle.packet_text.proofs.rows.push_digits.Goals as goal

pub loop-at-preserved : goal.loop-at-preserved
loop-at-preserved c =
    AreDigits-more c.args.row.now c.loop-at.text c.hex_pair.result c.loop-at.at c.loop-at.invariant c.loop-at-test.true
    (omega (arith, c.requires)) c.hex_pair.ensures
