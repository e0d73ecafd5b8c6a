use Rattle.packet_text.proofs.RowLemmas.{AreDigits}
use Rattle.packet_text.proofs.rows.push_digits.Given as goal

abbrev pub invariant-loop-at : goal.invariant-loop-at
invariant-loop-at l = AreDigits l.row l.at l.text
