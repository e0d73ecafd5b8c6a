use Rattle.packet_text.proofs.RowLemmas.{AreCharacters}
use Rattle.packet_text.proofs.rows.push_characters.Given as goal

abbrev pub invariant-loop-at : goal.invariant-loop-at
invariant-loop-at l = AreCharacters l.row l.at l.text
