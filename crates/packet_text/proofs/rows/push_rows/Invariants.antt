use Rattle.std.proofs.Common.{◌≡◌, ◌++◌}
use Rattle.packet_text.specs.Rows.{first_rows}
use Rattle.packet_text.proofs.rows.push_rows.Given as goal

-- The rows so far are appended.
abbrev pub invariant-loop-row : goal.invariant-loop-row
invariant-loop-row l = l.output.items ≡ l.initial.output.items ++ first_rows l.bytes l.row
