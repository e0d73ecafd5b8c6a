use Rattle.std.proofs.Common.{◌≡◌, ◌++◌, drop}
use Rattle.packet_dump.specs.ErrorTexts.{line_text}
use Rattle.packet_dump.proofs.expression_error.append_line.Given as goal

-- The bytes so far, with the bytes of the rest of the line, are all that is appended.
abbrev pub invariant-loop-byte : goal.invariant-loop-byte
invariant-loop-byte l =
    l.output.items ++ line_text (drop l.byte-index l.bytes) ≡ l.initial.output.items ++ line_text l.bytes
