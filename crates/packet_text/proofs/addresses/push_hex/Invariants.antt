use Rattle.std.proofs.Common.{◌≡◌, ◌++◌, drop}
use Rattle.packet_text.specs.Addresses.{hex_text}
use Rattle.packet_text.proofs.addresses.push_hex.Given as goal

-- The text so far, with that of the remaining bytes, is the complete text.
abbrev pub invariant-loop-byte : goal.invariant-loop-byte
invariant-loop-byte l =
    l.output.items ++ hex_text (drop l.byte-index l.bytes) ≡ l.initial.output.items ++ hex_text l.bytes
