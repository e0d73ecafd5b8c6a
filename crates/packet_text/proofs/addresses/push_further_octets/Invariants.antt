use Rattle.std.proofs.Common.{◌≡◌, ◌++◌, drop}
use Rattle.packet_text.specs.Addresses.{further_octets_text}
use Rattle.packet_text.proofs.addresses.push_further_octets.Given as goal

-- The text so far, with that of the remaining bytes, is the complete text.
abbrev pub invariant-loop-byte : goal.invariant-loop-byte
invariant-loop-byte l =
    l.output.items ++ further_octets_text (drop l.byte-index l.bytes)
    ≡ l.initial.output.items ++ further_octets_text l.bytes
