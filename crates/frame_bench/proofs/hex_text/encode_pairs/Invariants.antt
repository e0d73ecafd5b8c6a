use Rattle.std.proofs.Common.{◌≡◌, ◌*◌, ◌++◌, take, drop}
use Rattle.hex.specs.Hex.{encode_lower}
use Rattle.frame_bench.proofs.hex_text.encode_pairs.Given as goal

-- The digits of the bytes so far are written.
abbrev pub invariant-bytes : goal.invariant-bytes
invariant-bytes l = take (2 * l.at) l.text ++ encode_lower (drop l.at l.bytes) ≡ encode_lower l.bytes
