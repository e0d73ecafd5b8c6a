use Rattle.std.proofs.Common.{◌≡◌, ◌*◌, length}
use Rattle.frame_bench.proofs.HexTextLemmas.{IsDecodedTo}
use Rattle.frame_bench.proofs.hex_text.decode_pairs.Given as goal

abbrev pub invariant-bytes : goal.invariant-bytes
invariant-bytes l = (length l.fn.text ≡ 2 * length l.bytes) × IsDecodedTo l.fn.text l.bytes l.at l.seen
