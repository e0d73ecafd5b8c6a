use Rattle.std.proofs.Common.{◌≡◌, ◌+◌, ◌*◌, ◌≤◌, length}
use Rattle.ep_base.specs.Checksum.{residue, word_sum}
use Rattle.ep_packet.proofs.little_endian_sum.add_little_endian.Given as goal

abbrev pub invariant-loop-piece : goal.invariant-loop-piece
invariant-loop-piece l = record {
  fits : l.sum + 18446744073709551616 * length l.rest ≤ l.fn.sum + 18446744073709551616 * length l.bytes;
  same : residue (256 * l.sum + word_sum l.rest) ≡ residue (256 * l.fn.sum + word_sum l.bytes);
}

abbrev pub decreases-loop-piece : goal.decreases-loop-piece
decreases-loop-piece l = length l.rest
