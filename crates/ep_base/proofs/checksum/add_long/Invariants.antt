use Rattle.std.proofs.Common.{◌≡◌, ◌+◌, ◌*◌, ◌≤◌, length}
use Rattle.ep_base.specs.Checksum.{residue, word_sum}
use Rattle.ep_base.proofs.checksum.add_long.Given as goal

abbrev pub invariant-loop-rest : goal.invariant-loop-rest
invariant-loop-rest l = record {
  fits : 8 * l.sum + 18446744073709551616 * length l.rest ≤ 18446744073709551616 * (8 + length l.bytes);
  same : residue (l.sum + word_sum l.rest) ≡ residue (l.fn.sum + word_sum l.bytes);
}

abbrev pub decreases-loop-rest : goal.decreases-loop-rest
decreases-loop-rest l = length l.rest
