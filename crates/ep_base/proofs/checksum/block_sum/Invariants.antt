use Rattle.std.proofs.Common.{◌≡◌, ℕ, ◌+◌, ◌*◌, ◌%◌, ◌≤◌, length}
use Rattle.ep_base.specs.Checksum.{residue, word_sum}
use Rattle.ep_base.proofs.checksum.block_sum.Given as goal

-- The loop maintains the sum of the bytes at even positions, besides the variables `both` and `odd`.
abbrev pub invariant-loop-piece : goal.invariant-loop-piece
invariant-loop-piece l = (even : ℕ) × record {
  even_fits : 8 * even + 71777214294589695 * length l.rest ≤ 71777214294589695 * 2048;
  odd_fits : 8 * l.odd + 71777214294589695 * length l.rest ≤ 71777214294589695 * 2048;
  words : length l.rest % 8 ≡ 0;
  both : l.both ≡ (256 * l.odd + even) % 18446744073709551616;
  same : residue (256 * even + l.odd + word_sum l.rest) ≡ residue (word_sum l.block);
}

abbrev pub decreases-loop-piece : goal.decreases-loop-piece
decreases-loop-piece l = length l.rest
