use Rattle.std.proofs.Common.{◌≡◌, ◌≤◌, length}
use Rattle.line_io.proofs.DecimalLemmas.{AreLastDigits, HasSpace}
use Rattle.line_io.proofs.decimals.write_digits.Given as goal

abbrev pub invariant-pairs : goal.invariant-pairs
invariant-pairs l = record {
  long : length l.digits ≡ 20;
  within : l.start ≤ 20;
  space : HasSpace l.rest l.start;
  last : AreLastDigits l.number l.rest l.start l.digits;
}

abbrev pub decreases-pairs : goal.decreases-pairs
decreases-pairs l = l.rest
