use Rattle.std.proofs.Common.{◌+◌, ◌-◌, arith}
use Rattle.std.proofs.lemmas.List.{drop-set}
use Rattle.line_io.proofs.DecimalLemmas.{AreLastDigits-more, AreLastDigits-none, AreLastDigits-one, AreLastDigits-two}
use Rattle.line_io.proofs.DecimalLemmas.{HasSpace-more, HasSpace-three, HasSpace-two}
use Rattle.line_io.proofs.decimals.write_digits.Goals as goal

pub pairs-init : goal.pairs-init
pairs-init c = record {
  long = omega (arith, c.told-digits);
  within = omega arith;
  space = (omega arith, omega (arith, c.ranges.number.fits));
  last = AreLastDigits-none c.args.number c.args.digits.now (omega (arith, c.told-digits));
}

pub pairs-preserved : goal.pairs-preserved
pairs-preserved c =
    let l = c.pairs in
    let some = HasSpace-three l.rest l.start l.invariant.space c.pairs-test.true in record {
      long = omega (arith, c.write_pair.array_long);
      within = omega (arith, l.invariant.within);
      space = HasSpace-more l.rest l.start l.invariant.space c.pairs-test.true;
      last = AreLastDigits-more c.args.number l.rest l.start l.digits c.write_pair.new.digits l.invariant.last
          c.write_pair.ensures (omega (arith, some)) c.pairs-test.true l.auto.rest-fits.fits;
    }

pub returns-then-rest-ge10-clause-text : goal.returns-then-rest-ge10-clause-text
returns-then-rest-ge10-clause-text c =
    let l = c.pairs in
    AreLastDigits-two c.args.number l.rest l.start l.digits c.write_pair-then-rest-ge10.new.digits l.invariant.last
    c.write_pair-then-rest-ge10.ensures (HasSpace-two l.rest l.start l.invariant.space c.if-rest-ge10.true)
    c.if-rest-ge10.true c.pairs-test.false

pub returns-else-rest-ge10-clause-text : goal.returns-else-rest-ge10-clause-text
returns-else-rest-ge10-clause-text c =
    let l = c.pairs in
    AreLastDigits-one c.args.number l.rest l.start l.digits _ l.invariant.last
    (drop-set l.digits (l.start - 1) (48 + l.rest)
    (omega (arith, l.invariant.long, l.invariant.within, l.invariant.space.0)))
    l.invariant.space.0 c.if-rest-ge10.false
