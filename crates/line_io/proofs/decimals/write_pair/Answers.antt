use Rattle.std.proofs.Common.{◌≡◌, ◌+◌, ◌/◌, ◌%◌, set, arith}
use Rattle.std.proofs.lemmas.List.{drop-set, length-set}
use Rattle.line_io.proofs.DecimalLemmas.{first_of_pair, second_of_pair}
use Rattle.line_io.proofs.decimals.write_pair.Goals as goal

pub returns : goal.returns
returns c =
    let at = c.args.at in
    let digits = c.args.digits.now in
    let number = c.args.number in
    let same : at + 1 + 1 ≡ at + 2 = omega arith in
    let written = set digits (at + 1) (48 + number % 10) in
    rw (
      first_of_pair number c.requires.number,
      second_of_pair number c.requires.number,
      drop-set written at (48 + number / 10) (omega (arith, length-set digits (at + 1) (48 + number % 10))),
      drop-set digits (at + 1) (48 + number % 10) (omega arith),
      same,
    )
