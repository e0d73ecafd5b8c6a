use Rattle.std.proofs.Common.{◌/◌, arith}
use Rattle.packet_times.proofs.FractionLemmas.{starts_with_one}
use Rattle.packet_times.proofs.texts.one_and_fraction.Goals as goal

pub returns-then-fine : goal.returns-then-fine
returns-then-fine c =
    rw (c.if-fine.true, c.from.ensures) (starts_with_one 9 c.args.nanos c.requires (omega (arith, c.requires)))

pub returns-else-fine : goal.returns-else-fine
returns-else-fine c =
    rw (c.if-fine.false, c.from-else-fine.ensures)
    (starts_with_one 6 (c.args.nanos / 1000) (omega (arith, c.requires)) (omega (arith, c.requires)))
