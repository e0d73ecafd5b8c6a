use Rattle.std.proofs.Common.{arith}
use Rattle.packet_times.proofs.CalendarLemmas.{days_before_year-is}
use Rattle.packet_times.proofs.dates.days_before_year.Goals as goal

pub returns : goal.returns
returns c = omega (arith, days_before_year-is c.args.year)
