use Rattle.std.proofs.Common.{◌-◌, ◌<◌, ◌≤◌}
use Rattle.packet_times.specs.Calendar.{days_before_year}
use Rattle.packet_times.proofs.dates.year_of.Given as goal

abbrev pub invariant-years : goal.invariant-years
invariant-years l = (days_before_year l.year ≤ l.fn.days) × (l.year < 10000)

abbrev pub decreases-years : goal.decreases-years
decreases-years l = 10000 - l.year
