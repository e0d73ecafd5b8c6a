use Rattle.std.proofs.Common.{◌+◌, ◌/◌, ◌≤◌, arith}
use Rattle.packet_times.specs.Calendar.{days_before_year}
use Rattle.packet_times.proofs.CalendarLemmas.{days_before_year-most, year_below}
use Rattle.packet_times.proofs.dates.year_of.Goals as goal

pub years-init : goal.years-init
years-init c =
    let days = c.args.days in
    (omega (arith, days_before_year-most (days / 366)), omega (arith, c.requires))

pub years-preserved : goal.years-preserved
years-preserved c =
    let from : days_before_year (c.years.year + 1) ≤ c.args.days =
    omega (arith, c.days_before_year.ensures, c.years-test.true) in
    (from, year_below c.years.year c.args.days c.years.invariant.1 from c.requires)
