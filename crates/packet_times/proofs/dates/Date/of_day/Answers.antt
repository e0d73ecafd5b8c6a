use Rattle.std.proofs.Common.{arith}
use Rattle.packet_times.proofs.CalendarLemmas.{date_left, first_left, next_left}
use Rattle.packet_times.proofs.dates.Date.of_day.Goals as goal

pub months-init : goal.months-init
months-init c =
    rw c.days_before_year.ensures (first_left c.args.days c.year_of-year.result c.year_of-year.ensures.from)

pub months-preserved : goal.months-preserved
months-preserved c =
    rw c.days_in_month-left.ensures
    (next_left c.args.days c.year_of-year.result c.months.month c.months.left c.months.invariant
    c.year_of-year.ensures.to (omega (arith, c.days_in_month.ensures, c.months-test.true)))

pub returns : goal.returns
returns c =
    date_left c.args.days c.year_of-year.result c.months.month c.months.left c.months.invariant
    (omega (arith, c.days_in_month.ensures, c.months-test.false))
