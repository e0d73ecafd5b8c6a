use Rattle.packet_times.proofs.CalendarLemmas.{IsLeft}
use Rattle.packet_times.proofs.dates.Date.of_day.Given as goal

abbrev pub invariant-months : goal.invariant-months
invariant-months l = IsLeft l.fn.days l.year l.month l.left

abbrev pub decreases-months : goal.decreases-months
decreases-months l = l.left
