use Rattle.std.proofs.Common.{sym, ap, ◌∙◌, arith}
use Rattle.packet_times.specs.Calendar.{date_of}
use Rattle.packet_times.proofs.CalendarLemmas.{date_counted, date_is, days_before_year-is, years_on}
use Rattle.packet_times.proofs.laws.calendar.Goals as goal

pub returns-clause-dates : goal.returns-clause-dates
returns-clause-dates c = date_is

pub returns-clause-counted : goal.returns-clause-counted
returns-clause-counted c = date_counted

pub returns-clause-epoch : goal.returns-clause-epoch
returns-clause-epoch c = sym (ap date_of (omega (arith, days_before_year-is 1970))) ∙ years_on 1970

pub returns-clause-end : goal.returns-clause-end
returns-clause-end c = sym (ap date_of (omega (arith, days_before_year-is 10000))) ∙ years_on 10000
