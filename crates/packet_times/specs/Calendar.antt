-- The Gregorian calendar, day by day, extended to the years before its introduction (ISO 8601).
use Rattle.std.specs.Prelude.{ℕ, zero, suc, ◌+◌, ◌-◌, ◌%◌, ◌≤◌, ◌==◌, ◌&&◌, ◌||◌, not, nat_lt, if◌then◌else◌, Bool}
use Rattle.packet_times.specs.declared.dates.Date.{Date}

-- whether a year is a leap year: divisible by 4, but years divisible by 100 only if divisible by 400
abbrev pub is_leap : ℕ → Bool
is_leap year = (year % 4 == 0) && (not (year % 100 == 0) || (year % 400 == 0))

-- the number of days of a month: April, June, September and November have 30 days
abbrev pub days_in_month : (year month : ℕ) → ℕ
days_in_month year month =
    if month == 2 then (if is_leap year then 29 else 28) else
    (if (month == 4) || (month == 6) || (month == 9) || (month == 11) then 30 else 31)

-- the next day: in the same month, the first of the next month, or the first of the next year
abbrev pub day_after : Date → Date
day_after date =
    if nat_lt date.day (days_in_month date.year date.month) then record date { day = date.day + 1 } else
    (if nat_lt date.month 12 then record { year = date.year; month = date.month + 1; day = 1 } else
    record { year = date.year + 1; month = 1; day = 1 })

-- the date after a number of days since the first day of the year 0
unfoldable pub date_of : ℕ → Date
date_of zero = record { year = 0; month = 1; day = 1 }
date_of (suc days) = day_after (date_of days)

-- the date exists in the calendar
pub record IsDate (date : Date) : Type 0 where
  pub month_from : 1 ≤ date.month
  pub month_to : date.month ≤ 12
  pub day_from : 1 ≤ date.day
  pub day_to : date.day ≤ days_in_month date.year date.month

-- the number of days of a year
abbrev pub days_in_year : ℕ → ℕ
days_in_year year = if is_leap year then 366 else 365

-- the number of days from the first day of the year 0 to the first day of a year
unfoldable pub days_before_year : ℕ → ℕ
days_before_year zero = 0
days_before_year (suc year) = days_before_year year + days_in_year year

-- the number of days of the first months of a year
unfoldable pub days_of_months : (year months : ℕ) → ℕ
days_of_months year zero = 0
days_of_months year (suc months) = days_of_months year months + days_in_month year (months + 1)

-- the number of days from the first day of the year 0 to a date
abbrev pub days_before : Date → ℕ
days_before date = days_before_year date.year + days_of_months date.year (date.month - 1) + (date.day - 1)
