-- Lemmas about counted days and their dates.
use Rattle.std.proofs.Common.{◌≡◌, ℕ, zero, suc, ◌+◌, ◌-◌, ◌*◌, ◌/◌, ◌<◌, ◌≤◌, inl, inr, Bool, true, false}
use Rattle.std.proofs.Common.{cond, refl, sym, ap, ◌∙◌, subst, arith}
use Rattle.std.proofs.Math.Nat.{eq-or-lt_of_le}
use Rattle.std.proofs.lemmas.Bool.Decides.{nat_tests}
use Rattle.packet_times.specs.Calendar.{IsDate, date_of, day_after, days_before, days_before_year, days_in_month}
use Rattle.packet_times.specs.Calendar.{days_in_year, days_of_months, is_leap}
use Rattle.packet_times.specs.declared.dates.Date.{Date}

-- The date with this year, month and day.
abbrev pub date_at : (year month day : ℕ) → Date
date_at year month day = record { year = year; month = month; day = day }

-- ---- the next day

next_day : (year month day : ℕ) → day < days_in_month year month
    → day_after (date_at year month day) ≡ date_at year month (day + 1)
next_day year month day within = grind (arith, nat_tests)

next_month : (year month day : ℕ) → days_in_month year month ≤ day → month < 12
    → day_after (date_at year month day) ≡ date_at year (month + 1) 1
next_month year month day last within = grind (arith, nat_tests)

next_year : (year day : ℕ) → 31 ≤ day → day_after (date_at year 12 day) ≡ date_at (year + 1) 1 1
next_year year day last = grind (arith, nat_tests)

-- A month has 28 to 31 days.
pub month_bounds : (year month : ℕ) → (28 ≤ days_in_month year month) × (days_in_month year month ≤ 31)
month_bounds year month = grind (arith, nat_tests)

-- One more day is the day after.
date_of-more : (days before : ℕ) → days ≡ before + 1 → date_of days ≡ day_after (date_of before)
unfolding date_of
date_of-more days before more =
    let next : days ≡ suc before = omega (arith, more) in ap date_of next

-- The days of a month follow its first day.
days_on : (k start year month : ℕ) → date_of start ≡ date_at year month 1 → k < days_in_month year month
    → date_of (start + k) ≡ date_at year month (k + 1)
days_on zero start year month first within = ap date_of (omega arith) ∙ first
days_on (suc k) start year month first within =
    date_of-more (start + suc k) (start + k) (omega arith)
    ∙ ap day_after (days_on k start year month first (omega arith))
    ∙ next_day year month (k + 1) (omega arith)
    ∙ ap (date_at year month) (omega arith)

-- The days of the first months lead to the first day of the next month.
months_on : (k start year : ℕ) → date_of start ≡ date_at year 1 1 → k < 12
    → date_of (start + days_of_months year k) ≡ date_at year (k + 1) 1
unfolding days_of_months
months_on zero start year first within = ap date_of (omega arith) ∙ first
months_on (suc k) start year first within =
    let n = days_in_month year (k + 1) in
    let some = (month_bounds year (k + 1)).0 in
    let here = start + days_of_months year k in
    date_of-more (start + days_of_months year (suc k)) (here + (n - 1)) (omega (arith, some))
    ∙ ap day_after
    (days_on (n - 1) here year (k + 1) (months_on k start year first (omega arith)) (omega (arith, some)))
    ∙ next_month year (k + 1) (n - 1 + 1) (omega arith) (omega arith)
    ∙ ap (λ (month : ℕ). date_at year month 1) (omega arith)

-- The days of the months add up to the days of the year.
months_with : (leap : Bool) → 31 + cond leap 29 28 + 31 + 30 + 31 + 30 + 31 + 31 + 30 + 31 + 30 + 31 ≡ cond leap 366 365
months_with true = refl
months_with false = refl

pub months_of_year : (year : ℕ) → days_of_months year 11 + 31 ≡ days_in_year year
unfolding days_of_months
months_of_year year = months_with (is_leap year)

-- The days before a year lead to its first day.
pub years_on : (year : ℕ) → date_of (days_before_year year) ≡ date_at year 1 1
unfolding date_of days_before_year
years_on zero = refl
years_on (suc year) =
    let here = days_before_year year in
    let last = here + days_of_months year 11 in
    date_of-more (here + days_in_year year) (last + 30) (omega (arith, months_of_year year))
    ∙ ap day_after (days_on 30 last year 12 (months_on 11 here year (years_on year) (omega arith)) (omega arith))
    ∙ next_year year (30 + 1) (omega arith)
    ∙ ap (λ (y : ℕ). date_at y 1 1) (omega arith)

-- ---- dates

-- A date is the date of the number of days before it.
pub date_counted : (date : Date) → IsDate date → date_of (days_before date) ≡ date
date_counted date is =
    let first = months_on (date.month - 1) (days_before_year date.year) date.year (years_on date.year)
    (omega (arith, is.month_to)) in
    let month : date.month - 1 + 1 ≡ date.month = omega (arith, is.month_from) in
    let day : date.day - 1 + 1 ≡ date.day = omega (arith, is.day_from) in
    let within : date.day - 1 < days_in_month date.year (date.month - 1 + 1) =
    subst (λ (m : ℕ). date.day - 1 < days_in_month date.year m) (sym month) (omega (arith, is.day_from, is.day_to)) in
    days_on (date.day - 1) (days_before_year date.year + days_of_months date.year (date.month - 1)) date.year
    (date.month - 1 + 1) first within
    ∙ (λ i. date_at date.year (month i) (day i))

-- The day after a date is a date.
day_after_is : (date : Date) → IsDate date → IsDate (day_after date)
day_after_is date is = grind (arith, nat_tests)

pub date_is : (days : ℕ) → IsDate (date_of days)
unfolding date_of
date_is zero = record { month_from = omega arith; month_to = omega arith; day_from = omega arith; day_to = omega arith }
date_is (suc days) = day_after_is (date_of days) (date_is days)

-- ---- days before a year

-- The formula for the days before a year grows by the length of the year.
leap_step : (year : ℕ)
    → 365 + (suc year + 3) / 4 + (suc year + 399) / 400 + (year + 99) / 100
    ≡ (year + 3) / 4 + (year + 399) / 400 + days_in_year year + (suc year + 99) / 100
leap_step year = grind (arith, nat_tests)

-- The days before a year are 365 for each year, plus the leap days.
pub days_before_year-is : (year : ℕ)
    → 365 * year + (year + 3) / 4 + (year + 399) / 400 ≡ days_before_year year + (year + 99) / 100
unfolding days_before_year
days_before_year-is zero = refl
days_before_year-is (suc year) = omega (arith, leap_step year, days_before_year-is year)

pub days_before_year-more : (year : ℕ) → days_before_year (year + 1) ≡ days_before_year year + days_in_year year
unfolding days_before_year
days_before_year-more year =
    let next : year + 1 ≡ suc year = omega arith in ap days_before_year next

-- The years before a year have at most 366 days each.
pub days_before_year-most : (year : ℕ) → days_before_year year ≤ 366 * year
unfolding days_before_year
days_before_year-most zero = omega arith
days_before_year-most (suc year) =
    let most : days_in_year year ≤ 366 = grind arith in omega (arith, most, days_before_year-most year)

-- A year that starts on or before a day of the years 0 to 9999 is below 10,000.
pub year_below : (year days : ℕ) → year < 10000 → days_before_year (year + 1) ≤ days → days < 3652425 → year + 1 < 10000
year_below year days below from within = omega (arith, below, from, within, days_before_year-is (year + 1))

-- ---- finding a date

days_of_months-more : (year month : ℕ) → 1 ≤ month
    → days_of_months year (month + 1 - 1) ≡ days_of_months year (month - 1) + days_in_month year month
unfolding days_of_months
days_of_months-more year month from =
    let next : month + 1 - 1 ≡ suc (month - 1) = omega (arith, from) in
    let same : month - 1 + 1 ≡ month = omega (arith, from) in
    ap (days_of_months year) next
    ∙ ap (λ (m : ℕ). days_of_months year (month - 1) + days_in_month year m) same

-- A day is in this year, and `left` days after the first day of this month.
pub record IsLeft (days year month left : ℕ) : Type 0 where
  pub from : 1 ≤ month
  pub to : month ≤ 12
  pub counted : days ≡ days_before_year year + days_of_months year (month - 1) + left

pub first_left : (days year : ℕ) → days_before_year year ≤ days → IsLeft days year 1 (days - days_before_year year)
unfolding days_of_months
first_left days year from = record { from = omega arith; to = omega arith; counted = omega (arith, from) }

-- If a day of the year is after a month, this month is not the twelfth.
twelfth : (days year month left : ℕ) → IsLeft days year month left → days < days_before_year (year + 1)
    → days_in_month year month ≤ left → month < 12
twelfth days year month left is within more =
    elim (eq-or-lt_of_le is.to) [
      | inl same ↦
          let rest : 31 ≤ left = subst (λ (m : ℕ). days_in_month year m ≤ left) same more in
          let counted : days ≡ days_before_year year + days_of_months year 11 + left =
          subst (λ (m : ℕ). days ≡ days_before_year year + days_of_months year (m - 1) + left) same is.counted in
          absurd (omega (arith, counted, rest, within, days_before_year-more year, months_of_year year))
      | inr before ↦ before
    ]

pub next_left : (days year month left : ℕ) → IsLeft days year month left → days < days_before_year (year + 1)
    → days_in_month year month ≤ left → IsLeft days year (month + 1) (left - days_in_month year month)
next_left days year month left is within more = record {
  from = omega arith;
  to = omega (arith, twelfth days year month left is within more);
  counted = omega (arith, is.counted, more, days_of_months-more year month is.from);
}

-- If fewer days are left than the month has, the date is found.
pub date_left : (days year month left : ℕ) → IsLeft days year month left → left < days_in_month year month
    → date_at year month (left + 1) ≡ date_of days
date_left days year month left is within =
    let date = date_at year month (left + 1) in
    let counted : days_before date ≡ days = omega (arith, is.counted) in
    sym (date_counted date (record {
      month_from = is.from;
      month_to = is.to;
      day_from = omega arith;
      day_to = omega (arith, within);
    })) ∙ ap date_of counted
