-- Texts of times.
use Rattle.std.specs.Prelude.{ℕ, ◌+◌, ◌-◌, ◌*◌, ◌/◌, ◌%◌, ◌^◌, nat_lt, nat_le, ◌&&◌, if◌then◌else◌, Bool, List, [], ◌∷◌}
use Rattle.std.specs.Prelude.{◌++◌, Option, Some, None, codes, drop}
use Rattle.std.specs.Fmt.{decimal}
use Rattle.capture_reader.specs.declared.shown.Time.{Time}
use Rattle.packet_times.specs.Calendar.{date_of}
use Rattle.packet_times.specs.Instants.{epoch, instant_of, is_fine}
use Rattle.packet_times.specs.declared.dates.Date.{Date}

-- ---- time spans

-- a fraction of a second: six digits, or nine if the resolution is fine
abbrev pub fraction_text : Bool → ℕ → List ℕ
fraction_text fine nanos =
    if fine then drop 1 (decimal (1000000000 + nanos)) else drop 1 (decimal (1000000 + nanos / 1000))

-- the whole seconds of a time span in nanoseconds, at most 2^64 - 1
abbrev pub seconds_in : ℕ → ℕ
seconds_in span = if nat_lt (span / 1000000000) (2 ^ 64) then span / 1000000000 else 2 ^ 64 - 1

-- a time span in nanoseconds: its whole seconds and their fraction
abbrev pub span_text : Bool → ℕ → List ℕ
span_text fine span = decimal (seconds_in span) ++ codes "." ++ fraction_text fine (span % 1000000000)

-- the time span from one instant to another, with a minus sign if the second instant is earlier
abbrev pub since_text : Bool → ℕ → ℕ → List ℕ
since_text fine first this =
    if nat_lt this first then codes "-" ++ span_text fine (first - this) else span_text fine (this - first)

-- the seconds since 1970
abbrev pub epoch_text : Time → List ℕ
epoch_text time = since_text (is_fine time) epoch (instant_of time)

-- ---- dates

-- the last decimal digit of a number as an ASCII byte; below, its last two and its last four digits
abbrev pub digit : ℕ → ℕ
digit number = 48 + number % 10

abbrev pub two_digits : ℕ → List ℕ
two_digits number = digit (number / 10) ∷ digit number ∷ []

abbrev pub four_digits : ℕ → List ℕ
four_digits number = digit (number / 1000) ∷ digit (number / 100) ∷ digit (number / 10) ∷ digit number ∷ []

-- a date, such as 2026-11-25
abbrev pub date_text : Date → List ℕ
date_text date =
    four_digits date.year ++ codes "-" ++ two_digits date.month ++ codes "-" ++ two_digits date.day

-- a second of a day, such as 14:06:39
abbrev pub clock_text : ℕ → List ℕ
clock_text second =
    two_digits (second / 3600) ++ codes ":" ++ two_digits (second / 60 % 60) ++ codes ":" ++ two_digits (second % 60)

-- the seconds from the start of the year 0 to the start of 1970: 719528 days
abbrev pub seconds_to_1970 : ℕ
seconds_to_1970 = 719528 * 86400

-- the seconds of the years 0 to 9999: 3652425 days
abbrev pub seconds_to_10000 : ℕ
seconds_to_10000 = 3652425 * 86400

-- the seconds since the start of the year 0, or None if they are not in the years 0 to 9999
abbrev pub calendar_seconds : ℕ → Option ℕ
calendar_seconds seconds =
    if nat_le (2 ^ 63) (seconds + seconds_to_1970) && nat_lt (seconds + seconds_to_1970) (2 ^ 63 + seconds_to_10000)
    then Some (seconds + seconds_to_1970 - 2 ^ 63) else None

-- a second of these years with its fraction, such as 2026-11-25T14:06:39.000123Z
abbrev pub moment_text : Bool → (seconds nanos : ℕ) → List ℕ
moment_text fine seconds nanos =
    date_text (date_of (seconds / 86400)) ++ codes "T" ++ clock_text (seconds % 86400) ++ codes "."
    ++ fraction_text fine nanos ++ codes "Z"

-- an instant as a date and time of day if its seconds are in the years 0 to 9999, and as seconds since 1970 otherwise
abbrev pub utc_text_of : Bool → ℕ → Option ℕ → List ℕ
utc_text_of fine instant (Some seconds) = moment_text fine seconds (instant % 1000000000)
utc_text_of fine instant None = since_text fine epoch instant

-- the date and time of day in UTC
abbrev pub utc_text : Time → List ℕ
utc_text time =
    let instant = instant_of time in
    utc_text_of (is_fine time) instant (calendar_seconds (instant / 1000000000))
