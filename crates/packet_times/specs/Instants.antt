-- Times of packets as instants.
use Rattle.std.specs.Prelude.{ℕ, ◌+◌, ◌-◌, ◌*◌, ◌/◌, ◌^◌, ℤ, pos, int_lt, unsigned_abs, max, nat_lt, if◌then◌else◌}
use Rattle.std.specs.Prelude.{Bool}
use Rattle.capture_reader.specs.declared.shown.Time.{Time}

-- seconds relative to the start of 1970, converted to seconds since the origin, 2^63 seconds before it, so that none
-- are negative
abbrev pub seconds_since_origin : ℤ → ℕ
seconds_since_origin offset = if int_lt offset (pos 0) then 2 ^ 63 - unsigned_abs offset else 2 ^ 63 + unsigned_abs offset

-- ticks converted to nanoseconds
abbrev pub ticks_to_nanos : ℕ → ℕ → ℕ
ticks_to_nanos ticks per_second = ticks * 1000000000 / max per_second 1

-- a time in nanoseconds since the origin
abbrev pub instant_of : Time → ℕ
instant_of time = seconds_since_origin time.offset * 1000000000 + ticks_to_nanos time.ticks time.per_second

-- the start of 1970 in nanoseconds since the origin
abbrev pub epoch : ℕ
epoch = 2 ^ 63 * 1000000000

-- whether the resolution of a time is finer than microseconds
abbrev pub is_fine : Time → Bool
is_fine time = nat_lt 1000000 time.per_second
