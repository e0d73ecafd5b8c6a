-- Timestamps of packets.
use Rattle.std.specs.Prelude.{ℕ, Option, Some, None}
use Rattle.std.specs.Option.{option_map}
use Rattle.capture_reader.specs.Captures.{PlainShown}
use Rattle.packet_times.specs.Instants.{instant_of}

-- the timestamp of a packet, if it has one
abbrev pub instant_in : PlainShown → Option ℕ
instant_in shown = option_map instant_of shown.time

-- the timestamp of the first packet that has one, after a packet with the timestamp `this`
abbrev pub first_after : Option ℕ → Option ℕ → Option ℕ
first_after (Some first) this = Some first
first_after None this = this

-- the timestamp of the last packet that has one, after a packet with the timestamp `this`
abbrev pub latest_after : ℕ → Option ℕ → ℕ
latest_after latest (Some this) = this
latest_after latest None = latest
