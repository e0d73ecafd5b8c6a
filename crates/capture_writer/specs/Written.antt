-- The capture that packets are written as, and the packets that are read back from it.
use Rattle.std.specs.Prelude.{◌≡◌, ℕ, ◌+◌, ◌-◌, ◌*◌, ◌/◌, ◌%◌, ◌^◌, ◌<◌, ◌==◌, Bool, true, not, nat_lt, nat_le, pos}
use Rattle.std.specs.Prelude.{List, [], ◌∷◌, ◌++◌, Option, Some, None, length}
use Rattle.ep_base.specs.Bytes.{AreBytes}
use Rattle.ep_base.specs.Tables.{Refuses, first_row}
use Rattle.capture_reader.specs.Captures.{Item, Stage, at_start, shown_in, stage_after, IsCapture}
use Rattle.capture_reader.specs.Captures.{PlainShown, RefusesCapture}
use Rattle.capture_reader.specs.Classic.{PlainPacket, heading_bytes, most_kept, record_bytes}
use Rattle.capture_reader.specs.declared.byte_order.ByteOrder.TheVariants.{Little}
use Rattle.capture_reader.specs.declared.heading.Heading.{Heading}
use Rattle.capture_reader.specs.declared.heading.Resolution.TheVariants.{Nanos}
use Rattle.capture_reader.specs.declared.refusal.CaptureError.{CaptureError}
use Rattle.capture_reader.specs.declared.shown.Time.{Time}
use Rattle.packet_times.specs.Instants.{epoch, instant_of}
use Rattle.capture_writer.specs.declared.write_error.WriteError.{WriteError}
use Rattle.capture_writer.specs.declared.write_error.WriteError.TheVariants.{Refused, OutOfMemory}
use Rattle.capture_writer.specs.declared.write_error.WriteRefusal.{WriteRefusal}
use Rattle.capture_writer.specs.declared.write_error.WriteRefusal.TheVariants as refusal

-- ---- written bytes

-- the file header of a capture with this link type
abbrev pub written_heading : ℕ → Heading
written_heading link = record {
  order = Little;
  resolution = Nanos;
  zone = 0;
  accuracy = 0;
  snap_len = most_kept;
  network = link;
}

-- the instant of a timestamp, in nanoseconds; without one it is the epoch, but such packets are not written
abbrev pub instant_in : Option Time → ℕ
instant_in (Some time) = instant_of time
instant_in None = epoch

-- the record of a packet at this instant: the seconds since 1970 and the remaining nanoseconds
abbrev pub record_at : ℕ → PlainShown → PlainPacket
record_at instant shown = record {
  seconds = instant / 1000000000 - 2 ^ 63;
  fraction = instant % 1000000000;
  original_len = shown.original_len;
  bytes = shown.bytes;
}

-- the record of a packet
abbrev pub record_of : PlainShown → PlainPacket
record_of shown = record_at (instant_in shown.time) shown

-- the wire bytes of a packet's record
abbrev pub packet_bytes : PlainShown → List ℕ
packet_bytes shown = record_bytes Little (record_of shown)

-- the wire bytes of the records of several packets
abbrev pub packets_bytes : List PlainShown → List ℕ
packets_bytes [] = []
packets_bytes (shown ∷ more) = packet_bytes shown ++ packets_bytes more

-- the wire bytes of a capture with this link type and these packets
abbrev pub capture_bytes : ℕ → List PlainShown → List ℕ
capture_bytes link packets = heading_bytes (written_heading link) ++ packets_bytes packets

-- ---- which packets are rejected

-- the refusal table of a packet's timestamp
abbrev pub time_rows : Option Time → List (Bool × WriteRefusal)
time_rows None = (true, refusal.NoTime) ∷ []
time_rows (Some time) =
    (nat_lt (instant_of time) epoch, refusal.BeforeEpoch)
    ∷ (nat_le (epoch + 2 ^ 32 * 1000000000) (instant_of time), refusal.TooLate)
    ∷ []

-- the refusal table of a packet in a capture with this link type
abbrev pub write_rows : ℕ → PlainShown → List (Bool × WriteRefusal)
write_rows link shown =
    (not (shown.link == link), refusal.LinkType shown.link link)
    ∷ (nat_lt most_kept (length shown.bytes), refusal.TooLong (length shown.bytes))
    ∷ time_rows shown.time

-- The packet is not rejected, its original length fits in 32 bits, and its bytes are bytes.
pub record IsWritten (link : ℕ) (shown : PlainShown) : Type 0 where
  pub accepted : first_row (write_rows link shown) ≡ None
  pub original_len : shown.original_len < 2 ^ 32
  pub bytes : AreBytes shown.bytes

-- Each of the packets can be written to the capture.
abbrev pub AreWritten : ℕ → List PlainShown → Type 0
AreWritten link [] = Unit {0}
AreWritten link (shown ∷ more) = IsWritten link shown × AreWritten link more

-- Holds for the errors of writing a packet: the reason for which it is rejected, or, if it is not, out of memory.
abbrev pub IsWriteError : ℕ → PlainShown → WriteError → Type 0
IsWriteError link shown (Refused refusal) = Refuses (write_rows link shown) refusal
IsWriteError link shown OutOfMemory = first_row (write_rows link shown) ≡ None

-- ---- packets that are read back

-- the timestamp of an instant, in nanoseconds
abbrev pub nanos_time : ℕ → Time
nanos_time instant = record { ticks = instant - epoch; per_second = 1000000000; offset = pos 0 }

-- a packet as it is read back: unchanged except for the unit of its timestamp and the missing interface number
abbrev pub back_of : PlainShown → PlainShown
back_of shown = record shown { interface = None; time = Some (nanos_time (instant_in shown.time)) }

-- the packet that an item shows, if any, before other packets
abbrev pub onto : Option PlainShown → List PlainShown → List PlainShown
onto None more = more
onto (Some shown) more = shown ∷ more

-- the packets that items show, from this stage on
abbrev pub all_shown : Stage → List Item → List PlainShown
all_shown stage [] = []
all_shown stage (item ∷ items) = onto (shown_in stage item) (all_shown (stage_after stage item) items)

-- The bytes are a capture in exactly one way, are rejected with no error, and show these packets.
pub record Shows (bytes : List ℕ) (packets : List PlainShown) : Type 0 where
  pub items : List Item
  pub is : IsCapture bytes items
  pub only : (other : List Item) → IsCapture bytes other → other ≡ items
  pub accepted : (found : List Item × CaptureError) → RefusesCapture bytes found → ⊥
  pub shown : all_shown at_start items ≡ packets
