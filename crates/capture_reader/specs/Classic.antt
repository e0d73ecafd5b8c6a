-- The pcap capture format, version 2.4: a file header, and then records, each of them a packet with its timestamp.
use Rattle.std.specs.Prelude.{◌≡◌, ℕ, ◌+◌, ◌%◌, ◌^◌, ◌<◌, ◌≤◌, ◌==◌, ◌&&◌, Bool, not, nat_lt, if◌then◌else◌}
use Rattle.std.specs.Prelude.{List, [], ◌∷◌, ◌++◌, Option, Some, None, is_some, length, slice_range}
use Rattle.ep_base.specs.Tables.{Refuses}
use Rattle.capture_reader.specs.Numbers.{word16, word32, word16_at, word32_at}
use Rattle.capture_reader.specs.declared.byte_order.ByteOrder.{ByteOrder}
use Rattle.capture_reader.specs.declared.byte_order.ByteOrder.TheVariants.{Big, Little}
use Rattle.capture_reader.specs.declared.heading.Resolution.{Resolution}
use Rattle.capture_reader.specs.declared.heading.Resolution.TheVariants.{Micros, Nanos}
use Rattle.capture_reader.specs.declared.heading.Heading.{Heading}
use Rattle.capture_reader.specs.declared.packet.Packet.{Packet}
use Rattle.capture_reader.specs.declared.packet.Record.{Record}
use Rattle.capture_reader.specs.declared.refusal.Refusal.{Refusal}
use Rattle.capture_reader.specs.declared.refusal.Refusal.TheVariants as refusal

-- ---- file header

-- the magic number of captures with this timestamp unit
abbrev pub magic_of : Resolution → ℕ
magic_of Micros = 0xa1b2c3d4
magic_of Nanos = 0xa1b23c4d

-- the byte order and timestamp unit that a magic number states, if it was read with the highest byte first
abbrev pub style_of : ℕ → Option (ByteOrder × Resolution)
style_of magic =
    if magic == 0xa1b2c3d4 then Some (Big, Micros) else
    (if magic == 0xd4c3b2a1 then Some (Little, Micros) else
    (if magic == 0xa1b23c4d then Some (Big, Nanos) else
    (if magic == 0x4d3cb2a1 then Some (Little, Nanos) else None)))

-- the link type: the lower 16 bits of its word; the upper ones state the length of the frame check sequence
abbrev pub link_of : ℕ → ℕ
link_of network = network % 65536

-- Each number fits in four bytes.
pub record FitsHeading (heading : Heading) : Type 0 where
  pub zone : heading.zone < 2 ^ 32
  pub accuracy : heading.accuracy < 2 ^ 32
  pub snap_len : heading.snap_len < 2 ^ 32
  pub network : heading.network < 2 ^ 32

-- the wire bytes of a file header
abbrev pub heading_bytes : Heading → List ℕ
heading_bytes heading =
    let order = heading.order in
    word32 order (magic_of heading.resolution) ++ word16 order 2 ++ word16 order 4 ++ word32 order heading.zone
    ++ word32 order heading.accuracy ++ word32 order heading.snap_len ++ word32 order heading.network

-- The bytes begin with this file header, and these bytes follow it.
pub record IsHeading (bytes : List ℕ) (read : Heading × List ℕ) : Type 0 where
  pub fits : FitsHeading read.0
  pub parts : bytes ≡ heading_bytes read.0 ++ read.1

-- the byte order and timestamp unit by the first four bytes
abbrev pub style_in : List ℕ → Option (ByteOrder × Resolution)
style_in bytes = style_of (word32_at Big bytes 0)

-- the byte order, if it is known
abbrev pub style_order : Option (ByteOrder × Resolution) → ByteOrder
style_order (Some style) = style.0
style_order None = Big

-- the timestamp unit, if it is known
abbrev pub style_resolution : Option (ByteOrder × Resolution) → Resolution
style_resolution (Some style) = style.1
style_resolution None = Micros

-- the refusal table of a file header
abbrev pub heading_rows : List ℕ → List (Bool × Refusal)
heading_rows bytes =
    let order = style_order (style_in bytes) in
    let major = word16_at order bytes 4 in
    let minor = word16_at order bytes 6 in
    (nat_lt (length bytes) 4, refusal.Cut 4 (length bytes))
    ∷ (not (is_some (style_in bytes)), refusal.UnknownMagic (word32_at Big bytes 0))
    ∷ (nat_lt (length bytes) 24, refusal.Cut 24 (length bytes))
    ∷ (not ((major == 2) && (minor == 4)), refusal.UnsupportedVersion major minor)
    ∷ []

abbrev pub RefusesHeading : List ℕ → Refusal → Type 0
RefusesHeading bytes = Refuses (heading_rows bytes)

-- the file header at the start of the bytes, which are at least 24
abbrev pub heading_of : List ℕ → Heading
heading_of bytes =
    let order = style_order (style_in bytes) in
    record {
      order = order;
      resolution = style_resolution (style_in bytes);
      zone = word32_at order bytes 8;
      accuracy = word32_at order bytes 12;
      snap_len = word32_at order bytes 16;
      network = word32_at order bytes 20;
    }

-- ---- records

-- a packet record: its timestamp in seconds and fractions of a second, its original length, and its captured bytes
pub record PlainPacket : Type 0 where
  pub seconds : ℕ
  pub fraction : ℕ
  pub original_len : ℕ
  pub bytes : List ℕ

-- the packet of a `Packet`
abbrev pub packet_of : Packet → PlainPacket
packet_of packet = record {
  seconds = packet.seconds;
  fraction = packet.fraction;
  original_len = packet.original_len;
  bytes = packet.bytes.now;
}

-- the packet with this record header and these bytes
abbrev pub kept_packet : Record → List ℕ → PlainPacket
kept_packet one bytes = record {
  seconds = one.seconds;
  fraction = one.fraction;
  original_len = one.original_len;
  bytes = bytes;
}

-- the maximum number of captured bytes of a packet (256 KiB)
abbrev pub most_kept : ℕ
most_kept = 262144

-- Each number fits in four bytes, and at most 256 KiB are captured.
pub record FitsRecord (packet : PlainPacket) : Type 0 where
  pub seconds : packet.seconds < 2 ^ 32
  pub fraction : packet.fraction < 2 ^ 32
  pub original_len : packet.original_len < 2 ^ 32
  pub kept : length packet.bytes ≤ most_kept

-- the wire bytes of a record: a header of 16 bytes, and the captured bytes
abbrev pub record_bytes : ByteOrder → PlainPacket → List ℕ
record_bytes order packet =
    word32 order packet.seconds ++ word32 order packet.fraction ++ word32 order (length packet.bytes)
    ++ word32 order packet.original_len ++ packet.bytes

-- The bytes begin with this record, and these bytes follow it.
pub record IsRecord (order : ByteOrder) (bytes : List ℕ) (read : PlainPacket × List ℕ) : Type 0 where
  pub fits : FitsRecord read.0
  pub parts : bytes ≡ record_bytes order read.0 ++ read.1

-- the refusal table of a record
abbrev pub record_rows : ByteOrder → List ℕ → List (Bool × Refusal)
record_rows order bytes =
    let kept = word32_at order bytes 8 in
    (nat_lt (length bytes) 16, refusal.Cut 16 (length bytes))
    ∷ (nat_lt most_kept kept, refusal.PacketTooLong kept)
    ∷ (nat_lt (length bytes) (16 + kept), refusal.Cut (16 + kept) (length bytes))
    ∷ []

abbrev pub RefusesRecord : ByteOrder → List ℕ → Refusal → Type 0
RefusesRecord order bytes = Refuses (record_rows order bytes)

-- the packet of the record at the start of the bytes
abbrev pub record_of : ByteOrder → List ℕ → PlainPacket
record_of order bytes = record {
  seconds = word32_at order bytes 0;
  fraction = word32_at order bytes 4;
  original_len = word32_at order bytes 12;
  bytes = slice_range bytes 16 (16 + word32_at order bytes 8);
}
