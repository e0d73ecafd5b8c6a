-- Captures of both formats: their items in order, and the errors that end them.
use Rattle.std.specs.Prelude.{◌≡◌, ℕ, ◌+◌, ◌-◌, ◌*◌, ◌%◌, ◌^◌, ◌<◌, ◌==◌, ◌&&◌, Bool, true, false, not, nat_le, nat_lt}
use Rattle.std.specs.Prelude.{if◌then◌else◌, min, pos}
use Rattle.std.specs.Prelude.{List, [], ◌∷◌, ◌++◌, Option, Some, None, length}
use Rattle.ep_base.specs.Tables.{Refuses}
use Rattle.capture_reader.specs.Numbers.{word32, word32_at}
use Rattle.capture_reader.specs.Classic.{FitsHeading, FitsRecord, PlainPacket, heading_bytes}
use Rattle.capture_reader.specs.Classic.{heading_rows, link_of, record_bytes, record_rows}
use Rattle.capture_reader.specs.Blocks.{FitsBlock, PlainBlock, header, enhanced, obsolete, simple}
use Rattle.capture_reader.specs.Blocks.{PlainEnhanced, PlainSimple, Section, block_bytes, block_rows, interface_at}
use Rattle.capture_reader.specs.Blocks.{is_other, kind_in, kind_of, most_block, no_section, section_after}
use Rattle.capture_reader.specs.declared.block.BlockKind.TheVariants.{Other}
use Rattle.capture_reader.specs.declared.byte_order.ByteOrder.{ByteOrder}
use Rattle.capture_reader.specs.declared.byte_order.ByteOrder.TheVariants.{Big}
use Rattle.capture_reader.specs.declared.heading.Heading.{Heading}
use Rattle.capture_reader.specs.declared.heading.Resolution.{Resolution}
use Rattle.capture_reader.specs.declared.heading.Resolution.TheVariants.{Micros, Nanos}
use Rattle.capture_reader.specs.declared.interface.Interface.{Interface}
use Rattle.capture_reader.specs.declared.refusal.CaptureError.{CaptureError}
use Rattle.capture_reader.specs.declared.refusal.Refusal.{Refusal}
use Rattle.capture_reader.specs.declared.refusal.Refusal.TheVariants as refusal
use Rattle.capture_reader.specs.declared.shown.Time.{Time}

-- ---- items

-- A part of a long block, which is longer than 320 KiB and of a kind whose content is skipped: its type and length,
-- some bytes of its body, or its trailing length field.
pub data Part : Type 0 where
  long_header : (number len : ℕ) → Part
  stretch : List ℕ → Part
  trailing_len : Part

-- an item of a capture: a file header, a packet record, a block, or a part of a long block
pub data Item : Type 0 where
  heading : Heading → Item
  packet : PlainPacket → Item
  block : PlainBlock → Item
  part : Part → Item

-- the stage of reading a capture: nothing was read; a file header, after which records follow; blocks of a section; or
-- the start of a long block of `len` bytes, with `left` bytes before its trailing length field
pub data Stage : Type 0 where
  at_start : Stage
  in_records : Heading → Stage
  in_section : Section → Stage
  inside : Section → (len left : ℕ) → Stage

-- the stage after an item
abbrev pub stage_after : Stage → Item → Stage
stage_after at_start (heading first) = in_records first
stage_after at_start (block one) = in_section (section_after no_section one)
stage_after (in_section section) (block one) = in_section (section_after section one)
stage_after (in_section section) (part (long_header number len)) = inside section len (len - 12)
stage_after (inside section len left) (part (stretch bytes)) = inside section len (left - length bytes)
stage_after (inside section len left) (part trailing_len) = in_section section
stage_after stage item = stage

-- the stage after several items
abbrev pub stage_after_items : Stage → List Item → Stage
stage_after_items stage [] = stage
stage_after_items stage (item ∷ items) = stage_after_items (stage_after stage item) items

-- Holds if the block begins a section.
abbrev pub BeginsSection : PlainBlock → Type 0
BeginsSection (header plain) = Unit {0}
BeginsSection one = ⊥

-- the maximum length of a stretch: 64 KiB; a stretch is shorter only at the end of the body
abbrev pub most_stretch : ℕ
most_stretch = 65536

-- A block of this type and length is read in parts.
pub record FitsLongHeader (number len : ℕ) : Type 0 where
  pub numbered : number < 2 ^ 32
  pub kind : kind_of number ≡ Other
  pub long : most_block < len
  pub within : len < 2 ^ 32
  pub aligned : len % 4 ≡ 0

-- The item is valid at this stage.
abbrev pub Fits : Stage → Item → Type 0
Fits at_start (heading first) = FitsHeading first
Fits at_start (block one) = BeginsSection one × FitsBlock no_section one
Fits (in_records first) (packet one) = FitsRecord one
Fits (in_section section) (block one) = FitsBlock section one
Fits (in_section section) (part (long_header number len)) = FitsLongHeader number len
Fits (inside section len left) (part (stretch bytes)) = (0 < left) × (length bytes ≡ min left most_stretch)
Fits (inside section len left) (part trailing_len) = (left ≡ 0) × (len < 2 ^ 32)
Fits stage item = ⊥

-- the wire bytes of an item
abbrev pub item_bytes : Stage → Item → List ℕ
item_bytes at_start (heading first) = heading_bytes first
item_bytes at_start (block one) = block_bytes Big one
item_bytes (in_records first) (packet one) = record_bytes first.order one
item_bytes (in_section section) (block one) = block_bytes section.order one
item_bytes (in_section section) (part (long_header number len)) =
    word32 section.order number ++ word32 section.order len
item_bytes (inside section len left) (part (stretch bytes)) = bytes
item_bytes (inside section len left) (part trailing_len) = word32 section.order len
item_bytes stage item = []

-- The items are valid one after the other, from this stage on.
abbrev pub AreItems : Stage → List Item → Type 0
AreItems stage [] = Unit {0}
AreItems stage (item ∷ items) = Fits stage item × AreItems (stage_after stage item) items

-- the wire bytes of items, from this stage on
abbrev pub items_bytes : Stage → List Item → List ℕ
items_bytes stage [] = []
items_bytes stage (item ∷ items) = item_bytes stage item ++ items_bytes (stage_after stage item) items

-- True if a capture may end here: no bytes follow, its file header or a section header has been read, and no long block
-- is incomplete.
abbrev pub may_end : Stage → List ℕ → Bool
may_end (in_records first) [] = true
may_end (in_section section) [] = true
may_end stage bytes = false

-- True if the bytes begin with the type of a Section Header Block.
abbrev pub begins_section : List ℕ → Bool
begins_section bytes = nat_le 4 (length bytes) && (word32_at Big bytes 0 == 0x0a0d0d0a)

-- True if the bytes begin with a long block, which is read in parts.
abbrev pub begins_long : ByteOrder → List ℕ → Bool
begins_long order bytes =
    nat_le 8 (length bytes) && (is_other (kind_in order bytes) && nat_lt most_block (word32_at order bytes 4))

-- the refusal table of the start of a long block
abbrev pub long_rows : ByteOrder → List ℕ → List (Bool × Refusal)
long_rows order bytes =
    (not (word32_at order bytes 4 % 4 == 0), refusal.BlockLength (word32_at order bytes 4)) ∷ []

-- the refusal table of a block, long or not
abbrev pub section_rows : Bool → Section → List ℕ → List (Bool × Refusal)
section_rows true section bytes = long_rows section.order bytes
section_rows false section bytes = block_rows section bytes

-- the refusal table of the trailing length field of a block of this length
abbrev pub trailing_rows : ByteOrder → ℕ → List ℕ → List (Bool × Refusal)
trailing_rows order len bytes =
    (nat_lt (length bytes) 4, refusal.Cut 4 (length bytes))
    ∷ (not (word32_at order bytes 0 == len), refusal.TrailingLength len (word32_at order bytes 0))
    ∷ []

-- the refusal table inside of a long block: of its trailing length field if nothing is left before it, otherwise of a
-- stretch of its body
abbrev pub inside_rows : Bool → ByteOrder → (len left : ℕ) → List ℕ → List (Bool × Refusal)
inside_rows true order len left bytes = trailing_rows order len bytes
inside_rows false order len left bytes =
    (nat_lt (length bytes) (min left most_stretch), refusal.Cut (min left most_stretch) (length bytes)) ∷ []

-- the refusal table of the next item
abbrev pub item_rows : Stage → List ℕ → List (Bool × Refusal)
item_rows at_start bytes = if begins_section bytes then block_rows no_section bytes else heading_rows bytes
item_rows (in_section section) bytes = section_rows (begins_long section.order bytes) section bytes
item_rows (inside section len left) bytes = inside_rows (left == 0) section.order len left bytes
item_rows (in_records first) bytes = record_rows first.order bytes

-- ---- packets

-- a packet of a capture in either format: its link type, the number of its interface, its timestamp, its original
-- length and its captured bytes
pub record PlainShown : Type 0 where
  pub link : ℕ
  pub interface : Option ℕ
  pub time : Option Time
  pub original_len : ℕ
  pub bytes : List ℕ

-- the timestamp units per second
abbrev pub units_of : Resolution → ℕ
units_of Micros = 1000000
units_of Nanos = 1000000000

-- the timestamp of a packet record
abbrev pub record_time : Heading → PlainPacket → Time
record_time first one = record {
  ticks = one.seconds * units_of first.resolution + one.fraction;
  per_second = units_of first.resolution;
  offset = pos 0;
}

-- the timestamp of a packet block of this interface, from its halves
abbrev pub block_time : Interface → (high low : ℕ) → Time
block_time about high low =
    record { ticks = high * 2 ^ 32 + low; per_second = about.per_second; offset = about.offset }

abbrev pub record_shown : Heading → PlainPacket → PlainShown
record_shown first one = record {
  link = link_of first.network;
  interface = None;
  time = Some (record_time first one);
  original_len = one.original_len;
  bytes = one.bytes;
}

abbrev pub enhanced_shown : Interface → PlainEnhanced → PlainShown
enhanced_shown about one = record {
  link = about.link_type;
  interface = Some one.number;
  time = Some (block_time about one.high one.low);
  original_len = one.original_len;
  bytes = one.bytes;
}

abbrev pub simple_shown : Interface → PlainSimple → PlainShown
simple_shown about one = record {
  link = about.link_type;
  interface = Some 0;
  time = None;
  original_len = one.original_len;
  bytes = one.bytes;
}

-- the packet that a block contains, if any
abbrev pub block_shown : List Interface → PlainBlock → Option PlainShown
block_shown interfaces (enhanced one) = Some (enhanced_shown (interface_at interfaces one.number) one)
block_shown interfaces (obsolete one) =
    Some (enhanced_shown (interface_at interfaces one.packet.number) one.packet)
block_shown interfaces (simple one) = Some (simple_shown (interface_at interfaces 0) one)
block_shown interfaces one = None

-- the packet that an item contains, if any
abbrev pub shown_in : Stage → Item → Option PlainShown
shown_in (in_records first) (packet one) = Some (record_shown first one)
shown_in (in_section section) (block one) = block_shown section.interfaces one
shown_in stage item = None

-- ---- whole captures

-- The bytes are a capture that consists of exactly these items.
pub record IsCapture (bytes : List ℕ) (items : List Item) : Type 0 where
  pub fits : AreItems at_start items
  pub parts : bytes ≡ items_bytes at_start items
  pub ended : may_end (stage_after_items at_start items) [] ≡ true

-- The bytes are no capture: after these items come bytes that are rejected, at the offset in the error.
pub record RefusesCapture (bytes : List ℕ) (found : List Item × CaptureError) : Type 0 where
  pub fits : AreItems at_start found.0
  pub rest : List ℕ
  pub parts : bytes ≡ items_bytes at_start found.0 ++ rest
  pub goes_on : may_end (stage_after_items at_start found.0) rest ≡ false
  pub offset : found.1.offset ≡ length (items_bytes at_start found.0)
  pub refused : Refuses (item_rows (stage_after_items at_start found.0) rest) found.1.refusal
