-- The parts of a reader's state that contracts refer to.
use Rattle.std.specs.Prelude.{◌≡◌, ℕ, ◌+◌, ◌-◌, ◌<◌, ◌≤◌, true, false, List, [], ◌∷◌, ◌++◌, length, drop, slice_range}
use Rattle.std.specs.Prelude.{Option, Some, None, Result, Ok, Err, vec_capacity, vec_len}
use Rattle.ep_base.specs.Tables.{Refuses}
use Rattle.capture_reader.specs.Blocks.{IsBlock, block_in, most_block, section_after}
use Rattle.capture_reader.specs.Captures.{Item, packet, Stage, at_start, in_records, in_section, inside}
use Rattle.capture_reader.specs.Captures.{AreItems, Fits, IsCapture, PlainShown, RefusesCapture, begins_long}
use Rattle.capture_reader.specs.Captures.{begins_section}
use Rattle.capture_reader.specs.Captures.{item_bytes, item_rows, items_bytes, may_end, shown_in, stage_after}
use Rattle.capture_reader.specs.Captures.{block_shown, stage_after_items}
use Rattle.capture_reader.specs.BlockContents.{FitsLen, content_interfaces, content_shown, known_shown, section_of}
use Rattle.capture_reader.specs.declared.block.Block.{Block}
use Rattle.capture_reader.specs.Classic.{PlainPacket, kept_packet, most_kept}
use Rattle.capture_reader.specs.declared.byte_order.ByteOrder.{ByteOrder}
use Rattle.capture_reader.specs.declared.byte_order.ByteOrder.TheVariants.{Big}
use Rattle.capture_reader.specs.declared.heading.Heading.{Heading}
use Rattle.capture_reader.specs.declared.interface.Interface.{Interface}
use Rattle.capture_reader.specs.declared.reader.Advance.{Advance}
use Rattle.capture_reader.specs.declared.reader.Advance.TheVariants.{Packet, Other, MayEnd, Cut}
use Rattle.capture_reader.specs.declared.reader.CaptureReader.{CaptureReader}
use Rattle.capture_reader.specs.declared.reader.State.{State}
use Rattle.capture_reader.specs.declared.reader.State.TheVariants.{Start, Records, Blocks, Inside}
use Rattle.capture_reader.specs.declared.refusal.CaptureError.{CaptureError}
use Rattle.capture_reader.specs.declared.refusal.Refusal.{Refusal}
use Rattle.capture_reader.specs.declared.refusal.Refusal.TheVariants as refusal
use Rattle.capture_reader.specs.declared.shown.Shown.{Shown}

-- the stage of a reader in this state whose section has described these interfaces
abbrev pub stage_of : State → List Interface → Stage
stage_of Start interfaces = at_start
stage_of (Records first) interfaces = in_records first
stage_of (Blocks order) interfaces = in_section (section_of order interfaces)
stage_of (Inside order len left) interfaces = inside (section_of order interfaces) len left

-- the stage of a reader
abbrev pub reader_stage : CaptureReader → Stage
reader_stage reader = stage_of reader.state reader.interfaces.items

-- the file header that was read
abbrev pub heading_in : Stage → Option Heading
heading_in (in_records first) = Some first
heading_in stage = None

-- the bytes that were taken and are not yet read
abbrev pub reader_rest : CaptureReader → List ℕ
reader_rest reader = drop reader.end reader.buffer.items

-- the number of bytes that are not yet read
abbrev pub reader_unread : CaptureReader → ℕ
reader_unread reader = length reader.buffer.items - reader.end

-- the length of the reader's buffer
abbrev pub reader_buffered : CaptureReader → ℕ
reader_buffered reader = length reader.buffer.items

-- the capacity of the buffer, for the unread bytes and the next chunk
abbrev pub bytes_capacity : CaptureReader → ℕ
bytes_capacity reader = vec_capacity reader.buffer

-- the number of interfaces for which there is capacity
abbrev pub interfaces_capacity : CaptureReader → ℕ
interfaces_capacity reader = vec_capacity reader.interfaces

-- the number of interfaces that the section has described so far
abbrev pub interfaces_described : CaptureReader → ℕ
interfaces_described reader = vec_len reader.interfaces

-- the number of bytes that were read
abbrev pub reader_offset : CaptureReader → ℕ
reader_offset reader = reader.offset

-- the captured bytes of the last packet
abbrev pub reader_bytes : CaptureReader → List ℕ
reader_bytes reader = slice_range reader.buffer.items reader.start reader.last

-- the last packet, with its record header
abbrev pub reader_packet : CaptureReader → PlainPacket
reader_packet reader = kept_packet reader.record (reader_bytes reader)

-- the last packet, in a form that both formats share
abbrev pub reader_shown : CaptureReader → PlainShown
reader_shown reader = known_shown reader.known (reader_bytes reader)

-- the packet of a `Shown`
abbrev pub shown_of : Shown → PlainShown
shown_of shown = record {
  link = shown.link_type;
  interface = shown.interface;
  time = shown.time;
  original_len = shown.original_len;
  bytes = shown.bytes.now;
}

-- The reader has taken these bytes, and has read these items at their start.
pub record Reads (reader : CaptureReader) (taken : List ℕ) (items : List Item) : Type 0 where
  pub fits : AreItems at_start items
  pub parts : taken ≡ items_bytes at_start items ++ reader_rest reader
  pub stage : reader_stage reader ≡ stage_after_items at_start items
  pub offset : reader_offset reader ≡ length (items_bytes at_start items)

-- The reader has read one item more.
abbrev pub ReadsMore : CaptureReader → List ℕ → List Item → Item → Type 0
ReadsMore reader taken items item = Reads reader taken (items ++ item ∷ [])

-- the bytes that were taken, from `ahead` bytes after those that were read
abbrev pub rest_after : CaptureReader → ℕ → List ℕ
rest_after reader ahead = drop (reader.end + ahead) reader.buffer.items

-- The reader has taken these bytes. These items are at their start: those that it has read, and packets after them,
-- which end `ahead` bytes after those that were read.
pub record ReadsAhead (reader : CaptureReader) (ahead : ℕ) (taken : List ℕ) (items : List Item) : Type 0 where
  pub fits : AreItems at_start items
  pub parts : taken ≡ items_bytes at_start items ++ rest_after reader ahead
  pub stage : reader_stage reader ≡ stage_after_items at_start items
  pub offset : reader_offset reader + ahead ≡ length (items_bytes at_start items)

-- The next item after these items is this packet, and it ends `next` bytes after the bytes that were read.
abbrev pub ShowsAhead : CaptureReader → (ahead next : ℕ) → PlainShown → Type 0
ShowsAhead reader ahead next shown =
    (taken : List ℕ) (items : List Item) → ReadsAhead reader ahead taken items → (item : Item)
    × ReadsAhead reader next taken (items ++ item ∷ [])
    × (shown_in (stage_after_items at_start items) item ≡ Some shown)

-- At this stage the bytes begin with no item that is a packet.
abbrev pub HasNoPacket : Stage → List ℕ → Type 0
HasNoPacket stage bytes =
    (item : Item) (rest : List ℕ) → Fits stage item → bytes ≡ item_bytes stage item ++ rest
    → shown_in stage item ≡ None

-- Result of `next_packet`: the packet that starts `ahead` bytes after those that were read, and where it ends; or none.
abbrev pub AnswersAhead : CaptureReader → (ahead next : ℕ) → Option Shown → Type 0
AnswersAhead reader ahead next (Some shown) =
    ShowsAhead reader ahead next (shown_of shown) × (ahead < next) × (next ≤ reader_unread reader)
AnswersAhead reader ahead next None =
    HasNoPacket (reader_stage reader) (rest_after reader ahead) × (next ≡ ahead)

-- Holds unless the item is a packet record other than the reader's last packet.
abbrev pub HasRecord : CaptureReader → Item → Type 0
HasRecord reader (packet one) = one ≡ reader_packet reader
HasRecord reader item = Unit {0}

-- At this stage the item is a packet, and it is the reader's last packet.
pub record ShowsItem (reader : CaptureReader) (stage : Stage) (item : Item) : Type 0 where
  pub shown : shown_in stage item ≡ Some (reader_shown reader)
  pub has_record : HasRecord reader item

-- At this stage the item is no packet.
abbrev pub IsOther : Stage → Item → Type 0
IsOther stage item = shown_in stage item ≡ None

-- Holds if the error is that bytes are missing, with `left` bytes present and more required.
abbrev pub WantsBytes : ℕ → Refusal → Type 0
WantsBytes left (refusal.Cut required available) = (available ≡ left) × (left < required)
WantsBytes left other = ⊥

-- Result of `advance` after these bytes and items: a packet, which is the last packet now, or another item; the end of
-- a capture; too few bytes; or bytes that are rejected whatever follows.
abbrev pub AdvancesTo : CaptureReader → List ℕ → List Item → Result Advance CaptureError → Type 0
AdvancesTo reader taken items (Ok Packet) =
    (item : Item) × ReadsMore reader taken items item × ShowsItem reader (stage_after_items at_start items) item
AdvancesTo reader taken items (Ok Other) =
    (item : Item) × IsOther (stage_after_items at_start items) item × ReadsMore reader taken items item
AdvancesTo reader taken items (Ok MayEnd) = Reads reader taken items × IsCapture taken items
AdvancesTo reader taken items (Ok (Cut error)) =
    Reads reader taken items × RefusesCapture taken (items, error) × WantsBytes (reader_unread reader) error.refusal
AdvancesTo reader taken items (Err error) =
    Reads reader taken items × ((more : List ℕ) → RefusesCapture (taken ++ more) (items, error))

-- Holds if an item was read.
abbrev pub Passes : Result Advance CaptureError → Type 0
Passes (Ok Packet) = Unit {0}
Passes (Ok Other) = Unit {0}
Passes answer = ⊥

-- Holds if no item was read because the bytes end, where the capture may end or an item is incomplete.
abbrev pub Waits : Result Advance CaptureError → Type 0
Waits (Ok MayEnd) = Unit {0}
Waits (Ok (Cut error)) = Unit {0}
Waits answer = ⊥

-- the length of the longest record or block; a reader that needs more bytes has fewer unread ones
abbrev pub most_unread : Stage → ℕ
most_unread (in_records first) = 16 + most_kept
most_unread stage = most_block

-- ---- one step

-- The bytes are not empty, and the next item is a block in a section of this byte order that is not read in parts.
abbrev pub NextIsBlock : State → List Interface → ByteOrder → List ℕ → Type 0
NextIsBlock Start interfaces order bytes = (order ≡ Big) × (interfaces ≡ []) × (begins_section bytes ≡ true)
NextIsBlock (Records first) interfaces order bytes = ⊥
NextIsBlock (Blocks other) interfaces order bytes =
    (order ≡ other) × (0 < length bytes) × (begins_long other bytes ≡ false)
NextIsBlock (Inside other len left) interfaces order bytes = ⊥

-- The next item of the reader is a block in a section of this byte order that is not read in parts.
abbrev pub ReadsBlocks : CaptureReader → ByteOrder → Type 0
ReadsBlocks reader order = NextIsBlock reader.state reader.interfaces.items order (reader_rest reader)

-- The next item is a block, which was parsed as this value.
pub record ReadsBlock (reader : CaptureReader) (order : ByteOrder) (one : Block) : Type 0 where
  pub next_is_block : ReadsBlocks reader order
  pub is : IsBlock (section_of order reader.interfaces.items) (reader_rest reader)
      (block_in (section_of order reader.interfaces.items) (reader_rest reader), drop one.len (reader_rest reader))
  pub within : one.len ≤ length (reader_rest reader)
  pub fits : FitsLen one.content one.len
  pub after : section_after (section_of order reader.interfaces.items)
      (block_in (section_of order reader.interfaces.items) (reader_rest reader))
      ≡ section_of one.order (content_interfaces reader.interfaces.items one.content)
  pub shown : block_shown reader.interfaces.items
      (block_in (section_of order reader.interfaces.items) (reader_rest reader))
      ≡ content_shown (slice_range (reader_rest reader) 8 (one.len - 4)) one.content

-- Between two states of a reader, this item was read.
pub record StepsOver (reader next : CaptureReader) (item : Item) : Type 0 where
  pub fits : Fits (reader_stage reader) item
  pub parts : reader_rest reader ≡ item_bytes (reader_stage reader) item ++ reader_rest next
  pub stage : reader_stage next ≡ stage_after (reader_stage reader) item
  pub offset : reader_offset next ≡ reader_offset reader + length (item_bytes (reader_stage reader) item)

-- If `more` bytes follow those that were taken, the next item is rejected with this error.
pub record StopsAt (reader : CaptureReader) (more : List ℕ) (error : CaptureError) : Type 0 where
  pub goes_on : may_end (reader_stage reader) (reader_rest reader ++ more) ≡ false
  pub offset : error.offset ≡ reader_offset reader
  pub refused : Refuses (item_rows (reader_stage reader) (reader_rest reader ++ more)) error.refusal

-- The reader has read no item between these states.
pub record IsUnmoved (reader next : CaptureReader) : Type 0 where
  pub stage : reader_stage next ≡ reader_stage reader
  pub rest : reader_rest next ≡ reader_rest reader
  pub offset : reader_offset next ≡ reader_offset reader

-- Result of one step of the reader.
abbrev pub Answers : CaptureReader → CaptureReader → Result Advance CaptureError → Type 0
Answers reader next (Ok Packet) =
    (item : Item) × StepsOver reader next item × ShowsItem next (reader_stage reader) item
Answers reader next (Ok Other) = (item : Item) × IsOther (reader_stage reader) item × StepsOver reader next item
Answers reader next (Ok MayEnd) =
    IsUnmoved reader next × (may_end (reader_stage reader) (reader_rest reader) ≡ true)
Answers reader next (Ok (Cut error)) =
    IsUnmoved reader next × StopsAt reader [] error × (length (reader_rest reader) < most_unread (reader_stage reader))
    × WantsBytes (length (reader_rest reader)) error.refusal
Answers reader next (Err error) = IsUnmoved reader next × ((more : List ℕ) → StopsAt reader more error)

-- the result if the next item is rejected; one for which bytes are missing may still become complete
abbrev pub refused_at : ℕ → Refusal → Result Advance CaptureError
refused_at offset (refusal.Cut required len) =
    Ok (Cut (record { offset = offset; refusal = refusal.Cut required len }))
refused_at offset other = Err (record { offset = offset; refusal = other })
