-- Steps of a reader over file headers, records and blocks.
use Rattle.std.proofs.Common.{◌≡◌, ℕ, ◌+◌, ◌-◌, ◌<◌, ◌≤◌, true, false}
use Rattle.std.proofs.Common.{List, [], ◌∷◌, ◌++◌, Option, Some, None, Ok, length, take, drop, slice_range}
use Rattle.std.proofs.Common.{refl, sym, ap, subst, ◌∙◌, length-append, length-drop, arith}
use Rattle.std.proofs.lemmas.List.{drop-drop}
use Rattle.capture_reader.specs.Numbers.{word32_at}
use Rattle.capture_reader.specs.Blocks.{IsBlock, PlainBlock, block_in}
use Rattle.capture_reader.specs.Blocks.{no_section, section_after}
use Rattle.capture_reader.specs.Classic.{IsHeading, IsRecord, PlainPacket, heading_bytes}
use Rattle.capture_reader.specs.Classic.{record_bytes, kept_packet}
use Rattle.capture_reader.specs.Captures.{Item, heading, packet, block, part, Part, Stage, at_start, in_records}
use Rattle.capture_reader.specs.Captures.{in_section}
use Rattle.capture_reader.specs.Captures.{BeginsSection, Fits, PlainShown, begins_long, begins_section}
use Rattle.capture_reader.specs.Captures.{block_shown, item_bytes, may_end, record_shown, shown_in}
use Rattle.capture_reader.specs.Captures.{stage_after}
use Rattle.capture_reader.specs.BlockContents.{FitsLen, content_interfaces, content_shown, known_shown, section_of}
use Rattle.capture_reader.specs.Readers.{Answers, IsOther, NextIsBlock, ReadsBlock, ReadsBlocks}
use Rattle.capture_reader.specs.Readers.{ShowsItem, StepsOver, reader_bytes}
use Rattle.capture_reader.specs.Readers.{reader_packet, reader_rest, reader_shown, reader_stage}
use Rattle.capture_reader.specs.Readers.{stage_of}
use Rattle.capture_reader.specs.declared.block.Block.{Block}
use Rattle.capture_reader.specs.declared.block.BlockPacket.{BlockPacket}
use Rattle.capture_reader.specs.declared.block.Content.{Content}
use Rattle.capture_reader.specs.declared.block.Content.TheVariants as content
use Rattle.capture_reader.specs.declared.byte_order.ByteOrder.{ByteOrder}
use Rattle.capture_reader.specs.declared.byte_order.ByteOrder.TheVariants.{Big}
use Rattle.capture_reader.specs.declared.heading.Heading.{Heading}
use Rattle.capture_reader.specs.declared.interface.Interface.{Interface}
use Rattle.capture_reader.specs.declared.reader.Advance.TheVariants.{Packet, Other, MayEnd}
use Rattle.capture_reader.specs.declared.reader.CaptureReader.{CaptureReader}
use Rattle.capture_reader.specs.declared.reader.State.{State}
use Rattle.capture_reader.specs.declared.reader.State.TheVariants.{Start, Records, Blocks, Inside}
use Rattle.capture_reader.proofs.BlockLemmas.{shows_none}
use Rattle.capture_reader.proofs.CaptureLemmas.{begins_header}
use Rattle.capture_reader.proofs.ClassicLemmas.{range_split, record_is_read_by, record_kept}
use Rattle.capture_reader.proofs.NumberLemmas.{range_within}

-- ---- file headers and records

pub steps_heading : (reader next : CaptureReader) (first : Heading) → reader.state ≡ Start
    → next.state ≡ Records first → next.buffer.items ≡ reader.buffer.items → next.end ≡ reader.end + 24
    → next.offset ≡ reader.offset + 24 → 24 ≤ length (reader_rest reader)
    → IsHeading (reader_rest reader) (first, drop 24 (reader_rest reader)) → StepsOver reader next (heading first)
steps_heading reader next first start records buffer end offset long is =
    let stage : reader_stage reader ≡ at_start = ap (λ s. stage_of s reader.interfaces.items) start in
    let rest : drop 24 (reader_rest reader) ≡ reader_rest next =
    drop-drop 24 reader.end reader.buffer.items ∙ ap (λ (n : ℕ). drop n reader.buffer.items) (sym end)
    ∙ ap (drop next.end) (sym buffer) in
    let len : length (heading_bytes first) ≡ 24 =
    omega (
      arith,
      ap length is.parts,
      length-append (heading_bytes first) (drop 24 (reader_rest reader)),
      length-drop 24 (reader_rest reader),
    ) in
    record {
      fits = subst (λ s. Fits s (heading first)) (sym stage) is.fits;
      parts = is.parts ∙ ap (λ (s : List ℕ). heading_bytes first ++ s) rest
          ∙ ap (λ s. item_bytes s (heading first) ++ reader_rest next) (sym stage);
      stage = ap (λ s. stage_of s next.interfaces.items) records ∙ ap (λ s. stage_after s (heading first)) (sym stage);
      offset = omega (arith, offset, len, ap (λ s. length (item_bytes s (heading first))) stage);
    }

-- A file header is no packet.
pub shows_heading : (reader : CaptureReader) (first : Heading) → reader.state ≡ Start
    → IsOther (reader_stage reader) (heading first)
shows_heading reader first start =
    ap (λ s. shown_in (stage_of s reader.interfaces.items) (heading first)) start

pub steps_record : (reader next : CaptureReader) (first : Heading) (one : PlainPacket) → reader.state ≡ Records first
    → next.state ≡ reader.state → next.buffer.items ≡ reader.buffer.items
    → next.end ≡ reader.end + 16 + length one.bytes → next.offset ≡ reader.offset + (16 + length one.bytes)
    → 16 + length one.bytes ≤ length (reader_rest reader)
    → IsRecord first.order (reader_rest reader) (one, drop (16 + length one.bytes) (reader_rest reader))
    → StepsOver reader next (packet one)
steps_record reader next first one records state buffer end offset long is =
    let n = 16 + length one.bytes in
    let stage : reader_stage reader ≡ in_records first = ap (λ s. stage_of s reader.interfaces.items) records in
    let bytes : item_bytes (reader_stage reader) (packet one) ≡ record_bytes first.order one =
    ap (λ s. item_bytes s (packet one)) stage in
    let rest : drop n (reader_rest reader) ≡ reader_rest next =
    drop-drop n reader.end reader.buffer.items
    ∙ ap (λ (k : ℕ). drop k reader.buffer.items) (omega (arith, end)) ∙ ap (drop next.end) (sym buffer) in
    let len : length (record_bytes first.order one) ≡ n =
    omega (
      arith,
      long,
      ap length is.parts,
      length-append (record_bytes first.order one) (drop n (reader_rest reader)),
      length-drop n (reader_rest reader),
    ) in
    record {
      fits = subst (λ s. Fits s (packet one)) (sym stage) is.fits;
      parts = is.parts ∙ ap (λ (s : List ℕ). record_bytes first.order one ++ s) rest
          ∙ ap (λ (s : List ℕ). s ++ reader_rest next) (sym bytes);
      stage = ap (λ s. stage_of s next.interfaces.items) (state ∙ records)
          ∙ ap (λ s. stage_after s (packet one)) (sym stage);
      offset = omega (arith, offset, len, ap length bytes);
    }

-- The reader's last packet has the bytes of the record that was read.
shown : (reader next : CaptureReader) (order : ByteOrder) (one : PlainPacket) (rest : List ℕ)
    → IsRecord order (reader_rest reader) (one, rest) → next.buffer.items ≡ reader.buffer.items
    → next.start ≡ reader.end + 16 → next.last ≡ reader.end + 16 + length one.bytes → reader_bytes next ≡ one.bytes
shown reader next order one rest is buffer start last =
    let bytes = reader_rest reader in
    let kept = word32_at order bytes 8 in
    let read = (record_is_read_by order).is_read bytes (one, rest) is in
    let is_range : one.bytes ≡ slice_range bytes 16 (16 + kept) = ap (λ v. v.0.bytes) read.1 in
    let few : kept ≡ length one.bytes = record_kept order bytes one rest is in
    let place : drop 16 bytes ≡ drop next.start next.buffer.items =
    drop-drop 16 reader.end reader.buffer.items ∙ ap (λ (k : ℕ). drop k reader.buffer.items) (sym start)
    ∙ ap (drop next.start) (sym buffer) in
    let size : next.last - next.start ≡ 16 + kept - 16 = omega (arith, start, last, few) in
    ap (λ (k : ℕ). take k (drop next.start next.buffer.items)) size ∙ ap (take (16 + kept - 16)) (sym place)
    ∙ sym is_range

pub steps_packet : (reader next : CaptureReader) (first : Heading) (kept : ℕ) → reader.state ≡ Records first
    → next.state ≡ reader.state → next.buffer.items ≡ reader.buffer.items
    → next.start ≡ reader.end + 16 → next.last ≡ reader.end + 16 + kept → next.end ≡ reader.end + 16 + kept
    → next.offset ≡ reader.offset + (16 + kept) → 16 + kept ≤ length (reader_rest reader)
    → ((bytes : List ℕ) → known_shown next.known bytes ≡ record_shown first (kept_packet next.record bytes))
    → IsRecord first.order (reader_rest reader) (
      kept_packet next.record (slice_range (reader_rest reader) 16 (16 + kept)),
      drop (16 + kept) (reader_rest reader),
    )
    → (item : Item) × StepsOver reader next item × ShowsItem next (reader_stage reader) item
steps_packet reader next first kept records state buffer start last end offset long known is =
    let order = first.order in
    let one = kept_packet next.record (slice_range (reader_rest reader) 16 (16 + kept)) in
    let len : length one.bytes ≡ kept = (range_split (reader_rest reader) kept long).0 in
    let end_is : next.end ≡ reader.end + 16 + length one.bytes = omega (arith, end, len) in
    let last_is : next.last ≡ reader.end + 16 + length one.bytes = omega (arith, last, len) in
    let After : ℕ → Type 0 = λ n. IsRecord order (reader_rest reader) (one, drop (16 + n) (reader_rest reader)) in
    let is_one = subst After (sym len) is in
    let bytes = shown reader next order one _ is buffer start last_is in
    let stage : reader_stage reader ≡ in_records first = ap (λ s. stage_of s reader.interfaces.items) records in (
      packet (reader_packet next),
      subst (λ (s : List ℕ). StepsOver reader next (packet (kept_packet next.record s))) (sym bytes)
          (steps_record reader next first one records state buffer end_is (omega (arith, offset, len))
          (omega (arith, long, len)) is_one),
      record {
        shown = ap (λ s. shown_in s (packet (reader_packet next))) stage
            ∙ ap (λ (p : PlainShown). Some p) (sym (known (reader_bytes next)));
        has_record = refl;
      },
    )

-- ---- blocks

-- The next block is valid at the reader's stage.
record Steps (state : State) (interfaces : List Interface) (order : ByteOrder) (bytes following : List ℕ)
    (one : PlainBlock) : Type 0 where
  fits : Fits (stage_of state interfaces) (block one)
  parts : bytes ≡ item_bytes (stage_of state interfaces) (block one) ++ following
  after : stage_after (stage_of state interfaces) (block one)
      ≡ in_section (section_after (section_of order interfaces) one)
  shows : shown_in (stage_of state interfaces) (block one) ≡ block_shown interfaces one

block_steps : (state : State) (interfaces : List Interface) (order : ByteOrder) (bytes following : List ℕ)
    → NextIsBlock state interfaces order bytes
    → IsBlock (section_of order interfaces) bytes (block_in (section_of order interfaces) bytes, following)
    → Steps state interfaces order bytes following (block_in (section_of order interfaces) bytes)
block_steps Start interfaces order bytes following is_next is =
    let same : no_section ≡ section_of order interfaces = λ i. section_of (sym is_next.0 i) (sym is_next.1 i) in
    let one = block_in (section_of order interfaces) bytes in
    let begins : BeginsSection one =
    subst (λ s. BeginsSection (block_in s bytes)) same (begins_header bytes is_next.2) in
    let is_block : IsBlock no_section bytes (one, following) =
    subst (λ s. IsBlock s bytes (one, following)) (sym same) is in
    record {
      fits = (begins, is_block.fits);
      parts = is_block.parts;
      after = ap (λ s. in_section (section_after s one)) same;
      shows = sym (shows_none interfaces one begins);
    }
block_steps (Records first) interfaces order bytes following is_next is = absurd is_next
block_steps (Inside before len left) interfaces order bytes following is_next is = absurd is_next
block_steps (Blocks before) interfaces order bytes following is_next is =
    let same : section_of before interfaces ≡ section_of order interfaces =
    ap (λ o. section_of o interfaces) (sym is_next.0) in
    let one = block_in (section_of order interfaces) bytes in
    let is_block : IsBlock (section_of before interfaces) bytes (one, following) =
    subst (λ s. IsBlock s bytes (one, following)) (sym same) is in
    record {
      fits = is_block.fits;
      parts = is_block.parts;
      after = ap (λ s. in_section (section_after s one)) same;
      shows = refl;
    }

-- The reader steps over a complete block.
pub steps_block : (reader next : CaptureReader) (order next_order : ByteOrder) (len : ℕ) (stated : Content)
    → ReadsBlocks reader order → next.state ≡ Blocks next_order → next.buffer.items ≡ reader.buffer.items
    → next.end ≡ reader.end + len → next.offset ≡ reader.offset + len → len ≤ length (reader_rest reader)
    → next.interfaces.items ≡ content_interfaces reader.interfaces.items stated
    → let section = section_of order reader.interfaces.items in
    IsBlock section (reader_rest reader) (block_in section (reader_rest reader), drop len (reader_rest reader))
    → section_after section (block_in section (reader_rest reader))
    ≡ section_of next_order (content_interfaces reader.interfaces.items stated)
    → StepsOver reader next (block (block_in section (reader_rest reader)))
steps_block reader next order next_order len stated is_next state buffer end offset within interfaces is after =
    let rest = reader_rest reader in
    let section = section_of order reader.interfaces.items in
    let one = block_in section rest in
    let following : drop len rest ≡ reader_rest next =
    drop-drop len reader.end reader.buffer.items ∙ ap (λ (k : ℕ). drop k reader.buffer.items) (sym end)
    ∙ ap (drop next.end) (sym buffer) in
    let steps = block_steps reader.state reader.interfaces.items order rest (drop len rest) is_next is in
    let bytes = item_bytes (reader_stage reader) (block one) in
    let size : length bytes ≡ len =
    omega (arith, within, ap length steps.parts, length-append bytes (drop len rest), length-drop len rest) in
    record {
      fits = steps.fits;
      parts = steps.parts ∙ ap (λ (s : List ℕ). bytes ++ s) following;
      stage = (λ i. stage_of (state i) (interfaces i)) ∙ ap in_section (sym after) ∙ sym steps.after;
      offset = omega (arith, offset, size);
    }

-- The block is the item that the stage shows.
pub block_shows : (reader : CaptureReader) (order : ByteOrder) (len : ℕ) (shown : Option PlainShown)
    → ReadsBlocks reader order
    → let section = section_of order reader.interfaces.items in
    IsBlock section (reader_rest reader) (block_in section (reader_rest reader), drop len (reader_rest reader))
    → block_shown reader.interfaces.items (block_in section (reader_rest reader)) ≡ shown
    → shown_in (reader_stage reader) (block (block_in section (reader_rest reader))) ≡ shown
block_shows reader order len shown is_next is shows =
    (block_steps reader.state reader.interfaces.items order (reader_rest reader) (drop len (reader_rest reader)) is_next
    is).shows
    ∙ shows

-- The bytes of a packet within a block are those of the reader's last packet.
pub block_bytes_at : (reader next : CaptureReader) (len start kept : ℕ) → next.buffer.items ≡ reader.buffer.items
    → next.start ≡ reader.end + 8 + start → next.last ≡ reader.end + 8 + start + kept → start + kept + 12 ≤ len
    → slice_range (slice_range (reader_rest reader) 8 (len - 4)) start (start + kept) ≡ reader_bytes next
block_bytes_at reader next len start kept buffer start_is last_is within =
    let place : drop (8 + start) (reader_rest reader) ≡ drop next.start next.buffer.items =
    drop-drop (8 + start) reader.end reader.buffer.items
    ∙ ap (λ (k : ℕ). drop k reader.buffer.items) (omega (arith, start_is)) ∙ ap (drop next.start) (sym buffer) in
    let size : 8 + (start + kept) - (8 + start) ≡ next.last - next.start = omega (arith, start_is, last_is) in
    range_within (reader_rest reader) 8 (len - 4) start (start + kept) (omega arith) (omega (arith, within))
    ∙ ap (take (8 + (start + kept) - (8 + start))) place
    ∙ ap (λ (k : ℕ). take k (drop next.start next.buffer.items)) size

-- A list of length 0 is empty.
nothing : {A : Type 0} → (xs : List A) → length xs ≡ 0 → xs ≡ []
nothing [] none = refl
nothing (x ∷ xs) none = absurd (omega arith)

-- If nothing was read and no interface is described, a section may begin.
pub blocks_first : (reader : CaptureReader) → reader.state ≡ Start → length reader.interfaces.items ≡ 0
    → begins_section (reader_rest reader) ≡ true → ReadsBlocks reader Big
blocks_first reader start none begins =
    subst (λ s. NextIsBlock s reader.interfaces.items Big (reader_rest reader)) (sym start)
    (refl, nothing reader.interfaces.items none, begins)

-- Another block may follow a block.
pub blocks_next : (reader : CaptureReader) (order : ByteOrder) → reader.state ≡ Blocks order
    → 0 < length (reader_rest reader) → begins_long order (reader_rest reader) ≡ false → ReadsBlocks reader order
blocks_next reader order blocks some complete =
    subst (λ s. NextIsBlock s reader.interfaces.items order (reader_rest reader)) (sym blocks) (refl, some, complete)

-- A capture may end after a block.
pub ends_blocks : (reader : CaptureReader) (order : ByteOrder) → reader.state ≡ Blocks order
    → length (reader_rest reader) ≡ 0 → Answers reader reader (Ok MayEnd)
ends_blocks reader order blocks none =
    let rest = nothing (reader_rest reader) none in (
      record { stage = refl; rest = refl; offset = refl },
      ap (λ s. may_end (stage_of s reader.interfaces.items) (reader_rest reader)) blocks
          ∙ ap (may_end (in_section (section_of order reader.interfaces.items))) rest,
    )

-- ---- blocks that were parsed

-- The reader has moved to the end of the block.
pub record MovedPast (reader next : CaptureReader) (one : Block) : Type 0 where
  pub state : next.state ≡ Blocks one.order
  pub buffer : next.buffer.items ≡ reader.buffer.items
  pub end : next.end ≡ reader.end + one.len
  pub offset : next.offset ≡ reader.offset + one.len
  pub interfaces : next.interfaces.items ≡ content_interfaces reader.interfaces.items one.content

pub moved_past : (reader next : CaptureReader) (one : Block) → next.state ≡ Blocks one.order
    → next.buffer.items ≡ reader.buffer.items → next.end ≡ reader.end + one.len
    → next.offset ≡ reader.offset + one.len
    → next.interfaces.items ≡ content_interfaces reader.interfaces.items one.content → MovedPast reader next one
moved_past reader next one state buffer end offset interfaces =
    record { state = state; buffer = buffer; end = end; offset = offset; interfaces = interfaces }

stepped : (reader next : CaptureReader) (order : ByteOrder) (one : Block) → ReadsBlock reader order one
    → MovedPast reader next one
    → StepsOver reader next (block (block_in (section_of order reader.interfaces.items) (reader_rest reader)))
stepped reader next order one read following =
    steps_block reader next order one.order one.len one.content read.next_is_block following.state following.buffer following.end
    following.offset read.within following.interfaces read.is read.after

-- A block without a packet is an item that is no packet.
pub other_block : (reader next : CaptureReader) (order : ByteOrder) (one : Block) → ReadsBlock reader order one
    → MovedPast reader next one
    → content_shown (slice_range (reader_rest reader) 8 (one.len - 4)) one.content ≡ None
    → Answers reader next (Ok Other)
other_block reader next order one read following nothing_shown = (
  block (block_in (section_of order reader.interfaces.items) (reader_rest reader)),
  block_shows reader order one.len None read.next_is_block read.is (read.shown ∙ nothing_shown),
  stepped reader next order one read following,
)

-- A block with a packet becomes the reader's last packet.
pub packet_block : (reader next : CaptureReader) (order : ByteOrder) (one : Block) (packet_in : BlockPacket)
    → ReadsBlock reader order one → MovedPast reader next one → one.content ≡ content.Packet packet_in
    → next.start ≡ reader.end + 8 + packet_in.start → next.last ≡ reader.end + 8 + packet_in.start + packet_in.kept
    → next.known ≡ packet_in.known → Answers reader next (Ok Packet)
packet_block reader next order one packet_in read following content_is start last known =
    let body = slice_range (reader_rest reader) 8 (one.len - 4) in
    let within : packet_in.start + packet_in.kept + 12 ≤ one.len =
    subst (λ c. FitsLen c one.len) content_is read.fits in
    let bytes = block_bytes_at reader next one.len packet_in.start packet_in.kept following.buffer start last within in
    let shows : known_shown packet_in.known (slice_range body packet_in.start (packet_in.start + packet_in.kept))
    ≡ reader_shown next = λ i. known_shown (sym known i) (bytes i) in (
      block (block_in (section_of order reader.interfaces.items) (reader_rest reader)),
      stepped reader next order one read following,
      record {
        shown = block_shows reader order one.len (Some (reader_shown next)) read.next_is_block read.is
            (read.shown ∙ ap (content_shown body) content_is ∙ ap (λ (s : PlainShown). Some s) shows);
        has_record = tt;
      },
    )

-- ---- long blocks

-- The reader steps over a part of a long block.
pub part_steps : (reader next : CaptureReader) (stage after : Stage) (one : Part) (len : ℕ) → reader_stage reader
    ≡ stage
    → Fits stage (part one) → shown_in stage (part one) ≡ None
    → reader_rest reader ≡ item_bytes stage (part one) ++ drop len (reader_rest reader)
    → len ≤ length (reader_rest reader) → next.buffer.items ≡ reader.buffer.items → next.end ≡ reader.end + len
    → next.offset ≡ reader.offset + len → stage_after stage (part one) ≡ after → reader_stage next ≡ after
    → Answers reader next (Ok Other)
part_steps reader next stage after one len is_next fits nothing_shown parts within buffer end offset leads after_is =
    let rest = reader_rest reader in
    let following : drop len rest ≡ reader_rest next =
    drop-drop len reader.end reader.buffer.items ∙ ap (λ (k : ℕ). drop k reader.buffer.items) (sym end)
    ∙ ap (drop next.end) (sym buffer) in
    let bytes = item_bytes stage (part one) in
    let same : item_bytes (reader_stage reader) (part one) ≡ bytes = ap (λ s. item_bytes s (part one)) is_next in
    let size : length bytes ≡ len =
    omega (arith, within, ap length parts, length-append bytes (drop len rest), length-drop len rest) in (
      part one,
      ap (λ s. shown_in s (part one)) is_next ∙ nothing_shown,
      record {
        fits = subst (λ s. Fits s (part one)) (sym is_next) fits;
        parts = parts ∙ ap (λ (s : List ℕ). bytes ++ s) following
            ∙ ap (λ (s : List ℕ). s ++ reader_rest next) (sym same);
        stage = after_is ∙ sym leads ∙ ap (λ s. stage_after s (part one)) (sym is_next);
        offset = omega (arith, offset, size, ap length same);
      },
    )
