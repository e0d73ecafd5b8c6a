-- Packets after the bytes that a reader has read.
use Rattle.std.proofs.Common.{◌≡◌, ℕ, ◌+◌, ◌-◌, ◌<◌, ◌≤◌, ◌⊎◌, false, List, Some, None, length, drop, slice_range}
use Rattle.std.proofs.Common.{inl, inr, refl, sym, ap, subst, ◌∙◌, length-drop, arith}
use Rattle.std.proofs.lemmas.Option.{none-some}
use Rattle.ep_base.proofs.TableLemmas.{refused_is_not}
use Rattle.capture_reader.specs.Blocks.{BeginsNoBlock, IsBlock, PlainBlock, Section, block_in, section_after}
use Rattle.capture_reader.specs.Blocks.{header, interface, enhanced, obsolete, simple, other}
use Rattle.capture_reader.specs.BlockContents.{FitsLen, content_shown, known_shown, section_of}
use Rattle.capture_reader.specs.Captures.{Item, heading, packet, block, part, in_records, in_section}
use Rattle.capture_reader.specs.Captures.{PlainShown, begins_long, block_shown, record_shown, shown_in}
use Rattle.capture_reader.specs.Classic.{IsRecord, RefusesRecord, kept_packet}
use Rattle.capture_reader.specs.Readers.{HasNoPacket, Reads, ReadsBlocks, ShowsAhead, StepsOver}
use Rattle.capture_reader.specs.Readers.{reader_stage, reader_unread, rest_after, stage_of}
use Rattle.capture_reader.specs.declared.block.BlockPacket.{BlockPacket}
use Rattle.capture_reader.specs.declared.block.Content.{Content}
use Rattle.capture_reader.specs.declared.block.Content.TheVariants as content
use Rattle.capture_reader.specs.declared.byte_order.ByteOrder.{ByteOrder}
use Rattle.capture_reader.specs.declared.heading.Heading.{Heading}
use Rattle.capture_reader.specs.declared.interface.Interface.{Interface}
use Rattle.capture_reader.specs.declared.packet.Record.{Record}
use Rattle.capture_reader.specs.declared.reader.CaptureReader.{CaptureReader}
use Rattle.capture_reader.specs.declared.reader.State.{State}
use Rattle.capture_reader.specs.declared.reader.State.TheVariants.{Records, Blocks}
use Rattle.capture_reader.specs.declared.refusal.Refusal.{Refusal}
use Rattle.capture_reader.specs.declared.shown.Known.{Known}
use Rattle.capture_reader.proofs.BlockLemmas.{block_is_read_by}
use Rattle.capture_reader.proofs.ClassicLemmas.{range_split, record_is_read_by}
use Rattle.capture_reader.proofs.NumberLemmas.{range_within}
use Rattle.capture_reader.proofs.ReaderLemmas.{reads_more}
use Rattle.capture_reader.proofs.StepLemmas.{block_shows, blocks_next, steps_block, steps_record}

-- the reader after `n` more bytes
abbrev moved : (reader : CaptureReader) (n : ℕ) → n ≤ reader_unread reader → CaptureReader
moved reader n few = record reader {
  end = reader.end + n;
  offset = reader.offset + n;
  before = omega (arith, reader.before);
  within = omega (arith, few, reader.within);
  bounded = omega (arith, few, reader.bounded, reader.within);
  spare = omega (arith, reader.spare);
}

-- A step between two places after the bytes that were read shows the packet that it passes.
next_shows : (reader : CaptureReader) (n m : ℕ) (few : n ≤ reader_unread reader) (within : m ≤ reader_unread reader)
    (item : Item) (shown : PlainShown) → StepsOver (moved reader n few) (moved reader m within) item
    → shown_in (reader_stage reader) item ≡ Some shown → ShowsAhead reader n m shown
next_shows reader n m few within item shown step shows = λ taken items ahead.
    let reads : Reads (moved reader n few) taken items =
    record { fits = ahead.fits; parts = ahead.parts; stage = ahead.stage; offset = ahead.offset } in
    let more = reads_more (moved reader n few) (moved reader m within) item taken items step reads in (
      item,
      record { fits = more.fits; parts = more.parts; stage = more.stage; offset = more.offset },
      subst (λ s. shown_in s item ≡ Some shown) ahead.stage shows,
    )

-- ---- packet records

-- A complete record shows its packet.
pub record_ahead : (reader : CaptureReader) (n : ℕ) (first : Heading) (one : Record) (known : Known)
    → n ≤ reader_unread reader → reader.state ≡ Records first → 16 + one.kept ≤ length (rest_after reader n)
    → ((bytes : List ℕ) → known_shown known bytes ≡ record_shown first (kept_packet one bytes))
    → IsRecord first.order (rest_after reader n) (
      kept_packet one (slice_range (rest_after reader n) 16 (16 + one.kept)),
      drop (16 + one.kept) (rest_after reader n),
    )
    → ShowsAhead reader n (n + (16 + one.kept))
    (known_shown known (slice_range (rest_after reader n) 16 (16 + one.kept)))
    × (n < n + (16 + one.kept)) × (n + (16 + one.kept) ≤ reader_unread reader)
record_ahead reader n first one known few records long known_is is =
    let rest = rest_after reader n in
    let m = n + (16 + one.kept) in
    let within : m ≤ reader_unread reader =
    omega (arith, long, few, length-drop (reader.end + n) reader.buffer.items) in
    let bytes = slice_range rest 16 (16 + one.kept) in
    let it = kept_packet one bytes in
    let len : length it.bytes ≡ one.kept = (range_split rest one.kept long).0 in
    let After : ℕ → Type 0 = λ k. IsRecord first.order rest (it, drop (16 + k) rest) in
    let step = steps_record (moved reader n few) (moved reader m within) first it records
    (refl {A = State}) (refl {A = List ℕ}) (omega (arith, len))
    (omega (arith, len)) (omega (arith, long, len)) (subst After (sym len) is) in
    let stage : reader_stage reader ≡ in_records first = ap (λ s. stage_of s reader.interfaces.items) records in (
      next_shows reader n m few within (packet it) (known_shown known bytes) step
          (ap (λ s. shown_in s (packet it)) stage ∙ ap (λ (p : PlainShown). Some p) (sym (known_is bytes))),
      omega arith,
      within,
    )

no_packet_in : (first : Heading) (bytes : List ℕ) (e : Refusal) → RefusesRecord first.order bytes e
    → HasNoPacket (in_records first) bytes
no_packet_in first bytes e refused (heading one) rest fits parts = refl
no_packet_in first bytes e refused (packet one) rest fits parts =
    absurd (refused_is_not (record_is_read_by first.order) bytes (one, rest) e refused
    (record { fits = fits; parts = parts }))
no_packet_in first bytes e refused (block one) rest fits parts = refl
no_packet_in first bytes e refused (part one) rest fits parts = refl

-- Where a record is rejected, no packet starts.
pub no_record : (reader : CaptureReader) (first : Heading) (bytes : List ℕ) (e : Refusal)
    → reader.state ≡ Records first → RefusesRecord first.order bytes e → HasNoPacket (reader_stage reader) bytes
no_record reader first bytes e records refused =
    subst (λ s. HasNoPacket s bytes) (sym (ap (λ s. stage_of s reader.interfaces.items) records))
    (no_packet_in first bytes e refused)

-- ---- blocks

-- A block with a packet changes nothing of its section.
keeps_section : (section : Section) (interfaces : List Interface) (one : PlainBlock) (shown : PlainShown)
    → block_shown interfaces one ≡ Some shown → section_after section one ≡ section
keeps_section section interfaces (header one) shown shows = absurd (none-some shown shows)
keeps_section section interfaces (interface one) shown shows = absurd (none-some shown shows)
keeps_section section interfaces (enhanced one) shown shows = refl
keeps_section section interfaces (obsolete one) shown shows = refl
keeps_section section interfaces (simple one) shown shows = refl
keeps_section section interfaces (other one) shown shows = absurd (none-some shown shows)

-- A complete block with a packet shows it.
pub block_ahead : (reader : CaptureReader) (n : ℕ) (order : ByteOrder) (len : ℕ) (stated : Content)
    (packet_in : BlockPacket)
    → n ≤ reader_unread reader → reader.state ≡ Blocks order → begins_long order (rest_after reader n) ≡ false
    → let section = section_of order reader.interfaces.items in
    IsBlock section (rest_after reader n) (block_in section (rest_after reader n), drop len (rest_after reader n))
    → len ≤ length (rest_after reader n) → 12 ≤ len → FitsLen stated len
    → block_shown reader.interfaces.items (block_in section (rest_after reader n))
    ≡ content_shown (slice_range (rest_after reader n) 8 (len - 4)) stated
    → stated ≡ content.Packet packet_in
    → ShowsAhead reader n (n + len) (known_shown packet_in.known
    (slice_range (rest_after reader n) (8 + packet_in.start) (8 + packet_in.start + packet_in.kept)))
    × (n < n + len) × (n + len ≤ reader_unread reader)
block_ahead reader n order len stated packet_in few blocks short is long least fits shows content_is =
    let rest = rest_after reader n in
    let section = section_of order reader.interfaces.items in
    let within : n + len ≤ reader_unread reader =
    omega (arith, long, few, length-drop (reader.end + n) reader.buffer.items) in
    let one = block_in section rest in
    let start = packet_in.start in
    let end = start + packet_in.kept in
    let ends : end + 12 ≤ len = subst (λ c. FitsLen c len) content_is fits in
    let bytes = slice_range rest (8 + start) (8 + start + packet_in.kept) in
    let shown = known_shown packet_in.known bytes in
    let same : slice_range (slice_range rest 8 (len - 4)) start end ≡ bytes =
    range_within rest 8 (len - 4) start end (omega arith) (omega (arith, ends))
    ∙ ap (λ (k : ℕ). slice_range rest (8 + start) k) (omega arith) in
    let shows_it : block_shown reader.interfaces.items one ≡ Some shown =
    shows ∙ ap (content_shown (slice_range rest 8 (len - 4))) content_is
    ∙ ap (λ (b : List ℕ). Some (known_shown packet_in.known b)) same in
    let here = moved reader n few in
    let is_next : ReadsBlocks here order = blocks_next here order blocks (omega (arith, long, least)) short in
    let step = steps_block here (moved reader (n + len) within) order order len content.Other is_next blocks
    (refl {A = List ℕ}) (omega arith) (omega arith) long (refl {A = List Interface}) is (keeps_section section reader.interfaces.items one shown shows_it) in (
      next_shows reader n (n + len) few within (block one) shown step
          (block_shows here order len (Some shown) is_next is shows_it),
      omega (arith, least),
      within,
    )

no_block_in : (section : Section) (bytes : List ℕ) → BeginsNoBlock section bytes
    → HasNoPacket (in_section section) bytes
no_block_in section bytes none (heading one) rest fits parts = refl
no_block_in section bytes none (packet one) rest fits parts = refl
no_block_in section bytes none (block one) rest fits parts =
    absurd (none (one, rest) (record { fits = fits; parts = parts }))
no_block_in section bytes none (part one) rest fits parts = refl

-- Where no block starts, no packet starts.
pub no_block : (reader : CaptureReader) (order : ByteOrder) (bytes : List ℕ) → reader.state ≡ Blocks order
    → BeginsNoBlock (section_of order reader.interfaces.items) bytes → HasNoPacket (reader_stage reader) bytes
no_block reader order bytes blocks none =
    subst (λ s. HasNoPacket s bytes) (sym (ap (λ s. stage_of s reader.interfaces.items) blocks))
    (no_block_in (section_of order reader.interfaces.items) bytes none)

other_block_in : (section : Section) (bytes : List ℕ) → block_shown section.interfaces (block_in section bytes) ≡ None
    → HasNoPacket (in_section section) bytes
other_block_in section bytes none (heading one) rest fits parts = refl
other_block_in section bytes none (packet one) rest fits parts = refl
other_block_in section bytes none (block one) rest fits parts =
    ap (λ (v : PlainBlock × List ℕ). block_shown section.interfaces v.0)
    ((block_is_read_by section).is_read bytes (one, rest) (record { fits = fits; parts = parts })).1
    ∙ none
other_block_in section bytes none (part one) rest fits parts = refl

-- Another content is no packet.
pub no_packet_content : (body : List ℕ) (stated : Content)
    → (stated ≡ content.Section) ⊎ ((about : Interface) × (stated ≡ content.Interface about)) ⊎ (stated ≡ content.Other)
    → content_shown body stated ≡ None
no_packet_content body stated (inl is) = ap (content_shown body) is
no_packet_content body stated (inr (inl is)) = ap (content_shown body) is.1
no_packet_content body stated (inr (inr is)) = ap (content_shown body) is

-- Where a block with another content starts, no packet starts.
pub no_packet_block : (reader : CaptureReader) (order : ByteOrder) (bytes body : List ℕ) (stated : Content)
    → reader.state ≡ Blocks order
    → block_shown reader.interfaces.items (block_in (section_of order reader.interfaces.items) bytes)
    ≡ content_shown body stated
    → content_shown body stated ≡ None → HasNoPacket (reader_stage reader) bytes
no_packet_block reader order bytes body stated blocks shows none =
    subst (λ s. HasNoPacket s bytes) (sym (ap (λ s. stage_of s reader.interfaces.items) blocks))
    (other_block_in (section_of order reader.interfaces.items) bytes (shows ∙ none))
