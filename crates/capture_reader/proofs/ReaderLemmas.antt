-- The results of a reader's steps, and its errors.
use Rattle.std.proofs.Common.{◌≡◌, ℕ, ◌+◌, ◌%◌, ◌<◌, ◌≤◌, ◌==◌, ◌&&◌, min, nat_le, nat_lt, not, is_some, Bool, true}
use Rattle.std.proofs.Common.{false}
use Rattle.std.proofs.Common.{List, [], ◌∷◌, ◌++◌, Some, Result, Ok, Err, length}
use Rattle.std.proofs.Common.{refl, sym, ap, subst, ◌∙◌, append_assoc, length-append, length-drop, arith}
use Rattle.std.proofs.lemmas.Bool.{and_parts, le-leb, le-ltb, leb-true, ltb-false, ltb-true}
use Rattle.std.proofs.lemmas.List.{append-nil}
use Rattle.std.proofs.lemmas.Option.{none-some}
use Rattle.std.proofs.Math.Nat.{min-le_right}
use Rattle.ep_base.specs.Tables.{first_row}
use Rattle.ep_base.proofs.TableLemmas.{refusal_is}
use Rattle.capture_reader.specs.Numbers.{word32_at}
use Rattle.capture_reader.specs.Blocks.{Section, block_rows, is_other, kind_of, most_block, no_section}
use Rattle.capture_reader.specs.Classic.{heading_rows}
use Rattle.capture_reader.specs.Classic.{record_rows, style_in}
use Rattle.capture_reader.specs.Captures.{Item, Stage, at_start, in_records, in_section, inside, AreItems}
use Rattle.capture_reader.specs.Captures.{Fits, IsCapture, RefusesCapture, begins_long, begins_section, inside_rows}
use Rattle.capture_reader.specs.Captures.{long_rows, most_stretch, section_rows}
use Rattle.capture_reader.specs.Captures.{item_bytes, item_rows, items_bytes, may_end}
use Rattle.capture_reader.specs.Captures.{stage_after, stage_after_items}
use Rattle.capture_reader.specs.BlockContents.{section_of}
use Rattle.capture_reader.specs.Readers.{AdvancesTo, Answers, IsOther, IsUnmoved, NextIsBlock, Passes, Reads}
use Rattle.capture_reader.specs.Readers.{ReadsBlocks}
use Rattle.capture_reader.specs.Readers.{ReadsMore, ShowsItem, StepsOver, StopsAt, Waits, WantsBytes, most_unread}
use Rattle.capture_reader.specs.Readers.{reader_offset, reader_rest, reader_stage, reader_unread}
use Rattle.capture_reader.specs.Readers.{refused_at}
use Rattle.capture_reader.specs.Readers.{stage_of}
use Rattle.capture_reader.specs.declared.byte_order.ByteOrder.{ByteOrder}
use Rattle.capture_reader.specs.declared.byte_order.ByteOrder.TheVariants.{Big}
use Rattle.capture_reader.specs.declared.heading.Heading.{Heading}
use Rattle.capture_reader.specs.declared.interface.Interface.{Interface}
use Rattle.capture_reader.specs.declared.reader.Advance.{Advance}
use Rattle.capture_reader.specs.declared.reader.Advance.TheVariants.{Packet, Other, MayEnd, Cut}
use Rattle.capture_reader.specs.declared.reader.CaptureReader.{CaptureReader}
use Rattle.capture_reader.specs.declared.reader.State.{State}
use Rattle.capture_reader.specs.declared.reader.State.TheVariants.{Start, Records, Blocks, Inside}
use Rattle.capture_reader.specs.declared.refusal.CaptureError.{CaptureError}
use Rattle.capture_reader.specs.declared.refusal.Refusal.{Refusal}
use Rattle.capture_reader.specs.declared.refusal.Refusal.TheVariants as refusal
use Rattle.capture_reader.proofs.BlockRefusalLemmas.{IsFinal, block_few, block_long, block_more, cut_after, not_few}
use Rattle.capture_reader.proofs.BodyLemmas.{row_pass}
use Rattle.capture_reader.proofs.CaptureLemmas.{ended_empty, item_some, long_facts, start_rows}
use Rattle.capture_reader.proofs.NumberLemmas.{word32_at-more}
use Rattle.capture_reader.proofs.ClassicRefusalLemmas.{final_5, heading_few, heading_more, last_rows, record_few}
use Rattle.capture_reader.proofs.ClassicRefusalLemmas.{record_more}
use Rattle.capture_reader.proofs.WantLemmas.{item_wants}

-- ---- one more item

stage_after_items-append : (items : List Item) (stage : Stage) (item : Item)
    → stage_after_items stage (items ++ item ∷ []) ≡ stage_after (stage_after_items stage items) item
stage_after_items-append [] stage item = refl
stage_after_items-append (first ∷ items) stage item = stage_after_items-append items (stage_after stage first) item

items_bytes-append : (items : List Item) (stage : Stage) (item : Item)
    → items_bytes stage (items ++ item ∷ [])
    ≡ items_bytes stage items ++ item_bytes (stage_after_items stage items) item
items_bytes-append [] stage item = append-nil (item_bytes stage item)
items_bytes-append (first ∷ items) stage item =
    let next = stage_after stage first in
    ap (λ (s : List ℕ). item_bytes stage first ++ s) (items_bytes-append items next item)
    ∙ sym (append_assoc (item_bytes stage first) (items_bytes next items)
    (item_bytes (stage_after_items next items) item))

AreItems-append : (items : List Item) (stage : Stage) (item : Item) → AreItems stage items
    → Fits (stage_after_items stage items) item → AreItems stage (items ++ item ∷ [])
AreItems-append [] stage item are fits = (fits, tt)
AreItems-append (first ∷ items) stage item are fits =
    (are.0, AreItems-append items (stage_after stage first) item are.1 fits)

-- A step over an item extends the items that the reader has read.
pub reads_more : (reader next : CaptureReader) (item : Item) (taken : List ℕ) (items : List Item)
    → StepsOver reader next item → Reads reader taken items → ReadsMore next taken items item
reads_more reader next item taken items step reads =
    let before = items_bytes at_start items in
    let after = stage_after_items at_start items in
    let at_stage = reads.stage in
    let one = item_bytes (reader_stage reader) item in
    let bytes : items_bytes at_start (items ++ item ∷ []) ≡ before ++ one =
    items_bytes-append items at_start item ∙ ap (λ s. before ++ item_bytes s item) (sym at_stage) in
    record {
      fits = AreItems-append items at_start item reads.fits (subst (λ s. Fits s item) at_stage step.fits);
      parts = reads.parts ∙ ap (λ (s : List ℕ). before ++ s) step.parts
          ∙ sym (append_assoc before one (reader_rest next))
          ∙ ap (λ (s : List ℕ). s ++ reader_rest next) (sym bytes);
      stage = step.stage ∙ ap (λ s. stage_after s item) at_stage ∙ sym (stage_after_items-append items at_start item);
      offset = step.offset ∙ ap (λ (n : ℕ). n + length one) reads.offset ∙ sym (length-append before one)
          ∙ ap length (sym bytes);
    }

-- Readers with the same state and interfaces are at the same stage.
pub same_stage : (reader next : CaptureReader) → next.state ≡ reader.state
    → next.interfaces.items ≡ reader.interfaces.items → reader_stage next ≡ reader_stage reader
same_stage reader next state interfaces = λ i. stage_of (state i) (interfaces i)

-- A reader that has not moved has read the same items.
pub still_reads : (reader next : CaptureReader) (taken : List ℕ) (items : List Item) → IsUnmoved reader next
    → Reads reader taken items → Reads next taken items
still_reads reader next taken items same reads = record {
  fits = reads.fits;
  parts = reads.parts ∙ ap (λ (s : List ℕ). items_bytes at_start items ++ s) (sym same.rest);
  stage = same.stage ∙ reads.stage;
  offset = same.offset ∙ reads.offset;
}

-- A reader whose unread bytes are extended by a chunk has taken these bytes too, and has read the same items.
pub takes_more : (reader next : CaptureReader) (piece : List ℕ) → next.state ≡ reader.state
    → next.interfaces.items ≡ reader.interfaces.items → reader_rest next ≡ reader_rest reader ++ piece
    → next.offset ≡ reader.offset → (taken : List ℕ) (items : List Item) → Reads reader taken items
    → Reads next (taken ++ piece) items
takes_more reader next piece state interfaces rest offset taken items reads =
    let before = items_bytes at_start items in
    record {
      fits = reads.fits;
      parts = ap (λ (s : List ℕ). s ++ piece) reads.parts ∙ append_assoc before (reader_rest reader) piece
          ∙ ap (λ (s : List ℕ). before ++ s) (sym rest);
      stage = same_stage reader next state interfaces ∙ reads.stage;
      offset = offset ∙ reads.offset;
    }

-- If a reader's next item is rejected, its bytes are rejected as a capture.
refuses : (reader : CaptureReader) (more taken : List ℕ) (items : List Item) (error : CaptureError)
    → StopsAt reader more error → Reads reader taken items → RefusesCapture (taken ++ more) (items, error)
refuses reader more taken items error stops reads =
    let rest = reader_rest reader ++ more in
    record {
      fits = reads.fits;
      rest = rest;
      parts = ap (λ (s : List ℕ). s ++ more) reads.parts
          ∙ append_assoc (items_bytes at_start items) (reader_rest reader) more;
      goes_on = ap (λ s. may_end s rest) (sym reads.stage) ∙ stops.goes_on;
      offset = stops.offset ∙ reads.offset;
      refused = ap (λ s. first_row (item_rows s rest)) (sym reads.stage) ∙ stops.refused;
    }

-- If the capture may end at the reader, the bytes it has taken are a capture.
ends : (reader : CaptureReader) (taken : List ℕ) (items : List Item)
    → may_end (reader_stage reader) (reader_rest reader) ≡ true → Reads reader taken items → IsCapture taken items
ends reader taken items ended reads =
    let none = ended_empty (reader_stage reader) (reader_rest reader) ended in
    record {
      fits = reads.fits;
      parts = reads.parts ∙ ap (λ (s : List ℕ). items_bytes at_start items ++ s) none
          ∙ append-nil (items_bytes at_start items);
      ended = ap (λ s. may_end s []) (sym reads.stage)
          ∙ ap (may_end (reader_stage reader)) (sym none) ∙ ended;
    }

left_is : (reader : CaptureReader) → reader_unread reader ≡ length (reader_rest reader)
left_is reader = sym (length-drop reader.end reader.buffer.items)

unmoved_left : (reader next : CaptureReader) → IsUnmoved reader next
    → (reader_offset next + reader_unread next ≡ reader_offset reader + reader_unread reader)
    × (reader_unread next ≡ length (reader_rest reader))
unmoved_left reader next same =
    let len = ap length same.rest in
    (omega (arith, len, same.offset, left_is reader, left_is next), left_is next ∙ len)

-- The result of a step is a result of `advance`.
pub advances : (reader next : CaptureReader) (answer : Result Advance CaptureError) → Answers reader next answer
    → (taken : List ℕ) (items : List Item) → Reads reader taken items → AdvancesTo next taken items answer
advances reader next (Ok Packet) step taken items reads = (
  step.0,
  reads_more reader next step.0 taken items step.1 reads,
  subst (λ s. ShowsItem next s step.0) reads.stage step.2,
)
advances reader next (Ok Other) step taken items reads = (
  step.0,
  subst (λ s. IsOther s step.0) reads.stage step.1,
  reads_more reader next step.0 taken items step.2 reads,
)
advances reader next (Ok MayEnd) step taken items reads =
    (still_reads reader next taken items step.0 reads, ends reader taken items step.1 reads)
advances reader next (Ok (Cut error)) step taken items reads = (
  still_reads reader next taken items step.0 reads,
  subst (λ (s : List ℕ). RefusesCapture s (items, error)) (append-nil taken)
      (refuses reader [] taken items error step.1 reads),
  subst (λ (n : ℕ). WantsBytes n error.refusal) (sym (unmoved_left reader next step.0).1) step.3,
)
advances reader next (Err error) step taken items reads = (
  still_reads reader next taken items step.0 reads,
  λ more. refuses reader more taken items error (step.1 more) reads,
)

-- ---- number of unread bytes

step_left : (reader next : CaptureReader) (item : Item) → StepsOver reader next item
    → (reader_offset next + reader_unread next ≡ reader_offset reader + reader_unread reader)
    × (reader_unread next < reader_unread reader)
step_left reader next item step =
    let one = item_bytes (reader_stage reader) item in
    let len : length (reader_rest reader) ≡ length one + length (reader_rest next) =
    ap length step.parts ∙ length-append one (reader_rest next) in
    let some = item_some (reader_stage reader) item step.fits in (
      omega (arith, len, step.offset, left_is reader, left_is next),
      omega
          (arith, len, some, left_is reader, left_is next),
    )

pub keeps_total : (reader next : CaptureReader) (answer : Result Advance CaptureError) → Answers reader next answer
    → reader_offset next + reader_unread next ≡ reader_offset reader + reader_unread reader
keeps_total reader next (Ok Packet) step = (step_left reader next step.0 step.1).0
keeps_total reader next (Ok Other) step = (step_left reader next step.0 step.2).0
keeps_total reader next (Ok MayEnd) step = (unmoved_left reader next step.0).0
keeps_total reader next (Ok (Cut error)) step = (unmoved_left reader next step.0).0
keeps_total reader next (Err error) step = (unmoved_left reader next step.0).0

pub never_back : (reader next : CaptureReader) (answer : Result Advance CaptureError) → Answers reader next answer
    → reader_offset reader ≤ reader_offset next
never_back reader next (Ok Packet) step = omega (arith, step.1.offset)
never_back reader next (Ok Other) step = omega (arith, step.2.offset)
never_back reader next (Ok MayEnd) step = omega (arith, step.0.offset)
never_back reader next (Ok (Cut error)) step = omega (arith, step.0.offset)
never_back reader next (Err error) step = omega (arith, step.0.offset)

pub reads_some : (reader next : CaptureReader) (answer : Result Advance CaptureError) → Answers reader next answer
    → Passes answer → reader_unread next < reader_unread reader
reads_some reader next (Ok Packet) step passes = (step_left reader next step.0 step.1).1
reads_some reader next (Ok Other) step passes = (step_left reader next step.0 step.2).1
reads_some reader next (Ok MayEnd) step passes = absurd passes
reads_some reader next (Ok (Cut error)) step passes = absurd passes
reads_some reader next (Err error) step passes = absurd passes

-- A record or block has at least one byte.
most_some : (stage : Stage) → 0 < most_unread stage
most_some at_start = omega arith
most_some (in_records first) = omega arith
most_some (in_section section) = omega arith
most_some (inside section len left) = omega arith

pub holds_few : (reader next : CaptureReader) (answer : Result Advance CaptureError) → Answers reader next answer
    → Waits answer → reader_unread next < most_unread (reader_stage next)
holds_few reader next (Ok Packet) step waits = absurd waits
holds_few reader next (Ok Other) step waits = absurd waits
holds_few reader next (Ok MayEnd) step waits =
    omega (
      arith,
      (unmoved_left reader next step.0).1,
      ap length (ended_empty (reader_stage reader) (reader_rest reader) step.1),
      most_some (reader_stage next),
    )
holds_few reader next (Ok (Cut error)) step waits =
    subst (λ s. reader_unread next < most_unread s) (sym step.0.stage)
    (omega (arith, (unmoved_left reader next step.0).1, step.2))
holds_few reader next (Err error) step waits = absurd waits

-- ---- errors that stay the same with more bytes

-- The first four bytes decide whether a section begins.
begins_more : (bytes more : List ℕ) → 4 ≤ length bytes → begins_section (bytes ++ more) ≡ begins_section bytes
begins_more bytes more long =
    let size = length-append bytes more in
    let present : nat_le 4 (length bytes) ≡ true = le-leb 4 (length bytes) long in
    let still : nat_le 4 (length (bytes ++ more)) ≡ true = le-leb 4 (length (bytes ++ more)) (omega (arith, size)) in
    λ i. (still ∙ sym present) i && (word32_at-more Big bytes more 0 long i == 0x0a0d0d0a)

-- A final error at the start of a capture stays the same with more bytes.
start_more : (begins : Bool) (bytes more : List ℕ) (e : Refusal) → IsFinal e
    → begins_section bytes ≡ begins → first_row (start_rows begins bytes) ≡ Some e
    → first_row (start_rows begins (bytes ++ more)) ≡ Some e
start_more true bytes more e final begins refused = block_more no_section bytes more e final refused
start_more false bytes more e final begins refused = heading_more bytes more e final refused

-- A final error at the start of a capture requires four bytes.
start_long : (begins : Bool) (bytes : List ℕ) (e : Refusal) → IsFinal e → begins_section bytes ≡ begins
    → first_row (start_rows begins bytes) ≡ Some e → 4 ≤ length bytes
start_long true bytes e final begins refused =
    leb-true 4 (length bytes) (and_parts (nat_le 4 (length bytes)) (word32_at Big bytes 0 == 0x0a0d0d0a) begins).0
start_long false bytes e final begins refused =
    let n = length bytes in
    let style = style_in bytes in
    ltb-false n 4 (final_5 (nat_lt n 4) (not (is_some style)) (nat_lt n 24) n (word32_at Big bytes 0)
    (last_rows style bytes) e final refused).0

start_few : (begins : Bool) (bytes : List ℕ) (required present : ℕ)
    → first_row (start_rows begins bytes) ≡ Some (refusal.Cut required present) → length bytes < most_block
start_few true bytes required present refused = block_few no_section bytes required present refused
start_few false bytes required present refused = heading_few bytes required present refused

-- The first eight bytes decide whether a block is a long one.
long_more : (order : ByteOrder) (bytes more : List ℕ) → 8 ≤ length bytes
    → begins_long order (bytes ++ more) ≡ begins_long order bytes
long_more order bytes more long =
    let size = length-append bytes more in
    let present : nat_le 8 (length bytes) ≡ true = le-leb 8 (length bytes) long in
    let still : nat_le 8 (length (bytes ++ more)) ≡ true = le-leb 8 (length (bytes ++ more)) (omega (arith, size)) in
    let number = word32_at-more order bytes more 0 (omega arith) in
    let len = word32_at-more order bytes more 4 long in
    λ i. (still ∙ sym present) i && (is_other (kind_of (number i)) && nat_lt most_block (len i))

-- A final error of a block requires eight bytes.
section_long : (long : Bool) (section : Section) (bytes : List ℕ) (e : Refusal) → IsFinal e
    → begins_long section.order bytes ≡ long → first_row (section_rows long section bytes) ≡ Some e → 8 ≤ length bytes
section_long true section bytes e final long refused = (long_facts section.order bytes long).0
section_long false section bytes e final long refused =
    let twelve = block_long section bytes e final refused in omega arith

section_more : (long : Bool) (section : Section) (bytes more : List ℕ) (e : Refusal) → 8 ≤ length bytes → IsFinal e
    → first_row (section_rows long section bytes) ≡ Some e → first_row (section_rows long section (bytes ++ more))
    ≡ Some e
section_more true section bytes more e long final refused =
    ap (λ (n : ℕ). first_row ((not (n % 4 == 0), refusal.BlockLength n) ∷ []))
    (word32_at-more section.order bytes more 4 long)
    ∙ refused
section_more false section bytes more e long final refused = block_more section bytes more e final refused

section_few : (long : Bool) (section : Section) (bytes : List ℕ) (required present : ℕ)
    → first_row (section_rows long section bytes) ≡ Some (refusal.Cut required present) → length bytes < most_block
section_few true section bytes required present refused =
    absurd (refusal_is IsFinal (section_rows true section bytes) (tt, tt) (refusal.Cut required present) refused)
section_few false section bytes required present refused = block_few section bytes required present refused

inside_more : (done : Bool) (order : ByteOrder) (len left : ℕ) (bytes more : List ℕ) (e : Refusal) → IsFinal e
    → first_row (inside_rows done order len left bytes) ≡ Some e
    → first_row (inside_rows done order len left (bytes ++ more)) ≡ Some e
inside_more true order len left bytes more e final refused =
    let n = length bytes in
    let m = length (bytes ++ more) in
    let stated = word32_at order bytes 0 in
    let is = not_few (nat_lt n 4) 4 n ((not (stated == len), refusal.TrailingLength len stated) ∷ []) e final refused in
    let enough : 4 ≤ n = ltb-false n 4 is.0 in
    row_pass (nat_lt m 4) (refusal.Cut 4 m) _ (le-ltb m 4 (omega (arith, length-append bytes more)))
    ∙ ap (λ (k : ℕ). first_row ((not (k == len), refusal.TrailingLength len k) ∷ []))
    (word32_at-more order bytes more 0 enough)
    ∙ is.1
inside_more false order len left bytes more e final refused =
    let k = min left most_stretch in
    absurd (none-some e (not_few (nat_lt (length bytes) k) k (length bytes) [] e final refused).1)

inside_few : (done : Bool) (order : ByteOrder) (len left : ℕ) (bytes : List ℕ) (required present : ℕ)
    → first_row (inside_rows done order len left bytes) ≡ Some (refusal.Cut required present) → length bytes < most_block
inside_few true order len left bytes required present refused =
    let n = length bytes in
    let stated = word32_at order bytes 0 in
    let below = ltb-true n 4 (cut_after [] (nat_lt n 4) 4 n required present
    ((not (stated == len), refusal.TrailingLength len stated) ∷ []) tt (tt, tt) refused).1 in
    omega (arith, below)
inside_few false order len left bytes required present refused =
    let n = length bytes in
    let k = min left most_stretch in
    let below = ltb-true n k (cut_after [] (nat_lt n k) k n required present [] tt tt refused).1 in
    omega (arith, below, min-le_right left most_stretch)

item_more : (stage : Stage) (bytes more : List ℕ) (e : Refusal) → IsFinal e
    → first_row (item_rows stage bytes) ≡ Some e → first_row (item_rows stage (bytes ++ more)) ≡ Some e
item_more at_start bytes more e final refused =
    let begins = begins_section bytes in
    let long = start_long begins bytes e final refl refused in
    ap (λ (b : Bool). first_row (start_rows b (bytes ++ more))) (begins_more bytes more long)
    ∙ start_more begins bytes more e final refl refused
item_more (in_records first) bytes more e final refused = record_more first.order bytes more e final refused
item_more (in_section section) bytes more e final refused =
    let long = begins_long section.order bytes in
    let size = section_long long section bytes e final refl refused in
    ap (λ (b : Bool). first_row (section_rows b section (bytes ++ more))) (long_more section.order bytes more size)
    ∙ section_more long section bytes more e size final refused
item_more (inside section len left) bytes more e final refused =
    inside_more (left == 0) section.order len left bytes more e final refused

item_few : (stage : Stage) (bytes : List ℕ) (required present : ℕ)
    → first_row (item_rows stage bytes) ≡ Some (refusal.Cut required present) → length bytes < most_unread stage
item_few at_start bytes required present refused = start_few (begins_section bytes) bytes required present refused
item_few (in_records first) bytes required present refused = record_few first.order bytes required present refused
item_few (in_section section) bytes required present refused =
    section_few (begins_long section.order bytes) section bytes required present refused
item_few (inside section len left) bytes required present refused =
    inside_few (left == 0) section.order len left bytes required present refused

-- If a capture may not end here, it may not with more bytes.
ends_not_more : (stage : Stage) (bytes more : List ℕ) → may_end stage bytes ≡ false → may_end stage (bytes ++ more)
    ≡ false
ends_not_more at_start bytes more goes_on = refl
ends_not_more (in_records first) [] more goes_on = absurd (cc)
ends_not_more (in_records first) (byte ∷ bytes) more goes_on = refl
ends_not_more (in_section section) [] more goes_on = absurd (cc)
ends_not_more (in_section section) (byte ∷ bytes) more goes_on = refl
ends_not_more (inside section len left) bytes more goes_on = refl

final_answers : (reader next : CaptureReader) (e : Refusal) → IsFinal e → IsUnmoved reader next
    → may_end (reader_stage reader) (reader_rest reader) ≡ false
    → first_row (item_rows (reader_stage reader) (reader_rest reader)) ≡ Some e
    → Answers reader next (Err (record { offset = reader_offset reader; refusal = e }))
final_answers reader next e final same goes_on refused = (
  same,
  λ more. record {
    goes_on = ends_not_more (reader_stage reader) (reader_rest reader) more goes_on;
    offset = refl;
    refused = item_more (reader_stage reader) (reader_rest reader) more e final refused;
  },
)

pub refused_answers : (reader next : CaptureReader) (e : Refusal) → IsUnmoved reader next
    → may_end (reader_stage reader) (reader_rest reader) ≡ false
    → first_row (item_rows (reader_stage reader) (reader_rest reader)) ≡ Some e
    → Answers reader next (refused_at (reader_offset reader) e)
refused_answers reader next (refusal.Cut required len) same goes_on refused =
    let stage = reader_stage reader in
    let rest = sym (append-nil (reader_rest reader)) in (
      same,
      record {
        goes_on = ap (may_end stage) (sym rest) ∙ goes_on;
        offset = refl;
        refused = ap (λ (s : List ℕ). first_row (item_rows stage s)) (sym rest) ∙ refused;
      },
      item_few stage (reader_rest reader) required len refused,
      item_wants stage (reader_rest reader) required len refused,
    )
refused_answers reader next (refusal.UnknownMagic magic) same goes_on refused =
    final_answers reader next (refusal.UnknownMagic magic) tt same goes_on refused
refused_answers reader next (refusal.UnsupportedVersion major minor) same goes_on refused =
    final_answers reader next (refusal.UnsupportedVersion major minor) tt same goes_on refused
refused_answers reader next (refusal.PacketTooLong len) same goes_on refused =
    final_answers reader next (refusal.PacketTooLong len) tt same goes_on refused
refused_answers reader next (refusal.UnknownByteOrder magic) same goes_on refused =
    final_answers reader next (refusal.UnknownByteOrder magic) tt same goes_on refused
refused_answers reader next (refusal.BlockLength len) same goes_on refused =
    final_answers reader next (refusal.BlockLength len) tt same goes_on refused
refused_answers reader next (refusal.BlockTooLong len) same goes_on refused =
    final_answers reader next (refusal.BlockTooLong len) tt same goes_on refused
refused_answers reader next (refusal.TrailingLength len trailing) same goes_on refused =
    final_answers reader next (refusal.TrailingLength len trailing) tt same goes_on refused
refused_answers reader next refusal.OptionBeyondBlock same goes_on refused =
    final_answers reader next refusal.OptionBeyondBlock tt same goes_on refused
refused_answers reader next (refusal.OptionLength code len) same goes_on refused =
    final_answers reader next (refusal.OptionLength code len) tt same goes_on refused
refused_answers reader next (refusal.UnsupportedResolution resolution) same goes_on refused =
    final_answers reader next (refusal.UnsupportedResolution resolution) tt same goes_on refused
refused_answers reader next (refusal.UndescribedInterface interface) same goes_on refused =
    final_answers reader next (refusal.UndescribedInterface interface) tt same goes_on refused
refused_answers reader next refusal.TooManyInterfaces same goes_on refused =
    final_answers reader next refusal.TooManyInterfaces tt same goes_on refused

-- A capture may not end before further bytes.
pub some_left : (stage : Stage) (bytes : List ℕ) → 0 < length bytes → may_end stage bytes ≡ false
some_left at_start bytes some = refl
some_left (in_records first) [] some = absurd (omega arith)
some_left (in_records first) (byte ∷ bytes) some = refl
some_left (in_section section) [] some = absurd (omega arith)
some_left (in_section section) (byte ∷ bytes) some = refl
some_left (inside section len left) bytes some = refl

-- If no record is read, a reader of records reports that error.
pub refused_record : (reader : CaptureReader) (first : Heading) (e : Refusal) → reader.state ≡ Records first
    → first_row (record_rows first.order (reader_rest reader)) ≡ Some e
    → first_row (item_rows (reader_stage reader) (reader_rest reader)) ≡ Some e
refused_record reader first e records refused =
    ap (λ s. first_row (item_rows (stage_of s reader.interfaces.items) (reader_rest reader))) records ∙ refused

-- If no file header is read, a reader at the start reports that error.
pub refused_heading : (reader : CaptureReader) (e : Refusal) → reader.state ≡ Start
    → begins_section (reader_rest reader) ≡ false → first_row (heading_rows (reader_rest reader)) ≡ Some e
    → (may_end (reader_stage reader) (reader_rest reader) ≡ false)
    × (first_row (item_rows (reader_stage reader) (reader_rest reader)) ≡ Some e)
refused_heading reader e start not_so refused =
    let stage : reader_stage reader ≡ at_start = ap (λ s. stage_of s reader.interfaces.items) start in (
      ap (λ s. may_end s (reader_rest reader)) stage,
      ap (λ s. first_row (item_rows s (reader_rest reader))) stage
          ∙ ap (λ (b : Bool). first_row (start_rows b (reader_rest reader))) not_so ∙ refused,
    )

-- If no block is read, a reader of blocks reports that error.
block_refused : (state : State) (interfaces : List Interface) (order : ByteOrder) (bytes : List ℕ) (e : Refusal)
    → NextIsBlock state interfaces order bytes → first_row (block_rows (section_of order interfaces) bytes) ≡ Some e
    → (may_end (stage_of state interfaces) bytes ≡ false)
    × (first_row (item_rows (stage_of state interfaces) bytes) ≡ Some e)
block_refused Start interfaces order bytes e is_next refused =
    let same : no_section ≡ section_of order interfaces = λ i. section_of (sym is_next.0 i) (sym is_next.1 i) in (
      refl,
      ap (λ (b : Bool). first_row (start_rows b bytes)) is_next.2 ∙ ap (λ s. first_row (block_rows s bytes)) same
          ∙ refused,
    )
block_refused (Records first) interfaces order bytes e is_next refused = absurd is_next
block_refused (Inside before len left) interfaces order bytes e is_next refused = absurd is_next
block_refused (Blocks before) interfaces order bytes e is_next refused = (
  some_left (in_section (section_of before interfaces)) bytes is_next.1,
  ap (λ (b : Bool). first_row (section_rows b (section_of before interfaces) bytes)) is_next.2
      ∙ ap (λ o. first_row (block_rows (section_of o interfaces) bytes)) (sym is_next.0)
      ∙ refused,
)

pub refused_block : (reader : CaptureReader) (order : ByteOrder) (e : Refusal) → ReadsBlocks reader order
    → first_row (block_rows (section_of order reader.interfaces.items) (reader_rest reader)) ≡ Some e
    → (may_end (reader_stage reader) (reader_rest reader) ≡ false)
    × (first_row (item_rows (reader_stage reader) (reader_rest reader)) ≡ Some e)
refused_block reader order e is_next refused =
    block_refused reader.state reader.interfaces.items order (reader_rest reader) e is_next refused

-- If no part is read, a reader of a long block reports that error.
pub refused_part : (reader : CaptureReader) (stage : Stage) (e : Refusal) → reader_stage reader ≡ stage
    → may_end stage (reader_rest reader) ≡ false → first_row (item_rows stage (reader_rest reader)) ≡ Some e
    → Answers reader reader (refused_at (reader_offset reader) e)
refused_part reader stage e at_stage goes_on refused =
    refused_answers reader reader e (record { stage = refl; rest = refl; offset = refl })
    (ap (λ s. may_end s (reader_rest reader)) at_stage ∙ goes_on)
    (ap (λ s. first_row (item_rows s (reader_rest reader))) at_stage ∙ refused)

-- If the start of a long block is rejected, a reader of blocks reports that error.
pub prefix_refused : (section : Section) (bytes : List ℕ) (e : Refusal) → begins_long section.order bytes ≡ true
    → first_row (long_rows section.order bytes) ≡ Some e
    → (may_end (in_section section) bytes ≡ false) × (first_row (item_rows (in_section section) bytes) ≡ Some e)
prefix_refused section bytes e long refused = (
  some_left (in_section section) bytes (omega (arith, (long_facts section.order bytes long).0)),
  ap (λ (b : Bool). first_row (section_rows b section bytes)) long ∙ refused,
)
