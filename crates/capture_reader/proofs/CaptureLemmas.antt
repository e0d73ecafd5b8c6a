-- The items of a capture are read one after the other, in one way only.
use Rattle.std.proofs.Common.{◌≡◌, ℕ, zero, suc, ◌+◌, ◌-◌, ◌%◌, ◌<◌, ◌≤◌, ◌==◌, ◌&&◌, ◌⊎◌, Bool, true, false, not}
use Rattle.std.proofs.Common.{nat_le}
use Rattle.std.proofs.Common.{nat_lt, min, take, drop, length-take-le, take-append-drop}
use Rattle.std.proofs.Common.{if◌then◌else◌, is_some, List, [], ◌∷◌, ◌++◌, Option, Some, None, length, slice_range}
use Rattle.std.proofs.Common.{refl, sym, ap, subst, ◌∙◌, inl, inr}
use Rattle.std.proofs.Common.{append_assoc, length-append, arith}
use Rattle.std.proofs.lemmas.Bool.{and_from, and_parts, cases_Bool, eq-eqb, eqb-true, le-leb, le-ltb, leb-true, lt-ltb}
use Rattle.std.proofs.lemmas.Bool.{ltb-false, ltb-true}
use Rattle.std.proofs.lemmas.Bool.{not-false, not_from_true, true≢false}
use Rattle.std.proofs.Math.Dec.{eqb-suc-zero}
use Rattle.std.proofs.Math.Nat.{le-min}
use Rattle.std.proofs.lemmas.List.{append-nil, drop_at, take_at}
use Rattle.std.proofs.lemmas.Option.{none-some}
use Rattle.ep_base.specs.Bytes.{AreBytes}
use Rattle.ep_base.specs.Tables.{IsDecided, first_row}
use Rattle.ep_base.proofs.BytesLemmas.{AreBytes-back}
use Rattle.ep_base.proofs.TableLemmas.{IsReadBy, one_value}
use Rattle.capture_reader.specs.Blocks.{IsBlock, PlainBlock, block_in, block_of, block_rows, kind_in, kind_of}
use Rattle.capture_reader.specs.Blocks.{Section, is_other, most_block, no_section, order_in}
use Rattle.capture_reader.specs.Captures.{Item, heading, packet, block, part, long_header, stretch}
use Rattle.capture_reader.specs.Captures.{trailing_len, Stage, at_start}
use Rattle.capture_reader.specs.Captures.{in_records}
use Rattle.capture_reader.specs.Captures.{in_section, inside, FitsLongHeader, begins_long, inside_rows, most_stretch}
use Rattle.capture_reader.specs.Captures.{section_rows}
use Rattle.capture_reader.specs.Captures.{AreItems, BeginsSection, Fits, IsCapture, RefusesCapture, begins_section}
use Rattle.capture_reader.specs.Captures.{item_bytes, item_rows, items_bytes, may_end, stage_after, stage_after_items}
use Rattle.capture_reader.specs.Classic.{heading_rows, style_in, style_of}
use Rattle.capture_reader.specs.Numbers.{word32, word32_at}
use Rattle.capture_reader.specs.declared.block.BlockKind.{BlockKind}
use Rattle.capture_reader.specs.declared.block.BlockKind.TheVariants.{SectionHeader, InterfaceDescription, SimplePacket}
use Rattle.capture_reader.specs.declared.block.BlockKind.TheVariants.{EnhancedPacket, ObsoletePacket, Other}
use Rattle.capture_reader.specs.declared.byte_order.ByteOrder.{ByteOrder}
use Rattle.capture_reader.specs.declared.byte_order.ByteOrder.TheVariants.{Big}
use Rattle.capture_reader.specs.declared.interface.Interface.{Interface}
use Rattle.capture_reader.specs.declared.refusal.CaptureError.{CaptureError}
use Rattle.capture_reader.specs.declared.refusal.Refusal.{Refusal}
use Rattle.capture_reader.specs.declared.refusal.Refusal.TheVariants as refusal
use Rattle.capture_reader.proofs.BlockLemmas.{block_is_read_by, block_not_long, block_read, block_some, number_of_block}
use Rattle.capture_reader.proofs.BlockLemmas.{section_block}
use Rattle.capture_reader.proofs.BodyLemmas.{row_none, row_pass}
use Rattle.capture_reader.proofs.ClassicLemmas.{heading_is_read_by, heading_read, record_is_read_by, record_read}
use Rattle.capture_reader.proofs.NumberLemmas.{length-word32, word32_at-fits, word32_prefix, word32_read}

-- ---- one item

-- The bytes begin with this item, and these bytes follow it.
pub record IsStep (stage : Stage) (bytes : List ℕ) (step : Item × List ℕ) : Type 0 where
  pub fits : Fits stage step.0
  pub parts : bytes ≡ item_bytes stage step.0 ++ step.1

-- the refusal table of the first item, for a section header or a file header
abbrev pub start_rows : Bool → List ℕ → List (Bool × Refusal)
start_rows begins bytes = if begins then block_rows no_section bytes else heading_rows bytes

-- the first item as it is read, and the bytes after it
abbrev start_read : Bool → List ℕ → Item × List ℕ
start_read true bytes = (block (block_read no_section bytes).0, (block_read no_section bytes).1)
start_read false bytes = (heading (heading_read bytes).0, (heading_read bytes).1)

-- an item of a section as it is read, a long block or not, and the bytes after it
abbrev section_read : Bool → Section → List ℕ → Item × List ℕ
section_read true section bytes =
    (part (long_header (word32_at section.order bytes 0) (word32_at section.order bytes 4)), drop 8 bytes)
section_read false section bytes = (block (block_read section bytes).0, (block_read section bytes).1)

-- a part of a long block as it is read, its trailing length field or a stretch of its body, and the bytes after it
abbrev inside_read : Bool → ℕ → List ℕ → Item × List ℕ
inside_read true left bytes = (part trailing_len, drop 4 bytes)
inside_read false left bytes =
    (part (stretch (take (min left most_stretch) bytes)), drop (min left most_stretch) bytes)

-- the item that is read at a stage, and the bytes after it
abbrev pub step_read : Stage → List ℕ → Item × List ℕ
step_read at_start bytes = start_read (begins_section bytes) bytes
step_read (in_records first) bytes = (packet (record_read first.order bytes).0, (record_read first.order bytes).1)
step_read (in_section section) bytes = section_read (begins_long section.order bytes) section bytes
step_read (inside section len left) bytes = inside_read (left == 0) left bytes

-- A block with the type of a section header begins a section.
begins_with : (interfaces : List Interface) (order : ByteOrder) (kind : BlockKind) (number : ℕ) (body : List ℕ)
    → kind ≡ SectionHeader → BeginsSection (block_of interfaces order kind number body)
begins_with interfaces order kind number body is =
    subst (λ k. BeginsSection (block_of interfaces order k number body)) (sym is) tt

pub begins_header : (bytes : List ℕ) → begins_section bytes ≡ true → BeginsSection (block_in no_section bytes)
begins_header bytes begins =
    let is : word32_at Big bytes 0 ≡ 0x0a0d0d0a =
    eqb-true (word32_at Big bytes 0) 0x0a0d0d0a
    (and_parts (nat_le 4 (length bytes)) (word32_at Big bytes 0 == 0x0a0d0d0a) begins).1 in
    begins_with [] (order_in Big bytes) (kind_in Big bytes) (word32_at Big bytes 0)
    (slice_range bytes 8 (word32_at (order_in Big bytes) bytes 4 - 4)) (ap kind_of is)

-- The bytes of a section header begin with its type.
header_begins : (bytes : List ℕ) (one : PlainBlock) (rest : List ℕ) → BeginsSection one
    → IsBlock no_section bytes (one, rest) → begins_section bytes ≡ true
header_begins bytes one rest begins is =
    let found = number_of_block no_section one bytes rest is in
    let number : word32_at Big bytes 0 ≡ 0x0a0d0d0a = found.0 ∙ section_block one begins in
    and_from (nat_le 4 (length bytes)) (word32_at Big bytes 0 == 0x0a0d0d0a)
    (le-leb 4 (length bytes) (omega (arith, found.1)))
    (eq-eqb (word32_at Big bytes 0) 0x0a0d0d0a number)

-- Bytes with a valid file header do not begin a section.
no_heading : (bytes : List ℕ) → first_row (heading_rows bytes) ≡ None → begins_section bytes ≡ false
no_heading bytes none =
    elim (cases_Bool (begins_section bytes)) [
      | inr not_so ↦ not_so
      | inl begins ↦
          let is : word32_at Big bytes 0 ≡ 0x0a0d0d0a =
          eqb-true (word32_at Big bytes 0) 0x0a0d0d0a
          (and_parts (nat_le 4 (length bytes)) (word32_at Big bytes 0 == 0x0a0d0d0a) begins).1 in
          let few = row_none (nat_lt (length bytes) 4) _ _ none in
          let known = row_none (not (is_some (style_in bytes))) _ _ few.1 in
          let unknown : not (is_some (style_in bytes)) ≡ true = ap (λ (n : ℕ). not (is_some (style_of n))) is in
          absurd (true≢false (sym unknown ∙ known.0))
    ]

start_reads : (begins : Bool) (bytes : List ℕ) → AreBytes bytes → begins_section bytes ≡ begins
    → first_row (start_rows begins bytes) ≡ None → IsStep at_start bytes (start_read begins bytes)
start_reads true bytes fits begins none =
    let is = (block_is_read_by no_section).reads bytes fits none in
    record { fits = (begins_header bytes begins, is.fits); parts = is.parts }
start_reads false bytes fits begins none =
    let is = heading_is_read_by.reads bytes fits none in record { fits = is.fits; parts = is.parts }

other_is : (kind : BlockKind) → is_other kind ≡ true → kind ≡ Other
other_is SectionHeader is = absurd (true≢false (sym is))
other_is InterfaceDescription is = absurd (true≢false (sym is))
other_is SimplePacket is = absurd (true≢false (sym is))
other_is EnhancedPacket is = absurd (true≢false (sym is))
other_is ObsoletePacket is = absurd (true≢false (sym is))
other_is Other is = refl

-- A long block has at least 8 bytes, a skipped kind, and more than 320 KiB.
pub long_facts : (order : ByteOrder) (bytes : List ℕ) → begins_long order bytes ≡ true
    → (8 ≤ length bytes) × (kind_in order bytes ≡ Other) × (most_block < word32_at order bytes 4)
long_facts order bytes long =
    let all = and_parts (nat_le 8 (length bytes))
    (is_other (kind_in order bytes) && nat_lt most_block (word32_at order bytes 4)) long in
    let both = and_parts (is_other (kind_in order bytes)) (nat_lt most_block (word32_at order bytes 4)) all.1 in (
      leb-true 8 (length bytes) all.0,
      other_is (kind_in order bytes) both.0,
      ltb-true most_block (word32_at order bytes 4) both.1,
    )

pub long_header_fits : (order : ByteOrder) (bytes : List ℕ) → AreBytes bytes → begins_long order bytes ≡ true
    → word32_at order bytes 4 % 4 ≡ 0
    → FitsLongHeader (word32_at order bytes 0) (word32_at order bytes 4)
    × (bytes ≡ (word32 order (word32_at order bytes 0) ++ word32 order (word32_at order bytes 4)) ++ drop 8 bytes)
long_header_fits order bytes fits long aligned =
    let facts = long_facts order bytes long in
    let number = word32 order (word32_at order bytes 0) in
    let len = word32 order (word32_at order bytes 4) in
    let second : drop 4 bytes ≡ len ++ drop 8 bytes = word32_prefix order bytes 4 fits facts.0 in (
      record {
        numbered = word32_at-fits order bytes 0 fits;
        kind = facts.1;
        long = facts.2;
        within = word32_at-fits order bytes 4 fits;
        aligned = aligned;
      },
      word32_prefix order bytes 0 fits (omega (arith, facts.0)) ∙ ap (λ (s : List ℕ). number ++ s) second
          ∙ sym (append_assoc number len (drop 8 bytes)),
    )

section_reads : (long : Bool) (section : Section) (bytes : List ℕ) → AreBytes bytes
    → begins_long section.order bytes ≡ long → first_row (section_rows long section bytes) ≡ None
    → IsStep (in_section section) bytes (section_read long section bytes)
section_reads true section bytes fits long none =
    let len = word32_at section.order bytes 4 in
    let row = row_none (not (len % 4 == 0)) (refusal.BlockLength len) None none in
    let is = long_header_fits section.order bytes fits long (eqb-true (len % 4) 0 (not-false (len % 4 == 0) row.0)) in
    record { fits = is.0; parts = is.1 }
section_reads false section bytes fits long none =
    let is = (block_is_read_by section).reads bytes fits none in record { fits = is.fits; parts = is.parts }

some_of : (n : ℕ) → (n == 0) ≡ false → 0 < n
some_of zero is = absurd (true≢false is)
some_of (suc n) is = omega arith

pub none_of_some : (n : ℕ) → 0 < n → (n == 0) ≡ false
none_of_some zero some = absurd (omega arith)
none_of_some (suc n) some = eqb-suc-zero n

inside_reads : (done : Bool) (section : Section) (len left : ℕ) (bytes : List ℕ) → AreBytes bytes
    → (left == 0) ≡ done → first_row (inside_rows done section.order len left bytes) ≡ None
    → IsStep (inside section len left) bytes (inside_read done left bytes)
inside_reads true section len left bytes fits is none =
    let order = section.order in
    let n = length bytes in
    let stated = word32_at order bytes 0 in
    let few = row_none (nat_lt n 4) (refusal.Cut 4 n) _ none in
    let other = row_none (not (stated == len)) (refusal.TrailingLength len stated) None few.1 in
    let same : stated ≡ len = eqb-true stated len (not-false (stated == len) other.0) in
    record {
      fits = (eqb-true left 0 is, omega (arith, same, word32_at-fits order bytes 0 fits));
      parts = word32_prefix order bytes 0 fits (ltb-false n 4 few.0)
          ∙ ap (λ (k : ℕ). word32 order k ++ drop 4 bytes) same;
    }
inside_reads false section len left bytes fits is none =
    let k = min left most_stretch in
    let few = row_none (nat_lt (length bytes) k) (refusal.Cut k (length bytes)) None none in
    record {
      fits = (some_of left is, length-take-le k bytes (ltb-false (length bytes) k few.0));
      parts = sym (take-append-drop k bytes);
    }

step_reads : (stage : Stage) (bytes : List ℕ) → AreBytes bytes → first_row (item_rows stage bytes) ≡ None
    → IsStep stage bytes (step_read stage bytes)
step_reads at_start bytes fits none = start_reads (begins_section bytes) bytes fits refl none
step_reads (in_records first) bytes fits none =
    let is = (record_is_read_by first.order).reads bytes fits none in record { fits = is.fits; parts = is.parts }
step_reads (in_section section) bytes fits none =
    section_reads (begins_long section.order bytes) section bytes fits refl none
step_reads (inside section len left) bytes fits none = inside_reads (left == 0) section len left bytes fits refl none

not_begins_long : (section : Section) (bytes : List ℕ) (one : PlainBlock) (rest : List ℕ)
    → IsBlock section bytes (one, rest) → begins_long section.order bytes ≡ false
not_begins_long section bytes one rest is =
    let present = le-leb 8 (length bytes) (omega (arith, (number_of_block section one bytes rest is).1)) in
    let short = block_not_long section one bytes rest is in
    λ i. present i && short i

step_is_read : (stage : Stage) (bytes : List ℕ) (step : Item × List ℕ) → IsStep stage bytes step
    → (first_row (item_rows stage bytes) ≡ None) × (step ≡ step_read stage bytes)
step_is_read at_start bytes (heading first, rest) is =
    let read = heading_is_read_by.is_read bytes (first, rest) (record { fits = is.fits; parts = is.parts }) in
    let begins = no_heading bytes read.0 in
    let step : Item × List ℕ = (heading first, rest) in
    let same : step ≡ start_read false bytes = λ i. (heading (read.1 i).0, (read.1 i).1) in (
      ap (λ (b : Bool). first_row (start_rows b bytes)) begins ∙ read.0,
      same ∙ ap (λ (b : Bool). start_read b bytes) (sym begins),
    )
step_is_read at_start bytes (packet one, rest) is = absurd is.fits
step_is_read at_start bytes (block one, rest) is =
    let is_block : IsBlock no_section bytes (one, rest) = record { fits = is.fits.1; parts = is.parts } in
    let read = (block_is_read_by no_section).is_read bytes (one, rest) is_block in
    let begins = header_begins bytes one rest is.fits.0 is_block in
    let step : Item × List ℕ = (block one, rest) in
    let same : step ≡ start_read true bytes = λ i. (block (read.1 i).0, (read.1 i).1) in (
      ap (λ (b : Bool). first_row (start_rows b bytes)) begins ∙ read.0,
      same ∙ ap (λ (b : Bool). start_read b bytes) (sym begins),
    )
step_is_read at_start bytes (part one, rest) is = absurd is.fits
step_is_read (in_records first) bytes (part one, rest) is = absurd is.fits
step_is_read (in_records first) bytes (heading other, rest) is = absurd is.fits
step_is_read (in_records first) bytes (packet one, rest) is =
    let read =
    (record_is_read_by first.order).is_read bytes (one, rest) (record { fits = is.fits; parts = is.parts }) in
    (read.0, λ i. (packet (read.1 i).0, (read.1 i).1))
step_is_read (in_records first) bytes (block one, rest) is = absurd is.fits
step_is_read (in_section section) bytes (heading other, rest) is = absurd is.fits
step_is_read (in_section section) bytes (packet one, rest) is = absurd is.fits
step_is_read (in_section section) bytes (block one, rest) is =
    let is_block : IsBlock section bytes (one, rest) = record { fits = is.fits; parts = is.parts } in
    let read = (block_is_read_by section).is_read bytes (one, rest) is_block in
    let not_long = not_begins_long section bytes one rest is_block in
    let step : Item × List ℕ = (block one, rest) in
    let same : step ≡ section_read false section bytes = λ i. (block (read.1 i).0, (read.1 i).1) in (
      ap (λ (b : Bool). first_row (section_rows b section bytes)) not_long ∙ read.0,
      same ∙ ap (λ (b : Bool). section_read b section bytes) (sym not_long),
    )
step_is_read (in_section section) bytes (part (long_header number len), rest) is =
    let order = section.order in
    let parts = is.parts ∙ append_assoc (word32 order number) (word32 order len) rest in
    let first = word32_read order number 0 bytes (word32 order len ++ rest) is.fits.numbered parts in
    let second = word32_read order len 4 bytes rest is.fits.within first.1 in
    let size : 8 ≤ length bytes =
    omega (
      arith,
      ap length parts,
      length-append (word32 order number) (word32 order len ++ rest),
      length-append (word32 order len) rest,
      length-word32 order number,
      length-word32 order len,
    ) in
    let kind : kind_in order bytes ≡ Other = ap kind_of first.0 ∙ is.fits.kind in
    let present = le-leb 8 (length bytes) size in
    let more = lt-ltb most_block (word32_at order bytes 4) (omega (arith, second.0, is.fits.long)) in
    let long : begins_long order bytes ≡ true = λ i. present i && (is_other (kind i) && more i) in
    let stated = word32_at order bytes 4 in
    let aligned : stated % 4 ≡ 0 = ap (λ (n : ℕ). n % 4) second.0 ∙ is.fits.aligned in
    let none : first_row (section_rows true section bytes) ≡ None =
    row_pass (not (stated % 4 == 0)) (refusal.BlockLength stated) None
    (not_from_true (stated % 4 == 0) (eq-eqb (stated % 4) 0 aligned)) in
    let step : Item × List ℕ = (part (long_header number len), rest) in
    let same : step ≡ section_read true section bytes =
    λ i. (part (long_header (sym first.0 i) (sym second.0 i)), sym second.1 i) in (
      ap (λ (b : Bool). first_row (section_rows b section bytes)) long ∙ none,
      same ∙ ap (λ (b : Bool). section_read b section bytes) (sym long),
    )
step_is_read (in_section section) bytes (part (stretch some), rest) is = absurd is.fits
step_is_read (in_section section) bytes (part trailing_len, rest) is = absurd is.fits
step_is_read (inside section len left) bytes (heading other, rest) is = absurd is.fits
step_is_read (inside section len left) bytes (packet one, rest) is = absurd is.fits
step_is_read (inside section len left) bytes (block one, rest) is = absurd is.fits
step_is_read (inside section len left) bytes (part (long_header number other), rest) is = absurd is.fits
step_is_read (inside section len left) bytes (part (stretch some), rest) is =
    let k = min left most_stretch in
    let n = length bytes in
    let more = none_of_some left is.fits.0 in
    let size : k ≤ n = omega (arith, ap length is.parts, length-append some rest, is.fits.1) in
    let none : first_row (inside_rows false section.order len left bytes) ≡ None =
    row_pass (nat_lt n k) (refusal.Cut k n) None (le-ltb n k size) in
    let first : take k bytes ≡ some = ap (take k) is.parts ∙ take_at some rest k (omega (arith, is.fits.1)) in
    let after : drop k bytes ≡ rest = ap (drop k) is.parts ∙ drop_at some rest k is.fits.1 in
    let step : Item × List ℕ = (part (stretch some), rest) in
    let same : step ≡ inside_read false left bytes = λ i. (part (stretch (sym first i)), sym after i) in (
      ap (λ (b : Bool). first_row (inside_rows b section.order len left bytes)) more ∙ none,
      same ∙ ap (λ (b : Bool). inside_read b left bytes) (sym more),
    )
step_is_read (inside section len left) bytes (part trailing_len, rest) is =
    let order = section.order in
    let n = length bytes in
    let done = eq-eqb left 0 is.fits.0 in
    let read = word32_read order len 0 bytes rest is.fits.1 is.parts in
    let size : 4 ≤ n =
    omega (arith, ap length is.parts, length-append (word32 order len) rest, length-word32 order len) in
    let stated = word32_at order bytes 0 in
    let none : first_row (inside_rows true order len left bytes) ≡ None =
    row_pass (nat_lt n 4) (refusal.Cut 4 n) _ (le-ltb n 4 size)
    ∙ row_pass (not (stated == len)) (refusal.TrailingLength len stated) None
    (not_from_true (stated == len) (eq-eqb stated len read.0)) in
    let step : Item × List ℕ = (part trailing_len, rest) in
    let same : step ≡ inside_read true left bytes = λ i. (part trailing_len, sym read.1 i) in (
      ap (λ (b : Bool). first_row (inside_rows b order len left bytes)) done ∙ none,
      same ∙ ap (λ (b : Bool). inside_read b left bytes) (sym done),
    )

-- Bytes either begin with exactly one item or are rejected with one error.
pub step_is_read_by : (stage : Stage) → IsReadBy (IsStep stage) (item_rows stage) (step_read stage)
step_is_read_by stage = record { reads = step_reads stage; is_read = step_is_read stage }

-- An item has at least one byte.
pub item_some : (stage : Stage) (item : Item) → Fits stage item → 0 < length (item_bytes stage item)
item_some at_start (heading first) fits = grind (arith, length-append, length-word32)
item_some at_start (packet one) fits = absurd fits
item_some (in_records first) (heading other) fits = absurd fits
item_some at_start (block one) fits = block_some Big one
item_some (in_records first) (packet one) fits = grind (arith, length-append, length-word32)
item_some (in_records first) (block one) fits = absurd fits
item_some (in_section section) (heading other) fits = absurd fits
item_some (in_section section) (packet one) fits = absurd fits
item_some (in_section section) (block one) fits = block_some section.order one
item_some at_start (part one) fits = absurd fits
item_some (in_records first) (part one) fits = absurd fits
item_some (in_section section) (part (long_header number len)) fits = grind (arith, length-append, length-word32)
item_some (in_section section) (part (stretch bytes)) fits = absurd fits
item_some (in_section section) (part trailing_len) fits = absurd fits
item_some (inside section len left) (heading other) fits = absurd fits
item_some (inside section len left) (packet one) fits = absurd fits
item_some (inside section len left) (block one) fits = absurd fits
item_some (inside section len left) (part (long_header number other)) fits = absurd fits
item_some (inside section len left) (part (stretch bytes)) fits =
    let k = min left most_stretch in
    let some : 1 ≤ k = le-min (omega (arith, fits.0)) (omega arith) in
    omega (arith, some, fits.1)
item_some (inside section len left) (part trailing_len) fits = omega (arith, length-word32 section.order len)

-- ---- sequences of items

-- Reading ends here: either the capture may end, or the next item is rejected with this error.
abbrev Stops : Stage → List ℕ → Option Refusal → Type 0
Stops stage rest None = may_end stage rest ≡ true
Stops stage rest (Some refusal) =
    (may_end stage rest ≡ false) × (first_row (item_rows stage rest) ≡ Some refusal)

-- The bytes are these items, and then reading ends.
record Runs (stage : Stage) (bytes : List ℕ) (items : List Item) (ending : Option Refusal) : Type 0 where
  fits : AreItems stage items
  rest : List ℕ
  parts : bytes ≡ items_bytes stage items ++ rest
  stops : Stops (stage_after_items stage items) rest ending

-- The bytes begin with the first item, and the other items follow it.
first_step : (stage : Stage) (bytes : List ℕ) (item : Item) (items : List Item) (ending : Option Refusal)
    → (run : Runs stage bytes (item ∷ items) ending)
    → IsStep stage bytes (item, items_bytes (stage_after stage item) items ++ run.rest)
first_step stage bytes item items ending run = record {
  fits = run.fits.0;
  parts = run.parts
      ∙ append_assoc (item_bytes stage item) (items_bytes (stage_after stage item) items) run.rest;
}

other_steps : (stage : Stage) (bytes : List ℕ) (item : Item) (items : List Item) (ending : Option Refusal)
    → (run : Runs stage bytes (item ∷ items) ending)
    → Runs (stage_after stage item) (items_bytes (stage_after stage item) items ++ run.rest) items ending
other_steps stage bytes item items ending run =
    record { fits = run.fits.1; rest = run.rest; parts = refl; stops = run.stops }

-- A capture ends only if no bytes are left.
pub ended_empty : (stage : Stage) (bytes : List ℕ) → may_end stage bytes ≡ true → bytes ≡ []
ended_empty at_start bytes ended = absurd (cc)
ended_empty (in_records first) [] ended = refl
ended_empty (in_records first) (byte ∷ bytes) ended = absurd (cc)
ended_empty (in_section section) [] ended = refl
ended_empty (in_section section) (byte ∷ bytes) ended = absurd (cc)
ended_empty (inside section len left) bytes ended = absurd (cc)

-- Reading does not end before a valid item.
stops_not : (stage : Stage) (bytes : List ℕ) (ending : Option Refusal) (step : Item × List ℕ)
    → Stops stage bytes ending → IsStep stage bytes step → ⊥
stops_not stage bytes None step stops is =
    let none = ended_empty stage bytes stops in
    omega (
      arith,
      ap length (sym none ∙ is.parts),
      length-append (item_bytes stage step.0) step.1,
      item_some stage step.0 is.fits,
    )
stops_not stage bytes (Some refusal) step stops is =
    none-some refusal (sym ((step_is_read_by stage).is_read bytes step is).0 ∙ stops.1)

one_stop : (stage : Stage) (bytes : List ℕ) (a b : Option Refusal) → Stops stage bytes a → Stops stage bytes b → a ≡ b
one_stop stage bytes None None a b = refl
one_stop stage bytes None (Some f) a b = absurd (cc)
one_stop stage bytes (Some e) None a b = absurd (cc)
one_stop stage bytes (Some e) (Some f) a b = sym a.1 ∙ b.1

-- Bytes are a sequence of items in at most one way.
one_run : (items others : List Item) (stage : Stage) (bytes : List ℕ) (e f : Option Refusal)
    → Runs stage bytes items e → Runs stage bytes others f → (items ≡ others) × (e ≡ f)
one_run [] [] stage bytes e f a b = (
  refl,
  one_stop stage bytes e f (subst (λ s. Stops stage s e) (sym a.parts) a.stops)
      (subst (λ s. Stops stage s f) (sym b.parts) b.stops),
)
one_run [] (other ∷ others) stage bytes e f a b =
    absurd (stops_not stage bytes e _ (subst (λ s. Stops stage s e) (sym a.parts) a.stops)
    (first_step stage bytes other others f b))
one_run (item ∷ items) [] stage bytes e f a b =
    absurd (stops_not stage bytes f _ (subst (λ s. Stops stage s f) (sym b.parts) b.stops)
    (first_step stage bytes item items e a))
one_run (item ∷ items) (other ∷ others) stage bytes e f a b =
    let same = one_value (step_is_read_by stage) bytes _ _ (first_step stage bytes other others f b)
    (first_step stage bytes item items e a) in
    let After : Item × List ℕ → Type 0 = λ step. Runs (stage_after stage step.0) step.1 others f in
    let next = one_run items others (stage_after stage item) _ e f (other_steps stage bytes item items e a)
    (subst After same (other_steps stage bytes other others f b)) in
    ((λ i. (sym same i).0 ∷ next.0 i), next.1)

-- A refusal table reports an error or none.
refused_or_not : (answer : Option Refusal) → (answer ≡ None) ⊎ ((refusal : Refusal) × (answer ≡ Some refusal))
refused_or_not None = inl refl
refused_or_not (Some refusal) = inr (refusal, refl)

-- A capture may end here or not.
ends_or_not : (answer : Bool) → (answer ≡ true) ⊎ (answer ≡ false)
ends_or_not true = inl refl
ends_or_not false = inr refl

-- a sequence of items that the bytes are, and how it ends
abbrev SomeRun : Stage → List ℕ → Type 0
SomeRun stage bytes = (items : List Item) × (ending : Option Refusal) × Runs stage bytes items ending

-- An item before a sequence of items is a longer sequence.
further : (stage : Stage) (bytes : List ℕ) (step : Item × List ℕ) → IsStep stage bytes step
    → SomeRun (stage_after stage step.0) step.1 → SomeRun stage bytes
further stage bytes step is run = (
  step.0 ∷ run.0,
  run.1,
  record {
    fits = (is.fits, run.2.fits);
    rest = run.2.rest;
    parts = is.parts ∙ ap (λ (s : List ℕ). item_bytes stage step.0 ++ s) run.2.parts
        ∙ sym (append_assoc (item_bytes stage step.0) (items_bytes (stage_after stage step.0) run.0) run.2.rest);
    stops = run.2.stops;
  },
)

-- All bytes are a sequence of items that ends.
some_run : (fuel : ℕ) (stage : Stage) (bytes : List ℕ) → AreBytes bytes → length bytes < fuel → SomeRun stage bytes
some_run zero stage bytes fits within = absurd (omega arith)
some_run (suc fuel) stage bytes fits within =
    elim (ends_or_not (may_end stage bytes)) [
      | inl ended ↦ ([], None, record { fits = tt; rest = bytes; parts = refl; stops = ended })
      | inr goes_on ↦ elim (refused_or_not (first_row (item_rows stage bytes))) [
        | inr refused ↦
            ([], Some refused.0, record { fits = tt; rest = bytes; parts = refl; stops = (goes_on, refused.1) })
        | inl none ↦
            let is = (step_is_read_by stage).reads bytes fits none in
            let step = step_read stage bytes in
            let first = item_bytes stage step.0 in
            further stage bytes step is
            (some_run fuel (stage_after stage step.0) step.1
            (AreBytes-back first step.1 (subst AreBytes is.parts fits))
            (omega (arith, ap length is.parts, length-append first step.1, item_some stage step.0 is.fits)))
      ]
    ]

-- ---- captures

is_capture : (bytes : List ℕ) (items : List Item) → Runs at_start bytes items None → IsCapture bytes items
is_capture bytes items run =
    let stage = stage_after_items at_start items in
    let none = ended_empty stage run.rest run.stops in
    record {
      fits = run.fits;
      parts = run.parts ∙ ap (λ (s : List ℕ). items_bytes at_start items ++ s) none
          ∙ append-nil (items_bytes at_start items);
      ended = subst (λ (s : List ℕ). may_end stage s ≡ true) none run.stops;
    }

capture_runs : (bytes : List ℕ) (items : List Item) → IsCapture bytes items → Runs at_start bytes items None
capture_runs bytes items is = record {
  fits = is.fits;
  rest = [];
  parts = is.parts ∙ sym (append-nil (items_bytes at_start items));
  stops = is.ended;
}

refused_runs : (bytes : List ℕ) (found : List Item × CaptureError) → RefusesCapture bytes found
    → Runs at_start bytes found.0 (Some found.1.refusal)
refused_runs bytes found is =
    record { fits = is.fits; rest = is.rest; parts = is.parts; stops = (is.goes_on, is.refused) }

decide : (bytes : List ℕ) → SomeRun at_start bytes
    → ((items : List Item) × IsCapture bytes items)
    ⊎ ((found : List Item × CaptureError) × RefusesCapture bytes found)
decide bytes (items, None, run) = inl (items, is_capture bytes items run)
decide bytes (items, Some refusal, run) = inr (
  (items, record { offset = length (items_bytes at_start items); refusal = refusal }),
  record {
    fits = run.fits;
    rest = run.rest;
    parts = run.parts;
    goes_on = run.stops.0;
    offset = refl;
    refused = run.stops.1;
  },
)

pub same_some : (a b : Refusal) → Some a ≡ Some b → a ≡ b
same_some a b same = cc

one_refusal : (bytes : List ℕ) (found other : List Item × CaptureError) → RefusesCapture bytes found
    → RefusesCapture bytes other → found ≡ other
one_refusal bytes found other a b =
    let same = one_run found.0 other.0 at_start bytes _ _ (refused_runs bytes found a) (refused_runs bytes other b) in
    let refusal = same_some found.1.refusal other.1.refusal same.1 in
    let offset = a.offset ∙ ap (λ items. length (items_bytes at_start items)) same.0 ∙ sym b.offset in
    λ i. (same.0 i, record { offset = offset i; refusal = refusal i })

not_both : (bytes : List ℕ) (items : List Item) (found : List Item × CaptureError) → IsCapture bytes items
    → RefusesCapture bytes found → ⊥
not_both bytes items found a b =
    none-some found.1.refusal
    (one_run items found.0 at_start bytes _ _ (capture_runs bytes items a) (refused_runs bytes found b)).1

-- Bytes either are a capture in exactly one way, or are rejected with exactly one error.
pub capture_decided : (bytes : List ℕ) → AreBytes bytes → IsDecided (IsCapture bytes) (RefusesCapture bytes)
capture_decided bytes fits = record {
  some = decide bytes (some_run (length bytes + 1) at_start bytes fits (omega arith));
  one_value = λ items others a b.
      (one_run items others at_start bytes None None (capture_runs bytes items a) (capture_runs bytes others b)).0;
  one_error = one_refusal bytes;
  not_both = not_both bytes;
}
