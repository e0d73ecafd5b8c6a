-- The wire bytes of file headers and records, and the values read from them.
use Rattle.std.proofs.Common.{◌≡◌, ℕ, ◌+◌, ◌-◌, ◌^◌, ◌<◌, ◌≤◌, List, [], ◌∷◌, ◌++◌, Option, Some, None}
use Rattle.std.proofs.Common.{◌==◌, ◌&&◌, Bool, not, nat_lt, is_some}
use Rattle.std.proofs.Common.{length, take, drop, get_or, slice_range, refl, sym, ap, ◌∙◌}
use Rattle.std.proofs.Common.{append_assoc, length-append, length-drop, length-take-le, take-append-drop, arith}
use Rattle.std.proofs.lemmas.Grind.{common_steps}
use Rattle.std.proofs.lemmas.Bool.Decides.{nat_tests}
use Rattle.std.proofs.lemmas.List.{take_at, drop_at, drop-drop}
use Rattle.ep_base.specs.Bytes.{AreBytes}
use Rattle.ep_base.specs.Tables.{first_row}
use Rattle.ep_base.proofs.TableLemmas.{IsReadBy}
use Rattle.capture_reader.specs.declared.byte_order.ByteOrder.{ByteOrder}
use Rattle.capture_reader.specs.declared.byte_order.ByteOrder.TheVariants.{Big, Little}
use Rattle.capture_reader.specs.declared.heading.Heading.{Heading}
use Rattle.capture_reader.specs.declared.heading.Resolution.{Resolution}
use Rattle.capture_reader.specs.declared.heading.Resolution.TheVariants.{Micros, Nanos}
use Rattle.capture_reader.specs.declared.refusal.Refusal.{Refusal}
use Rattle.capture_reader.specs.declared.refusal.Refusal.TheVariants as refusal
use Rattle.capture_reader.specs.Numbers.{word16, word32, word16_at, word32_at}
use Rattle.capture_reader.specs.Classic.{PlainPacket, IsRecord, most_kept, record_bytes, record_of, record_rows}
use Rattle.capture_reader.specs.Classic.{IsHeading, heading_bytes, heading_of, heading_rows}
use Rattle.capture_reader.specs.Classic.{magic_of, style_in, style_of, style_order, style_resolution}
use Rattle.capture_reader.proofs.NumberLemmas.{length-words_then, word16_prefix, word16_read, word32_at-fits}
use Rattle.capture_reader.proofs.NumberLemmas.{length-word32, words_prefix, words_read, words_then}

-- ---- records

-- the record that is read, and the bytes after it
abbrev pub record_read : ByteOrder → List ℕ → PlainPacket × List ℕ
record_read order bytes = (record_of order bytes, drop (16 + word32_at order bytes 8) bytes)

-- the numbers of a record header
abbrev record_words : PlainPacket → List ℕ
record_words packet = packet.seconds ∷ packet.fraction ∷ length packet.bytes ∷ packet.original_len ∷ []

record_parts : (order : ByteOrder) (packet : PlainPacket) (rest : List ℕ)
    → record_bytes order packet ++ rest ≡ words_then order (record_words packet) (packet.bytes ++ rest)
record_parts order packet rest = simp append_assoc

-- The n bytes after a record header, and the bytes after these, are all bytes after the header.
pub range_split : (bytes : List ℕ) (n : ℕ) → 16 + n ≤ length bytes
    → (length (slice_range bytes 16 (16 + n)) ≡ n)
    × (drop 16 bytes ≡ slice_range bytes 16 (16 + n) ++ drop (16 + n) bytes)
range_split bytes n within =
    let size : 16 + n - 16 ≡ n = omega arith in
    let after : drop (16 + n - 16) (drop 16 bytes) ≡ drop (16 + n) bytes =
    ap (λ (k : ℕ). drop k (drop 16 bytes)) size ∙ drop-drop n 16 bytes in (
      length-take-le (16 + n - 16) (drop 16 bytes) (omega (arith, length-drop 16 bytes)) ∙ size,
      sym (take-append-drop (16 + n - 16) (drop 16 bytes))
          ∙ ap (λ (s : List ℕ). slice_range bytes 16 (16 + n) ++ s) after,
    )

record_prefix : (order : ByteOrder) (bytes : List ℕ) → AreBytes bytes → 16 + word32_at order bytes 8 ≤ length bytes
    → bytes ≡ record_bytes order (record_of order bytes) ++ drop (16 + word32_at order bytes 8) bytes
record_prefix order bytes fits within =
    let kept = word32_at order bytes 8 in
    let packet = record_of order bytes in
    let rest = drop (16 + kept) bytes in
    let split = range_split bytes kept within in
    let Words : ℕ → List ℕ → List ℕ = λ n s.
    words_then order (packet.seconds ∷ packet.fraction ∷ n ∷ packet.original_len ∷ []) s in
    words_prefix order 4 0 bytes fits (omega arith) ∙ ap (Words kept) split.1
    ∙ ap (λ (n : ℕ). Words n (packet.bytes ++ rest)) (sym split.0) ∙ sym (record_parts order packet rest)

record_reads : (order : ByteOrder) (bytes : List ℕ) → AreBytes bytes → first_row (record_rows order bytes) ≡ None
    → IsRecord order bytes (record_read order bytes)
record_reads order bytes fits none =
    let kept = word32_at order bytes 8 in
    let facts : (16 + kept ≤ length bytes) × (kept ≤ most_kept) = grind (arith, common_steps) in
    record {
      fits = record {
        seconds = word32_at-fits order bytes 0 fits;
        fraction = word32_at-fits order bytes 4 fits;
        original_len = word32_at-fits order bytes 12 fits;
        kept = omega (arith, facts.1, (range_split bytes kept facts.0).0);
      };
      parts = record_prefix order bytes fits facts.0;
    }

record_none : (order : ByteOrder) (bytes : List ℕ) → 16 + word32_at order bytes 8 ≤ length bytes
    → word32_at order bytes 8 ≤ most_kept → first_row (record_rows order bytes) ≡ None
record_none order bytes within kept = grind (arith, common_steps)

record_is_read : (order : ByteOrder) (bytes : List ℕ) (value : PlainPacket × List ℕ) → IsRecord order bytes value
    → (first_row (record_rows order bytes) ≡ None) × (value ≡ record_read order bytes)
record_is_read order bytes value is =
    let packet = value.0 in
    let rest = value.1 in
    let fits = is.fits in
    let parts = is.parts ∙ record_parts order packet rest in
    let few : length packet.bytes < 2 ^ 32 = omega (arith, fits.kept) in
    let read = words_read order (record_words packet) 0 bytes (packet.bytes ++ rest)
    (fits.seconds, (fits.fraction, (few, (fits.original_len, tt)))) parts in
    let kept : word32_at order bytes 8 ≡ length packet.bytes = ap (λ (s : List ℕ). get_or s 2 0) read.0 in
    let long : 16 + length (packet.bytes ++ rest) ≡ length bytes =
    omega (arith, ap length parts, length-words_then order (record_words packet) (packet.bytes ++ rest)) in
    let within : 16 + word32_at order bytes 8 ≤ length bytes =
    omega (arith, long, kept, length-append packet.bytes rest) in
    let shown : packet.bytes ≡ slice_range bytes 16 (16 + word32_at order bytes 8) =
    sym (ap (take (16 + word32_at order bytes 8 - 16)) read.1
    ∙ take_at packet.bytes rest (16 + word32_at order bytes 8 - 16) (omega (arith, kept))) in
    let after : rest ≡ drop (16 + word32_at order bytes 8) bytes =
    sym (sym (drop-drop (word32_at order bytes 8) 16 bytes) ∙ ap (drop (word32_at order bytes 8)) read.1
    ∙ drop_at packet.bytes rest (word32_at order bytes 8) (sym kept)) in (
      record_none order bytes within (omega (arith, kept, fits.kept)),
      λ i. (
        record {
          seconds = get_or (sym read.0 i) 0 0;
          fraction = get_or (sym read.0 i) 1 0;
          original_len = get_or (sym read.0 i) 3 0;
          bytes = shown i;
        },
        after i,
      ),
    )

-- The captured length in a record is that of its packet.
pub record_kept : (order : ByteOrder) (bytes : List ℕ) (packet : PlainPacket) (rest : List ℕ)
    → IsRecord order bytes (packet, rest) → word32_at order bytes 8 ≡ length packet.bytes
record_kept order bytes packet rest is =
    let few : length packet.bytes < 2 ^ 32 = omega (arith, is.fits.kept) in
    ap (λ (s : List ℕ). get_or s 2 0)
    (words_read order (record_words packet) 0 bytes (packet.bytes ++ rest)
    (is.fits.seconds, (is.fits.fraction, (few, (is.fits.original_len, tt))))
    (is.parts ∙ record_parts order packet rest)).0

-- Bytes either begin with exactly one record or are rejected with one error.
pub record_is_read_by : (order : ByteOrder) → IsReadBy (IsRecord order) (record_rows order) (record_read order)
record_is_read_by order = record { reads = record_reads order; is_read = record_is_read order }

-- ---- file header

-- A magic number is read back as the byte order and timestamp unit that it was written for.
style_read : (order : ByteOrder) (resolution : Resolution) (rest : List ℕ)
    → style_in (word32 order (magic_of resolution) ++ rest) ≡ Some (order, resolution)
unfolding word32 word32_at
style_read Big Micros rest = refl
style_read Big Nanos rest = refl
style_read Little Micros rest = refl
style_read Little Nanos rest = refl

-- the magic number of a byte order and timestamp unit, read with the highest byte first
abbrev number_of : ByteOrder → Resolution → ℕ
number_of Big Micros = 0xa1b2c3d4
number_of Little Micros = 0xd4c3b2a1
number_of Big Nanos = 0xa1b23c4d
number_of Little Nanos = 0x4d3cb2a1

-- A byte order and timestamp unit are read from one magic number only.
number_of_style : (magic : ℕ) (order : ByteOrder) (resolution : Resolution)
    → style_of magic ≡ Some (order, resolution) → magic ≡ number_of order resolution
number_of_style magic order resolution is = grind (arith, nat_tests)

-- The magic number has the same bytes in either reading.
style_written : (order : ByteOrder) (resolution : Resolution)
    → word32 Big (number_of order resolution) ≡ word32 order (magic_of resolution)
unfolding word32
style_written Big Micros = refl
style_written Little Micros = refl
style_written Big Nanos = refl
style_written Little Nanos = refl

-- the file header that is read, and the bytes after it
abbrev pub heading_read : List ℕ → Heading × List ℕ
heading_read bytes = (heading_of bytes, drop 24 bytes)

-- the numbers after the version
abbrev heading_words : Heading → List ℕ
heading_words heading = heading.zone ∷ heading.accuracy ∷ heading.snap_len ∷ heading.network ∷ []

heading_parts : (heading : Heading) (rest : List ℕ)
    → heading_bytes heading ++ rest
    ≡ word32 heading.order (magic_of heading.resolution) ++ (word16 heading.order 2 ++ (word16 heading.order 4
    ++ words_then heading.order (heading_words heading) rest))
heading_parts heading rest = simp append_assoc

-- the file header that is read with this byte order and timestamp unit
abbrev pub heading_with : Option (ByteOrder × Resolution) → List ℕ → Heading
heading_with style bytes =
    let order = style_order style in
    record {
      order = order;
      resolution = style_resolution style;
      zone = word32_at order bytes 8;
      accuracy = word32_at order bytes 12;
      snap_len = word32_at order bytes 16;
      network = word32_at order bytes 20;
    }

-- the refusal table after the magic number
abbrev rows_with : Option (ByteOrder × Resolution) → List ℕ → List (Bool × Refusal)
rows_with style bytes =
    let order = style_order style in
    let major = word16_at order bytes 4 in
    let minor = word16_at order bytes 6 in
    (nat_lt (length bytes) 4, refusal.Cut 4 (length bytes))
    ∷ (not (is_some style), refusal.UnknownMagic (word32_at Big bytes 0))
    ∷ (nat_lt (length bytes) 24, refusal.Cut 24 (length bytes))
    ∷ (not ((major == 2) && (minor == 4)), refusal.UnsupportedVersion major minor)
    ∷ []

-- Holds if no row of the table rejects the bytes.
pub record Passes (style : ByteOrder × Resolution) (bytes : List ℕ) : Type 0 where
  pub long : 24 ≤ length bytes
  pub major : word16_at style.0 bytes 4 ≡ 2
  pub minor : word16_at style.0 bytes 6 ≡ 4

passes : (style : ByteOrder × Resolution) (bytes : List ℕ) → first_row (rows_with (Some style) bytes) ≡ None
    → Passes style bytes
passes style bytes none =
    let facts : (24 ≤ length bytes) × (word16_at style.0 bytes 4 ≡ 2) × (word16_at style.0 bytes 6 ≡ 4) = grind
    (arith, common_steps, nat_tests) in
    record { long = facts.0; major = facts.1; minor = facts.2 }

none_refuses : (style : ByteOrder × Resolution) (bytes : List ℕ) → Passes style bytes
    → first_row (rows_with (Some style) bytes) ≡ None
none_refuses style bytes passed =
    let long = passed.long in
    rw (passed.major, passed.minor) (grind (arith, common_steps))

-- An unknown magic number is rejected.
no_style : (bytes : List ℕ) → first_row (rows_with None bytes) ≡ None → ⊥
no_style bytes none = grind (arith, common_steps)

heading_prefix : (style : ByteOrder × Resolution) (bytes : List ℕ) → AreBytes bytes → style_in bytes ≡ Some style
    → Passes style bytes → bytes ≡ heading_bytes (heading_with (Some style) bytes) ++ drop 24 bytes
heading_prefix style bytes fits is passed =
    let order = style.0 in
    let heading = heading_with (Some style) bytes in
    let long = passed.long in
    let magic : word32 Big (word32_at Big bytes 0) ≡ word32 order (magic_of style.1) =
    ap (word32 Big) (number_of_style (word32_at Big bytes 0) order style.1 is) ∙ style_written order style.1 in
    let major : drop 4 bytes ≡ word16 order 2 ++ drop 6 bytes =
    word16_prefix order bytes 4 fits (omega arith) ∙ ap (λ (n : ℕ). word16 order n ++ drop 6 bytes) passed.major in
    let minor : drop 6 bytes ≡ word16 order 4 ++ drop 8 bytes =
    word16_prefix order bytes 6 fits (omega arith) ∙ ap (λ (n : ℕ). word16 order n ++ drop 8 bytes) passed.minor in
    let words = words_prefix order 4 8 bytes fits long in
    words_prefix Big 1 0 bytes fits (omega arith)
    ∙ ap (λ (s : List ℕ). s ++ drop 4 bytes) magic
    ∙ ap (λ (s : List ℕ). word32 order (magic_of style.1) ++ s)
    (major ∙ ap (λ (s : List ℕ). word16 order 2 ++ s) (minor ∙ ap (λ (s : List ℕ). word16 order 4 ++ s) words))
    ∙ sym (heading_parts heading (drop 24 bytes))

pub read_with : (style : ByteOrder × Resolution) (bytes : List ℕ) → AreBytes bytes → style_in bytes ≡ Some style
    → Passes style bytes → IsHeading bytes (heading_with (Some style) bytes, drop 24 bytes)
read_with style bytes fits is passed = record {
  fits = record {
    zone = word32_at-fits style.0 bytes 8 fits;
    accuracy = word32_at-fits style.0 bytes 12 fits;
    snap_len = word32_at-fits style.0 bytes 16 fits;
    network = word32_at-fits style.0 bytes 20 fits;
  };
  parts = heading_prefix style bytes fits is passed;
}

reads_with : (style : Option (ByteOrder × Resolution)) (bytes : List ℕ) → AreBytes bytes → style_in bytes ≡ style
    → first_row (rows_with style bytes) ≡ None → IsHeading bytes (heading_with style bytes, drop 24 bytes)
reads_with None bytes fits is none = absurd (no_style bytes none)
reads_with (Some style) bytes fits is none = read_with style bytes fits is (passes style bytes none)

heading_reads : (bytes : List ℕ) → AreBytes bytes → first_row (heading_rows bytes) ≡ None
    → IsHeading bytes (heading_read bytes)
heading_reads bytes fits none = reads_with (style_in bytes) bytes fits refl none

heading_is_read : (bytes : List ℕ) (value : Heading × List ℕ) → IsHeading bytes value
    → (first_row (heading_rows bytes) ≡ None) × (value ≡ heading_read bytes)
heading_is_read bytes value is =
    let heading = value.0 in
    let rest = value.1 in
    let order = heading.order in
    let fits = is.fits in
    let after = words_then order (heading_words heading) rest in
    let parts = is.parts ∙ heading_parts heading rest in
    let style : style_in bytes ≡ Some (order, heading.resolution) =
    ap style_in parts ∙ style_read order heading.resolution (word16 order 2 ++ (word16 order 4 ++ after)) in
    let version = ap (drop 4) parts ∙ drop_at (word32 order (magic_of heading.resolution))
    (word16 order 2 ++ (word16 order 4 ++ after)) 4 (length-word32 order (magic_of heading.resolution)) in
    let major = word16_read order 2 4 bytes (word16 order 4 ++ after) (omega arith) version in
    let minor = word16_read order 4 6 bytes after (omega arith) major.1 in
    let read = words_read order (heading_words heading) 8 bytes rest
    (fits.zone, (fits.accuracy, (fits.snap_len, (fits.network, tt)))) minor.1 in
    let long : 24 ≤ length bytes =
    omega (arith, ap length minor.1, length-drop 8 bytes, length-words_then order (heading_words heading) rest) in
    let passed : Passes (order, heading.resolution) bytes = record {
      long = long;
      major = major.0;
      minor = minor.0;
    } in
    let same : heading ≡ heading_with (Some (order, heading.resolution)) bytes = λ i. record {
      order = order;
      resolution = heading.resolution;
      zone = get_or (sym read.0 i) 0 0;
      accuracy = get_or (sym read.0 i) 1 0;
      snap_len = get_or (sym read.0 i) 2 0;
      network = get_or (sym read.0 i) 3 0;
    } in (
      ap (λ s. first_row (rows_with s bytes)) style ∙ none_refuses (order, heading.resolution) bytes passed,
      λ i. ((same ∙ ap (λ s. heading_with s bytes) (sym style)) i, sym read.1 i),
    )

-- Bytes either begin with exactly one file header or are rejected with one error.
pub heading_is_read_by : IsReadBy IsHeading heading_rows heading_read
heading_is_read_by = record { reads = heading_reads; is_read = heading_is_read }
