-- The body of a block is read in one way only.
use Rattle.std.proofs.Common.{◌≡◌, ℕ, ◌+◌, ◌-◌, ◌^◌, ◌<◌, ◌≤◌, ◌==◌, ◌||◌, Bool, true, false, not, nat_lt}
use Rattle.std.proofs.Common.{if◌then◌else◌}
use Rattle.std.proofs.Common.{List, [], ◌∷◌, ◌++◌, Option, Some, None, length, drop, slice_range}
use Rattle.std.proofs.Common.{get_or, refl, sym, ap, ◌∙◌, append_assoc, length-append, length-drop, arith}
use Rattle.std.proofs.lemmas.Bool.{eq-eqb, eqb-true, le-ltb, lt-ltb, ltb-false, ltb-true, not-false, not_from_true}
use Rattle.std.proofs.lemmas.Bool.{or_from, or_parts}
use Rattle.std.proofs.lemmas.Bool.Decides.{nat_tests}
use Rattle.std.proofs.lemmas.Grind.{common_steps}
use Rattle.std.proofs.lemmas.Option.{none-some}
use Rattle.ep_base.specs.Bytes.{AreBytes}
use Rattle.ep_base.specs.Tables.{first_row}
use Rattle.ep_base.proofs.BytesLemmas.{AreBytes-drop}
use Rattle.capture_reader.specs.Numbers.{word16, word16_at, word32, word32_at}
use Rattle.capture_reader.specs.Classic.{most_kept}
use Rattle.capture_reader.specs.Options.{ends_options, has_len, knows_resolution, options_bytes}
use Rattle.capture_reader.specs.Options.{padding_of, resolution_or_default, value_of}
use Rattle.capture_reader.specs.Blocks.{FitsEnhanced, FitsHeader, FitsInterface, FitsObsolete, FitsSimple}
use Rattle.capture_reader.specs.Blocks.{PlainEnhanced, PlainHeader, PlainInterface, PlainObsolete, PlainSimple}
use Rattle.capture_reader.specs.Blocks.{header, interface, enhanced, obsolete, simple, Section, block_body}
use Rattle.capture_reader.specs.Blocks.{body_rows, enhanced_of, header_of, interface_read, kept_rows, numbered_rows}
use Rattle.capture_reader.specs.Blocks.{obsolete_of}
use Rattle.capture_reader.specs.Blocks.{packet_body, packet_with}
use Rattle.capture_reader.specs.Blocks.{knows_minor, most_interfaces, options_rows, option_value_rows}
use Rattle.capture_reader.specs.Blocks.{captured_len_of_simple, simple_of}
use Rattle.capture_reader.specs.Blocks.{version_rows}
use Rattle.capture_reader.specs.declared.block.BlockKind.TheVariants.{SectionHeader, InterfaceDescription, SimplePacket}
use Rattle.capture_reader.specs.declared.block.BlockKind.TheVariants.{EnhancedPacket, ObsoletePacket}
use Rattle.capture_reader.specs.declared.byte_order.ByteOrder.{ByteOrder}
use Rattle.capture_reader.specs.declared.byte_order.ByteOrder.TheVariants.{Big}
use Rattle.capture_reader.specs.declared.interface.Interface.{Interface}
use Rattle.capture_reader.specs.declared.refusal.Refusal.{Refusal}
use Rattle.capture_reader.specs.declared.refusal.Refusal.TheVariants as refusal
use Rattle.capture_reader.proofs.NumberLemmas.{length-word16, length-word32, length-words_then, range_prefix}
use Rattle.capture_reader.proofs.NumberLemmas.{range_read, word16_at-fits, word16_prefix, word16_read, word32_at-fits}
use Rattle.capture_reader.proofs.NumberLemmas.{word32_prefix, word32_read, words_prefix, words_read, words_then}
use Rattle.capture_reader.proofs.OptionLemmas.{ends_stuck, one_parse, parsed}

-- ---- single rows

-- If no row applies, neither the first one nor any of the others does.
pub row_none : (condition : Bool) (error : Refusal) (others : Option Refusal)
    → (if condition then Some error else others) ≡ None → (condition ≡ false) × (others ≡ None)
row_none true error others none = absurd (none-some error (sym none))
row_none false error others none = (refl, none)

-- A row whose condition is false leaves the decision to the other rows.
pub row_pass : (condition : Bool) (error : Refusal) (others : Option Refusal) → condition ≡ false
    → (if condition then Some error else others) ≡ others
row_pass condition error others pass = ap (λ (c : Bool). if c then Some error else others) pass

-- ---- captured bytes and their padding

-- From index i on, the body is the captured bytes, their padding, and the remaining bytes.
pub kept_prefix : (body : List ℕ) (i kept : ℕ) → i + kept + padding_of kept ≤ length body
    → (length (slice_range body i (i + kept)) ≡ kept)
    × (length (slice_range body (i + kept) (i + kept + padding_of kept)) ≡ padding_of kept)
    × (drop i body ≡ slice_range body i (i + kept) ++ (slice_range body (i + kept) (i + kept + padding_of kept)
    ++ drop (i + kept + padding_of kept) body))
kept_prefix body i kept within =
    let bytes = range_prefix body i kept (omega (arith, within)) in
    let padding = range_prefix body (i + kept) (padding_of kept) within in (
      bytes.0,
      padding.0,
      bytes.1 ∙ ap (λ (s : List ℕ). slice_range body i (i + kept) ++ s) padding.1,
    )

-- The captured bytes, their padding and the remaining bytes are found at index i.
record FindsKept (body : List ℕ) (i kept : ℕ) (bytes padding after : List ℕ) : Type 0 where
  bytes_is : slice_range body i (i + kept) ≡ bytes
  padding_is : slice_range body (i + kept) (i + kept + padding_of kept) ≡ padding
  rest_is : drop (i + kept + padding_of kept) body ≡ after
  within : i + kept + padding_of kept ≤ length body

kept_read : (body bytes padding after : List ℕ) (i kept : ℕ) → i ≤ length body
    → drop i body ≡ bytes ++ (padding ++ after) → kept ≡ length bytes → length padding ≡ padding_of (length bytes)
    → FindsKept body i kept bytes padding after
kept_read body bytes padding after i kept long parts len filled =
    let same : padding_of kept ≡ length padding = ap padding_of len ∙ sym filled in
    let first = range_read body bytes (padding ++ after) i kept parts len in
    let second = range_read body padding after (i + kept) (padding_of kept) first.1 same in
    let size : length body - i ≡ length bytes + (length padding + length after) =
    sym (length-drop i body) ∙ ap length parts ∙ length-append bytes (padding ++ after)
    ∙ ap (λ (n : ℕ). length bytes + n) (length-append padding after) in
    record {
      bytes_is = first.0;
      padding_is = second.0;
      rest_is = second.1;
      within = omega (arith, long, size, len, same);
    }

-- If no row of a packet applies, at most 256 KiB are captured, and they fit in the body with their padding.
pub kept_facts : (len before kept present : ℕ) → first_row (kept_rows len before kept present) ≡ None
    → (kept ≤ most_kept) × (before + kept + padding_of kept ≤ present)
kept_facts len before kept present none =
    let long = row_none (nat_lt most_kept kept) (refusal.PacketTooLong kept) _ none in
    let past = row_none (nat_lt present (before + kept + padding_of kept)) (refusal.BlockLength len) _ long.1 in
    (ltb-false most_kept kept long.0, ltb-false present (before + kept + padding_of kept) past.0)

pub kept_none : (len before kept present : ℕ) → kept ≤ most_kept → before + kept + padding_of kept ≤ present
    → first_row (kept_rows len before kept present) ≡ None
kept_none len before kept present few within =
    row_pass (nat_lt most_kept kept) (refusal.PacketTooLong kept) _ (le-ltb most_kept kept few)
    ∙ row_pass (nat_lt present (before + kept + padding_of kept)) (refusal.BlockLength len) _
    (le-ltb present (before + kept + padding_of kept) within)

-- ---- section headers

header_parts : (order : ByteOrder) (plain : PlainHeader)
    → block_body order (header plain)
    ≡ word32 plain.order 0x1a2b3c4d ++ (word16 plain.order 1 ++ (word16 plain.order plain.minor ++ plain.rest))
header_parts order plain = simp append_assoc

-- If no row of the version applies, it is a supported one.
version_facts : (major minor : ℕ) → first_row (version_rows major minor) ≡ None
    → (major ≡ 1) × (knows_minor minor ≡ true)
version_facts major minor none =
    let row = row_none (not (major == 1) || not (knows_minor minor)) (refusal.UnsupportedVersion major minor) _ none in
    let parts = or_parts (not (major == 1)) (not (knows_minor minor)) row.0 in
    (eqb-true major 1 (not-false (major == 1) parts.0), not-false (knows_minor minor) parts.1)

version_none : (major minor : ℕ) → major ≡ 1 → knows_minor minor ≡ true → first_row (version_rows major minor) ≡ None
version_none major minor is known =
    row_pass (not (major == 1) || not (knows_minor minor)) (refusal.UnsupportedVersion major minor) _
    (or_from (not (major == 1)) (not (knows_minor minor)) (not_from_true (major == 1) (eq-eqb major 1 is))
    (not_from_true (knows_minor minor) known))

-- A supported minor version fits in two bytes.
minor_fits : (minor : ℕ) → knows_minor minor ≡ true → minor < 2 ^ 16
minor_fits minor known = grind (arith, common_steps, nat_tests)

pub header_reads : (before order : ByteOrder) (len : ℕ) (body : List ℕ) → AreBytes body → 16 ≤ length body
    → word32 Big (word32_at Big body 0) ≡ word32 order 0x1a2b3c4d
    → first_row (body_rows [] order SectionHeader len body) ≡ None
    → FitsHeader (header_of order body) × (body ≡ block_body before (header (header_of order body)))
header_reads before order len body fits long magic none =
    let plain = header_of order body in
    let version = version_facts (word16_at order body 4) (word16_at order body 6) none in
    let major = version.0 in
    let second : drop 4 body ≡ word16 order 1 ++ drop 6 body =
    word16_prefix order body 4 fits (omega arith) ∙ ap (λ (n : ℕ). word16 order n ++ drop 6 body) major in
    let third : drop 6 body ≡ word16 order plain.minor ++ drop 8 body = word16_prefix order body 6 fits (omega arith) in (
      record { minor = version.1; rest = omega (arith, length-drop 8 body) },
      word32_prefix Big body 0 fits (omega arith)
          ∙ ap (λ (s : List ℕ). s ++ drop 4 body) magic
          ∙ ap (λ (s : List ℕ). word32 order 0x1a2b3c4d ++ s)
          (second ∙ ap (λ (s : List ℕ). word16 order 1 ++ s) third)
          ∙ sym (header_parts before plain),
    )

pub header_is_read : (before : ByteOrder) (len : ℕ) (interfaces : List Interface) (plain : PlainHeader) (body : List ℕ)
    → FitsHeader plain → body ≡ block_body before (header plain)
    → (first_row (body_rows interfaces plain.order SectionHeader len body) ≡ None)
    × (header_of plain.order body ≡ plain) × (16 ≤ length body)
header_is_read before len interfaces plain body fits is =
    let order = plain.order in
    let parts = is ∙ header_parts before plain in
    let magic = word32_read order 0x1a2b3c4d 0 body _ (omega arith) parts in
    let major = word16_read order 1 4 body _ (omega arith) magic.1 in
    let minor = word16_read order plain.minor 6 body plain.rest (minor_fits plain.minor fits.minor) major.1 in (
      version_none (word16_at order body 4) (word16_at order body 6) major.0 (ap knows_minor minor.0 ∙ fits.minor),
      λ i. record { order = order; minor = minor.0 i; rest = minor.1 i },
      omega (arith, ap length minor.1, length-drop 8 body, fits.rest),
    )

-- ---- interface descriptions

interface_parts : (order : ByteOrder) (plain : PlainInterface)
    → block_body order (interface plain)
    ≡ word16 order plain.link_type ++ (word16 order plain.reserved ++ (word32 order plain.snap_len
    ++ (options_bytes order plain.options ++ plain.ending)))
interface_parts order plain = simp append_assoc

pub interface_reads : (section : Section) (len : ℕ) (body : List ℕ) → AreBytes body → 8 ≤ length body
    → first_row (body_rows section.interfaces section.order InterfaceDescription len body) ≡ None
    → FitsInterface section (interface_read section.order body)
    × (body ≡ block_body section.order (interface (interface_read section.order body)))
interface_reads section len body fits long none =
    let order = section.order in
    let plain = interface_read order body in
    let options = parsed order (drop 8 body) (AreBytes-drop 8 body fits) in
    let stated = value_of 9 plain.options in
    let few = nat_lt (length section.interfaces) most_interfaces in
    let count = row_none (not few) _ _ none in
    let ends = row_none (not (ends_options order plain.ending)) _ _ count.1 in
    let first_len = row_none (not (has_len 1 stated)) _ _ ends.1 in
    let second_len = row_none (not (has_len 8 (value_of 14 plain.options))) _ _ first_len.1 in
    let known = row_none (not (knows_resolution (resolution_or_default stated))) _ _ second_len.1 in
    let second : drop 2 body ≡ word16 order plain.reserved ++ drop 4 body = word16_prefix order body 2 fits (omega arith)
    in
    let third : drop 4 body ≡ word32 order plain.snap_len ++ drop 8 body = word32_prefix order body 4 fits
    (omega arith) in (
      record {
        count = ltb-true (length section.interfaces) most_interfaces (not-false few count.0);
        link_type = word16_at-fits order body 0 fits;
        reserved = word16_at-fits order body 2 fits;
        snap_len = word32_at-fits order body 4 fits;
        options = options.are;
        ending = not-false (ends_options order plain.ending) ends.0;
        resolution_len = not-false (has_len 1 stated) first_len.0;
        resolution = not-false (knows_resolution (resolution_or_default stated)) known.0;
        offset_len = not-false (has_len 8 (value_of 14 plain.options)) second_len.0;
      },
      word16_prefix order body 0 fits (omega arith)
          ∙ ap (λ (s : List ℕ). word16 order plain.link_type ++ s)
          (second ∙ ap (λ (s : List ℕ). word16 order plain.reserved ++ s)
          (third ∙ ap (λ (s : List ℕ). word32 order plain.snap_len ++ s) options.parts))
          ∙ sym (interface_parts order plain),
    )

pub interface_is_read : (section : Section) (len : ℕ) (plain : PlainInterface) (body : List ℕ)
    → FitsInterface section plain → body ≡ block_body section.order (interface plain)
    → (first_row (body_rows section.interfaces section.order InterfaceDescription len body) ≡ None)
    × (interface_read section.order body ≡ plain) × (8 ≤ length body)
interface_is_read section len plain body fits is =
    let order = section.order in
    let parts = is ∙ interface_parts order plain in
    let link = word16_read order plain.link_type 0 body _ fits.link_type parts in
    let reserved = word16_read order plain.reserved 2 body _ fits.reserved link.1 in
    let snap = word32_read order plain.snap_len 4 body _ fits.snap_len reserved.1 in
    let options = one_parse order (drop 8 body) plain.options plain.ending (record {
      are = fits.options;
      parts = snap.1;
      stuck = ends_stuck order plain.ending fits.ending;
    }) in
    let rows = option_value_rows (ends_options order plain.ending) (value_of 9 plain.options)
    (value_of 14 plain.options) in
    let stated = value_of 9 plain.options in
    let none : first_row rows ≡ None =
    row_pass (not (ends_options order plain.ending)) _ _ (not_from_true (ends_options order plain.ending) fits.ending)
    ∙ row_pass (not (has_len 1 stated)) _ _ (not_from_true (has_len 1 stated) fits.resolution_len)
    ∙ row_pass (not (has_len 8 (value_of 14 plain.options))) _ _
    (not_from_true (has_len 8 (value_of 14 plain.options)) fits.offset_len)
    ∙ row_pass (not (knows_resolution (resolution_or_default stated))) _ _
    (not_from_true (knows_resolution (resolution_or_default stated)) fits.resolution) in
    let same_rows : options_rows order (drop 8 body) ≡ rows =
    λ i. option_value_rows (ends_options order (options.1 i)) (value_of 9 (options.0 i)) (value_of 14 (options.0 i)) in
    let size : length body
    ≡ length (word16 order plain.link_type) + (length (word16 order plain.reserved) +
    (length (word32 order plain.snap_len)
    + length (options_bytes order plain.options ++ plain.ending))) =
    ap length parts ∙ length-append (word16 order plain.link_type) _
    ∙ ap (λ (n : ℕ). length (word16 order plain.link_type) + n) (length-append (word16 order plain.reserved) _
    ∙ ap (λ (n : ℕ). length (word16 order plain.reserved) + n) (length-append (word32 order plain.snap_len) _)) in (
      row_pass (not (nat_lt (length section.interfaces) most_interfaces)) _ _
          (not_from_true (nat_lt (length section.interfaces) most_interfaces)
          (lt-ltb (length section.interfaces) most_interfaces fits.count))
          ∙ ap first_row same_rows
          ∙ none,
      λ i. record {
        link_type = link.0 i;
        reserved = reserved.0 i;
        snap_len = snap.0 i;
        options = options.0 i;
        ending = options.1 i;
      },
      omega (
        arith,
        size,
        length-word16 order plain.link_type,
        length-word16 order plain.reserved,
        length-word32 order plain.snap_len,
      ),
    )

-- ---- packets

abbrev packet_words : PlainEnhanced → List ℕ
packet_words plain =
    plain.high ∷ plain.low ∷ length plain.bytes ∷ plain.original_len ∷ []

packet_parts : (order : ByteOrder) (plain : PlainEnhanced)
    → packet_body order plain
    ≡ words_then order (packet_words plain) (plain.bytes ++ (plain.padding ++ plain.options))
packet_parts order plain = simp append_assoc

-- The bytes after the interface number are those of the packet that is read.
packet_reads : (section : Section) (number len : ℕ) (body : List ℕ) → AreBytes body → 20 ≤ length body → number < 2 ^ 32
    → first_row (numbered_rows section.interfaces number section.order len body) ≡ None
    → FitsEnhanced section (packet_with section.order number body)
    × (drop 4 body ≡ packet_body section.order (packet_with section.order number body))
packet_reads section number len body fits long numbered none =
    let order = section.order in
    let plain = packet_with order number body in
    let kept = word32_at order body 12 in
    let described = row_none (not (nat_lt number (length section.interfaces))) _ _ none in
    let facts = kept_facts len 20 kept (length body) described.1 in
    let prefix = kept_prefix body 20 kept facts.1 in
    let Words : ℕ → List ℕ → List ℕ = λ n s.
    words_then order (plain.high ∷ plain.low ∷ n ∷ plain.original_len ∷ []) s in (
      record {
        numbered = numbered;
        described = ltb-true number (length section.interfaces)
            (not-false (nat_lt number (length section.interfaces)) described.0);
        high = word32_at-fits order body 4 fits;
        low = word32_at-fits order body 8 fits;
        original_len = word32_at-fits order body 16 fits;
        kept = omega (arith, prefix.0, facts.0);
        padding = prefix.1 ∙ ap padding_of (sym prefix.0);
      },
      words_prefix order 4 4 body fits long ∙ ap (Words kept) prefix.2
          ∙ ap (λ (n : ℕ). Words n (plain.bytes ++ (plain.padding ++ plain.options))) (sym prefix.0)
          ∙ sym (packet_parts order plain),
    )

packet_is_read : (section : Section) (number len : ℕ) (plain : PlainEnhanced) (body : List ℕ)
    → FitsEnhanced section plain → number ≡ plain.number → 4 ≤ length body → drop 4 body
    ≡ packet_body section.order plain
    → (first_row (numbered_rows section.interfaces number section.order len body) ≡ None)
    × (packet_with section.order number body ≡ plain) × (20 ≤ length body)
packet_is_read section number len plain body fits number_is some is =
    let order = section.order in
    let contents = plain.bytes ++ (plain.padding ++ plain.options) in
    let few : length plain.bytes < 2 ^ 32 = omega (arith, fits.kept) in
    let parts = is ∙ packet_parts order plain in
    let read = words_read order (packet_words plain) 4 body contents
    (fits.high, (fits.low, (few, (fits.original_len, tt)))) parts in
    let high : word32_at order body 4 ≡ plain.high = ap (λ (s : List ℕ). get_or s 0 0) read.0 in
    let low : word32_at order body 8 ≡ plain.low = ap (λ (s : List ℕ). get_or s 1 0) read.0 in
    let kept : word32_at order body 12 ≡ length plain.bytes = ap (λ (s : List ℕ). get_or s 2 0) read.0 in
    let original : word32_at order body 16 ≡ plain.original_len = ap (λ (s : List ℕ). get_or s 3 0) read.0 in
    let long : 20 ≤ length body =
    omega (arith, some, ap length parts, length-drop 4 body, length-words_then order (packet_words plain) contents) in
    let found = kept_read body plain.bytes plain.padding plain.options 20 (word32_at order body 12) long read.1 kept
    fits.padding in
    let described : nat_lt number (length section.interfaces) ≡ true =
    lt-ltb number (length section.interfaces) (omega (arith, number_is, fits.described)) in (
      row_pass (not (nat_lt number (length section.interfaces))) _ _
          (not_from_true (nat_lt number (length section.interfaces)) described)
          ∙ kept_none len 20 (word32_at order body 12) (length body) (omega (arith, kept, fits.kept)) found.within,
      λ i. record {
        number = number_is i;
        high = high i;
        low = low i;
        original_len = original i;
        bytes = found.bytes_is i;
        padding = found.padding_is i;
        options = found.rest_is i;
      },
      long,
    )

pub enhanced_reads : (section : Section) (len : ℕ) (body : List ℕ) → AreBytes body → 20 ≤ length body
    → first_row (body_rows section.interfaces section.order EnhancedPacket len body) ≡ None
    → FitsEnhanced section (enhanced_of section.order body)
    × (body ≡ block_body section.order (enhanced (enhanced_of section.order body)))
enhanced_reads section len body fits long none =
    let order = section.order in
    let number = word32_at order body 0 in
    let read = packet_reads section number len body fits long (word32_at-fits order body 0 fits) none in (
      read.0,
      word32_prefix order body 0 fits (omega (arith, long))
          ∙ ap (λ (s : List ℕ). word32 order number ++ s) read.1,
    )

pub enhanced_is_read : (section : Section) (len : ℕ) (plain : PlainEnhanced) (body : List ℕ)
    → FitsEnhanced section plain → body ≡ block_body section.order (enhanced plain)
    → (first_row (body_rows section.interfaces section.order EnhancedPacket len body) ≡ None)
    × (enhanced_of section.order body ≡ plain) × (20 ≤ length body)
enhanced_is_read section len plain body fits is =
    let order = section.order in
    let number = word32_read order plain.number 0 body (packet_body order plain) fits.numbered is in
    let some : 4 ≤ length body =
    omega (
      arith,
      ap length is,
      length-append (word32 order plain.number) (packet_body order plain),
      length-word32 order plain.number,
    ) in
    packet_is_read section (word32_at order body 0) len plain body fits number.0 some number.1

pub obsolete_reads : (section : Section) (len : ℕ) (body : List ℕ) → AreBytes body → 20 ≤ length body
    → first_row (body_rows section.interfaces section.order ObsoletePacket len body) ≡ None
    → FitsObsolete section (obsolete_of section.order body)
    × (body ≡ block_body section.order (obsolete (obsolete_of section.order body)))
obsolete_reads section len body fits long none =
    let order = section.order in
    let number = word16_at order body 0 in
    let drops = word16_at order body 2 in
    let small : number < 2 ^ 16 = word16_at-fits order body 0 fits in
    let read = packet_reads section number len body fits long (omega (arith, small)) none in
    let second : drop 2 body ≡ word16 order drops ++ drop 4 body = word16_prefix order body 2 fits
    (omega (arith, long)) in (
      record { numbered = small; drops = word16_at-fits order body 2 fits; packet = read.0 },
      word16_prefix order body 0 fits (omega (arith, long))
          ∙ ap (λ (s : List ℕ). word16 order number ++ s)
          (second ∙ ap (λ (s : List ℕ). word16 order drops ++ s) read.1),
    )

pub obsolete_is_read : (section : Section) (len : ℕ) (plain : PlainObsolete) (body : List ℕ)
    → FitsObsolete section plain → body ≡ block_body section.order (obsolete plain)
    → (first_row (body_rows section.interfaces section.order ObsoletePacket len body) ≡ None)
    × (obsolete_of section.order body ≡ plain) × (20 ≤ length body)
obsolete_is_read section len plain body fits is =
    let order = section.order in
    let packet = packet_body order plain.packet in
    let number = word16_read order plain.packet.number 0 body (word16 order plain.drops ++ packet) fits.numbered is in
    let drops = word16_read order plain.drops 2 body packet fits.drops number.1 in
    let some : 4 ≤ length body =
    omega (
      arith,
      ap length is,
      length-append (word16 order plain.packet.number) (word16 order plain.drops ++ packet),
      length-append (word16 order plain.drops) packet,
      length-word16 order plain.packet.number,
      length-word16 order plain.drops,
    ) in
    let read = packet_is_read section (word16_at order body 0) len plain.packet body fits.packet number.0 some drops.1
    in
    (read.0, (λ i. record { drops = drops.0 i; packet = read.1 i }), read.2)

simple_parts : (order : ByteOrder) (plain : PlainSimple)
    → block_body order (simple plain)
    ≡ word32 order plain.original_len ++ (plain.bytes ++ (plain.padding ++ plain.rest))
simple_parts order plain = simp append_assoc

pub simple_reads : (section : Section) (len : ℕ) (body : List ℕ) → AreBytes body → 4 ≤ length body
    → first_row (body_rows section.interfaces section.order SimplePacket len body) ≡ None
    → FitsSimple section (simple_of section.interfaces section.order body)
    × (body ≡ block_body section.order (simple (simple_of section.interfaces section.order body)))
simple_reads section len body fits long none =
    let order = section.order in
    let plain = simple_of section.interfaces order body in
    let kept = captured_len_of_simple section.interfaces (word32_at order body 0) in
    let described = row_none (not (nat_lt 0 (length section.interfaces))) _ _ none in
    let facts = kept_facts len 4 kept (length body) described.1 in
    let prefix = kept_prefix body 4 kept facts.1 in (
      record {
        described = ltb-true 0 (length section.interfaces)
            (not-false (nat_lt 0 (length section.interfaces)) described.0);
        original_len = word32_at-fits order body 0 fits;
        bytes = prefix.0;
        kept = omega (arith, prefix.0, facts.0);
        padding = prefix.1 ∙ ap padding_of (sym prefix.0);
      },
      word32_prefix order body 0 fits long ∙ ap (λ (s : List ℕ). word32 order plain.original_len ++ s) prefix.2
          ∙ sym (simple_parts order plain),
    )

pub simple_is_read : (section : Section) (len : ℕ) (plain : PlainSimple) (body : List ℕ) → FitsSimple section plain
    → body ≡ block_body section.order (simple plain)
    → (first_row (body_rows section.interfaces section.order SimplePacket len body) ≡ None)
    × (simple_of section.interfaces section.order body ≡ plain) × (4 ≤ length body)
simple_is_read section len plain body fits is =
    let order = section.order in
    let interfaces = section.interfaces in
    let parts = is ∙ simple_parts order plain in
    let read = word32_read order plain.original_len 0 body _ fits.original_len parts in
    let kept : captured_len_of_simple interfaces (word32_at order body 0) ≡ length plain.bytes =
    ap (captured_len_of_simple interfaces) read.0 ∙ sym fits.bytes in
    let long : 4 ≤ length body =
    omega (
      arith,
      ap length parts,
      length-append (word32 order plain.original_len) (plain.bytes ++ (plain.padding ++ plain.rest)),
      length-word32 order plain.original_len,
    ) in
    let found = kept_read body plain.bytes plain.padding plain.rest 4
    (captured_len_of_simple interfaces (word32_at order body 0))
    long read.1 kept fits.padding in
    let described : nat_lt 0 (length interfaces) ≡ true = lt-ltb 0 (length interfaces) fits.described in (
      row_pass (not (nat_lt 0 (length interfaces))) _ _ (not_from_true (nat_lt 0 (length interfaces)) described)
          ∙ kept_none len 4 (captured_len_of_simple interfaces (word32_at order body 0)) (length body)
          (omega (arith, kept, fits.kept)) found.within,
      λ i. record {
        original_len = read.0 i;
        bytes = found.bytes_is i;
        padding = found.padding_is i;
        rest = found.rest_is i;
      },
      long,
    )
