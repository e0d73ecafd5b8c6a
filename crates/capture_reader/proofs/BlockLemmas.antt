-- Bytes begin with at most one block, which parsing finds.
use Rattle.std.proofs.Common.{◌≡◌, ℕ, ◌+◌, ◌-◌, ◌%◌, ◌^◌, ◌<◌, ◌≤◌, ◌==◌, ◌&&◌, ◌||◌, Bool, false, not, is_some, nat_lt}
use Rattle.std.proofs.Common.{List, [], ◌∷◌, ◌++◌, Option, Some, None, length, drop, slice_range}
use Rattle.std.proofs.Common.{refl, sym, ap, subst, ◌∙◌, append_assoc, length-append, arith}
use Rattle.std.proofs.lemmas.Bool.{eq-eqb, eqb-true, le-ltb, ltb-false, not-false, not_from_true, or_from, or_parts}
use Rattle.std.proofs.lemmas.Bool.{true≢false}
use Rattle.std.proofs.lemmas.Bool.Decides.{nat_tests}
use Rattle.ep_base.specs.Bytes.{AreBytes}
use Rattle.ep_base.specs.Tables.{first_row}
use Rattle.ep_base.proofs.BytesLemmas.{AreBytes-drop, AreBytes-take}
use Rattle.ep_base.proofs.TableLemmas.{IsReadBy}
use Rattle.capture_reader.specs.Numbers.{word16, word32, word32_at}
use Rattle.capture_reader.specs.Blocks.{FitsContent, IsBlock, PlainBlock, Section}
use Rattle.capture_reader.specs.Blocks.{header, interface, enhanced, obsolete, simple, other, block_body, block_bytes}
use Rattle.capture_reader.specs.Blocks.{block_in}
use Rattle.capture_reader.specs.Blocks.{block_len, block_number, block_of, block_order, block_rows, body_rows}
use Rattle.capture_reader.specs.Blocks.{framing_rows}
use Rattle.capture_reader.specs.Blocks.{has_no_order, is_other, kind_in, kind_of, min_len, most_block, order_in}
use Rattle.capture_reader.specs.Blocks.{order_of}
use Rattle.capture_reader.specs.Blocks.{order_or, byte_order_of_magic, complete_rows}
use Rattle.capture_reader.specs.Captures.{BeginsSection, block_shown}
use Rattle.capture_reader.specs.declared.block.BlockKind.{BlockKind}
use Rattle.capture_reader.specs.declared.block.BlockKind.TheVariants.{SectionHeader, InterfaceDescription, SimplePacket}
use Rattle.capture_reader.specs.declared.block.BlockKind.TheVariants.{EnhancedPacket, ObsoletePacket, Other}
use Rattle.capture_reader.specs.declared.byte_order.ByteOrder.{ByteOrder}
use Rattle.capture_reader.specs.declared.byte_order.ByteOrder.TheVariants.{Big, Little}
use Rattle.capture_reader.specs.declared.interface.Interface.{Interface}
use Rattle.capture_reader.specs.declared.refusal.Refusal.{Refusal}
use Rattle.capture_reader.specs.declared.refusal.Refusal.TheVariants as refusal
use Rattle.capture_reader.proofs.NumberLemmas.{length-word32, range_prefix, range_read, word32_at-drop, word32_at-fits}
use Rattle.capture_reader.proofs.NumberLemmas.{word32_at-more}
use Rattle.capture_reader.proofs.NumberLemmas.{word32_prefix, word32_read}
use Rattle.capture_reader.proofs.BodyLemmas.{enhanced_is_read, enhanced_reads, header_is_read, header_reads}
use Rattle.capture_reader.proofs.BodyLemmas.{interface_is_read, interface_reads, obsolete_is_read, obsolete_reads}
use Rattle.capture_reader.proofs.BodyLemmas.{row_none, row_pass}
use Rattle.capture_reader.proofs.BodyLemmas.{simple_is_read, simple_reads}

-- ---- block types and byte orders

-- The type of a Section Header Block has the same bytes in both byte orders.
section_number : (order before : ByteOrder) → word32 before 0x0a0d0d0a ≡ word32 order 0x0a0d0d0a
unfolding word32
section_number Big Big = refl
section_number Big Little = refl
section_number Little Big = refl
section_number Little Little = refl

number_section : (n : ℕ) → kind_of n ≡ SectionHeader → n ≡ 0x0a0d0d0a
number_section n is = grind (arith, nat_tests)

number_interface : (n : ℕ) → kind_of n ≡ InterfaceDescription → n ≡ 1
number_interface n is = grind (arith, nat_tests)

number_simple : (n : ℕ) → kind_of n ≡ SimplePacket → n ≡ 3
number_simple n is = grind (arith, nat_tests)

number_enhanced : (n : ℕ) → kind_of n ≡ EnhancedPacket → n ≡ 6
number_enhanced n is = grind (arith, nat_tests)

number_obsolete : (n : ℕ) → kind_of n ≡ ObsoletePacket → n ≡ 2
number_obsolete n is = grind (arith, nat_tests)

-- A known byte order is read from one magic number only.
magic_big : (magic : ℕ) → byte_order_of_magic magic ≡ Some Big → magic ≡ 0x1a2b3c4d
magic_big magic is = grind (arith, nat_tests)

magic_little : (magic : ℕ) → byte_order_of_magic magic ≡ Some Little → magic ≡ 0x4d3c2b1a
magic_little magic is = grind (arith, nat_tests)

-- A little-endian byte-order magic has the bytes of its big-endian reading.
little_written : word32 Big 0x4d3c2b1a ≡ word32 Little 0x1a2b3c4d
unfolding word32
little_written = refl

stated_written : (before : ByteOrder) (magic : ℕ) (stated : Option ByteOrder) → byte_order_of_magic magic ≡ stated
    → not (is_some stated) ≡ false → word32 Big magic ≡ word32 (order_or before stated) 0x1a2b3c4d
stated_written before magic None is known = absurd (true≢false known)
stated_written before magic (Some Big) is known = ap (word32 Big) (magic_big magic is)
stated_written before magic (Some Little) is known = ap (word32 Big) (magic_little magic is) ∙ little_written

-- A byte-order magic is read as the byte order in which it was written.
magic_read : (order : ByteOrder) (rest : List ℕ)
    → byte_order_of_magic (word32_at Big (word32 order 0x1a2b3c4d ++ rest) 0) ≡ Some order
unfolding word32 word32_at
magic_read Big rest = refl
magic_read Little rest = refl

-- ---- framing

-- The bytes of a block are its type, its length, its body and its length again; the next bytes follow.
block_parts : (before : ByteOrder) (block : PlainBlock) (rest : List ℕ)
    → let order = block_order before block in
    block_bytes before block ++ rest
    ≡ word32 order (block_number block) ++ (word32 order (block_len order block) ++ (block_body order block
    ++ (word32 order (block_len order block) ++ rest)))
block_parts before block rest = simp append_assoc

-- Bytes with the same length field before and after a body are the parts of a block.
frame_prefix : (before order : ByteOrder) (bytes : List ℕ) (len : ℕ) → AreBytes bytes → 12 ≤ len → len ≤ length bytes
    → word32_at order bytes 4 ≡ len → word32_at order bytes (len - 4) ≡ len
    → (length (slice_range bytes 8 (len - 4)) ≡ len - 12)
    × (drop 8 bytes ≡ slice_range bytes 8 (len - 4) ++ drop (len - 4) bytes)
    × (bytes ≡ word32 before (word32_at before bytes 0) ++ (word32 order len ++ (slice_range bytes 8 (len - 4)
    ++ (word32 order len ++ drop len bytes))))
frame_prefix before order bytes len fits long within stated trailing =
    let size : 8 + (len - 12) ≡ len - 4 = omega arith in
    let body = range_prefix bytes 8 (len - 12) (omega arith) in
    let Body : ℕ → List ℕ = λ n. slice_range bytes 8 n in
    let second : drop 4 bytes ≡ word32 order len ++ drop 8 bytes =
    word32_prefix order bytes 4 fits (omega arith) ∙ ap (λ (n : ℕ). word32 order n ++ drop 8 bytes) stated in
    let third : drop 8 bytes ≡ slice_range bytes 8 (len - 4) ++ drop (len - 4) bytes =
    body.1 ∙ ap (λ (n : ℕ). slice_range bytes 8 n ++ drop n bytes) size in
    let last : drop (len - 4) bytes ≡ word32 order len ++ drop len bytes =
    word32_prefix order bytes (len - 4) fits (omega arith)
    ∙ ap (λ (n : ℕ). word32 order n ++ drop (len - 4 + 4) bytes) trailing
    ∙ ap (λ (n : ℕ). word32 order len ++ drop n bytes) (omega arith) in (
      sym (ap (λ (n : ℕ). length (Body n)) size) ∙ body.0,
      third,
      word32_prefix before bytes 0 fits (omega arith)
          ∙ ap (λ (s : List ℕ). word32 before (word32_at before bytes 0) ++ s)
          (second ∙ ap (λ (s : List ℕ). word32 order len ++ s)
          (third ∙ ap (λ (s : List ℕ). slice_range bytes 8 (len - 4) ++ s) last)),
    )

-- The body is that of a valid block.
record Holds (section : Section) (order : ByteOrder) (number : ℕ) (body : List ℕ) (block : PlainBlock) : Type 0 where
  fits : FitsContent section block
  order_is : block_order section.order block ≡ order
  number_is : word32 section.order number ≡ word32 order (block_number block)
  body_is : body ≡ block_body order block

-- The bytes around a valid body are the bytes of the block.
holds_block : (section : Section) (order : ByteOrder) (number len : ℕ) (bytes body rest : List ℕ) (block : PlainBlock)
    → Holds section order number body block → len ≡ 12 + length body → len ≤ most_block → len % 4 ≡ 0
    → bytes ≡ word32 section.order number ++ (word32 order len ++ (body ++ (word32 order len ++ rest)))
    → IsBlock section bytes (block, rest)
holds_block section order number len bytes body rest block holds size most aligned parts =
    let before = section.order in
    let len_is : len ≡ block_len order block = size ∙ ap (λ (s : List ℕ). 12 + length s) holds.body_is in
    let body_len : length body ≡ length (block_body order block) = ap length holds.body_is in
    let Parts : ByteOrder → Type 0 = λ o. bytes ≡ word32 o (block_number block) ++ (word32 o (block_len o block)
    ++ (block_body o block ++ (word32 o (block_len o block) ++ rest))) in
    let Most : ByteOrder → Type 0 = λ o. block_len o block ≤ most_block in
    let Aligned : ByteOrder → Type 0 = λ o. length (block_body o block) % 4 ≡ 0 in
    let all : Parts order =
    parts ∙ ap (λ (s : List ℕ). s ++ (word32 order len ++ (body ++ (word32 order len ++ rest)))) holds.number_is
    ∙ ap (λ (n : ℕ). word32 order (block_number block) ++ (word32 order n ++ (body ++ (word32 order n ++ rest)))) len_is
    ∙ ap (λ (s : List ℕ). word32 order (block_number block) ++ (word32 order (block_len order block)
    ++ (s ++ (word32 order (block_len order block) ++ rest)))) holds.body_is in
    record {
      fits = record {
        content = holds.fits;
        len = subst Most (sym holds.order_is) (omega (arith, len_is, most));
        aligned = subst Aligned (sym holds.order_is) (omega (arith, aligned, size, body_len));
      };
      parts = subst Parts (sym holds.order_is) all ∙ sym (block_parts before block rest);
    }

-- ---- bytes that no row rejects

-- the refusal table of a block, by topic
abbrev pub rows_of : ByteOrder → List Interface → ByteOrder → BlockKind → (magic len : ℕ) → List ℕ
    → List (Bool × Refusal)
rows_of before interfaces order kind magic len bytes =
    (nat_lt (length bytes) 12, refusal.Cut 12 (length bytes))
    ∷ framing_rows before kind magic len
    ++ (nat_lt (length bytes) len, refusal.Cut len (length bytes))
    ∷ complete_rows interfaces order kind len bytes

-- Holds if no row of the table rejects the bytes.
pub record Passes (before : ByteOrder) (interfaces : List Interface) (order : ByteOrder) (kind : BlockKind)
    (magic len : ℕ) (bytes : List ℕ) : Type 0 where
  pub long : 12 ≤ length bytes
  pub known : has_no_order before kind magic ≡ false
  pub least : min_len kind ≤ len
  pub aligned : len % 4 ≡ 0
  pub most : len ≤ most_block
  pub within : len ≤ length bytes
  pub trailing : word32_at order bytes (len - 4) ≡ len
  pub body : first_row (body_rows interfaces order kind len (slice_range bytes 8 (len - 4))) ≡ None

pub passes : (before : ByteOrder) (interfaces : List Interface) (order : ByteOrder) (kind : BlockKind) (magic len : ℕ)
    (bytes : List ℕ)
    → first_row (rows_of before interfaces order kind magic len bytes) ≡ None
    → Passes before interfaces order kind magic len bytes
passes before interfaces order kind magic len bytes none =
    let a = row_none (nat_lt (length bytes) 12) _ _ none in
    let b = row_none (has_no_order before kind magic) _ _ a.1 in
    let c = row_none (nat_lt len (min_len kind) || not (len % 4 == 0)) _ _ b.1 in
    let d = row_none (nat_lt most_block len) _ _ c.1 in
    let e = row_none (nat_lt (length bytes) len) _ _ d.1 in
    let f = row_none (not (word32_at order bytes (len - 4) == len)) _ _ e.1 in
    let lens = or_parts (nat_lt len (min_len kind)) (not (len % 4 == 0)) c.0 in
    record {
      long = ltb-false (length bytes) 12 a.0;
      known = b.0;
      least = ltb-false len (min_len kind) lens.0;
      aligned = eqb-true (len % 4) 0 (not-false (len % 4 == 0) lens.1);
      most = ltb-false most_block len d.0;
      within = ltb-false (length bytes) len e.0;
      trailing = eqb-true (word32_at order bytes (len - 4)) len
          (not-false (word32_at order bytes (len - 4) == len) f.0);
      body = f.1;
    }

pub none_of : (before : ByteOrder) (interfaces : List Interface) (order : ByteOrder) (kind : BlockKind) (magic len : ℕ)
    (bytes : List ℕ)
    → Passes before interfaces order kind magic len bytes
    → first_row (rows_of before interfaces order kind magic len bytes) ≡ None
none_of before interfaces order kind magic len bytes passed =
    row_pass (nat_lt (length bytes) 12) _ _ (le-ltb (length bytes) 12 passed.long)
    ∙ row_pass (has_no_order before kind magic) _ _ passed.known
    ∙ row_pass (nat_lt len (min_len kind) || not (len % 4 == 0)) _ _
    (or_from (nat_lt len (min_len kind)) (not (len % 4 == 0)) (le-ltb len (min_len kind) passed.least)
    (not_from_true (len % 4 == 0) (eq-eqb (len % 4) 0 passed.aligned)))
    ∙ row_pass (nat_lt most_block len) _ _ (le-ltb most_block len passed.most)
    ∙ row_pass (nat_lt (length bytes) len) _ _ (le-ltb (length bytes) len passed.within)
    ∙ row_pass (not (word32_at order bytes (len - 4) == len)) _ _
    (not_from_true (word32_at order bytes (len - 4) == len)
    (eq-eqb (word32_at order bytes (len - 4)) len passed.trailing))
    ∙ passed.body

pub least_12 : (kind : BlockKind) → 12 ≤ min_len kind
least_12 SectionHeader = omega arith
least_12 InterfaceDescription = omega arith
least_12 SimplePacket = omega arith
least_12 EnhancedPacket = omega arith
least_12 ObsoletePacket = omega arith
least_12 Other = omega arith

-- A multiple of four plus twelve is a multiple of four.
aligned_with_header : (n : ℕ) → n % 4 ≡ 0 → (12 + n) % 4 ≡ 0
aligned_with_header n aligned = omega (arith, aligned)

-- the block that parsing returns, and the bytes after it
abbrev pub block_read : Section → List ℕ → PlainBlock × List ℕ
block_read section bytes =
    (block_in section bytes, drop (word32_at (order_in section.order bytes) bytes 4) bytes)

-- A body that no row rejects is that of a valid block of its kind.
holds_with : (section : Section) (kind : BlockKind) (bytes : List ℕ) (len : ℕ) → AreBytes bytes
    → kind_of (word32_at section.order bytes 0) ≡ kind
    → let order = order_of section.order kind (word32_at Big bytes 8) in
    let body = slice_range bytes 8 (len - 4) in
    AreBytes body → length body ≡ len - 12 → drop 8 bytes ≡ body ++ drop (len - 4) bytes
    → Passes section.order section.interfaces order kind (word32_at Big bytes 8) len bytes
    → Holds section order (word32_at section.order bytes 0) body
    (block_of section.interfaces order kind (word32_at section.order bytes 0) body)
holds_with section SectionHeader bytes len fits is body_fits size split passed =
    let before = section.order in
    let magic = word32_at Big bytes 8 in
    let order = order_or before (byte_order_of_magic magic) in
    let body = slice_range bytes 8 (len - 4) in
    let same : word32_at Big body 0 ≡ magic =
    sym (word32_at-more Big body (drop (len - 4) bytes) 0 (omega (arith, size, passed.least)))
    ∙ ap (λ (s : List ℕ). word32_at Big s 0) (sym split) ∙ word32_at-drop Big bytes 8 in
    let written = ap (word32 Big) same ∙ stated_written before magic (byte_order_of_magic magic) refl passed.known in
    let read = header_reads order order len (slice_range bytes 8 (len - 4)) body_fits
    (omega (arith, size, passed.least)) written passed.body in
    record {
      fits = read.0;
      order_is = refl;
      number_is = ap (word32 before) (number_section (word32_at before bytes 0) is) ∙ section_number order before;
      body_is = read.1;
    }
holds_with section InterfaceDescription bytes len fits is body_fits size split passed =
    let read = interface_reads section len (slice_range bytes 8 (len - 4)) body_fits
    (omega (arith, size, passed.least)) passed.body in
    record {
      fits = read.0;
      order_is = refl;
      number_is = ap (word32 section.order) (number_interface (word32_at section.order bytes 0) is);
      body_is = read.1;
    }
holds_with section SimplePacket bytes len fits is body_fits size split passed =
    let read = simple_reads section len (slice_range bytes 8 (len - 4)) body_fits
    (omega (arith, size, passed.least)) passed.body in
    record {
      fits = read.0;
      order_is = refl;
      number_is = ap (word32 section.order) (number_simple (word32_at section.order bytes 0) is);
      body_is = read.1;
    }
holds_with section EnhancedPacket bytes len fits is body_fits size split passed =
    let read = enhanced_reads section len (slice_range bytes 8 (len - 4)) body_fits
    (omega (arith, size, passed.least)) passed.body in
    record {
      fits = read.0;
      order_is = refl;
      number_is = ap (word32 section.order) (number_enhanced (word32_at section.order bytes 0) is);
      body_is = read.1;
    }
holds_with section ObsoletePacket bytes len fits is body_fits size split passed =
    let read = obsolete_reads section len (slice_range bytes 8 (len - 4)) body_fits
    (omega (arith, size, passed.least)) passed.body in
    record {
      fits = read.0;
      order_is = refl;
      number_is = ap (word32 section.order) (number_obsolete (word32_at section.order bytes 0) is);
      body_is = read.1;
    }
holds_with section Other bytes len fits is body_fits size split passed = record {
  fits = record { number = word32_at-fits section.order bytes 0 fits; kind = is };
  order_is = refl;
  number_is = refl;
  body_is = refl;
}

reads_with : (section : Section) (kind : BlockKind) (bytes : List ℕ) → AreBytes bytes
    → kind_of (word32_at section.order bytes 0) ≡ kind
    → let order = order_of section.order kind (word32_at Big bytes 8) in
    let len = word32_at order bytes 4 in
    Passes section.order section.interfaces order kind (word32_at Big bytes 8) len bytes
    → IsBlock section bytes (
      block_of section.interfaces order kind (word32_at section.order bytes 0) (slice_range bytes 8 (len - 4)),
      drop len bytes,
    )
reads_with section kind bytes fits is passed =
    let order = order_of section.order kind (word32_at Big bytes 8) in
    let len = word32_at order bytes 4 in
    let body = slice_range bytes 8 (len - 4) in
    let long : 12 ≤ len = omega (arith, least_12 kind, passed.least) in
    let prefix = frame_prefix section.order order bytes len fits long passed.within refl passed.trailing in
    let body_fits = AreBytes-take (len - 4 - 8) (drop 8 bytes) (AreBytes-drop 8 bytes fits) in
    holds_block section order (word32_at section.order bytes 0) len bytes body (drop len bytes)
    (block_of section.interfaces order kind (word32_at section.order bytes 0) body)
    (holds_with section kind bytes len fits is body_fits prefix.0 prefix.1 passed)
    (omega (arith, prefix.0, long)) passed.most passed.aligned prefix.2

block_reads : (section : Section) (bytes : List ℕ) → AreBytes bytes → first_row (block_rows section bytes) ≡ None
    → IsBlock section bytes (block_read section bytes)
block_reads section bytes fits none =
    let kind = kind_in section.order bytes in
    let order = order_in section.order bytes in
    reads_with section kind bytes fits refl
    (passes section.order section.interfaces order kind (word32_at Big bytes 8) (word32_at order bytes 4) bytes none)

-- ---- bytes of a block

abbrev block_kind : PlainBlock → BlockKind
block_kind (header plain) = SectionHeader
block_kind (interface plain) = InterfaceDescription
block_kind (enhanced plain) = EnhancedPacket
block_kind (obsolete plain) = ObsoletePacket
block_kind (simple plain) = SimplePacket
block_kind (other plain) = Other

number_fits : (section : Section) (block : PlainBlock) → FitsContent section block → block_number block < 2 ^ 32
number_fits section (header plain) fits = omega arith
number_fits section (interface plain) fits = omega arith
number_fits section (enhanced plain) fits = omega arith
number_fits section (obsolete plain) fits = omega arith
number_fits section (simple plain) fits = omega arith
number_fits section (other plain) fits = fits.number

kind_of_block : (section : Section) (block : PlainBlock) → FitsContent section block
    → kind_of (block_number block) ≡ block_kind block
kind_of_block section (header plain) fits = refl
kind_of_block section (interface plain) fits = refl
kind_of_block section (enhanced plain) fits = refl
kind_of_block section (obsolete plain) fits = refl
kind_of_block section (simple plain) fits = refl
kind_of_block section (other plain) fits = fits.kind

number_written : (before : ByteOrder) (block : PlainBlock)
    → word32 (block_order before block) (block_number block) ≡ word32 before (block_number block)
number_written before (header plain) = sym (section_number plain.order before)
number_written before (interface plain) = refl
number_written before (enhanced plain) = refl
number_written before (obsolete plain) = refl
number_written before (simple plain) = refl
number_written before (other plain) = refl

-- The byte order of a block is read from its bytes.
order_read : (section : Section) (block : PlainBlock) (bytes after : List ℕ)
    → drop 8 bytes ≡ block_body (block_order section.order block) block ++ after
    → (order_of section.order (block_kind block) (word32_at Big bytes 8) ≡ block_order section.order block)
    × (has_no_order section.order (block_kind block) (word32_at Big bytes 8) ≡ false)
order_read section (header plain) bytes after parts =
    let order = plain.order in
    let rest = word16 order 1 ++ word16 order plain.minor ++ plain.rest ++ after in
    let all : drop 8 bytes ≡ word32 order 0x1a2b3c4d ++ rest = parts ∙ simp append_assoc in
    let magic : word32_at Big bytes 8 ≡ word32_at Big (word32 order 0x1a2b3c4d ++ rest) 0 =
    sym (word32_at-drop Big bytes 8) ∙ ap (λ (s : List ℕ). word32_at Big s 0) all in
    let stated : byte_order_of_magic (word32_at Big bytes 8) ≡ Some order = ap byte_order_of_magic magic ∙ magic_read order rest in (
      ap (order_or section.order) stated,
      ap (λ (o : Option ByteOrder). not (is_some o)) stated,
    )
order_read section (interface plain) bytes after parts = (refl, refl)
order_read section (enhanced plain) bytes after parts = (refl, refl)
order_read section (obsolete plain) bytes after parts = (refl, refl)
order_read section (simple plain) bytes after parts = (refl, refl)
order_read section (other plain) bytes after parts = (refl, refl)

-- The body of the block is not rejected, and is read as the block.
record IsKept (section : Section) (block : PlainBlock) (number len : ℕ) (body : List ℕ) : Type 0 where
  none : first_row (body_rows section.interfaces (block_order section.order block) (block_kind block) len body) ≡ None
  is : block_of section.interfaces (block_order section.order block) (block_kind block) number body ≡ block
  least : min_len (block_kind block) ≤ 12 + length body

kept : (section : Section) (block : PlainBlock) (len : ℕ) (body : List ℕ) → FitsContent section block
    → body ≡ block_body (block_order section.order block) block
    → IsKept section block (block_number block) len body
kept section (header plain) len body fits is =
    let read = header_is_read plain.order len section.interfaces plain body fits is in
    record { none = read.0; is = ap (λ p. header p) read.1; least = omega (arith, read.2) }
kept section (interface plain) len body fits is =
    let read = interface_is_read section len plain body fits is in
    record { none = read.0; is = ap (λ p. interface p) read.1; least = omega (arith, read.2) }
kept section (enhanced plain) len body fits is =
    let read = enhanced_is_read section len plain body fits is in
    record { none = read.0; is = ap (λ p. enhanced p) read.1; least = omega (arith, read.2) }
kept section (obsolete plain) len body fits is =
    let read = obsolete_is_read section len plain body fits is in
    record { none = read.0; is = ap (λ p. obsolete p) read.1; least = omega (arith, read.2) }
kept section (simple plain) len body fits is =
    let read = simple_is_read section len plain body fits is in
    record { none = read.0; is = ap (λ p. simple p) read.1; least = omega (arith, read.2) }
kept section (other plain) len body fits is = record {
  none = refl;
  is = ap (λ (s : List ℕ). other (record { kind = plain.kind; body = s })) is;
  least = omega arith;
}

-- The fields of a block are found in its bytes.
record Framed (section : Section) (block : PlainBlock) (bytes rest : List ℕ) : Type 0 where
  number : word32_at section.order bytes 0 ≡ block_number block
  order : order_in section.order bytes ≡ block_order section.order block
  kind : kind_in section.order bytes ≡ block_kind block
  known : has_no_order section.order (block_kind block) (word32_at Big bytes 8) ≡ false
  len : word32_at (block_order section.order block) bytes 4 ≡ block_len (block_order section.order block) block
  body : slice_range bytes 8 (block_len (block_order section.order block) block - 4)
      ≡ block_body (block_order section.order block) block
  trailing : word32_at (block_order section.order block) bytes (block_len (block_order section.order block) block - 4)
      ≡ block_len (block_order section.order block) block
  after : drop (block_len (block_order section.order block) block) bytes ≡ rest
  long : length bytes ≡ block_len (block_order section.order block) block + length rest

framed : (section : Section) (block : PlainBlock) (bytes rest : List ℕ) → IsBlock section bytes (block, rest)
    → Framed section block bytes rest
framed section block bytes rest is =
    let before = section.order in
    let order = block_order before block in
    let number = block_number block in
    let len = block_len order block in
    let body = block_body order block in
    let len_fits : len < 2 ^ 32 = omega (arith, is.fits.len) in
    let parts = is.parts ∙ block_parts before block rest in
    let tail = word32 order len ++ (body ++ (word32 order len ++ rest)) in
    let first = word32_read before number 0 bytes tail (number_fits section block is.fits.content)
    (parts ∙ ap (λ (s : List ℕ). s ++ tail) (number_written before block)) in
    let second = word32_read order len 4 bytes (body ++ (word32 order len ++ rest)) len_fits first.1 in
    let third = range_read bytes body (word32 order len ++ rest) 8 (length body) second.1 refl in
    let place : len - 4 ≡ 8 + length body = omega arith in
    let end : len ≡ 8 + length body + 4 = omega arith in
    let last = word32_read order len (8 + length body) bytes rest len_fits third.1 in
    let kind : kind_in before bytes ≡ block_kind block =
    ap kind_of first.0 ∙ kind_of_block section block is.fits.content in
    let stated = order_read section block bytes (word32 order len ++ rest) second.1 in
    let size : length bytes ≡ 4 + (4 + (length body + (4 + length rest))) =
    ap length parts ∙ length-append (word32 order number) tail
    ∙ ap (λ (n : ℕ). n + length tail) (length-word32 order number)
    ∙ ap (λ (n : ℕ). 4 + n) (length-append (word32 order len) (body ++ (word32 order len ++ rest))
    ∙ ap (λ (n : ℕ). n + length (body ++ (word32 order len ++ rest))) (length-word32 order len)
    ∙ ap (λ (n : ℕ). 4 + n) (length-append body (word32 order len ++ rest)
    ∙ ap (λ (n : ℕ). length body + n) (length-append (word32 order len) rest
    ∙ ap (λ (n : ℕ). n + length rest) (length-word32 order len)))) in
    record {
      number = first.0;
      order = ap (λ k. order_of before k (word32_at Big bytes 8)) kind ∙ stated.0;
      kind = kind;
      known = stated.1;
      len = second.0;
      body = ap (slice_range bytes 8) place ∙ third.0;
      trailing = ap (word32_at order bytes) place ∙ last.0;
      after = ap (λ (n : ℕ). drop n bytes) end ∙ last.1;
      long = omega (arith, size);
    }

block_is_read : (section : Section) (bytes : List ℕ) (value : PlainBlock × List ℕ) → IsBlock section bytes value
    → (first_row (block_rows section bytes) ≡ None) × (value ≡ block_read section bytes)
block_is_read section bytes (block, rest) is =
    let interfaces = section.interfaces in
    let order = block_order section.order block in
    let kind = block_kind block in
    let len = block_len order block in
    let magic = word32_at Big bytes 8 in
    let found = framed section block bytes rest is in
    let content = kept section block len (slice_range bytes 8 (len - 4)) is.fits.content found.body in
    let body_len = ap length found.body in
    let len_is : word32_at (order_in section.order bytes) bytes 4 ≡ len =
    ap (λ o. word32_at o bytes 4) found.order ∙ found.len in
    let passed : Passes section.order interfaces order kind magic len bytes = record {
      long = omega (arith, found.long);
      known = found.known;
      least = omega (arith, content.least, body_len);
      aligned = aligned_with_header (length (block_body order block)) is.fits.aligned;
      most = is.fits.len;
      within = omega (arith, found.long);
      trailing = found.trailing;
      body = content.none;
    } in
    let rows : block_rows section bytes ≡ rows_of section.order interfaces order kind magic len bytes =
    λ i. rows_of section.order interfaces (found.order i) (found.kind i) magic (len_is i) bytes in
    let same : block_of interfaces order kind (word32_at section.order bytes 0) (slice_range bytes 8 (len - 4))
    ≡ block =
    ap (λ (n : ℕ). block_of interfaces order kind n (slice_range bytes 8 (len - 4))) found.number ∙ content.is in
    let read : block_in section bytes
    ≡ block_of interfaces order kind (word32_at section.order bytes 0) (slice_range bytes 8 (len - 4)) =
    λ i. block_of interfaces (found.order i) (found.kind i) (word32_at section.order bytes 0)
    (slice_range bytes 8 (len_is i - 4)) in (
      ap first_row rows
          ∙ none_of section.order interfaces order kind magic len bytes passed,
      λ i. (sym (read ∙ same) i, sym (ap (λ (n : ℕ). drop n bytes) len_is ∙ found.after) i),
    )

-- A block begins with its block type.
pub number_of_block : (section : Section) (block : PlainBlock) (bytes rest : List ℕ) → IsBlock section bytes
    (block, rest)
    → (word32_at section.order bytes 0 ≡ block_number block) × (12 ≤ length bytes)
number_of_block section block bytes rest is =
    let found = framed section block bytes rest is in (found.number, omega (arith, found.long))

-- A block that is read as a whole is not a long block.
not_long : (section : Section) (block : PlainBlock) (bytes : List ℕ) → kind_in section.order bytes ≡ block_kind block
    → word32_at (block_order section.order block) bytes 4 ≡ block_len (block_order section.order block) block
    → block_len (block_order section.order block) block ≤ most_block
    → is_other (kind_in section.order bytes) && nat_lt most_block (word32_at section.order bytes 4) ≡ false
not_long section (header plain) bytes kind len most =
    ap (λ k. is_other k && nat_lt most_block (word32_at section.order bytes 4)) kind
not_long section (interface plain) bytes kind len most =
    ap (λ k. is_other k && nat_lt most_block (word32_at section.order bytes 4)) kind
not_long section (enhanced plain) bytes kind len most =
    ap (λ k. is_other k && nat_lt most_block (word32_at section.order bytes 4)) kind
not_long section (obsolete plain) bytes kind len most =
    ap (λ k. is_other k && nat_lt most_block (word32_at section.order bytes 4)) kind
not_long section (simple plain) bytes kind len most =
    ap (λ k. is_other k && nat_lt most_block (word32_at section.order bytes 4)) kind
not_long section (other plain) bytes kind len most =
    let few = le-ltb most_block (word32_at section.order bytes 4) (omega (arith, len, most)) in
    λ i. is_other (kind i) && few i

pub block_not_long : (section : Section) (block : PlainBlock) (bytes rest : List ℕ) → IsBlock section bytes
    (block, rest)
    → is_other (kind_in section.order bytes) && nat_lt most_block (word32_at section.order bytes 4) ≡ false
block_not_long section block bytes rest is =
    let found = framed section block bytes rest is in
    not_long section block bytes found.kind found.len is.fits.len

-- A block has at least one byte.
pub block_some : (before : ByteOrder) (block : PlainBlock) → 0 < length (block_bytes before block)
block_some before block =
    let order = block_order before block in
    let tail = word32 order (block_len order block) ++ (block_body order block
    ++ (word32 order (block_len order block) ++ [])) in
    omega (
      arith,
      ap length (block_parts before block []),
      length-append (block_bytes before block) [],
      length-append (word32 order (block_number block)) tail,
      length-word32 order (block_number block),
    )

-- A block that begins a section has the type of a section header, and is no packet.
pub section_block : (one : PlainBlock) → BeginsSection one → block_number one ≡ 0x0a0d0d0a
section_block (header plain) begins = refl
section_block (interface plain) begins = absurd begins
section_block (enhanced plain) begins = absurd begins
section_block (obsolete plain) begins = absurd begins
section_block (simple plain) begins = absurd begins
section_block (other plain) begins = absurd begins

pub shows_none : (interfaces : List Interface) (one : PlainBlock) → BeginsSection one → block_shown interfaces one
    ≡ None
shows_none interfaces (header plain) begins = refl
shows_none interfaces (interface plain) begins = absurd begins
shows_none interfaces (enhanced plain) begins = absurd begins
shows_none interfaces (obsolete plain) begins = absurd begins
shows_none interfaces (simple plain) begins = absurd begins
shows_none interfaces (other plain) begins = absurd begins

-- Bytes either begin with exactly one block or are rejected with one error.
pub block_is_read_by : (section : Section) → IsReadBy (IsBlock section) (block_rows section) (block_read section)
block_is_read_by section = record { reads = block_reads section; is_read = block_is_read section }
