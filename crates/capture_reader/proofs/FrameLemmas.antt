-- The framing of a block, as it is parsed.
use Rattle.std.proofs.Common.{◌≡◌, ℕ, ◌+◌, ◌-◌, ◌<◌, ◌≤◌}
use Rattle.std.proofs.Common.{List, None, length, drop, slice_range, refl, sym, ap, subst, ◌∙◌}
use Rattle.std.proofs.Common.{Bool, false, ◌&&◌, nat_le, nat_lt}
use Rattle.std.proofs.Common.{length-drop, length-take-le, arith}
use Rattle.std.proofs.Math.Bool.{and-false}
use Rattle.std.proofs.lemmas.Grind.{common_steps}
use Rattle.std.proofs.lemmas.Option.{none-some}
use Rattle.ep_base.specs.Bytes.{AreBytes}
use Rattle.ep_base.specs.Tables.{Refuses, first_row}
use Rattle.ep_base.proofs.TableLemmas.{refused_is_not}
use Rattle.capture_reader.specs.Numbers.{word32_at}
use Rattle.capture_reader.specs.Blocks.{BeginsNoBlock, IsBlock, RefusesBlock, Section, kind_in, section_after}
use Rattle.capture_reader.specs.Blocks.{block_in, block_of, block_rows, body_rows}
use Rattle.capture_reader.specs.Blocks.{is_other, most_block, order_in, order_of}
use Rattle.capture_reader.specs.BlockContents.{FitsLen, FitsSectionOrder, HasContent, IsFramed, content_interfaces}
use Rattle.capture_reader.specs.BlockContents.{content_shown}
use Rattle.capture_reader.specs.BlockContents.{section_of}
use Rattle.capture_reader.specs.Captures.{begins_long, block_shown}
use Rattle.capture_reader.specs.declared.block.BlockKind.{BlockKind}
use Rattle.capture_reader.specs.declared.block.BlockKind.TheVariants.{SectionHeader, InterfaceDescription, SimplePacket}
use Rattle.capture_reader.specs.declared.block.BlockKind.TheVariants.{EnhancedPacket, ObsoletePacket, Other}
use Rattle.capture_reader.specs.declared.block.Content.{Content}
use Rattle.capture_reader.specs.declared.block.Framing.{Framing}
use Rattle.capture_reader.specs.declared.byte_order.ByteOrder.{ByteOrder}
use Rattle.capture_reader.specs.declared.byte_order.ByteOrder.TheVariants.{Big}
use Rattle.capture_reader.specs.declared.interface.Interface.{Interface}
use Rattle.capture_reader.specs.declared.refusal.Refusal.{Refusal}
use Rattle.capture_reader.proofs.BlockLemmas.{block_is_read_by, least_12, none_of, passes, rows_of}

framed_len : (before : ByteOrder) (bytes : List ℕ) (frame : Framing) → IsFramed before bytes frame
    → word32_at (order_in before bytes) bytes 4 ≡ frame.len
framed_len before bytes frame is = ap (λ o. word32_at o bytes 4) (sym is.order_is) ∙ sym is.len

framed_rows : (before : ByteOrder) (bytes : List ℕ) (frame : Framing) (interfaces : List Interface)
    → IsFramed before bytes frame
    → block_rows (section_of before interfaces) bytes
    ≡ rows_of before interfaces frame.order frame.kind (word32_at Big bytes 8) frame.len bytes
framed_rows before bytes frame interfaces is =
    let lens = framed_len before bytes frame is in
    λ i. rows_of before interfaces (sym is.order_is i) (sym is.kind i) (word32_at Big bytes 8) (lens i) bytes

-- If the framing is valid and the body is not rejected, the block is not rejected.
pub framed_none : (before : ByteOrder) (bytes : List ℕ) (frame : Framing) (interfaces : List Interface)
    → IsFramed before bytes frame
    → first_row (body_rows interfaces frame.order frame.kind frame.len (slice_range bytes 8 (frame.len - 4))) ≡ None
    → first_row (block_rows (section_of before interfaces) bytes) ≡ None
framed_none before bytes frame interfaces is none =
    ap first_row (framed_rows before bytes frame interfaces is)
    ∙ none_of before interfaces frame.order frame.kind (word32_at Big bytes 8) frame.len bytes (record {
      long = omega (arith, is.within, is.least, least_12 frame.kind);
      known = is.known;
      least = is.least;
      aligned = is.aligned;
      most = is.most;
      within = is.within;
      trailing = is.trailing;
      body = none;
    })

pub framed_block : (before : ByteOrder) (bytes : List ℕ) (frame : Framing) (interfaces : List Interface)
    → IsFramed before bytes frame
    → block_in (section_of before interfaces) bytes
    ≡ block_of interfaces frame.order frame.kind (word32_at before bytes 0) (slice_range bytes 8 (frame.len - 4))
framed_block before bytes frame interfaces is =
    let lens = framed_len before bytes frame is in
    λ i. block_of interfaces (sym is.order_is i) (sym is.kind i) (word32_at before bytes 0)
    (slice_range bytes 8 (lens i - 4))

holds_as : (before order : ByteOrder) (kind : BlockKind) (magic : ℕ) → order ≡ order_of before kind magic
    → FitsSectionOrder kind order before
holds_as before order SectionHeader magic is = tt
holds_as before order InterfaceDescription magic is = is
holds_as before order SimplePacket magic is = is
holds_as before order EnhancedPacket magic is = is
holds_as before order ObsoletePacket magic is = is
holds_as before order Other magic is = is

pub framed_holds : (before : ByteOrder) (bytes : List ℕ) (frame : Framing) → IsFramed before bytes frame
    → FitsSectionOrder frame.kind frame.order before
framed_holds before bytes frame is =
    holds_as before frame.order frame.kind (word32_at Big bytes 8)
    (is.order_is ∙ ap (λ k. order_of before k (word32_at Big bytes 8)) (sym is.kind))

-- A block with valid framing and this content is read as a block of that content.
pub complete_block : (before : ByteOrder) (bytes : List ℕ) (frame : Framing) (interfaces : List Interface)
    (content : Content)
    → AreBytes bytes → IsFramed before bytes frame
    → HasContent interfaces frame.order frame.kind frame.len (slice_range bytes 8 (frame.len - 4)) content
    → let section = section_of before interfaces in
    IsBlock section bytes (block_in section bytes, drop frame.len bytes)
    × (section_after section (block_in section bytes) ≡ section_of frame.order (content_interfaces interfaces content))
    × (block_shown interfaces (block_in section bytes) ≡ content_shown (slice_range bytes 8 (frame.len - 4)) content)
    × FitsLen content frame.len
complete_block before bytes frame interfaces content fits is says =
    let section = section_of before interfaces in
    let number = word32_at before bytes 0 in
    let block = framed_block before bytes frame interfaces is in
    let long : 12 ≤ frame.len = omega (arith, is.least, least_12 frame.kind) in
    let body : length (slice_range bytes 8 (frame.len - 4)) ≡ frame.len - 4 - 8 =
    length-take-le (frame.len - 4 - 8) (drop 8 bytes) (omega (arith, is.within, length-drop 8 bytes)) in
    let size : 12 + length (slice_range bytes 8 (frame.len - 4)) ≡ frame.len = omega (arith, body, long) in
    let read = (block_is_read_by section).reads bytes fits (framed_none before bytes frame interfaces is says.none) in
    let One : ℕ → Type 0 = λ n. IsBlock section bytes (block_in section bytes, drop n bytes) in (
      subst One (framed_len before bytes frame is) read,
      ap (section_after section) block ∙ says.after before number (framed_holds before bytes frame is),
      ap (block_shown interfaces) block ∙ says.shown number,
      subst (FitsLen content) size says.fits,
    )

not_parts : (before : ByteOrder) (kind : BlockKind) (magic len : ℕ) (bytes : List ℕ)
    → len ≡ word32_at (order_of before kind magic) bytes 4 → len ≤ most_block
    → (is_other kind && nat_lt most_block (word32_at before bytes 4)) ≡ false
not_parts before SectionHeader magic len bytes is most = refl
not_parts before InterfaceDescription magic len bytes is most = refl
not_parts before SimplePacket magic len bytes is most = refl
not_parts before EnhancedPacket magic len bytes is most = refl
not_parts before ObsoletePacket magic len bytes is most = refl
not_parts before Other magic len bytes is most = grind (arith, common_steps)

-- A complete block is not a long block.
pub framed_short : (before : ByteOrder) (bytes : List ℕ) (frame : Framing) → IsFramed before bytes frame
    → begins_long before bytes ≡ false
framed_short before bytes frame is =
    let magic = word32_at Big bytes 8 in
    let long = nat_le 8 (length bytes) in
    let order = is.order_is ∙ ap (λ k. order_of before k magic) (sym is.kind) in
    ap (λ k. long && (is_other k && nat_lt most_block (word32_at before bytes 4))) (sym is.kind)
    ∙ ap (λ (b : Bool). long && b)
    (not_parts before frame.kind magic frame.len bytes (is.len ∙ ap (λ o. word32_at o bytes 4) order) is.most)
    ∙ and-false long

-- Bytes that are shorter than each block begin with no block.
pub few_no_block : (before : ByteOrder) (interfaces : List Interface) (bytes : List ℕ) → length bytes < 12
    → BeginsNoBlock (section_of before interfaces) bytes
few_no_block before interfaces bytes few read is =
    let order = order_in before bytes in
    let none = ((block_is_read_by (section_of before interfaces)).is_read bytes read is).0 in
    let passed = passes before interfaces order (kind_in before bytes) (word32_at Big bytes 8) (word32_at order bytes 4)
    bytes none in
    omega (arith, few, passed.long)

-- A block that a row rejects is no block.
pub refused_no_block : (section : Section) (bytes : List ℕ) (e : Refusal) → RefusesBlock section bytes e
    → BeginsNoBlock section bytes
refused_no_block section bytes e refused read is = refused_is_not (block_is_read_by section) bytes read e refused is

-- A block whose framing is valid and whose body is rejected is no block.
pub body_no_block : (before : ByteOrder) (bytes : List ℕ) (frame : Framing) (interfaces : List Interface) (e : Refusal)
    → IsFramed before bytes frame
    → Refuses (body_rows interfaces frame.order frame.kind frame.len (slice_range bytes 8 (frame.len - 4))) e
    → BeginsNoBlock (section_of before interfaces) bytes
body_no_block before bytes frame interfaces e framed refused read is =
    let none = ((block_is_read_by (section_of before interfaces)).is_read bytes read is).0 in
    let passed = passes before interfaces frame.order frame.kind (word32_at Big bytes 8) frame.len bytes
    (ap first_row (sym (framed_rows before bytes frame interfaces framed)) ∙ none) in
    none-some e (sym passed.body ∙ refused)
