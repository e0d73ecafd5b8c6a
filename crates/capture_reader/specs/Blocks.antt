-- The pcapng capture format (draft-ietf-opsawg-pcapng): sections of blocks. Each block has its length before and after
-- its body.
use Rattle.std.specs.Prelude.{◌≡◌, ℕ, ◌+◌, ◌-◌, ◌%◌, ◌^◌, ◌<◌, ◌≤◌, ◌==◌, ◌&&◌, ◌||◌, Bool, true, false, not, is_some}
use Rattle.std.specs.Prelude.{nat_lt}
use Rattle.std.specs.Prelude.{if◌then◌else◌, List, [], ◌∷◌, ◌++◌, Option, Some, None, length, drop, slice_index_or}
use Rattle.std.specs.Prelude.{slice_range}
use Rattle.std.specs.Prelude.{pos}
use Rattle.ep_base.specs.Tables.{Refuses}
use Rattle.capture_reader.specs.Numbers.{word16, word32, word16_at, word32_at}
use Rattle.capture_reader.specs.Classic.{most_kept}
use Rattle.capture_reader.specs.Options.{AreOptions, PlainOption, ends_options, has_len, options_end}
use Rattle.capture_reader.specs.Options.{knows_resolution, offset_or_zero, options_bytes, options_of, padding_of}
use Rattle.capture_reader.specs.Options.{per_second_of, resolution_or_default, value_len, value_of}
use Rattle.capture_reader.specs.declared.block.BlockKind.{BlockKind}
use Rattle.capture_reader.specs.declared.block.BlockKind.TheVariants.{SectionHeader, InterfaceDescription, SimplePacket}
use Rattle.capture_reader.specs.declared.block.BlockKind.TheVariants.{EnhancedPacket, ObsoletePacket, Other}
use Rattle.capture_reader.specs.declared.byte_order.ByteOrder.{ByteOrder}
use Rattle.capture_reader.specs.declared.byte_order.ByteOrder.TheVariants.{Big, Little}
use Rattle.capture_reader.specs.declared.interface.Interface.{Interface}
use Rattle.capture_reader.specs.declared.refusal.Refusal.{Refusal}
use Rattle.capture_reader.specs.declared.refusal.Refusal.TheVariants as refusal

-- ---- block contents

-- a Section Header Block (4.1): byte order, minor version, and then the section length and options, which are not
-- interpreted
pub record PlainHeader : Type 0 where
  pub order : ByteOrder
  pub minor : ℕ
  pub rest : List ℕ

-- an Interface Description Block (4.2); after its options come no bytes, or the end-of-options marker and any bytes
pub record PlainInterface : Type 0 where
  pub link_type : ℕ
  pub reserved : ℕ
  pub snap_len : ℕ
  pub options : List PlainOption
  pub ending : List ℕ

-- an Enhanced Packet Block (4.3): the number of its interface, the upper and lower half of its timestamp, the original
-- length, the captured bytes, their padding, and options, which are not interpreted
pub record PlainEnhanced : Type 0 where
  pub number : ℕ
  pub high : ℕ
  pub low : ℕ
  pub original_len : ℕ
  pub bytes : List ℕ
  pub padding : List ℕ
  pub options : List ℕ

-- an obsolete Packet Block (appendix A): its interface number has two bytes, and the number of dropped packets, also
-- two bytes, is not interpreted
pub record PlainObsolete : Type 0 where
  pub drops : ℕ
  pub packet : PlainEnhanced

-- a Simple Packet Block (4.4), which has no timestamp and belongs to the section's first interface; bytes after its
-- padding are not interpreted
pub record PlainSimple : Type 0 where
  pub original_len : ℕ
  pub bytes : List ℕ
  pub padding : List ℕ
  pub rest : List ℕ

-- a block of another kind, whose body is not interpreted
pub record PlainOther : Type 0 where
  pub kind : ℕ
  pub body : List ℕ

pub data PlainBlock : Type 0 where
  header : PlainHeader → PlainBlock
  interface : PlainInterface → PlainBlock
  enhanced : PlainEnhanced → PlainBlock
  obsolete : PlainObsolete → PlainBlock
  simple : PlainSimple → PlainBlock
  other : PlainOther → PlainBlock

-- a section as read so far: its byte order and its interfaces
pub record Section : Type 0 where
  pub order : ByteOrder
  pub interfaces : List Interface

-- the state before the first section
abbrev pub no_section : Section
no_section = record { order = Big; interfaces = [] }

-- the description of an interface that its block contains
abbrev pub interface_of : ByteOrder → PlainInterface → Interface
interface_of order plain = record {
  link_type = plain.link_type;
  snap_len = plain.snap_len;
  per_second = per_second_of (resolution_or_default (value_of 9 plain.options));
  offset = offset_or_zero order (value_of 14 plain.options);
}

-- the description used for a number without interface
abbrev pub no_interface : Interface
no_interface = record { link_type = 0; snap_len = 0; per_second = 0; offset = pos 0 }

-- the interface with this number
abbrev pub interface_at : List Interface → ℕ → Interface
interface_at interfaces number = slice_index_or interfaces number no_interface

-- the section after a block
abbrev pub section_after : Section → PlainBlock → Section
section_after section (header plain) = record { order = plain.order; interfaces = [] }
section_after section (interface plain) =
    record section { interfaces = section.interfaces ++ interface_of section.order plain ∷ [] }
section_after section block = section

-- ---- wire bytes

-- the block type of a kind; 0 for `Other`, which is no single type
abbrev pub number_of : BlockKind → ℕ
number_of SectionHeader = 0x0a0d0d0a
number_of InterfaceDescription = 1
number_of SimplePacket = 3
number_of EnhancedPacket = 6
number_of ObsoletePacket = 2
number_of Other = 0

-- the kind of a block type
abbrev pub kind_of : ℕ → BlockKind
kind_of number =
    if number == 0x0a0d0d0a then SectionHeader else
    (if number == 1 then InterfaceDescription else
    (if number == 2 then ObsoletePacket else
    (if number == 3 then SimplePacket else
    (if number == 6 then EnhancedPacket else Other))))

-- the block type of a block
abbrev pub block_number : PlainBlock → ℕ
block_number (header plain) = number_of SectionHeader
block_number (interface plain) = number_of InterfaceDescription
block_number (enhanced plain) = number_of EnhancedPacket
block_number (obsolete plain) = number_of ObsoletePacket
block_number (simple plain) = number_of SimplePacket
block_number (other plain) = plain.kind

-- the byte order of a block: a section header states its own, which is also that of the blocks after it
abbrev pub block_order : ByteOrder → PlainBlock → ByteOrder
block_order order (header plain) = plain.order
block_order order block = order

-- the bytes of a packet block from the timestamp on, which follow the interface number (and in an obsolete Packet Block
-- the number of dropped packets): timestamp, captured length, original length, captured bytes, padding and options
abbrev pub packet_body : ByteOrder → PlainEnhanced → List ℕ
packet_body order plain =
    word32 order plain.high ++ word32 order plain.low
    ++ word32 order (length plain.bytes) ++ word32 order plain.original_len
    ++ plain.bytes ++ plain.padding ++ plain.options

-- the body of a block
abbrev pub block_body : ByteOrder → PlainBlock → List ℕ
block_body order (header plain) =
    word32 plain.order 0x1a2b3c4d ++ word16 plain.order 1 ++ word16 plain.order plain.minor ++ plain.rest
block_body order (interface plain) =
    word16 order plain.link_type ++ word16 order plain.reserved ++ word32 order plain.snap_len
    ++ options_bytes order plain.options ++ plain.ending
block_body order (enhanced plain) = word32 order plain.number ++ packet_body order plain
block_body order (obsolete plain) =
    word16 order plain.packet.number ++ (word16 order plain.drops ++ packet_body order plain.packet)
block_body order (simple plain) = word32 order plain.original_len ++ plain.bytes ++ plain.padding ++ plain.rest
block_body order (other plain) = plain.body

-- the length of a block: that of its body, and 12 bytes for the type and both length fields
abbrev pub block_len : ByteOrder → PlainBlock → ℕ
block_len order block = 12 + length (block_body order block)

-- the wire bytes of a block in a section of the byte order `before`
abbrev pub block_bytes : ByteOrder → PlainBlock → List ℕ
block_bytes before block =
    let order = block_order before block in
    word32 order (block_number block) ++ word32 order (block_len order block) ++ block_body order block
    ++ word32 order (block_len order block)

-- ---- which blocks a section may contain

-- the maximum length of a block that is read as a whole (320 KiB)
abbrev pub most_block : ℕ
most_block = 327680

-- the maximum number of interfaces of a section
abbrev pub most_interfaces : ℕ
most_interfaces = 65536

-- True for the supported minor versions (4.1): 0, and 2, which is read as 0.
abbrev pub knows_minor : ℕ → Bool
knows_minor minor = (minor == 0) || (minor == 2)

-- the number of captured bytes of a packet under the snap length `most` (0: no limit)
abbrev pub kept_of : (most original : ℕ) → ℕ
kept_of most original = if not (most == 0) && nat_lt most original then most else original

-- the number of captured bytes of a simple packet, which belongs to the first interface
abbrev pub captured_len_of_simple : List Interface → ℕ → ℕ
captured_len_of_simple interfaces original = kept_of (interface_at interfaces 0).snap_len original

pub record FitsHeader (plain : PlainHeader) : Type 0 where
  pub minor : knows_minor plain.minor ≡ true
  pub rest : 8 ≤ length plain.rest

pub record FitsInterface (section : Section) (plain : PlainInterface) : Type 0 where
  pub count : length section.interfaces < most_interfaces
  pub link_type : plain.link_type < 2 ^ 16
  pub reserved : plain.reserved < 2 ^ 16
  pub snap_len : plain.snap_len < 2 ^ 32
  pub options : AreOptions plain.options
  pub ending : ends_options section.order plain.ending ≡ true
  pub resolution_len : has_len 1 (value_of 9 plain.options) ≡ true
  pub resolution : knows_resolution (resolution_or_default (value_of 9 plain.options)) ≡ true
  pub offset_len : has_len 8 (value_of 14 plain.options) ≡ true

pub record FitsEnhanced (section : Section) (plain : PlainEnhanced) : Type 0 where
  pub numbered : plain.number < 2 ^ 32
  pub described : plain.number < length section.interfaces
  pub high : plain.high < 2 ^ 32
  pub low : plain.low < 2 ^ 32
  pub original_len : plain.original_len < 2 ^ 32
  pub kept : length plain.bytes ≤ most_kept
  pub padding : length plain.padding ≡ padding_of (length plain.bytes)

pub record FitsObsolete (section : Section) (plain : PlainObsolete) : Type 0 where
  pub numbered : plain.packet.number < 2 ^ 16
  pub drops : plain.drops < 2 ^ 16
  pub packet : FitsEnhanced section plain.packet

pub record FitsSimple (section : Section) (plain : PlainSimple) : Type 0 where
  pub described : 0 < length section.interfaces
  pub original_len : plain.original_len < 2 ^ 32
  pub bytes : length plain.bytes ≡ captured_len_of_simple section.interfaces plain.original_len
  pub kept : length plain.bytes ≤ most_kept
  pub padding : length plain.padding ≡ padding_of (length plain.bytes)

pub record FitsOther (plain : PlainOther) : Type 0 where
  pub number : plain.kind < 2 ^ 32
  pub kind : kind_of plain.kind ≡ Other

abbrev pub FitsContent : Section → PlainBlock → Type 0
FitsContent section (header plain) = FitsHeader plain
FitsContent section (interface plain) = FitsInterface section plain
FitsContent section (enhanced plain) = FitsEnhanced section plain
FitsContent section (obsolete plain) = FitsObsolete section plain
FitsContent section (simple plain) = FitsSimple section plain
FitsContent section (other plain) = FitsOther plain

-- The block's content is valid in the section, and its length is at most 320 KiB and a multiple of 4.
pub record FitsBlock (section : Section) (block : PlainBlock) : Type 0 where
  pub content : FitsContent section block
  pub len : block_len (block_order section.order block) block ≤ most_block
  pub aligned : length (block_body (block_order section.order block) block) % 4 ≡ 0

-- The bytes begin with this block, and these bytes follow it.
pub record IsBlock (section : Section) (bytes : List ℕ) (read : PlainBlock × List ℕ) : Type 0 where
  pub fits : FitsBlock section read.0
  pub parts : bytes ≡ block_bytes section.order read.0 ++ read.1

-- The bytes begin with no block.
abbrev pub BeginsNoBlock : Section → List ℕ → Type 0
BeginsNoBlock section bytes = (read : PlainBlock × List ℕ) → IsBlock section bytes read → ⊥

-- ---- why bytes begin with no block

-- the kind by the block type at byte 0
abbrev pub kind_in : ByteOrder → List ℕ → BlockKind
kind_in before bytes = kind_of (word32_at before bytes 0)

-- True if the content of blocks of this kind is skipped.
abbrev pub is_other : BlockKind → Bool
is_other Other = true
is_other kind = false

-- the byte order that a byte-order magic states
abbrev pub byte_order_of_magic : ℕ → Option ByteOrder
byte_order_of_magic magic = if magic == 0x1a2b3c4d then Some Big else (if magic == 0x4d3c2b1a then Some Little else None)

-- the byte order of a block, if it is known: a section header states its own, which is also that of the blocks after it
abbrev pub known_order : ByteOrder → BlockKind → ℕ → Option ByteOrder
known_order before SectionHeader magic = byte_order_of_magic magic
known_order before kind magic = Some before

-- True for a section header whose byte-order magic is unknown.
abbrev pub has_no_order : ByteOrder → BlockKind → ℕ → Bool
has_no_order before kind magic = not (is_some (known_order before kind magic))

-- the byte order that is known, or else `order`
abbrev pub order_or : ByteOrder → Option ByteOrder → ByteOrder
order_or order None = order
order_or order (Some known) = known

-- the byte order of a block
abbrev pub order_of : ByteOrder → BlockKind → ℕ → ByteOrder
order_of before kind magic = order_or before (known_order before kind magic)

abbrev pub order_in : ByteOrder → List ℕ → ByteOrder
order_in before bytes = order_of before (kind_in before bytes) (word32_at Big bytes 8)

-- the minimum length of a block of this kind
abbrev pub min_len : BlockKind → ℕ
min_len SectionHeader = 28
min_len InterfaceDescription = 20
min_len SimplePacket = 16
min_len EnhancedPacket = 32
min_len ObsoletePacket = 32
min_len Other = 12

-- the refusal table of a block's type, byte order and length; its first 12 bytes are present
abbrev pub framing_rows : ByteOrder → BlockKind → (magic len : ℕ) → List (Bool × Refusal)
framing_rows before kind magic len =
    (has_no_order before kind magic, refusal.UnknownByteOrder magic)
    ∷ (nat_lt len (min_len kind) || not (len % 4 == 0), refusal.BlockLength len)
    ∷ (nat_lt most_block len, refusal.BlockTooLong len)
    ∷ []

-- the refusal table of a packet with `kept` captured bytes that start at byte `before` of the body
abbrev pub kept_rows : (len before kept body_len : ℕ) → List (Bool × Refusal)
kept_rows len before kept body_len =
    (nat_lt most_kept kept, refusal.PacketTooLong kept)
    ∷ (nat_lt body_len (before + kept + padding_of kept), refusal.BlockLength len)
    ∷ []

-- the refusal table of an interface, from whether its options end within the block and the values of options 9 and 14
abbrev pub option_value_rows : Bool → (resolution offset : Option (List ℕ)) → List (Bool × Refusal)
option_value_rows ends resolution offset =
    (not ends, refusal.OptionBeyondBlock)
    ∷ (not (has_len 1 resolution), refusal.OptionLength 9 (value_len resolution))
    ∷ (not (has_len 8 offset), refusal.OptionLength 14 (value_len offset))
    ∷ (not (knows_resolution (resolution_or_default resolution)), refusal.UnsupportedResolution (resolution_or_default resolution))
    ∷ []

abbrev pub options_rows : ByteOrder → List ℕ → List (Bool × Refusal)
options_rows order bytes =
    let options = options_of order bytes in
    option_value_rows (ends_options order (options_end order bytes)) (value_of 9 options) (value_of 14 options)

-- the refusal table of a section's version
abbrev pub version_rows : (major minor : ℕ) → List (Bool × Refusal)
version_rows major minor =
    (not (major == 1) || not (knows_minor minor), refusal.UnsupportedVersion major minor) ∷ []

-- the refusal table of a packet of the interface with this number
abbrev pub numbered_rows : List Interface → ℕ → ByteOrder → ℕ → List ℕ → List (Bool × Refusal)
numbered_rows interfaces number order len body =
    (not (nat_lt number (length interfaces)), refusal.UndescribedInterface number)
    ∷ kept_rows len 20 (word32_at order body 12) (length body)

-- the refusal table of the body of a block
abbrev pub body_rows : List Interface → ByteOrder → BlockKind → ℕ → List ℕ → List (Bool × Refusal)
body_rows interfaces order SectionHeader len body = version_rows (word16_at order body 4) (word16_at order body 6)
body_rows interfaces order InterfaceDescription len body =
    (not (nat_lt (length interfaces) most_interfaces), refusal.TooManyInterfaces) ∷ options_rows order (drop 8 body)
body_rows interfaces order EnhancedPacket len body = numbered_rows interfaces (word32_at order body 0) order len body
body_rows interfaces order ObsoletePacket len body = numbered_rows interfaces (word16_at order body 0) order len body
body_rows interfaces order SimplePacket len body =
    (not (nat_lt 0 (length interfaces)), refusal.UndescribedInterface 0)
    ∷ kept_rows len 4 (captured_len_of_simple interfaces (word32_at order body 0)) (length body)
body_rows interfaces order Other len body = []

-- the refusal table of a complete block
abbrev pub complete_rows : List Interface → ByteOrder → BlockKind → ℕ → List ℕ → List (Bool × Refusal)
complete_rows interfaces order kind len bytes =
    (not (word32_at order bytes (len - 4) == len), refusal.TrailingLength len (word32_at order bytes (len - 4)))
    ∷ body_rows interfaces order kind len (slice_range bytes 8 (len - 4))

abbrev pub block_rows : Section → List ℕ → List (Bool × Refusal)
block_rows section bytes =
    let order = order_in section.order bytes in
    let kind = kind_in section.order bytes in
    let len = word32_at order bytes 4 in
    (nat_lt (length bytes) 12, refusal.Cut 12 (length bytes))
    ∷ framing_rows section.order kind (word32_at Big bytes 8) len
    ++ (nat_lt (length bytes) len, refusal.Cut len (length bytes))
    ∷ complete_rows section.interfaces order kind len bytes

abbrev pub RefusesBlock : Section → List ℕ → Refusal → Type 0
RefusesBlock section bytes = Refuses (block_rows section bytes)

-- ---- the block at the start of the bytes, if no row rejects them

abbrev pub header_of : ByteOrder → List ℕ → PlainHeader
header_of order body = record { order = order; minor = word16_at order body 6; rest = drop 8 body }

abbrev pub interface_read : ByteOrder → List ℕ → PlainInterface
interface_read order body = record {
  link_type = word16_at order body 0;
  reserved = word16_at order body 2;
  snap_len = word32_at order body 4;
  options = options_of order (drop 8 body);
  ending = options_end order (drop 8 body);
}

abbrev pub packet_with : ByteOrder → ℕ → List ℕ → PlainEnhanced
packet_with order number body =
    let kept = word32_at order body 12 in
    record {
      number = number;
      high = word32_at order body 4;
      low = word32_at order body 8;
      original_len = word32_at order body 16;
      bytes = slice_range body 20 (20 + kept);
      padding = slice_range body (20 + kept) (20 + kept + padding_of kept);
      options = drop (20 + kept + padding_of kept) body;
    }

abbrev pub enhanced_of : ByteOrder → List ℕ → PlainEnhanced
enhanced_of order body = packet_with order (word32_at order body 0) body

abbrev pub obsolete_of : ByteOrder → List ℕ → PlainObsolete
obsolete_of order body =
    record { drops = word16_at order body 2; packet = packet_with order (word16_at order body 0) body }

abbrev pub simple_of : List Interface → ByteOrder → List ℕ → PlainSimple
simple_of interfaces order body =
    let kept = captured_len_of_simple interfaces (word32_at order body 0) in
    record {
      original_len = word32_at order body 0;
      bytes = slice_range body 4 (4 + kept);
      padding = slice_range body (4 + kept) (4 + kept + padding_of kept);
      rest = drop (4 + kept + padding_of kept) body;
    }

-- the block of this kind and block type that has this body
abbrev pub block_of : List Interface → ByteOrder → BlockKind → ℕ → List ℕ → PlainBlock
block_of interfaces order SectionHeader number body = header (header_of order body)
block_of interfaces order InterfaceDescription number body = interface (interface_read order body)
block_of interfaces order EnhancedPacket number body = enhanced (enhanced_of order body)
block_of interfaces order ObsoletePacket number body = obsolete (obsolete_of order body)
block_of interfaces order SimplePacket number body = simple (simple_of interfaces order body)
block_of interfaces order Other number body = other (record { kind = number; body = body })

abbrev pub block_in : Section → List ℕ → PlainBlock
block_in section bytes =
    let order = order_in section.order bytes in
    block_of section.interfaces order (kind_in section.order bytes) (word32_at section.order bytes 0)
    (slice_range bytes 8 (word32_at order bytes 4 - 4))
