-- How values of the program relate to the blocks of a pcapng capture.
use Rattle.std.specs.Prelude.{◌≡◌, ℕ, ◌+◌, ◌-◌, ◌≤◌, ◌%◌, false, List, [], ◌∷◌, ◌++◌, Option, Some, None}
use Rattle.std.specs.Prelude.{length, slice_range}
use Rattle.ep_base.specs.Tables.{first_row}
use Rattle.capture_reader.specs.Blocks.{Section, block_of, body_rows, has_no_order, kind_in, min_len, most_block}
use Rattle.capture_reader.specs.Blocks.{order_in, section_after}
use Rattle.capture_reader.specs.Captures.{PlainShown, block_shown, block_time}
use Rattle.capture_reader.specs.Numbers.{word32_at}
use Rattle.capture_reader.specs.declared.block.BlockKind.{BlockKind}
use Rattle.capture_reader.specs.declared.block.BlockKind.TheVariants.{SectionHeader}
use Rattle.capture_reader.specs.declared.block.Content.{Content}
use Rattle.capture_reader.specs.declared.block.Content.TheVariants as content
use Rattle.capture_reader.specs.declared.block.Framing.{Framing}
use Rattle.capture_reader.specs.declared.byte_order.ByteOrder.{ByteOrder}
use Rattle.capture_reader.specs.declared.byte_order.ByteOrder.TheVariants.{Big}
use Rattle.capture_reader.specs.declared.interface.Interface.{Interface}
use Rattle.capture_reader.specs.declared.shown.Known.{Known}

-- a section of this byte order that has described these interfaces
abbrev pub section_of : ByteOrder → List Interface → Section
section_of order interfaces = record { order = order; interfaces = interfaces }

-- a packet with these properties and these bytes
abbrev pub known_shown : Known → List ℕ → PlainShown
known_shown known bytes =
    record {
      link = known.link_type;
      interface = known.interface;
      time = known.time;
      original_len = known.original_len;
      bytes = bytes;
    }

-- properties of a packet of this interface, from the body of its block: the timestamp's halves are at bytes 4 and 8,
-- the original length is at byte 16
abbrev pub timed_known : ByteOrder → ℕ → Interface → List ℕ → Known
timed_known order number about body = record {
  link_type = about.link_type;
  interface = Some number;
  time = Some (block_time about (word32_at order body 4) (word32_at order body 8));
  original_len = word32_at order body 16;
}

-- the interfaces of a section after a block with this content, if it had described `interfaces` before
abbrev pub content_interfaces : List Interface → Content → List Interface
content_interfaces interfaces content.Section = []
content_interfaces interfaces (content.Interface about) = interfaces ++ about ∷ []
content_interfaces interfaces _ = interfaces

-- the packet that a block with this content and this body shows, if any
abbrev pub content_shown : List ℕ → Content → Option PlainShown
content_shown body (content.Packet one) =
    Some (known_shown one.known (slice_range body one.start (one.start + one.kept)))
content_shown body _ = None

-- Holds if a block of this kind and byte order may be in a section of the byte order `before`.
abbrev pub FitsSectionOrder : BlockKind → ByteOrder → ByteOrder → Type 0
FitsSectionOrder SectionHeader order before = Unit {0}
FitsSectionOrder kind order before = order ≡ before

-- Holds if the content fits in a block of this length: an interface description has at least 20 bytes, and a packet
-- ends within its block.
abbrev pub FitsLen : Content → ℕ → Type 0
FitsLen (content.Interface about) len = 20 ≤ len
FitsLen (content.Packet one) len = one.start + one.kept + 12 ≤ len
FitsLen _ len = Unit {0}

-- A body of a block of this kind is not rejected, and has this content.
pub record HasContent (interfaces : List Interface) (order : ByteOrder) (kind : BlockKind) (len : ℕ) (body : List ℕ)
    (content : Content) : Type 0 where
  pub none : first_row (body_rows interfaces order kind len body) ≡ None
  pub after : (before : ByteOrder) (number : ℕ) → FitsSectionOrder kind order before
      → section_after (section_of before interfaces) (block_of interfaces order kind number body)
      ≡ section_of order (content_interfaces interfaces content)
  pub shown : (number : ℕ)
      → block_shown interfaces (block_of interfaces order kind number body) ≡ content_shown body content
  pub fits : FitsLen content (12 + length body)

-- The framing of the block at the start of the bytes is valid.
pub record IsFramed (order : ByteOrder) (bytes : List ℕ) (framing : Framing) : Type 0 where
  pub order_is : framing.order ≡ order_in order bytes
  pub kind : framing.kind ≡ kind_in order bytes
  pub len : framing.len ≡ word32_at framing.order bytes 4
  pub known : has_no_order order framing.kind (word32_at Big bytes 8) ≡ false
  pub least : min_len framing.kind ≤ framing.len
  pub aligned : framing.len % 4 ≡ 0
  pub most : framing.len ≤ most_block
  pub within : framing.len ≤ length bytes
  pub trailing : word32_at framing.order bytes (framing.len - 4) ≡ framing.len
