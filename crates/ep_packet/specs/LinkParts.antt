-- The link layer at the start of a packet.
use Rattle.std.specs.Prelude.{◌≡◌, ℕ, List, Option, Some}
use Rattle.ep_base.specs.Tables.{Parts}
use Rattle.ep_base.specs.declared.ether_type.EtherType.{EtherType}
use Rattle.ep_base.specs.declared.len_source.LenSource.TheVariants as source
use Rattle.ep_link.specs.declared.link.ethernet2_header.Ethernet2Header.{Ethernet2Header}
use Rattle.ep_link.specs.declared.link.linux_sll_header.LinuxSllHeader.{LinuxSllHeader}
use Rattle.ep_link.specs.Ethernet2.{ethernet2_header_len, IsEthernet2}
use Rattle.ep_link.specs.LinkSlices.{LinkLayer, ethernet2, linux_sll as sll, ether_payload, link_layer_of}
use Rattle.ep_link.specs.LinkSlices.{link_slice_bytes}
use Rattle.ep_link.specs.LinuxSll.{linux_sll_header_len, IsLinuxSll, protocol_ether_type}
use Rattle.ep_packet.specs.declared.entry.Entry.{Entry}
use Rattle.ep_packet.specs.declared.entry.Entry.TheVariants.{Ethernet as ethernet, LinuxSll as linux_sll}
use Rattle.ep_packet.specs.declared.entry.Entry.TheVariants.{EtherType as ether_type, Ip as ip}
use Rattle.ep_packet.specs.declared.link_part.LinkPart.{LinkPart}
use Rattle.ep_packet.specs.ShownBytes.{BeginsWith}

-- A link layer, and its payload: the offset from the start of the packet, the ether type, if known, and the bytes.
pub record LinkStart : Type 0 where
  pub link : LinkLayer
  pub offset : ℕ
  pub type : Option EtherType
  pub payload : List ℕ

-- The link layer and payload that a `LinkPart` shows.
abbrev pub link_start_of : LinkPart → LinkStart
link_start_of part = record {
  link = link_layer_of part.link;
  offset = part.offset;
  type = part.ether_type;
  payload = part.slice.now;
}

-- The bytes begin with this link layer, for the given entry. Bare IP has none.
abbrev pub IsLinkStart : Entry → List ℕ → LinkStart → Type 0
IsLinkStart ethernet bytes front =
    (frame : Parts Ethernet2Header) × IsEthernet2 bytes frame × (front ≡ record {
      link = ethernet2 frame.header frame.payload;
      offset = ethernet2_header_len;
      type = Some frame.header.ether_type;
      payload = frame.payload;
    })
IsLinkStart linux_sll bytes front =
    (frame : Parts LinuxSllHeader) × IsLinuxSll bytes frame × (front ≡ record {
      link = sll frame.header frame.payload;
      offset = linux_sll_header_len;
      type = protocol_ether_type frame.header.protocol_type;
      payload = frame.payload;
    })
IsLinkStart (ether_type type) bytes front =
    front ≡ record { link = ether_payload type source.Slice bytes; offset = 0; type = Some type; payload = bytes }
IsLinkStart ip bytes front = ⊥

-- The bytes begin with the link layer of `part`, whose slice shows them.
pub record BeginsPacket (entry : Entry) (bytes : List ℕ) (part : LinkPart) : Type 0 where
  pub shows : BeginsWith bytes (link_slice_bytes part.link)
  pub is : IsLinkStart entry bytes (link_start_of part)
