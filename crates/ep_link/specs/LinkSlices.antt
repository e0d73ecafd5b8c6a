-- Link layers of sliced frames.
use Rattle.std.specs.Prelude.{◌≡◌, ℕ, List, Option, Some, None, option_map}
use Rattle.ep_base.specs.declared.ether_type.EtherType.{EtherType}
use Rattle.ep_base.specs.declared.len_source.LenSource.{LenSource}
use Rattle.ep_base.specs.declared.len_source.LenSource.TheVariants as source
use Rattle.ep_link.specs.declared.link.ethernet2_header.Ethernet2Header.{Ethernet2Header}
use Rattle.ep_link.specs.declared.link.linux_sll_header.LinuxSllHeader.{LinuxSllHeader}
use Rattle.ep_link.specs.declared.link.linux_sll_protocol_type.LinuxSllProtocolType.{LinuxSllProtocolType}
use Rattle.ep_link.specs.declared.link.link_header.LinkHeader.{LinkHeader}
use Rattle.ep_link.specs.declared.link.link_header.LinkHeader.TheVariants as header
use Rattle.ep_link.specs.declared.link.link_slice.LinkSlice.{LinkSlice}
use Rattle.ep_link.specs.declared.link.link_slice.LinkSlice.TheVariants as slice
use Rattle.ep_link.specs.Ethernet2.{ethernet2_bytes, ethernet2_header_len}
use Rattle.ep_link.specs.Ethernet2Slices.{ethernet2_slice_bytes, ethernet2_slice_header, ethernet2_slice_payload}
use Rattle.ep_link.specs.EtherPayloads.{EtherPayload, ether_payload_of}
use Rattle.ep_link.specs.LinuxSll.{linux_sll_bytes, linux_sll_header_len, protocol_ether_type}
use Rattle.ep_link.specs.LinuxSllSlices.{linux_sll_slice_bytes, linux_sll_slice_header, linux_sll_slice_payload, ShowSameSllPayload}

-- A link layer as plain data: its header, if present, and its payload.
pub data LinkLayer : Type 0 where
  ethernet2 : Ethernet2Header → List ℕ → LinkLayer
  linux_sll : LinuxSllHeader → List ℕ → LinkLayer
  ether_payload : EtherType → LenSource → List ℕ → LinkLayer
  linux_sll_payload : LinuxSllProtocolType → List ℕ → LinkLayer

-- The plain data of a link layer slice.
abbrev pub link_layer_of : LinkSlice → LinkLayer
link_layer_of (slice.Ethernet2 frame) = ethernet2 (ethernet2_slice_header frame) (ethernet2_slice_payload frame)
link_layer_of (slice.LinuxSll frame) = linux_sll (linux_sll_slice_header frame) (linux_sll_slice_payload frame)
link_layer_of (slice.EtherPayload payload) = ether_payload payload.ether_type payload.len_source payload.payload.now
link_layer_of (slice.LinuxSllPayload payload) = linux_sll_payload payload.protocol_type payload.payload.now

-- The bytes of the header and the payload of a slice.
abbrev pub link_slice_bytes : LinkSlice → List ℕ
link_slice_bytes (slice.Ethernet2 frame) = ethernet2_slice_bytes frame
link_slice_bytes (slice.LinuxSll frame) = linux_sll_slice_bytes frame
link_slice_bytes (slice.EtherPayload payload) = payload.payload.now
link_slice_bytes (slice.LinuxSllPayload payload) = payload.payload.now

-- The header, or None if the link layer has no header.
abbrev pub link_header_of : LinkLayer → Option LinkHeader
link_header_of (ethernet2 ethernet payload) = Some (header.Ethernet2 ethernet)
link_header_of (linux_sll sll payload) = Some (header.LinuxSll sll)
link_header_of (ether_payload type source payload) = None
link_header_of (linux_sll_payload protocol payload) = None

-- The bytes of the payload.
abbrev pub link_layer_payload : LinkLayer → List ℕ
link_layer_payload (ethernet2 ethernet payload) = payload
link_layer_payload (linux_sll sll payload) = payload
link_layer_payload (ether_payload type source payload) = payload
link_layer_payload (linux_sll_payload protocol payload) = payload

-- The wire bytes of a link header.
abbrev pub link_bytes : LinkHeader → List ℕ
link_bytes (header.Ethernet2 ethernet) = ethernet2_bytes ethernet
link_bytes (header.LinuxSll sll) = linux_sll_bytes sll

-- The length of a link header in bytes.
abbrev pub link_header_len : LinkHeader → ℕ
link_header_len (header.Ethernet2 ethernet) = ethernet2_header_len
link_header_len (header.LinuxSll sll) = linux_sll_header_len

-- A payload with this ether type that only the end of the slice limits.
abbrev pub unlimited_ether_payload : List ℕ → EtherType → EtherPayload
unlimited_ether_payload payload type = record { ether_type = type; len_source = source.Slice; bytes = payload }

-- The payload of a Linux cooked capture with its ether type, or None if its protocol is not an ether type.
abbrev pub protocol_payload : LinuxSllProtocolType → List ℕ → Option EtherPayload
protocol_payload protocol payload = option_map (unlimited_ether_payload payload) (protocol_ether_type protocol)

-- The payload of a link layer with its ether type, or None if it has none.
abbrev pub link_ether_payload : LinkLayer → Option EtherPayload
link_ether_payload (ethernet2 ethernet payload) = Some (unlimited_ether_payload payload ethernet.ether_type)
link_ether_payload (linux_sll sll payload) = protocol_payload sll.protocol_type payload
link_ether_payload (ether_payload type source payload) =
    Some (record { ether_type = type; len_source = source; bytes = payload })
link_ether_payload (linux_sll_payload protocol payload) = protocol_payload protocol payload

-- The length of the header in bytes, or 0 if the link layer has no header.
abbrev pub link_layer_header_len : LinkLayer → ℕ
link_layer_header_len (ethernet2 ethernet payload) = ethernet2_header_len
link_layer_header_len (linux_sll sll payload) = linux_sll_header_len
link_layer_header_len (ether_payload type source payload) = 0
link_layer_header_len (linux_sll_payload protocol payload) = 0

-- Two slices are the same link layer: equal bytes of a link header and its payload, or payloads with equal fields.
abbrev pub ShowSameLink : LinkSlice → LinkSlice → Type 0
ShowSameLink (slice.Ethernet2 a) (slice.Ethernet2 b) = ethernet2_slice_bytes a ≡ ethernet2_slice_bytes b
ShowSameLink (slice.LinuxSll a) (slice.LinuxSll b) = linux_sll_slice_bytes a ≡ linux_sll_slice_bytes b
ShowSameLink (slice.EtherPayload a) (slice.EtherPayload b) = ether_payload_of a ≡ ether_payload_of b
ShowSameLink (slice.LinuxSllPayload a) (slice.LinuxSllPayload b) = ShowSameSllPayload a b
ShowSameLink a b = ⊥
