-- The payload after the last header of a packet read laxly, and its bytes.
use Rattle.std.specs.Prelude.{ℕ, Bool, false, List, [], ◌∷◌, map, Option, Some, None}
use Rattle.ep_base.specs.IpPayload.{IpPayload, lax_ip_payload_of}
use Rattle.ep_base.specs.declared.len_source.LenSource.{LenSource}
use Rattle.ep_base.specs.declared.len_source.LenSource.TheVariants as source
use Rattle.ep_link.specs.declared.link.linux_sll_protocol_type.LinuxSllProtocolType.{LinuxSllProtocolType}
use Rattle.ep_link.specs.EtherPayloads.{EtherPayload}
use Rattle.ep_link.specs.LinkExtensions.{LinkExtension, extension_payload}
use Rattle.ep_link.specs.LinkSlices.{LinkLayer, ethernet2, linux_sll as sll, ether_payload, linux_sll_payload, protocol_payload, unlimited_ether_payload}
use Rattle.ep_transport.specs.declared.transport_header.TransportHeader.{TransportHeader}
use Rattle.ep_transport.specs.declared.transport_header.TransportHeader.TheVariants as header
use Rattle.ep_transport.specs.TransportParts.{TransportLayer}
use Rattle.ep_packet.specs.Layers.{NetLayer, ipv4, ipv6, arp}
use Rattle.ep_lax.specs.declared.lax_payload_slice.LaxPayloadSlice.{LaxPayloadSlice}
use Rattle.ep_lax.specs.declared.lax_payload_slice.LaxPayloadSlice.TheVariants as slice
use Rattle.ep_lax.specs.LaxLayers.{LaxNet}
use Rattle.ep_lax.specs.LaxPayloads.{LaxEtherPayload, complete_payload, last_after, lax_ether_payload_of, payload_of_tagged, source_after}
use Rattle.ep_lax.specs.StrictFrames.{extension_in}

-- The payload after the last header, as plain data: the kind of the layer that it belongs to, its bytes, and whether
-- bytes are missing. An ARP packet has none.
pub data LaxPayloadPart : Type 0 where
  empty : LaxPayloadPart
  ether : LaxEtherPayload → LaxPayloadPart
  macsec_modified : List ℕ → Bool → LaxPayloadPart
  linux_sll : LinuxSllProtocolType → List ℕ → LaxPayloadPart
  ip : IpPayload → Bool → LaxPayloadPart
  udp : List ℕ → Bool → LaxPayloadPart
  tcp : List ℕ → Bool → LaxPayloadPart
  icmpv4 : List ℕ → Bool → LaxPayloadPart
  icmpv6 : List ℕ → Bool → LaxPayloadPart

-- The payload that a slice shows.
abbrev pub lax_payload_part_of : LaxPayloadSlice → LaxPayloadPart
lax_payload_part_of slice.Empty = empty
lax_payload_part_of (slice.Ether payload) = ether (lax_ether_payload_of payload)
lax_payload_part_of (slice.MacsecModified bytes incomplete) = macsec_modified bytes.now incomplete
lax_payload_part_of (slice.LinuxSll payload) = linux_sll payload.protocol_type payload.payload.now
lax_payload_part_of (slice.Ip payload) = ip (lax_ip_payload_of payload) payload.incomplete
lax_payload_part_of (slice.Udp bytes incomplete) = udp bytes.now incomplete
lax_payload_part_of (slice.Tcp bytes incomplete) = tcp bytes.now incomplete
lax_payload_part_of (slice.Icmpv4 bytes incomplete) = icmpv4 bytes.now incomplete
lax_payload_part_of (slice.Icmpv6 bytes incomplete) = icmpv6 bytes.now incomplete

-- The available bytes of a payload.
abbrev pub lax_payload_part_bytes : LaxPayloadPart → List ℕ
lax_payload_part_bytes empty = []
lax_payload_part_bytes (ether payload) = payload.bytes
lax_payload_part_bytes (macsec_modified bytes incomplete) = bytes
lax_payload_part_bytes (linux_sll protocol bytes) = bytes
lax_payload_part_bytes (ip payload incomplete) = payload.bytes
lax_payload_part_bytes (udp bytes incomplete) = bytes
lax_payload_part_bytes (tcp bytes incomplete) = bytes
lax_payload_part_bytes (icmpv4 bytes incomplete) = bytes
lax_payload_part_bytes (icmpv6 bytes incomplete) = bytes

-- ---- payload after the layers of a packet

-- The bytes as the payload of a transport header.
abbrev pub lax_transport_part : TransportHeader → List ℕ → Bool → LaxPayloadPart
lax_transport_part (header.Udp datagram) bytes incomplete = udp bytes incomplete
lax_transport_part (header.Tcp segment) bytes incomplete = tcp bytes incomplete
lax_transport_part (header.Icmpv4 message) bytes incomplete = icmpv4 bytes incomplete
lax_transport_part (header.Icmpv6 message) bytes incomplete = icmpv6 bytes incomplete

-- The payload of a network layer without a transport layer; `incomplete` states whether bytes of it are missing.
abbrev pub lax_net_part : NetLayer → Bool → LaxPayloadPart
lax_net_part (ipv4 header extensions payload) incomplete = ip payload incomplete
lax_net_part (ipv6 header extensions payload) incomplete = ip payload incomplete
lax_net_part (arp packet) incomplete = empty

-- The payload after a transport layer, if present; else it is `outside`.
abbrev pub transport_part_or : LaxPayloadPart → Option TransportLayer → Bool → LaxPayloadPart
transport_part_or outside None incomplete = outside
transport_part_or outside (Some layer) incomplete = lax_transport_part layer.header layer.payload incomplete

-- The payload of a network layer, if present; else it is `unread`.
abbrev pub net_part_or : LaxPayloadPart → Option NetLayer → Bool → LaxPayloadPart
net_part_or unread None incomplete = unread
net_part_or unread (Some layer) incomplete = lax_net_part layer incomplete

-- The payload of the last layer. Without network layer it is `unread`.
abbrev pub lax_innermost_part : LaxPayloadPart → LaxNet → LaxPayloadPart
lax_innermost_part unread net =
    transport_part_or (net_part_or unread net.layer net.incomplete) net.inside.layer net.inside.incomplete

-- The payload of a link layer or link extension: of known type, or else `untyped`.
abbrev pub typed_part_or : LaxPayloadPart → Option LaxEtherPayload → LaxPayloadPart
typed_part_or untyped None = untyped
typed_part_or untyped (Some payload) = ether payload

-- The payload of a Linux cooked capture; no field states that bytes of it are missing.
abbrev pub sll_part : LinuxSllProtocolType → List ℕ → Option EtherPayload → LaxPayloadPart
sll_part protocol payload None = linux_sll protocol payload
sll_part protocol payload (Some typed) = ether (complete_payload typed)

-- The payload of a link layer; there is none without a link layer.
abbrev pub link_part : Option LinkLayer → LaxPayloadPart
link_part None = empty
link_part (Some (ethernet2 frame payload)) = ether (complete_payload (unlimited_ether_payload payload frame.ether_type))
link_part (Some (sll frame payload)) =
    sll_part frame.protocol_type payload (protocol_payload frame.protocol_type payload)
link_part (Some (ether_payload type end payload)) =
    ether (record { ether_type = type; len_source = end; bytes = payload; incomplete = false })
link_part (Some (linux_sll_payload protocol payload)) = sll_part protocol payload (protocol_payload protocol payload)

-- The payload of a link extension with this source of its length.
abbrev pub tagged_part : LenSource → LinkExtension × Bool → LaxPayloadPart
tagged_part end tagged =
    typed_part_or (macsec_modified (extension_payload tagged.0) tagged.1) (payload_of_tagged end tagged)

-- The payload of the last link extension, or else of the link layer.
abbrev pub open_part : Option LinkLayer → List (LinkExtension × Bool) → LaxPayloadPart
open_part link [] = link_part link
open_part link (first ∷ others) =
    tagged_part (source_after source.Slice (map extension_in (first ∷ others))) (last_after first others)
