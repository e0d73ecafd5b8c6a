-- The payload after owned headers parsed laxly is a contiguous part of the packet.
use Rattle.std.proofs.Common.{◌≡◌, ℕ, Bool, List, [], ◌∷◌, ◌++◌, map, Option, Some, None, refl, sym, ap, ◌∙◌, append_assoc}
use Rattle.std.specs.Option.{option_map}
use Rattle.ep_base.specs.Readings.{headers}
use Rattle.ep_base.specs.declared.ether_type.EtherType.{EtherType}
use Rattle.ep_base.specs.declared.len_source.LenSource.{LenSource}
use Rattle.ep_base.specs.declared.len_source.LenSource.TheVariants as source
use Rattle.ep_link.specs.declared.link.linux_sll_protocol_type.LinuxSllProtocolType.{LinuxSllProtocolType}
use Rattle.ep_link.specs.LinkExtensions.{vlan, macsec, extension_payload}
use Rattle.ep_link.specs.LinkSlices.{LinkLayer, ethernet2, linux_sll as sll, ether_payload, linux_sll_payload, unlimited_ether_payload}
use Rattle.ep_link.specs.LinuxSll.{protocol_ether_type}
use Rattle.ep_link.specs.Macsec.{unmodified, modified}
use Rattle.ep_transport.specs.declared.transport_header.TransportHeader.{TransportHeader}
use Rattle.ep_transport.specs.declared.transport_header.TransportHeader.TheVariants as header
use Rattle.ep_transport.specs.TransportParts.{TransportLayer}
use Rattle.ep_packet.specs.declared.entry.Entry.{Entry}
use Rattle.ep_packet.specs.FrameBytes.{inner_payload, last_payload, link_payload, payload_after_exts}
use Rattle.ep_packet.specs.Layers.{NetLayer, ipv4, ipv6, arp}
use Rattle.ep_packet.specs.PacketHeaders.{IsSubsliceOf}
use Rattle.ep_lax.specs.declared.lax_packet_headers.LaxPacketHeaders.{LaxPacketHeaders}
use Rattle.ep_lax.specs.LaxHeadersWalk.{AreReadLaxly}
use Rattle.ep_lax.specs.LaxLayers.{LaxLayers}
use Rattle.ep_lax.specs.LaxPacketHeaders.{LaxHeaders, lax_headers_of}
use Rattle.ep_lax.specs.LaxPayloadParts.{LaxPayloadPart, lax_innermost_part, lax_payload_part_bytes, lax_payload_part_of, lax_transport_part, link_part, net_part_or, open_part, sll_part, tagged_part, transport_part_or}
use Rattle.ep_lax.specs.LaxPayloads.{last_after, source_after}
use Rattle.ep_lax.specs.StrictFrames.{extension_in, layers_in}
use Rattle.ep_lax.proofs.LaxLawLemmas.{Tagged}
use Rattle.ep_lax.proofs.LaxOrderLemmas.{lax_in_order}

-- The payload of a transport header has the given bytes.
transport_bytes_are : (read : TransportHeader) (bytes : List ℕ) (incomplete : Bool)
    → lax_payload_part_bytes (lax_transport_part read bytes incomplete) ≡ bytes
transport_bytes_are (header.Udp datagram) bytes incomplete = refl
transport_bytes_are (header.Tcp segment) bytes incomplete = refl
transport_bytes_are (header.Icmpv4 message) bytes incomplete = refl
transport_bytes_are (header.Icmpv6 message) bytes incomplete = refl

-- The payload of the last layer has the bytes after its header.
inner_bytes_are : (unread : LaxPayloadPart) (bytes : List ℕ) (net : Option NetLayer) (net_incomplete : Bool)
    (transport : Option TransportLayer) (incomplete : Bool) → lax_payload_part_bytes unread ≡ bytes
    → lax_payload_part_bytes (transport_part_or (net_part_or unread net net_incomplete) transport incomplete)
    ≡ inner_payload bytes net transport
inner_bytes_are unread bytes net net_incomplete (Some layer) incomplete same =
    transport_bytes_are layer.header layer.payload incomplete
inner_bytes_are unread bytes None net_incomplete None incomplete same = same
inner_bytes_are unread bytes (Some (ipv4 read extensions payload)) net_incomplete None incomplete same = refl
inner_bytes_are unread bytes (Some (ipv6 read extensions payload)) net_incomplete None incomplete same = refl
inner_bytes_are unread bytes (Some (arp packet)) net_incomplete None incomplete same = refl

-- The payload of a link extension has its bytes, whether or not its ether type is known.
tagged_bytes_are : (end : LenSource) (tagged : Tagged)
    → lax_payload_part_bytes (tagged_part end tagged) ≡ extension_payload tagged.0
tagged_bytes_are end (vlan tag payload, incomplete) = refl
tagged_bytes_are end (macsec tag (unmodified type source bytes), incomplete) = refl
tagged_bytes_are end (macsec tag (modified bytes), incomplete) = refl

-- The payload after link extensions is that of the last one.
last_bytes_are : (around : List ℕ) (first : Tagged) (others : List Tagged)
    → extension_payload (last_after first others).0 ≡ payload_after_exts around (map extension_in (first ∷ others))
last_bytes_are around first [] = refl
last_bytes_are around first (next ∷ others) = last_bytes_are (extension_payload first.0) next others

-- The payload of a Linux cooked capture has its bytes, whether or not its protocol is an ether type.
sll_bytes_are : (protocol : LinuxSllProtocolType) (bytes : List ℕ) (type : Option EtherType)
    → lax_payload_part_bytes (sll_part protocol bytes (option_map (unlimited_ether_payload bytes) type)) ≡ bytes
sll_bytes_are protocol bytes None = refl
sll_bytes_are protocol bytes (Some type) = refl

-- The payload of a link layer has its bytes.
link_bytes_are : (layer : Option LinkLayer) → lax_payload_part_bytes (link_part layer) ≡ link_payload layer
link_bytes_are None = refl
link_bytes_are (Some (ethernet2 frame payload)) = refl
link_bytes_are (Some (sll frame payload)) =
    sll_bytes_are frame.protocol_type payload (protocol_ether_type frame.protocol_type)
link_bytes_are (Some (ether_payload type end payload)) = refl
link_bytes_are (Some (linux_sll_payload protocol payload)) =
    sll_bytes_are protocol payload (protocol_ether_type protocol)

-- The payload after the link layer and its extensions has the bytes after them.
open_bytes_are : (link : Option LinkLayer) (extensions : List Tagged)
    → lax_payload_part_bytes (open_part link extensions)
    ≡ payload_after_exts (link_payload link) (map extension_in extensions)
open_bytes_are link [] = link_bytes_are link
open_bytes_are link (first ∷ others) =
    tagged_bytes_are (source_after source.Slice (map extension_in (first ∷ others))) (last_after first others)
    ∙ last_bytes_are (link_payload link) first others

-- The payload after the headers has the bytes of the last payload.
payload_bytes_are : (layers : LaxLayers)
    → lax_payload_part_bytes (lax_innermost_part (open_part layers.link layers.link_exts) layers.net)
    ≡ last_payload (layers_in layers)
payload_bytes_are layers =
    inner_bytes_are (open_part layers.link layers.link_exts)
    (payload_after_exts (link_payload layers.link) (map extension_in layers.link_exts)) layers.net.layer
    layers.net.incomplete layers.net.inside.layer layers.net.inside.incomplete
    (open_bytes_are layers.link layers.link_exts)

-- The payload after the headers that were read is a contiguous part of the packet.
pub payload_lies : (entry : Entry) (bytes : List ℕ) (packet : LaxPacketHeaders)
    → AreReadLaxly entry bytes (lax_headers_of packet)
    → IsSubsliceOf (lax_payload_part_bytes (lax_payload_part_of packet.payload)) bytes
payload_lies entry bytes packet (layers, is, same) =
    let order = lax_in_order headers entry bytes layers is in
    let payload : lax_payload_part_bytes (lax_payload_part_of packet.payload) ≡ last_payload (layers_in layers) =
    ap (λ (h : LaxHeaders). lax_payload_part_bytes h.payload) same ∙ payload_bytes_are layers in
    let prefix = order.link ++ (order.tags ++ (order.net ++ order.transport)) in
    let grouped : bytes ≡ prefix ++ (last_payload (layers_in layers) ++ order.left) = order.parts ∙ (simp append_assoc) in
    (prefix, order.left, grouped ∙ ap (λ (b : List ℕ). prefix ++ (b ++ order.left)) (sym payload))
