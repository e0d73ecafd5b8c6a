-- The bytes of a frame are the headers of its layers in order, the payload of the last layer, and trailing bytes.
use Rattle.std.proofs.Common.{ℕ, zero, suc, List, [], ◌∷◌, Option, Some, None, refl, sym, subst}
use Rattle.std.proofs.lemmas.List.{append-nil}
use Rattle.ep_base.specs.Readings.{Reading}
use Rattle.ep_base.specs.declared.ether_type.EtherType.{EtherType}
use Rattle.ep_base.specs.declared.len_source.LenSource.TheVariants as source
use Rattle.ep_link.specs.Ethernet2.{ethernet2_bytes}
use Rattle.ep_link.specs.LinkExtensions.{LinkExtension, extension_type, extension_payload}
use Rattle.ep_link.specs.LinkSlices.{ethernet2, linux_sll as sll, ether_payload}
use Rattle.ep_link.specs.LinuxSll.{linux_sll_bytes, protocol_ether_type}
use Rattle.ep_transport.specs.TransportParts.{TransportLayer, AreTransport}
use Rattle.ep_packet.proofs.DeciderLemmas.{Deciders}
use Rattle.ep_packet.proofs.NetBytesLemmas.{layer_bytes}
use Rattle.ep_packet.proofs.OrderLemmas.{InsideBytes, frame_bytes, ip_bytes, net_layer_bytes, no_layer_bytes, tagged_bytes}
use Rattle.ep_packet.specs.declared.entry.Entry.{Entry}
use Rattle.ep_packet.specs.declared.entry.Entry.TheVariants.{Ethernet as ethernet, LinuxSll as linux_sll, EtherType as ether_type, Ip as ip}
use Rattle.ep_packet.specs.Layers.{NetLayer, ipv4, ipv6, arp, Layers, net_payload}
use Rattle.ep_packet.specs.Frame.{NetKind, any_ip, net_kind, IsNetPart, IsTransportAfterNet, IsInside, most_link_exts, IsFrameIn}
use Rattle.ep_packet.specs.FrameBytes.{after_net, AreInOrder}

-- The payload of a network layer is the transport header and its payload.
transport_in_layer : Deciders → (reading : Reading) (layer : NetLayer) (transport : Option TransportLayer)
    → IsTransportAfterNet reading (net_payload layer) transport
    → AreTransport (after_net [] (Some layer)) transport
transport_in_layer deciders reading (ipv4 header extensions payload) transport is =
    deciders.transport_bytes reading payload.number payload.fragmented payload.bytes transport is
transport_in_layer deciders reading (ipv6 header extensions payload) transport is =
    deciders.transport_bytes reading payload.number payload.fragmented payload.bytes transport is
transport_in_layer deciders reading (arp packet) transport no_transport =
    subst (AreTransport []) (sym no_transport) (record { header = []; left = []; encodes = refl; parts = refl })

-- Bytes of a network layer, if present, are its headers, the transport header, the last payload and trailing bytes.
net_bytes : Deciders → (reading : Reading) (kind : Option NetKind) (bytes : List ℕ)
    (net : Option NetLayer) (transport : Option TransportLayer)
    → IsNetPart reading kind bytes net transport → InsideBytes bytes [] net transport
net_bytes deciders reading None bytes net transport part =
    subst (λ (x : Option NetLayer). InsideBytes bytes [] x transport) (sym part.0)
    (subst (InsideBytes bytes [] None) (sym part.1) (no_layer_bytes bytes))
net_bytes deciders reading (Some kind) bytes net transport (layer, is, net_is, inside) =
    let are = layer_bytes deciders reading kind bytes layer is in
    subst (λ (x : Option NetLayer). InsideBytes bytes [] x transport) (sym net_is)
    (net_layer_bytes bytes are.prefix are.left layer transport are.encodes are.parts
    (transport_in_layer deciders reading layer transport inside))

-- Bytes of an ether type are tags, headers, the last payload and trailing bytes.
inside_bytes : Deciders → (reading : Reading) (space : ℕ) (type : Option EtherType) (bytes : List ℕ)
    (extensions : List LinkExtension) (net : Option NetLayer) (transport : Option TransportLayer)
    → IsInside reading space type bytes extensions net transport → InsideBytes bytes extensions net transport
inside_bytes deciders reading space None bytes extensions net transport part =
    subst (λ (x : List LinkExtension). InsideBytes bytes x net transport) (sym part.0)
    (net_bytes deciders reading None bytes net transport (part.1, part.2))
inside_bytes deciders reading zero (Some type) bytes [] net transport part =
    net_bytes deciders reading (net_kind type) bytes net transport part
inside_bytes deciders reading zero (Some type) bytes (extension ∷ others) net transport part = absurd part
inside_bytes deciders reading (suc space) (Some type) bytes [] net transport part =
    net_bytes deciders reading (net_kind type) bytes net transport part.1
inside_bytes deciders reading (suc space) (Some type) bytes (extension ∷ others) net transport part =
    let prefix = deciders.extension.bytes type bytes (extension, part.0.0) part.0.1 in
    tagged_bytes bytes prefix.0 part.0.0 extension others net transport prefix.1 prefix.2
    (inside_bytes deciders reading space (extension_type extension) (extension_payload extension)
    others net transport part.1)

-- The bytes of a frame are its headers in order, the last payload and trailing bytes.
pub frame_in_order : Deciders → (reading : Reading) (entry : Entry) (bytes : List ℕ) (layers : Layers)
    → IsFrameIn reading entry bytes layers → AreInOrder bytes layers
frame_in_order deciders reading ethernet bytes layers (frame, is, link, inside) =
    frame_bytes bytes (ethernet2_bytes frame.header) frame.left (ethernet2 frame.header frame.payload) layers
    (is.fits, refl) is.parts link
    (inside_bytes deciders reading most_link_exts (Some frame.header.ether_type) frame.payload
    layers.link_exts layers.net layers.transport inside)
frame_in_order deciders reading linux_sll bytes layers (frame, is, link, inside) =
    frame_bytes bytes (linux_sll_bytes frame.header) frame.left (sll frame.header frame.payload) layers
    (is.fits, refl) is.parts link
    (inside_bytes deciders reading most_link_exts (protocol_ether_type frame.header.protocol_type) frame.payload
    layers.link_exts layers.net layers.transport inside)
frame_in_order deciders reading (ether_type type) bytes layers (link, inside) =
    frame_bytes bytes [] [] (ether_payload type source.Slice bytes) layers refl (sym (append-nil bytes)) link
    (inside_bytes deciders reading most_link_exts (Some type) bytes layers.link_exts layers.net layers.transport inside)
frame_in_order deciders reading ip bytes layers (no_link, no_tags, part) =
    ip_bytes bytes layers part.0 no_link no_tags part.2
    (net_bytes deciders reading (Some any_ip) bytes layers.net layers.transport part)
