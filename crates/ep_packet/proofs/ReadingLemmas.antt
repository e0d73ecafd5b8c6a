-- A frame in the reading as slices is one in the reading as headers.
use Rattle.std.proofs.Common.{◌≡◌, ℕ, zero, suc, Bool, List, [], ◌∷◌, ◌++◌, Option, Some, None, refl, sym, ap, subst, ◌∙◌, append_assoc}
use Rattle.ep_base.specs.IpPayload.{IpPayload}
use Rattle.ep_base.specs.Readings.{slices, headers}
use Rattle.ep_base.specs.declared.ether_type.EtherType.{EtherType}
use Rattle.ep_ext.specs.Chains.{IpVersion, ipv4 as version_4, ipv6 as version_6, ExtensionChain, IsChainAfter, IsExtensionChain, NoKindTwice, chain_of}
use Rattle.ep_ext.specs.ExtensionParts.{ExtensionPart}
use Rattle.ep_ip.specs.declared.ipv4_header.Ipv4Header.{Ipv4Header}
use Rattle.ep_ip.specs.declared.ipv6_header.Ipv6Header.{Ipv6Header}
use Rattle.ep_ip.specs.IpPackets.{IpPacket, ipv4_part, ipv6_part, IsIpv4, IsIpv6}
use Rattle.ep_link.specs.LinkExtensions.{LinkExtension, extension_payload, extension_type}
use Rattle.ep_link.specs.LinuxSll.{protocol_ether_type}
use Rattle.ep_transport.specs.declared.transport_header.TransportHeader.{TransportHeader}
use Rattle.ep_transport.specs.declared.transport_header.TransportHeader.TheVariants as header
use Rattle.ep_transport.specs.TransportParts.{TransportLayer, IsTransportLayer, IsTransportPart, transport_layer}
use Rattle.ep_transport.specs.Udp.{udp_bytes}
use Rattle.ep_packet.specs.declared.entry.Entry.{Entry}
use Rattle.ep_packet.specs.declared.entry.Entry.TheVariants.{Ethernet as ethernet, LinuxSll as linux_sll, EtherType as ether_type, Ip as ip}
use Rattle.ep_packet.specs.Layers.{NetLayer, Layers, net_payload}
use Rattle.ep_packet.specs.Frame.{NetKind, only_ipv4, only_ipv6, only_arp, any_ip, net_kind, IsFrameIn, IsInside, IsNetLayer, IsNetPart, IsTransportAfterNet, most_link_exts}
use Rattle.ep_packet.specs.FrameBytes.{inner_payload, link_payload, payload_after_exts}
use Rattle.ep_packet.specs.TwoParsers.{Agree, HasNoSecondKind, LastAgrees, PayloadAgrees, TransportAgrees}

-- A chain in the reading as slices without two headers of a kind is one in the reading as headers.
abbrev pub ChainLaw : Type 0
ChainLaw = (version : IpVersion) (number : ℕ) (bytes : List ℕ) (chain : ExtensionChain)
    → IsExtensionChain version slices number bytes chain → NoKindTwice [] chain.parts
    → IsExtensionChain version headers number bytes chain

-- ---- network layer

-- An IPv4 chain has at most one header, so that no kind occurs twice.
one_at_most : (number : ℕ) (bytes : List ℕ) (parts : List ExtensionPart) (last : ℕ) (rest : List ℕ)
    → IsChainAfter version_4 slices [] number bytes parts last rest → NoKindTwice [] parts
one_at_most number bytes [] last rest is = tt
one_at_most number bytes (part ∷ []) last rest is = (refl, tt)
one_at_most number bytes (part ∷ second ∷ others) last rest is = absurd (cc is.1.2.0)

-- An IPv4 packet in the reading as slices is one in the reading as headers.
pub ipv4_reads : ChainLaw → (bytes : List ℕ) (packet : IpPacket Ipv4Header) → IsIpv4 slices bytes packet
    → IsIpv4 headers bytes packet
ipv4_reads law bytes packet is = record {
  content = is.content;
  cut = is.cut;
  chain = law version_4 packet.header.protocol.0 is.content
      (chain_of packet.extensions packet.payload.number packet.payload.bytes) is.chain
      (one_at_most packet.header.protocol.0 is.content packet.extensions packet.payload.number
      packet.payload.bytes is.chain);
  fragmented = is.fragmented;
  source = is.source;
}

-- An IPv6 packet without two extension headers of a kind is one in the reading as headers.
pub ipv6_reads : ChainLaw → (bytes : List ℕ) (packet : IpPacket Ipv6Header) → IsIpv6 slices bytes packet
    → NoKindTwice [] packet.extensions → IsIpv6 headers bytes packet
ipv6_reads law bytes packet is once = record {
  content = is.content;
  cut = is.cut;
  chain = law version_6 packet.header.next_header.0 is.content
      (chain_of packet.extensions packet.payload.number packet.payload.bytes) is.chain once;
  fragmented = is.fragmented;
  source = is.source;
}

-- A network layer without two extension headers of a kind is one in the reading as headers.
net_reads : ChainLaw → (kind : NetKind) (bytes : List ℕ) (layer : NetLayer) → IsNetLayer slices kind bytes layer
    → HasNoSecondKind (Some layer) → IsNetLayer headers kind bytes layer
net_reads law only_ipv4 bytes layer (packet, is, same) once = (packet, ipv4_reads law bytes packet is, same)
net_reads law only_ipv6 bytes layer (packet, is, same) once =
    (packet, ipv6_reads law bytes packet is (subst (λ (l : NetLayer). HasNoSecondKind (Some l)) same once), same)
net_reads law only_arp bytes layer is once = is
net_reads law any_ip bytes layer (ipv4_part packet, is, same) once =
    (ipv4_part packet, ipv4_reads law bytes packet is, same)
net_reads law any_ip bytes layer (ipv6_part packet, is, same) once = (
  ipv6_part packet,
  ipv6_reads law bytes packet is (subst (λ (l : NetLayer). HasNoSecondKind (Some l)) same once),
  same,
)

-- ---- transport layer

-- A transport header is read equally in both readings, and the payloads agree.
layer_reads : (number : ℕ) (bytes : List ℕ) (read : TransportHeader) (payload : List ℕ)
    → IsTransportLayer slices number bytes read payload
    → (other : List ℕ) × IsTransportLayer headers number bytes read other × PayloadAgrees read payload other
layer_reads number bytes (header.Udp datagram) payload (is, (left, udp)) = (
  payload ++ left,
  (is, record { fits = udp.fits; parts = udp.parts ∙ append_assoc (udp_bytes datagram) payload left }),
  (left, refl),
)
layer_reads number bytes (header.Tcp segment) payload is = (payload, is, refl)
layer_reads number bytes (header.Icmpv4 message) payload is = (payload, is, refl)
layer_reads number bytes (header.Icmpv6 message) payload is = (payload, is, refl)

-- An IP payload has an equal transport header in both readings, or none in both.
part_reads : (number : ℕ) (fragmented : Bool) (bytes : List ℕ) (transport : Option TransportLayer)
    → IsTransportPart slices number fragmented bytes transport
    → (other : Option TransportLayer) × IsTransportPart headers number fragmented bytes other
    × TransportAgrees transport other
part_reads number fragmented bytes None is = (None, is, refl)
part_reads number fragmented bytes (Some layer) (complete, is) =
    let reads = layer_reads number bytes layer.header layer.payload is in
    let second = transport_layer layer.header reads.0 in
    (Some second, (complete, reads.1), (second, refl, refl, reads.2))

-- Two absent transport layers agree.
none_agree : (transport : Option TransportLayer) → transport ≡ None → TransportAgrees transport None
none_agree transport none = subst (λ (t : Option TransportLayer). TransportAgrees t None) (sym none) refl

-- The payload of a network layer has a transport layer in both readings, and they agree.
after_reads : (payload : Option IpPayload) (transport : Option TransportLayer)
    → IsTransportAfterNet slices payload transport
    → (other : Option TransportLayer) × IsTransportAfterNet headers payload other × TransportAgrees transport other
after_reads None transport none = (None, refl, none_agree transport none)
after_reads (Some payload) transport is = part_reads payload.number payload.fragmented payload.bytes transport is

-- The last payloads agree if the transport layers do.
last_agrees : (bytes : List ℕ) (net : Option NetLayer) (transport other : Option TransportLayer)
    → TransportAgrees transport other
    → LastAgrees transport (inner_payload bytes net transport) (inner_payload bytes net other)
last_agrees bytes net None other none = ap (inner_payload bytes net) (sym none)
last_agrees bytes net (Some layer) other (second, is, same, agrees) =
    subst (λ (o : Option TransportLayer). LastAgrees (Some layer) layer.payload (inner_payload bytes net o))
    (sym is) agrees

-- ---- frame

-- A network layer, if present, and the transport layer in it are read in both readings, and agree.
net_part_reads : ChainLaw → (kind : Option NetKind) (bytes : List ℕ) (net : Option NetLayer)
    (transport : Option TransportLayer)
    → IsNetPart slices kind bytes net transport → HasNoSecondKind net
    → (other : Option TransportLayer) × IsNetPart headers kind bytes net other × TransportAgrees transport other
net_part_reads law None bytes net transport (no_net, none) once = (None, (no_net, refl), none_agree transport none)
net_part_reads law (Some kind) bytes net transport (layer, is, same, inside) once =
    let reads = after_reads (net_payload layer) transport inside in
    (reads.0, (layer, net_reads law kind bytes layer is (subst HasNoSecondKind same once), same, reads.1), reads.2)

-- The layers of bytes of an ether type are read in both readings, and agree.
inside_reads : ChainLaw → (space : ℕ) (type : Option EtherType) (bytes : List ℕ) (extensions : List LinkExtension)
    (net : Option NetLayer) (transport : Option TransportLayer)
    → IsInside slices space type bytes extensions net transport → HasNoSecondKind net
    → (other : Option TransportLayer) × IsInside headers space type bytes extensions net other
    × TransportAgrees transport other
inside_reads law space None bytes extensions net transport (no_tags, no_net, none) once =
    (None, (no_tags, no_net, refl), none_agree transport none)
inside_reads law zero (Some type) bytes [] net transport part once =
    net_part_reads law (net_kind type) bytes net transport part once
inside_reads law zero (Some type) bytes (extension ∷ others) net transport part once = absurd part
inside_reads law (suc space) (Some type) bytes [] net transport (begins, part) once =
    let reads = net_part_reads law (net_kind type) bytes net transport part once in
    (reads.0, (begins, reads.1), reads.2)
inside_reads law (suc space) (Some type) bytes (extension ∷ others) net transport (tag, part) once =
    let reads = inside_reads law space (extension_type extension) (extension_payload extension)
    others net transport part once in
    (reads.0, (tag, reads.1), reads.2)

-- The layers with another transport layer.
abbrev with_transport : Layers → Option TransportLayer → Layers
with_transport layers other = record layers { transport = other }

-- Layers with another transport layer agree if the transport layers do.
transport_agrees : (layers : Layers) (other : Option TransportLayer) → TransportAgrees layers.transport other
    → Agree layers (with_transport layers other)
transport_agrees layers other agrees = record {
  link = refl;
  link_exts = refl;
  net = refl;
  transport = agrees;
  payload = last_agrees (payload_after_exts (link_payload layers.link) layers.link_exts) layers.net
      layers.transport other agrees;
}

-- A frame in the reading as slices is one in the reading as headers, and their layers agree.
pub frame_reads : ChainLaw → (entry : Entry) (bytes : List ℕ) (layers : Layers) → IsFrameIn slices entry bytes layers
    → HasNoSecondKind layers.net
    → (other : Layers) × IsFrameIn headers entry bytes other × Agree layers other
frame_reads law ethernet bytes layers (frame, is, link, inside) once =
    let reads = inside_reads law most_link_exts (Some frame.header.ether_type) frame.payload
    layers.link_exts layers.net layers.transport inside once in
    (with_transport layers reads.0, (frame, is, link, reads.1), transport_agrees layers reads.0 reads.2)
frame_reads law linux_sll bytes layers (frame, is, link, inside) once =
    let type = protocol_ether_type frame.header.protocol_type in
    let reads = inside_reads law most_link_exts type frame.payload layers.link_exts layers.net
    layers.transport inside once in
    (with_transport layers reads.0, (frame, is, link, reads.1), transport_agrees layers reads.0 reads.2)
frame_reads law (ether_type type) bytes layers (link, inside) once =
    let reads = inside_reads law most_link_exts (Some type) bytes layers.link_exts layers.net
    layers.transport inside once in
    (with_transport layers reads.0, (link, reads.1), transport_agrees layers reads.0 reads.2)
frame_reads law ip bytes layers (no_link, no_tags, part) once =
    let reads = net_part_reads law (Some any_ip) bytes layers.net layers.transport part once in
    (with_transport layers reads.0, (no_link, no_tags, reads.1), transport_agrees layers reads.0 reads.2)
