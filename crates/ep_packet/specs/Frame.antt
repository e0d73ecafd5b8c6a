-- The grammar of frames: which bytes are a frame, and its layers. The bytes of each layer are the payload of the layer
-- before it, and bytes that its length field excludes trail its payload. So a frame is its headers from the outside in,
-- the payload of the last layer, and the trailing bytes, those of the innermost layer first.
use Rattle.std.specs.Prelude.{◌≡◌, ◌==◌, if◌then◌else◌, ℕ, zero, suc, List, [], ◌∷◌, Option, Some, None}
use Rattle.ep_base.specs.EtherTypes.{ipv4_type, ipv6_type, arp_type}
use Rattle.ep_base.specs.Readings.{Reading, slices}
use Rattle.ep_base.specs.Tables.{Parts}
use Rattle.ep_base.specs.declared.ether_type.EtherType.{EtherType}
use Rattle.ep_base.specs.declared.len_source.LenSource.TheVariants as source
use Rattle.ep_link.specs.declared.link.ethernet2_header.Ethernet2Header.{Ethernet2Header}
use Rattle.ep_link.specs.declared.link.linux_sll_header.LinuxSllHeader.{LinuxSllHeader}
use Rattle.ep_link.specs.Arp.{Arp, IsArp}
use Rattle.ep_link.specs.Ethernet2.{IsEthernet2}
use Rattle.ep_link.specs.LinuxSll.{IsLinuxSll, protocol_ether_type}
use Rattle.ep_link.specs.LinkSlices.{ethernet2, linux_sll as sll, ether_payload}
use Rattle.ep_link.specs.LinkExtensions.{LinkExtension, BeginsLinkExtension, IsLinkExtension, extension_type, extension_payload}
use Rattle.ep_base.specs.IpPayload.{IpPayload}
use Rattle.ep_ip.specs.declared.ipv4_header.Ipv4Header.{Ipv4Header}
use Rattle.ep_ip.specs.declared.ipv6_header.Ipv6Header.{Ipv6Header}
use Rattle.ep_ip.specs.IpPackets.{IpPacket, IpPart, IsIpv4, IsIpv6, IsIp}
use Rattle.ep_transport.specs.TransportParts.{TransportLayer, IsTransportPart}
use Rattle.ep_packet.specs.declared.entry.Entry.{Entry}
use Rattle.ep_packet.specs.declared.entry.Entry.TheVariants.{Ethernet as ethernet, LinuxSll as linux_sll, EtherType as ether_type, Ip as ip}
use Rattle.ep_packet.specs.Layers.{NetLayer, arp, Layers, ipv4_layer, ipv6_layer, ip_layer, net_payload}

-- How the protocol of a network layer is known: by its ether type, or, for an IP packet, by the version in its first
-- byte.
pub data NetKind : Type 0 where
  only_ipv4 : NetKind
  only_ipv6 : NetKind
  only_arp : NetKind
  any_ip : NetKind

-- The network layer protocol of an ether type, if it is supported.
abbrev pub net_kind : EtherType → Option NetKind
net_kind type =
    if type.0 == ipv4_type then Some only_ipv4
    else if type.0 == ipv6_type then Some only_ipv6
    else if type.0 == arp_type then Some only_arp
    else None

-- The bytes are a network layer of this protocol, and the trailing bytes that its length field excludes.
abbrev pub IsNetLayer : Reading → NetKind → List ℕ → NetLayer → Type 0
IsNetLayer reading only_ipv4 bytes layer =
    (packet : IpPacket Ipv4Header) × IsIpv4 reading bytes packet × (layer ≡ ipv4_layer packet)
IsNetLayer reading only_ipv6 bytes layer =
    (packet : IpPacket Ipv6Header) × IsIpv6 reading bytes packet × (layer ≡ ipv6_layer packet)
IsNetLayer reading only_arp bytes layer =
    (part : Arp × List ℕ) × IsArp bytes part × (layer ≡ arp part.0)
IsNetLayer reading any_ip bytes layer = (part : IpPart) × IsIp reading bytes part × (layer ≡ ip_layer part)

-- The transport layer of an IP payload, or none if the payload has no supported one.
abbrev pub IsTransportIn : Reading → IpPayload → Option TransportLayer → Type 0
IsTransportIn reading payload = IsTransportPart reading payload.number payload.fragmented payload.bytes

-- The transport layer in the payload of a network layer, or none if it has no supported one.
abbrev pub IsTransportAfterNet : Reading → Option IpPayload → Option TransportLayer → Type 0
IsTransportAfterNet reading None transport = transport ≡ None
IsTransportAfterNet reading (Some payload) transport = IsTransportIn reading payload transport

-- The bytes are a network layer of this protocol, with the transport layer in it. Bytes of no supported protocol have
-- neither.
abbrev pub IsNetPart : Reading → Option NetKind → List ℕ → Option NetLayer → Option TransportLayer → Type 0
IsNetPart reading None bytes net transport = (net ≡ None) × (transport ≡ None)
IsNetPart reading (Some kind) bytes net transport =
    (layer : NetLayer) × IsNetLayer reading kind bytes layer × (net ≡ Some layer)
    × IsTransportAfterNet reading (net_payload layer) transport

-- The bytes, of an ether type, are link extensions up to the given number, then the network layer and the transport
-- layer. The extensions end at that number, or at an ether type that is none of an extension. Bytes of unknown type
-- have no layers.
abbrev pub IsInside : Reading → ℕ → Option EtherType → List ℕ
    → List LinkExtension → Option NetLayer → Option TransportLayer → Type 0
IsInside reading exts_left None bytes extensions net transport = (extensions ≡ []) × (net ≡ None) × (transport ≡ None)
IsInside reading zero (Some type) bytes [] net transport = IsNetPart reading (net_kind type) bytes net transport
IsInside reading (suc exts_left) (Some type) bytes [] net transport =
    (¬ BeginsLinkExtension type) × IsNetPart reading (net_kind type) bytes net transport
IsInside reading zero (Some type) bytes (extension ∷ others) net transport = ⊥
IsInside reading (suc exts_left) (Some type) bytes (extension ∷ others) net transport =
    ((left : List ℕ) × IsLinkExtension type bytes (extension, left))
    × IsInside reading exts_left (extension_type extension) (extension_payload extension) others net transport

-- Greatest number of link extensions that are read.
abbrev pub most_link_exts : ℕ
most_link_exts = 3

-- The bytes are a frame of these layers, in the given reading.
abbrev pub IsFrameIn : Reading → Entry → List ℕ → Layers → Type 0
IsFrameIn reading ethernet bytes layers =
    (frame : Parts Ethernet2Header) × IsEthernet2 bytes frame
    × (layers.link ≡ Some (ethernet2 frame.header frame.payload))
    × IsInside reading most_link_exts (Some frame.header.ether_type) frame.payload
    layers.link_exts layers.net layers.transport
IsFrameIn reading linux_sll bytes layers =
    (frame : Parts LinuxSllHeader) × IsLinuxSll bytes frame
    × (layers.link ≡ Some (sll frame.header frame.payload))
    × IsInside reading most_link_exts (protocol_ether_type frame.header.protocol_type) frame.payload
    layers.link_exts layers.net layers.transport
IsFrameIn reading (ether_type type) bytes layers =
    (layers.link ≡ Some (ether_payload type source.Slice bytes))
    × IsInside reading most_link_exts (Some type) bytes layers.link_exts layers.net layers.transport
IsFrameIn reading ip bytes layers =
    (layers.link ≡ None) × (layers.link_exts ≡ []) × IsNetPart reading (Some any_ip) bytes layers.net layers.transport

-- The bytes are a frame of these layers, in the reading as slices.
abbrev pub IsFrame : Entry → List ℕ → Layers → Type 0
IsFrame = IsFrameIn slices
