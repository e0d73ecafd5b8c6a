-- Lax slicing: the layers of bytes, whether or not they are a frame, up to the first layer whose header is truncated or
-- invalid. Each layer's bytes are the payload of the layer before it, which has all available bytes if a length field
-- is above their number or below the length of its own header.
use Rattle.std.specs.Prelude.{◌≡◌, ◌⊎◌, ◌+◌, ℕ, zero, suc, Bool, false, List, [], ◌∷◌, Option, Some, None}
use Rattle.ep_base.specs.IpPayload.{IpPayload}
use Rattle.ep_base.specs.LaxCut.{LaxCut, IsLaxCut}
use Rattle.ep_base.specs.Readings.{Reading, headers, slices}
use Rattle.ep_base.specs.Tables.{Parts, parts_of, RefusesAs}
use Rattle.ep_base.specs.declared.ether_type.EtherType.{EtherType}
use Rattle.ep_base.specs.declared.len_source.LenSource.TheVariants as source
use Rattle.ep_base.specs.declared.err.ipv6_exts.HeaderError.TheVariants as content
use Rattle.ep_base.specs.declared.err.ipv6_exts.HeaderSliceError.{HeaderSliceError}
use Rattle.ep_base.specs.declared.err.ipv6_exts.HeaderSliceError.TheVariants as header_error
use Rattle.ep_ext.specs.Chains.{IpVersion, ipv4, ipv6}
use Rattle.ep_ip.specs.declared.ipv4_header.Ipv4Header.{Ipv4Header}
use Rattle.ep_ip.specs.declared.ipv6_header.Ipv6Header.{Ipv6Header}
use Rattle.ep_ip.specs.IpPackets.{IpPacket}
use Rattle.ep_ip.specs.Ipv4.{RefusesIpv4Header, of_header_error}
use Rattle.ep_ip.specs.Ipv6.{RefusesIpv6Header, of_header_error as of_ipv6_header_error}
use Rattle.ep_link.specs.declared.link.ethernet2_header.Ethernet2Header.{Ethernet2Header}
use Rattle.ep_link.specs.declared.link.linux_sll_header.LinuxSllHeader.{LinuxSllHeader}
use Rattle.ep_link.specs.Arp.{Arp, IsArp, RefusesArp}
use Rattle.ep_link.specs.Ethernet2.{ethernet2_header_len, IsEthernet2}
use Rattle.ep_link.specs.LinuxSll.{linux_sll_header_len, IsLinuxSll, protocol_ether_type}
use Rattle.ep_link.specs.LinkSlices.{ethernet2, linux_sll as sll, ether_payload}
use Rattle.ep_link.specs.LinkExtensions.{LinkExtension, vlan, macsec, BeginsLinkExtension, IsVlanType, IsMacsecType, extension_header, extension_payload, extension_type, link_ext_header_len}
use Rattle.ep_link.specs.Macsec.{RefusesMacsecHeader}
use Rattle.ep_link.specs.Vlan.{IsVlan, RefusesVlan}
use Rattle.ep_transport.specs.declared.transport_header.TransportHeader.{TransportHeader}
use Rattle.ep_transport.specs.declared.transport_header.TransportHeader.TheVariants as header
use Rattle.ep_transport.specs.TransportParts.{TransportLayer, IsTransportPart}
use Rattle.ep_packet.specs.declared.entry.Entry.{Entry}
use Rattle.ep_packet.specs.declared.entry.Entry.TheVariants.{Ethernet as ethernet, LinuxSll as linux_sll, EtherType as ether_type, Ip as ip}
use Rattle.ep_packet.specs.declared.err.slice_error.SliceError.{SliceError}
use Rattle.ep_packet.specs.declared.err.slice_error.SliceError.TheVariants.{Ipv4Exts, Ipv6Exts}
use Rattle.ep_packet.specs.Frame.{NetKind, only_ipv4, only_ipv6, only_arp, any_ip, net_kind, most_link_exts}
use Rattle.ep_packet.specs.FrameRefusals.{RefusesTransportIn, extension_refusal, ipv4_refusal, ipv6_refusal, len_refusal, net_payload_offset}
use Rattle.ep_packet.specs.Layers.{NetLayer, arp, ipv4_layer, ipv6_layer}
use Rattle.ep_ip.specs.LaxIp.{LaxIp, IsLaxIpv4In, IsLaxIpv6In}
use Rattle.ep_lax.specs.LaxLayers.{LaxTransport, LaxNet, LaxLayers, layer_cut, net_with, no_transport, no_net, error_with_layer}
use Rattle.ep_lax.specs.LaxMacsec.{IsLaxMacsec, lax_macsec_payload}

-- ---- transport layer

-- A transport header and the payload after it, which is limited by the length field of UDP, if it applies. `outer` is
-- true if the payload of IP is incomplete.
abbrev pub IsHeaderLimitedLaxly : Bool → TransportHeader → List ℕ → LaxTransport → Type 0
IsHeaderLimitedLaxly outer (header.Udp udp) payload lax =
    (cut : LaxCut) × IsLaxCut 8 udp.length source.UdpHeaderLen outer 8 payload cut
    × (lax ≡ layer_cut (header.Udp udp) cut.payload cut.incomplete)
IsHeaderLimitedLaxly outer (header.Tcp tcp) payload lax = lax ≡ layer_cut (header.Tcp tcp) payload outer
IsHeaderLimitedLaxly outer (header.Icmpv4 icmp) payload lax = lax ≡ layer_cut (header.Icmpv4 icmp) payload outer
IsHeaderLimitedLaxly outer (header.Icmpv6 icmp) payload lax = lax ≡ layer_cut (header.Icmpv6 icmp) payload outer

-- The transport layer, if present, with its payload limited by the length field of UDP, if the field applies; before
-- that, the payload has all bytes after the header.
abbrev pub IsLimitedLaxly : Bool → Option TransportLayer → LaxTransport → Type 0
IsLimitedLaxly outer None lax = lax ≡ no_transport outer None
IsLimitedLaxly outer (Some layer) lax = IsHeaderLimitedLaxly outer layer.header layer.payload lax

-- The transport layer in the payload of an IP packet. The payload starts at `offset`.
abbrev pub IsLaxTransport : ℕ → Bool → IpPayload → LaxTransport → Type 0
IsLaxTransport offset outer payload lax =
    ((error : SliceError) × RefusesTransportIn headers offset payload error
    × (lax ≡ no_transport outer (Some (error_with_layer error))))
    ⊎ ((part : Option TransportLayer)
    × IsTransportPart headers payload.number payload.fragmented payload.bytes part × IsLimitedLaxly outer part lax)

-- ---- network layer

-- The error of an extension header of a packet that starts at `offset`.
abbrev pub chain_refusal : IpVersion → ℕ → HeaderSliceError → SliceError
chain_refusal version offset (header_error.Len error) = len_refusal offset error
chain_refusal version offset (header_error.Content content.HopByHopNotAtStart) = Ipv6Exts content.HopByHopNotAtStart
chain_refusal ipv4 offset (header_error.Content (content.IpAuth error)) = Ipv4Exts error
chain_refusal ipv6 offset (header_error.Content (content.IpAuth error)) = Ipv6Exts (content.IpAuth error)

-- The layers in an IP packet with headers of this length. No layer is read after an invalid extension header.
abbrev pub IsInsideIp : IpVersion → ℕ → ℕ → Bool → IpPayload → Option HeaderSliceError → LaxTransport → Type 0
IsInsideIp version offset headers_len incomplete payload None inside =
    IsLaxTransport (offset + headers_len) incomplete payload inside
IsInsideIp version offset headers_len incomplete payload (Some refused) inside =
    inside ≡ no_transport incomplete (Some (error_with_layer (chain_refusal version offset refused)))

-- The network layer that starts at `offset`, and the layers in it.
abbrev pub IsIpLayer : {Header : Type 0} → IpVersion → (IpPacket Header → NetLayer) → ℕ → LaxIp Header → LaxNet → Type 0
IsIpLayer version layer_of offset lax net =
    (inside : LaxTransport)
    × IsInsideIp version offset (net_payload_offset (layer_of lax.packet)) lax.incomplete lax.packet.payload lax.stop
    inside
    × (net ≡ net_with (layer_of lax.packet) lax.incomplete inside)

-- The bytes are an IPv4 packet with the layers in it, in the given reading.
abbrev pub IsIpv4NetIn : Reading → ℕ → Bool → List ℕ → LaxNet → Type 0
IsIpv4NetIn reading offset outer bytes net =
    (lax : LaxIp Ipv4Header) × IsLaxIpv4In reading outer bytes lax × IsIpLayer ipv4 ipv4_layer offset lax net

-- The bytes are an IPv6 packet with the layers in it, in the given reading.
abbrev pub IsIpv6NetIn : Reading → ℕ → Bool → List ℕ → LaxNet → Type 0
IsIpv6NetIn reading offset outer bytes net =
    (lax : LaxIp Ipv6Header) × IsLaxIpv6In reading outer bytes lax × IsIpLayer ipv6 ipv6_layer offset lax net

-- The bytes are an IPv4 packet with the layers in it, in the reading as slices.
abbrev pub IsIpv4Net : ℕ → Bool → List ℕ → LaxNet → Type 0
IsIpv4Net = IsIpv4NetIn slices

-- The bytes are an IPv6 packet with the layers in it, in the reading as slices.
abbrev pub IsIpv6Net : ℕ → Bool → List ℕ → LaxNet → Type 0
IsIpv6Net = IsIpv6NetIn slices

-- An ARP packet: its payload is empty and therefore complete.
abbrev pub arp_net : Arp → LaxNet
arp_net packet = net_with (arp packet) false (no_transport false None)

-- No network layer is read, for this reason.
abbrev pub IsNoNet : Bool → LaxNet → SliceError → Type 0
IsNoNet outer net error = net ≡ no_net outer (Some (error_with_layer error))

-- The bytes, which start at `offset`, are a network layer of this kind, if any, with the layers in it. `outer` is true
-- if the bytes are incomplete. A packet of either IP version is read only if its header is valid. In the reading as
-- owned headers, the extension headers end before a second one of a kind.
abbrev pub IsLaxNetIn : Reading → ℕ → Bool → Option NetKind → List ℕ → LaxNet → Type 0
IsLaxNetIn reading offset outer None bytes net = net ≡ no_net outer None
IsLaxNetIn reading offset outer (Some only_ipv4) bytes net =
    ((error : SliceError) × RefusesAs (λ e. ipv4_refusal offset (of_header_error e)) (RefusesIpv4Header bytes) error
    × IsNoNet outer net error)
    ⊎ IsIpv4NetIn reading offset outer bytes net
IsLaxNetIn reading offset outer (Some only_ipv6) bytes net =
    ((error : SliceError)
    × RefusesAs (λ e. ipv6_refusal offset (of_ipv6_header_error e)) (RefusesIpv6Header bytes) error
    × IsNoNet outer net error)
    ⊎ IsIpv6NetIn reading offset outer bytes net
IsLaxNetIn reading offset outer (Some only_arp) bytes net =
    ((error : SliceError) × RefusesAs (len_refusal offset) (RefusesArp bytes) error × IsNoNet outer net error)
    ⊎ ((part : Arp × List ℕ) × IsArp bytes part × (net ≡ arp_net part.0))
IsLaxNetIn reading offset outer (Some any_ip) bytes net =
    IsIpv4NetIn reading offset outer bytes net ⊎ IsIpv6NetIn reading offset outer bytes net

-- The network layer in the reading as slices.
abbrev pub IsLaxNet : ℕ → Bool → Option NetKind → List ℕ → LaxNet → Type 0
IsLaxNet = IsLaxNetIn slices

-- ---- link extensions

-- The bytes with this ether type begin with a tag, and the payload after it is incomplete or not. `outer` is true if
-- the bytes are incomplete.
abbrev pub IsLaxExtension : Bool → EtherType → List ℕ → LinkExtension × Bool → Type 0
IsLaxExtension outer type bytes (vlan tag payload, incomplete) =
    IsVlanType type × IsVlan bytes (parts_of tag payload []) × (incomplete ≡ outer)
IsLaxExtension outer type bytes (macsec tag payload, incomplete) =
    IsMacsecType type × ((cut : LaxCut) × IsLaxMacsec outer bytes (tag, cut)
    × (payload ≡ lax_macsec_payload tag cut) × (incomplete ≡ cut.incomplete))

-- The bytes do not begin with a link extension where one is expected, for this reason.
abbrev pub RefusesLaxExtension : ℕ → EtherType → List ℕ → SliceError → Type 0
RefusesLaxExtension offset type bytes error =
    (IsVlanType type × RefusesAs (len_refusal offset) (RefusesVlan bytes) error)
    ⊎ (IsMacsecType type × RefusesAs (extension_refusal offset) (RefusesMacsecHeader bytes) error)

-- The layers in bytes with this ether type: a limited number of link extensions, up to the first invalid one, and the
-- network layer after them with the layers in it.
abbrev pub IsLaxInsideIn : Reading → ℕ → ℕ → Bool → Option EtherType → List ℕ → List (LinkExtension × Bool) → LaxNet
    → Type 0
IsLaxInsideIn reading exts_left offset outer None bytes extensions net = (extensions ≡ []) × (net ≡ no_net outer None)
IsLaxInsideIn reading zero offset outer (Some type) bytes [] net =
    IsLaxNetIn reading offset outer (net_kind type) bytes net
IsLaxInsideIn reading (suc exts_left) offset outer (Some type) bytes [] net =
    ((¬ BeginsLinkExtension type) × IsLaxNetIn reading offset outer (net_kind type) bytes net)
    ⊎ ((error : SliceError) × RefusesLaxExtension offset type bytes error × IsNoNet outer net error)
IsLaxInsideIn reading zero offset outer (Some type) bytes (extension ∷ others) net = ⊥
IsLaxInsideIn reading (suc exts_left) offset outer (Some type) bytes (extension ∷ others) net =
    IsLaxExtension outer type bytes extension
    × IsLaxInsideIn reading exts_left (offset + link_ext_header_len (extension_header extension.0)) extension.1
    (extension_type extension.0) (extension_payload extension.0) others net

-- The layers in bytes with this ether type, in the reading as slices.
abbrev pub IsLaxInside : ℕ → ℕ → Bool → Option EtherType → List ℕ → List (LinkExtension × Bool) → LaxNet → Type 0
IsLaxInside = IsLaxInsideIn slices

-- ---- complete packets

-- The bytes are read laxly as these layers, in the given reading. An Ethernet header, a Linux cooked capture header or
-- an IP header must be valid.
abbrev pub IsLaxIn : Reading → Entry → List ℕ → LaxLayers → Type 0
IsLaxIn reading ethernet bytes layers =
    (frame : Parts Ethernet2Header) × IsEthernet2 bytes frame
    × (layers.link ≡ Some (ethernet2 frame.header frame.payload))
    × IsLaxInsideIn reading most_link_exts ethernet2_header_len false (Some frame.header.ether_type) frame.payload
    layers.link_exts layers.net
IsLaxIn reading linux_sll bytes layers =
    (frame : Parts LinuxSllHeader) × IsLinuxSll bytes frame
    × (layers.link ≡ Some (sll frame.header frame.payload))
    × IsLaxInsideIn reading most_link_exts linux_sll_header_len false (protocol_ether_type frame.header.protocol_type)
    frame.payload layers.link_exts layers.net
IsLaxIn reading (ether_type type) bytes layers =
    (layers.link ≡ Some (ether_payload type source.Slice bytes))
    × IsLaxInsideIn reading most_link_exts 0 false (Some type) bytes layers.link_exts layers.net
IsLaxIn reading ip bytes layers =
    (layers.link ≡ None) × (layers.link_exts ≡ []) × IsLaxNetIn reading 0 false (Some any_ip) bytes layers.net

-- The bytes are sliced laxly into these layers.
abbrev pub IsLax : Entry → List ℕ → LaxLayers → Type 0
IsLax = IsLaxIn slices
