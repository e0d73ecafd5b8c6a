-- The errors of bytes that are no frame: the outer layers are valid, and the bytes of the next layer meet a row of its
-- refusal table.
use Rattle.std.specs.Prelude.{ℕ, zero, suc, ◌+◌, ◌⊎◌, List, Option, Some, None}
use Rattle.ep_base.specs.Readings.{Reading, slices, after_header}
use Rattle.ep_base.specs.Tables.{Parts, RefusesAs}
use Rattle.ep_base.specs.declared.ether_type.EtherType.{EtherType}
use Rattle.ep_base.specs.declared.err.len_error.LenError.{LenError}
use Rattle.ep_base.specs.declared.err.ipv4.SliceError.{SliceError as Ipv4SliceError}
use Rattle.ep_base.specs.declared.err.ipv4.SliceError.TheVariants as ipv4_error
use Rattle.ep_base.specs.declared.err.ipv6.SliceError.{SliceError as Ipv6SliceError}
use Rattle.ep_base.specs.declared.err.ipv6.SliceError.TheVariants as ipv6_error
use Rattle.ep_base.specs.declared.err.ip.SliceError.{SliceError as IpSliceError}
use Rattle.ep_base.specs.declared.err.ip.SliceError.TheVariants as ip_error
use Rattle.ep_base.specs.declared.err.ip.HeadersError.{HeadersError as IpHeadersError}
use Rattle.ep_base.specs.declared.err.ip.HeadersError.TheVariants as ip_content
use Rattle.ep_base.specs.declared.err.linux_sll.HeaderSliceError.{HeaderSliceError as LinuxSllError}
use Rattle.ep_base.specs.declared.err.linux_sll.HeaderSliceError.TheVariants as linux_sll_error
use Rattle.ep_base.specs.declared.err.macsec.HeaderSliceError.{HeaderSliceError as ExtensionError}
use Rattle.ep_base.specs.declared.err.macsec.HeaderSliceError.TheVariants as extension_error
use Rattle.ep_base.specs.declared.err.tcp.HeaderSliceError.{HeaderSliceError as TransportError}
use Rattle.ep_base.specs.declared.err.tcp.HeaderSliceError.TheVariants as transport_error
use Rattle.ep_base.specs.declared.len_source.LenSource.{LenSource}
use Rattle.ep_link.specs.declared.link.ethernet2_header.Ethernet2Header.{Ethernet2Header}
use Rattle.ep_link.specs.declared.link.linux_sll_header.LinuxSllHeader.{LinuxSllHeader}
use Rattle.ep_link.specs.Arp.{RefusesArp}
use Rattle.ep_link.specs.Ethernet2.{ethernet2_header_len, IsEthernet2, RefusesEthernet2}
use Rattle.ep_link.specs.LinuxSll.{linux_sll_header_len, IsLinuxSll, RefusesLinuxSll, protocol_ether_type}
use Rattle.ep_link.specs.LinkExtensions.{LinkExtension, BeginsLinkExtension, IsLinkExtension, RefusesLinkExtension, extension_header, extension_payload, extension_type, link_ext_header_len}
use Rattle.ep_base.specs.IpPayload.{IpPayload}
use Rattle.ep_ip.specs.IpBytes.{ipv4_headers_len, ipv6_headers_len}
use Rattle.ep_ip.specs.IpPackets.{RefusesIpv4, RefusesIpv6, RefusesIp}
use Rattle.ep_transport.specs.TransportParts.{RefusesTransportPart}
use Rattle.ep_packet.specs.declared.err.slice_error.SliceError.{SliceError}
use Rattle.ep_packet.specs.declared.err.slice_error.SliceError.TheVariants.{Len, LinuxSll, Macsec, Ip, Ipv4, Ipv6, Ipv4Exts, Ipv6Exts, Tcp}
use Rattle.ep_packet.specs.declared.entry.Entry.{Entry}
use Rattle.ep_packet.specs.declared.entry.Entry.TheVariants.{Ethernet as ethernet, LinuxSll as linux_sll, EtherType as ether_type, Ip as ip}
use Rattle.ep_packet.specs.Layers.{NetLayer, ipv4, ipv6, arp, net_payload}
use Rattle.ep_packet.specs.Frame.{NetKind, only_ipv4, only_ipv6, only_arp, any_ip, net_kind, IsNetLayer, most_link_exts}

-- The length error of a layer, moved by `offset` further bytes before the layer.
abbrev pub with_further_offset : ℕ → LenError → LenError
with_further_offset offset error = record error { layer_start_offset = error.layer_start_offset + offset }

-- Error of an SLL header at the start of the frame.
abbrev pub linux_sll_refusal : LinuxSllError → SliceError
linux_sll_refusal (linux_sll_error.Len error) = Len error
linux_sll_refusal (linux_sll_error.Content error) = LinuxSll error

-- Error of a layer that can only be too short, `offset` bytes from the start of the frame.
abbrev pub len_refusal : ℕ → LenError → SliceError
len_refusal offset error = Len (with_further_offset offset error)

-- Error of a link extension, `offset` bytes from the start of the frame.
abbrev pub extension_refusal : ℕ → ExtensionError → SliceError
extension_refusal offset (extension_error.Len error) = len_refusal offset error
extension_refusal offset (extension_error.Content error) = Macsec error

-- Error of an IPv4 packet, `offset` bytes from the start of the frame.
abbrev pub ipv4_refusal : ℕ → Ipv4SliceError → SliceError
ipv4_refusal offset (ipv4_error.Len error) = len_refusal offset error
ipv4_refusal offset (ipv4_error.Header error) = Ipv4 error
ipv4_refusal offset (ipv4_error.Exts error) = Ipv4Exts error

-- Error of an IPv6 packet, `offset` bytes from the start of the frame.
abbrev pub ipv6_refusal : ℕ → Ipv6SliceError → SliceError
ipv6_refusal offset (ipv6_error.Len error) = len_refusal offset error
ipv6_refusal offset (ipv6_error.Header error) = Ipv6 error
ipv6_refusal offset (ipv6_error.Exts error) = Ipv6Exts error

-- Error of the content of IP headers, of either version.
abbrev pub ip_content_refusal : IpHeadersError → SliceError
ip_content_refusal (ip_content.Ip error) = Ip error
ip_content_refusal (ip_content.Ipv4Ext error) = Ipv4Exts error
ip_content_refusal (ip_content.Ipv6Ext error) = Ipv6Exts error

-- Error of an IP packet of either version, `offset` bytes from the start of the frame.
abbrev pub ip_refusal : ℕ → IpSliceError → SliceError
ip_refusal offset (ip_error.Len error) = len_refusal offset error
ip_refusal offset (ip_error.IpHeaders error) = ip_content_refusal error

-- Error of the transport layer in a payload whose end `source` limits, `offset` bytes from the start of the frame.
abbrev pub transport_refusal : ℕ → LenSource → TransportError → SliceError
transport_refusal offset source (transport_error.Len error) = Len (after_header offset source error)
transport_refusal offset source (transport_error.Content error) = Tcp error

-- The errors of an IP payload that lacks the valid transport layer its protocol number requires.
abbrev pub RefusesTransportIn : Reading → ℕ → IpPayload → SliceError → Type 0
RefusesTransportIn reading offset payload = RefusesAs
    (transport_refusal offset payload.source)
    (RefusesTransportPart reading payload.number payload.fragmented payload.bytes)

-- The errors of bytes that are no network layer of this protocol.
abbrev pub RefusesNetLayer : Reading → NetKind → ℕ → List ℕ → SliceError → Type 0
RefusesNetLayer reading only_ipv4 offset bytes = RefusesAs (ipv4_refusal offset) (RefusesIpv4 reading bytes)
RefusesNetLayer reading only_ipv6 offset bytes = RefusesAs (ipv6_refusal offset) (RefusesIpv6 reading bytes)
RefusesNetLayer reading only_arp offset bytes = RefusesAs (len_refusal offset) (RefusesArp bytes)
RefusesNetLayer reading any_ip offset bytes = RefusesAs (ip_refusal offset) (RefusesIp reading bytes)

-- Offset of the payload in a network layer: the length in bytes of the IP header and its extension headers; 0 for ARP,
-- which has no payload.
abbrev pub net_payload_offset : NetLayer → ℕ
net_payload_offset (ipv4 header extensions payload) = ipv4_headers_len header extensions
net_payload_offset (ipv6 header extensions payload) = ipv6_headers_len extensions
net_payload_offset (arp packet) = 0

-- The errors of a network layer's payload that lacks the valid transport layer its protocol number requires.
abbrev pub RefusesTransportAfterNet : Reading → ℕ → Option IpPayload → SliceError → Type 0
RefusesTransportAfterNet reading offset None error = ⊥
RefusesTransportAfterNet reading offset (Some payload) error = RefusesTransportIn reading offset payload error

-- The errors of bytes that lack the valid network layer of this protocol, or a valid transport layer in it.
abbrev pub RefusesNetPart : Reading → ℕ → Option NetKind → List ℕ → SliceError → Type 0
RefusesNetPart reading offset None bytes error = ⊥
RefusesNetPart reading offset (Some kind) bytes error =
    RefusesNetLayer reading kind offset bytes error
    ⊎ ((layer : NetLayer) × IsNetLayer reading kind bytes layer
    × RefusesTransportAfterNet reading (offset + net_payload_offset layer) (net_payload layer) error)

-- The errors of bytes whose ether type requires a link extension, but which are no valid one.
abbrev pub RefusesExtensionAt : ℕ → EtherType → List ℕ → SliceError → Type 0
RefusesExtensionAt offset type bytes = RefusesAs (extension_refusal offset) (RefusesLinkExtension type bytes)

-- The errors of bytes of an ether type in which at most the given number of link extensions is read. The trailing bytes
-- that a MACsec tag excludes don't count to the offset of a layer in its payload.
abbrev pub RefusesInside : Reading → ℕ → ℕ → Option EtherType → List ℕ → SliceError → Type 0
RefusesInside reading exts_left offset None bytes error = ⊥
RefusesInside reading zero offset (Some type) bytes error = RefusesNetPart reading offset (net_kind type) bytes error
RefusesInside reading (suc exts_left) offset (Some type) bytes error =
    ((¬ BeginsLinkExtension type) × RefusesNetPart reading offset (net_kind type) bytes error)
    ⊎ RefusesExtensionAt offset type bytes error
    ⊎ ((extension : LinkExtension) × (left : List ℕ) × IsLinkExtension type bytes (extension, left)
    × RefusesInside reading exts_left (offset + link_ext_header_len (extension_header extension)) (extension_type extension)
    (extension_payload extension) error)

-- The errors of bytes that are no frame, in the given reading.
abbrev pub RefusesFrameIn : Reading → Entry → List ℕ → SliceError → Type 0
RefusesFrameIn reading ethernet bytes error =
    RefusesAs Len (RefusesEthernet2 bytes) error
    ⊎ ((frame : Parts Ethernet2Header) × IsEthernet2 bytes frame
    × RefusesInside reading most_link_exts ethernet2_header_len (Some frame.header.ether_type) frame.payload error)
RefusesFrameIn reading linux_sll bytes error =
    RefusesAs linux_sll_refusal (RefusesLinuxSll bytes) error
    ⊎ ((frame : Parts LinuxSllHeader) × IsLinuxSll bytes frame
    × RefusesInside reading most_link_exts linux_sll_header_len
    (protocol_ether_type frame.header.protocol_type) frame.payload error)
RefusesFrameIn reading (ether_type type) bytes error = RefusesInside reading most_link_exts 0 (Some type) bytes error
RefusesFrameIn reading ip bytes error = RefusesNetPart reading 0 (Some any_ip) bytes error

-- The errors of bytes that are no frame, in the reading as slices.
abbrev pub RefusesFrame : Entry → List ℕ → SliceError → Type 0
RefusesFrame = RefusesFrameIn slices
