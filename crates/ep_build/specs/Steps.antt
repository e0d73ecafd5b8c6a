-- The headers of each builder step.
use Rattle.std.specs.Prelude.{◌≡◌, ℕ, ◌+◌, ◌-◌, ◌*◌, ◌/◌, ◌%◌, List, ◌∷◌, ◌++◌, drop, slice_index, take, None, false}
use Rattle.ep_base.specs.declared.ether_type.EtherType.{EtherType}
use Rattle.ep_base.specs.declared.ip_number.IpNumber.{IpNumber}
use Rattle.ep_ext.specs.Ipv6Chains.{no_ipv6_extensions}
use Rattle.ep_ip.specs.Ipv4.{default_ipv4_header}
use Rattle.ep_ip.specs.Ipv6.{default_ipv6_header}
use Rattle.ep_ip.specs.declared.ipv4_header.Ipv4Header.{Ipv4Header}
use Rattle.ep_ip.specs.declared.ipv6_header.Ipv6Header.{Ipv6Header}
use Rattle.ep_link.specs.ArpSlices.{arp_of}
use Rattle.ep_link.specs.declared.arp.arp_packet.ArpPacket.{ArpPacket}
use Rattle.ep_link.specs.declared.link.ethernet2_header.Ethernet2Header.{Ethernet2Header}
use Rattle.ep_link.specs.declared.link.linux_sll_header.LinuxSllHeader.{LinuxSllHeader}
use Rattle.ep_link.specs.declared.link_ext.single_vlan_header.SingleVlanHeader.{SingleVlanHeader}
use Rattle.ep_link.specs.declared.link_ext.vlan_header.VlanHeader.{VlanHeader}
use Rattle.ep_packet.specs.declared.ip_headers.IpHeaders.{IpHeaders}
use Rattle.ep_packet.specs.declared.ip_headers.IpHeaders.TheVariants as version
use Rattle.ep_transport.specs.Tcp.{tcp_bytes}
use Rattle.ep_transport.specs.declared.tcp_header.TcpHeader.{TcpHeader}
use Rattle.ep_transport.specs.declared.transport_header.TransportHeader.{TransportHeader}
use Rattle.ep_build.specs.BuiltFrames.{FrameHeaders, arp_frame_headers, ip_frame_headers, transport_frame_headers, link_part_len}
use Rattle.ep_packet.specs.IpHeaders.{ip_headers_len}
use Rattle.ep_build.specs.BuiltFragments.{IsFragmentReadBack}
use Rattle.ep_build.specs.ReadBack.{IsArpReadBack, IsReadBack}
use Rattle.ep_build.specs.declared.ip_part.IpPart.{IpPart}
use Rattle.ep_build.specs.declared.ip_part.IpPart.TheVariants as part
use Rattle.ep_build.specs.declared.link_part.LinkPart.{LinkPart}
use Rattle.ep_build.specs.declared.link_part.LinkPart.TheVariants as link
use Rattle.ep_build.specs.declared.packet_builder.PacketBuilderStep.{PacketBuilderStep}

-- ---- link part of steps that a network layer can follow

-- Link part of a step whose last header is Ethernet II: this header.
abbrev pub ethernet2_link : PacketBuilderStep Ethernet2Header (Unit {0}) Ethernet2Header → LinkPart
ethernet2_link step = link.Ethernet2 step.last

-- Link part of a step whose last header is of a Linux cooked capture: this header.
abbrev pub linux_sll_link : PacketBuilderStep LinuxSllHeader (Unit {0}) LinuxSllHeader → LinkPart
linux_sll_link step = link.LinuxSll step.last

-- Link part of a step whose last headers are VLAN tags: the Ethernet II header before them, and the tags.
abbrev pub vlan_link : PacketBuilderStep VlanHeader Ethernet2Header VlanHeader → LinkPart
vlan_link step = link.Tagged step.before step.last

-- ---- step of IP headers

-- An IPv4 header without extension headers.
abbrev pub plain_ipv4 : Ipv4Header → IpHeaders
plain_ipv4 header = version.Ipv4 header (record { auth = None })

-- An IPv6 header without extension headers.
abbrev pub plain_ipv6 : Ipv6Header → IpHeaders
plain_ipv6 header = version.Ipv6 header no_ipv6_extensions

-- The headers that were passed to a step.
abbrev pub part_headers : IpPart → IpHeaders
part_headers (part.Plain4 header) = plain_ipv4 header
part_headers (part.Plain6 header) = plain_ipv6 header
part_headers (part.Any headers) = headers

-- Link part of a step of IP headers.
abbrev pub ip_link : PacketBuilderStep IpHeaders LinkPart IpPart → LinkPart
ip_link step = step.before

-- IP headers of a step.
abbrev pub ip_step_headers : PacketBuilderStep IpHeaders LinkPart IpPart → IpHeaders
ip_step_headers step = part_headers step.last

-- Headers of the step's frame, with the protocol number of the payload.
abbrev pub ip_step_frame : PacketBuilderStep IpHeaders LinkPart IpPart → IpNumber → FrameHeaders
ip_step_frame step last = ip_frame_headers (ip_link step) (ip_step_headers step) last

-- Length in bytes of the step's frame with `len` bytes of payload.
abbrev pub ip_step_size : PacketBuilderStep IpHeaders LinkPart IpPart → ℕ → ℕ
ip_step_size step len = link_part_len (ip_link step) + (ip_headers_len (ip_step_headers step) + len)

-- The step's frame, with this protocol number and payload, is read back as the fragment it was built from.
abbrev pub IpStepReadsBack : PacketBuilderStep IpHeaders LinkPart IpPart → IpNumber → List ℕ → Type 0
IpStepReadsBack step last payload = IsFragmentReadBack (ip_link step) (ip_step_headers step) last payload

-- ---- steps of a transport header

-- Transport header of a step.
abbrev pub transport_header : {H : Type 0} → PacketBuilderStep H (LinkPart × IpPart) H → H
transport_header step = step.last

-- Headers of the step's frame, with its header as a `TransportHeader`.
abbrev pub transport_step_frame : {H : Type 0} → (H → TransportHeader) → PacketBuilderStep H (LinkPart × IpPart) H → FrameHeaders
transport_step_frame kind step = transport_frame_headers step.before.0 (part_headers step.before.1) (kind (transport_header step))

-- The frame of the step and a payload is read back.
abbrev pub StepReadsBack : {H : Type 0} → (H → TransportHeader) → PacketBuilderStep H (LinkPart × IpPart) H → List ℕ
    → Type 0
StepReadsBack kind step payload =
    IsReadBack step.before.0 (part_headers step.before.1) (kind (transport_header step)) payload

-- Headers of the frame of a step of IP headers and a transport header.
abbrev pub frame_after : PacketBuilderStep IpHeaders LinkPart IpPart → TransportHeader → FrameHeaders
frame_after step upper = transport_frame_headers (ip_link step) (ip_step_headers step) upper

-- The step with another header.
abbrev pub with_header : {H : Type 0} → PacketBuilderStep H (LinkPart × IpPart) H → H
    → PacketBuilderStep H (LinkPart × IpPart) H
with_header step header = record step { last = header }

-- ---- flags of a TCP header

-- The number with this bit, a power of 2, set, and its other bits unchanged.
abbrev pub with_bit : ℕ → ℕ → ℕ
with_bit mask number = number + mask * (1 - number / mask % 2)

-- The bytes of the second header are those of the first one, with this bit of the byte at this offset set: a flag (RFC
-- 9293, 3.1).
abbrev pub SetsFlag : ℕ → ℕ → TcpHeader → TcpHeader → Type 0
SetsFlag at mask before after =
    let bytes = tcp_bytes before in
    tcp_bytes after ≡ take at bytes ++ with_bit mask (slice_index bytes at) ∷ drop (at + 1) bytes

-- ---- step of an ARP packet

-- Headers of the step's frame.
abbrev pub arp_step_frame : PacketBuilderStep ArpPacket LinkPart ArpPacket → FrameHeaders
arp_step_frame step = arp_frame_headers step.before (arp_of step.last)

-- The step's frame is read back.
abbrev pub ArpStepReadsBack : PacketBuilderStep ArpPacket LinkPart ArpPacket → Type 0
ArpStepReadsBack step = IsArpReadBack step.before (arp_of step.last)

-- ---- new headers

-- An ether type that is unknown until the frame is written.
abbrev pub no_type : EtherType
no_type = record { 0 = 0 }

-- A VLAN tag with this identifier, whose other fields are 0.
abbrev pub tag_of : ℕ → SingleVlanHeader
tag_of identifier =
    record { pcp = 0; drop_eligible_indicator = false; vlan_id = identifier; ether_type = no_type }

-- The default IPv4 headers, with these addresses and this time to live.
abbrev pub ipv4_headers_between : List ℕ → List ℕ → ℕ → IpHeaders
ipv4_headers_between source destination time_to_live = version.Ipv4
    (record default_ipv4_header { time_to_live = time_to_live; source = source; destination = destination })
    (record { auth = None })

-- The default IPv6 headers, with these addresses and this hop limit.
abbrev pub ipv6_headers_between : List ℕ → List ℕ → ℕ → IpHeaders
ipv6_headers_between source destination hop_limit = version.Ipv6
    (record default_ipv6_header { hop_limit = hop_limit; source = source; destination = destination })
    no_ipv6_extensions
