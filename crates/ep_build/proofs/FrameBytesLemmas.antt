-- A frame of headers whose fields fit consists of bytes.
use Rattle.std.proofs.Common.{ℕ, List, [], ◌∷◌, ◌++◌, length, arith}
use Rattle.ep_base.specs.Bytes.{AreBytes}
use Rattle.ep_base.specs.EtherTypes.{provider_bridging_type, vlan_type}
use Rattle.ep_base.specs.declared.ether_type.EtherType.{EtherType}
use Rattle.ep_base.specs.declared.ip_number.IpNumber.{IpNumber}
use Rattle.ep_ext.specs.Chains.{FitParts, parts_bytes}
use Rattle.ep_ext.specs.ExtensionParts.{ExtensionPart, FitsPart, authentication, destination_options, fragment, hop_by_hop}
use Rattle.ep_ext.specs.ExtensionParts.{part_bytes, routing}
use Rattle.ep_ext.specs.RawExtension.{FitsRawExtension, raw_extension_bytes}
use Rattle.ep_ext.specs.declared.ipv6_raw_ext_header.Ipv6RawExtHeader.{Ipv6RawExtHeader}
use Rattle.ep_link.specs.Ethernet2.{FitsEthernet2, ethernet2_bytes}
use Rattle.ep_link.specs.LinuxSll.{ethernet_hardware}
use Rattle.ep_link.specs.Vlan.{vlan_bytes}
use Rattle.ep_link.specs.declared.link.ethernet2_header.Ethernet2Header.{Ethernet2Header}
use Rattle.ep_link.specs.declared.link_ext.single_vlan_header.SingleVlanHeader.{SingleVlanHeader}
use Rattle.ep_link.specs.declared.link_ext.vlan_header.VlanHeader.TheVariants as tags
use Rattle.ep_packet.specs.IpHeaders.{FitIpHeaders, FitsIpHeader, headers_for, ip_header_bytes, ip_headers_parts}
use Rattle.ep_packet.specs.IpHeaders.{ip_headers_type, with_checksum, written_headers}
use Rattle.ep_packet.specs.declared.ip_headers.IpHeaders.{IpHeaders}
use Rattle.ep_packet.specs.declared.ip_headers.IpHeaders.TheVariants as version
use Rattle.ep_build.specs.BuiltFrames.{as_ether_type, built_frame, ip_frame_headers, link_with_type, link_part_bytes}
use Rattle.ep_build.specs.BuiltFrames.{tag_with_type}
use Rattle.ep_build.specs.Fits.{FitsLink}
use Rattle.ep_build.specs.declared.link_part.LinkPart.{LinkPart}
use Rattle.ep_build.specs.declared.link_part.LinkPart.TheVariants as link
use Rattle.ep_build.proofs.ByteListLemmas.{AllBytes, all, none, more, both, both_bytes, word, long}

-- ---- extension headers

raw : (header : Ipv6RawExtHeader) → FitsRawExtension header → AllBytes (raw_extension_bytes header)
raw header fits =
    more _ _ fits.next_header (more _ _ (omega (arith, fits.payload_len)) (all header.payload fits.payload))

part_is_bytes : (part : ExtensionPart) → FitsPart part → AllBytes (part_bytes part)
part_is_bytes (hop_by_hop header) fits = raw header fits
part_is_bytes (destination_options header) fits = raw header fits
part_is_bytes (routing header) fits = raw header fits
part_is_bytes (fragment header) fits =
    more _ _ fits.next_header (more _ _ (omega arith) (word _ _ (long header.identification [] none)))
part_is_bytes (authentication header) fits =
    more _ _ fits.next_header (more _ _ (omega (arith, fits.icv_len))
    (word 0 _ (long _ _ (long _ _ (all header.icv fits.icv)))))

parts_are_bytes : (parts : List ExtensionPart) → FitParts parts → AllBytes (parts_bytes parts)
parts_are_bytes [] fit = none
parts_are_bytes (part ∷ parts) fit =
    both (part_bytes part) (parts_bytes parts) (part_is_bytes part fit.0).fits (parts_are_bytes parts fit.1)

-- ---- IP headers

header_is_bytes : (headers : IpHeaders) → FitsIpHeader headers → AllBytes (ip_header_bytes (with_checksum headers))
header_is_bytes (version.Ipv4 header extensions) fits =
    more _ _ (omega (arith, fits.options_len)) (more _ _ (omega (arith, fits.dscp, fits.ecn))
    (word _ _ (word _ _ (word _ _ (more _ _ fits.time_to_live (more _ _ fits.protocol
    (word _ _ (both (header.source ++ header.destination) header.options
    (both_bytes header.source header.destination fits.source fits.destination)
    (all header.options fits.options)))))))))
header_is_bytes (version.Ipv6 header extensions) fits =
    long _ _ (word _ _ (more _ _ fits.next_header (more _ _ fits.hop_limit
    (both header.source _ fits.source (all header.destination fits.destination)))))

headers_are_bytes : (headers : IpHeaders) → FitIpHeaders headers
    → AllBytes (written_headers headers (ip_headers_parts headers))
headers_are_bytes headers fit =
    both (ip_header_bytes (with_checksum headers)) (parts_bytes (ip_headers_parts headers))
    (header_is_bytes headers fit.0).fits (parts_are_bytes (ip_headers_parts headers) fit.1)

-- ---- link part

ethernet2_is_bytes : (header : Ethernet2Header) (type : EtherType) → FitsEthernet2 header
    → AllBytes (ethernet2_bytes (record header { ether_type = type }))
ethernet2_is_bytes header type fits =
    both (header.destination ++ header.source) _
    (both_bytes header.destination header.source fits.destination_bytes fits.source_bytes) (word type.0 [] none)

vlan_is_bytes : (tag : SingleVlanHeader) → AllBytes (vlan_bytes tag)
vlan_is_bytes tag = word _ _ (word tag.ether_type.0 [] none)

link_is_bytes : (part : LinkPart) (type : EtherType) → FitsLink part
    → AllBytes (link_part_bytes (link_with_type part type))
link_is_bytes link.Absent type fits = none
link_is_bytes (link.Ethernet2 header) type fits = ethernet2_is_bytes header type fits
link_is_bytes (link.Tagged header (tags.Single tag)) type fits =
    both (ethernet2_bytes (record header { ether_type = as_ether_type vlan_type })) _
    (ethernet2_is_bytes header (as_ether_type vlan_type) fits.0).fits (vlan_is_bytes (tag_with_type tag type))
link_is_bytes (link.Tagged header (tags.Double inner)) type fits =
    let first = as_ether_type provider_bridging_type in
    let second = tag_with_type inner.outer (as_ether_type vlan_type) in
    both (ethernet2_bytes (record header { ether_type = first })) _ (ethernet2_is_bytes header first fits.0).fits
    (both (vlan_bytes second) _ (vlan_is_bytes second).fits (vlan_is_bytes (tag_with_type inner.inner type)))
link_is_bytes (link.LinuxSll header) type fits =
    word _ _ (word ethernet_hardware _ (word header.sender_address_valid_length _
    (both header.sender_address _ fits.address (word type.0 [] none))))

-- ---- frame

pub ip_frame_is_bytes : (part : LinkPart) (headers : IpHeaders) (last : IpNumber) (payload : List ℕ) → FitsLink part
    → FitIpHeaders (headers_for headers last (length payload)) → AreBytes payload
    → AreBytes (built_frame (ip_frame_headers part headers last) payload)
ip_frame_is_bytes part headers last payload fits_link fit bytes =
    let written = headers_for headers last (length payload) in
    both_bytes (link_part_bytes (link_with_type part (as_ether_type (ip_headers_type headers))))
    (written_headers written (ip_headers_parts written) ++ payload)
    (link_is_bytes part (as_ether_type (ip_headers_type headers)) fits_link).fits
    (both_bytes (written_headers written (ip_headers_parts written)) payload (headers_are_bytes written fit).fits bytes)
