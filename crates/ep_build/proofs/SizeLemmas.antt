-- Length of a built frame in bytes.
use Rattle.std.proofs.Common.{◌≡◌, ℕ, ◌+◌, List, [], ◌++◌, length, refl, arith}
use Rattle.std.proofs.lemmas.Grind.{common_steps}
use Rattle.std.proofs.lemmas.List.{length-append}
use Rattle.ep_base.specs.declared.ether_type.EtherType.{EtherType}
use Rattle.ep_base.specs.declared.ip_number.IpNumber.{IpNumber}
use Rattle.ep_ext.specs.Chains.{parts_bytes}
use Rattle.ep_link.specs.Arp.{Arp, arp_bytes, arp_len}
use Rattle.ep_packet.specs.IpHeaders.{headers_for, ip_extensions_len, ip_header_bytes, ip_header_len, ip_headers_len}
use Rattle.ep_packet.specs.IpHeaders.{ip_headers_parts, with_checksum, written_headers}
use Rattle.ep_packet.specs.declared.ip_headers.IpHeaders.{IpHeaders}
use Rattle.ep_packet.specs.declared.ip_headers.IpHeaders.TheVariants as version
use Rattle.ep_transport.specs.TransportHeaders.{transport_bytes, transport_header_len}
use Rattle.ep_transport.specs.declared.transport_header.TransportHeader.{TransportHeader}
use Rattle.ep_transport.specs.declared.transport_header.TransportHeader.TheVariants as transport
use Rattle.ep_link.specs.declared.link_ext.vlan_header.VlanHeader.TheVariants as tags
use Rattle.ep_build.specs.BuiltFrames.{as_ether_type, built_frame, built_size, arp_frame_headers, ip_frame_headers, transport_frame_headers}
use Rattle.ep_build.specs.BuiltFrames.{inside_type, ip_frame, ip_packet, link_with_type, link_part_bytes, link_part_len}
use Rattle.ep_build.specs.BuiltFrames.{transport_between, transport_number}
use Rattle.ep_build.specs.Fits.{FitsLink}
use Rattle.ep_packet.specs.IpHeaders.{FitsIpHeader}
use Rattle.ep_build.specs.declared.link_part.LinkPart.{LinkPart}
use Rattle.ep_build.specs.declared.link_part.LinkPart.TheVariants as link
use Rattle.ep_build.proofs.LengthLemmas.{linked_len}

-- ---- parts

pub link_len : (part : LinkPart) (type : EtherType) → FitsLink part
    → length (link_part_bytes (link_with_type part type)) ≡ link_part_len part
link_len link.Absent type fits = refl
link_len (link.Ethernet2 header) type fits =
    grind (arith, common_steps, fits.source_length, fits.destination_length)
link_len (link.Tagged header (tags.Single tag)) type fits =
    grind (arith, common_steps, fits.0.source_length, fits.0.destination_length)
link_len (link.Tagged header (tags.Double both)) type fits =
    grind (arith, common_steps, fits.0.source_length, fits.0.destination_length)
link_len (link.LinuxSll header) type fits = grind (arith, common_steps, fits.address_length)

-- Written IP headers have their length in bytes.
pub headers_len : (headers : IpHeaders) → FitsIpHeader headers
    → length (written_headers headers (ip_headers_parts headers)) ≡ ip_headers_len headers
headers_len (version.Ipv4 header extensions) fits =
    grind (arith, common_steps, fits.source_len, fits.destination_len)
headers_len (version.Ipv6 header extensions) fits =
    grind (arith, common_steps, fits.source_len, fits.destination_len)

header_len : (headers : IpHeaders) (last : IpNumber) (len : ℕ) → FitsIpHeader headers
    → length (ip_header_bytes (with_checksum (headers_for headers last len))) ≡ ip_header_len headers
header_len (version.Ipv4 header extensions) last len fits =
    grind (arith, common_steps, fits.source_len, fits.destination_len)
header_len (version.Ipv6 header extensions) last len fits =
    grind (arith, common_steps, fits.source_len, fits.destination_len)

parts_len : (headers : IpHeaders) (last : IpNumber) (len : ℕ)
    → length (parts_bytes (ip_headers_parts (headers_for headers last len))) ≡ ip_extensions_len headers
parts_len (version.Ipv4 header extensions) last len = linked_len (version.Ipv4 header extensions) last
parts_len (version.Ipv6 header extensions) last len = linked_len (version.Ipv6 header extensions) last

-- IP headers and their content have the sum of their lengths.
ip_len : (headers : IpHeaders) (last : IpNumber) (content : List ℕ) → FitsIpHeader headers
    → length (ip_frame headers last content) ≡ ip_headers_len headers + length content
ip_len headers last content fits =
    let written = headers_for headers last (length content) in omega (
      arith,
      length-append (written_headers written (ip_headers_parts written)) content,
      length-append (ip_header_bytes (with_checksum written)) (parts_bytes (ip_headers_parts written)),
      header_len headers last (length content) fits,
      parts_len headers last (length content),
    )

-- Filling in a transport header keeps its length.
between_bytes : (headers : IpHeaders) (payload : List ℕ) (after : TransportHeader)
    → length (transport_bytes after) ≡ transport_header_len after
    → length (transport_bytes (transport_between headers payload after)) ≡ transport_header_len after
between_bytes (version.Ipv4 ip extensions) payload (transport.Udp header) len = len
between_bytes (version.Ipv4 ip extensions) payload (transport.Tcp header) len = len
between_bytes (version.Ipv4 ip extensions) payload (transport.Icmpv4 header) len = len
between_bytes (version.Ipv4 ip extensions) payload (transport.Icmpv6 header) len = len
between_bytes (version.Ipv6 ip extensions) payload (transport.Udp header) len = len
between_bytes (version.Ipv6 ip extensions) payload (transport.Tcp header) len = len
between_bytes (version.Ipv6 ip extensions) payload (transport.Icmpv4 header) len = len
between_bytes (version.Ipv6 ip extensions) payload (transport.Icmpv6 header) len = len

-- ---- whole frames

pub ip_size : (part : LinkPart) (headers : IpHeaders) (last : IpNumber) (payload : List ℕ) → FitsLink part
    → FitsIpHeader headers
    → length (built_frame (ip_frame_headers part headers last) payload) ≡ built_size (ip_frame_headers part headers last) (length payload)
ip_size part headers last payload fits_link fits =
    let type = as_ether_type (inside_type (ip_packet headers last)) in omega (
      arith,
      length-append (link_part_bytes (link_with_type part type)) (ip_frame headers last payload),
      link_len part type fits_link,
      ip_len headers last payload fits,
    )

pub transport_size : (part : LinkPart) (headers : IpHeaders) (after : TransportHeader) (payload : List ℕ)
    → FitsLink part → FitsIpHeader headers → length (transport_bytes after) ≡ transport_header_len after
    → length (built_frame (transport_frame_headers part headers after) payload)
    ≡ built_size (transport_frame_headers part headers after) (length payload)
transport_size part headers after payload fits_link fits len =
    let last : IpNumber = record { 0 = transport_number after } in
    let filled = transport_bytes (transport_between headers payload after) in
    let type = as_ether_type (inside_type (ip_packet headers last)) in omega (
      arith,
      length-append (link_part_bytes (link_with_type part type)) (ip_frame headers last (filled ++ payload)),
      link_len part type fits_link,
      ip_len headers last (filled ++ payload) fits,
      length-append filled payload,
      between_bytes headers payload after len,
    )

pub arp_size : (part : LinkPart) (packet : Arp) → FitsLink part → length (arp_bytes packet) ≡ arp_len packet
    → length (built_frame (arp_frame_headers part packet) []) ≡ built_size (arp_frame_headers part packet) 0
arp_size part packet fits_link len =
    let type = as_ether_type 0x0806 in omega (
      arith,
      length-append (link_part_bytes (link_with_type part type)) (arp_bytes packet ++ []),
      link_len part type fits_link,
      length-append {A = ℕ} (arp_bytes packet) [],
      len,
    )
