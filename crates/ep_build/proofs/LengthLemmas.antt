-- Lengths of headers: linking keeps them, and so does filling in types, numbers and checksums.
use Rattle.std.proofs.Common.{◌≡◌, ℕ, List, length, Option, Some, None, refl, ◌∙◌, arith}
use Rattle.std.specs.Option.{option_map, option_map_or}
use Rattle.ep_base.specs.declared.ip_number.IpNumber.{IpNumber}
use Rattle.ep_ext.specs.declared.ip_auth_header.IpAuthHeader.{IpAuthHeader}
use Rattle.ep_ext.specs.declared.ipv6_exts.Ipv6Extensions.{Ipv6Extensions}
use Rattle.ep_ext.specs.declared.ipv6_fragment_header.Ipv6FragmentHeader.{Ipv6FragmentHeader}
use Rattle.ep_ext.specs.declared.ipv6_raw_ext_header.Ipv6RawExtHeader.{Ipv6RawExtHeader}
use Rattle.ep_ext.specs.declared.ipv6_routing_exts.Ipv6RoutingExtensions.{Ipv6RoutingExtensions}
use Rattle.ep_ext.specs.Chains.{parts_bytes}
use Rattle.ep_ext.specs.ExtensionParts.{authentication, optional_part}
use Rattle.ep_ext.specs.IpAuth.{ip_auth_len}
use Rattle.ep_ext.specs.Ipv4Chains.{ip_auth_leading_to}
use Rattle.ep_ext.specs.Ipv6Chains.{after_auth, after_destination, after_fragment, after_hop_by_hop, after_routing}
use Rattle.ep_ext.specs.Ipv6Chains.{final_by, fragment_leading_to, ipv6_linked, ipv6_parts, raw_leading_to}
use Rattle.ep_ext.specs.Ipv6Chains.{routing_header, routing_leading_to}
use Rattle.ep_ext.specs.RawExtension.{raw_extension_len}
use Rattle.ep_ext.proofs.ValueLemmas.{value_len}
use Rattle.ep_packet.specs.IpHeaders.{headers_for, ip_extensions_len, ip_headers_len, linked_headers}
use Rattle.ep_packet.specs.declared.ip_headers.IpHeaders.{IpHeaders}
use Rattle.ep_packet.specs.declared.ip_headers.IpHeaders.TheVariants as version
use Rattle.ep_transport.specs.TransportHeaders.{transport_header_len}
use Rattle.ep_transport.specs.declared.transport_header.TransportHeader.{TransportHeader}
use Rattle.ep_transport.specs.declared.transport_header.TransportHeader.TheVariants as transport
use Rattle.ep_build.specs.BuiltFrames.{transport_between, with_checksum_after, with_length}

-- ---- linked extension headers

raw_len : (next : IpNumber) (header : Option Ipv6RawExtHeader)
    → option_map_or raw_extension_len (option_map (raw_leading_to next) header) 0
    ≡ option_map_or raw_extension_len header 0
raw_len next None = refl
raw_len next (Some header) = refl

routing_len : (next last : IpNumber) (after : Option Ipv6RoutingExtensions)
    → option_map_or raw_extension_len (option_map routing_header (option_map (routing_leading_to next last) after)) 0
    ≡ option_map_or raw_extension_len (option_map routing_header after) 0
routing_len next last None = refl
routing_len next last (Some after) = refl

final_len : (next last : IpNumber) (after : Option Ipv6RoutingExtensions)
    → option_map_or raw_extension_len (final_by (option_map (routing_leading_to next last) after)) 0
    ≡ option_map_or raw_extension_len (final_by after) 0
final_len next last None = refl
final_len next last (Some after) = raw_len last after.final_destination_options

abbrev eight : Ipv6FragmentHeader → ℕ
eight header = 8

fragment_len : (next : IpNumber) (header : Option Ipv6FragmentHeader)
    → option_map_or eight (option_map (fragment_leading_to next) header) 0 ≡ option_map_or eight header 0
fragment_len next None = refl
fragment_len next (Some header) = refl

auth_len : (next : IpNumber) (header : Option IpAuthHeader)
    → option_map_or ip_auth_len (option_map (ip_auth_leading_to next) header) 0 ≡ option_map_or ip_auth_len header 0
auth_len next None = refl
auth_len next (Some header) = refl

ipv6_len : (extensions : Ipv6Extensions) (last : IpNumber)
    → length (parts_bytes (ipv6_parts (ipv6_linked extensions last))) ≡ length (parts_bytes (ipv6_parts extensions))
ipv6_len extensions last = omega (
  arith,
  value_len extensions,
  value_len (ipv6_linked extensions last),
  raw_len (after_hop_by_hop extensions last) extensions.hop_by_hop_options,
  raw_len (after_destination extensions last) extensions.destination_options,
  routing_len (after_routing extensions last) last extensions.routing,
  final_len (after_routing extensions last) last extensions.routing,
  fragment_len (after_fragment extensions last) extensions.fragment,
  auth_len (after_auth extensions last) extensions.auth,
)

ipv4_len : (next : IpNumber) (auth : Option IpAuthHeader)
    → length (parts_bytes (optional_part authentication (option_map (ip_auth_leading_to next) auth)))
    ≡ length (parts_bytes (optional_part authentication auth))
ipv4_len next None = refl
ipv4_len next (Some header) = refl

-- Linking keeps the length of the extension headers.
pub linked_len : (headers : IpHeaders) (last : IpNumber)
    → ip_extensions_len (linked_headers headers last) ≡ ip_extensions_len headers
linked_len (version.Ipv4 header extensions) last = ipv4_len last extensions.auth
linked_len (version.Ipv6 header extensions) last = ipv6_len extensions last

-- Linking and setting the length field keep the length of the headers.
pub headers_for_len : (headers : IpHeaders) (last : IpNumber) (len : ℕ)
    → ip_headers_len (headers_for headers last len) ≡ ip_headers_len headers
headers_for_len (version.Ipv4 header extensions) last len = omega (arith, ipv4_len last extensions.auth)
headers_for_len (version.Ipv6 header extensions) last len = omega (arith, ipv6_len extensions last)

-- ---- filled in transport headers

pub with_length_len : (len : ℕ) (header : TransportHeader)
    → transport_header_len (with_length len header) ≡ transport_header_len header
with_length_len len (transport.Udp header) = refl
with_length_len len (transport.Tcp header) = refl
with_length_len len (transport.Icmpv4 header) = refl
with_length_len len (transport.Icmpv6 header) = refl

pub with_checksum_len : (headers : IpHeaders) (payload : List ℕ) (header : TransportHeader)
    → transport_header_len (with_checksum_after headers payload header) ≡ transport_header_len header
with_checksum_len (version.Ipv4 ip extensions) payload (transport.Udp header) = refl
with_checksum_len (version.Ipv4 ip extensions) payload (transport.Tcp header) = refl
with_checksum_len (version.Ipv4 ip extensions) payload (transport.Icmpv4 header) = refl
with_checksum_len (version.Ipv4 ip extensions) payload (transport.Icmpv6 header) = refl
with_checksum_len (version.Ipv6 ip extensions) payload (transport.Udp header) = refl
with_checksum_len (version.Ipv6 ip extensions) payload (transport.Tcp header) = refl
with_checksum_len (version.Ipv6 ip extensions) payload (transport.Icmpv4 header) = refl
with_checksum_len (version.Ipv6 ip extensions) payload (transport.Icmpv6 header) = refl

pub between_len : (headers : IpHeaders) (payload : List ℕ) (header : TransportHeader)
    → transport_header_len (transport_between headers payload header) ≡ transport_header_len header
between_len headers payload header =
    with_checksum_len headers payload (with_length (length payload) header) ∙ with_length_len (length payload) header
