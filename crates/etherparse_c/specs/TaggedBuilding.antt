-- Answers of the calls that build frames with VLAN tags, TCP options or a fragment.
use Rattle.std.specs.Prelude.{◌≡◌, ◌<◌, ◌≤◌, ◌⊎◌, ◌==◌, ◌%◌, ◌/◌, ◌&&◌, not, if◌then◌else◌, nat_le, false, ℕ, List, length, Option, Some, None, slice_index}
use Rattle.std.specs.Option.{option_map}
use Rattle.etherparse.specs.BuiltFrames.{FrameHeaders, ip_frame_headers, transport_frame_headers}
use Rattle.etherparse.specs.Ipv4.{default_ipv4_header}
use Rattle.etherparse.specs.Ipv6.{default_ipv6_header}
use Rattle.etherparse.specs.Ipv6Chains.{no_ipv6_extensions}
use Rattle.etherparse.specs.Steps.{no_type, tag_of}
use Rattle.etherparse.specs.TcpOptionBytes.{in_words}
use Rattle.etherparse.specs.Types.Ethernet2Header.{Ethernet2Header}
use Rattle.etherparse.specs.Types.IpHeaders.{IpHeaders}
use Rattle.etherparse.specs.Types.IpHeaders.TheVariants as version
use Rattle.etherparse.specs.Types.LinkPart.{LinkPart}
use Rattle.etherparse.specs.Types.LinkPart.TheVariants as link
use Rattle.etherparse.specs.Types.TransportHeader.{TransportHeader}
use Rattle.etherparse.specs.Types.TransportHeader.TheVariants as transport
use Rattle.etherparse.specs.Types.VlanHeader.{VlanHeader}
use Rattle.etherparse.specs.Types.VlanHeader.TheVariants as tags
use Rattle.etherparse_c.specs.declared.route.FragmentFields.{FragmentFields}
use Rattle.etherparse_c.specs.declared.route.Route.{Route}
use Rattle.etherparse_c.specs.declared.route.TaggedRoute.{TaggedRoute}
use Rattle.etherparse_c.specs.Building.{IsBuilt, route_headers, route_link}

-- ---- the link part

-- one tag, and two tags (outer, inner), if each identifier is at most 4095
abbrev pub single_tag : ℕ → Option VlanHeader
single_tag id = if nat_le id 4095 then Some (tags.Single (tag_of id)) else None

abbrev pub double_tags : ℕ → ℕ → Option VlanHeader
double_tags outer inner =
    if nat_le outer 4095 && nat_le inner 4095
    then Some (tags.Double (record { outer = tag_of outer; inner = tag_of inner })) else None

-- the VLAN tags of a route, if there are one or two, and their identifiers are at most 4095
abbrev pub route_tags : TaggedRoute → Option VlanHeader
route_tags tagged =
    if tagged.tag_count == 1 then single_tag (slice_index tagged.vlan_ids 0)
    else if tagged.tag_count == 2 then double_tags (slice_index tagged.vlan_ids 0) (slice_index tagged.vlan_ids 1)
    else None

-- the Ethernet II header of a route
abbrev pub route_ethernet : Route → Ethernet2Header
route_ethernet route =
    record { source = route.ethernet_source; destination = route.ethernet_destination; ether_type = no_type }

-- the link part of a route: without tags that of the plain route, otherwise its Ethernet II header and the tags, if it
-- has that header and the tags are valid
abbrev pub tagged_link : TaggedRoute → Option LinkPart
tagged_link tagged =
    if tagged.tag_count == 0 then Some (route_link tagged.route)
    else if tagged.route.with_ethernet == 0 then None
    else option_map (λ both. link.Tagged (route_ethernet tagged.route) both) (route_tags tagged)

-- ---- frames

-- the content of a frame with this link part and these headers, if both are known
abbrev pub content_if_valid : Option LinkPart → Option IpHeaders → (LinkPart → IpHeaders → FrameHeaders) → Option FrameHeaders
content_if_valid None headers content_of = None
content_if_valid (Some part) None content_of = None
content_if_valid (Some part) (Some headers) content_of = Some (content_of part headers)

-- The frame is built (`IsBuilt`). If a number is not valid for its field, the status is 2, and the buffer is unchanged.
abbrev pub IsBuiltIfValid : Option FrameHeaders → List ℕ → List ℕ → List ℕ → ℕ → ℕ → Type 0
IsBuiltIfValid None payload old new written status = (status ≡ 2) × (new ≡ old) × (written ≡ 0)
IsBuiltIfValid (Some frame) payload old new written status = IsBuilt frame payload old new written status

-- Answer of a call that builds the frame of a route with tags and a transport header.
abbrev pub IsTaggedAnswer : TaggedRoute → TransportHeader → List ℕ → List ℕ → List ℕ → ℕ → ℕ → Type 0
IsTaggedAnswer tagged header = IsBuiltIfValid
    (content_if_valid (tagged_link tagged) (route_headers tagged.route)
    (λ part headers. transport_frame_headers part headers header))

-- ---- TCP options

-- a TCP header with these options, padded with zero bytes to a multiple of 4
abbrev pub with_options : List ℕ → TransportHeader → TransportHeader
with_options options (transport.Tcp header) = transport.Tcp (record header { options = in_words options })
with_options options header = header

-- Answer of a call that builds a TCP segment with options. If they have more than 40 bytes, the status is 4, and the
-- buffer is unchanged.
abbrev pub IsOptionsAnswer : TaggedRoute → TransportHeader → List ℕ → List ℕ → List ℕ → List ℕ → ℕ → ℕ → Type 0
IsOptionsAnswer tagged header options payload old new written status =
    ((length options ≤ 40) × IsTaggedAnswer tagged (with_options options header) payload old new written status)
    ⊎ ((40 < length options) × (status ≡ 4) × (new ≡ old) × (written ≡ 0))

-- ---- fragments

-- the headers of an IPv4 fragment, with "don't fragment" not set
abbrev pub fragment_headers_ipv4 : Route → FragmentFields → IpHeaders
fragment_headers_ipv4 route fields = version.Ipv4 (record default_ipv4_header {
  identification = fields.identification;
  dont_fragment = false;
  more_fragments = not (fields.more_fragments == 0);
  fragment_offset = fields.fragment_offset / 8;
  time_to_live = route.hop_limit;
  source = route.ipv4_source;
  destination = route.ipv4_destination;
}) (record { auth = None })

-- the headers of an IPv6 fragment: the IPv6 header and a fragment header
abbrev pub fragment_headers_ipv6 : Route → FragmentFields → IpHeaders
fragment_headers_ipv6 route fields = version.Ipv6 (record default_ipv6_header {
  hop_limit = route.hop_limit;
  source = route.ipv6_source;
  destination = route.ipv6_destination;
}) (record no_ipv6_extensions {
  fragment = Some (record {
    next_header = record { 0 = 0 };
    fragment_offset = fields.fragment_offset / 8;
    more_fragments = not (fields.more_fragments == 0);
    identification = fields.identification;
  });
})

-- the headers of a fragment, if the version is 4 or 6, the offset is a multiple of 8 and, in IPv4, the identification
-- is at most 65535
abbrev pub fragment_headers : Route → FragmentFields → Option IpHeaders
fragment_headers route fields =
    if not (fields.fragment_offset % 8 == 0) then None
    else if route.version == 4
    then (if nat_le fields.identification 65535 then Some (fragment_headers_ipv4 route fields) else None)
    else if route.version == 6 then Some (fragment_headers_ipv6 route fields)
    else None

-- Answer of a call that builds a fragment.
abbrev pub IsFragmentAnswer : TaggedRoute → FragmentFields → List ℕ → List ℕ → List ℕ → ℕ → ℕ → Type 0
IsFragmentAnswer tagged fields = IsBuiltIfValid
    (content_if_valid (tagged_link tagged) (fragment_headers tagged.route fields)
    (λ part headers. ip_frame_headers part headers (record { 0 = fields.ip_number })))
