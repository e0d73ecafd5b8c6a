-- Lengths of the headers of a frame, and the offset of its payload after them.
use Rattle.std.proofs.Common.{◌≡◌, ◌==◌, if◌then◌else◌, Bool, true, false, take, drop, ℕ, ◌+◌, ◌≤◌, List, [], ◌∷◌, ◌++◌, length, Option, Some, None, refl, ap, sym, ◌∙◌, arith, append_assoc, length-append}
use Rattle.std.proofs.Math.Seq.{drop-append_seam}
use Rattle.std.proofs.lemmas.Grind.{common_steps}
use Rattle.ep_ext.specs.ExtensionParts.{ExtensionPart, hop_by_hop, destination_options, routing, fragment, authentication, EncodesPart, part_len}
use Rattle.ep_ext.specs.Chains.{EncodesParts}
use Rattle.ep_ext.proofs.PartLemmas.{auth_len}
use Rattle.ep_ip.proofs.IpBytesLemmas.{encoded_len as ipv4_encoded_len, ipv6_len}
use Rattle.ep_ip.specs.Ipv6.{ipv6_bytes}
use Rattle.ep_link.specs.LinkExtensions.{LinkExtension, vlan, macsec, EncodesTag}
use Rattle.ep_link.specs.LinkSlices.{LinkLayer, ethernet2, linux_sll, ether_payload, linux_sll_payload}
use Rattle.ep_link.specs.Macsec.{ptype_len, sci_len}
use Rattle.ep_link.specs.declared.link_ext.macsec_ptype.MacsecPType.{MacsecPType}
use Rattle.ep_link.specs.declared.link_ext.macsec_ptype.MacsecPType.TheVariants as ptype
use Rattle.ep_link.proofs.MacsecReadLemmas.{encoded_len as macsec_encoded_len}
use Rattle.std.specs.Int.{w16, to_be_bytes}
use Rattle.ep_transport.specs.Icmpv4.{FitsIcmpv4Fields, icmpv4_kind, icmpv4_len, icmpv4_rest_with}
use Rattle.ep_transport.specs.Icmpv6.{FitsIcmpv6Fields, icmpv6_rest_with}
use Rattle.ep_transport.specs.declared.icmpv4_type.Icmpv4Type.{Icmpv4Type}
use Rattle.ep_transport.specs.declared.icmpv4_type.Icmpv4Type.TheVariants as v4
use Rattle.ep_transport.specs.declared.icmpv6_type.Icmpv6Type.{Icmpv6Type}
use Rattle.ep_transport.specs.declared.icmpv6_type.Icmpv6Type.TheVariants as v6
use Rattle.ep_transport.specs.TransportHeaders.{EncodesTransportHeader, transport_header_len}
use Rattle.ep_transport.specs.TransportParts.{TransportLayer, EncodesTransport}
use Rattle.ep_transport.specs.declared.transport_header.TransportHeader.{TransportHeader}
use Rattle.ep_transport.specs.declared.transport_header.TransportHeader.TheVariants as transport
use Rattle.ep_packet.specs.FrameBytes.{AreInOrder, EncodesLink, EncodesTags, EncodesNet, last_payload}
use Rattle.ep_packet.specs.Layers.{Layers, NetLayer, ipv4, ipv6, arp}
use Rattle.ep_packet.specs.Offsets.{link_len, net_len, parts_len, payload_offset, tag_len, tags_len, transport_len}
use Rattle.ep_packet.specs.ShownBytes.{BeginsWith}

-- Bytes that encode a link header are as long as the header states.
pub link_encoded : (link : Option LinkLayer) (bytes : List ℕ) → EncodesLink link bytes → length bytes ≡ link_len link
link_encoded None bytes encodes = ap length encodes
link_encoded (Some (ethernet2 header payload)) bytes encodes =
    ap length encodes.1 ∙ grind (arith, common_steps, encodes.0.source_length, encodes.0.destination_length)
link_encoded (Some (linux_sll header payload)) bytes encodes =
    ap length encodes.1 ∙ grind (arith, common_steps, encodes.0.sender_address_length)
link_encoded (Some (ether_payload type source payload)) bytes encodes = ap length encodes
link_encoded (Some (linux_sll_payload protocol payload)) bytes encodes = ap length encodes

-- Bytes that encode a link extension, or a list of them, are as long as the tags state.
pub tag_encoded : (extension : LinkExtension) (bytes : List ℕ) → EncodesTag extension bytes
    → length bytes ≡ tag_len extension
tag_encoded (vlan tag payload) bytes encodes = ap length encodes.1
tag_encoded (macsec tag payload) bytes encodes = macsec_encoded_len bytes tag encodes

pub tags_encoded : (extensions : List LinkExtension) (bytes : List ℕ) → EncodesTags extensions bytes
    → length bytes ≡ tags_len extensions
tags_encoded [] bytes encodes = ap length encodes
tags_encoded (extension ∷ others) bytes encodes = omega (
  arith,
  ap length encodes.4,
  length-append encodes.0 encodes.1,
  tag_encoded extension encodes.0 encodes.2,
  tags_encoded others encodes.1 encodes.3,
)

-- Bytes that encode an IP extension header, or a list of them, are as long as the headers state.
pub part_encoded : (part : ExtensionPart) (bytes : List ℕ) → EncodesPart bytes part → length bytes ≡ part_len part
part_encoded (hop_by_hop header) bytes encodes = ap length encodes.1 ∙ grind (arith, common_steps)
part_encoded (destination_options header) bytes encodes = ap length encodes.1 ∙ grind (arith, common_steps)
part_encoded (routing header) bytes encodes = ap length encodes.1 ∙ grind (arith, common_steps)
part_encoded (fragment header) bytes encodes = ap length encodes.same
part_encoded (authentication header) bytes encodes = ap length encodes.same ∙ auth_len encodes.reserved header

parts_encoded : (parts : List ExtensionPart) (bytes : List ℕ) → EncodesParts bytes parts
    → length bytes ≡ parts_len parts
parts_encoded [] bytes encodes = ap length encodes
parts_encoded (part ∷ parts) bytes encodes = omega (
  arith,
  ap length encodes.4,
  length-append encodes.0 encodes.1,
  part_encoded part encodes.0 encodes.2,
  parts_encoded parts encodes.1 encodes.3,
)

-- Bytes that encode the headers of a network layer are as long as the headers state.
pub net_encoded : (net : Option NetLayer) (bytes : List ℕ) → EncodesNet net bytes → length bytes ≡ net_len net
net_encoded None bytes encodes = ap length encodes
net_encoded (Some (ipv4 header extensions payload)) bytes encodes = omega (
  arith,
  ap length encodes.4,
  length-append encodes.0 encodes.1,
  ipv4_encoded_len encodes.0 header encodes.2,
  parts_encoded extensions encodes.1 encodes.3,
)
net_encoded (Some (ipv6 header extensions payload)) bytes encodes = omega (
  arith,
  ap length encodes.1.2,
  length-append (ipv6_bytes header) encodes.1.0,
  ipv6_len header encodes.0,
  parts_encoded extensions encodes.1.0 encodes.1.1,
)
net_encoded (Some (arp packet)) bytes encodes =
    ap length encodes.1
    ∙ grind (arith, common_steps, encodes.0.same_hw_addr_len, encodes.0.same_protocol_addr_len)

-- A choice of two lists of one length has that length.
chosen_len : (choice : Bool) (xs ys : List ℕ) (len : ℕ) → length xs ≡ len → length ys ≡ len
    → length (if choice then xs else ys) ≡ len
chosen_len true xs ys len first second = first
chosen_len false xs ys len first second = second

-- The bytes of an ICMPv4 header after its checksum are as long as its type states.
icmpv4_rest_len : (unused : List ℕ) (type : Icmpv4Type) → length unused ≡ 4 → FitsIcmpv4Fields type
    → 4 + length (icmpv4_rest_with unused type) ≡ icmpv4_len (icmpv4_kind type)
icmpv4_rest_len unused (v4.Unknown type code bytes) four fits = omega (arith, fits.2)
icmpv4_rest_len unused (v4.EchoReply echo) four fits = refl
icmpv4_rest_len unused (v4.DestinationUnreachable code mtu) four fits = omega (
  arith,
  chosen_len (code == 4) (take 2 unused ++ to_be_bytes w16 mtu) unused 4
      (grind (arith, common_steps, four)) four,
)
icmpv4_rest_len unused (v4.Redirect code gateway) four fits = grind (arith, common_steps, fits)
icmpv4_rest_len unused (v4.EchoRequest echo) four fits = refl
icmpv4_rest_len unused (v4.TimeExceeded code) four fits = omega (arith, four)
icmpv4_rest_len unused (v4.ParameterProblem code pointer) four fits = omega (
  arith,
  chosen_len (code == 0) (pointer ∷ drop 1 unused) unused 4 (grind (arith, common_steps, four)) four,
)
icmpv4_rest_len unused (v4.TimestampRequest times) four fits = refl
icmpv4_rest_len unused (v4.TimestampReply times) four fits = refl

icmpv6_rest_len : (unused : List ℕ) (type : Icmpv6Type) → length unused ≡ 4 → FitsIcmpv6Fields type
    → 4 + length (icmpv6_rest_with unused type) ≡ 8
icmpv6_rest_len unused (v6.Unknown type code bytes) four fits = omega (arith, fits.2)
icmpv6_rest_len unused (v6.DestinationUnreachable code) four fits = omega (arith, four)
icmpv6_rest_len unused (v6.PacketTooBig mtu) four fits = refl
icmpv6_rest_len unused (v6.TimeExceeded code) four fits = omega (arith, four)
icmpv6_rest_len unused (v6.ParameterProblem code pointer) four fits = refl
icmpv6_rest_len unused (v6.EchoRequest echo) four fits = refl
icmpv6_rest_len unused (v6.EchoReply echo) four fits = refl

-- Bytes that encode a transport header, or an optional one, are as long as the header states.
header_encoded : (header : TransportHeader) (bytes : List ℕ) → EncodesTransportHeader header bytes
    → length bytes ≡ transport_header_len header
header_encoded (transport.Udp header) bytes encodes = ap length encodes.1
header_encoded (transport.Tcp header) bytes encodes = ap length encodes.same ∙ grind (arith, common_steps)
header_encoded (transport.Icmpv4 header) bytes encodes = omega (
  arith,
  ap length encodes.same,
  length-append (to_be_bytes w16 header.checksum) (icmpv4_rest_with encodes.unused header.icmp_type),
  icmpv4_rest_len encodes.unused header.icmp_type encodes.four encodes.fits.fields,
)
header_encoded (transport.Icmpv6 header) bytes encodes = omega (
  arith,
  ap length encodes.same,
  length-append (to_be_bytes w16 header.checksum) (icmpv6_rest_with encodes.unused header.icmp_type),
  icmpv6_rest_len encodes.unused header.icmp_type encodes.four encodes.fits.fields,
)

pub transport_encoded : (transport : Option TransportLayer) (bytes : List ℕ) → EncodesTransport transport bytes
    → length bytes ≡ transport_len transport
transport_encoded None bytes encodes = ap length encodes
transport_encoded (Some layer) bytes encodes = header_encoded layer.header bytes encodes

-- The headers of a frame are as long as the offset of its payload.
headers_len : (bytes : List ℕ) (layers : Layers) (order : AreInOrder bytes layers)
    → length (((order.link ++ order.tags) ++ order.net) ++ order.transport) ≡ payload_offset layers
headers_len bytes layers order = omega (
  arith,
  link_encoded layers.link order.link order.link_header,
  tags_encoded layers.link_exts order.tags order.tag_headers,
  net_encoded layers.net order.net order.net_header,
  transport_encoded layers.transport order.transport order.transport_header,
  length-append order.link order.tags,
  length-append (order.link ++ order.tags) order.net,
  length-append ((order.link ++ order.tags) ++ order.net) order.transport,
)

-- The payload of the last layer of a frame starts at its offset.
pub payload_present : (bytes : List ℕ) (layers : Layers) (offset : ℕ) → offset ≡ payload_offset layers
    → AreInOrder bytes layers → BeginsWith (drop offset bytes) (last_payload layers)
payload_present bytes layers offset same order =
    let headers = ((order.link ++ order.tags) ++ order.net) ++ order.transport in
    let after = last_payload layers ++ order.left in
    let grouped : bytes ≡ headers ++ after =
    order.parts ∙ sym (append_assoc order.link order.tags _) ∙ sym (append_assoc (order.link ++ order.tags) order.net _)
    ∙ sym (append_assoc ((order.link ++ order.tags) ++ order.net) order.transport _) in (
      order.left,
      ap (λ (n : ℕ). drop n bytes) (same ∙ sym (headers_len bytes layers order))
          ∙ ap (λ (b : List ℕ). drop (length headers) b) grouped ∙ drop-append_seam headers after,
    )

-- The secure channel identifier (SCI) of a MACsec tag is at most 8 bytes long.
sci_bound : (sci : Option ℕ) → sci_len sci ≤ 8
sci_bound None = omega arith
sci_bound (Some number) = omega arith

ptype_bound : (type : MacsecPType) → ptype_len type ≤ 2
ptype_bound (ptype.Unmodified type) = omega arith
ptype_bound ptype.Modified = omega arith
ptype_bound ptype.Encrypted = omega arith
ptype_bound ptype.EncryptedUnmodified = omega arith

pub tag_bound : (extension : LinkExtension) → tag_len extension ≤ 16
tag_bound (vlan tag payload) = omega arith
tag_bound (macsec tag payload) = omega (arith, sci_bound tag.sci, ptype_bound tag.ptype)
