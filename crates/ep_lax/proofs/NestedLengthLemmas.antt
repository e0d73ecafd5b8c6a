-- The lengths that the headers of a frame state: each includes its header and ends within the payload of the layer
-- around it.
use Rattle.std.proofs.Common.{◌≡◌, ◌==◌, if◌then◌else◌, ℕ, zero, suc, ◌+◌, ◌<◌, ◌≤◌, List, [], ◌∷◌, ◌++◌, length, length-append, map, Option, Some, None, refl, sym, ap, subst, inl, inr, arith}
use Rattle.std.proofs.lemmas.Bool.{eq-eqb, ne_eqb}
use Rattle.ep_base.specs.IpPayload.{IpPayload}
use Rattle.ep_base.specs.Readings.{Reading, slices}
use Rattle.ep_base.specs.declared.len_source.LenSource.TheVariants as source
use Rattle.ep_base.specs.declared.ether_type.EtherType.{EtherType}
use Rattle.ep_ext.specs.Chains.{IpVersion, ipv4, ipv6, IsChainAfter}
use Rattle.ep_ext.specs.ExtensionParts.{ExtensionPart, part_len, part_next}
use Rattle.ep_ext.proofs.PartLemmas.{part_lens}
use Rattle.ep_ip.specs.declared.ipv4_header.Ipv4Header.{Ipv4Header}
use Rattle.ep_ip.specs.declared.ipv6_header.Ipv6Header.{Ipv6Header}
use Rattle.ep_ip.specs.IpPackets.{IpPacket, ipv4_part, ipv6_part, IsIpv4, IsIpv6}
use Rattle.ep_ip.specs.Ipv4.{ipv4_header_len}
use Rattle.ep_ip.specs.Ipv6.{ipv6_bytes}
use Rattle.ep_ip.proofs.IpBytesLemmas.{encoded_len as ipv4_encoded_len, ipv6_len}
use Rattle.ep_link.specs.Ethernet2.{ethernet2_bytes, ethernet2_header_len}
use Rattle.ep_link.specs.LinkExtensions.{LinkExtension, vlan, macsec, IsLinkExtension, extension_payload, extension_type}
use Rattle.ep_link.specs.LinkSlices.{LinkLayer, ethernet2, linux_sll as sll, ether_payload}
use Rattle.ep_link.specs.LinuxSll.{linux_sll_bytes, linux_sll_header_len, protocol_ether_type}
use Rattle.ep_link.specs.Macsec.{macsec_header_len, macsec_payload_bytes, sci_len}
use Rattle.ep_link.specs.Vlan.{vlan_bytes}
use Rattle.ep_link.proofs.MacsecReadLemmas.{encoded_len as macsec_encoded_len}
use Rattle.ep_transport.specs.declared.transport_header.TransportHeader.{TransportHeader}
use Rattle.ep_transport.specs.declared.transport_header.TransportHeader.TheVariants as header
use Rattle.ep_transport.specs.TransportParts.{TransportLayer, IsTransportLayer}
use Rattle.ep_transport.specs.Udp.{udp_bytes}
use Rattle.ep_packet.specs.declared.entry.Entry.{Entry}
use Rattle.ep_packet.specs.declared.entry.Entry.TheVariants.{Ethernet as ethernet, LinuxSll as linux_sll, EtherType as ether_type, Ip as ip}
use Rattle.ep_packet.specs.Frame.{NetKind, only_ipv4, only_ipv6, only_arp, any_ip, net_kind, most_link_exts, IsFrame, IsInside, IsNetLayer, IsNetPart, IsTransportAfterNet, IsTransportIn}
use Rattle.ep_packet.specs.Layers.{Layers, NetLayer, arp, ipv4_layer, ipv6_layer, net_payload}
use Rattle.ep_packet.specs.Offsets.{parts_len, tag_len}
use Rattle.ep_packet.proofs.OffsetLemmas.{link_encoded}
use Rattle.ep_lax.specs.LaxHeaders.{LayerHeader, of_extension, of_transport, header_len, frame_headers, net_headers, tag_header, transport_headers}
use Rattle.ep_lax.specs.LaxMacsec.{macsec_stated_len}
use Rattle.ep_lax.specs.LengthFields.{IncludeHeaders, IncludesHeader, stated_len}
use Rattle.ep_lax.proofs.StrictLemmas.{says_some}

-- ---- nested lengths

-- The length that a header of `len` bytes at `offset` states includes the header and ends at `end` at the latest.
abbrev pub EndsWithin : ℕ → ℕ → ℕ → Option ℕ → Type 0
EndsWithin offset len end None = Unit {0}
EndsWithin offset len end (Some stated) = (len ≤ stated) × (offset + stated ≤ end)

-- The end of the payload of a layer at `offset` that states this length, if any. `end` is the end of the payload around
-- it.
abbrev pub payload_end : ℕ → ℕ → Option ℕ → ℕ
payload_end offset end None = end
payload_end offset end (Some stated) = offset + stated

-- Each length that the headers from `offset` on state includes its header and ends within the payload around it. The
-- outermost payload ends at `end`.
abbrev pub AreNested : ℕ → ℕ → List LayerHeader → Type 0
AreNested offset end [] = Unit {0}
AreNested offset end (header ∷ others) =
    EndsWithin offset (header_len header) end (stated_len header)
    × AreNested (offset + header_len header) (payload_end offset end (stated_len header)) others

-- The first headers of nested ones are nested.
pub first_nested : (offset end : ℕ) (headers more : List LayerHeader) → AreNested offset end (headers ++ more)
    → AreNested offset end headers
first_nested offset end [] more are = tt
first_nested offset end (header ∷ headers) more are = (
  are.0,
  first_nested (offset + header_len header) (payload_end offset end (stated_len header)) headers more are.1,
)

-- The lengths that nested headers state include the headers.
includes : (offset len end : ℕ) (stated : Option ℕ) → EndsWithin offset len end stated → IncludesHeader len stated
includes offset len end None within = tt
includes offset len end (Some stated) within = within.0

nested_include : (offset end : ℕ) (headers : List LayerHeader) → AreNested offset end headers → IncludeHeaders headers
nested_include offset end [] are = tt
nested_include offset end (header ∷ headers) are = (
  includes offset (header_len header) end (stated_len header) are.0,
  nested_include (offset + header_len header) (payload_end offset end (stated_len header)) headers are.1,
)

-- A length field of 0 states no length, and any other one states its value.
pub none_stated : (field stated : ℕ) → field ≡ 0 → (if field == 0 then None else Some stated) ≡ None
none_stated field stated none i = if eq-eqb field 0 none i then None else Some stated

pub some_stated : (field stated : ℕ) → 0 < field → (if field == 0 then None else Some stated) ≡ Some stated
some_stated field stated some i = if ne_eqb field 0 (λ none. omega (arith, none, some)) i then None else Some stated

-- A header that states this length before other headers.
abbrev IsNestedBefore : ℕ → ℕ → ℕ → Option ℕ → List LayerHeader → Type 0
IsNestedBefore offset len end stated others =
    EndsWithin offset len end stated × AreNested (offset + len) (payload_end offset end stated) others

-- Headers without length fields before others.
pub parts_nested : (offset end : ℕ) (parts : List ExtensionPart) (others : List LayerHeader)
    → AreNested (offset + parts_len parts) end others → AreNested offset end (map of_extension parts ++ others)
parts_nested offset end [] others are =
    let same : offset + 0 ≡ offset = omega arith in subst (λ (n : ℕ). AreNested n end others) same are
parts_nested offset end (part ∷ parts) others are =
    let same : offset + (part_len part + parts_len parts) ≡ offset + part_len part + parts_len parts = omega arith in
    (tt, parts_nested (offset + part_len part) end parts others (subst (λ (n : ℕ). AreNested n end others) same are))

pub nested_parts : (offset end : ℕ) (parts : List ExtensionPart) (others : List LayerHeader)
    → AreNested offset end (map of_extension parts ++ others) → AreNested (offset + parts_len parts) end others
nested_parts offset end [] others are =
    let same : offset ≡ offset + 0 = omega arith in subst (λ (n : ℕ). AreNested n end others) same are
nested_parts offset end (part ∷ parts) others are =
    let same : offset + part_len part + parts_len parts ≡ offset + (part_len part + parts_len parts) = omega arith in
    subst (λ (n : ℕ). AreNested n end others) same (nested_parts (offset + part_len part) end parts others are.1)

-- The bytes of a chain are its headers and the bytes after them.
pub chain_lens : (version : IpVersion) (reading : Reading) (taken : List ℕ) (number : ℕ) (bytes : List ℕ)
    (parts : List ExtensionPart) (last : ℕ) (rest : List ℕ)
    → IsChainAfter version reading taken number bytes parts last rest → length bytes ≡ parts_len parts + length rest
chain_lens version reading taken number bytes [] last rest is = omega (arith, ap length is.2)
chain_lens version reading taken number bytes (part ∷ parts) last rest is =
    let here = part_lens number bytes part is.1.0 is.1.1 in
    let next = chain_lens version reading (number ∷ taken) (part_next part) is.1.0 parts last rest is.1.2 in
    omega (arith, here.0, next)

-- Length of a header, a payload and trailing bytes.
pub two_lens : (bytes prefix rest : List ℕ) → bytes ≡ prefix ++ rest → length bytes ≡ length prefix + length rest
two_lens bytes prefix rest parts = omega (arith, ap length parts, length-append prefix rest)

pub three_lens : (bytes prefix payload left : List ℕ) → bytes ≡ (prefix ++ payload) ++ left
    → length bytes ≡ length prefix + length payload + length left
three_lens bytes prefix payload left parts =
    omega (arith, ap length parts, length-append (prefix ++ payload) left, length-append prefix payload)

-- ---- transport layer

layer_nested : (offset end number : ℕ) (bytes : List ℕ) (h : TransportHeader) (payload : List ℕ)
    → IsTransportLayer slices number bytes h payload → offset + length bytes ≡ end
    → EndsWithin offset (header_len (of_transport h)) end (stated_len (of_transport h))
layer_nested offset end number bytes (header.Udp udp) payload is ends =
    let left = is.1.0 in
    let datagram = is.1.1 in
    let len : length bytes ≡ 8 + length payload + length left =
    three_lens bytes (udp_bytes udp) payload left datagram.parts in
    elim datagram.cut [
      | inl stated ↦ subst (EndsWithin offset 8 end)
          (sym (some_stated udp.length udp.length (omega (arith, stated))))
          (omega (arith, stated), omega (arith, stated, len, ends))
      | inr none ↦ subst (EndsWithin offset 8 end) (sym (none_stated udp.length udp.length none.0)) tt
    ]
layer_nested offset end number bytes (header.Tcp tcp) payload is ends = tt
layer_nested offset end number bytes (header.Icmpv4 icmp) payload is ends = tt
layer_nested offset end number bytes (header.Icmpv6 icmp) payload is ends = tt

transport_nested : (offset end : ℕ) (payload : IpPayload) (transport : Option TransportLayer)
    → IsTransportIn slices payload transport → offset + length payload.bytes ≡ end
    → AreNested offset end (transport_headers transport)
transport_nested offset end payload None is ends = tt
transport_nested offset end payload (Some layer) is ends =
    (layer_nested offset end payload.number payload.bytes layer.header layer.payload is.1 ends, tt)

-- ---- network layer

-- The headers of a network layer and of the transport layer in it are nested.
abbrev IsNetNested : ℕ → ℕ → Option NetLayer → Option TransportLayer → Type 0
IsNetNested offset end net transport = AreNested offset end (net_headers net ++ transport_headers transport)

ipv4_nested : (offset end : ℕ) (bytes : List ℕ) (packet : IpPacket Ipv4Header) (transport : Option TransportLayer)
    → IsIpv4 slices bytes packet → IsTransportIn slices packet.payload transport → offset + length bytes ≡ end
    → IsNetNested offset end (Some (ipv4_layer packet)) transport
ipv4_nested offset end bytes packet transport is inside ends =
    let header = packet.header in
    let encoded = ipv4_encoded_len is.cut.encoded header is.cut.encodes in
    let len = three_lens bytes is.cut.encoded is.content packet.left is.cut.parts in
    let chain = chain_lens ipv4 slices [] header.protocol.0 is.content packet.extensions packet.payload.number
    packet.payload.bytes is.chain in
    let start = offset + ipv4_header_len header in (
      (omega (arith, is.cut.cut, encoded), omega (arith, is.cut.cut, len, ends)),
      parts_nested start (offset + header.total_len) packet.extensions (transport_headers transport)
          (transport_nested (start + parts_len packet.extensions) (offset + header.total_len) packet.payload transport
          inside (omega (arith, is.cut.cut, encoded, chain))),
    )

ipv6_nested : (offset end : ℕ) (bytes : List ℕ) (packet : IpPacket Ipv6Header) (transport : Option TransportLayer)
    → IsIpv6 slices bytes packet → IsTransportIn slices packet.payload transport → offset + length bytes ≡ end
    → IsNetNested offset end (Some (ipv6_layer packet)) transport
ipv6_nested offset end bytes packet transport is inside ends =
    let header = packet.header in
    let field = header.payload_length in
    let encoded = ipv6_len header is.cut.fits in
    let len = three_lens bytes (ipv6_bytes header) is.content packet.left is.cut.parts in
    let chain = chain_lens ipv6 slices [] header.next_header.0 is.content packet.extensions packet.payload.number
    packet.payload.bytes is.chain in
    let start = offset + 40 in
    let others = map of_extension packet.extensions ++ transport_headers transport in
    let inner : (last : ℕ) → start + length is.content ≡ last → AreNested start last others =
    λ last reaches. parts_nested start last packet.extensions (transport_headers transport)
    (transport_nested (start + parts_len packet.extensions) last packet.payload transport inside
    (omega (arith, reaches, chain))) in
    elim is.cut.cut [
      | inl some ↦ subst (λ (s : Option ℕ). IsNestedBefore offset 40 end s others)
          (sym (some_stated field (40 + field) some.0)) (
            (omega arith, omega (arith, some.1, encoded, len, ends)),
            inner (offset + (40 + field)) (omega (arith, some.1)),
          )
      | inr none ↦ subst (λ (s : Option ℕ). IsNestedBefore offset 40 end s others)
          (sym (none_stated field (40 + field) none.0))
          (tt, inner end (omega (arith, encoded, len, ends, ap length none.1)))
    ]

-- A network layer in bytes up to `end`.
layer_in_nested : (offset end : ℕ) (kind : NetKind) (bytes : List ℕ) (layer : NetLayer)
    (transport : Option TransportLayer) → IsNetLayer slices kind bytes layer
    → IsTransportAfterNet slices (net_payload layer) transport → offset + length bytes ≡ end
    → IsNetNested offset end (Some layer) transport
layer_in_nested offset end only_ipv4 bytes layer transport is inside ends =
    subst (λ (l : NetLayer). IsNetNested offset end (Some l) transport) (sym is.2)
    (ipv4_nested offset end bytes is.0 transport is.1
    (subst (λ (l : NetLayer). IsTransportAfterNet slices (net_payload l) transport) is.2 inside) ends)
layer_in_nested offset end only_ipv6 bytes layer transport is inside ends =
    subst (λ (l : NetLayer). IsNetNested offset end (Some l) transport) (sym is.2)
    (ipv6_nested offset end bytes is.0 transport is.1
    (subst (λ (l : NetLayer). IsTransportAfterNet slices (net_payload l) transport) is.2 inside) ends)
layer_in_nested offset end only_arp bytes layer transport is inside ends =
    let none : transport ≡ None =
    subst (λ (l : NetLayer). IsTransportAfterNet slices (net_payload l) transport) is.2 inside in
    subst (λ (l : NetLayer). IsNetNested offset end (Some l) transport) (sym is.2)
    (subst (IsNetNested offset end (Some (arp is.0.0))) (sym none) (tt, tt))
layer_in_nested offset end any_ip bytes layer transport (ipv4_part packet, is, same) inside ends =
    subst (λ (l : NetLayer). IsNetNested offset end (Some l) transport) (sym same)
    (ipv4_nested offset end bytes packet transport is
    (subst (λ (l : NetLayer). IsTransportAfterNet slices (net_payload l) transport) same inside) ends)
layer_in_nested offset end any_ip bytes layer transport (ipv6_part packet, is, same) inside ends =
    subst (λ (l : NetLayer). IsNetNested offset end (Some l) transport) (sym same)
    (ipv6_nested offset end bytes packet transport is
    (subst (λ (l : NetLayer). IsTransportAfterNet slices (net_payload l) transport) same inside) ends)

net_nested : (offset end : ℕ) (kind : Option NetKind) (bytes : List ℕ) (net : Option NetLayer)
    (transport : Option TransportLayer) → IsNetPart slices kind bytes net transport → offset + length bytes ≡ end
    → IsNetNested offset end net transport
net_nested offset end None bytes net transport part ends =
    subst (λ (n : Option NetLayer). IsNetNested offset end n transport) (sym part.0)
    (subst (IsNetNested offset end None) (sym part.1) tt)
net_nested offset end (Some kind) bytes net transport part ends =
    subst (λ (n : Option NetLayer). IsNetNested offset end n transport) (sym part.2)
    (layer_in_nested offset end kind bytes part.0 transport part.1 part.3 ends)

-- ---- link extensions

-- The header of a link extension before the headers in its payload.
tag_nested : (offset end : ℕ) (type : EtherType) (bytes : List ℕ) (extension : LinkExtension) (left : List ℕ)
    (others : List LayerHeader) → IsLinkExtension type bytes (extension, left) → offset + length bytes ≡ end
    → ((last : ℕ) → offset + tag_len extension + length (extension_payload extension) ≡ last
    → AreNested (offset + tag_len extension) last others)
    → AreNested offset end (tag_header extension ∷ others)
tag_nested offset end type bytes (vlan tag payload) left others is ends inner =
    let len : length bytes ≡ 4 + length payload + length left =
    three_lens bytes (vlan_bytes tag) payload left is.1.parts in
    (tt, inner end (omega (arith, len, ends, ap length is.1.cut)))
tag_nested offset end type bytes (macsec tag payload) left others is ends inner =
    let packet = is.1 in
    let short = tag.short_len in
    let n = macsec_header_len tag in
    let encoded = macsec_encoded_len packet.encoded tag packet.encodes in
    let len = three_lens bytes packet.encoded (macsec_payload_bytes payload) left packet.parts in
    let stated = macsec_stated_len tag in
    elim packet.cut [
      | inl some ↦
          let stated_is : stated ≡ 6 + sci_len tag.sci + short = says_some short (6 + sci_len tag.sci) some.0 in
          subst (λ (s : Option ℕ). IsNestedBefore offset n end s others) (sym (some_stated short stated some.0)) (
            (omega (arith, stated_is, some.1), omega (arith, stated_is, some.1, encoded, len, ends)),
            inner (offset + stated) (omega (arith, stated_is, some.1)),
          )
      | inr none ↦ subst (λ (s : Option ℕ). IsNestedBefore offset n end s others)
          (sym (none_stated short stated none.0))
          (tt, inner end (omega (arith, encoded, len, ends, ap length none.1)))
    ]

-- The headers of link extensions and of the layers after them.
abbrev IsInsideNested : ℕ → ℕ → List LinkExtension → Option NetLayer → Option TransportLayer → Type 0
IsInsideNested offset end extensions net transport =
    AreNested offset end (map tag_header extensions ++ (net_headers net ++ transport_headers transport))

inside_nested : (exts_left offset end : ℕ) (type : Option EtherType) (bytes : List ℕ) (extensions : List LinkExtension)
    (net : Option NetLayer) (transport : Option TransportLayer)
    → IsInside slices exts_left type bytes extensions net transport → offset + length bytes ≡ end
    → IsInsideNested offset end extensions net transport
inside_nested exts_left offset end None bytes extensions net transport is ends =
    subst (λ (e : List LinkExtension). IsInsideNested offset end e net transport) (sym is.0)
    (net_nested offset end None bytes net transport (is.1, is.2) ends)
inside_nested zero offset end (Some type) bytes [] net transport is ends =
    net_nested offset end (net_kind type) bytes net transport is ends
inside_nested zero offset end (Some type) bytes (extension ∷ others) net transport is ends = absurd is
inside_nested (suc exts_left) offset end (Some type) bytes [] net transport is ends =
    net_nested offset end (net_kind type) bytes net transport is.1 ends
inside_nested (suc exts_left) offset end (Some type) bytes (extension ∷ others) net transport is ends =
    tag_nested offset end type bytes extension is.0.0
    (map tag_header others ++ (net_headers net ++ transport_headers transport)) is.0.1 ends
    (λ last reaches. inside_nested exts_left (offset + tag_len extension) last (extension_type extension)
    (extension_payload extension) others net transport is.1 reaches)

-- ---- frames

-- The headers after a link header, if present, which states no length.
linked_nested : (end : ℕ) (layers : Layers) (link : Option LinkLayer) → layers.link ≡ link
    → AreNested 0 end (frame_headers (record layers { link = link })) → AreNested 0 end (frame_headers layers)
linked_nested end layers link same are =
    subst (λ (l : Option LinkLayer). AreNested 0 end (frame_headers (record layers { link = l }))) (sym same) are

-- The lengths that the headers of a frame state are nested in the frame.
pub frame_nested : (entry : Entry) (bytes : List ℕ) (layers : Layers) → IsFrame entry bytes layers
    → AreNested 0 (length bytes) (frame_headers layers)
frame_nested ethernet bytes layers is =
    let frame = is.0 in
    let encoded = link_encoded (Some (ethernet2 frame.header frame.payload)) (ethernet2_bytes frame.header)
    (is.1.fits, refl) in
    let len = three_lens bytes (ethernet2_bytes frame.header) frame.payload frame.left is.1.parts in
    linked_nested (length bytes) layers (Some (ethernet2 frame.header frame.payload)) is.2 (
      tt,
      inside_nested most_link_exts ethernet2_header_len (length bytes) (Some frame.header.ether_type) frame.payload
          layers.link_exts layers.net layers.transport is.3
          (omega (arith, encoded, len, ap length is.1.cut)),
    )
frame_nested linux_sll bytes layers is =
    let frame = is.0 in
    let encoded = link_encoded (Some (sll frame.header frame.payload)) (linux_sll_bytes frame.header)
    (is.1.fits, refl) in
    let len = three_lens bytes (linux_sll_bytes frame.header) frame.payload frame.left is.1.parts in
    linked_nested (length bytes) layers (Some (sll frame.header frame.payload)) is.2 (
      tt,
      inside_nested most_link_exts linux_sll_header_len (length bytes)
          (protocol_ether_type frame.header.protocol_type) frame.payload layers.link_exts layers.net layers.transport
          is.3 (omega (arith, encoded, len, ap length is.1.cut)),
    )
frame_nested (ether_type type) bytes layers is =
    linked_nested (length bytes) layers (Some (ether_payload type source.Slice bytes)) is.0
    (inside_nested most_link_exts 0 (length bytes) (Some type) bytes layers.link_exts layers.net layers.transport is.1
    (omega arith))
frame_nested ip bytes layers is =
    linked_nested (length bytes) layers None is.0
    (subst (λ (e : List LinkExtension). IsInsideNested 0 (length bytes) e layers.net layers.transport) (sym is.1)
    (net_nested 0 (length bytes) (Some any_ip) bytes layers.net layers.transport is.2 (omega arith)))

-- Each length that a header of a frame states includes the header.
pub frame_includes : (entry : Entry) (bytes : List ℕ) (layers : Layers) → IsFrame entry bytes layers
    → IncludeHeaders (frame_headers layers)
frame_includes entry bytes layers is =
    nested_include 0 (length bytes) (frame_headers layers) (frame_nested entry bytes layers is)
