-- Strict slicing accepts a packet exactly if the layers that lax slicing finds in it are whole.
use Rattle.std.proofs.Common.{◌≡◌, ◌==◌, ◌||◌, is_none, if◌then◌else◌, ℕ, zero, suc, ◌+◌, ◌<◌, ◌≤◌, Bool, true, false, List, [], ◌∷◌, ◌++◌, length, map, Option, Some, None, refl, sym, ap, subst, ◌∙◌, inl, inr, arith}
use Rattle.std.specs.Option.{option_map}
use Rattle.std.proofs.lemmas.Bool.{and_from, and_parts, cases_eq, eq-eqb, false≢true, leb-true, le-leb, not-true, not_from_false, or_left}
use Rattle.std.proofs.lemmas.Grind.{common_steps}
use Rattle.ep_base.specs.Bytes.{AreBytes}
use Rattle.ep_base.specs.LaxCut.{cuts, is_missing}
use Rattle.ep_base.specs.declared.ether_type.EtherType.{EtherType}
use Rattle.ep_base.specs.declared.err.layer.Layer.{Layer}
use Rattle.ep_ext.specs.ExtensionParts.{ExtensionPart}
use Rattle.ep_ip.specs.Ipv4.{ipv4_header_len}
use Rattle.ep_link.specs.declared.link_ext.macsec_ptype.MacsecPType.{MacsecPType}
use Rattle.ep_link.specs.declared.link_ext.macsec_ptype.MacsecPType.TheVariants as ptype
use Rattle.ep_link.specs.LinkExtensions.{vlan, macsec, extension_header, extension_payload, extension_type, link_ext_header_len}
use Rattle.ep_link.specs.Ethernet2.{ethernet2_header_len}
use Rattle.ep_link.specs.LinuxSll.{linux_sll_header_len, protocol_ether_type}
use Rattle.ep_link.specs.LinkSlices.{LinkLayer, ethernet2, linux_sll, ether_payload, linux_sll_payload}
use Rattle.ep_link.specs.Macsec.{FitsPType, macsec_header_len, ptype_len, sci_len}
use Rattle.ep_transport.specs.declared.transport_header.TransportHeader.{TransportHeader}
use Rattle.ep_transport.specs.declared.transport_header.TransportHeader.TheVariants as header
use Rattle.ep_transport.specs.TransportParts.{TransportLayer, transport_layer_of}
use Rattle.ep_packet.specs.declared.entry.Entry.{Entry}
use Rattle.ep_packet.specs.declared.entry.Entry.TheVariants.{Ethernet, LinuxSll, EtherType as OfType, Ip}
use Rattle.ep_packet.specs.declared.err.slice_error.SliceError.{SliceError}
use Rattle.ep_packet.specs.Frame.{IsFrame, most_link_exts}
use Rattle.ep_packet.specs.FrameRefusals.{RefusesFrame}
use Rattle.ep_packet.specs.Layers.{Layers, NetLayer, arp, ipv4, ipv6}
use Rattle.ep_packet.proofs.LayerLawLemmas.{frame_law}
use Rattle.ep_lax.specs.declared.lax_link_ext_slice.LaxLinkExtSlice.{LaxLinkExtSlice}
use Rattle.ep_lax.specs.declared.lax_net_slice.LaxNetSlice.{LaxNetSlice}
use Rattle.ep_lax.specs.declared.lax_net_slice.LaxNetSlice.TheVariants as net
use Rattle.ep_lax.specs.declared.lax_sliced_packet.LaxSlicedPacket.{LaxSlicedPacket}
use Rattle.ep_lax.specs.Lax.{IsLax, IsLaxExtension, IsLaxInside}
use Rattle.ep_lax.specs.LaxHeaders.{LayerHeader, of_extension, of_transport, header_len, frame_headers, link_headers, net_headers, shown_headers, tag_header, transport_headers}
use Rattle.ep_lax.specs.LaxLayers.{LaxLayers, LaxNet}
use Rattle.ep_lax.specs.LaxMacsec.{macsec_stated_len}
use Rattle.ep_lax.specs.LaxPackets.{extensions_incomplete, lax_layers_of, layer_incomplete, net_incomplete, transport_incomplete}
use Rattle.ep_lax.specs.LaxViews.{extension_incomplete, lax_extensions_of, lax_net_layer_of}
use Rattle.ep_lax.specs.LengthFields.{IncludeHeaders, IncludesHeader, stated_len}
use Rattle.ep_lax.specs.StrictFrames.{AreWhole, IsWhole, extension_in, layers_in}
use Rattle.ep_lax.specs.WholeFrames.{are_complete, is_whole_frame, is_whole_header, is_whole_net, is_whole_transport}
use Rattle.ep_lax.proofs.LaxEntryLemmas.{lax_decided}
use Rattle.ep_lax.proofs.LaxLawLemmas.{Tagged}
use Rattle.ep_lax.proofs.NestedLengthLemmas.{frame_includes, none_stated, some_stated}
use Rattle.ep_lax.proofs.StrictLemmas.{frame_is_complete, says_some}
use Rattle.ep_lax.proofs.CompleteFrameLemmas.{last_include, complete_is_frame}

-- ---- missing bytes

-- No byte of the payload of complete link extensions is missing.
are_complete_sound : (extensions : List Tagged) → are_complete extensions ≡ true → AreWhole extensions
are_complete_sound [] complete = tt
are_complete_sound (tagged ∷ others) complete =
    let parts = and_parts _ _ complete in (not-true tagged.1 parts.0, are_complete_sound others parts.1)

entire_complete : (extensions : List Tagged) → AreWhole extensions → are_complete extensions ≡ true
entire_complete [] entire = refl
entire_complete (tagged ∷ others) entire =
    and_from _ _ (not_from_false tagged.1 entire.0) (entire_complete others entire.1)

-- No byte after complete link extensions is missing.
last_complete : (outer : Bool) (slices : List LaxLinkExtSlice) → outer ≡ false
    → are_complete (lax_extensions_of outer slices) ≡ true → extensions_incomplete outer slices ≡ false
last_complete outer [] none complete = none
last_complete outer (slice ∷ others) none complete =
    let parts = and_parts _ _ complete in
    last_complete (extension_incomplete outer slice) others (not-true _ parts.0) parts.1

-- No byte of the payload of a whole network layer is missing, nor after whole tags without one. `outer` states whether
-- bytes after the tags are missing.
net_complete : (outer : Bool) (slice : Option LaxNetSlice) → outer ≡ false
    → is_whole_net (option_map lax_net_layer_of slice) (net_incomplete outer slice) ≡ true
    → net_incomplete outer slice ≡ false
net_complete outer None none entire = none
net_complete outer (Some (net.Ipv4 slice)) none entire = not-true _ (and_parts _ _ entire).0
net_complete outer (Some (net.Ipv6 slice)) none entire = not-true _ entire
net_complete outer (Some (net.Arp packet)) none entire = refl

-- ---- lengths that include their headers

include_both : (first others : List LayerHeader) → IncludeHeaders first → IncludeHeaders others
    → IncludeHeaders (first ++ others)
include_both [] others include more = more
include_both (header ∷ first) others include more = (include.0, include_both first others include.1 more)

-- No header of a link layer states a length.
link_includes : (link : Option LinkLayer) → IncludeHeaders (link_headers link)
link_includes None = tt
link_includes (Some (ethernet2 header payload)) = (tt, tt)
link_includes (Some (linux_sll header payload)) = (tt, tt)
link_includes (Some (ether_payload type source payload)) = tt
link_includes (Some (linux_sll_payload protocol payload)) = tt

-- A short length that states one includes the ether type of an unmodified payload.
type_included : (type : MacsecPType) (short : ℕ) → FitsPType type short → 0 < short → ptype_len type ≤ short
type_included (ptype.Unmodified type) short fits some = omega (arith, fits.1, some)
type_included ptype.Modified short fits some = omega arith
type_included ptype.Encrypted short fits some = omega arith
type_included ptype.EncryptedUnmodified short fits some = omega arith

tag_includes : (outer : Bool) (type : EtherType) (bytes : List ℕ) (tagged : Tagged)
    → IsLaxExtension outer type bytes tagged
    → IncludesHeader (header_len (tag_header tagged.0)) (stated_len (tag_header tagged.0))
tag_includes outer type bytes (vlan tag payload, incomplete) is = tt
tag_includes outer type bytes (macsec tag payload, incomplete) is =
    let short = tag.short_len in
    let stated = macsec_stated_len tag in
    let n = macsec_header_len tag in
    elim (cases_eq short 0) [
      | inl none ↦ subst (IncludesHeader n) (sym (none_stated short stated none)) tt
      | inr other ↦
          let some : 0 < short = omega (arith, other) in
          let stated_is : stated ≡ 6 + sci_len tag.sci + short = says_some short (6 + sci_len tag.sci) some in
          let type_fits = type_included tag.ptype short is.1.1.header.encodes.fits.ptype some in
          subst (IncludesHeader n) (sym (some_stated short stated some)) (omega (arith, stated_is, type_fits))
    ]

-- The short lengths of link extensions include their tags.
tags_include : (exts_left offset : ℕ) (outer : Bool) (type : Option EtherType) (bytes : List ℕ)
    (extensions : List Tagged) (net : LaxNet) → IsLaxInside exts_left offset outer type bytes extensions net
    → IncludeHeaders (map tag_header (map extension_in extensions))
tags_include exts_left offset outer None bytes extensions net is =
    subst (λ (e : List Tagged). IncludeHeaders (map tag_header (map extension_in e))) (sym is.0) tt
tags_include exts_left offset outer (Some type) bytes [] net is = tt
tags_include zero offset outer (Some type) bytes (tagged ∷ others) net is = absurd is
tags_include (suc exts_left) offset outer (Some type) bytes (tagged ∷ others) net is = (
  tag_includes outer type bytes tagged is.0,
  tags_include exts_left (offset + link_ext_header_len (extension_header tagged.0)) tagged.1 (extension_type tagged.0)
      (extension_payload tagged.0) others net is.1,
)

packet_tags_include : (entry : Entry) (bytes : List ℕ) (read : LaxLayers) → IsLax entry bytes read
    → IncludeHeaders (map tag_header (map extension_in read.link_exts))
packet_tags_include Ethernet bytes read is =
    tags_include most_link_exts ethernet2_header_len false (Some is.0.header.ether_type) is.0.payload read.link_exts
    read.net is.3
packet_tags_include LinuxSll bytes read is =
    tags_include most_link_exts linux_sll_header_len false (protocol_ether_type is.0.header.protocol_type) is.0.payload
    read.link_exts read.net is.3
packet_tags_include (OfType type) bytes read is =
    tags_include most_link_exts 0 false (Some type) bytes read.link_exts read.net is.1
packet_tags_include Ip bytes read is =
    subst (λ (e : List Tagged). IncludeHeaders (map tag_header (map extension_in e))) (sym is.1) tt

-- Extension headers of IP state no length of their payload.
parts_include : (parts : List ExtensionPart) (others : List LayerHeader) → IncludeHeaders others
    → IncludeHeaders (map of_extension parts ++ others)
parts_include [] others include = include
parts_include (part ∷ parts) others include = (tt, parts_include parts others include)

-- A payload length of IPv6 includes the header, which it does not count.
ipv6_includes : (field : ℕ) → IncludesHeader 40 (if field == 0 then None else Some (40 + field))
ipv6_includes field =
    elim (cases_eq field 0) [
      | inl none ↦ subst (IncludesHeader 40) (sym (none_stated field (40 + field) none)) tt
      | inr other ↦ subst (IncludesHeader 40) (sym (some_stated field (40 + field) (omega (arith, other))))
          (omega arith)
    ]

net_includes : (layer : Option NetLayer) (incomplete : Bool) (others : List LayerHeader)
    → is_whole_net layer incomplete ≡ true → IncludeHeaders others → IncludeHeaders (net_headers layer ++ others)
net_includes None incomplete others entire include = include
net_includes (Some (ipv4 h extensions payload)) incomplete others entire include = (
  leb-true (ipv4_header_len h) h.total_len (and_parts _ _ entire).1,
  parts_include extensions others include,
)
net_includes (Some (ipv6 h extensions payload)) incomplete others entire include =
    (ipv6_includes h.payload_length, parts_include extensions others include)
net_includes (Some (arp packet)) incomplete others entire include = (tt, include)

-- A length of UDP that applies or states no length: no byte is missing, and the header is included.
length_parts : (stated available : ℕ) → (stated == 0 || cuts 8 stated available) ≡ true
    → (is_missing 8 stated false available ≡ false) × IncludesHeader 8 (if stated == 0 then None else Some stated)
length_parts stated available entire = (
  grind (arith, common_steps),
  elim (cases_eq stated 0) [
    | inl none ↦ subst (IncludesHeader 8) (sym (none_stated stated stated none)) tt
    | inr other ↦ subst (IncludesHeader 8) (sym (some_stated stated stated (omega (arith, other))))
        (let enough : 8 ≤ stated = grind (arith, common_steps) in enough)
  ],
)

header_parts : (h : TransportHeader) (payload : List ℕ) → is_whole_header h payload ≡ true
    → (layer_incomplete false h payload ≡ false)
    × IncludesHeader (header_len (of_transport h)) (stated_len (of_transport h))
header_parts (header.Udp udp) payload entire = length_parts udp.length (8 + length payload) entire
header_parts (header.Tcp tcp) payload entire = (refl, tt)
header_parts (header.Icmpv4 icmp) payload entire = (refl, tt)
header_parts (header.Icmpv6 icmp) payload entire = (refl, tt)

-- No byte of the payload of a whole transport layer is missing, and its length field includes the header.
transport_parts : (transport : Option TransportLayer) → is_whole_transport transport ≡ true
    → (transport_incomplete false transport ≡ false) × IncludeHeaders (transport_headers transport)
transport_parts None entire = (refl, tt)
transport_parts (Some layer) entire =
    let parts = header_parts layer.header layer.payload entire in (parts.0, (parts.1, tt))

no_stop : (stop : Option (SliceError × Layer)) → is_none stop ≡ true → stop ≡ None
no_stop None none = refl
no_stop (Some error) none = absurd (false≢true none)

-- No byte of any payload of a whole packet is missing.
packet_complete : (packet : LaxSlicedPacket) → is_whole_frame (lax_layers_of packet) ≡ true
    → IsWhole (lax_layers_of packet)
packet_complete packet entire =
    let stop = and_parts _ _ entire in
    let tags = and_parts _ _ stop.1 in
    let layers = and_parts _ _ tags.1 in
    let transport = option_map transport_layer_of packet.transport in
    let complete = net_complete (extensions_incomplete false packet.link_exts.items) packet.net
    (last_complete false packet.link_exts.items refl tags.0) layers.0 in
    record {
      extensions = are_complete_sound (lax_layers_of packet).link_exts tags.0;
      net = complete;
      inside = ap (λ (o : Bool). transport_incomplete o transport) complete ∙ (transport_parts transport layers.1).0;
      stop = no_stop packet.stop_err stop.0;
    }

-- The length fields of a whole packet include their headers.
packet_includes : (entry : Entry) (bytes : List ℕ) (read : LaxLayers) → IsLax entry bytes read
    → is_whole_frame read ≡ true → IncludeHeaders (shown_headers read)
packet_includes entry bytes read is entire =
    let layers = and_parts _ _ (and_parts _ _ (and_parts _ _ entire).1).1 in
    include_both (link_headers read.link) _ (link_includes read.link)
    (include_both (map tag_header (map extension_in read.link_exts)) _ (packet_tags_include entry bytes read is)
    (net_includes read.net.layer read.net.incomplete (transport_headers read.net.inside.layer) layers.0
    (transport_parts read.net.inside.layer layers.1).1))

-- ---- whole packets

net_entire : (layer : Option NetLayer) (incomplete : Bool) (others : List LayerHeader) → incomplete ≡ false
    → IncludeHeaders (net_headers layer ++ others) → is_whole_net layer incomplete ≡ true
net_entire None incomplete others none include = refl
net_entire (Some (ipv4 h extensions payload)) incomplete others none include =
    and_from _ _ (not_from_false incomplete none) (le-leb (ipv4_header_len h) h.total_len include.0)
net_entire (Some (ipv6 h extensions payload)) incomplete others none include = not_from_false incomplete none
net_entire (Some (arp packet)) incomplete others none include = refl

length_complete : (stated available : ℕ) (outer : Bool) → is_missing 8 stated outer available ≡ false
    → IncludesHeader 8 (if stated == 0 then None else Some stated) → (stated == 0 || cuts 8 stated available) ≡ true
length_complete stated available outer complete include =
    elim (cases_eq stated 0) [
      | inl none ↦ or_left _ _ (eq-eqb stated 0 none)
      | inr other ↦
          let enough : 8 ≤ stated =
          subst (IncludesHeader 8) (some_stated stated stated (omega (arith, other))) include in
          grind (arith, common_steps)
    ]

header_complete : (outer : Bool) (h : TransportHeader) (payload : List ℕ) → layer_incomplete outer h payload ≡ false
    → IncludesHeader (header_len (of_transport h)) (stated_len (of_transport h)) → is_whole_header h payload ≡ true
header_complete outer (header.Udp udp) payload complete include =
    length_complete udp.length (8 + length payload) outer complete include
header_complete outer (header.Tcp tcp) payload complete include = refl
header_complete outer (header.Icmpv4 icmp) payload complete include = refl
header_complete outer (header.Icmpv6 icmp) payload complete include = refl

transport_complete : (outer : Bool) (transport : Option TransportLayer) → transport_incomplete outer transport ≡ false
    → IncludeHeaders (transport_headers transport) → is_whole_transport transport ≡ true
transport_complete outer None complete include = refl
transport_complete outer (Some layer) complete include =
    header_complete outer layer.header layer.payload complete include.0

-- A packet is whole if no byte of a payload is missing, slicing did not stop at an error, and each length that a header
-- states includes the header.
is_complete : (packet : LaxSlicedPacket) → IsWhole (lax_layers_of packet)
    → IncludeHeaders (shown_headers (lax_layers_of packet)) → is_whole_frame (lax_layers_of packet) ≡ true
is_complete packet entire include =
    let read = lax_layers_of packet in
    let inside = transport_headers read.net.inside.layer in
    let net_include : IncludeHeaders (net_headers read.net.layer ++ inside) =
    last_include (map tag_header (map extension_in read.link_exts)) _
    (last_include (link_headers read.link) _ include) in
    and_from _ _ (ap is_none entire.stop) (and_from _ _ (entire_complete read.link_exts entire.extensions)
    (and_from _ _ (net_entire read.net.layer read.net.incomplete inside entire.net net_include)
    (transport_complete read.net.incomplete read.net.inside.layer entire.inside
    (last_include (net_headers read.net.layer) inside net_include))))

-- Strict slicing accepts whole packets.
pub accepts_complete : (packet : LaxSlicedPacket) (entry : Entry) (bytes : List ℕ)
    → IsLax entry bytes (lax_layers_of packet) → is_whole_frame (lax_layers_of packet) ≡ true
    → IsFrame entry bytes (layers_in (lax_layers_of packet))
accepts_complete packet entry bytes is entire =
    complete_is_frame entry bytes (lax_layers_of packet) is (packet_complete packet entire)
    (packet_includes entry bytes (lax_layers_of packet) is entire)

-- Strict slicing rejects all other packets.
pub rejects_others : (packet : LaxSlicedPacket) (entry : Entry) (bytes : List ℕ) → AreBytes bytes
    → IsLax entry bytes (lax_layers_of packet) → is_whole_frame (lax_layers_of packet) ≡ false
    → (error : SliceError) × RefusesFrame entry bytes error
rejects_others packet entry bytes fits is other =
    elim (frame_law entry bytes fits).some [
      | inl frame ↦
          let found = frame_is_complete entry bytes frame.0 frame.1 in
          let same = (lax_decided entry bytes fits).one_value found.0 (lax_layers_of packet) found.1 is in
          let include = subst (λ (layers : Layers). IncludeHeaders (frame_headers layers)) (sym found.2)
          (frame_includes entry bytes frame.0 frame.1) in
          absurd (false≢true (sym other ∙ is_complete packet (subst IsWhole same found.3)
          (subst (λ (read : LaxLayers). IncludeHeaders (shown_headers read)) same include)))
      | inr refused ↦ refused
    ]
