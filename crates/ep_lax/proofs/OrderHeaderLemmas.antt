-- Bytes that are the headers of layers in order, a payload and trailing bytes begin with these headers.
use Rattle.std.proofs.Common.{◌≡◌, ℕ, List, [], ◌∷◌, ◌++◌, length, map, Option, Some, None, refl, sym, ap, subst, ◌∙◌, append_assoc}
use Rattle.ep_ext.specs.Chains.{EncodesParts}
use Rattle.ep_ext.specs.ExtensionParts.{ExtensionPart}
use Rattle.ep_ip.proofs.IpBytesLemmas.{encoded_len as ipv4_encoded_len, ipv6_len}
use Rattle.ep_ip.specs.Ipv6.{ipv6_bytes}
use Rattle.ep_link.specs.declared.link.link_header.LinkHeader.TheVariants.{Ethernet2, LinuxSll}
use Rattle.ep_link.specs.LinkExtensions.{LinkExtension, vlan, macsec, EncodesTag}
use Rattle.ep_link.specs.LinkSlices.{LinkLayer, ethernet2, linux_sll, ether_payload, linux_sll_payload}
use Rattle.ep_transport.specs.TransportParts.{TransportLayer, EncodesTransport}
use Rattle.ep_packet.proofs.OffsetLemmas.{link_encoded, net_encoded, part_encoded, tag_encoded, transport_encoded}
use Rattle.ep_packet.proofs.OrderLemmas.{InsideBytes}
use Rattle.ep_packet.specs.FrameBytes.{AreInOrder, EncodesLink, EncodesNet, EncodesTags}
use Rattle.ep_packet.specs.Layers.{Layers, NetLayer, arp, ipv4, ipv6}
use Rattle.ep_lax.specs.LaxHeaders.{BeginWith, EncodesHeader, LayerHeader, frame_headers, header_len, link_headers, net_headers, of_arp, of_extension, of_ipv4, of_ipv6, of_link, of_transport, tag_header, transport_headers}

-- Bytes that begin with a header and other headers after it begin with all of them.
header_begins : (header : LayerHeader) (others : List LayerHeader) (bytes rest : List ℕ) → EncodesHeader header bytes
    → length bytes ≡ header_len header → BeginWith others rest → BeginWith (header ∷ others) (bytes ++ rest)
header_begins header others bytes rest encodes len rest_begins = (bytes, rest, refl, encodes, len, rest_begins)

-- Bytes without header and with other headers after it begin with the others.
none_begins : (others : List LayerHeader) (bytes rest : List ℕ) → bytes ≡ [] → BeginWith others rest
    → BeginWith others (bytes ++ rest)
none_begins others bytes rest no_bytes rest_begins =
    subst (λ (b : List ℕ). BeginWith others (b ++ rest)) (sym no_bytes) rest_begins

-- Bytes that begin with a header and other bytes, followed by other headers, begin with all of them.
first_begins : (header : LayerHeader) (others : List LayerHeader) (bytes first second rest : List ℕ)
    → bytes ≡ first ++ second → EncodesHeader header first → length first ≡ header_len header
    → BeginWith others (second ++ rest) → BeginWith (header ∷ others) (bytes ++ rest)
first_begins header others bytes first second rest parts encodes len rest_begins =
    subst (BeginWith (header ∷ others)) (sym (ap (λ (b : List ℕ). b ++ rest) parts ∙ append_assoc first second rest))
    (header_begins header others first (second ++ rest) encodes len rest_begins)

-- Bytes that begin with the header of a link layer, if present, and other headers after it begin with all of them.
link_begins : (link : Option LinkLayer) (others : List LayerHeader) (bytes rest : List ℕ) → EncodesLink link bytes
    → BeginWith others rest → BeginWith (link_headers link ++ others) (bytes ++ rest)
link_begins None others bytes rest no_bytes rest_begins = none_begins others bytes rest no_bytes rest_begins
link_begins (Some (ethernet2 header payload)) others bytes rest encodes rest_begins =
    header_begins (of_link (Ethernet2 header)) others bytes rest encodes
    (link_encoded (Some (ethernet2 header payload)) bytes encodes) rest_begins
link_begins (Some (linux_sll header payload)) others bytes rest encodes rest_begins =
    header_begins (of_link (LinuxSll header)) others bytes rest encodes
    (link_encoded (Some (linux_sll header payload)) bytes encodes) rest_begins
link_begins (Some (ether_payload type source payload)) others bytes rest no_bytes rest_begins =
    none_begins others bytes rest no_bytes rest_begins
link_begins (Some (linux_sll_payload protocol payload)) others bytes rest no_bytes rest_begins =
    none_begins others bytes rest no_bytes rest_begins

tag_encodes : (extension : LinkExtension) (bytes : List ℕ) → EncodesTag extension bytes
    → EncodesHeader (tag_header extension) bytes
tag_encodes (vlan tag payload) bytes encodes = encodes
tag_encodes (macsec tag payload) bytes encodes = encodes

-- Bytes that begin with the tags of link extensions and other headers after them begin with all of them.
tags_begin : (extensions : List LinkExtension) (others : List LayerHeader) (bytes rest : List ℕ)
    → EncodesTags extensions bytes → BeginWith others rest
    → BeginWith (map tag_header extensions ++ others) (bytes ++ rest)
tags_begin [] others bytes rest no_bytes rest_begins = none_begins others bytes rest no_bytes rest_begins
tags_begin (extension ∷ inner) others bytes rest (first, second, encodes, are_tags, parts) rest_begins =
    first_begins (tag_header extension) (map tag_header inner ++ others) bytes first second rest parts
    (tag_encodes extension first encodes) (tag_encoded extension first encodes)
    (tags_begin inner others second rest are_tags rest_begins)

-- Bytes that begin with extension headers of IP and other headers after them begin with all of them.
parts_begin : (extensions : List ExtensionPart) (others : List LayerHeader) (bytes rest : List ℕ)
    → EncodesParts bytes extensions → BeginWith others rest
    → BeginWith (map of_extension extensions ++ others) (bytes ++ rest)
parts_begin [] others bytes rest no_bytes rest_begins = none_begins others bytes rest no_bytes rest_begins
parts_begin (extension ∷ inner) others bytes rest (first, second, encodes, are_headers, parts) rest_begins =
    first_begins (of_extension extension) (map of_extension inner ++ others) bytes first second rest parts encodes
    (part_encoded extension first encodes) (parts_begin inner others second rest are_headers rest_begins)

-- Bytes that begin with the headers of a network layer, if present, and other headers after them begin with all of
-- them.
net_begins : (net : Option NetLayer) (others : List LayerHeader) (bytes rest : List ℕ) → EncodesNet net bytes
    → BeginWith others rest → BeginWith (net_headers net ++ others) (bytes ++ rest)
net_begins None others bytes rest no_bytes rest_begins = none_begins others bytes rest no_bytes rest_begins
net_begins (Some (ipv4 header extensions payload)) others bytes rest (first, second, encodes, are_headers, parts)
    rest_begins =
    first_begins (of_ipv4 header) (map of_extension extensions ++ others) bytes first second rest parts encodes
    (ipv4_encoded_len first header encodes) (parts_begin extensions others second rest are_headers rest_begins)
net_begins (Some (ipv6 header extensions payload)) others bytes rest (fits, (second, are_headers, parts)) rest_begins =
    first_begins (of_ipv6 header) (map of_extension extensions ++ others) bytes (ipv6_bytes header) second rest parts
    (fits, refl) (ipv6_len header fits) (parts_begin extensions others second rest are_headers rest_begins)
net_begins (Some (arp packet)) others bytes rest encodes rest_begins =
    header_begins (of_arp packet) others bytes rest encodes (net_encoded (Some (arp packet)) bytes encodes) rest_begins

-- Bytes that begin with the header of a transport layer, if present, begin with it.
transport_begins : (transport : Option TransportLayer) (bytes rest : List ℕ) → EncodesTransport transport bytes
    → BeginWith (transport_headers transport) (bytes ++ rest)
transport_begins None bytes rest no_bytes = tt
transport_begins (Some layer) bytes rest encodes =
    header_begins (of_transport layer.header) [] bytes rest encodes (transport_encoded (Some layer) bytes encodes) tt

-- Bytes after a link header with layers in order begin with the headers of these layers.
pub inside_begins : (bytes : List ℕ) (extensions : List LinkExtension) (net : Option NetLayer)
    (transport : Option TransportLayer) → InsideBytes bytes extensions net transport
    → BeginWith (map tag_header extensions ++ (net_headers net ++ transport_headers transport)) bytes
inside_begins bytes extensions net transport are =
    let inner = net_headers net ++ transport_headers transport in
    subst (BeginWith (map tag_header extensions ++ inner)) (sym are.parts)
    (tags_begin extensions inner are.tags _ are.tags_encode
    (net_begins net (transport_headers transport) are.net_header _ are.net_encodes
    (transport_begins transport are.transport_header _ are.transport_encodes)))

-- Bytes with layers in order begin with the headers of all layers.
pub order_begins : (bytes : List ℕ) (layers : Layers) → AreInOrder bytes layers
    → BeginWith (frame_headers layers) bytes
order_begins bytes layers order =
    let inner = net_headers layers.net ++ transport_headers layers.transport in
    subst (BeginWith (frame_headers layers)) (sym order.parts)
    (link_begins layers.link (map tag_header layers.link_exts ++ inner) order.link _ order.link_header
    (tags_begin layers.link_exts inner order.tags _ order.tag_headers
    (net_begins layers.net (transport_headers layers.transport) order.net _ order.net_header
    (transport_begins layers.transport order.transport _ order.transport_header))))
