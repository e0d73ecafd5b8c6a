-- Bytes read laxly are the headers of the layers in order, the payload of the last layer, and trailing bytes.
use Rattle.std.proofs.Common.{◌≡◌, ℕ, ◌+◌, zero, suc, Bool, false, List, [], ◌∷◌, ◌++◌, map, Option, Some, None, refl, sym, ap, subst, ◌∙◌, inl, inr, append_assoc}
use Rattle.std.proofs.lemmas.List.{append-nil}
use Rattle.ep_base.specs.IpPayload.{IpPayload}
use Rattle.ep_base.specs.Readings.{Reading, headers}
use Rattle.ep_base.specs.declared.ether_type.EtherType.{EtherType}
use Rattle.ep_base.specs.declared.len_source.LenSource.TheVariants as source
use Rattle.ep_base.specs.declared.err.ipv6_exts.HeaderSliceError.{HeaderSliceError}
use Rattle.ep_ext.specs.Chains.{IpVersion, ipv4, ipv6, ExtensionChain, EncodesParts}
use Rattle.ep_ext.specs.ExtensionParts.{ExtensionPart, hop_by_hop, destination_options, routing, fragment, authentication, part_next, EncodesPart, IsExtensionPart}
use Rattle.ep_ext.specs.ChainPrefixes.{BeginWithParts, IsLaxChainIn}
use Rattle.ep_ext.specs.RawExtension.{raw_extension_bytes}
use Rattle.ep_ext.proofs.ChainBytesLemmas.{chain_encoded}
use Rattle.ep_ip.specs.declared.ipv4_header.Ipv4Header.{Ipv4Header}
use Rattle.ep_ip.specs.declared.ipv6_header.Ipv6Header.{Ipv6Header}
use Rattle.ep_ip.specs.Ipv6.{ipv6_bytes}
use Rattle.ep_link.specs.Arp.{arp_bytes}
use Rattle.ep_link.specs.Ethernet2.{ethernet2_bytes, ethernet2_header_len}
use Rattle.ep_link.specs.LinkExtensions.{LinkExtension, vlan, macsec, EncodesTag, extension_header, extension_payload, extension_type, link_ext_header_len}
use Rattle.ep_link.specs.LinkSlices.{ethernet2, linux_sll as sll, ether_payload}
use Rattle.ep_link.specs.LinuxSll.{linux_sll_bytes, linux_sll_header_len, protocol_ether_type}
use Rattle.ep_link.specs.Macsec.{macsec_payload_bytes}
use Rattle.ep_link.specs.Vlan.{vlan_bytes}
use Rattle.ep_transport.specs.declared.transport_header.TransportHeader.{TransportHeader}
use Rattle.ep_transport.specs.declared.transport_header.TransportHeader.TheVariants as header
use Rattle.ep_transport.specs.TransportParts.{TransportLayer, transport_layer, AreTransport}
use Rattle.ep_transport.proofs.TransportLemmas.{transport_bytes_are}
use Rattle.ep_packet.specs.declared.entry.Entry.{Entry}
use Rattle.ep_packet.specs.declared.entry.Entry.TheVariants.{Ethernet as ethernet, LinuxSll as linux_sll, EtherType as ether_type, Ip as ip}
use Rattle.ep_packet.specs.Frame.{NetKind, only_ipv4, only_ipv6, only_arp, any_ip, net_kind, most_link_exts}
use Rattle.ep_packet.specs.FrameBytes.{AreInOrder, EncodesNet, after_net}
use Rattle.ep_packet.proofs.OrderLemmas.{InsideBytes, frame_bytes, ip_bytes, net_layer_bytes, no_layer_bytes, tagged_bytes}
use Rattle.ep_packet.specs.Layers.{NetLayer, arp, ipv4_layer, ipv6_layer}
use Rattle.ep_lax.specs.Lax.{IsLimitedLaxly, IsHeaderLimitedLaxly, IsInsideIp, IsIpv4NetIn, IsIpv6NetIn, IsLaxIn, IsLaxExtension, IsLaxInsideIn, IsLaxNetIn, IsLaxTransport}
use Rattle.ep_ip.specs.LaxIp.{LaxIp, IsLaxIpv4In, IsLaxIpv6In}
use Rattle.ep_lax.specs.LaxLayers.{LaxLayers, LaxNet, LaxTransport}
use Rattle.ep_lax.specs.StrictFrames.{extension_in, layers_in}
use Rattle.ep_lax.proofs.LaxMacsecLemmas.{payload_by_is}

-- ---- extension headers

-- The bytes of an extension header are its wire format.
part_bytes_are : (number : ℕ) (bytes : List ℕ) (part : ExtensionPart) (rest : List ℕ)
    → IsExtensionPart number bytes part rest
    → (encoded : List ℕ) × EncodesPart encoded part × (bytes ≡ encoded ++ rest)
part_bytes_are number bytes (hop_by_hop header) rest is =
    (raw_extension_bytes header, (is.1.fits, refl), is.1.parts)
part_bytes_are number bytes (destination_options header) rest is =
    (raw_extension_bytes header, (is.1.fits, refl), is.1.parts)
part_bytes_are number bytes (routing header) rest is =
    (raw_extension_bytes header, (is.1.fits, refl), is.1.parts)
part_bytes_are number bytes (fragment header) rest is = (is.1.encoded, is.1.encodes, is.1.parts)
part_bytes_are number bytes (authentication header) rest is = (is.1.encoded, is.1.encodes, is.1.parts)

-- The bytes of the extension headers before a rejected one are their wire format.
parts_bytes_are : (number : ℕ) (bytes : List ℕ) (parts : List ExtensionPart) (last : ℕ) (rest : List ℕ)
    → BeginWithParts number bytes parts last rest
    → (encoded : List ℕ) × EncodesParts encoded parts × (bytes ≡ encoded ++ rest)
parts_bytes_are number bytes [] last rest is = ([], refl, sym is.1)
parts_bytes_are number bytes (part ∷ parts) last rest is =
    let here = part_bytes_are number bytes part is.0 is.1 in
    let more = parts_bytes_are (part_next part) is.0 parts last rest is.2 in (
      here.0 ++ more.0,
      (here.0, more.0, here.1, more.1, refl),
      here.2 ∙ ap (λ (s : List ℕ). here.0 ++ s) more.2 ∙ sym (append_assoc here.0 more.0 rest),
    )

-- The bytes of the extension headers that are read are their wire format.
pub chain_bytes_are : (reading : Reading) (version : IpVersion) (number : ℕ) (bytes : List ℕ) (chain : ExtensionChain)
    (refused : Option HeaderSliceError) → IsLaxChainIn version reading number bytes chain refused
    → (encoded : List ℕ) × EncodesParts encoded chain.parts × (bytes ≡ encoded ++ chain.rest)
chain_bytes_are reading version number bytes chain None is = chain_encoded version reading number bytes chain is
chain_bytes_are reading version number bytes chain (Some error) is =
    parts_bytes_are number bytes chain.parts chain.last chain.rest is.1

-- ---- the network layer

-- The bytes are the headers of a network layer, its payload, and trailing bytes.
record NetBytes (bytes : List ℕ) (layer : NetLayer) : Type 0 where
  header : List ℕ
  left : List ℕ
  encodes : EncodesNet (Some layer) header
  parts : bytes ≡ (header ++ after_net [] (Some layer)) ++ left

-- A header, extension headers, a payload and trailing bytes, with both kinds of headers joined.
regroup : (bytes header rest content inner payload left : List ℕ) → bytes ≡ header ++ rest
    → rest ≡ content ++ left → content ≡ inner ++ payload → bytes ≡ ((header ++ inner) ++ payload) ++ left
regroup bytes header rest content inner payload left parts rest_is content_is =
    parts ∙ ap (λ (x : List ℕ). header ++ x) (rest_is ∙ ap (λ (x : List ℕ). x ++ left) content_is) ∙ simp append_assoc

ipv4_net_bytes : (reading : Reading) (outer : Bool) (bytes : List ℕ) (lax : LaxIp Ipv4Header)
    → IsLaxIpv4In reading outer bytes lax → NetBytes bytes (ipv4_layer lax.packet)
ipv4_net_bytes reading outer bytes lax (read, holds, is) =
    let chain = chain_bytes_are reading ipv4 read.0.protocol.0 is.cut.payload is.chain is.refused is.is_chain in
    subst (λ (l : LaxIp Ipv4Header). NetBytes bytes (ipv4_layer l.packet)) (sym is.is) (record {
      header = holds.encoded ++ chain.0;
      left = is.cut.left;
      encodes = (holds.encoded, chain.0, holds.encodes, chain.1, refl);
      parts = regroup bytes holds.encoded read.1 is.cut.payload chain.0 is.chain.rest is.cut.left holds.parts
          is.cuts.parts chain.2;
    })

ipv6_net_bytes : (reading : Reading) (outer : Bool) (bytes : List ℕ) (lax : LaxIp Ipv6Header)
    → IsLaxIpv6In reading outer bytes lax → NetBytes bytes (ipv6_layer lax.packet)
ipv6_net_bytes reading outer bytes lax (read, holds, is) =
    let chain = chain_bytes_are reading ipv6 read.0.next_header.0 is.cut.payload is.chain is.refused is.is_chain in
    subst (λ (l : LaxIp Ipv6Header). NetBytes bytes (ipv6_layer l.packet)) (sym is.is) (record {
      header = ipv6_bytes read.0 ++ chain.0;
      left = is.cut.left;
      encodes = (holds.fits, (chain.0, chain.1, refl));
      parts = regroup bytes (ipv6_bytes read.0) read.1 is.cut.payload chain.0 is.chain.rest is.cut.left holds.parts
          is.cuts.parts chain.2;
    })

-- ---- the transport layer

-- Bytes without transport layer are in order.
no_transport_in : (bytes : List ℕ) → AreTransport bytes None
no_transport_in bytes = record { header = []; left = []; encodes = refl; parts = sym (append-nil bytes) }

-- A layer whose payload is limited by its length field, if the field applies, is in order.
cut_in_order : (outer : Bool) (bytes : List ℕ) (h : TransportHeader) (payload : List ℕ) (lax : LaxTransport)
    → AreTransport bytes (Some (transport_layer h payload)) → IsHeaderLimitedLaxly outer h payload lax
    → AreTransport bytes lax.layer
cut_in_order outer bytes (header.Udp udp) payload lax are (cut, cuts, same) =
    subst (λ (l : LaxTransport). AreTransport bytes l.layer) (sym same) (record {
      header = are.header;
      left = cut.left ++ are.left;
      encodes = are.encodes;
      parts = are.parts ∙ ap (λ (x : List ℕ). are.header ++ (x ++ are.left)) cuts.parts
          ∙ ap (λ (x : List ℕ). are.header ++ x) (append_assoc cut.payload cut.left are.left);
    })
cut_in_order outer bytes (header.Tcp tcp) payload lax are same =
    subst (λ (l : LaxTransport). AreTransport bytes l.layer) (sym same) are
cut_in_order outer bytes (header.Icmpv4 icmp) payload lax are same =
    subst (λ (l : LaxTransport). AreTransport bytes l.layer) (sym same) are
cut_in_order outer bytes (header.Icmpv6 icmp) payload lax are same =
    subst (λ (l : LaxTransport). AreTransport bytes l.layer) (sym same) are

part_in_order : (outer : Bool) (bytes : List ℕ) (part : Option TransportLayer) (lax : LaxTransport)
    → AreTransport bytes part → IsLimitedLaxly outer part lax → AreTransport bytes lax.layer
part_in_order outer bytes None lax are same =
    subst (λ (l : LaxTransport). AreTransport bytes l.layer) (sym same) are
part_in_order outer bytes (Some layer) lax are is = cut_in_order outer bytes layer.header layer.payload lax are is

-- The transport layer in a payload of IP is in order.
pub transport_in_order : (offset : ℕ) (outer : Bool) (payload : IpPayload) (lax : LaxTransport)
    → IsLaxTransport offset outer payload lax → AreTransport payload.bytes lax.layer
transport_in_order offset outer payload lax (inl refused) =
    subst (λ (l : LaxTransport). AreTransport payload.bytes l.layer) (sym refused.2) (no_transport_in payload.bytes)
transport_in_order offset outer payload lax (inr (part, is, cut)) =
    part_in_order outer payload.bytes part lax
    (transport_bytes_are headers payload.number payload.fragmented payload.bytes part is) cut

pub inside_in_order : (version : IpVersion) (offset len : ℕ) (outer : Bool) (payload : IpPayload)
    (stop : Option HeaderSliceError) (lax : LaxTransport) → IsInsideIp version offset len outer payload stop lax
    → AreTransport payload.bytes lax.layer
inside_in_order version offset len outer payload None lax is = transport_in_order (offset + len) outer payload lax is
inside_in_order version offset len outer payload (Some refused) lax same =
    subst (λ (l : LaxTransport). AreTransport payload.bytes l.layer) (sym same) (no_transport_in payload.bytes)

-- ---- layers after the link header

-- A network layer with the transport layer in its payload is in order.
layer_in_order : (bytes : List ℕ) (layer : NetLayer) (transport : Option TransportLayer) → NetBytes bytes layer
    → AreTransport (after_net [] (Some layer)) transport → InsideBytes bytes [] (Some layer) transport
layer_in_order bytes layer transport are inside =
    net_layer_bytes bytes are.header are.left layer transport are.encodes are.parts inside

ipv4_net_in_order : (reading : Reading) (offset : ℕ) (outer : Bool) (bytes : List ℕ) (net : LaxNet)
    → IsIpv4NetIn reading offset outer bytes net → InsideBytes bytes [] net.layer net.inside.layer
ipv4_net_in_order reading offset outer bytes net (lax, is, (inside, inner, same)) =
    subst (λ (n : LaxNet). InsideBytes bytes [] n.layer n.inside.layer) (sym same)
    (layer_in_order bytes (ipv4_layer lax.packet) inside.layer (ipv4_net_bytes reading outer bytes lax is)
    (inside_in_order ipv4 offset _ lax.incomplete lax.packet.payload lax.stop inside inner))

ipv6_net_in_order : (reading : Reading) (offset : ℕ) (outer : Bool) (bytes : List ℕ) (net : LaxNet)
    → IsIpv6NetIn reading offset outer bytes net → InsideBytes bytes [] net.layer net.inside.layer
ipv6_net_in_order reading offset outer bytes net (lax, is, (inside, inner, same)) =
    subst (λ (n : LaxNet). InsideBytes bytes [] n.layer n.inside.layer) (sym same)
    (layer_in_order bytes (ipv6_layer lax.packet) inside.layer (ipv6_net_bytes reading outer bytes lax is)
    (inside_in_order ipv6 offset _ lax.incomplete lax.packet.payload lax.stop inside inner))

-- Bytes without network layer are in order.
no_net_in_order : (bytes : List ℕ) (net other : LaxNet) → other.layer ≡ None → other.inside.layer ≡ None → net ≡ other
    → InsideBytes bytes [] net.layer net.inside.layer
no_net_in_order bytes net other no_layer no_transport same =
    let layer : net.layer ≡ None = (λ i. (same i).layer) ∙ no_layer in
    let inside : net.inside.layer ≡ None = (λ i. (same i).inside.layer) ∙ no_transport in
    subst (λ (n : Option NetLayer). InsideBytes bytes [] n net.inside.layer) (sym layer)
    (subst (λ (t : Option TransportLayer). InsideBytes bytes [] None t) (sym inside)
    (no_layer_bytes bytes))

net_in_order : (reading : Reading) (offset : ℕ) (outer : Bool) (kind : Option NetKind) (bytes : List ℕ) (net : LaxNet)
    → IsLaxNetIn reading offset outer kind bytes net → InsideBytes bytes [] net.layer net.inside.layer
net_in_order reading offset outer None bytes net same = no_net_in_order bytes net _ refl refl same
net_in_order reading offset outer (Some only_ipv4) bytes net (inl refused) =
    no_net_in_order bytes net _ refl refl refused.2
net_in_order reading offset outer (Some only_ipv4) bytes net (inr is) =
    ipv4_net_in_order reading offset outer bytes net is
net_in_order reading offset outer (Some only_ipv6) bytes net (inl refused) =
    no_net_in_order bytes net _ refl refl refused.2
net_in_order reading offset outer (Some only_ipv6) bytes net (inr is) =
    ipv6_net_in_order reading offset outer bytes net is
net_in_order reading offset outer (Some only_arp) bytes net (inl refused) =
    no_net_in_order bytes net _ refl refl refused.2
net_in_order reading offset outer (Some only_arp) bytes net (inr (part, is, same)) =
    subst (λ (n : LaxNet). InsideBytes bytes [] n.layer n.inside.layer) (sym same)
    (net_layer_bytes bytes (arp_bytes part.0) part.1 (arp part.0) None (is.fits, refl)
    (is.parts ∙ ap (λ (x : List ℕ). x ++ part.1) (sym (append-nil (arp_bytes part.0)))) (no_transport_in []))
net_in_order reading offset outer (Some any_ip) bytes net (inl is) = ipv4_net_in_order reading offset outer bytes net is
net_in_order reading offset outer (Some any_ip) bytes net (inr is) = ipv6_net_in_order reading offset outer bytes net is

-- The bytes are a tag, its payload, and trailing bytes.
pub record TagBytes (bytes : List ℕ) (extension : LinkExtension) : Type 0 where
  pub tag : List ℕ
  pub left : List ℕ
  pub encodes : EncodesTag extension tag
  pub parts : bytes ≡ (tag ++ extension_payload extension) ++ left

pub tag_bytes : (outer : Bool) (type : EtherType) (bytes : List ℕ) (extension : LinkExtension × Bool)
    → IsLaxExtension outer type bytes extension → TagBytes bytes extension.0
tag_bytes outer type bytes (vlan tag payload, incomplete) is = record {
  tag = vlan_bytes tag;
  left = [];
  encodes = (is.1.fits, refl);
  parts = is.1.parts;
}
tag_bytes outer type bytes (macsec tag payload, incomplete) (of_type, (cut, is, payload_is, missing)) = record {
  tag = is.header.encoded;
  left = cut.left;
  encodes = is.header.encodes;
  parts = is.header.parts ∙ ap (λ (x : List ℕ). is.header.encoded ++ x) (is.cut.parts
      ∙ ap (λ (x : List ℕ). x ++ cut.left)
      (sym (ap macsec_payload_bytes payload_is ∙ payload_by_is tag.ptype cut.source cut.payload)))
      ∙ sym (append_assoc is.header.encoded (macsec_payload_bytes payload) cut.left);
}

pub extensions_in_order : (reading : Reading) (space offset : ℕ) (outer : Bool) (type : Option EtherType)
    (bytes : List ℕ) (extensions : List (LinkExtension × Bool)) (net : LaxNet)
    → IsLaxInsideIn reading space offset outer type bytes extensions net
    → InsideBytes bytes (map extension_in extensions) net.layer net.inside.layer
extensions_in_order reading space offset outer None bytes extensions net (no_tags, same) =
    subst (λ (x : List (LinkExtension × Bool)). InsideBytes bytes (map extension_in x) net.layer net.inside.layer)
    (sym no_tags)
    (no_net_in_order bytes net _ refl refl same)
extensions_in_order reading zero offset outer (Some type) bytes [] net is =
    net_in_order reading offset outer (net_kind type) bytes net is
extensions_in_order reading zero offset outer (Some type) bytes (extension ∷ others) net is = absurd is
extensions_in_order reading (suc space) offset outer (Some type) bytes [] net (inl is) =
    net_in_order reading offset outer (net_kind type) bytes net is.1
extensions_in_order reading (suc space) offset outer (Some type) bytes [] net (inr refused) =
    no_net_in_order bytes net _ refl refl refused.2
extensions_in_order reading (suc space) offset outer (Some type) bytes (extension ∷ others) net is =
    let are = tag_bytes outer type bytes extension is.0 in
    tagged_bytes bytes are.tag are.left extension.0 (map extension_in others) net.layer net.inside.layer are.encodes
    are.parts
    (extensions_in_order reading space (offset + link_ext_header_len (extension_header extension.0)) extension.1
    (extension_type extension.0) (extension_payload extension.0) others net is.1)

-- ---- the frame

pub lax_in_order : (reading : Reading) (entry : Entry) (bytes : List ℕ) (read : LaxLayers)
    → IsLaxIn reading entry bytes read → AreInOrder bytes (layers_in read)
lax_in_order reading ethernet bytes read (frame, is, link, inside) =
    frame_bytes bytes (ethernet2_bytes frame.header) frame.left (ethernet2 frame.header frame.payload)
    (layers_in read) (is.fits, refl) is.parts link
    (extensions_in_order reading most_link_exts ethernet2_header_len false (Some frame.header.ether_type) frame.payload
    read.link_exts read.net inside)
lax_in_order reading linux_sll bytes read (frame, is, link, inside) =
    frame_bytes bytes (linux_sll_bytes frame.header) frame.left (sll frame.header frame.payload)
    (layers_in read) (is.fits, refl) is.parts link
    (extensions_in_order reading most_link_exts linux_sll_header_len false
    (protocol_ether_type frame.header.protocol_type) frame.payload read.link_exts read.net inside)
lax_in_order reading (ether_type type) bytes read (link, inside) =
    frame_bytes bytes [] [] (ether_payload type source.Slice bytes) (layers_in read) refl
    (sym (append-nil bytes)) link
    (extensions_in_order reading most_link_exts 0 false (Some type) bytes read.link_exts read.net inside)
lax_in_order reading ip bytes read (no_link, no_tags, inl is) =
    ip_bytes bytes (layers_in read) (ipv4_layer is.0.packet) no_link (ap (map extension_in) no_tags)
    (λ i. (is.2.2 i).layer) (ipv4_net_in_order reading 0 false bytes read.net is)
lax_in_order reading ip bytes read (no_link, no_tags, inr is) =
    ip_bytes bytes (layers_in read) (ipv6_layer is.0.packet) no_link (ap (map extension_in) no_tags)
    (λ i. (is.2.2 i).layer) (ipv6_net_in_order reading 0 false bytes read.net is)
