-- Decoding a frame step by step, from the contracts of the layers' functions.
use Rattle.std.proofs.Common.{◌≡◌, ◌⊎◌, ℕ, zero, suc, ◌+◌, ◌≤◌, ◌<◌, ◌==◌, if◌then◌else◌, Bool, List, [], ◌∷◌, ◌++◌}
use Rattle.std.proofs.Common.{length, Option, Some, None, Result, refl, sym, ap, subst, ◌∙◌, inl, inr, arith, length-append}
use Rattle.std.specs.Option.{option_map}
use Rattle.std.specs.Prelude.{IfOk, IfErr}
use Rattle.std.proofs.Math.Dec.{eqb-suc-zero}
use Rattle.std.proofs.lemmas.List.{append-nil}
use Rattle.std.proofs.lemmas.Result.{IfOk-weaker, IfErr-weaker}
use Rattle.ep_base.specs.IpPayload.{IpPayload, ip_payload_of}
use Rattle.ep_base.specs.Readings.{headers}
use Rattle.ep_base.specs.Tables.{RefusesAs}
use Rattle.ep_base.specs.declared.err.ip.HeadersError.{HeadersError}
use Rattle.ep_base.specs.declared.err.ip.HeadersSliceError.{HeadersSliceError}
use Rattle.ep_base.specs.declared.err.ip.HeadersSliceError.TheVariants as headers_error
use Rattle.ep_base.specs.declared.err.ip.SliceError.TheVariants as slice_error
use Rattle.ep_base.specs.declared.ip_payload_slice.IpPayloadSlice.{IpPayloadSlice}
use Rattle.ep_link.specs.Arp.{Arp, IsArp}
use Rattle.ep_link.specs.EtherPayloads.{EtherPayload}
use Rattle.ep_link.specs.LinkSlices.{unlimited_ether_payload}
use Rattle.ep_link.specs.Macsec.{unmodified, modified}
use Rattle.ep_link.specs.declared.link_ext.link_ext_header.LinkExtHeader.{LinkExtHeader}
use Rattle.ep_link.specs.LinkExtensions.{LinkExtension, vlan, macsec, BeginsLinkExtension, extension_ether_payload}
use Rattle.ep_link.specs.LinkExtensions.{extension_payload, extension_type}
use Rattle.ep_link.specs.declared.link_ext.single_vlan_header.SingleVlanHeader.{SingleVlanHeader}
use Rattle.ep_ip.specs.declared.ipv4_header.Ipv4Header.{Ipv4Header}
use Rattle.ep_ip.specs.declared.ipv6_header.Ipv6Header.{Ipv6Header}
use Rattle.ep_ip.specs.IpPackets.{IpPacket, IpPart, IsIp, IsIpv4, IsIpv6, RefusesIp, ipv4_part, ipv6_part}
use Rattle.ep_ip.proofs.IpBytesLemmas.{ipv4_packet_bytes, ipv6_len, ipv6_packet_bytes}
use Rattle.ep_ip.specs.Ipv6.{ipv6_bytes}
use Rattle.ep_transport.specs.TransportParts.{TransportLayer}
use Rattle.ep_packet.specs.declared.err.slice_error.SliceError.{SliceError}
use Rattle.ep_packet.specs.declared.net_headers.NetHeaders.{NetHeaders}
use Rattle.ep_packet.specs.Layers.{NetLayer, arp, ip_layer, net_payload}
use Rattle.ep_packet.specs.Frame.{NetKind, any_ip, only_arp, net_kind, IsNetLayer, IsTransportAfterNet, IsTransportIn}
use Rattle.ep_packet.specs.IpHeaders.{ip_headers_of, ip_part_payload, of_slice_error}
use Rattle.ep_packet.specs.NetHeaders.{net_headers_of}
use Rattle.ep_packet.specs.PacketHeaders.{Headers, arp_packet, net_header_in, net_header_of, transport_header_in}
use Rattle.ep_packet.specs.PayloadParts.{PayloadPart, empty, ether, ip, innermost_part}
use Rattle.ep_packet.specs.FrameRefusals.{RefusesNetLayer, RefusesNetPart, RefusesTransportAfterNet, RefusesTransportIn}
use Rattle.ep_packet.specs.FrameRefusals.{ip_content_refusal, net_payload_offset}
use Rattle.ep_packet.proofs.WalkLemmas.{ends_at}
use Rattle.ep_packet.specs.HeadersWalk.{FillsInside, FillsNet, FillsIp, FillsTransport, with_net}
use Rattle.ep_packet.specs.declared.ip_headers.IpHeaders.{IpHeaders}
use Rattle.ep_packet.specs.declared.ip_headers.IpHeaders.TheVariants as variant

-- End of the bytes that the length field of the IP header counts, from the first byte of the header, in `len` bytes.
abbrev pub content_end : IpHeaders → ℕ → ℕ
content_end (variant.Ipv4 header extensions) len = header.total_len
content_end (variant.Ipv6 header extensions) len =
    if header.payload_length == 0 then len else 40 + header.payload_length

-- ---- IP packets

-- The payload of a packet is the payload of its network layer.
part_payload : (part : IpPart) → net_payload (ip_layer part) ≡ Some (ip_part_payload part)
part_payload (ipv4_part packet) = refl
part_payload (ipv6_part packet) = refl

-- The headers of a packet are the headers of its network layer.
part_headers : (part : IpPart) → net_header_of (net_headers_of (ip_headers_of part)) ≡ net_header_in (ip_layer part)
part_headers (ipv4_part packet) = refl
part_headers (ipv6_part packet) = refl

-- The payload after the transport layer of a packet is the last payload of its network layer.
part_innermost : (part : IpPart) (transport : Option TransportLayer)
    → innermost_part (ip (ip_part_payload part)) None transport
    ≡ innermost_part empty (Some (ip_layer part)) transport
part_innermost (ipv4_part packet) None = refl
part_innermost (ipv6_part packet) None = refl
part_innermost part (Some layer) = refl

-- Headers and payload decoded from a packet are those of the network layer.
pub fills_ip : (kind : NetKind) (bytes : List ℕ) (part : IpPart) (net : Option NetHeaders) (payload : IpPayload)
    (offset : ℕ) (old new : Headers)
    → IsNetLayer headers kind bytes (ip_layer part) → FillsIp part bytes net payload offset
    → FillsTransport payload (record old { net = option_map net_header_of net }) new
    → FillsNet (Some kind) bytes empty old new
fills_ip kind bytes part net payload offset old new is read fills =
    let layer = ip_layer part in
    let inside : IsTransportIn headers (ip_part_payload part) fills.transport =
    subst (λ (p : IpPayload). IsTransportIn headers p fills.transport) read.same_payload fills.part in
    let named : option_map net_header_of net ≡ Some (net_header_in layer) =
    ap (option_map net_header_of) read.filled ∙ ap Some (part_headers part) in
    record {
      net = Some layer;
      transport = fills.transport;
      part = (
        layer,
        is,
        refl,
        subst (λ (p : Option IpPayload). IsTransportAfterNet headers p fills.transport) (sym (part_payload part)) inside,
      );
      filled = fills.filled
          ∙ ap (λ n. record old {
            net = n;
            transport = option_map transport_header_in fills.transport;
            payload = innermost_part (ip payload) None fills.transport;
          }) named
          ∙ ap (λ (p : IpPayload). record old {
            net = Some (net_header_in layer);
            transport = option_map transport_header_in fills.transport;
            payload = innermost_part (ip p) None fills.transport;
          }) read.same_payload
          ∙ ap (λ (p : PayloadPart). record old {
            net = Some (net_header_in layer);
            transport = option_map transport_header_in fills.transport;
            payload = p;
          }) (part_innermost part fills.transport);
    }

-- ---- place of the payload of a packet

-- End of the content of an IPv6 packet: that of its payload length, or the end of the bytes if it is 0.
ipv6_end : (field len content : ℕ) (left : List ℕ) (sum : ℕ)
    → (((0 < field) × (field ≡ content)) ⊎ ((field ≡ 0) × (left ≡ []))) → len ≡ sum + length left
    → len ≡ 40 + content + length left → (if field == 0 then len else 40 + field) ≡ sum
ipv6_end zero len content left sum (inl cut) complete same = absurd (omega (arith, cut.0))
ipv6_end zero len content left sum (inr cut) complete same = omega (arith, complete, ap length cut.1)
ipv6_end (suc n) len content left sum (inl cut) complete same =
    ap (λ (b : Bool). if b then len else 40 + suc n) (eqb-suc-zero n) ∙ omega (arith, cut.1, complete, same)
ipv6_end (suc n) len content left sum (inr cut) complete same = absurd (omega (arith, cut.0))

-- The length of three consecutive lists is the sum of their lengths.
parts_len : (bytes prefix after left : List ℕ) (len : ℕ) → length prefix ≡ len → bytes ≡ (prefix ++ after) ++ left
    → length bytes ≡ (len + length after) + length left
parts_len bytes prefix after left len len_is parts =
    omega (arith, len_is, ap length parts, length-append (prefix ++ after) left, length-append prefix after)

ipv4_complete : (bytes : List ℕ) (packet : IpPacket Ipv4Header) → IsIpv4 headers bytes packet
    → length bytes ≡ (net_payload_offset (ip_layer (ipv4_part packet)) + length packet.payload.bytes) + length packet.left
ipv4_complete bytes packet is =
    let are = ipv4_packet_bytes headers bytes packet is in
    parts_len bytes are.headers packet.payload.bytes packet.left _ are.len_is are.parts

ipv6_complete : (bytes : List ℕ) (packet : IpPacket Ipv6Header) → IsIpv6 headers bytes packet
    → length bytes ≡ (net_payload_offset (ip_layer (ipv6_part packet)) + length packet.payload.bytes) + length packet.left
ipv6_complete bytes packet is =
    let are = ipv6_packet_bytes headers bytes packet is in
    parts_len bytes are.headers packet.payload.bytes packet.left _ are.len_is are.parts

-- The content of an IPv6 packet is the bytes after its header, without trailing bytes.
content_len : (bytes : List ℕ) (packet : IpPacket Ipv6Header) (is : IsIpv6 headers bytes packet)
    → length bytes ≡ (40 + length is.content) + length packet.left
content_len bytes packet is =
    parts_len bytes (ipv6_bytes packet.header) is.content packet.left 40 (ipv6_len packet.header is.cut.fits)
    is.cut.parts

-- The content of a packet is its headers and its payload.
part_content : (bytes : List ℕ) (part : IpPart) → IsIp headers bytes part
    → content_end (ip_headers_of part) (length bytes)
    ≡ net_payload_offset (ip_layer part) + length (ip_part_payload part).bytes
part_content bytes (ipv4_part packet) is =
    let cut = is.cut in
    omega (
      arith,
      cut.cut,
      ipv4_complete bytes packet is,
      parts_len bytes cut.encoded is.content packet.left (length cut.encoded) refl cut.parts,
    )
part_content bytes (ipv6_part packet) is =
    ipv6_end packet.header.payload_length (length bytes) (length is.content) packet.left
    (net_payload_offset (ip_layer (ipv6_part packet)) + length packet.payload.bytes) is.cut.cut
    (ipv6_complete bytes packet is) (content_len bytes packet is)

-- Headers and payload are at most as long as the bytes.
part_within : (bytes : List ℕ) (part : IpPart) → IsIp headers bytes part
    → net_payload_offset (ip_layer part) + length (ip_part_payload part).bytes ≤ length bytes
part_within bytes (ipv4_part packet) is = omega (arith, ipv4_complete bytes packet is)
part_within bytes (ipv6_part packet) is = omega (arith, ipv6_complete bytes packet is)

-- The bytes that the length field of an IP header counts are the headers and the payload.
pub after_headers : (bytes : List ℕ) (part : IpPart) (payload : IpPayloadSlice) → IsIp headers bytes part
    → ip_payload_of payload ≡ ip_part_payload part
    → content_end (ip_headers_of part) (length bytes) ≡ net_payload_offset (ip_layer part) + length payload.payload.now
after_headers bytes part payload is same =
    part_content bytes part is ∙ ap (λ (p : IpPayload). net_payload_offset (ip_layer part) + length p.bytes) (sym same)

-- The IPv6 header and its content are as long as the headers and the payload.
pub ipv6_content : (bytes : List ℕ) (packet : IpPacket Ipv6Header) (is : IsIpv6 headers bytes packet)
    → 40 + length is.content ≡ net_payload_offset (ip_layer (ipv6_part packet)) + length packet.payload.bytes
ipv6_content bytes packet is = omega (arith, ipv6_complete bytes packet is, content_len bytes packet is)

-- Headers and payload that were read from a packet were decoded.
pub fills_read : (bytes : List ℕ) (part : IpPart) (net : Option NetHeaders) (payload : IpPayloadSlice) (offset : ℕ)
    → IsIp headers bytes part → net ≡ Some (net_headers_of (ip_headers_of part))
    → ip_payload_of payload ≡ ip_part_payload part → offset ≡ net_payload_offset (ip_layer part)
    → FillsIp part bytes net (ip_payload_of payload) offset
fills_read bytes part net payload offset is filled same place = record {
  filled = filled;
  same_payload = same;
  place = place;
  within = omega (arith, place, part_within bytes part is);
}

-- An error of the transport layer in a packet is an error of the bytes.
pub ip_refused : (kind : NetKind) (bytes : List ℕ) (part : IpPart) (net : Option NetHeaders) (payload : IpPayload)
    (offset at place : ℕ) (error : SliceError)
    → IsNetLayer headers kind bytes (ip_layer part) → FillsIp part bytes net payload at → place ≡ offset + at
    → RefusesTransportIn headers place payload error
    → RefusesNetPart headers offset (Some kind) bytes error
ip_refused kind bytes part net payload offset at place error is read present refused =
    inr (
      ip_layer part,
      is,
      subst (λ (p : Option IpPayload). RefusesTransportAfterNet headers (offset + net_payload_offset (ip_layer part)) p error)
          (sym (part_payload part))
          (subst (λ (n : ℕ). RefusesTransportIn headers n (ip_part_payload part) error)
          (present ∙ ap (λ (n : ℕ). offset + n) read.place)
          (subst (λ (p : IpPayload). RefusesTransportIn headers place p error) read.same_payload refused)),
    )

-- The network layer is decoded if the transport layer in the payload of the packet is.
pub ip_filled : (kind : NetKind) (bytes : List ℕ) (part : IpPart) (net : Option NetHeaders) (payload : IpPayload)
    (offset : ℕ) (old new : Headers) (answer : Result (Unit {0}) SliceError)
    → IsNetLayer headers kind bytes (ip_layer part) → FillsIp part bytes net payload offset
    → IfOk answer (λ _. FillsTransport payload (record old { net = option_map net_header_of net }) new)
    → IfOk answer (λ _. FillsNet (Some kind) bytes empty old new)
ip_filled kind bytes part net payload offset old new answer is read =
    IfOk-weaker answer _ _ (λ done fills. fills_ip kind bytes part net payload offset old new is read fills)

-- An error of the transport layer in the payload of the packet is an error of the bytes.
pub ip_error : (kind : NetKind) (bytes : List ℕ) (part : IpPart) (net : Option NetHeaders) (payload : IpPayload)
    (offset at : ℕ) (answer : Result (Unit {0}) SliceError)
    → IsNetLayer headers kind bytes (ip_layer part) → FillsIp part bytes net payload at
    → IfErr answer (RefusesTransportIn headers (offset + at) payload)
    → IfErr answer (RefusesNetPart headers offset (Some kind) bytes)
ip_error kind bytes part net payload offset at answer is read =
    IfErr-weaker answer _ _ (λ error refused. ip_refused kind bytes part net payload offset at (offset + at) error is read
    refl refused)

-- An error of the content of the headers is an error of the bytes.
pub ip_content_refused : (bytes : List ℕ) (found : HeadersSliceError) (error : HeadersError)
    → RefusesAs of_slice_error (RefusesIp headers bytes) found → found ≡ headers_error.Content error
    → RefusesNetLayer headers any_ip 0 bytes (ip_content_refusal error)
ip_content_refused bytes found error (slice_error.Len refusal, refused, same) is = absurd (cc (sym same ∙ is))
ip_content_refused bytes found error (slice_error.IpHeaders refusal, refused, same) is =
    let inner : error ≡ refusal = cc (sym same ∙ is) in
    (slice_error.IpHeaders refusal, refused, ap ip_content_refusal inner)

-- ---- ARP, and no network layer

-- An ARP packet has no payload.
pub fills_arp : (bytes left : List ℕ) (packet : Arp) (old new : Headers) → IsArp bytes (packet, left)
    → new ≡ record old { net = Some (arp_packet packet); transport = None; payload = empty }
    → FillsNet (Some only_arp) bytes empty old new
fills_arp bytes left packet old new is filled = record {
  net = Some (arp packet);
  transport = None;
  part = (arp packet, ((packet, left), is, refl), refl, refl);
  filled = filled;
}

-- With a network layer, the last payload does not depend on `unread`.
pub net_innermost : (layer : NetLayer) (transport : Option TransportLayer) (unread other : PayloadPart)
    → innermost_part unread (Some layer) transport ≡ innermost_part other (Some layer) transport
net_innermost layer None unread other = refl
net_innermost layer (Some inside) unread other = refl

-- ---- link extensions

pub fills_no_more : (space : ℕ) (payload : EtherPayload) (old new : Headers)
    → ((space ≡ 0) ⊎ (¬ BeginsLinkExtension payload.ether_type))
    → FillsNet (net_kind payload.ether_type) payload.bytes (ether payload) old new → FillsInside space payload old new
fills_no_more space payload old new why fills = record {
  extensions = [];
  net = fills.net;
  transport = fills.transport;
  inside = ends_at headers space payload.ether_type payload.bytes why fills.net fills.transport fills.part;
  filled = fills.filled
      ∙ ap (λ (x : List LinkExtHeader). with_net (record old { link_exts = x }) (ether payload)
      fills.net fills.transport)
      (sym (append-nil old.link_exts));
}

-- Equal `Some` values contain equal payloads.
pub some_inside : (one other : EtherPayload) → Some one ≡ Some other → one ≡ other
some_inside one other same = cc same

-- A link extension's payload of known type has the extension's type and bytes.
pub typed_present : (extension : LinkExtension) (inside : EtherPayload)
    → extension_ether_payload extension ≡ Some inside
    → (extension_type extension ≡ Some inside.ether_type) × (extension_payload extension ≡ inside.bytes)
typed_present (vlan tag payload) inside same =
    let is = some_inside (unlimited_ether_payload payload tag.ether_type) inside same in
    (ap (λ (p : EtherPayload). Some p.ether_type) is, ap (λ (p : EtherPayload). p.bytes) is)
typed_present (macsec tag (unmodified type source bytes)) inside same =
    let is = some_inside (record { ether_type = type; len_source = source; bytes = bytes }) inside same in
    (ap (λ (p : EtherPayload). Some p.ether_type) is, ap (λ (p : EtherPayload). p.bytes) is)
typed_present (macsec tag (modified bytes)) inside same = absurd (cc same)

-- A link extension without a payload of known type has no type.
pub untyped_present : (extension : LinkExtension) → extension_ether_payload extension ≡ None
    → extension_type extension ≡ None
untyped_present (vlan tag payload) none = absurd (cc none)
untyped_present (macsec tag (unmodified type source bytes)) none = absurd (cc none)
untyped_present (macsec tag (modified bytes)) none = refl

-- ---- VLAN tags

-- The tags with an optional tag before them.
abbrev pub headers_with : Option SingleVlanHeader → List SingleVlanHeader → List SingleVlanHeader
headers_with None tags = tags
headers_with (Some tag) tags = tag ∷ tags
