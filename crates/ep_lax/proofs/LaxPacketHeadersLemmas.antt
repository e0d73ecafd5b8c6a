-- Reading a packet laxly into owned headers step by step, from the contracts of the layers' functions.
use Rattle.std.proofs.Common.{◌≡◌, ◌⊎◌, ℕ, zero, suc, ◌+◌, Bool, false, List, [], ◌∷◌, ◌++◌, length, map, drop, Option, Some, None, refl, sym, ap, subst, ◌∙◌, inl, inr, append_assoc, arith}
use Rattle.std.proofs.Math.Path.{transport}
use Rattle.std.proofs.lemmas.List.{append-nil, drop_at}
use Rattle.std.specs.Option.{option_map}
use Rattle.ep_base.specs.Bytes.{AreBytes}
use Rattle.ep_base.specs.IpPayload.{IpPayload, lax_ip_payload_of}
use Rattle.ep_base.specs.LaxCut.{LaxCut, IsLaxCut}
use Rattle.ep_base.specs.Readings.{headers}
use Rattle.ep_base.specs.declared.ether_type.EtherType.{EtherType}
use Rattle.ep_base.specs.declared.lax_ip_payload_slice.LaxIpPayloadSlice.{LaxIpPayloadSlice}
use Rattle.ep_base.specs.declared.len_source.LenSource.{LenSource}
use Rattle.ep_base.specs.declared.len_source.LenSource.TheVariants as source
use Rattle.ep_ext.specs.Chains.{IpVersion}
use Rattle.ep_ip.specs.IpPackets.{IpPacket, IpPart}
use Rattle.ep_ip.specs.LaxIp.{LaxIp}
use Rattle.ep_link.specs.LinkExtensions.{LinkExtension, BeginsLinkExtension, extension_header, extension_payload, extension_type, link_ext_header_len}
use Rattle.ep_link.specs.LinkSlices.{link_header_of, link_layer_of, protocol_payload, unlimited_ether_payload}
use Rattle.ep_link.specs.LinuxSll.{protocol_ether_type}
use Rattle.ep_link.specs.declared.link.linux_sll_protocol_type.LinuxSllProtocolType.{LinuxSllProtocolType}
use Rattle.ep_link.specs.declared.link_ext.link_ext_header.LinkExtHeader.{LinkExtHeader}
use Rattle.ep_transport.specs.TransportParts.{transport_layer}
use Rattle.ep_transport.specs.Udp.{IsUdpHeader, udp_bytes}
use Rattle.ep_transport.specs.declared.icmpv4_header.Icmpv4Header.{Icmpv4Header}
use Rattle.ep_transport.specs.declared.icmpv6_header.Icmpv6Header.{Icmpv6Header}
use Rattle.ep_transport.specs.declared.tcp_header.TcpHeader.{TcpHeader}
use Rattle.ep_transport.specs.declared.transport_header.TransportHeader.{TransportHeader}
use Rattle.ep_transport.specs.declared.transport_header.TransportHeader.TheVariants as header
use Rattle.ep_transport.specs.declared.udp_header.UdpHeader.{UdpHeader}
use Rattle.ep_packet.specs.declared.entry.Entry.{Entry}
use Rattle.ep_packet.specs.declared.entry.Entry.TheVariants.{Ethernet as ethernet, LinuxSll as linux_sll}
use Rattle.ep_packet.specs.declared.entry.Entry.TheVariants.{EtherType as ether_type, Ip as ip_entry}
use Rattle.ep_packet.specs.declared.err.slice_error.SliceError.{SliceError}
use Rattle.ep_packet.specs.declared.link_part.LinkPart.{LinkPart}
use Rattle.ep_packet.specs.declared.net_headers.NetHeaders.{NetHeaders}
use Rattle.ep_packet.specs.Frame.{NetKind, any_ip, net_kind, most_link_exts}
use Rattle.ep_packet.specs.FrameRefusals.{net_payload_offset}
use Rattle.ep_packet.specs.IpHeaders.{ip_headers_of, ip_part_payload}
use Rattle.ep_packet.specs.LaxIpHeaders.{FillsLaxIp}
use Rattle.ep_packet.specs.Layers.{NetLayer, ip_layer}
use Rattle.ep_packet.specs.LinkParts.{IsLinkStart, LinkStart, link_start_of}
use Rattle.ep_packet.specs.NetHeaders.{net_headers_of}
use Rattle.ep_packet.specs.PacketHeaders.{net_header_in, net_header_of, transport_header_in}
use Rattle.ep_lax.specs.Lax.{IsIpLayer, IsLimitedLaxly, IsLaxExtension, IsLaxIn, IsLaxInsideIn, IsLaxNetIn, RefusesLaxExtension, chain_refusal}
use Rattle.ep_lax.specs.LaxHeadersWalk.{AreAfterLink, AreReadLaxly, FillsLaxInside, FillsLaxNet, FillsLaxTransport, IsInIp, open_after, untyped_part, with_lax_net, with_lax_transport}
use Rattle.ep_lax.specs.LaxLayers.{LaxLayers, LaxNet, LaxTransport, error_with_layer, layer_cut, net_with, no_net, no_transport}
use Rattle.ep_lax.specs.LaxPacketHeaders.{LaxHeaders, lax_headers_in, tag_header_in}
use Rattle.ep_lax.specs.LaxPayloadParts.{LaxPayloadPart, empty, ether, icmpv4, icmpv6, ip, lax_innermost_part, lax_net_part, link_part, macsec_modified, open_part, sll_part, tagged_part, tcp, typed_part_or, udp}
use Rattle.ep_lax.specs.LaxPayloads.{LaxEtherPayload, extension_source, last_after, source_after, typed_payload}
use Rattle.ep_lax.specs.LaxWalk.{IsInIpPayload}
use Rattle.ep_lax.specs.StrictFrames.{extension_in}
use Rattle.ep_lax.proofs.LaxEntryLemmas.{lax_in_decided}
use Rattle.ep_lax.proofs.LaxLinkLemmas.{is_lax}
use Rattle.ep_lax.proofs.LaxNetLemmas.{after_is_inside}

-- ---- IP packets

-- Headers and payload that were read from an IP packet, and the transport layer in it, are its network layer.
pub lax_ip_filled : {Header : Type 0} (version : IpVersion) (layer_of : IpPacket Header → NetLayer)
    (part_of : IpPacket Header → IpPart) → ((packet : IpPacket Header) → ip_layer (part_of packet) ≡ layer_of packet)
    → ((packet : IpPacket Header) → ip_part_payload (part_of packet) ≡ packet.payload)
    → ((packet : IpPacket Header) → net_header_of (net_headers_of (ip_headers_of (part_of packet)))
    ≡ net_header_in (layer_of packet))
    → ((packet : IpPacket Header) (incomplete : Bool) → lax_net_part (layer_of packet) incomplete
    ≡ ip packet.payload incomplete)
    → (lax : LaxIp Header) (bytes : List ℕ) (offset at place : ℕ) (net : Option NetHeaders) (payload : LaxIpPayloadSlice)
    (found : Option SliceError) (unread : LaxPayloadPart) (old new : LaxHeaders)
    → FillsLaxIp (part_of lax.packet) lax.incomplete bytes net payload at → place ≡ offset + at
    → found ≡ option_map (chain_refusal version offset) lax.stop
    → FillsLaxTransport place (lax_ip_payload_of payload) payload.incomplete found
    (record old { net = option_map net_header_of net }) new
    → (result : LaxNet) × IsIpLayer version layer_of offset lax result × (new ≡ with_lax_net old unread result)
lax_ip_filled version layer_of part_of layers payloads heads nets lax bytes offset at place net payload found unread old
    new read present found_is fills =
    let packet = lax.packet in
    let layer = layer_of packet in
    let len = net_payload_offset layer in
    let inside = fills.inside in
    let place_is : place ≡ offset + len =
    present ∙ ap (λ (n : ℕ). offset + n) (read.place ∙ ap net_payload_offset (layers packet)) in
    let payload_is : lax_ip_payload_of payload ≡ packet.payload = read.same_payload ∙ payloads packet in
    let part : IsInIpPayload (offset + len) lax.incomplete packet.payload
    (option_map (chain_refusal version offset) lax.stop) inside =
    transport (λ i. IsInIpPayload (place_is i) (read.same_incomplete i) (payload_is i) (found_is i) inside) fills.part in
    let named : option_map net_header_of net ≡ Some (net_header_in layer) =
    ap (option_map net_header_of) read.filled ∙ ap Some (heads packet) in
    let outside : ip (lax_ip_payload_of payload) payload.incomplete ≡ lax_net_part layer lax.incomplete =
    (λ i. ip (payload_is i) (read.same_incomplete i)) ∙ sym (nets packet lax.incomplete) in (
      net_with layer lax.incomplete inside,
      (
        inside,
        after_is_inside version offset len lax.incomplete packet.payload lax.stop inside part,
        refl,
      ),
      fills.filled
          ∙ (λ i. with_lax_transport (record old { net = named i }) (outside i) inside),
    )

-- Reading stopped at an invalid header of the network layer.
pub net_stopped : (offset : ℕ) (outer : Bool) (kind : NetKind) (bytes : List ℕ) (unread : LaxPayloadPart)
    (old new : LaxHeaders) (error : SliceError)
    → IsLaxNetIn headers offset outer (Some kind) bytes (no_net outer (Some (error_with_layer error)))
    → new ≡ with_lax_net old unread (no_net outer (Some (error_with_layer error)))
    → FillsLaxNet offset outer (Some kind) bytes unread old new
net_stopped offset outer kind bytes unread old new error part filled =
    record { net = no_net outer (Some (error_with_layer error)); part = part; filled = filled }

-- ---- UDP

udp_bytes_len : (datagram : UdpHeader) → length (udp_bytes datagram) ≡ 8
udp_bytes_len datagram = refl

-- The bytes after a UDP header of 8 bytes.
pub after_udp : (bytes : List ℕ) (datagram : UdpHeader) (rest : List ℕ) → IsUdpHeader bytes (datagram, rest)
    → drop 8 bytes ≡ rest
after_udp bytes datagram rest is = ap (drop 8) is.parts ∙ drop_at (udp_bytes datagram) rest 8 (udp_bytes_len datagram)

-- ---- payload of a transport layer

-- The payload and the transport header, if any, before the rest of an IP payload.
abbrev pub ShowsPayload : IpPayload → Bool → List ℕ → Option TransportHeader → LaxPayloadPart → Type 0
ShowsPayload payload incomplete rest read shown =
    (inside : LaxTransport) × IsLimitedLaxly incomplete (option_map (λ h. transport_layer h rest) read) inside
    × IsInIp payload incomplete read shown inside

pub shows_none : (payload : IpPayload) (incomplete : Bool) (rest : List ℕ)
    → ShowsPayload payload incomplete rest None (ip payload incomplete)
shows_none payload incomplete rest =
    (no_transport incomplete None, refl, record { same_header = refl; same_payload = refl; no_stop = refl })

pub shows_tcp : (payload : IpPayload) (incomplete : Bool) (rest : List ℕ) (segment : TcpHeader)
    → ShowsPayload payload incomplete rest (Some (header.Tcp segment)) (tcp rest incomplete)
shows_tcp payload incomplete rest segment = (
  layer_cut (header.Tcp segment) rest incomplete,
  refl,
  record { same_header = refl; same_payload = refl; no_stop = refl },
)

pub shows_icmpv4 : (payload : IpPayload) (incomplete : Bool) (rest : List ℕ) (message : Icmpv4Header)
    → ShowsPayload payload incomplete rest (Some (header.Icmpv4 message)) (icmpv4 rest incomplete)
shows_icmpv4 payload incomplete rest message = (
  layer_cut (header.Icmpv4 message) rest incomplete,
  refl,
  record { same_header = refl; same_payload = refl; no_stop = refl },
)

pub shows_icmpv6 : (payload : IpPayload) (incomplete : Bool) (rest : List ℕ) (message : Icmpv6Header)
    → ShowsPayload payload incomplete rest (Some (header.Icmpv6 message)) (icmpv6 rest incomplete)
shows_icmpv6 payload incomplete rest message = (
  layer_cut (header.Icmpv6 message) rest incomplete,
  refl,
  record { same_header = refl; same_payload = refl; no_stop = refl },
)

pub shows_udp : (payload : IpPayload) (incomplete : Bool) (rest : List ℕ) (datagram : UdpHeader) (cut : LaxCut)
    (shown : LaxPayloadPart) → IsLaxCut 8 datagram.length source.UdpHeaderLen incomplete 8 rest cut
    → shown ≡ udp cut.payload cut.incomplete
    → ShowsPayload payload incomplete rest (Some (header.Udp datagram)) shown
shows_udp payload incomplete rest datagram cut shown is same = (
  layer_cut (header.Udp datagram) cut.payload cut.incomplete,
  (cut, is, refl),
  record { same_header = refl; same_payload = same; no_stop = refl },
)

-- ---- link extensions

-- Link extensions end at the greatest number, or at an ether type that is none of a link extension.
ends_laxly : (space offset : ℕ) (outer : Bool) (type : EtherType) (bytes : List ℕ) (net : LaxNet)
    → ((space ≡ 0) ⊎ (¬ BeginsLinkExtension type)) → IsLaxNetIn headers offset outer (net_kind type) bytes net
    → IsLaxInsideIn headers space offset outer (Some type) bytes [] net
ends_laxly zero offset outer type bytes net why is = is
ends_laxly (suc space) offset outer type bytes net (inl full) is = absurd (omega (arith, full))
ends_laxly (suc space) offset outer type bytes net (inr none) is = inl (none, is)

pub fills_no_more : (space offset : ℕ) (payload : LaxEtherPayload) (old new : LaxHeaders)
    → ((space ≡ 0) ⊎ (¬ BeginsLinkExtension payload.ether_type))
    → FillsLaxNet offset payload.incomplete (net_kind payload.ether_type) payload.bytes (ether payload) old new
    → FillsLaxInside space offset payload old new
fills_no_more space offset payload old new why fills = record {
  extensions = [];
  net = fills.net;
  inside = ends_laxly space offset payload.incomplete payload.ether_type payload.bytes fills.net why fills.part;
  filled = fills.filled
      ∙ ap (λ (x : List LinkExtHeader). with_lax_net (record old { link_exts = x }) (ether payload) fills.net)
      (sym (append-nil old.link_exts));
}

-- Reading stops at a rejected link extension.
pub fills_stopped : (space rest offset : ℕ) (payload : LaxEtherPayload) (error : SliceError) (old new : LaxHeaders)
    → space ≡ suc rest → RefusesLaxExtension offset payload.ether_type payload.bytes error
    → new ≡ with_lax_net old (ether payload) (no_net payload.incomplete (Some (error_with_layer error)))
    → FillsLaxInside space offset payload old new
fills_stopped space rest offset payload error old new more refused filled =
    let net = no_net payload.incomplete (Some (error_with_layer error)) in
    record {
      extensions = [];
      net = net;
      inside = subst (λ (n : ℕ). IsLaxInsideIn headers n offset payload.incomplete (Some payload.ether_type)
          payload.bytes [] net) (sym more) (inr (error, refused, refl));
      filled = filled
          ∙ ap (λ (x : List LinkExtHeader). with_lax_net (record old { link_exts = x }) (ether payload) net)
          (sym (append-nil old.link_exts));
    }

-- The payload after link extensions is the payload after the others in the payload of the first.
open_step : (payload inside : LaxEtherPayload) (tagged : LinkExtension × Bool) (others : List (LinkExtension × Bool))
    → extension_type tagged.0 ≡ Some inside.ether_type
    → inside ≡ typed_payload (extension_source payload.len_source tagged.0) tagged inside.ether_type
    → open_after inside others ≡ open_after payload (tagged ∷ others)
open_step payload inside tagged [] typed same =
    let end = extension_source payload.len_source tagged.0 in
    ap ether same
    ∙ ap (λ (t : Option EtherType). typed_part_or (macsec_modified (extension_payload tagged.0) tagged.1)
    (option_map (typed_payload end tagged) t)) (sym typed)
open_step payload inside tagged (next ∷ others) typed same =
    ap (λ (s : LenSource). tagged_part (source_after s (map extension_in (next ∷ others))) (last_after next others))
    (ap (λ (p : LaxEtherPayload). p.len_source) same)

-- The headers with the tag of a link extension appended.
abbrev pub with_tag : LaxHeaders → LinkExtension × Bool → LaxHeaders
with_tag old tagged = record old { link_exts = old.link_exts ++ tag_header_in tagged ∷ [] }

-- A link extension that was read, and the layers read in its payload, are the layers of the bytes.
pub fills_one : (space rest offset place : ℕ) (payload inside : LaxEtherPayload) (tagged : LinkExtension × Bool)
    (old middle new : LaxHeaders)
    → space ≡ suc rest → IsLaxExtension payload.incomplete payload.ether_type payload.bytes tagged
    → extension_type tagged.0 ≡ Some inside.ether_type
    → inside ≡ typed_payload (extension_source payload.len_source tagged.0) tagged inside.ether_type
    → place ≡ offset + link_ext_header_len (extension_header tagged.0) → middle ≡ with_tag old tagged
    → FillsLaxInside rest place inside middle new → FillsLaxInside space offset payload old new
fills_one space rest offset place payload inside tagged old middle new more is typed same place_is present after =
    let tags = map tag_header_in after.extensions in
    let incomplete : inside.incomplete ≡ tagged.1 = ap (λ (p : LaxEtherPayload). p.incomplete) same in
    let bytes : inside.bytes ≡ extension_payload tagged.0 = ap (λ (p : LaxEtherPayload). p.bytes) same in
    record {
      extensions = tagged ∷ after.extensions;
      net = after.net;
      inside = subst (λ (n : ℕ). IsLaxInsideIn headers n offset payload.incomplete (Some payload.ether_type)
          payload.bytes (tagged ∷ after.extensions) after.net) (sym more) (
            is,
            transport (λ i. IsLaxInsideIn headers rest (place_is i) (incomplete i) (sym typed i) (bytes i)
                after.extensions after.net) after.inside,
          );
      filled = after.filled
          ∙ ap (λ (h : LaxHeaders). with_lax_net (record h { link_exts = h.link_exts ++ tags })
          (open_after inside after.extensions) after.net) present
          ∙ ap (λ (x : List LinkExtHeader). with_lax_net (record old { link_exts = x })
          (open_after inside after.extensions) after.net)
          (append_assoc old.link_exts (tag_header_in tagged ∷ []) tags)
          ∙ ap (λ (p : LaxPayloadPart). with_lax_net
          (record old { link_exts = old.link_exts ++ map tag_header_in (tagged ∷ after.extensions) }) p after.net)
          (open_step payload inside tagged after.extensions typed same);
    }

-- A link extension that was read, with a payload of unknown type, is the layers of the bytes.
pub fills_modified : (space rest offset : ℕ) (payload : LaxEtherPayload) (tagged : LinkExtension × Bool)
    (old new : LaxHeaders)
    → space ≡ suc rest → IsLaxExtension payload.incomplete payload.ether_type payload.bytes tagged
    → extension_type tagged.0 ≡ None
    → new ≡ with_lax_net (with_tag old tagged) (macsec_modified (extension_payload tagged.0) tagged.1)
    (no_net tagged.1 None)
    → FillsLaxInside space offset payload old new
fills_modified space rest offset payload tagged old new more is none filled =
    let end = extension_source payload.len_source tagged.0 in
    let net = no_net tagged.1 None in
    record {
      extensions = tagged ∷ [];
      net = net;
      inside = subst (λ (n : ℕ). IsLaxInsideIn headers n offset payload.incomplete (Some payload.ether_type)
          payload.bytes (tagged ∷ []) net) (sym more) (
            is,
            subst (λ (t : Option EtherType). IsLaxInsideIn headers rest
                (offset + link_ext_header_len (extension_header tagged.0)) tagged.1 t (extension_payload tagged.0) [] net)
                (sym none) (refl, refl),
          );
      filled = filled
          ∙ ap (λ (t : Option EtherType). with_lax_net (with_tag old tagged)
          (typed_part_or (macsec_modified (extension_payload tagged.0) tagged.1)
          (option_map (typed_payload end tagged) t)) net) (sym none);
    }

-- ---- link layer

-- The payload of this type that starts a packet after its link layer.
abbrev pub first_payload : EtherType → List ℕ → LaxEtherPayload
first_payload type bytes =
    record { ether_type = type; len_source = source.Slice; bytes = bytes; incomplete = false }

same_type : (one other : EtherType) → Some one ≡ Some other → one ≡ other
same_type one other same = cc same

sll_typed : (protocol : LinuxSllProtocolType) (payload : List ℕ) (type : EtherType)
    → protocol_ether_type protocol ≡ Some type
    → sll_part protocol payload (protocol_payload protocol payload) ≡ ether (first_payload type payload)
sll_typed protocol payload type same =
    ap (λ (t : Option EtherType). sll_part protocol payload (option_map (unlimited_ether_payload payload) t)) same

-- The payload of a link layer of known type.
link_typed : (entry : Entry) (bytes : List ℕ) (prefix : LinkStart) (type : EtherType) → IsLinkStart entry bytes prefix
    → prefix.type ≡ Some type → link_part (Some prefix.link) ≡ ether (first_payload type prefix.payload)
link_typed ethernet bytes prefix type is typed =
    let frame = is.0 in
    let same = same_type frame.header.ether_type type (sym (ap (λ (f : LinkStart). f.type) is.2) ∙ typed) in
    ap (λ (f : LinkStart). link_part (Some f.link)) is.2
    ∙ ap (λ (t : EtherType). ether (first_payload t frame.payload)) same
    ∙ ap (λ (b : List ℕ). ether (first_payload type b)) (sym (ap (λ (f : LinkStart). f.payload) is.2))
link_typed linux_sll bytes prefix type is typed =
    let frame = is.0 in
    let same = sym (ap (λ (f : LinkStart). f.type) is.2) ∙ typed in
    ap (λ (f : LinkStart). link_part (Some f.link)) is.2
    ∙ sll_typed frame.header.protocol_type frame.payload type same
    ∙ ap (λ (b : List ℕ). ether (first_payload type b)) (sym (ap (λ (f : LinkStart). f.payload) is.2))
link_typed (ether_type given) bytes prefix type is typed =
    let same = same_type given type (sym (ap (λ (f : LinkStart). f.type) is) ∙ typed) in
    ap (λ (f : LinkStart). link_part (Some f.link)) is
    ∙ ap (λ (t : EtherType). ether (first_payload t bytes)) same
    ∙ ap (λ (b : List ℕ). ether (first_payload type b)) (sym (ap (λ (f : LinkStart). f.payload) is))
link_typed ip_entry bytes prefix type is typed = absurd is

-- The payload of a link layer of unknown type.
link_untyped : (entry : Entry) (bytes : List ℕ) (prefix : LinkStart) → IsLinkStart entry bytes prefix
    → prefix.type ≡ None → link_part (Some prefix.link) ≡ untyped_part prefix.link
link_untyped ethernet bytes prefix is none =
    absurd (let one = sym (ap (λ (f : LinkStart). f.type) is.2) ∙ none in cc)
link_untyped linux_sll bytes prefix is none =
    let frame = is.0 in
    let none_present = sym (ap (λ (f : LinkStart). f.type) is.2) ∙ none in
    ap (λ (f : LinkStart). link_part (Some f.link)) is.2
    ∙ ap (λ (t : Option EtherType). sll_part frame.header.protocol_type frame.payload
    (option_map (unlimited_ether_payload frame.payload) t)) none_present
    ∙ ap (λ (f : LinkStart). untyped_part f.link) (sym is.2)
link_untyped (ether_type given) bytes prefix is none =
    absurd (let one = sym (ap (λ (f : LinkStart). f.type) is) ∙ none in cc)
link_untyped ip_entry bytes prefix is none = absurd is

-- The payload after the link layer and its extensions.
open_after_link : (prefix : LinkStart) (type : EtherType) (extensions : List (LinkExtension × Bool))
    → link_part (Some prefix.link) ≡ ether (first_payload type prefix.payload)
    → open_after (first_payload type prefix.payload) extensions ≡ open_part (Some prefix.link) extensions
open_after_link prefix type [] same = sym same
open_after_link prefix type (first ∷ others) same = refl

-- The headers of a packet that begins with a link layer of known type.
pub link_filled : (part : LinkPart) (type : EtherType) (old new : LaxHeaders) → part.ether_type ≡ Some type
    → old.link ≡ link_header_of (link_layer_of part.link) → old.link_exts ≡ []
    → FillsLaxInside most_link_exts part.offset (first_payload type part.slice.now) old new → AreAfterLink part new
link_filled part type old new typed link none fills = λ entry bytes begins.
    let prefix = link_start_of part in
    let extensions = fills.extensions in
    let net = fills.net in
    let layers : LaxLayers = record { link = Some prefix.link; link_exts = extensions; net = net } in
    let opened = open_after_link prefix type extensions (link_typed entry bytes prefix type begins.is typed) in (
      layers,
      is_lax headers entry bytes prefix layers begins.is refl
          (subst (λ (t : Option EtherType). IsLaxInsideIn headers most_link_exts part.offset false t part.slice.now
          extensions net) (sym typed) fills.inside),
      fills.filled
          ∙ (λ i. record {
            link = link i;
            link_exts = none i ++ map tag_header_in extensions;
            net = option_map net_header_in net.layer;
            transport = option_map transport_header_in net.inside.layer;
            payload = lax_innermost_part (opened i) net;
            stop = net.inside.stop;
          }),
    )

-- The headers of a packet that begins with a link layer of unknown type.
pub link_untyped_filled : (part : LinkPart) (old new : LaxHeaders) → part.ether_type ≡ None
    → old.link ≡ link_header_of (link_layer_of part.link) → old.link_exts ≡ []
    → new ≡ with_lax_net old (untyped_part (link_layer_of part.link)) (no_net false None) → AreAfterLink part new
link_untyped_filled part old new untyped link none filled = λ entry bytes begins.
    let prefix = link_start_of part in
    let net = no_net false None in
    let layers : LaxLayers = record { link = Some prefix.link; link_exts = []; net = net } in (
      layers,
      is_lax headers entry bytes prefix layers begins.is refl
          (subst (λ (t : Option EtherType). IsLaxInsideIn headers most_link_exts part.offset false t part.slice.now [] net)
          (sym untyped) (refl, refl)),
      filled
          ∙ (λ i. record {
            link = link i;
            link_exts = none i;
            net = None;
            transport = None;
            payload = sym (link_untyped entry bytes prefix begins.is untyped) i;
            stop = None;
          }),
    )

-- The headers of an IP packet without a link layer.
pub ip_filled : (bytes : List ℕ) (old new : LaxHeaders) → old.link ≡ None → old.link_exts ≡ []
    → FillsLaxNet 0 false (Some any_ip) bytes empty old new → AreReadLaxly ip_entry bytes new
ip_filled bytes old new link none fills =
    let net = fills.net in
    let layers : LaxLayers = record { link = None; link_exts = []; net = net } in (
      layers,
      (refl, refl, fills.part),
      fills.filled
          ∙ (λ i. record {
            link = link i;
            link_exts = none i;
            net = option_map net_header_in net.layer;
            transport = option_map transport_header_in net.inside.layer;
            payload = lax_innermost_part empty net;
            stop = net.inside.stop;
          }),
    )

-- Headers that were read are those of each packet of the bytes, since there is only one.
pub only_read : (entry : Entry) (bytes : List ℕ) → AreBytes bytes → (read : LaxHeaders)
    → AreReadLaxly entry bytes read → (layers : LaxLayers) → IsLaxIn headers entry bytes layers
    → read ≡ lax_headers_in layers
only_read entry bytes fits read found layers is =
    found.2 ∙ ap lax_headers_in ((lax_in_decided headers entry bytes fits).one_value found.0 layers found.1 is)
