-- A frame is sliced laxly into its layers, none of its payloads is incomplete, and slicing does not stop at an error.
use Rattle.std.proofs.Common.{◌≡◌, ◌==◌, ◌&&◌, nat_lt, if◌then◌else◌, ℕ, zero, suc, ◌+◌, ◌<◌, Bool, true, false, List, [], ◌∷◌, ◌++◌, map, length, Option, Some, None, refl, sym, ap, subst, ◌∙◌, inl, inr, append_assoc, length-append, arith}
use Rattle.std.proofs.lemmas.Bool.{ne_eqb}
use Rattle.std.proofs.lemmas.Grind.{common_steps}
use Rattle.ep_base.specs.IpPayload.{IpPayload}
use Rattle.ep_base.specs.LaxCut.{LaxCut, IsLaxCut}
use Rattle.ep_base.specs.Readings.{headers, slices}
use Rattle.ep_base.specs.Tables.{Parts, parts_of}
use Rattle.ep_base.specs.declared.ether_type.EtherType.{EtherType}
use Rattle.ep_base.specs.declared.len_source.LenSource.{LenSource}
use Rattle.ep_base.specs.declared.len_source.LenSource.TheVariants as source
use Rattle.ep_base.proofs.LaxCutLemmas.{cut_present, cut_nowhere}
use Rattle.ep_ext.specs.Chains.{chain_of}
use Rattle.ep_ip.specs.declared.ipv4_header.Ipv4Header.{Ipv4Header}
use Rattle.ep_ip.specs.declared.ipv6_header.Ipv6Header.{Ipv6Header}
use Rattle.ep_ip.specs.IpPackets.{IpPacket, IpPart, ipv4_part, ipv6_part, IsIp, IsIpv4, IsIpv6}
use Rattle.ep_ip.specs.Ipv4.{IsIpv4Header, IsIpv4Packet, ipv4_header_len}
use Rattle.ep_ip.specs.Ipv6.{IsIpv6Header, IsIpv6Packet, ipv6_bytes, ipv6_payload_source}
use Rattle.ep_ip.proofs.IpBytesLemmas.{encoded_len}
use Rattle.ep_link.specs.LinkExtensions.{LinkExtension, vlan, macsec, IsLinkExtension, extension_header, extension_payload, extension_type, link_ext_header_len}
use Rattle.ep_link.specs.Ethernet2.{ethernet2_header_len}
use Rattle.ep_link.specs.LinkSlices.{LinkLayer}
use Rattle.ep_link.specs.LinuxSll.{linux_sll_header_len, protocol_ether_type}
use Rattle.ep_link.specs.Macsec.{IsMacsecHeader, macsec_header_len, macsec_len_source, macsec_payload_bytes, payload_by, sci_len}
use Rattle.ep_link.specs.Vlan.{IsVlan}
use Rattle.ep_transport.specs.declared.transport_header.TransportHeader.{TransportHeader}
use Rattle.ep_transport.specs.declared.transport_header.TransportHeader.TheVariants as header
use Rattle.ep_transport.specs.TransportParts.{TransportLayer, transport_layer, IsTransportLayer}
use Rattle.ep_transport.specs.Udp.{IsUdpHeader, udp_bytes}
use Rattle.ep_packet.specs.declared.entry.Entry.{Entry}
use Rattle.ep_packet.specs.declared.entry.Entry.TheVariants.{Ethernet as ethernet, LinuxSll as linux_sll, EtherType as ether_type, Ip as ip}
use Rattle.ep_packet.specs.Frame.{NetKind, only_ipv4, only_ipv6, only_arp, any_ip, net_kind, most_link_exts, IsFrame, IsInside, IsNetPart, IsTransportAfterNet, IsTransportIn}
use Rattle.ep_packet.specs.FrameRefusals.{net_payload_offset}
use Rattle.ep_packet.specs.Layers.{Layers, NetLayer, arp, ip_layer, ipv4_layer, ipv6_layer, net_payload}
use Rattle.ep_ip.specs.LaxIp.{LaxIp, IsLaxIpv4, IsLaxIpv6, lax_ipv6_source}
use Rattle.ep_lax.specs.LaxLayers.{LaxLayers, LaxNet, LaxTransport, net_with, no_net}
use Rattle.ep_lax.specs.LaxMacsec.{macsec_stated_len}
use Rattle.ep_lax.specs.Lax.{IsHeaderLimitedLaxly, IsLaxTransport, IsIpv4Net, IsIpv6Net, IsLaxNet, IsLaxExtension, IsLaxInside, IsLax, arp_net}
use Rattle.ep_lax.specs.StrictFrames.{AreWhole, IsWhole, extension_in, layers_in}

-- ---- transport layer

-- A transport layer, or none, with complete payload.
abbrev complete_transport : Option TransportLayer → LaxTransport
complete_transport layer = record { layer = layer; incomplete = false; stop = None }

-- No length field of 0 is above the available bytes.
none_more : (n : ℕ) → nat_lt n 0 ≡ false
none_more n = grind (arith, common_steps)

layer_is_cut : (number : ℕ) (bytes : List ℕ) (h : TransportHeader) (payload : List ℕ)
    → IsTransportLayer slices number bytes h payload
    → (all : List ℕ) × IsTransportLayer headers number bytes h all
    × IsHeaderLimitedLaxly false h all (complete_transport (Some (transport_layer h payload)))
layer_is_cut number bytes (header.Udp udp) payload is =
    let left = is.1.0 in
    let datagram = is.1.1 in
    let holds : IsUdpHeader bytes (udp, payload ++ left) = record {
      fits = datagram.fits;
      parts = datagram.parts ∙ append_assoc (udp_bytes udp) payload left;
    } in
    elim datagram.cut [
      | inl stated ↦ (
        payload ++ left,
        (is.0, holds),
        (
          record { payload = payload; left = left; source = source.UdpHeaderLen; incomplete = false },
          cut_present 8 udp.length source.UdpHeaderLen false 8 payload left (omega arith)
              (omega (arith, length-append payload left)) (sym stated),
          refl,
        ),
      )
      | inr complete ↦
          let more = nat_lt (8 + length (payload ++ left)) udp.length in
          let none : more ≡ false =
          ap (nat_lt (8 + length (payload ++ left))) complete.0 ∙ none_more (8 + length (payload ++ left)) in (
            payload ++ left,
            (is.0, holds),
            (
              record { payload = payload; left = left; source = source.Slice; incomplete = more },
              cut_nowhere 8 udp.length source.UdpHeaderLen false 8 payload left (inl (omega (arith, complete.0)))
                  (ap length complete.1),
              λ i. record {
                layer = Some (transport_layer (header.Udp udp) payload);
                incomplete = sym none i;
                stop = None;
              },
            ),
          )
    ]
layer_is_cut number bytes (header.Tcp tcp) payload is = (payload, is, refl)
layer_is_cut number bytes (header.Icmpv4 icmp) payload is = (payload, is, refl)
layer_is_cut number bytes (header.Icmpv6 icmp) payload is = (payload, is, refl)

transport_is_complete : (offset : ℕ) (payload : IpPayload) (transport : Option TransportLayer)
    → IsTransportIn slices payload transport → IsLaxTransport offset false payload (complete_transport transport)
transport_is_complete offset payload None is = inr (None, is, refl)
transport_is_complete offset payload (Some layer) is =
    let cut = layer_is_cut payload.number payload.bytes layer.header layer.payload is.1 in
    inr (Some (transport_layer layer.header cut.0), (is.0, cut.1), cut.2)

-- ---- network layer

-- A complete packet.
abbrev complete_ip : {Header : Type 0} → IpPacket Header → LaxIp Header
complete_ip packet = record { packet = packet; incomplete = false; stop = None }

-- Limited bytes that are complete.
abbrev pub complete_cut : List ℕ → List ℕ → LenSource → LaxCut
complete_cut payload left end = record { payload = payload; left = left; source = end; incomplete = false }

-- The header of an IPv4 packet is valid, and its total length applies.
pub ipv4_cuts : (bytes : List ℕ) (packet : Parts Ipv4Header) → IsIpv4Packet bytes packet
    → IsIpv4Header bytes (packet.header, packet.payload ++ packet.left)
    × IsLaxCut (ipv4_header_len packet.header) packet.header.total_len source.Ipv4HeaderTotalLen false
    (ipv4_header_len packet.header) (packet.payload ++ packet.left)
    (complete_cut packet.payload packet.left source.Ipv4HeaderTotalLen)
ipv4_cuts bytes packet is =
    let n = ipv4_header_len packet.header in
    let len = encoded_len is.encoded packet.header is.encodes in
    let stated : n + length packet.payload ≡ packet.header.total_len = omega (arith, is.cut, len) in (
      record {
        encoded = is.encoded;
        encodes = is.encodes;
        parts = is.parts ∙ append_assoc is.encoded packet.payload packet.left;
      },
      cut_present n packet.header.total_len source.Ipv4HeaderTotalLen false n packet.payload packet.left
          (omega (arith, stated)) (omega (arith, stated, length-append packet.payload packet.left)) stated,
    )

ipv4_is_complete : (bytes : List ℕ) (packet : IpPacket Ipv4Header) → IsIpv4 slices bytes packet
    → IsLaxIpv4 false bytes (complete_ip packet)
ipv4_is_complete bytes packet is =
    let read = ipv4_cuts bytes (parts_of packet.header is.content packet.left) is.cut in (
      (packet.header, is.content ++ packet.left),
      read.0,
      record {
        cut = complete_cut is.content packet.left source.Ipv4HeaderTotalLen;
        chain = chain_of packet.extensions packet.payload.number packet.payload.bytes;
        refused = None;
        cuts = read.1;
        is_chain = is.chain;
        is = λ i. record {
          packet = record packet {
            payload = record packet.payload { fragmented = is.fragmented i; source = is.source i };
          };
          incomplete = false;
          stop = None;
        };
      },
    )

-- The source of the length of a payload with a stated length.
reported_source : (length_is_0 : Bool) (some : Bool) (named : LenSource) → length_is_0 ≡ false → (end : LenSource)
    → end ≡ (if length_is_0 && some then source.Slice else named)
    → end ≡ (if length_is_0 then (if length_is_0 && some then source.Slice else named) else named)
reported_source true some named untrue end same = cc untrue
reported_source false some named untrue end same = same

-- The source of the length of a payload without a stated length.
untold_source : (length_is_0 : Bool) (same other end : LenSource) → length_is_0 ≡ true → end ≡ same
    → end ≡ (if length_is_0 then same else other)
untold_source true same other end true_is is = is
untold_source false same other end true_is is = cc true_is

-- The header of an IPv6 packet is valid, and its payload length applies, or is 0 and leaves no trailing bytes.
pub ipv6_cuts : (bytes : List ℕ) (packet : Parts Ipv6Header) → IsIpv6Packet bytes packet
    → IsIpv6Header bytes (packet.header, packet.payload ++ packet.left)
    × ((end : LenSource)
    × IsLaxCut 41 (40 + packet.header.payload_length) source.Ipv6HeaderPayloadLen false 40
    (packet.payload ++ packet.left) (complete_cut packet.payload packet.left end)
    × (ipv6_payload_source packet.header packet.payload
    ≡ lax_ipv6_source packet.header (complete_cut packet.payload packet.left end)))
ipv6_cuts bytes packet is =
    let h = packet.header in
    let stated = 40 + h.payload_length in
    let present = 40 + length (packet.payload ++ packet.left) in
    let holds : IsIpv6Header bytes (h, packet.payload ++ packet.left) = record {
      fits = is.fits;
      parts = is.parts ∙ append_assoc (ipv6_bytes h) packet.payload packet.left;
    } in
    let end = ipv6_payload_source h packet.payload in
    elim is.cut [
      | inl some ↦
          let not_0 : (h.payload_length == 0) ≡ false = grind (arith, common_steps) in (
            holds,
            (
              source.Ipv6HeaderPayloadLen,
              cut_present 41 stated source.Ipv6HeaderPayloadLen false 40 packet.payload packet.left (omega arith)
                  (omega (arith, length-append packet.payload packet.left)) (omega arith),
              reported_source (h.payload_length == 0) (nat_lt 0 (length packet.payload)) source.Ipv6HeaderPayloadLen
                  not_0 end refl,
            ),
          )
      | inr none ↦
          let no_more : nat_lt present stated ≡ false =
          ap (λ (n : ℕ). nat_lt present (40 + n)) none.0 ∙ past_header (length (packet.payload ++ packet.left)) in
          let is_0 : (h.payload_length == 0) ≡ true = ap (λ (n : ℕ). n == 0) none.0 in (
            holds,
            (
              source.Slice,
              subst (λ (more : Bool). IsLaxCut 41 stated source.Ipv6HeaderPayloadLen false 40
                  (packet.payload ++ packet.left) (record (complete_cut packet.payload packet.left source.Slice) {
                    incomplete = more;
                  })) no_more (cut_nowhere 41 stated source.Ipv6HeaderPayloadLen false 40 packet.payload packet.left
                  (inl (omega (arith, none.0))) (ap length none.1)),
              untold_source (h.payload_length == 0) end source.Slice end is_0 refl,
            ),
          )
    ]
  where
    past_header : (n : ℕ) → nat_lt (40 + n) (40 + 0) ≡ false
    past_header n = grind (arith, common_steps)

ipv6_is_complete : (bytes : List ℕ) (packet : IpPacket Ipv6Header) → IsIpv6 slices bytes packet
    → IsLaxIpv6 false bytes (complete_ip packet)
ipv6_is_complete bytes packet is =
    let read = ipv6_cuts bytes (parts_of packet.header is.content packet.left) is.cut in
    let end = is.source ∙ read.1.2 in (
      (packet.header, is.content ++ packet.left),
      read.0,
      record {
        cut = complete_cut is.content packet.left read.1.0;
        chain = chain_of packet.extensions packet.payload.number packet.payload.bytes;
        refused = None;
        cuts = read.1.1;
        is_chain = is.chain;
        is = λ i. record {
          packet = record packet {
            payload = record packet.payload { fragmented = is.fragmented i; source = end i };
          };
          incomplete = false;
          stop = None;
        };
      },
    )

-- The network layer of a complete packet, with the layers in it.
pub ipv4_net_with : (offset : ℕ) (bytes : List ℕ) (packet : IpPacket Ipv4Header) (inside : LaxTransport)
    → IsIpv4 slices bytes packet
    → IsLaxTransport (offset + net_payload_offset (ipv4_layer packet)) false packet.payload inside
    → IsIpv4Net offset false bytes (net_with (ipv4_layer packet) false inside)
ipv4_net_with offset bytes packet inside is read =
    (complete_ip packet, ipv4_is_complete bytes packet is, (inside, read, refl))

pub ipv6_net_with : (offset : ℕ) (bytes : List ℕ) (packet : IpPacket Ipv6Header) (inside : LaxTransport)
    → IsIpv6 slices bytes packet
    → IsLaxTransport (offset + net_payload_offset (ipv6_layer packet)) false packet.payload inside
    → IsIpv6Net offset false bytes (net_with (ipv6_layer packet) false inside)
ipv6_net_with offset bytes packet inside is read =
    (complete_ip packet, ipv6_is_complete bytes packet is, (inside, read, refl))

-- A complete network layer with a transport layer or none.
abbrev complete_net : NetLayer → Option TransportLayer → LaxNet
complete_net layer transport = net_with layer false (complete_transport transport)

ipv4_net : (offset : ℕ) (bytes : List ℕ) (packet : IpPacket Ipv4Header) (transport : Option TransportLayer)
    → IsIpv4 slices bytes packet → IsTransportIn slices packet.payload transport
    → IsIpv4Net offset false bytes (complete_net (ipv4_layer packet) transport)
ipv4_net offset bytes packet transport is inside =
    ipv4_net_with offset bytes packet (complete_transport transport) is
    (transport_is_complete (offset + net_payload_offset (ipv4_layer packet)) packet.payload transport inside)

ipv6_net : (offset : ℕ) (bytes : List ℕ) (packet : IpPacket Ipv6Header) (transport : Option TransportLayer)
    → IsIpv6 slices bytes packet → IsTransportIn slices packet.payload transport
    → IsIpv6Net offset false bytes (complete_net (ipv6_layer packet) transport)
ipv6_net offset bytes packet transport is inside =
    ipv6_net_with offset bytes packet (complete_transport transport) is
    (transport_is_complete (offset + net_payload_offset (ipv6_layer packet)) packet.payload transport inside)

-- Facts about a network layer sliced laxly.
record IsCompleteNet (offset : ℕ) (kind : Option NetKind) (bytes : List ℕ) (net : Option NetLayer)
    (transport : Option TransportLayer) : Type 0 where
  read : LaxNet
  is : IsLaxNet offset false kind bytes read
  layer : read.layer ≡ net
  inside : read.inside ≡ complete_transport transport
  whole : read.incomplete ≡ false

-- Facts about the network layer of an IP packet.
complete_one : (offset : ℕ) (kind : Option NetKind) (bytes : List ℕ) (layer found : NetLayer) (net : Option NetLayer)
    (transport : Option TransportLayer) → layer ≡ found → net ≡ Some layer
    → IsLaxNet offset false kind bytes (complete_net found transport) → IsCompleteNet offset kind bytes net transport
complete_one offset kind bytes layer found net transport same filled is = record {
  read = complete_net found transport;
  is = is;
  layer = ap Some (sym same) ∙ sym filled;
  inside = refl;
  whole = refl;
}

-- The layers in the payload of a layer are those in the payload of an equal layer.
inside_found : (layer found : NetLayer) (transport : Option TransportLayer) → layer ≡ found
    → IsTransportAfterNet slices (net_payload layer) transport → IsTransportAfterNet slices (net_payload found) transport
inside_found layer found transport same inside =
    subst (λ (l : NetLayer). IsTransportAfterNet slices (net_payload l) transport) same inside

net_is_complete : (offset : ℕ) (kind : Option NetKind) (bytes : List ℕ) (net : Option NetLayer)
    (transport : Option TransportLayer) → IsNetPart slices kind bytes net transport
    → IsCompleteNet offset kind bytes net transport
net_is_complete offset None bytes net transport part = record {
  read = no_net false None;
  is = refl;
  layer = sym part.0;
  inside = λ i. complete_transport (sym part.1 i);
  whole = refl;
}
net_is_complete offset (Some only_ipv4) bytes net transport part =
    let layer = ipv4_layer part.1.0 in
    complete_one offset (Some only_ipv4) bytes part.0 layer net transport part.1.2 part.2
    (inr (ipv4_net offset bytes part.1.0 transport part.1.1 (inside_found part.0 layer transport part.1.2 part.3)))
net_is_complete offset (Some only_ipv6) bytes net transport part =
    let layer = ipv6_layer part.1.0 in
    complete_one offset (Some only_ipv6) bytes part.0 layer net transport part.1.2 part.2
    (inr (ipv6_net offset bytes part.1.0 transport part.1.1 (inside_found part.0 layer transport part.1.2 part.3)))
net_is_complete offset (Some only_arp) bytes net transport part = record {
  read = arp_net part.1.0.0;
  is = inr (part.1.0, part.1.1, refl);
  layer = ap Some (sym part.1.2) ∙ sym part.2;
  inside = λ i. complete_transport (sym (inside_found part.0 (arp part.1.0.0) transport part.1.2 part.3) i);
  whole = refl;
}
net_is_complete offset (Some any_ip) bytes net transport part = open_version part.1.0 part.1.1 part.1.2
  where
    open_version : (found : IpPart) → IsIp slices bytes found → part.0 ≡ ip_layer found
        → IsCompleteNet offset (Some any_ip) bytes net transport
    open_version (ipv4_part packet) is same =
        complete_one offset (Some any_ip) bytes part.0 (ipv4_layer packet) net transport same part.2
        (inl (ipv4_net offset bytes packet transport is
        (inside_found part.0 (ipv4_layer packet) transport same part.3)))
    open_version (ipv6_part packet) is same =
        complete_one offset (Some any_ip) bytes part.0 (ipv6_layer packet) net transport same part.2
        (inr (ipv6_net offset bytes packet transport is
        (inside_found part.0 (ipv6_layer packet) transport same part.3)))

-- ---- link extensions

-- A complete link extension.
abbrev pub complete_extension : LinkExtension → LinkExtension × Bool
complete_extension extension = (extension, false)

-- The value of a short length other than 0.
pub says_some : (short more : ℕ) → 0 < short → (if short == 0 then 0 else more + short) ≡ more + short
says_some short more some i = if ne_eqb short 0 (λ none. omega arith) i then 0 else more + short

-- The source of the payload's length for a short length other than 0.
pub short_source : (short : ℕ) → 0 < short → macsec_len_source short ≡ source.MacsecShortLength
short_source zero some = absurd (omega arith)
short_source (suc short) some = refl

pub extension_is_complete : (type : EtherType) (bytes : List ℕ) (extension : LinkExtension) (left : List ℕ)
    → IsLinkExtension type bytes (extension, left) → IsLaxExtension false type bytes (complete_extension extension)
extension_is_complete type bytes (vlan tag payload) left is =
    (is.0, subst (λ (l : List ℕ). IsVlan bytes (parts_of tag payload l)) is.1.cut is.1, refl)
extension_is_complete type bytes (macsec tag payload) left is =
    let packet = is.1 in
    let inside = macsec_payload_bytes payload in
    let n = macsec_header_len tag in
    let short = tag.short_len in
    let holds : IsMacsecHeader bytes (tag, inside ++ left) = record {
      encoded = packet.encoded;
      encodes = packet.encodes;
      parts = packet.parts ∙ append_assoc packet.encoded inside left;
    } in
    elim packet.cut [
      | inl some ↦
          let stated : macsec_stated_len tag ≡ 6 + sci_len tag.sci + short = says_some short (6 + sci_len tag.sci) some.0 in
          let cut : LaxCut =
          record { payload = inside; left = left; source = source.MacsecShortLength; incomplete = false } in (
            is.0,
            (
              cut,
              record {
                after_tag = inside ++ left;
                header = holds;
                cut = cut_present n (macsec_stated_len tag) source.MacsecShortLength false n inside left
                    (omega (arith, stated, some.1)) (omega (arith, stated, some.1, length-append inside left))
                    (omega (arith, stated, some.1));
              },
              is.2 ∙ (λ i. payload_by tag.ptype (short_source short some.0 i) inside),
              refl,
            ),
          )
      | inr none ↦
          let stated : macsec_stated_len tag ≡ 0 =
          ap (λ (s : ℕ). if s == 0 then 0 else 6 + sci_len tag.sci + s) none.0 in
          let more = nat_lt (n + length (inside ++ left)) (macsec_stated_len tag) in
          let no_more : more ≡ false =
          ap (nat_lt (n + length (inside ++ left))) stated ∙ none_more (n + length (inside ++ left)) in
          let cut : LaxCut = record { payload = inside; left = left; source = source.Slice; incomplete = more } in (
            is.0,
            (
              cut,
              record {
                after_tag = inside ++ left;
                header = holds;
                cut = cut_nowhere n (macsec_stated_len tag) source.MacsecShortLength false n inside left
                    (inl (omega (arith, stated))) (ap length none.1);
              },
              is.2 ∙ (λ i. payload_by tag.ptype (macsec_len_source (none.0 i)) inside),
              sym no_more,
            ),
          )
    ]

-- Complete link extensions are the link extensions themselves.
same_extensions : (extensions : List LinkExtension) → map extension_in (map complete_extension extensions) ≡ extensions
same_extensions [] = refl
same_extensions (extension ∷ others) = ap (λ (more : List LinkExtension). extension ∷ more) (same_extensions others)

all_complete : (extensions : List LinkExtension) → AreWhole (map complete_extension extensions)
all_complete [] = tt
all_complete (extension ∷ others) = (refl, all_complete others)

-- Facts about the layers in bytes of an ether type.
record IsWholeInside (space offset : ℕ) (type : Option EtherType) (bytes : List ℕ) (extensions : List LinkExtension)
    (net : Option NetLayer) (transport : Option TransportLayer) : Type 0 where
  read : LaxNet
  is : IsLaxInside space offset false type bytes (map complete_extension extensions) read
  layer : read.layer ≡ net
  inside : read.inside ≡ complete_transport transport
  whole : read.incomplete ≡ false

inside_is_complete : (space offset : ℕ) (type : Option EtherType) (bytes : List ℕ) (extensions : List LinkExtension)
    (net : Option NetLayer) (transport : Option TransportLayer)
    → IsInside slices space type bytes extensions net transport
    → IsWholeInside space offset type bytes extensions net transport
inside_is_complete space offset None bytes extensions net transport part = record {
  read = no_net false None;
  is = (ap (map complete_extension) part.0, refl);
  layer = sym part.1;
  inside = λ i. complete_transport (sym part.2 i);
  whole = refl;
}
inside_is_complete zero offset (Some type) bytes [] net transport part =
    let found = net_is_complete offset (net_kind type) bytes net transport part in
    record { read = found.read; is = found.is; layer = found.layer; inside = found.inside; whole = found.whole }
inside_is_complete zero offset (Some type) bytes (extension ∷ others) net transport part = absurd part
inside_is_complete (suc space) offset (Some type) bytes [] net transport part =
    let found = net_is_complete offset (net_kind type) bytes net transport part.1 in
    record {
      read = found.read;
      is = inl (part.0, found.is);
      layer = found.layer;
      inside = found.inside;
      whole = found.whole;
    }
inside_is_complete (suc space) offset (Some type) bytes (extension ∷ others) net transport part =
    let here = extension_is_complete type bytes extension part.0.0 part.0.1 in
    let more = inside_is_complete space (offset + link_ext_header_len (extension_header extension))
    (extension_type extension) (extension_payload extension) others net transport part.1 in
    record { read = more.read; is = (here, more.is); layer = more.layer; inside = more.inside; whole = more.whole }

-- ---- complete packets

-- The complete layers of a frame.
abbrev complete_layers : Option LinkLayer → List LinkExtension → LaxNet → LaxLayers
complete_layers link extensions net = record { link = link; link_exts = map complete_extension extensions; net = net }

-- The layers are those of the frame, nothing is missing, and slicing did not stop.
same_as_frame : (layers : Layers) (space offset : ℕ) (type : Option EtherType) (bytes : List ℕ)
    → (found : IsWholeInside space offset type bytes layers.link_exts layers.net layers.transport)
    → (layers_in (complete_layers layers.link layers.link_exts found.read) ≡ layers)
    × IsWhole (complete_layers layers.link layers.link_exts found.read)
same_as_frame layers space offset type bytes found = (
  λ i. record {
    link = layers.link;
    link_exts = same_extensions layers.link_exts i;
    net = found.layer i;
    transport = (found.inside i).layer;
  },
  record {
    extensions = all_complete layers.link_exts;
    net = found.whole;
    inside = λ i. (found.inside i).incomplete;
    stop = λ i. (found.inside i).stop;
  },
)

-- Lax slicing reads a frame as its layers.
pub frame_is_complete : (entry : Entry) (bytes : List ℕ) (layers : Layers) → IsFrame entry bytes layers
    → (read : LaxLayers) × IsLax entry bytes read × (layers_in read ≡ layers) × IsWhole read
frame_is_complete ethernet bytes layers is =
    let frame = is.0 in
    let type = Some frame.header.ether_type in
    let found = inside_is_complete most_link_exts ethernet2_header_len type frame.payload layers.link_exts
    layers.net layers.transport is.3 in
    let same = same_as_frame layers most_link_exts ethernet2_header_len type frame.payload found in (
      complete_layers layers.link layers.link_exts found.read,
      (frame, is.1, is.2, found.is),
      same.0,
      same.1,
    )
frame_is_complete linux_sll bytes layers is =
    let frame = is.0 in
    let type = protocol_ether_type frame.header.protocol_type in
    let found = inside_is_complete most_link_exts linux_sll_header_len type frame.payload layers.link_exts
    layers.net layers.transport is.3 in
    let same = same_as_frame layers most_link_exts linux_sll_header_len type frame.payload found in (
      complete_layers layers.link layers.link_exts found.read,
      (frame, is.1, is.2, found.is),
      same.0,
      same.1,
    )
frame_is_complete (ether_type type) bytes layers is =
    let found = inside_is_complete most_link_exts 0 (Some type) bytes layers.link_exts layers.net layers.transport is.1 in
    let same = same_as_frame layers most_link_exts 0 (Some type) bytes found in (
      complete_layers layers.link layers.link_exts found.read,
      (is.0, found.is),
      same.0,
      same.1,
    )
frame_is_complete ip bytes layers is =
    let found = net_is_complete 0 (Some any_ip) bytes layers.net layers.transport is.2 in (
      record { link = layers.link; link_exts = []; net = found.read },
      (is.0, refl, found.is),
      λ i. record { link = layers.link; link_exts = sym is.1 i; net = found.layer i; transport = (found.inside i).layer },
      record {
        extensions = tt;
        net = found.whole;
        inside = λ i. (found.inside i).incomplete;
        stop = λ i. (found.inside i).stop;
      },
    )
