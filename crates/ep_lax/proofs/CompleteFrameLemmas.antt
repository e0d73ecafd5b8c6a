-- Bytes are a frame of the layers that lax slicing finds, if no payload is incomplete, slicing does not stop at an
-- error, and each length that a header states includes the header.
use Rattle.std.proofs.Common.{◌≡◌, ◌⊎◌, ◌==◌, ◌&&◌, ◌||◌, not, nat_lt, if◌then◌else◌, ℕ, zero, suc, ◌+◌, ◌<◌, ◌≤◌, Bool, true, false, List, [], ◌∷◌, ◌++◌, length, map, Option, Some, None, refl, sym, ap, subst, ◌∙◌, inl, inr, append_assoc, arith}
use Rattle.std.specs.Option.{option_map}
use Rattle.std.proofs.lemmas.Bool.{cases_eq, cases_lt, false≢true, lt-ltb, or_parts}
use Rattle.std.proofs.lemmas.List.{append-nil}
use Rattle.ep_base.specs.IpPayload.{IpPayload}
use Rattle.ep_base.specs.LaxCut.{LaxCut, IsLaxCut}
use Rattle.ep_base.specs.Readings.{headers, slices}
use Rattle.ep_base.specs.Tables.{parts_of}
use Rattle.ep_base.specs.declared.ether_type.EtherType.{EtherType}
use Rattle.ep_base.specs.declared.len_source.LenSource.{LenSource}
use Rattle.ep_base.specs.declared.len_source.LenSource.TheVariants as source
use Rattle.ep_base.specs.declared.err.ipv6_exts.HeaderSliceError.{HeaderSliceError}
use Rattle.ep_base.proofs.BytesLemmas.{same_parts}
use Rattle.ep_base.proofs.LaxCutLemmas.{cuts_not, cuts_present}
use Rattle.ep_ext.specs.Chains.{IpVersion, ipv4, ipv6, ExtensionChain, IsExtensionChain}
use Rattle.ep_ext.specs.ChainPrefixes.{IsLaxChain}
use Rattle.ep_ip.specs.declared.ipv4_header.Ipv4Header.{Ipv4Header}
use Rattle.ep_ip.specs.declared.ipv6_header.Ipv6Header.{Ipv6Header}
use Rattle.ep_ip.specs.IpPackets.{IpPacket, ipv4_part, ipv6_part, IsIpv4, IsIpv6}
use Rattle.ep_ip.specs.Ipv4.{ipv4_header_len}
use Rattle.ep_ip.specs.Ipv6.{ipv6_bytes}
use Rattle.ep_ip.specs.LaxIp.{LaxIp, IsLaxIpv4, IsLaxIpv6, lax_ipv6_source, stop_after}
use Rattle.ep_ip.proofs.IpBytesLemmas.{encoded_len}
use Rattle.ep_link.specs.declared.link_ext.macsec_header.MacsecHeader.{MacsecHeader}
use Rattle.ep_link.specs.Ethernet2.{ethernet2_header_len}
use Rattle.ep_link.specs.LinkExtensions.{vlan, macsec, IsLinkExtension, extension_header, extension_payload, extension_type, link_ext_header_len}
use Rattle.ep_link.specs.LinuxSll.{linux_sll_header_len, protocol_ether_type}
use Rattle.ep_link.specs.Macsec.{IsMacsec, IsMacsecCut, macsec_header_len, macsec_len_source, macsec_payload_bytes, payload_by, sci_len}
use Rattle.ep_transport.specs.declared.transport_header.TransportHeader.{TransportHeader}
use Rattle.ep_transport.specs.declared.transport_header.TransportHeader.TheVariants as header
use Rattle.ep_transport.specs.TransportParts.{IsTransportLayer, IsTransportPart}
use Rattle.ep_transport.specs.Udp.{udp_bytes}
use Rattle.ep_packet.specs.declared.entry.Entry.{Entry}
use Rattle.ep_packet.specs.declared.entry.Entry.TheVariants.{Ethernet as ethernet, LinuxSll as linux_sll, EtherType as ether_type, Ip as ip}
use Rattle.ep_packet.specs.declared.err.slice_error.SliceError.{SliceError}
use Rattle.ep_packet.specs.Frame.{NetKind, only_ipv4, only_ipv6, only_arp, any_ip, net_kind, most_link_exts, IsFrame, IsInside, IsNetPart, IsTransportIn}
use Rattle.ep_packet.specs.FrameRefusals.{net_payload_offset}
use Rattle.ep_packet.specs.Layers.{arp, ipv4_layer, ipv6_layer}
use Rattle.ep_lax.specs.Lax.{IsHeaderLimitedLaxly, IsInsideIp, IsIpv4Net, IsIpv6Net, IsLax, IsLaxExtension, IsLaxInside, IsLaxNet, IsLaxTransport, IsNoNet}
use Rattle.ep_lax.specs.LaxHeaders.{LayerHeader, of_extension, of_ipv4, of_ipv6, header_len, link_headers, shown_headers, tag_header, transport_headers}
use Rattle.ep_lax.specs.LaxLayers.{LaxLayers, LaxNet, LaxTransport}
use Rattle.ep_lax.specs.LaxMacsec.{macsec_stated_len}
use Rattle.ep_lax.specs.LengthFields.{IncludeHeaders, IncludesHeader, stated_len}
use Rattle.ep_lax.specs.StrictFrames.{AreWhole, IsWhole, extension_in, layers_in}
use Rattle.ep_lax.proofs.LaxLawLemmas.{Tagged}
use Rattle.ep_lax.proofs.LaxMacsecLemmas.{payload_by_is}
use Rattle.ep_lax.proofs.MoreBytesLemmas.{inside_headers}
use Rattle.ep_lax.proofs.MoreIpLemmas.{inner_headers}
use Rattle.ep_lax.proofs.NestedLengthLemmas.{some_stated}
use Rattle.ep_lax.proofs.StrictLemmas.{says_some, short_source}

-- ---- length fields

-- If each length that a header of a list states includes that header, so does each that a header of its end states.
pub last_include : (first others : List LayerHeader) → IncludeHeaders (first ++ others) → IncludeHeaders others
last_include [] others include = include
last_include (header ∷ first) others include = last_include first others include.1

-- A length field that is at least the minimum applies to a complete payload.
applies : (least stated : ℕ) (named : LenSource) (outer : Bool) (header_len : ℕ) (after : List ℕ) (cut : LaxCut)
    → IsLaxCut least stated named outer header_len after cut → cut.incomplete ≡ false → least ≤ stated
    → (header_len + length cut.payload ≡ stated) × (cut.source ≡ named)
applies least stated named outer header_len after cut is complete enough =
    let present = header_len + length after in
    let more = nat_lt present stated in
    elim (cases_lt present stated) [
      | inl long ↦
          let not_cut = cuts_not least stated present (inr long) in
          let reported : (outer || more) ≡ false =
          sym (is.incomplete ∙ (λ i. not (not_cut i) && (outer || more))) ∙ complete in
          absurd (false≢true (sym (or_parts outer more reported).1 ∙ lt-ltb present stated long))
      | inr fits ↦
          let cut_present = cuts_present least stated present enough fits in (
            is.ends ∙ (λ i. if cut_present i then stated else present),
            is.source ∙ (λ i. if cut_present i then named else source.Slice),
          )
    ]

-- A length field below the minimum leaves no trailing bytes.
limits_nothing : (least stated : ℕ) (named : LenSource) (outer : Bool) (header_len : ℕ) (after : List ℕ) (cut : LaxCut)
    → IsLaxCut least stated named outer header_len after cut → stated < least
    → (cut.left ≡ []) × (cut.source ≡ source.Slice)
limits_nothing least stated named outer header_len after cut is short =
    let present = header_len + length after in
    let not_cut = cuts_not least stated present (inl short) in
    let all : header_len + length cut.payload ≡ present = is.ends ∙ (λ i. if not_cut i then stated else present) in
    let same = same_parts cut.payload after cut.left [] (omega (arith, all)) (sym is.parts ∙ sym (append-nil after)) in
    (same.1, is.source ∙ (λ i. if not_cut i then named else source.Slice))

-- The length field `field` of a complete layer applies, or it is 0, states no length, and leaves no trailing bytes.
abbrev IsFieldOf : ℕ → ℕ → LenSource → ℕ → LaxCut → Type 0
IsFieldOf field stated named header_len cut =
    ((0 < field) × (header_len + length cut.payload ≡ stated) × (cut.source ≡ named))
    ⊎ ((field ≡ 0) × (cut.left ≡ []) × (cut.source ≡ source.Slice))

field_limits : (field least stated : ℕ) (named : LenSource) (outer : Bool) (header_len : ℕ) (after : List ℕ)
    (cut : LaxCut) → IsLaxCut least stated named outer header_len after cut → cut.incomplete ≡ false
    → (field ≡ 0 → stated < least) → (0 < field → header_len ≤ stated → least ≤ stated)
    → IncludesHeader header_len (if field == 0 then None else Some stated)
    → IsFieldOf field stated named header_len cut
field_limits field least stated named outer header_len after cut is complete none_short some_enough include =
    elim (cases_eq field 0) [
      | inl none ↦
          let all = limits_nothing least stated named outer header_len after cut is (none_short none) in
          inr (none, all.0, all.1)
      | inr other ↦
          let some : 0 < field = omega (arith, other) in
          let enough = some_enough some (subst (IncludesHeader header_len) (some_stated field stated some) include) in
          let limited = applies least stated named outer header_len after cut is complete enough in
          inl (some, limited.0, limited.1)
    ]

-- A header, a payload and the trailing bytes after it.
rejoined : (bytes prefix after payload left : List ℕ) → bytes ≡ prefix ++ after → after ≡ payload ++ left
    → bytes ≡ (prefix ++ payload) ++ left
rejoined bytes prefix after payload left parts cut =
    parts ∙ ap (λ (s : List ℕ). prefix ++ s) cut ∙ sym (append_assoc prefix payload left)

-- ---- transport layer

header_is_strict : (number : ℕ) (outer fragmented : Bool) (bytes : List ℕ) (h : TransportHeader) (all : List ℕ)
    (lax : LaxTransport) → fragmented ≡ false → IsTransportLayer headers number bytes h all
    → IsHeaderLimitedLaxly outer h all lax → lax.incomplete ≡ false → IncludeHeaders (transport_headers lax.layer)
    → IsTransportPart slices number fragmented bytes lax.layer
header_is_strict number outer fragmented bytes (header.Udp udp) all lax no_fragment part is complete include =
    let cut = is.0 in
    let here = subst (λ (l : LaxTransport). IncludeHeaders (transport_headers l.layer)) is.2 include in
    let field = field_limits udp.length 8 udp.length source.UdpHeaderLen outer 8 all cut is.1
    (sym (ap (λ (l : LaxTransport). l.incomplete) is.2) ∙ complete) (λ none. omega (arith, none))
    (λ some enough. enough) here.0 in
    subst (λ (l : LaxTransport). IsTransportPart slices number fragmented bytes l.layer) (sym is.2) (
      no_fragment,
      (
        part.0,
        (
          cut.left,
          record {
            fits = part.1.fits;
            parts = rejoined bytes (udp_bytes udp) all cut.payload cut.left part.1.parts is.1.parts;
            cut = elim field [ inl some ↦ inl (sym some.1) | inr none ↦ inr (none.0, none.1) ];
          },
        ),
      ),
    )
header_is_strict number outer fragmented bytes (header.Tcp tcp) all lax no_fragment part is complete include =
    subst (λ (l : LaxTransport). IsTransportPart slices number fragmented bytes l.layer) (sym is) (no_fragment, part)
header_is_strict number outer fragmented bytes (header.Icmpv4 icmp) all lax no_fragment part is complete include =
    subst (λ (l : LaxTransport). IsTransportPart slices number fragmented bytes l.layer) (sym is) (no_fragment, part)
header_is_strict number outer fragmented bytes (header.Icmpv6 icmp) all lax no_fragment part is complete include =
    subst (λ (l : LaxTransport). IsTransportPart slices number fragmented bytes l.layer) (sym is) (no_fragment, part)

transport_is_strict : (offset : ℕ) (outer : Bool) (payload : IpPayload) (lax : LaxTransport)
    → IsLaxTransport offset outer payload lax → lax.incomplete ≡ false → lax.stop ≡ None
    → IncludeHeaders (transport_headers lax.layer) → IsTransportIn slices payload lax.layer
transport_is_strict offset outer payload lax (inl refused) complete no_stop include =
    absurd (let stop = sym (ap (λ (l : LaxTransport). l.stop) refused.2) ∙ no_stop in cc)
transport_is_strict offset outer payload lax (inr (None, part, same)) complete no_stop include =
    subst (λ (l : LaxTransport). IsTransportIn slices payload l.layer) (sym same) part
transport_is_strict offset outer payload lax (inr (Some layer, part, is)) complete no_stop include =
    header_is_strict payload.number outer payload.fragmented payload.bytes layer.header layer.payload lax part.0 part.1
    is complete include

-- ---- network layer

-- A chain of extension headers in which slicing does not stop at an error.
chain_is_strict : (version : IpVersion) (number : ℕ) (bytes : List ℕ) (chain : ExtensionChain) (header_len : ℕ)
    (end : LenSource) (refused : Option HeaderSliceError) → IsLaxChain version number bytes chain refused
    → option_map (stop_after header_len end) refused ≡ None → IsExtensionChain version slices number bytes chain
chain_is_strict version number bytes chain header_len end None is no_stop = is
chain_is_strict version number bytes chain header_len end (Some error) is no_stop = absurd cc

ipv4_is_strict : (outer : Bool) (bytes : List ℕ) (lax : LaxIp Ipv4Header) → IsLaxIpv4 outer bytes lax
    → lax.incomplete ≡ false → lax.stop ≡ None
    → IncludesHeader (header_len (of_ipv4 lax.packet.header)) (stated_len (of_ipv4 lax.packet.header))
    → IsIpv4 slices bytes lax.packet
ipv4_is_strict outer bytes lax is complete no_stop include =
    let h = is.0.0 in
    let n = ipv4_header_len h in
    let packet = is.2 in
    let cut = packet.cut in
    let encoded = is.1.encoded in
    let len = encoded_len encoded h is.1.encodes in
    let enough = subst (λ (l : LaxIp Ipv4Header). ipv4_header_len l.packet.header ≤ l.packet.header.total_len)
    packet.is include in
    let limited = applies n h.total_len source.Ipv4HeaderTotalLen outer n is.0.1 cut packet.cuts
    (sym (ap (λ (l : LaxIp Ipv4Header). l.incomplete) packet.is) ∙ complete) enough in
    subst (λ (l : LaxIp Ipv4Header). IsIpv4 slices bytes l.packet) (sym packet.is) (record {
      content = cut.payload;
      cut = record {
        encoded = encoded;
        encodes = is.1.encodes;
        parts = rejoined bytes encoded is.0.1 cut.payload cut.left is.1.parts packet.cuts.parts;
        cut = omega (arith, limited.0, len);
      };
      chain = chain_is_strict ipv4 h.protocol.0 cut.payload packet.chain n cut.source packet.refused packet.is_chain
          (sym (ap (λ (l : LaxIp Ipv4Header). l.stop) packet.is) ∙ no_stop);
      fragmented = refl;
      source = limited.1;
    })

-- The source of the length of an IPv6 payload. `named` is the payload length.
same_source : (length_is_0 some : Bool) (named end : LenSource) → (length_is_0 ≡ false → end ≡ named)
    → (if length_is_0 then (if length_is_0 && some then source.Slice else named) else end)
    ≡ (if length_is_0 && some then source.Slice else named)
same_source true some named end is = refl
same_source false some named end is = is refl

ipv6_is_strict : (outer : Bool) (bytes : List ℕ) (lax : LaxIp Ipv6Header) → IsLaxIpv6 outer bytes lax
    → lax.incomplete ≡ false → lax.stop ≡ None
    → IncludesHeader (header_len (of_ipv6 lax.packet.header)) (stated_len (of_ipv6 lax.packet.header))
    → IsIpv6 slices bytes lax.packet
ipv6_is_strict outer bytes lax is complete no_stop include =
    let h = is.0.0 in
    let stated = 40 + h.payload_length in
    let packet = is.2 in
    let cut = packet.cut in
    let here = subst (λ (l : LaxIp Ipv6Header). IncludesHeader 40 (stated_len (of_ipv6 l.packet.header))) packet.is
    include in
    let field = field_limits h.payload_length 41 stated source.Ipv6HeaderPayloadLen outer 40 is.0.1 cut packet.cuts
    (sym (ap (λ (l : LaxIp Ipv6Header). l.incomplete) packet.is) ∙ complete) (λ none. omega (arith, none))
    (λ some enough. omega (arith, some)) here in
    let named : (h.payload_length == 0) ≡ false → cut.source ≡ source.Ipv6HeaderPayloadLen =
    λ not_0. elim field [
      | inl some ↦ some.2
      | inr none ↦ absurd (false≢true (sym not_0 ∙ ap (λ (n : ℕ). n == 0) none.0))
    ] in
    subst (λ (l : LaxIp Ipv6Header). IsIpv6 slices bytes l.packet) (sym packet.is) (record {
      content = cut.payload;
      cut = record {
        fits = is.1.fits;
        parts = rejoined bytes (ipv6_bytes h) is.0.1 cut.payload cut.left is.1.parts packet.cuts.parts;
        cut = elim field [
          | inl some ↦ inl (some.0, omega (arith, some.1))
          | inr none ↦ inr (none.0, none.1)
        ];
      };
      chain = chain_is_strict ipv6 h.next_header.0 cut.payload packet.chain 40 (lax_ipv6_source h cut) packet.refused
          packet.is_chain (sym (ap (λ (l : LaxIp Ipv6Header). l.stop) packet.is) ∙ no_stop);
      fragmented = refl;
      source = same_source (h.payload_length == 0) (nat_lt 0 (length cut.payload)) source.Ipv6HeaderPayloadLen
          cut.source named;
    })

-- The layers in the payload of an IP packet.
payload_is_strict : (version : IpVersion) (offset headers_len : ℕ) (incomplete : Bool) (payload : IpPayload)
    (stop : Option HeaderSliceError) (inside : LaxTransport)
    → IsInsideIp version offset headers_len incomplete payload stop inside → inside.incomplete ≡ false
    → inside.stop ≡ None → IncludeHeaders (transport_headers inside.layer)
    → (stop ≡ None) × IsTransportIn slices payload inside.layer
payload_is_strict version offset headers_len incomplete payload None inside is complete no_stop include =
    (refl, transport_is_strict (offset + headers_len) incomplete payload inside is complete no_stop include)
payload_is_strict version offset headers_len incomplete payload (Some error) inside is complete no_stop include =
    absurd (let stop = sym (ap (λ (l : LaxTransport). l.stop) is) ∙ no_stop in cc)

-- No payload of these layers is incomplete, slicing does not stop at an error, and each length that a header states
-- includes the header.
record IsSound (net : LaxNet) : Type 0 where
  complete : net.incomplete ≡ false
  inside : net.inside.incomplete ≡ false
  stop : net.inside.stop ≡ None
  include : IncludeHeaders (inner_headers net)

-- The bytes are an IPv4 packet with the transport layer in it.
abbrev IsStrictIpv4 : List ℕ → LaxNet → Type 0
IsStrictIpv4 bytes net =
    (packet : IpPacket Ipv4Header) × IsIpv4 slices bytes packet × (net.layer ≡ Some (ipv4_layer packet))
    × IsTransportIn slices packet.payload net.inside.layer

ipv4_net_is_strict : (offset : ℕ) (outer : Bool) (bytes : List ℕ) (net : LaxNet) → IsIpv4Net offset outer bytes net
    → IsSound net → IsStrictIpv4 bytes net
ipv4_net_is_strict offset outer bytes net is sound =
    let lax = is.0 in
    let inside = is.2.0 in
    let here = subst IsSound is.2.2 sound in
    let layers = payload_is_strict ipv4 offset (net_payload_offset (ipv4_layer lax.packet)) lax.incomplete
    lax.packet.payload lax.stop inside is.2.1 here.inside here.stop
    (last_include (map of_extension lax.packet.extensions) (transport_headers inside.layer) here.include.1) in
    let packet_is = ipv4_is_strict outer bytes lax is.1 here.complete layers.0 here.include.0 in
    subst (IsStrictIpv4 bytes) (sym is.2.2) (lax.packet, packet_is, refl, layers.1)

-- The bytes are an IPv6 packet with the transport layer in it.
abbrev IsStrictIpv6 : List ℕ → LaxNet → Type 0
IsStrictIpv6 bytes net =
    (packet : IpPacket Ipv6Header) × IsIpv6 slices bytes packet × (net.layer ≡ Some (ipv6_layer packet))
    × IsTransportIn slices packet.payload net.inside.layer

ipv6_net_is_strict : (offset : ℕ) (outer : Bool) (bytes : List ℕ) (net : LaxNet) → IsIpv6Net offset outer bytes net
    → IsSound net → IsStrictIpv6 bytes net
ipv6_net_is_strict offset outer bytes net is sound =
    let lax = is.0 in
    let inside = is.2.0 in
    let here = subst IsSound is.2.2 sound in
    let layers = payload_is_strict ipv6 offset (net_payload_offset (ipv6_layer lax.packet)) lax.incomplete
    lax.packet.payload lax.stop inside is.2.1 here.inside here.stop
    (last_include (map of_extension lax.packet.extensions) (transport_headers inside.layer) here.include.1) in
    let packet_is = ipv6_is_strict outer bytes lax is.1 here.complete layers.0 here.include.0 in
    subst (IsStrictIpv6 bytes) (sym is.2.2) (lax.packet, packet_is, refl, layers.1)

-- Slicing that does not stop at an error has found a network layer where one is expected.
no_error : {A : Type 0} → (outer : Bool) (net : LaxNet) (error : SliceError) → IsNoNet outer net error → IsSound net → A
no_error outer net error is sound =
    absurd (let stop = sym (ap (λ (n : LaxNet). n.inside.stop) is) ∙ sound.stop in cc)

net_is_strict : (offset : ℕ) (outer : Bool) (kind : Option NetKind) (bytes : List ℕ) (net : LaxNet)
    → IsLaxNet offset outer kind bytes net → IsSound net → IsNetPart slices kind bytes net.layer net.inside.layer
net_is_strict offset outer None bytes net is sound =
    (ap (λ (n : LaxNet). n.layer) is, ap (λ (n : LaxNet). n.inside.layer) is)
net_is_strict offset outer (Some only_ipv4) bytes net (inl refused) sound =
    no_error outer net refused.0 refused.2 sound
net_is_strict offset outer (Some only_ipv4) bytes net (inr is) sound =
    let found = ipv4_net_is_strict offset outer bytes net is sound in
    (ipv4_layer found.0, (found.0, found.1, refl), found.2, found.3)
net_is_strict offset outer (Some only_ipv6) bytes net (inl refused) sound =
    no_error outer net refused.0 refused.2 sound
net_is_strict offset outer (Some only_ipv6) bytes net (inr is) sound =
    let found = ipv6_net_is_strict offset outer bytes net is sound in
    (ipv6_layer found.0, (found.0, found.1, refl), found.2, found.3)
net_is_strict offset outer (Some only_arp) bytes net (inl refused) sound =
    no_error outer net refused.0 refused.2 sound
net_is_strict offset outer (Some only_arp) bytes net (inr is) sound = (
  arp is.0.0,
  (is.0, is.1, refl),
  ap (λ (n : LaxNet). n.layer) is.2,
  ap (λ (n : LaxNet). n.inside.layer) is.2,
)
net_is_strict offset outer (Some any_ip) bytes net (inl is) sound =
    let found = ipv4_net_is_strict offset outer bytes net is sound in
    (ipv4_layer found.0, (ipv4_part found.0, found.1, refl), found.2, found.3)
net_is_strict offset outer (Some any_ip) bytes net (inr is) sound =
    let found = ipv6_net_is_strict offset outer bytes net is sound in
    (ipv6_layer found.0, (ipv6_part found.0, found.1, refl), found.2, found.3)

-- ---- link extensions

-- The short length of a complete MACsec packet, and the source of the length of its payload.
macsec_limits : (outer : Bool) (tag : MacsecHeader) (after : List ℕ) (cut : LaxCut)
    → IsLaxCut (macsec_header_len tag) (macsec_stated_len tag) source.MacsecShortLength outer (macsec_header_len tag)
    after cut → cut.incomplete ≡ false
    → IncludesHeader (macsec_header_len tag) (if tag.short_len == 0 then None else Some (macsec_stated_len tag))
    → IsMacsecCut (parts_of tag cut.payload cut.left) × (cut.source ≡ macsec_len_source tag.short_len)
macsec_limits outer tag after cut is complete include =
    let n = macsec_header_len tag in
    let short = tag.short_len in
    let none_below : short ≡ 0 → macsec_stated_len tag < n =
    λ none. let stated : macsec_stated_len tag ≡ 0 =
    ap (λ (s : ℕ). if s == 0 then 0 else 6 + sci_len tag.sci + s) none in omega (arith, stated) in
    elim (field_limits short n (macsec_stated_len tag) source.MacsecShortLength outer n after cut is complete none_below
    (λ some enough. enough) include) [
      | inl some ↦
          let stated = says_some short (6 + sci_len tag.sci) some.0 in (
            inl (some.0, omega (arith, stated, some.1)),
            some.2 ∙ sym (short_source short some.0),
          )
      | inr none ↦ (inr (none.0, none.1), none.2 ∙ sym (ap macsec_len_source none.0))
    ]

extension_is_strict : (outer : Bool) (type : EtherType) (bytes : List ℕ) (tagged : Tagged)
    → IsLaxExtension outer type bytes tagged → tagged.1 ≡ false
    → IncludesHeader (header_len (tag_header tagged.0)) (stated_len (tag_header tagged.0))
    → (left : List ℕ) × IsLinkExtension type bytes (tagged.0, left)
extension_is_strict outer type bytes (vlan tag payload, incomplete) is complete include = ([], (is.0, is.1))
extension_is_strict outer type bytes (macsec tag payload, incomplete) is complete include =
    let cut = is.1.0 in
    let packet = is.1.1 in
    let encoded = packet.header.encoded in
    let shown : cut.payload ≡ macsec_payload_bytes payload =
    sym (ap macsec_payload_bytes is.1.2 ∙ payload_by_is tag.ptype cut.source cut.payload) in
    let limits = macsec_limits outer tag packet.after_tag cut packet.cut (sym is.1.3 ∙ complete) include in (
      cut.left,
      (
        is.0,
        subst (λ (b : List ℕ). IsMacsec bytes (parts_of tag b cut.left)) shown (record {
          encoded = encoded;
          encodes = packet.header.encodes;
          parts = rejoined bytes encoded packet.after_tag cut.payload cut.left packet.header.parts packet.cut.parts;
          cut = limits.0;
        }),
        is.1.2 ∙ (λ i. payload_by tag.ptype (limits.1 i) (shown i)),
      ),
    )

inside_is_strict : (exts_left offset : ℕ) (outer : Bool) (type : Option EtherType) (bytes : List ℕ)
    (extensions : List Tagged) (net : LaxNet) → IsLaxInside exts_left offset outer type bytes extensions net
    → AreWhole extensions → IsSound net → IncludeHeaders (inside_headers extensions net)
    → IsInside slices exts_left type bytes (map extension_in extensions) net.layer net.inside.layer
inside_is_strict exts_left offset outer None bytes extensions net is complete sound include = (
  ap (map extension_in) is.0,
  ap (λ (n : LaxNet). n.layer) is.1,
  ap (λ (n : LaxNet). n.inside.layer) is.1,
)
inside_is_strict zero offset outer (Some type) bytes [] net is complete sound include =
    net_is_strict offset outer (net_kind type) bytes net is sound
inside_is_strict zero offset outer (Some type) bytes (tagged ∷ others) net is complete sound include = absurd is
inside_is_strict (suc exts_left) offset outer (Some type) bytes [] net (inl is) complete sound include =
    (is.0, net_is_strict offset outer (net_kind type) bytes net is.1 sound)
inside_is_strict (suc exts_left) offset outer (Some type) bytes [] net (inr refused) complete sound include =
    no_error outer net refused.0 refused.2 sound
inside_is_strict (suc exts_left) offset outer (Some type) bytes (tagged ∷ others) net is complete sound include = (
  extension_is_strict outer type bytes tagged is.0 complete.0 include.0,
  inside_is_strict exts_left (offset + link_ext_header_len (extension_header tagged.0)) tagged.1
      (extension_type tagged.0) (extension_payload tagged.0) others net is.1 complete.1 sound include.1,
)

-- ---- complete packets

-- The network layer of complete layers, with the layers in it.
net_is_sound : (read : LaxLayers) → IsWhole read → IncludeHeaders (shown_headers read) → IsSound read.net
net_is_sound read entire include = record {
  complete = entire.net;
  inside = entire.inside;
  stop = entire.stop;
  include = last_include (map tag_header (map extension_in read.link_exts)) (inner_headers read.net)
      (last_include (link_headers read.link) (inside_headers read.link_exts read.net) include);
}

-- Bytes are a frame of the complete layers that lax slicing finds.
pub complete_is_frame : (entry : Entry) (bytes : List ℕ) (read : LaxLayers) → IsLax entry bytes read → IsWhole read
    → IncludeHeaders (shown_headers read) → IsFrame entry bytes (layers_in read)
complete_is_frame ethernet bytes read is entire include = (
  is.0,
  is.1,
  is.2,
  inside_is_strict most_link_exts ethernet2_header_len false (Some is.0.header.ether_type) is.0.payload read.link_exts
      read.net is.3 entire.extensions (net_is_sound read entire include)
      (last_include (link_headers read.link) (inside_headers read.link_exts read.net) include),
)
complete_is_frame linux_sll bytes read is entire include = (
  is.0,
  is.1,
  is.2,
  inside_is_strict most_link_exts linux_sll_header_len false (protocol_ether_type is.0.header.protocol_type)
      is.0.payload read.link_exts read.net is.3 entire.extensions (net_is_sound read entire include)
      (last_include (link_headers read.link) (inside_headers read.link_exts read.net) include),
)
complete_is_frame (ether_type type) bytes read is entire include = (
  is.0,
  inside_is_strict most_link_exts 0 false (Some type) bytes read.link_exts read.net is.1 entire.extensions
      (net_is_sound read entire include)
      (last_include (link_headers read.link) (inside_headers read.link_exts read.net) include),
)
complete_is_frame ip bytes read is entire include = (
  is.0,
  ap (map extension_in) is.1,
  net_is_strict 0 false (Some any_ip) bytes read.net is.2 (net_is_sound read entire include),
)
