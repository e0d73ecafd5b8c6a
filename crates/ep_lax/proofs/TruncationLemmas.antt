-- The layers of a truncated frame report which payloads are truncated.
use Rattle.std.proofs.Common.{◌≡◌, ◌⊎◌, ◌==◌, ◌&&◌, ◌||◌, not, nat_lt, if◌then◌else◌, ℕ, zero, suc, ◌+◌, ◌<◌, ◌≤◌, Bool, true, false, List, [], ◌∷◌, ◌++◌, length, length-append, map, Option, Some, None, refl, sym, ap, subst, ◌∙◌, inl, inr, arith}
use Rattle.std.specs.Option.{option_map}
use Rattle.std.proofs.lemmas.Bool.{cases_eq, cases_lt}
use Rattle.std.proofs.lemmas.Grind.{common_steps}
use Rattle.ep_base.specs.Bytes.{AreBytes}
use Rattle.ep_base.specs.IpPayload.{IpPayload}
use Rattle.ep_base.specs.LaxCut.{LaxCut, IsLaxCut, cuts}
use Rattle.ep_base.specs.Readings.{headers, slices}
use Rattle.ep_base.specs.declared.ether_type.EtherType.{EtherType}
use Rattle.ep_base.specs.declared.len_source.LenSource.{LenSource}
use Rattle.ep_base.specs.declared.len_source.LenSource.TheVariants as source
use Rattle.ep_base.specs.declared.err.ipv6_exts.HeaderSliceError.{HeaderSliceError}
use Rattle.ep_base.proofs.LaxCutLemmas.{cuts_not, cuts_present}
use Rattle.ep_ext.specs.Chains.{IpVersion, ipv4, ipv6, ExtensionChain, chain_fragments}
use Rattle.ep_ext.specs.ChainPrefixes.{IsLaxChain}
use Rattle.ep_ip.specs.declared.ipv4_header.Ipv4Header.{Ipv4Header}
use Rattle.ep_ip.specs.declared.ipv6_header.Ipv6Header.{Ipv6Header}
use Rattle.ep_ip.specs.Ipv4.{ipv4_header_len, is_ipv4_fragment}
use Rattle.ep_ip.specs.Ipv6.{ipv6_bytes}
use Rattle.ep_ip.proofs.IpBytesLemmas.{encoded_len as ipv4_encoded_len, ipv6_len}
use Rattle.ep_link.specs.Ethernet2.{ethernet2_bytes, ethernet2_header_len}
use Rattle.ep_link.specs.LinkExtensions.{vlan, macsec, extension_payload, extension_type}
use Rattle.ep_link.specs.LinkSlices.{LinkLayer, ethernet2, linux_sll as sll, ether_payload}
use Rattle.ep_link.specs.LinuxSll.{linux_sll_bytes, linux_sll_header_len, protocol_ether_type}
use Rattle.ep_link.specs.Macsec.{macsec_header_len, macsec_payload_bytes, sci_len}
use Rattle.ep_link.specs.Vlan.{vlan_bytes}
use Rattle.ep_link.proofs.MacsecReadLemmas.{encoded_len as macsec_encoded_len}
use Rattle.ep_transport.specs.declared.transport_header.TransportHeader.{TransportHeader}
use Rattle.ep_transport.specs.declared.transport_header.TransportHeader.TheVariants as header
use Rattle.ep_transport.specs.TransportParts.{IsTransportLayer}
use Rattle.ep_transport.specs.Udp.{udp_bytes}
use Rattle.ep_packet.specs.declared.entry.Entry.{Entry}
use Rattle.ep_packet.specs.declared.entry.Entry.TheVariants.{Ethernet as ethernet, LinuxSll as linux_sll, EtherType as ether_type, Ip as ip}
use Rattle.ep_packet.specs.Frame.{NetKind, only_ipv4, only_ipv6, only_arp, any_ip, net_kind, most_link_exts, IsFrame}
use Rattle.ep_packet.specs.Layers.{Layers, ipv4_layer, ipv6_layer}
use Rattle.ep_packet.specs.Offsets.{link_len, net_len, parts_len, tag_len, tags_len}
use Rattle.ep_packet.proofs.OffsetLemmas.{link_encoded}
use Rattle.ep_packet.specs.declared.err.slice_error.SliceError.{SliceError}
use Rattle.ep_lax.specs.Lax.{IsHeaderLimitedLaxly, IsInsideIp, IsIpLayer, IsIpv4Net, IsIpv6Net, IsLax, IsLaxExtension, IsLaxInside, IsLaxNet, IsLaxTransport, IsNoNet}
use Rattle.ep_lax.specs.LaxHeaders.{of_extension, of_ipv6, link_headers, shown_headers, tag_header, transport_headers}
use Rattle.ep_ip.specs.LaxIp.{LaxIp, lax_ipv6_source, stop_after}
use Rattle.ep_lax.specs.LaxLayers.{LaxLayers, LaxNet, LaxTransport}
use Rattle.ep_lax.specs.LengthFields.{stated_len}
use Rattle.ep_lax.specs.LaxMacsec.{macsec_stated_len}
use Rattle.ep_lax.specs.StrictFrames.{extension_in}
use Rattle.ep_lax.specs.Truncation.{ReportTruncatedTags, ReportsTruncatedPayloads, last_tag_incomplete, truncates, truncates_net, truncates_transport}
use Rattle.ep_lax.proofs.LaxLawLemmas.{Tagged}
use Rattle.ep_lax.proofs.LaxMacsecLemmas.{payload_by_is}
use Rattle.ep_lax.proofs.MoreBytesLemmas.{inside_headers, prefix_shows_headers}
use Rattle.ep_lax.proofs.MoreIpLemmas.{inner_headers}
use Rattle.ep_lax.proofs.NestedLengthLemmas.{AreNested, EndsWithin, chain_lens, first_nested, frame_nested, nested_parts, none_stated, payload_end, some_stated, three_lens, two_lens}

-- ---- bytes of a layer

-- A layer's bytes in the first `len` bytes of a frame: `count` bytes from `offset` on. Those of the full frame end at
-- `end`. Either the frame is truncated before this end, and the bytes are all that are left, or they are complete.
abbrev Reaches : ℕ → ℕ → ℕ → Bool → ℕ → Type 0
Reaches len offset end outer count =
    ((offset + count ≡ len) × (len ≤ end)) ⊎ ((offset + count ≡ end) × (end ≤ len) × (outer ≡ false))

-- The payload of a layer at `offset` with a header of this length that states a length, if any: it is incomplete
-- exactly if it is truncated, and its bytes go on as far.
record IsReported (len offset end : ℕ) (outer : Bool) (header_len : ℕ) (stated : Option ℕ) (payload : List ℕ)
    (incomplete : Bool) : Type 0 where
  reports : incomplete ≡ truncates len offset outer stated
  reaches : Reaches len (offset + header_len) (payload_end offset end stated) incomplete (length payload)

below_lt : (a b : ℕ) → a < b → nat_lt a b ≡ true
below_lt a b below = grind (arith, common_steps)

above_lt : (a b : ℕ) → b ≤ a → nat_lt a b ≡ false
above_lt a b above = grind (arith, common_steps)

or_true : (flag : Bool) → (flag || true) ≡ true
or_true true = refl
or_true false = refl

or_false : (flag : Bool) → (flag || false) ≡ flag
or_false true = refl
or_false false = refl

-- The payload of a layer whose header states no length.
unlimited : (len offset end : ℕ) (outer : Bool) (header_len count : ℕ) (payload : List ℕ) (incomplete : Bool)
    → Reaches len offset end outer count → count ≡ header_len + length payload → incomplete ≡ outer
    → IsReported len offset end outer header_len None payload incomplete
unlimited len offset end outer header_len count payload incomplete (inl on) is same =
    record { reports = same; reaches = inl (omega (arith, on.0, is), on.1) }
unlimited len offset end outer header_len count payload incomplete (inr ended) is same =
    record { reports = same; reaches = inr (omega (arith, ended.0, is), ended.1, same ∙ ended.2) }

-- The length field of a layer that states none.
none_limits : (least stated : ℕ) (named : LenSource) (outer : Bool) (header_len : ℕ) (after : List ℕ) (cut : LaxCut)
    → IsLaxCut least stated named outer header_len after cut → stated < least → stated ≤ header_len
    → (header_len + length after ≡ header_len + length cut.payload) × (cut.incomplete ≡ outer)
none_limits least stated named outer header_len after cut is short small =
    let present = header_len + length after in
    let not_cut = cuts_not least stated present (inl short) in (
      sym (is.ends ∙ (λ i. if not_cut i then stated else present)),
      is.incomplete ∙ (λ i. not (not_cut i) && (outer || above_lt present stated (omega (arith, small)) i))
          ∙ or_false outer,
    )

-- The length field of a layer that states at least the minimum.
some_limits : (len offset end least stated : ℕ) (named : LenSource) (outer : Bool) (header_len : ℕ) (after : List ℕ)
    (cut : LaxCut) → IsLaxCut least stated named outer header_len after cut
    → Reaches len offset end outer (header_len + length after) → least ≤ stated → offset + stated ≤ end
    → IsReported len offset end outer header_len (Some stated) cut.payload cut.incomplete
some_limits len offset end least stated named outer header_len after cut is reaches enough within =
    let present = header_len + length after in
    elim (cases_lt present stated) [
      | inl long ↦ missing long (cuts_not least stated present (inr long)) reaches
      | inr fits ↦ complete fits (cuts_present least stated present enough fits)
    ]
  where
    missing : header_len + length after < stated → cuts least stated (header_len + length after) ≡ false
        → Reaches len offset end outer (header_len + length after)
        → IsReported len offset end outer header_len (Some stated) cut.payload cut.incomplete
    missing long not_cut (inl on) =
        let present = header_len + length after in
        let all : header_len + length cut.payload ≡ present = is.ends ∙ (λ i. if not_cut i then stated else present) in
        let says : cut.incomplete ≡ true =
        is.incomplete ∙ (λ i. not (not_cut i) && (outer || below_lt present stated long i)) ∙ or_true outer in
        record {
          reports = says ∙ sym (below_lt len (offset + stated) (omega (arith, on.0, long)));
          reaches = inl (omega (arith, all, on.0), omega (arith, on.0, long));
        }
    missing long not_cut (inr ended) = absurd (omega (arith, long, ended.0, within))

    complete : stated ≤ header_len + length after → cuts least stated (header_len + length after) ≡ true
        → IsReported len offset end outer header_len (Some stated) cut.payload cut.incomplete
    complete fits cut_present =
        let present = header_len + length after in
        let some : header_len + length cut.payload ≡ stated = is.ends ∙ (λ i. if cut_present i then stated else present) in
        let says : cut.incomplete ≡ false =
        is.incomplete ∙ (λ i. not (cut_present i) && (outer || nat_lt present stated)) in
        let ends : offset + stated ≤ len = elim reaches [
          | inl on ↦ omega (arith, on.0, fits)
          | inr ended ↦ omega (arith, ended.0, ended.1, fits)
        ] in
        record {
          reports = says ∙ sym (above_lt len (offset + stated) ends);
          reaches = inr (omega (arith, some), ends, says);
        }

-- The length field of a layer. The value 0 states no length.
field_limits : (len offset end field least stated : ℕ) (named : LenSource) (outer : Bool) (header_len : ℕ)
    (after : List ℕ) (cut : LaxCut) → IsLaxCut least stated named outer header_len after cut
    → Reaches len offset end outer (header_len + length after)
    → (field ≡ 0 → (stated < least) × (stated ≤ header_len)) → (0 < field → header_len ≤ stated → least ≤ stated)
    → EndsWithin offset header_len end (if field == 0 then None else Some stated)
    → IsReported len offset end outer header_len (if field == 0 then None else Some stated) cut.payload cut.incomplete
field_limits len offset end field least stated named outer header_len after cut is reaches no_len some_len within =
    let Goal : Option ℕ → Type 0 =
    λ s. IsReported len offset end outer header_len s cut.payload cut.incomplete in
    elim (cases_eq field 0) [
      | inl none ↦
          let small = no_len none in
          let all = none_limits least stated named outer header_len after cut is small.0 small.1 in
          subst Goal (sym (none_stated field stated none))
          (unlimited len offset end outer header_len (header_len + length after) cut.payload cut.incomplete reaches
          all.0 all.1)
      | inr other ↦
          let some : 0 < field = omega (arith, other) in
          let states = some_stated field stated some in
          let ends = subst (EndsWithin offset header_len end) states within in
          subst Goal (sym states)
          (some_limits len offset end least stated named outer header_len after cut is reaches (some_len some ends.0)
          ends.1)
    ]

-- ---- transport layer

-- The transport layer reports whether its payload is truncated.
abbrev ReportsTransport : ℕ → ℕ → Bool → LaxTransport → Type 0
ReportsTransport len offset outer lax = lax.incomplete ≡ truncates_transport len offset outer lax.layer

header_reports : (len offset end number : ℕ) (outer : Bool) (bytes : List ℕ) (h : TransportHeader) (payload : List ℕ)
    (lax : LaxTransport) → IsTransportLayer headers number bytes h payload
    → IsHeaderLimitedLaxly outer h payload lax → Reaches len offset end outer (length bytes)
    → AreNested offset end (transport_headers lax.layer) → ReportsTransport len offset outer lax
header_reports len offset end number outer bytes (header.Udp udp) payload lax part is reaches nested =
    let cut = is.0 in
    let count : length bytes ≡ 8 + length payload =
    ap length part.1.parts ∙ length-append (udp_bytes udp) payload in
    let within = subst (λ (l : LaxTransport). AreNested offset end (transport_headers l.layer)) is.2 nested in
    let reported = field_limits len offset end udp.length 8 udp.length source.UdpHeaderLen outer 8 payload cut is.1
    (subst (Reaches len offset end outer) count reaches) (λ none. (omega (arith, none), omega (arith, none)))
    (λ some enough. enough) within.0 in
    subst (ReportsTransport len offset outer) (sym is.2) reported.reports
header_reports len offset end number outer bytes (header.Tcp tcp) payload lax part is reaches nested =
    subst (ReportsTransport len offset outer) (sym is) refl
header_reports len offset end number outer bytes (header.Icmpv4 icmp) payload lax part is reaches nested =
    subst (ReportsTransport len offset outer) (sym is) refl
header_reports len offset end number outer bytes (header.Icmpv6 icmp) payload lax part is reaches nested =
    subst (ReportsTransport len offset outer) (sym is) refl

transport_reports : (len offset end place : ℕ) (outer : Bool) (payload : IpPayload) (lax : LaxTransport)
    → IsLaxTransport place outer payload lax → Reaches len offset end outer (length payload.bytes)
    → AreNested offset end (transport_headers lax.layer) → ReportsTransport len offset outer lax
transport_reports len offset end place outer payload lax (inl refused) reaches nested =
    subst (ReportsTransport len offset outer) (sym refused.2) refl
transport_reports len offset end place outer payload lax (inr (None, part, same)) reaches nested =
    subst (ReportsTransport len offset outer) (sym same) refl
transport_reports len offset end place outer payload lax (inr (Some layer, part, is)) reaches nested =
    header_reports len offset end payload.number outer payload.bytes layer.header layer.payload lax part.1 is reaches
    nested

-- ---- network layer

-- The bytes of the payload of an IP packet, unless slicing stopped at an extension header.
abbrev PayloadReaches : ℕ → ℕ → ℕ → Bool → List ℕ → Option HeaderSliceError → Type 0
PayloadReaches len offset end incomplete bytes None = Reaches len offset end incomplete (length bytes)
PayloadReaches len offset end incomplete bytes (Some refused) = Unit {0}

chain_reaches : (len offset end header_len : ℕ) (incomplete : Bool) (version : IpVersion) (number : ℕ) (bytes : List ℕ)
    (limit : LenSource) (chain : ExtensionChain) (refused : Option HeaderSliceError)
    → IsLaxChain version number bytes chain refused → Reaches len offset end incomplete (length bytes)
    → PayloadReaches len (offset + parts_len chain.parts) end incomplete chain.rest
    (option_map (stop_after header_len limit) refused)
chain_reaches len offset end header_len incomplete version number bytes limit chain None is reaches =
    let count = chain_lens version slices [] number bytes chain.parts chain.last chain.rest is in
    elim reaches [
      | inl on ↦ inl (omega (arith, on.0, count), on.1)
      | inr ended ↦ inr (omega (arith, ended.0, count), ended.1, ended.2)
    ]
chain_reaches len offset end header_len incomplete version number bytes limit chain (Some error) is reaches = tt

payload_reports : (len offset end place headers_len : ℕ) (version : IpVersion) (incomplete : Bool) (payload : IpPayload)
    (stop : Option HeaderSliceError) (inside : LaxTransport)
    → IsInsideIp version place headers_len incomplete payload stop inside
    → PayloadReaches len offset end incomplete payload.bytes stop
    → AreNested offset end (transport_headers inside.layer) → ReportsTransport len offset incomplete inside
payload_reports len offset end place headers_len version incomplete payload None inside is reaches nested =
    transport_reports len offset end (place + headers_len) incomplete payload inside is reaches nested
payload_reports len offset end place headers_len version incomplete payload (Some error) inside is reaches nested =
    subst (ReportsTransport len offset incomplete) (sym is) refl

-- The layers in the payload of a packet with these extension headers.
packet_reports : (len offset end place headers_len header_len number : ℕ) (version : IpVersion) (limit : LenSource)
    (cut : LaxCut) (chain : ExtensionChain) (refused : Option HeaderSliceError) (fragmented : Bool)
    (inside : LaxTransport) → IsLaxChain version number cut.payload chain refused
    → IsInsideIp version place headers_len cut.incomplete
    (record { number = chain.last; fragmented = fragmented; source = limit; bytes = chain.rest })
    (option_map (stop_after header_len limit) refused) inside
    → Reaches len (offset + header_len) end cut.incomplete (length cut.payload)
    → AreNested (offset + header_len) end (map of_extension chain.parts ++ transport_headers inside.layer)
    → ReportsTransport len (offset + (header_len + parts_len chain.parts)) cut.incomplete inside
packet_reports len offset end place headers_len header_len number version limit cut chain refused fragmented inside
    is_chain is reaches nested =
    let start = offset + header_len in
    let same : start + parts_len chain.parts ≡ offset + (header_len + parts_len chain.parts) = omega arith in
    let payload : IpPayload =
    record { number = chain.last; fragmented = fragmented; source = limit; bytes = chain.rest } in
    subst (λ (n : ℕ). ReportsTransport len n cut.incomplete inside) same
    (payload_reports len (start + parts_len chain.parts) end place headers_len version cut.incomplete payload
    (option_map (stop_after header_len limit) refused) inside is
    (chain_reaches len start end header_len cut.incomplete version number cut.payload limit chain refused is_chain
    reaches)
    (nested_parts start end chain.parts (transport_headers inside.layer) nested))

-- The network layer and the transport layer in it report whether their payloads are truncated.
record ReportsNet (len offset : ℕ) (outer : Bool) (read : LaxNet) : Type 0 where
  net : read.incomplete ≡ truncates_net len offset outer read.layer
  transport : ReportsTransport len (offset + net_len read.layer) read.incomplete read.inside

ipv4_reports : (len offset end place : ℕ) (outer : Bool) (bytes : List ℕ) (net : LaxNet)
    → IsIpv4Net place outer bytes net → Reaches len offset end outer (length bytes)
    → AreNested offset end (inner_headers net) → ReportsNet len offset outer net
ipv4_reports len offset end place outer bytes net is reaches nested =
    let read = is.1.0 in
    let holds = is.1.1 in
    let after = is.1.2 in
    let header = read.0 in
    let n = ipv4_header_len header in
    let layer = subst (λ (l : LaxIp Ipv4Header). IsIpLayer ipv4 ipv4_layer place l net) after.is is.2 in
    let within = subst (λ (r : LaxNet). AreNested offset end (inner_headers r)) layer.2 nested in
    let count : length bytes ≡ n + length read.1 = omega (
      arith,
      ap length holds.parts,
      length-append holds.encoded read.1,
      ipv4_encoded_len holds.encoded header holds.encodes,
    ) in
    let reported = some_limits len offset end n header.total_len source.Ipv4HeaderTotalLen outer n read.1 after.cut
    after.cuts (subst (Reaches len offset end outer) count reaches) within.0.0 within.0.1 in
    subst (ReportsNet len offset outer) (sym layer.2)
    (record {
      net = reported.reports;
      transport = packet_reports len offset (offset + header.total_len) place _ n header.protocol.0 ipv4
          after.cut.source after.cut after.chain after.refused (is_ipv4_fragment header) layer.0 after.is_chain
          layer.1 reported.reaches within.1;
    })

ipv6_reports : (len offset end place : ℕ) (outer : Bool) (bytes : List ℕ) (net : LaxNet)
    → IsIpv6Net place outer bytes net → Reaches len offset end outer (length bytes)
    → AreNested offset end (inner_headers net) → ReportsNet len offset outer net
ipv6_reports len offset end place outer bytes net is reaches nested =
    let read = is.1.0 in
    let holds = is.1.1 in
    let after = is.1.2 in
    let header = read.0 in
    let field = header.payload_length in
    let layer = subst (λ (l : LaxIp Ipv6Header). IsIpLayer ipv6 ipv6_layer place l net) after.is is.2 in
    let within = subst (λ (r : LaxNet). AreNested offset end (inner_headers r)) layer.2 nested in
    let count : length bytes ≡ 40 + length read.1 = omega (
      arith,
      ap length holds.parts,
      length-append (ipv6_bytes header) read.1,
      ipv6_len header holds.fits,
    ) in
    let reported = field_limits len offset end field 41 (40 + field) source.Ipv6HeaderPayloadLen outer 40 read.1
    after.cut after.cuts (subst (Reaches len offset end outer) count reaches)
    (λ none. (omega (arith, none), omega (arith, none))) (λ some enough. omega (arith, some)) within.0 in
    subst (ReportsNet len offset outer) (sym layer.2)
    (record {
      net = reported.reports;
      transport = packet_reports len offset (payload_end offset end (stated_len (of_ipv6 header))) place _ 40
          header.next_header.0 ipv6 (lax_ipv6_source header after.cut) after.cut after.chain after.refused
          (chain_fragments after.chain.parts) layer.0 after.is_chain layer.1 reported.reaches within.1;
    })

no_net_reports : (len offset : ℕ) (outer : Bool) (net : LaxNet) (error : SliceError) → IsNoNet outer net error
    → ReportsNet len offset outer net
no_net_reports len offset outer net error is =
    subst (ReportsNet len offset outer) (sym is) (record { net = refl; transport = refl })

net_reports : (len offset end place : ℕ) (outer : Bool) (kind : Option NetKind) (bytes : List ℕ) (net : LaxNet)
    → IsLaxNet place outer kind bytes net → Reaches len offset end outer (length bytes)
    → AreNested offset end (inner_headers net) → ReportsNet len offset outer net
net_reports len offset end place outer None bytes net is reaches nested =
    subst (ReportsNet len offset outer) (sym is) (record { net = refl; transport = refl })
net_reports len offset end place outer (Some only_ipv4) bytes net (inl refused) reaches nested =
    no_net_reports len offset outer net refused.0 refused.2
net_reports len offset end place outer (Some only_ipv4) bytes net (inr is) reaches nested =
    ipv4_reports len offset end place outer bytes net is reaches nested
net_reports len offset end place outer (Some only_ipv6) bytes net (inl refused) reaches nested =
    no_net_reports len offset outer net refused.0 refused.2
net_reports len offset end place outer (Some only_ipv6) bytes net (inr is) reaches nested =
    ipv6_reports len offset end place outer bytes net is reaches nested
net_reports len offset end place outer (Some only_arp) bytes net (inl refused) reaches nested =
    no_net_reports len offset outer net refused.0 refused.2
net_reports len offset end place outer (Some only_arp) bytes net (inr is) reaches nested =
    subst (ReportsNet len offset outer) (sym is.2) (record { net = refl; transport = refl })
net_reports len offset end place outer (Some any_ip) bytes net (inl is) reaches nested =
    ipv4_reports len offset end place outer bytes net is reaches nested
net_reports len offset end place outer (Some any_ip) bytes net (inr is) reaches nested =
    ipv6_reports len offset end place outer bytes net is reaches nested

-- ---- link extensions

tag_reports : (len offset end : ℕ) (outer : Bool) (type : EtherType) (bytes : List ℕ) (tagged : Tagged)
    → IsLaxExtension outer type bytes tagged → Reaches len offset end outer (length bytes)
    → EndsWithin offset (tag_len tagged.0) end (stated_len (tag_header tagged.0))
    → IsReported len offset end outer (tag_len tagged.0) (stated_len (tag_header tagged.0))
    (extension_payload tagged.0) tagged.1
tag_reports len offset end outer type bytes (vlan tag payload, incomplete) is reaches within =
    let count : length bytes ≡ 4 + length payload + 0 = three_lens bytes (vlan_bytes tag) payload [] is.1.parts in
    unlimited len offset end outer 4 (length bytes) payload incomplete reaches (omega (arith, count)) is.2
tag_reports len offset end outer type bytes (macsec tag payload, incomplete) is reaches within =
    let cut = is.1.0 in
    let packet = is.1.1 in
    let n = macsec_header_len tag in
    let stated = macsec_stated_len tag in
    let stated_part = stated_len (tag_header (macsec tag payload)) in
    let count : length bytes ≡ n + length packet.after_tag = omega (
      arith,
      two_lens bytes packet.header.encoded packet.after_tag packet.header.parts,
      macsec_encoded_len packet.header.encoded tag packet.header.encodes,
    ) in
    let none_is : tag.short_len ≡ 0 → stated ≡ 0 =
    λ none. ap (λ (s : ℕ). if s == 0 then 0 else 6 + sci_len tag.sci + s) none in
    let reported = field_limits len offset end tag.short_len n stated source.MacsecShortLength outer n packet.after_tag
    cut packet.cut (subst (Reaches len offset end outer) count reaches)
    (λ none. (omega (arith, none_is none), omega (arith, none_is none))) (λ some enough. enough) within in
    let shown = ap macsec_payload_bytes is.1.2 ∙ payload_by_is tag.ptype cut.source cut.payload in
    subst (λ (p : List ℕ). IsReported len offset end outer n stated_part p incomplete) (sym shown)
    (subst (IsReported len offset end outer n stated_part cut.payload) (sym is.1.3) reported)

-- The layers in bytes of an ether type report which payloads are truncated.
record ReportsInside (len offset : ℕ) (outer : Bool) (extensions : List Tagged) (net : LaxNet) : Type 0 where
  tags : ReportTruncatedTags len offset outer extensions
  inner : ReportsNet len (offset + tags_len (map extension_in extensions)) (last_tag_incomplete outer extensions) net

no_tags : (len offset : ℕ) (outer : Bool) (net : LaxNet) → ReportsNet len offset outer net
    → ReportsInside len offset outer [] net
no_tags len offset outer net reports =
    let same : offset ≡ offset + 0 = omega arith in
    record { tags = tt; inner = subst (λ (n : ℕ). ReportsNet len n outer net) same reports }

inside_reports : (exts_left len offset end place : ℕ) (outer : Bool) (type : Option EtherType) (bytes : List ℕ)
    (extensions : List Tagged) (net : LaxNet) → IsLaxInside exts_left place outer type bytes extensions net
    → Reaches len offset end outer (length bytes)
    → AreNested offset end (inside_headers extensions net) → ReportsInside len offset outer extensions net
inside_reports exts_left len offset end place outer None bytes extensions net is reaches nested =
    subst (λ (e : List Tagged). ReportsInside len offset outer e net) (sym is.0)
    (subst (ReportsInside len offset outer []) (sym is.1)
    (record { tags = tt; inner = record { net = refl; transport = refl } }))
inside_reports zero len offset end place outer (Some type) bytes [] net is reaches nested =
    no_tags len offset outer net (net_reports len offset end place outer (net_kind type) bytes net is reaches nested)
inside_reports zero len offset end place outer (Some type) bytes (tagged ∷ others) net is reaches nested = absurd is
inside_reports (suc exts_left) len offset end place outer (Some type) bytes [] net (inl is) reaches nested =
    no_tags len offset outer net (net_reports len offset end place outer (net_kind type) bytes net is.1 reaches nested)
inside_reports (suc exts_left) len offset end place outer (Some type) bytes [] net (inr refused) reaches nested =
    no_tags len offset outer net (no_net_reports len offset outer net refused.0 refused.2)
inside_reports (suc exts_left) len offset end place outer (Some type) bytes (tagged ∷ others) net is reaches nested =
    let n = tag_len tagged.0 in
    let stated = stated_len (tag_header tagged.0) in
    let rest = tags_len (map extension_in others) in
    let same : offset + n + rest ≡ offset + (n + rest) = omega arith in
    let here = tag_reports len offset end outer type bytes tagged is.0 reaches nested.0 in
    let next = inside_reports exts_left len (offset + n) (payload_end offset end stated) (place + n) tagged.1
    (extension_type tagged.0) (extension_payload tagged.0) others net is.1 here.reaches nested.1 in
    record {
      tags = (here.reports, next.tags);
      inner = subst (λ (m : ℕ). ReportsNet len m (last_tag_incomplete tagged.1 others) net) same next.inner;
    }

-- ---- complete packets

linked_reports : (len : ℕ) (read : LaxLayers) (link : Option LinkLayer) → read.link ≡ link
    → ReportsInside len (link_len link) false read.link_exts read.net → ReportsTruncatedPayloads len read
linked_reports len read link same reports =
    let present = subst (λ (l : Option LinkLayer). ReportsInside len (link_len l) false read.link_exts read.net)
    (sym same) reports in
    record { tags = present.tags; net = present.inner.net; transport = present.inner.transport }

-- The headers after a link header, if present, are nested.
abbrev AreNestedAfter : ℕ → LaxLayers → Option LinkLayer → Type 0
AreNestedAfter end read link = AreNested 0 end (link_headers link ++ inside_headers read.link_exts read.net)

linked_nested : (end : ℕ) (read : LaxLayers) (link : Option LinkLayer) → read.link ≡ link
    → AreNested 0 end (shown_headers read) → AreNestedAfter end read link
linked_nested end read link same nested = subst (AreNestedAfter end read) same nested

-- The payload after a link header goes on to the end of the bytes.
link_reaches : (end : ℕ) (bytes leading payload left : List ℕ) (len : ℕ) → length leading ≡ len
    → bytes ≡ (leading ++ payload) ++ left → left ≡ [] → length bytes ≤ end
    → Reaches (length bytes) len end false (length payload)
link_reaches end bytes leading payload left len is parts none within =
    let count = three_lens bytes leading payload left parts in
    inl (omega (arith, is, count, ap length none), within)

lax_reports : (entry : Entry) (bytes : List ℕ) (end : ℕ) (read : LaxLayers) → IsLax entry bytes read
    → length bytes ≤ end → AreNested 0 end (shown_headers read) → ReportsTruncatedPayloads (length bytes) read
lax_reports ethernet bytes end read is within nested =
    let frame = is.0 in
    let link = Some (ethernet2 frame.header frame.payload) in
    let len = link_encoded link (ethernet2_bytes frame.header) (is.1.fits, refl) in
    linked_reports (length bytes) read link is.2
    (inside_reports most_link_exts (length bytes) ethernet2_header_len end ethernet2_header_len false
    (Some frame.header.ether_type) frame.payload read.link_exts read.net is.3
    (link_reaches end bytes (ethernet2_bytes frame.header) frame.payload frame.left ethernet2_header_len len is.1.parts
    is.1.cut within) (linked_nested end read link is.2 nested).1)
lax_reports linux_sll bytes end read is within nested =
    let frame = is.0 in
    let link = Some (sll frame.header frame.payload) in
    let len = link_encoded link (linux_sll_bytes frame.header) (is.1.fits, refl) in
    linked_reports (length bytes) read link is.2
    (inside_reports most_link_exts (length bytes) linux_sll_header_len end linux_sll_header_len false
    (protocol_ether_type frame.header.protocol_type) frame.payload read.link_exts read.net is.3
    (link_reaches end bytes (linux_sll_bytes frame.header) frame.payload frame.left linux_sll_header_len len is.1.parts
    is.1.cut within) (linked_nested end read link is.2 nested).1)
lax_reports (ether_type type) bytes end read is within nested =
    let link = Some (ether_payload type source.Slice bytes) in
    linked_reports (length bytes) read link is.0
    (inside_reports most_link_exts (length bytes) 0 end 0 false (Some type) bytes read.link_exts read.net is.1
    (inl (omega arith, within)) (linked_nested end read link is.0 nested))
lax_reports ip bytes end read is within nested =
    let nested_net = subst (λ (e : List Tagged). AreNested 0 end (inside_headers e read.net)) is.1
    (linked_nested end read None is.0 nested) in
    linked_reports (length bytes) read None is.0
    (subst (λ (e : List Tagged). ReportsInside (length bytes) 0 false e read.net) (sym is.1)
    (no_tags (length bytes) 0 false read.net
    (net_reports (length bytes) 0 end 0 false (Some any_ip) bytes read.net is.2 (inl (omega arith, within))
    nested_net)))

-- The layers of the first bytes of a frame report which payloads are truncated.
pub prefix_reports : (entry : Entry) (prefix rest : List ℕ) (layers : Layers) (read : LaxLayers)
    → AreBytes (prefix ++ rest) → IsFrame entry (prefix ++ rest) layers → IsLax entry prefix read
    → ReportsTruncatedPayloads (length prefix) read
prefix_reports entry prefix rest layers read fits frame is =
    let end = length (prefix ++ rest) in
    let first = prefix_shows_headers entry prefix rest layers read fits frame is in
    let nested = subst (AreNested 0 end) first.parts (frame_nested entry (prefix ++ rest) layers frame) in
    lax_reports entry prefix end read is (omega (arith, length-append prefix rest))
    (first_nested 0 end (shown_headers read) first.more nested)
