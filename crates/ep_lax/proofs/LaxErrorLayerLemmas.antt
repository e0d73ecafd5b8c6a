-- Lax slicing stops only at errors reported with their layer, none of them caused by a length field.
use Rattle.std.proofs.Common.{◌≡◌, ◌==◌, if◌then◌else◌, ℕ, zero, suc, ◌+◌, Bool, true, false, List, [], ◌∷◌, length, slice_index, Option, Some, None, refl, sym, ap, subst, ◌∙◌, inl, inr}
use Rattle.std.specs.Prelude.{⊤}
use Rattle.std.specs.Option.{option_map}
use Rattle.ep_base.specs.IpNumbers.{authentication_number, fragment_number, icmpv4_number, icmpv6_number, tcp_number, udp_number}
use Rattle.ep_base.specs.IpPayload.{IpPayload}
use Rattle.ep_base.specs.LaxCut.{LaxCut, cuts}
use Rattle.ep_base.specs.Readings.{headers, slices}
use Rattle.ep_base.specs.Tables.{Refuses, RefusesAs, rows_as}
use Rattle.ep_base.specs.declared.ether_type.EtherType.{EtherType}
use Rattle.ep_base.specs.declared.len_source.LenSource.{LenSource}
use Rattle.ep_base.specs.declared.len_source.LenSource.TheVariants as source
use Rattle.ep_base.specs.declared.err.layer.Layer.{Layer}
use Rattle.ep_base.specs.declared.err.ip.LaxHeaderSliceError.{LaxHeaderSliceError}
use Rattle.ep_base.specs.declared.err.ipv6_exts.HeaderError.TheVariants as content
use Rattle.ep_base.specs.declared.err.ipv6_exts.HeaderSliceError.{HeaderSliceError as ExtsSliceError}
use Rattle.ep_base.specs.declared.err.ipv6_exts.HeaderSliceError.TheVariants as exts_error
use Rattle.ep_base.specs.declared.err.tcp.HeaderSliceError.{HeaderSliceError as TransportError}
use Rattle.ep_base.specs.declared.err.tcp.HeaderSliceError.TheVariants as transport_error
use Rattle.ep_base.proofs.TableLemmas.{AllErrors, refusal_is}
use Rattle.ep_ext.specs.Chains.{IpVersion, ipv4, ipv6, ExtensionChain, RefusesChainAfter, with_offset_in}
use Rattle.ep_ext.specs.ExtensionParts.{ExtensionPart, RefusesExtensionPart, auth_refusal, extension_part_rows, part_len, part_next}
use Rattle.ep_ext.specs.FragmentHeader.{fragment_header_rows}
use Rattle.ep_ext.specs.ChainPrefixes.{IsLaxChain}
use Rattle.ep_ext.specs.IpAuth.{ip_auth_rows}
use Rattle.ep_ext.specs.RawExtension.{raw_extension_rows}
use Rattle.ep_ip.specs.declared.ipv4_header.Ipv4Header.{Ipv4Header}
use Rattle.ep_ip.specs.declared.ipv6_header.Ipv6Header.{Ipv6Header}
use Rattle.ep_ip.specs.Ip.{version_of}
use Rattle.ep_ip.specs.IpPackets.{IpPacket}
use Rattle.ep_ip.specs.Ipv4.{ipv4_header_len, ipv4_header_rows, of_header_error}
use Rattle.ep_ip.specs.Ipv6.{ipv6_header_rows, ipv6_payload_source, of_header_error as of_ipv6_header_error}
use Rattle.ep_link.specs.Arp.{arp_rows}
use Rattle.ep_link.specs.Ethernet2.{ethernet2_header_len, ethernet2_rows}
use Rattle.ep_link.specs.LinuxSll.{linux_sll_header_len, linux_sll_rows, protocol_ether_type}
use Rattle.ep_link.specs.LinkExtensions.{extension_header, extension_payload, extension_type, link_ext_header_len}
use Rattle.ep_link.specs.Macsec.{macsec_header_rows}
use Rattle.ep_link.specs.Vlan.{vlan_rows}
use Rattle.ep_transport.specs.declared.transport_header.TransportHeader.{TransportHeader}
use Rattle.ep_transport.specs.declared.transport_header.TransportHeader.TheVariants as header
use Rattle.ep_transport.specs.Icmp.{kind_in}
use Rattle.ep_transport.specs.Icmpv4.{icmpv4_kind_at, icmpv4_kinds, icmpv4_row, icmpv4_rows, icmpv4_timestamp_rows}
use Rattle.ep_transport.specs.Icmpv6.{icmpv6_rows}
use Rattle.ep_transport.specs.Tcp.{tcp_rows}
use Rattle.ep_transport.specs.TransportParts.{RefusesTransportPart, TransportLayer, transport_rows}
use Rattle.ep_transport.specs.Udp.{udp_header_rows}
use Rattle.ep_packet.specs.declared.entry.Entry.{Entry}
use Rattle.ep_packet.specs.declared.entry.Entry.TheVariants.{Ethernet as ethernet, LinuxSll as linux_sll, EtherType as ether_type, Ip as ip}
use Rattle.ep_packet.specs.declared.err.slice_error.SliceError.{SliceError}
use Rattle.ep_packet.specs.declared.err.slice_error.SliceError.TheVariants.{Len}
use Rattle.ep_packet.specs.Frame.{NetKind, only_ipv4, only_ipv6, only_arp, any_ip, most_link_exts, net_kind}
use Rattle.ep_packet.specs.FrameRefusals.{RefusesTransportIn, extension_refusal, ipv4_refusal, ipv6_refusal, len_refusal, linux_sll_refusal, net_payload_offset, transport_refusal}
use Rattle.ep_packet.specs.Layers.{NetLayer, ipv4_layer, ipv6_layer}
use Rattle.ep_ip.specs.LaxIp.{LaxIp, IsLaxIpv4, IsLaxIpv6, lax_ipv6_source, stop_after}
use Rattle.ep_lax.specs.LaxLayers.{LaxLayers, LaxNet, LaxTransport, error_with_layer}
use Rattle.ep_ip.specs.LaxIp.{ip_header_rows, of_ipv4_header, of_ipv6_header}
use Rattle.ep_lax.specs.LaxRefusals.{RefusesLax, ip_header_refusal}
use Rattle.ep_lax.specs.Lax.{IsLimitedLaxly, IsHeaderLimitedLaxly, IsInsideIp, IsIpLayer, IsIpv4Net, IsIpv6Net, IsLax, IsLaxInside, IsLaxNet, IsLaxTransport, IsNoNet, RefusesLaxExtension, chain_refusal}
use Rattle.ep_lax.specs.LaxStops.{is_by_length, is_length_row, is_udp_length}
use Rattle.ep_lax.proofs.LaxLawLemmas.{Tagged}

-- If slicing stops at an error, this is reported with its layer and is not caused by a length field.
abbrev pub HasItsLayer : Option (SliceError × Layer) → Type 0
HasItsLayer None = ⊤
HasItsLayer (Some stop) = (stop ≡ error_with_layer stop.0) × (is_by_length stop.0 ≡ false)

-- A property of two values holds for the one chosen by a condition.
either_way : {A : Type 0} (P : A → Type 0) (condition : Bool) (a b : A) → P a → P b
    → P (if condition then a else b)
either_way P true a b here present = here
either_way P false a b here present = present

-- An error of a table without errors of length fields is not caused by a length field in the frame either.
placed : {E : Type 0} (place : E → SliceError) (rows : List (Bool × E))
    → AllErrors (λ (e : E). is_by_length (place e) ≡ false) rows → (error : SliceError)
    → RefusesAs place (Refuses rows) error → is_by_length error ≡ false
placed place rows all error refused =
    ap is_by_length refused.2 ∙ refusal_is (λ e. is_by_length (place e) ≡ false) rows all refused.0 refused.1

-- ---- transport layer

-- A property of no kind and of each kind in a table holds for the kind found.
abbrev AllKinds : {K : Type 0} → (Option K → Type 0) → List K → Type 0
AllKinds P [] = Unit {0}
AllKinds P (kind ∷ others) = P (Some kind) × AllKinds P others

kind_found : {K : Type 0} (row : K → ℕ × ℕ) (kinds : List K) (P : Option K → Type 0) → P None → AllKinds P kinds
    → (type code : ℕ) → P (kind_in row kinds type code)
kind_found row [] P none all type code = none
kind_found row (kind ∷ others) P none all type code =
    either_way P _ (Some kind) (kind_in row others type code) all.0 (kind_found row others P none all.1 type code)

timestamps_placed : (offset : ℕ) (end : LenSource) (bytes : List ℕ) (n : ℕ)
    → AllErrors (λ (e : TransportError). is_by_length (transport_refusal offset end e) ≡ false)
    (rows_as transport_error.Len (icmpv4_timestamp_rows (icmpv4_kind_at bytes) n))
timestamps_placed offset end bytes n =
    kind_found icmpv4_row icmpv4_kinds
    (λ of. AllErrors (λ (e : TransportError). is_by_length (transport_refusal offset end e) ≡ false)
    (rows_as transport_error.Len (icmpv4_timestamp_rows of n))) tt
    (tt, (tt, (tt, (tt, (tt, (tt, ((refl, tt), ((refl, tt), tt)))))))) (slice_index bytes 0) (slice_index bytes 1)

transport_placed : (offset : ℕ) (end : LenSource) → is_udp_length end ≡ false → (number : ℕ) (bytes : List ℕ)
    → AllErrors (λ (e : TransportError). is_by_length (transport_refusal offset end e) ≡ false)
    (transport_rows headers number bytes)
transport_placed offset end not_udp number bytes =
    let Such : TransportError → Type 0 = λ e. is_by_length (transport_refusal offset end e) ≡ false in
    either_way (AllErrors Such) (number == udp_number) (rows_as transport_error.Len (udp_header_rows bytes)) _ (not_udp, tt)
    (either_way (AllErrors Such) (number == tcp_number) (tcp_rows bytes) _ (refl, (refl, (refl, tt)))
    (either_way (AllErrors Such) (number == icmpv4_number) (rows_as transport_error.Len (icmpv4_rows bytes)) _
    (refl, timestamps_placed offset end bytes (length bytes))
    (either_way (AllErrors Such) (number == icmpv6_number) (rows_as transport_error.Len (icmpv6_rows bytes)) [] (refl, tt) tt)))

transport_not_long : (offset : ℕ) (payload : IpPayload) (error : SliceError) → is_udp_length payload.source ≡ false
    → RefusesTransportIn headers offset payload error → is_by_length error ≡ false
transport_not_long offset payload error not_udp refused =
    ap is_by_length refused.2 ∙ by_part payload.fragmented refused.1
  where
    by_part : (fragmented : Bool) → RefusesTransportPart headers payload.number fragmented payload.bytes refused.0
        → is_by_length (transport_refusal offset payload.source refused.0) ≡ false
    by_part true why =
        refusal_is (λ e. is_by_length (transport_refusal offset payload.source e) ≡ false) [] tt refused.0 why
    by_part false why =
        refusal_is (λ e. is_by_length (transport_refusal offset payload.source e) ≡ false)
        (transport_rows headers payload.number payload.bytes)
        (transport_placed offset payload.source not_udp payload.number payload.bytes) refused.0 why

header_reported : (outer : Bool) (read : TransportHeader) (payload : List ℕ) (lax : LaxTransport)
    → IsHeaderLimitedLaxly outer read payload lax → HasItsLayer lax.stop
header_reported outer (header.Udp udp) payload lax is = subst (λ (l : LaxTransport). HasItsLayer l.stop) (sym is.2) tt
header_reported outer (header.Tcp tcp) payload lax is = subst (λ (l : LaxTransport). HasItsLayer l.stop) (sym is) tt
header_reported outer (header.Icmpv4 icmp) payload lax is = subst (λ (l : LaxTransport). HasItsLayer l.stop) (sym is) tt
header_reported outer (header.Icmpv6 icmp) payload lax is = subst (λ (l : LaxTransport). HasItsLayer l.stop) (sym is) tt

part_reported : (outer : Bool) (part : Option TransportLayer) (lax : LaxTransport) → IsLimitedLaxly outer part lax
    → HasItsLayer lax.stop
part_reported outer None lax is = subst (λ (l : LaxTransport). HasItsLayer l.stop) (sym is) tt
part_reported outer (Some layer) lax is = header_reported outer layer.header layer.payload lax is

transport_reported : (offset : ℕ) (outer : Bool) (payload : IpPayload) (lax : LaxTransport)
    → is_udp_length payload.source ≡ false → IsLaxTransport offset outer payload lax → HasItsLayer lax.stop
transport_reported offset outer payload lax not_udp (inl refused) =
    subst (λ (l : LaxTransport). HasItsLayer l.stop) (sym refused.2)
    (refl, transport_not_long offset payload refused.0 not_udp refused.1)
transport_reported offset outer payload lax not_udp (inr found) = part_reported outer found.0 lax found.2

-- ---- IP packets

-- The error of a rejected extension header is not caused by a length field, whatever the source of its length.
abbrev IsOther : ExtsSliceError → Type 0
IsOther (exts_error.Len error) = (end : LenSource) → is_length_row error.layer end ≡ false
IsOther (exts_error.Content error) = ⊤

further_other : (offset : ℕ) (error : ExtsSliceError) → IsOther error → IsOther (with_offset_in offset error)
further_other offset (exts_error.Len error) is = is
further_other offset (exts_error.Content error) is = is

part_other : (number : ℕ) (bytes : List ℕ) (error : ExtsSliceError) → RefusesExtensionPart number bytes error
    → IsOther error
part_other number bytes error refused =
    refusal_is IsOther (extension_part_rows number bytes)
    (either_way (AllErrors IsOther) (number == authentication_number) (rows_as auth_refusal (ip_auth_rows bytes)) _
    ((λ end. refl), (tt, ((λ end. refl), tt)))
    (either_way (AllErrors IsOther) (number == fragment_number) (rows_as exts_error.Len (fragment_header_rows bytes))
    (rows_as exts_error.Len (raw_extension_rows bytes)) ((λ end. refl), tt) ((λ end. refl), ((λ end. refl), tt))))
    error refused

chain_other : (version : IpVersion) (taken : List ℕ) (offset number : ℕ) (bytes : List ℕ) (parts : List ExtensionPart)
    (error : ExtsSliceError) → RefusesChainAfter version slices taken offset number bytes parts error → IsOther error
chain_other version taken offset number bytes [] error (inl misplaced) = subst IsOther (sym misplaced.1) tt
chain_other version taken offset number bytes [] error (inr refused) =
    let why = refused.1 in
    subst IsOther (sym why.2) (further_other offset why.0 (part_other number bytes why.0 why.1))
chain_other version taken offset number bytes (part ∷ parts) error refused =
    chain_other version (number ∷ taken) (offset + part_len part) (part_next part) refused.1.0 parts error refused.1.2

-- Its error in the packet is not caused by a length field.
chain_not_long : (version : IpVersion) (offset header_len : ℕ) (end : LenSource) (error : ExtsSliceError)
    → IsOther error → is_by_length (chain_refusal version offset (stop_after header_len end error)) ≡ false
chain_not_long version offset header_len end (exts_error.Len error) is = is _
chain_not_long version offset header_len end (exts_error.Content content.HopByHopNotAtStart) is = refl
chain_not_long ipv4 offset header_len end (exts_error.Content (content.IpAuth error)) is = refl
chain_not_long ipv6 offset header_len end (exts_error.Content (content.IpAuth error)) is = refl

-- The error at which slicing of a packet stops, if any, is not caused by a length field.
abbrev IsOtherStop : IpVersion → ℕ → Option ExtsSliceError → Type 0
IsOtherStop version offset None = ⊤
IsOtherStop version offset (Some error) = is_by_length (chain_refusal version offset error) ≡ false

prefix_other : (version : IpVersion) (offset header_len number : ℕ) (bytes : List ℕ) (end : LenSource)
    (chain : ExtensionChain) (refused : Option ExtsSliceError) → IsLaxChain version number bytes chain refused
    → IsOtherStop version offset (option_map (stop_after header_len end) refused)
prefix_other version offset header_len number bytes end chain None is = tt
prefix_other version offset header_len number bytes end chain (Some error) is =
    chain_not_long version offset header_len end error
    (chain_other version [] 0 number bytes chain.parts error is.0)

-- The error of a packet is not caused by a length field, and its payload's length is not from UDP.
abbrev IsOtherIp : {Header : Type 0} → IpVersion → ℕ → LaxIp Header → Type 0
IsOtherIp version offset lax =
    (is_udp_length lax.packet.payload.source ≡ false) × IsOtherStop version offset lax.stop

either_end : (condition : Bool) (end other : LenSource) → is_udp_length end ≡ false → is_udp_length other ≡ false
    → is_udp_length (if condition then end else other) ≡ false
either_end = either_way (λ (end : LenSource). is_udp_length end ≡ false)

cut_end : (least stated present : ℕ) (end : LenSource) (cut : LaxCut) → is_udp_length end ≡ false
    → cut.source ≡ (if cuts least stated present then end else source.Slice) → is_udp_length cut.source ≡ false
cut_end least stated present end cut not_udp same =
    ap is_udp_length same ∙ either_end (cuts least stated present) end source.Slice not_udp refl

ipv4_other : (offset : ℕ) (outer : Bool) (bytes : List ℕ) (lax : LaxIp Ipv4Header) → IsLaxIpv4 outer bytes lax
    → IsOtherIp ipv4 offset lax
ipv4_other offset outer bytes lax is =
    let header = is.0.0 in
    let n = ipv4_header_len header in
    let after = is.2 in
    subst (IsOtherIp ipv4 offset) (sym after.is) (
      cut_end n header.total_len (n + length is.0.1) source.Ipv4HeaderTotalLen after.cut refl after.cuts.source,
      prefix_other ipv4 offset n header.protocol.0 after.cut.payload after.cut.source after.chain after.refused
          after.is_chain,
    )

ipv6_other : (offset : ℕ) (outer : Bool) (bytes : List ℕ) (lax : LaxIp Ipv6Header) → IsLaxIpv6 outer bytes lax
    → IsOtherIp ipv6 offset lax
ipv6_other offset outer bytes lax is =
    let header = is.0.0 in
    let after = is.2 in
    let end = lax_ipv6_source header after.cut in
    let known = cut_end 41 (40 + header.payload_length) (40 + length is.0.1) source.Ipv6HeaderPayloadLen after.cut
    refl after.cuts.source in
    subst (IsOtherIp ipv6 offset) (sym after.is) (
      either_end (header.payload_length == 0) (ipv6_payload_source header after.cut.payload) after.cut.source
          (either_end _ source.Slice source.Ipv6HeaderPayloadLen refl refl) known,
      prefix_other ipv6 offset 40 header.next_header.0 after.cut.payload end after.chain after.refused
          after.is_chain,
    )

inside_reported : (version : IpVersion) (offset len : ℕ) (incomplete : Bool) (payload : IpPayload)
    (stop : Option ExtsSliceError) (inside : LaxTransport) → is_udp_length payload.source ≡ false
    → IsOtherStop version offset stop → IsInsideIp version offset len incomplete payload stop inside
    → HasItsLayer inside.stop
inside_reported version offset len incomplete payload None inside not_udp other is =
    transport_reported (offset + len) incomplete payload inside not_udp is
inside_reported version offset len incomplete payload (Some error) inside not_udp other is =
    subst (λ (l : LaxTransport). HasItsLayer l.stop) (sym is) (refl, other)

ip_reported : {Header : Type 0} (version : IpVersion) (layer_of : IpPacket Header → NetLayer) (offset : ℕ)
    (lax : LaxIp Header) (net : LaxNet) → IsOtherIp version offset lax → IsIpLayer version layer_of offset lax net
    → HasItsLayer net.inside.stop
ip_reported version layer_of offset lax net other is =
    subst (λ (n : LaxNet). HasItsLayer n.inside.stop) (sym is.2)
    (inside_reported version offset (net_payload_offset (layer_of lax.packet)) lax.incomplete lax.packet.payload lax.stop is.0
    other.0 other.1 is.1)

-- ---- network layer

none_reported : (outer : Bool) (net : LaxNet) (error : SliceError) → IsNoNet outer net error
    → is_by_length error ≡ false → HasItsLayer net.inside.stop
none_reported outer net error is by_other = subst (λ (n : LaxNet). HasItsLayer n.inside.stop) (sym is) (refl, by_other)

ipv4_reported : (offset : ℕ) (outer : Bool) (bytes : List ℕ) (net : LaxNet) → IsIpv4Net offset outer bytes net
    → HasItsLayer net.inside.stop
ipv4_reported offset outer bytes net is =
    ip_reported ipv4 ipv4_layer offset is.0 net (ipv4_other offset outer bytes is.0 is.1) is.2

ipv6_reported : (offset : ℕ) (outer : Bool) (bytes : List ℕ) (net : LaxNet) → IsIpv6Net offset outer bytes net
    → HasItsLayer net.inside.stop
ipv6_reported offset outer bytes net is =
    ip_reported ipv6 ipv6_layer offset is.0 net (ipv6_other offset outer bytes is.0 is.1) is.2

pub net_reported : (offset : ℕ) (outer : Bool) (kind : Option NetKind) (bytes : List ℕ) (net : LaxNet)
    → IsLaxNet offset outer kind bytes net → HasItsLayer net.inside.stop
net_reported offset outer None bytes net is = subst (λ (n : LaxNet). HasItsLayer n.inside.stop) (sym is) tt
net_reported offset outer (Some only_ipv4) bytes net (inl refused) =
    none_reported outer net refused.0 refused.2
    (placed (λ e. ipv4_refusal offset (of_header_error e)) (ipv4_header_rows bytes) (refl, (refl, (refl, (refl, tt))))
    refused.0 refused.1)
net_reported offset outer (Some only_ipv4) bytes net (inr is) = ipv4_reported offset outer bytes net is
net_reported offset outer (Some only_ipv6) bytes net (inl refused) =
    none_reported outer net refused.0 refused.2
    (placed (λ e. ipv6_refusal offset (of_ipv6_header_error e)) (ipv6_header_rows bytes) (refl, (refl, tt))
    refused.0 refused.1)
net_reported offset outer (Some only_ipv6) bytes net (inr is) = ipv6_reported offset outer bytes net is
net_reported offset outer (Some only_arp) bytes net (inl refused) =
    none_reported outer net refused.0 refused.2
    (placed (len_refusal offset) (arp_rows bytes) (refl, (refl, tt)) refused.0 refused.1)
net_reported offset outer (Some only_arp) bytes net (inr is) =
    subst (λ (n : LaxNet). HasItsLayer n.inside.stop) (sym is.2) tt
net_reported offset outer (Some any_ip) bytes net (inl is) = ipv4_reported offset outer bytes net is
net_reported offset outer (Some any_ip) bytes net (inr is) = ipv6_reported offset outer bytes net is

-- ---- link extensions

extension_not_long : (offset : ℕ) (type : EtherType) (bytes : List ℕ) (error : SliceError)
    → RefusesLaxExtension offset type bytes error → is_by_length error ≡ false
extension_not_long offset type bytes error (inl refused) =
    placed (len_refusal offset) (vlan_rows bytes) (refl, tt) error refused.1
extension_not_long offset type bytes error (inr refused) =
    placed (extension_refusal offset) (macsec_header_rows bytes) (refl, (refl, (refl, (refl, tt)))) error refused.1

inside_is_reported : (space offset : ℕ) (outer : Bool) (type : Option EtherType) (bytes : List ℕ) (extensions : List Tagged)
    (net : LaxNet) → IsLaxInside space offset outer type bytes extensions net → HasItsLayer net.inside.stop
inside_is_reported space offset outer None bytes extensions net is =
    subst (λ (n : LaxNet). HasItsLayer n.inside.stop) (sym is.1) tt
inside_is_reported zero offset outer (Some type) bytes [] net is = net_reported offset outer (net_kind type) bytes net is
inside_is_reported zero offset outer (Some type) bytes (extension ∷ others) net is = absurd is
inside_is_reported (suc space) offset outer (Some type) bytes [] net (inl is) =
    net_reported offset outer (net_kind type) bytes net is.1
inside_is_reported (suc space) offset outer (Some type) bytes [] net (inr refused) =
    none_reported outer net refused.0 refused.2 (extension_not_long offset type bytes refused.0 refused.1)
inside_is_reported (suc space) offset outer (Some type) bytes (extension ∷ others) net is =
    inside_is_reported space (offset + link_ext_header_len (extension_header extension.0)) extension.1
    (extension_type extension.0) (extension_payload extension.0) others net is.1

-- ---- complete packets

pub lax_reported : (entry : Entry) (bytes : List ℕ) (read : LaxLayers) → IsLax entry bytes read
    → HasItsLayer read.net.inside.stop
lax_reported ethernet bytes read is =
    inside_is_reported most_link_exts ethernet2_header_len false (Some is.0.header.ether_type) is.0.payload read.link_exts
    read.net is.3
lax_reported linux_sll bytes read is =
    inside_is_reported most_link_exts linux_sll_header_len false (protocol_ether_type is.0.header.protocol_type)
    is.0.payload read.link_exts read.net is.3
lax_reported (ether_type type) bytes read is =
    inside_is_reported most_link_exts 0 false (Some type) bytes read.link_exts read.net is.1
lax_reported ip bytes read is = net_reported 0 false (Some any_ip) bytes read.net is.2

-- The error of a rejected first header is not caused by a length field.
pub first_not_long : (entry : Entry) (bytes : List ℕ) (error : SliceError) → RefusesLax entry bytes error
    → is_by_length error ≡ false
first_not_long ethernet bytes error refused = placed Len (ethernet2_rows bytes) (refl, tt) error refused
first_not_long linux_sll bytes error refused =
    placed linux_sll_refusal (linux_sll_rows bytes) (refl, (refl, (refl, tt))) error refused
first_not_long (ether_type type) bytes error refused = absurd refused
first_not_long ip bytes error refused =
    let Such : LaxHeaderSliceError → Type 0 = λ e. is_by_length (ip_header_refusal e) ≡ false in
    placed ip_header_refusal (ip_header_rows bytes) (
      refl,
      (
        refl,
        either_way (AllErrors Such) (version_of bytes == 4) (rows_as of_ipv4_header (ipv4_header_rows bytes))
            (rows_as of_ipv6_header (ipv6_header_rows bytes)) (refl, (refl, (refl, (refl, tt)))) (refl, (refl, tt)),
      ),
    )
    error refused
