-- Lax slicing reports the errors of strict slicing that are not caused by a length field.
use Rattle.std.proofs.Common.{◌≡◌, ◌⊎◌, ◌==◌, if◌then◌else◌, nat_lt, ◌&&◌, ℕ, zero, suc, ◌+◌, ◌*◌, Bool, true, false, List, [], ◌∷◌, ◌++◌, length, Option, Some, None, refl, sym, ap, subst, ◌∙◌, inl, inr}
use Rattle.ep_base.specs.Bytes.{AreBytes, word_at}
use Rattle.ep_base.specs.IpNumbers.{udp_number}
use Rattle.ep_base.specs.IpPayload.{IpPayload}
use Rattle.ep_base.specs.Readings.{headers, slices, after_header, limited_by, len_error}
use Rattle.ep_base.specs.Tables.{Parts, Refuses, RefusesAs, rows_as}
use Rattle.ep_base.specs.declared.ether_type.EtherType.{EtherType}
use Rattle.ep_base.specs.declared.len_source.LenSource.{LenSource}
use Rattle.ep_base.specs.declared.len_source.LenSource.TheVariants as source
use Rattle.ep_base.specs.declared.err.layer.Layer.TheVariants as layer
use Rattle.ep_base.specs.declared.err.ip_auth.HeaderSliceError.{HeaderSliceError as AuthSliceError}
use Rattle.ep_base.specs.declared.err.ip_auth.HeaderSliceError.TheVariants as auth_error
use Rattle.ep_base.specs.declared.err.ipv4.SliceError.{SliceError as Ipv4SliceError}
use Rattle.ep_base.specs.declared.err.ipv4.SliceError.TheVariants as ipv4_error
use Rattle.ep_base.specs.declared.err.ipv6.SliceError.{SliceError as Ipv6SliceError}
use Rattle.ep_base.specs.declared.err.ipv6.SliceError.TheVariants as ipv6_error
use Rattle.ep_base.specs.declared.err.ipv6_exts.HeaderError.TheVariants as content
use Rattle.ep_base.specs.declared.err.ipv6_exts.HeaderSliceError.{HeaderSliceError as ExtsSliceError}
use Rattle.ep_base.specs.declared.err.ipv6_exts.HeaderSliceError.TheVariants as exts_error
use Rattle.ep_base.specs.declared.err.macsec.HeaderSliceError.{HeaderSliceError as TagError}
use Rattle.ep_base.specs.declared.err.macsec.HeaderSliceError.TheVariants as tag_error
use Rattle.ep_base.specs.declared.err.tcp.HeaderSliceError.{HeaderSliceError as TransportError}
use Rattle.ep_base.specs.declared.err.tcp.HeaderSliceError.TheVariants as transport_error
use Rattle.ep_base.proofs.BytesLemmas.{AreBytes-payload}
use Rattle.ep_base.proofs.MissingLemmas.{first_row-either}
use Rattle.ep_base.proofs.TableLemmas.{refusal_is}
use Rattle.ep_ext.specs.Chains.{IpVersion, ipv4, ipv6, ExtensionChain, RefusesExtensionChain, chain_fragments}
use Rattle.ep_ext.specs.ExtensionParts.{auth_refusal}
use Rattle.ep_ext.specs.ChainPrefixes.{IsLaxChain}
use Rattle.ep_ext.proofs.ChainLemmas.{chain_decided, refused_no_chain}
use Rattle.ep_ext.proofs.PrefixLemmas.{prefix_is_one}
use Rattle.ep_ext.proofs.HeaderLawLemmas.{header_laws}
use Rattle.ep_ext.proofs.PartLemmas.{refused_under}
use Rattle.ep_ip.specs.declared.ipv4_header.Ipv4Header.{Ipv4Header}
use Rattle.ep_ip.specs.declared.ipv6_header.Ipv6Header.{Ipv6Header}
use Rattle.ep_ip.specs.IpPackets.{IpPacket, IsIpv4, IsIpv6, RefusesIpv4, RefusesIpv4Chain, RefusesIpv6, RefusesIpv6Chain, ipv4_chain_refusal, ipv6_chain_refusal}
use Rattle.ep_ip.specs.Ipv4.{IsIpv4Packet, RefusesIpv4Header, RefusesIpv4Packet, ipv4_header_len, ihl_of, ipv4_header_rows, is_ipv4_fragment, of_header_error}
use Rattle.ep_ip.specs.Ipv6.{IsIpv6Packet, RefusesIpv6Header, RefusesIpv6Packet, ipv6_bytes, ipv6_header_rows, ipv6_payload_source, of_header_error as of_ipv6_header_error}
use Rattle.ep_link.specs.LinkExtensions.{extension_header, extension_payload, extension_type, link_ext_header_len}
use Rattle.ep_link.specs.Macsec.{macsec_header_rows, macsec_len_of}
use Rattle.ep_link.specs.Vlan.{vlan_rows}
use Rattle.ep_transport.specs.TransportParts.{RefusesTransportPart}
use Rattle.ep_transport.specs.Udp.{udp_header_rows, udp_rows}
use Rattle.ep_packet.specs.declared.err.slice_error.SliceError.{SliceError}
use Rattle.ep_packet.specs.Frame.{NetKind, only_ipv4, only_ipv6, only_arp, net_kind}
use Rattle.ep_packet.specs.FrameRefusals.{RefusesExtensionAt, RefusesInside, RefusesNetPart, RefusesTransportAfterNet, RefusesTransportIn, extension_refusal, ipv4_refusal, ipv6_refusal, len_refusal, net_payload_offset, transport_refusal}
use Rattle.ep_packet.specs.Layers.{NetLayer, ipv4_layer, ipv6_layer, net_payload}
use Rattle.ep_ip.specs.LaxIp.{lax_ip_of, lax_ipv6_source, stop_after}
use Rattle.ep_lax.specs.LaxLayers.{LaxNet, net_with, no_net, no_transport, error_with_layer}
use Rattle.ep_lax.specs.Lax.{IsIpv4Net, IsIpv6Net, IsLaxInside, IsLaxNet, IsLaxTransport, RefusesLaxExtension, chain_refusal}
use Rattle.ep_lax.specs.LaxStops.{is_by_length, is_length_row}
use Rattle.ep_lax.proofs.LaxLawLemmas.{Tagged, kind_cases, lax_extension_fits}
use Rattle.ep_lax.proofs.StrictLemmas.{extension_is_complete, ipv4_cuts, ipv4_net_with, ipv6_cuts, ipv6_net_with, complete_cut, complete_extension}

-- An error is not both caused by a length field and not caused by one.
not_both_rows : (error other : SliceError) → error ≡ other → is_by_length other ≡ true
    → is_by_length error ≡ false → ⊥
not_both_rows error other same by_length by_other =
    absurd (let one : is_by_length error ≡ true = ap is_by_length same ∙ by_length in cc)

-- Lax slicing of the network layer stops at this error.
abbrev pub StopsIn : (LaxNet → Type 0) → SliceError → Type 0
StopsIn Is error = (net : LaxNet) × Is net × (net.inside.stop ≡ Some (error_with_layer error))

-- ---- transport layer

-- The error is caused by the length field of UDP, whatever the source of its length.
abbrev ByUdpLength : TransportError → Type 0
ByUdpLength (transport_error.Len error) =
    (end : LenSource) → is_length_row error.layer (limited_by end error.len_source) ≡ true
ByUdpLength (transport_error.Content error) = ⊥

by_udp_length : (offset : ℕ) (end : LenSource) (error : TransportError) → ByUdpLength error
    → is_by_length (transport_refusal offset end error) ≡ true
by_udp_length offset end (transport_error.Len error) is = is end
by_udp_length offset end (transport_error.Content error) is = absurd is

-- If two tables differ only when a condition holds, a refusal of one is a refusal of the other or has the property.
chosen : {E : Type 0} (Such : E → Type 0) (condition : Bool) (rows other those : List (Bool × E)) (error : E)
    → (Refuses rows error → Refuses other error ⊎ Such error)
    → Refuses (if condition then rows else those) error
    → Refuses (if condition then other else those) error ⊎ Such error
chosen Such true rows other those error either refused = either refused
chosen Such false rows other those error either refused = inl refused

udp_alone : (bytes : List ℕ) (error : TransportError)
    → Refuses (rows_as transport_error.Len (udp_rows bytes)) error
    → Refuses (rows_as transport_error.Len (udp_header_rows bytes)) error ⊎ ByUdpLength error
udp_alone bytes error refused =
    let field = word_at bytes 4 in
    let back : List (Bool × TransportError) = (
      nat_lt 0 field && nat_lt field 8,
      transport_error.Len (len_error 8 field source.UdpHeaderLen layer.UdpHeader),
    )
    ∷ (
      nat_lt (length bytes) field,
      transport_error.Len (len_error field (length bytes) source.Slice layer.UdpPayload),
    )
    ∷ [] in
    elim (first_row-either (rows_as transport_error.Len (udp_header_rows bytes)) back error refused) [
      | inl here ↦ inl here
      | inr after ↦ inr (refusal_is ByUdpLength back ((λ end. refl), ((λ end. refl), tt)) error after)
    ]

-- Slices are rejected as headers are, or by the length field of UDP.
transport_alone : (number : ℕ) (fragmented : Bool) (bytes : List ℕ) (error : TransportError)
    → RefusesTransportPart slices number fragmented bytes error
    → RefusesTransportPart headers number fragmented bytes error ⊎ ByUdpLength error
transport_alone number true bytes error refused = inl refused
transport_alone number false bytes error refused =
    chosen ByUdpLength (number == udp_number) (rows_as transport_error.Len (udp_rows bytes))
    (rows_as transport_error.Len (udp_header_rows bytes)) _ error (udp_alone bytes error) refused

transport_stops : (offset : ℕ) (payload : IpPayload) (error : SliceError)
    → RefusesTransportIn slices offset payload error → is_by_length error ≡ false
    → IsLaxTransport offset false payload (no_transport false (Some (error_with_layer error)))
transport_stops offset payload error refused by_other =
    elim (transport_alone payload.number payload.fragmented payload.bytes refused.0 refused.1) [
      | inl also ↦ inl (error, (refused.0, also, refused.2), refl)
      | inr by_length ↦ absurd (not_both_rows error (transport_refusal offset payload.source refused.0) refused.2
          (by_udp_length offset payload.source refused.0 by_length) by_other)
    ]

-- ---- extension headers

-- A rejected chain has a result of lax parsing that stops at its error.
prefix_refused : (version : IpVersion) (number : ℕ) (bytes : List ℕ) → AreBytes bytes → (error : ExtsSliceError)
    → RefusesExtensionChain version slices number bytes error
    → (chain : ExtensionChain) × IsLaxChain version number bytes chain (Some error)
prefix_refused version number bytes fits error refused =
    let one = prefix_is_one version number bytes fits in
    (one.value.0, stops one.value.0 one.value.1 one.is)
  where
    stops : (chain : ExtensionChain) (stop : Option ExtsSliceError) → IsLaxChain version number bytes chain stop
        → IsLaxChain version number bytes chain (Some error)
    stops chain None is =
        absurd (refused_no_chain header_laws version slices number bytes fits error refused chain is)
    stops chain (Some other) is =
        let same = (chain_decided header_laws version slices number bytes fits).one_error other error
        (chain.parts, is.0) refused in
        subst (λ (e : ExtsSliceError). IsLaxChain version number bytes chain (Some e)) same is

-- The error of the authentication header is reported as strict slicing reports it.
auth_reported : (offset : ℕ) (header : Ipv4Header) (error : AuthSliceError)
    → chain_refusal ipv4 offset (stop_after (ipv4_header_len header) source.Ipv4HeaderTotalLen (auth_refusal error))
    ≡ ipv4_refusal offset (ipv4_chain_refusal header error)
auth_reported offset header (auth_error.Len error) = refl
auth_reported offset header (auth_error.Content error) = refl

chain_reported : (offset : ℕ) (header : Ipv6Header) (after : List ℕ) (end : LenSource) (error : ExtsSliceError)
    → ipv6_payload_source header after ≡ end
    → chain_refusal ipv6 offset (stop_after 40 end error)
    ≡ ipv6_refusal offset (ipv6_chain_refusal header after error)
chain_reported offset header after end (exts_error.Len error) same =
    ap (λ (s : LenSource). len_refusal offset (after_header 40 s error)) (sym same)
chain_reported offset header after end (exts_error.Content content.HopByHopNotAtStart) same = refl
chain_reported offset header after end (exts_error.Content (content.IpAuth error)) same = refl

-- ---- IP packets

pub ipv4_chain_stops : (offset : ℕ) (bytes : List ℕ) → AreBytes bytes → (cut : Parts Ipv4Header)
    → IsIpv4Packet bytes cut → (error : Ipv4SliceError) → RefusesIpv4Chain slices cut error
    → StopsIn (IsIpv4Net offset false bytes) (ipv4_refusal offset error)
ipv4_chain_stops offset bytes fits cut is error refused =
    let header = cut.header in
    let n = ipv4_header_len header in
    let read = ipv4_cuts bytes cut is in
    let content = AreBytes-payload bytes is.encoded cut.payload cut.left fits is.parts in
    let why = auth_refusal refused.0 in
    let prefix = prefix_refused ipv4 header.protocol.0 cut.payload content why refused.1 in
    let taken = complete_cut cut.payload cut.left source.Ipv4HeaderTotalLen in
    let lax = lax_ip_of header n (is_ipv4_fragment header) taken.source taken prefix.0 (Some why) in
    let inside = no_transport false (Some (error_with_layer (chain_refusal ipv4 offset (stop_after n taken.source why)))) in (
      net_with (ipv4_layer lax.packet) false inside,
      (
        lax,
        (
          (header, cut.payload ++ cut.left),
          read.0,
          record { cut = taken; chain = prefix.0; refused = Some why; cuts = read.1; is_chain = prefix.1; is = refl },
        ),
        (inside, refl, refl),
      ),
      ap (λ (e : SliceError). Some (error_with_layer e))
          (auth_reported offset header refused.0 ∙ ap (ipv4_refusal offset) (sym refused.2)),
    )

pub ipv6_chain_stops : (offset : ℕ) (bytes : List ℕ) → AreBytes bytes → (cut : Parts Ipv6Header)
    → IsIpv6Packet bytes cut → (error : Ipv6SliceError) → RefusesIpv6Chain slices cut error
    → StopsIn (IsIpv6Net offset false bytes) (ipv6_refusal offset error)
ipv6_chain_stops offset bytes fits cut is error refused =
    let header = cut.header in
    let read = ipv6_cuts bytes cut is in
    let content = AreBytes-payload bytes (ipv6_bytes header) cut.payload cut.left fits is.parts in
    let why = refused.0 in
    let prefix = prefix_refused ipv6 header.next_header.0 cut.payload content why refused.1 in
    let taken = complete_cut cut.payload cut.left read.1.0 in
    let end = lax_ipv6_source header taken in
    let lax = lax_ip_of header 40 (chain_fragments prefix.0.parts) end taken prefix.0 (Some why) in
    let inside = no_transport false (Some (error_with_layer (chain_refusal ipv6 offset (stop_after 40 end why)))) in (
      net_with (ipv6_layer lax.packet) false inside,
      (
        lax,
        (
          (header, cut.payload ++ cut.left),
          read.0,
          record { cut = taken; chain = prefix.0; refused = Some why; cuts = read.1.1; is_chain = prefix.1; is = refl },
        ),
        (inside, refl, refl),
      ),
      ap (λ (e : SliceError). Some (error_with_layer e))
          (chain_reported offset header cut.payload end why read.1.2 ∙ ap (ipv6_refusal offset) (sym refused.2)),
    )

-- The rows of a packet are those of its header and these of its length field.
abbrev pub ipv4_length_rows : List ℕ → List (Bool × Ipv4SliceError)
ipv4_length_rows bytes =
    let len = length bytes in
    let header_len = 4 * ihl_of bytes in
    let total_len = word_at bytes 2 in
    let short = len_error header_len total_len source.Ipv4HeaderTotalLen layer.Ipv4Packet in
    (nat_lt total_len header_len, ipv4_error.Len short)
    ∷ (nat_lt len total_len, ipv4_error.Len (len_error total_len len source.Slice layer.Ipv4Packet))
    ∷ []

abbrev pub ipv6_length_rows : List ℕ → List (Bool × Ipv6SliceError)
ipv6_length_rows bytes =
    let len = length bytes in
    let packet_len = 40 + word_at bytes 4 in
    (nat_lt len packet_len, ipv6_error.Len (len_error packet_len len source.Slice layer.Ipv6Packet)) ∷ []

pub ipv4_header_row : (offset : ℕ) (bytes : List ℕ) (error : Ipv4SliceError) → RefusesIpv4Packet bytes error
    → is_by_length (ipv4_refusal offset error) ≡ false
    → RefusesAs of_header_error (RefusesIpv4Header bytes) error
ipv4_header_row offset bytes error refused by_other =
    elim (first_row-either (rows_as of_header_error (ipv4_header_rows bytes)) (ipv4_length_rows bytes) error refused) [
      | inl here ↦ refused_under of_header_error (ipv4_header_rows bytes) error here
      | inr after ↦
          let by_length = refusal_is (λ (e : Ipv4SliceError). is_by_length (ipv4_refusal offset e) ≡ true)
          (ipv4_length_rows bytes) (refl, (refl, tt)) error after in
          absurd (let one = sym by_length ∙ by_other in cc)
    ]

pub ipv6_header_row : (offset : ℕ) (bytes : List ℕ) (error : Ipv6SliceError) → RefusesIpv6Packet bytes error
    → is_by_length (ipv6_refusal offset error) ≡ false
    → RefusesAs of_ipv6_header_error (RefusesIpv6Header bytes) error
ipv6_header_row offset bytes error refused by_other =
    elim (first_row-either (rows_as of_ipv6_header_error (ipv6_header_rows bytes)) (ipv6_length_rows bytes) error
    refused) [
      | inl here ↦ refused_under of_ipv6_header_error (ipv6_header_rows bytes) error here
      | inr after ↦
          let by_length = refusal_is (λ (e : Ipv6SliceError). is_by_length (ipv6_refusal offset e) ≡ true)
          (ipv6_length_rows bytes) (refl, tt) error after in
          absurd (let one = sym by_length ∙ by_other in cc)
    ]

-- A packet is rejected by its header, or slicing stops in it.
ipv4_refused_or_stops : (offset : ℕ) (bytes : List ℕ) → AreBytes bytes → (error : Ipv4SliceError)
    → RefusesIpv4 slices bytes error → is_by_length (ipv4_refusal offset error) ≡ false
    → RefusesAs of_header_error (RefusesIpv4Header bytes) error
    ⊎ StopsIn (IsIpv4Net offset false bytes) (ipv4_refusal offset error)
ipv4_refused_or_stops offset bytes fits error (inl refused) by_other =
    inl (ipv4_header_row offset bytes error refused by_other)
ipv4_refused_or_stops offset bytes fits error (inr refused) by_other =
    inr (ipv4_chain_stops offset bytes fits refused.0 refused.1 error refused.2)

ipv6_refused_or_stops : (offset : ℕ) (bytes : List ℕ) → AreBytes bytes → (error : Ipv6SliceError)
    → RefusesIpv6 slices bytes error → is_by_length (ipv6_refusal offset error) ≡ false
    → RefusesAs of_ipv6_header_error (RefusesIpv6Header bytes) error
    ⊎ StopsIn (IsIpv6Net offset false bytes) (ipv6_refusal offset error)
ipv6_refused_or_stops offset bytes fits error (inl refused) by_other =
    inl (ipv6_header_row offset bytes error refused by_other)
ipv6_refused_or_stops offset bytes fits error (inr refused) by_other =
    inr (ipv6_chain_stops offset bytes fits refused.0 refused.1 error refused.2)

-- In a valid packet slicing stops at a rejected transport layer.
pub ipv4_inside_stops : (offset : ℕ) (bytes : List ℕ) (packet : IpPacket Ipv4Header) (error : SliceError)
    → IsIpv4 slices bytes packet
    → RefusesTransportAfterNet slices (offset + net_payload_offset (ipv4_layer packet)) (net_payload (ipv4_layer packet)) error
    → is_by_length error ≡ false → StopsIn (IsIpv4Net offset false bytes) error
ipv4_inside_stops offset bytes packet error is refused by_other =
    let inside = no_transport false (Some (error_with_layer error)) in (
      net_with (ipv4_layer packet) false inside,
      ipv4_net_with offset bytes packet inside is
          (transport_stops (offset + net_payload_offset (ipv4_layer packet)) packet.payload error refused by_other),
      refl,
    )

pub ipv6_inside_stops : (offset : ℕ) (bytes : List ℕ) (packet : IpPacket Ipv6Header) (error : SliceError)
    → IsIpv6 slices bytes packet
    → RefusesTransportAfterNet slices (offset + net_payload_offset (ipv6_layer packet)) (net_payload (ipv6_layer packet)) error
    → is_by_length error ≡ false → StopsIn (IsIpv6Net offset false bytes) error
ipv6_inside_stops offset bytes packet error is refused by_other =
    let inside = no_transport false (Some (error_with_layer error)) in (
      net_with (ipv6_layer packet) false inside,
      ipv6_net_with offset bytes packet inside is
          (transport_stops (offset + net_payload_offset (ipv6_layer packet)) packet.payload error refused by_other),
      refl,
    )

-- ---- network layer

-- No network layer is read, for this reason.
none_stops : (error : SliceError) (net : LaxNet → Type 0) → net (no_net false (Some (error_with_layer error))) → StopsIn net error
none_stops error net is = (no_net false (Some (error_with_layer error)), is, refl)

ipv4_stops : (offset : ℕ) (bytes : List ℕ) → AreBytes bytes → (error : SliceError)
    → RefusesNetPart slices offset (Some only_ipv4) bytes error → is_by_length error ≡ false
    → StopsIn (IsLaxNet offset false (Some only_ipv4) bytes) error
ipv4_stops offset bytes fits error (inl refused) by_other =
    let not_long = ap is_by_length (sym refused.2) ∙ by_other in
    elim (ipv4_refused_or_stops offset bytes fits refused.0 refused.1 not_long) [
      | inl header ↦ none_stops error (IsLaxNet offset false (Some only_ipv4) bytes)
          (inl (error, (header.0, header.1, refused.2 ∙ ap (ipv4_refusal offset) header.2), refl))
      | inr stops ↦ (stops.0, inr stops.1, stops.2 ∙ ap (λ (e : SliceError). Some (error_with_layer e)) (sym refused.2))
    ]
ipv4_stops offset bytes fits error (inr (layer, is, refused)) by_other =
    let after = subst (λ (l : NetLayer). RefusesTransportAfterNet slices (offset + net_payload_offset l) (net_payload l)
    error) is.2 refused in
    let stops = ipv4_inside_stops offset bytes is.0 error is.1 after by_other in
    (stops.0, inr stops.1, stops.2)

ipv6_stops : (offset : ℕ) (bytes : List ℕ) → AreBytes bytes → (error : SliceError)
    → RefusesNetPart slices offset (Some only_ipv6) bytes error → is_by_length error ≡ false
    → StopsIn (IsLaxNet offset false (Some only_ipv6) bytes) error
ipv6_stops offset bytes fits error (inl refused) by_other =
    let not_long = ap is_by_length (sym refused.2) ∙ by_other in
    elim (ipv6_refused_or_stops offset bytes fits refused.0 refused.1 not_long) [
      | inl header ↦ none_stops error (IsLaxNet offset false (Some only_ipv6) bytes)
          (inl (error, (header.0, header.1, refused.2 ∙ ap (ipv6_refusal offset) header.2), refl))
      | inr stops ↦ (stops.0, inr stops.1, stops.2 ∙ ap (λ (e : SliceError). Some (error_with_layer e)) (sym refused.2))
    ]
ipv6_stops offset bytes fits error (inr (layer, is, refused)) by_other =
    let after = subst (λ (l : NetLayer). RefusesTransportAfterNet slices (offset + net_payload_offset l) (net_payload l)
    error) is.2 refused in
    let stops = ipv6_inside_stops offset bytes is.0 error is.1 after by_other in
    (stops.0, inr stops.1, stops.2)

arp_stops : (offset : ℕ) (bytes : List ℕ) (error : SliceError)
    → RefusesNetPart slices offset (Some only_arp) bytes error
    → StopsIn (IsLaxNet offset false (Some only_arp) bytes) error
arp_stops offset bytes error (inl refused) =
    none_stops error (IsLaxNet offset false (Some only_arp) bytes) (inl (error, refused, refl))
arp_stops offset bytes error (inr (layer, is, refused)) = absurd
    (subst (λ (l : NetLayer). RefusesTransportAfterNet slices (offset + net_payload_offset l) (net_payload l) error)
    is.2 refused)

-- Slicing of bytes of an ether type stops at the error.
type_stops : (offset : ℕ) (type : EtherType) (bytes : List ℕ) → AreBytes bytes → (error : SliceError)
    → RefusesNetPart slices offset (net_kind type) bytes error → is_by_length error ≡ false
    → StopsIn (IsLaxNet offset false (net_kind type) bytes) error
type_stops offset type bytes fits error refused by_other =
    let Refused : Option NetKind → Type 0 = λ kind. RefusesNetPart slices offset kind bytes error in
    let Stops : Option NetKind → Type 0 = λ kind. StopsIn (IsLaxNet offset false kind bytes) error in
    elim (kind_cases type) [
      | inl none ↦ absurd (subst Refused none refused)
      | inr (inl is) ↦ subst Stops (sym is) (ipv4_stops offset bytes fits error (subst Refused is refused) by_other)
      | inr (inr (inl is)) ↦
          subst Stops (sym is) (ipv6_stops offset bytes fits error (subst Refused is refused) by_other)
      | inr (inr (inr is)) ↦ subst Stops (sym is) (arp_stops offset bytes error (subst Refused is refused))
    ]

-- ---- link extensions

extension_refused : (offset : ℕ) (type : EtherType) (bytes : List ℕ) (error : SliceError)
    → RefusesExtensionAt offset type bytes error → is_by_length error ≡ false
    → RefusesLaxExtension offset type bytes error
extension_refused offset type bytes error (refusal, inl refused, same) by_other =
    let row = refused_under tag_error.Len (vlan_rows bytes) refusal refused.1 in
    inl (refused.0, (row.0, row.1, same ∙ ap (extension_refusal offset) row.2))
extension_refused offset type bytes error (refusal, inr refused, same) by_other =
    let n = macsec_len_of bytes in
    let back : List (Bool × TagError) =
    (nat_lt (length bytes) n, tag_error.Len (len_error n (length bytes) source.Slice layer.MacsecPacket)) ∷ [] in
    elim (first_row-either (macsec_header_rows bytes) back refusal refused.1) [
      | inl here ↦ inr (refused.0, (refusal, here, same))
      | inr after ↦
          let by_length = refusal_is (λ (e : TagError). is_by_length (extension_refusal offset e) ≡ true) back
          (refl, tt) refusal after in
          absurd (not_both_rows error (extension_refusal offset refusal) same by_length by_other)
    ]

-- The layers in bytes of an ether type up to the rejected one.
pub record StopsInside (space offset : ℕ) (type : Option EtherType) (bytes : List ℕ) (error : SliceError) : Type 0 where
  pub extensions : List Tagged
  pub net : LaxNet
  pub is : IsLaxInside space offset false type bytes extensions net
  pub stop : net.inside.stop ≡ Some (error_with_layer error)

pub inside_stops : (space offset : ℕ) (type : Option EtherType) (bytes : List ℕ) → AreBytes bytes → (error : SliceError)
    → RefusesInside slices space offset type bytes error → is_by_length error ≡ false
    → StopsInside space offset type bytes error
inside_stops space offset None bytes fits error refused by_other = absurd refused
inside_stops zero offset (Some type) bytes fits error refused by_other =
    let stops = type_stops offset type bytes fits error refused by_other in
    record { extensions = []; net = stops.0; is = stops.1; stop = stops.2 }
inside_stops (suc space) offset (Some type) bytes fits error (inl refused) by_other =
    let stops = type_stops offset type bytes fits error refused.1 by_other in
    record { extensions = []; net = stops.0; is = inl (refused.0, stops.1); stop = stops.2 }
inside_stops (suc space) offset (Some type) bytes fits error (inr (inl refused)) by_other = record {
  extensions = [];
  net = no_net false (Some (error_with_layer error));
  is = inr (error, extension_refused offset type bytes error refused by_other, refl);
  stop = refl;
}
inside_stops (suc space) offset (Some type) bytes fits error (inr (inr (extension, left, is, refused))) by_other =
    let here = extension_is_complete type bytes extension left is in
    let payload_fits = lax_extension_fits false type bytes (complete_extension extension) fits here in
    let more = inside_stops space (offset + link_ext_header_len (extension_header extension))
    (extension_type extension) (extension_payload extension) payload_fits error refused by_other in
    record {
      extensions = complete_extension extension ∷ more.extensions;
      net = more.net;
      is = (here, more.is);
      stop = more.stop;
    }
