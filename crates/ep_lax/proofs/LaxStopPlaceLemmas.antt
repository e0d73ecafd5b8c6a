-- Where lax reading stops for missing bytes: at the payload of the last layer, with the bytes of this payload.
use Rattle.std.proofs.Common.{◌≡◌, ◌==◌, if◌then◌else◌, ℕ, ◌+◌, Bool, true, false, List, [], ◌∷◌, length, map, reverse, slice_index, Option, Some, None, refl, sym, subst, inl, inr, arith}
use Rattle.ep_base.specs.IpNumbers.{authentication_number, fragment_number, icmpv4_number, icmpv6_number, tcp_number, udp_number}
use Rattle.ep_base.specs.IpPayload.{IpPayload}
use Rattle.ep_base.specs.Readings.{Reading, headers}
use Rattle.ep_base.specs.Tables.{Refuses, RefusesAs, rows_as}
use Rattle.ep_base.specs.declared.ether_type.EtherType.{EtherType}
use Rattle.ep_base.specs.declared.len_source.LenSource.{LenSource}
use Rattle.ep_base.specs.declared.err.layer.Layer.{Layer}
use Rattle.ep_base.specs.declared.err.len_error.LenError.{LenError}
use Rattle.ep_base.specs.declared.err.ip_auth.HeaderError.{HeaderError as AuthError}
use Rattle.ep_base.specs.declared.err.ipv6_exts.HeaderError.TheVariants as content
use Rattle.ep_base.specs.declared.err.ipv6_exts.HeaderSliceError.{HeaderSliceError as ExtsSliceError}
use Rattle.ep_base.specs.declared.err.ipv6_exts.HeaderSliceError.TheVariants as exts_error
use Rattle.ep_base.specs.declared.err.tcp.HeaderSliceError.{HeaderSliceError as TransportError}
use Rattle.ep_base.specs.declared.err.tcp.HeaderSliceError.TheVariants as transport_error
use Rattle.ep_base.proofs.TableLemmas.{AllErrors, refusal_is}
use Rattle.ep_ext.specs.Chains.{IpVersion, ipv4, ipv6, RefusesChainAfter, with_offset_in}
use Rattle.ep_ext.specs.ExtensionParts.{ExtensionPart, auth_refusal, extension_part_rows, part_number}
use Rattle.ep_ext.specs.FragmentHeader.{fragment_header_rows}
use Rattle.ep_ext.specs.IpAuth.{ip_auth_rows}
use Rattle.ep_ext.specs.RawExtension.{raw_extension_rows}
use Rattle.ep_ip.specs.Ipv4.{ipv4_header_rows, of_header_error}
use Rattle.ep_ip.specs.Ipv6.{ipv6_header_rows, of_header_error as of_ipv6_header_error}
use Rattle.ep_link.specs.Arp.{arp_rows}
use Rattle.ep_link.specs.Macsec.{macsec_header_rows}
use Rattle.ep_link.specs.Vlan.{vlan_rows}
use Rattle.ep_transport.specs.Icmp.{kind_in}
use Rattle.ep_transport.specs.Icmpv4.{icmpv4_kind_at, icmpv4_kinds, icmpv4_row, icmpv4_rows, icmpv4_timestamp_rows}
use Rattle.ep_transport.specs.Icmpv6.{icmpv6_rows}
use Rattle.ep_transport.specs.Tcp.{tcp_rows}
use Rattle.ep_transport.specs.TransportParts.{RefusesTransportPart, TransportLayer, payload_in, transport_rows}
use Rattle.ep_transport.specs.Udp.{udp_header_rows}
use Rattle.ep_packet.specs.declared.err.slice_error.SliceError.{SliceError}
use Rattle.ep_packet.specs.declared.err.slice_error.SliceError.TheVariants.{Len}
use Rattle.ep_packet.specs.declared.entry.Entry.{Entry}
use Rattle.ep_packet.specs.Frame.{NetKind, only_ipv4, only_ipv6, only_arp, any_ip, net_kind}
use Rattle.ep_packet.specs.FrameBytes.{inner_payload, last_payload, link_payload, payload_after_exts}
use Rattle.ep_packet.specs.FrameRefusals.{RefusesTransportIn, extension_refusal, ipv4_refusal, ipv6_refusal, len_refusal, transport_refusal}
use Rattle.ep_packet.specs.Layers.{Layers, NetLayer, ipv4 as net_ipv4, ipv6 as net_ipv6, arp}
use Rattle.ep_packet.specs.Offsets.{payload_offset}
use Rattle.ep_packet.specs.Payloads.{payload_ether_type_in}
use Rattle.ep_lax.specs.Lax.{IsLaxIn, RefusesLaxExtension, chain_refusal}
use Rattle.ep_ip.specs.LaxIp.{stop_after}
use Rattle.ep_lax.specs.LaxLayers.{LaxLayers}
use Rattle.ep_lax.specs.LaxStops.{RefusesAfterLink, RefusesAfterNetIn, RefusesIpPayloadIn, RefusesNetHeader, RefusesNextLayerIn}
use Rattle.ep_lax.specs.StrictFrames.{layers_in}
use Rattle.ep_lax.proofs.LaxNextLayerLemmas.{stop_is_next}

-- The error, if it is one of missing bytes, is about a layer that starts at `offset` and has `len` bytes.
abbrev pub IsAt : ℕ → ℕ → SliceError → Type 0
IsAt offset len (Len error) = (error.layer_start_offset ≡ offset) × (error.len ≡ len)
IsAt offset len _ = Unit {0}

-- The errors of a table are about this layer.
pub placed_at : {E : Type 0} (place : E → SliceError) (rows : List (Bool × E)) (offset len : ℕ)
    → AllErrors (λ (e : E). IsAt offset len (place e)) rows → (error : SliceError)
    → RefusesAs place (Refuses rows) error → IsAt offset len error
placed_at place rows offset len all error refused =
    subst (IsAt offset len) (sym refused.2)
    (refusal_is (λ e. IsAt offset len (place e)) rows all refused.0 refused.1)

either_way : {A : Type 0} (P : A → Type 0) (condition : Bool) (a b : A) → P a → P b
    → P (if condition then a else b)
either_way P true a b here present = here
either_way P false a b here present = present

none_before : (n : ℕ) → 0 + n ≡ n
none_before n = omega arith

-- ---- transport layer

abbrev AllKinds : {K : Type 0} → (Option K → Type 0) → List K → Type 0
AllKinds P [] = Unit {0}
AllKinds P (kind ∷ others) = P (Some kind) × AllKinds P others

kind_found : {K : Type 0} (row : K → ℕ × ℕ) (kinds : List K) (P : Option K → Type 0) → P None → AllKinds P kinds
    → (type code : ℕ) → P (kind_in row kinds type code)
kind_found row [] P none all type code = none
kind_found row (kind ∷ others) P none all type code =
    either_way P _ (Some kind) (kind_in row others type code) all.0 (kind_found row others P none all.1 type code)

timestamps_at : (offset : ℕ) (end : LenSource) (bytes : List ℕ) (n : ℕ)
    → AllErrors (λ (e : TransportError). IsAt offset n (transport_refusal offset end e))
    (rows_as transport_error.Len (icmpv4_timestamp_rows (icmpv4_kind_at bytes) n))
timestamps_at offset end bytes n =
    kind_found icmpv4_row icmpv4_kinds
    (λ of. AllErrors (λ (e : TransportError). IsAt offset n (transport_refusal offset end e))
    (rows_as transport_error.Len (icmpv4_timestamp_rows of n))) tt
    (tt, (tt, (tt, (tt, (tt, (tt, (((none_before offset, refl), tt), (((none_before offset, refl), tt), tt))))))))
    (slice_index bytes 0) (slice_index bytes 1)

transport_rows_at : (offset : ℕ) (end : LenSource) (number : ℕ) (bytes : List ℕ)
    → AllErrors (λ (e : TransportError). IsAt offset (length bytes) (transport_refusal offset end e))
    (transport_rows headers number bytes)
transport_rows_at offset end number bytes =
    let Such : TransportError → Type 0 = λ e. IsAt offset (length bytes) (transport_refusal offset end e) in
    either_way (AllErrors Such) (number == udp_number) (rows_as transport_error.Len (udp_header_rows bytes)) _
    ((none_before offset, refl), tt)
    (either_way (AllErrors Such) (number == tcp_number) (tcp_rows bytes) _
    ((none_before offset, refl), (tt, ((none_before offset, refl), tt)))
    (either_way (AllErrors Such) (number == icmpv4_number) (rows_as transport_error.Len (icmpv4_rows bytes)) _
    ((none_before offset, refl), timestamps_at offset end bytes (length bytes))
    (either_way (AllErrors Such) (number == icmpv6_number) (rows_as transport_error.Len (icmpv6_rows bytes)) []
    ((none_before offset, refl), tt) tt)))

transport_refusal_at : (offset : ℕ) (payload : IpPayload) (error : SliceError)
    → RefusesTransportIn headers offset payload error → IsAt offset (length payload.bytes) error
transport_refusal_at offset payload error refused =
    subst (IsAt offset (length payload.bytes)) (sym refused.2) (by_part payload.fragmented refused.1)
  where
    by_part : (fragmented : Bool) → RefusesTransportPart headers payload.number fragmented payload.bytes refused.0
        → IsAt offset (length payload.bytes) (transport_refusal offset payload.source refused.0)
    by_part true why =
        refusal_is (λ e. IsAt offset (length payload.bytes) (transport_refusal offset payload.source e)) [] tt refused.0
        why
    by_part false why =
        refusal_is (λ e. IsAt offset (length payload.bytes) (transport_refusal offset payload.source e))
        (transport_rows headers payload.number payload.bytes)
        (transport_rows_at offset payload.source payload.number payload.bytes) refused.0 why

-- ---- extension headers

-- The error of the content of an authentication header has no place.
content_at : (version : IpVersion) (offset len : ℕ) (error : AuthError)
    → IsAt offset len (chain_refusal version offset (exts_error.Content (content.IpAuth error)))
content_at ipv4 offset len error = tt
content_at ipv6 offset len error = tt

-- The error of an extension header in a payload of IP, whose end `end` limits.
abbrev pub extension_error : IpVersion → ℕ → LenSource → ExtsSliceError → SliceError
extension_error version offset end error = chain_refusal version offset (stop_after 0 end (with_offset_in 0 error))

extension_rows_at : (version : IpVersion) (offset : ℕ) (end : LenSource) (number : ℕ) (bytes : List ℕ)
    → AllErrors (λ (e : ExtsSliceError). IsAt offset (length bytes) (extension_error version offset end e))
    (extension_part_rows number bytes)
extension_rows_at version offset end number bytes =
    let Such : ExtsSliceError → Type 0 = λ e. IsAt offset (length bytes) (extension_error version offset end e) in
    let at : (0 + 0 + 0 + offset ≡ offset) × (length bytes ≡ length bytes) = (omega arith, refl) in
    either_way (AllErrors Such) (number == authentication_number) (rows_as auth_refusal (ip_auth_rows bytes)) _
    (at, (content_at version offset (length bytes) _, (at, tt)))
    (either_way (AllErrors Such) (number == fragment_number) (rows_as exts_error.Len (fragment_header_rows bytes))
    (rows_as exts_error.Len (raw_extension_rows bytes)) (at, tt) (at, (at, tt)))

extension_at : (reading : Reading) (version : IpVersion) (visited : List ℕ) (offset : ℕ) (end : LenSource) (number : ℕ)
    (bytes : List ℕ) (error : ExtsSliceError) → RefusesChainAfter version reading visited 0 number bytes [] error
    → IsAt offset (length bytes) (chain_refusal version offset (stop_after 0 end error))
extension_at reading version visited offset end number bytes error (inl misplaced) =
    subst (λ (e : ExtsSliceError). IsAt offset (length bytes) (chain_refusal version offset (stop_after 0 end e)))
    (sym misplaced.1) tt
extension_at reading version visited offset end number bytes error (inr refused) =
    let why = refused.1 in
    subst (λ (e : ExtsSliceError). IsAt offset (length bytes) (chain_refusal version offset (stop_after 0 end e)))
    (sym why.2)
    (refusal_is (λ e. IsAt offset (length bytes) (extension_error version offset end e))
    (extension_part_rows number bytes) (extension_rows_at version offset end number bytes) why.0 why.1)

-- ---- next layer

in_ip_at : (reading : Reading) (version : IpVersion) (extensions : List ExtensionPart) (payload : IpPayload)
    (transport : Option TransportLayer) (offset : ℕ) (error : SliceError)
    → RefusesIpPayloadIn reading version extensions payload transport offset error
    → IsAt offset (length (payload_in payload.bytes transport)) error
in_ip_at reading version extensions payload (Some transport) offset error refused = absurd refused
in_ip_at reading version extensions payload None offset error (inl refused) =
    subst (IsAt offset (length payload.bytes)) (sym refused.2)
    (extension_at reading version (reverse (map part_number extensions)) offset payload.source payload.number
    payload.bytes refused.0 refused.1)
in_ip_at reading version extensions payload None offset error (inr refused) =
    transport_refusal_at offset payload error refused

after_net_at : (reading : Reading) (bytes : List ℕ) (net : Option NetLayer) (transport : Option TransportLayer)
    (offset : ℕ) (error : SliceError) → RefusesAfterNetIn reading net transport offset error
    → IsAt offset (length (inner_payload bytes net transport)) error
after_net_at reading bytes None transport offset error refused = absurd refused
after_net_at reading bytes (Some (net_ipv4 header extensions payload)) transport offset error refused =
    in_ip_at reading ipv4 extensions payload transport offset error refused
after_net_at reading bytes (Some (net_ipv6 header extensions payload)) transport offset error refused =
    in_ip_at reading ipv6 extensions payload transport offset error refused
after_net_at reading bytes (Some (arp packet)) transport offset error refused = absurd refused

net_header_at : (kind : Option NetKind) (offset : ℕ) (bytes : List ℕ) (error : SliceError)
    → RefusesNetHeader kind offset bytes error → IsAt offset (length bytes) error
net_header_at None offset bytes error refused = absurd refused
net_header_at (Some only_ipv4) offset bytes error refused =
    let at : (0 + offset ≡ offset) × (length bytes ≡ length bytes) = (none_before offset, refl) in
    placed_at (λ e. ipv4_refusal offset (of_header_error e)) (ipv4_header_rows bytes) offset (length bytes)
    (at, (tt, (tt, (at, tt)))) error refused
net_header_at (Some only_ipv6) offset bytes error refused =
    placed_at (λ e. ipv6_refusal offset (of_ipv6_header_error e)) (ipv6_header_rows bytes) offset (length bytes)
    ((none_before offset, refl), (tt, tt)) error refused
net_header_at (Some only_arp) offset bytes error refused =
    let at : (0 + offset ≡ offset) × (length bytes ≡ length bytes) = (none_before offset, refl) in
    placed_at (len_refusal offset) (arp_rows bytes) offset (length bytes) (at, (at, tt)) error refused
net_header_at (Some any_ip) offset bytes error refused = absurd refused

tag_at : (offset : ℕ) (type : EtherType) (bytes : List ℕ) (error : SliceError)
    → RefusesLaxExtension offset type bytes error → IsAt offset (length bytes) error
tag_at offset type bytes error (inl refused) =
    placed_at (len_refusal offset) (vlan_rows bytes) offset (length bytes) ((none_before offset, refl), tt) error
    refused.1
tag_at offset type bytes error (inr refused) =
    let at : (0 + offset ≡ offset) × (length bytes ≡ length bytes) = (none_before offset, refl) in
    placed_at (extension_refusal offset) (macsec_header_rows bytes) offset (length bytes) (at, (tt, (tt, (at, tt))))
    error refused.1

after_link_at : (count : ℕ) (type : Option EtherType) (offset : ℕ) (bytes : List ℕ) (error : SliceError)
    → RefusesAfterLink count type offset bytes error → IsAt offset (length bytes) error
after_link_at count None offset bytes error refused = absurd refused
after_link_at count (Some type) offset bytes error (inl refused) = tag_at offset type bytes error refused.1
after_link_at count (Some type) offset bytes error (inr refused) =
    net_header_at (net_kind type) offset bytes error refused

-- The errors of the next layer are about the payload of the last layer.
next_layer_at : (reading : Reading) (layers : Layers) (error : SliceError) → RefusesNextLayerIn reading layers error
    → IsAt (payload_offset layers) (length (last_payload layers)) error
next_layer_at reading layers error (inl refused) =
    after_link_at (length layers.link_exts) (payload_ether_type_in layers) (payload_offset layers) (last_payload layers)
    error refused
next_layer_at reading layers error (inr refused) =
    after_net_at reading (payload_after_exts (link_payload layers.link) layers.link_exts) layers.net layers.transport
    (payload_offset layers) error refused

pub stop_place : (reading : Reading) (entry : Entry) (bytes : List ℕ) (read : LaxLayers)
    → IsLaxIn reading entry bytes read → (error : LenError) (layer : Layer)
    → read.net.inside.stop ≡ Some (Len error, layer)
    → (error.layer_start_offset ≡ payload_offset (layers_in read))
    × (error.len ≡ length (last_payload (layers_in read)))
stop_place reading entry bytes read is error layer stops =
    next_layer_at reading (layers_in read) (Len error)
    (stop_is_next reading entry bytes read is (Len error, layer) stops)
