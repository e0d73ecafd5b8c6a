-- Each entry of lax slicing stops exactly at the errors of strict slicing that are not caused by a length field.
use Rattle.std.proofs.Common.{◌≡◌, ◌⊎◌, ◌==◌, ◌||◌, add-zero, not, if◌then◌else◌, ℕ, ◌+◌, Bool, true, false, List, [], ◌∷◌, length, Some, None, refl, sym, ap, subst, ◌∙◌, inl, inr}
use Rattle.std.proofs.lemmas.Bool.{cases_Bool, cases_eq, ne_eqb}
use Rattle.ep_base.specs.Bytes.{AreBytes}
use Rattle.ep_base.specs.Readings.{len_error, slices}
use Rattle.ep_base.specs.Tables.{Refuses, RefusesAs, first_row, rows_as}
use Rattle.ep_base.specs.declared.err.layer.Layer.{Layer}
use Rattle.ep_base.specs.declared.err.layer.Layer.TheVariants as layer
use Rattle.ep_base.specs.declared.err.ip.HeaderError.TheVariants as content
use Rattle.ep_base.specs.declared.err.ip.HeadersError.TheVariants as headers_error
use Rattle.ep_base.specs.declared.err.ip.LaxHeaderSliceError.{LaxHeaderSliceError}
use Rattle.ep_base.specs.declared.err.ip.LaxHeaderSliceError.TheVariants as lax_error
use Rattle.ep_base.specs.declared.err.ip.SliceError.{SliceError as IpSliceError}
use Rattle.ep_base.specs.declared.err.ip.SliceError.TheVariants as ip_error
use Rattle.ep_base.specs.declared.err.ip_auth.HeaderSliceError.{HeaderSliceError as AuthSliceError}
use Rattle.ep_base.specs.declared.err.ip_auth.HeaderSliceError.TheVariants as auth_error
use Rattle.ep_base.specs.declared.err.ipv4.HeaderError.TheVariants as ipv4_content
use Rattle.ep_base.specs.declared.err.ipv4.HeaderSliceError.{HeaderSliceError as Ipv4HeaderError}
use Rattle.ep_base.specs.declared.err.ipv4.HeaderSliceError.TheVariants as ipv4_header_error
use Rattle.ep_base.specs.declared.err.ipv4.SliceError.{SliceError as Ipv4SliceError}
use Rattle.ep_base.specs.declared.err.ipv4.SliceError.TheVariants as ipv4_error
use Rattle.ep_base.specs.declared.err.ipv6.HeaderError.TheVariants as ipv6_content
use Rattle.ep_base.specs.declared.err.ipv6.HeaderSliceError.{HeaderSliceError as Ipv6HeaderError}
use Rattle.ep_base.specs.declared.err.ipv6.HeaderSliceError.TheVariants as ipv6_header_error
use Rattle.ep_base.specs.declared.err.ipv6.SliceError.{SliceError as Ipv6SliceError}
use Rattle.ep_base.specs.declared.err.ipv6.SliceError.TheVariants as ipv6_error
use Rattle.ep_base.specs.declared.err.ipv6_exts.HeaderSliceError.{HeaderSliceError as ExtsSliceError}
use Rattle.ep_base.specs.declared.err.ipv6_exts.HeaderSliceError.TheVariants as exts_error
use Rattle.ep_base.specs.declared.err.len_error.LenError.{LenError}
use Rattle.ep_base.proofs.BytesLemmas.{AreBytes-payload}
use Rattle.ep_base.proofs.TableLemmas.{first_row-append_some, first_row-as_some}
use Rattle.ep_ext.proofs.PartLemmas.{refused_under}
use Rattle.ep_ip.specs.declared.ipv4_header.Ipv4Header.{Ipv4Header}
use Rattle.ep_ip.specs.declared.ipv6_header.Ipv6Header.{Ipv6Header}
use Rattle.ep_ip.specs.Ip.{version_of}
use Rattle.ep_ip.specs.IpPackets.{IpPart, ipv4_part, ipv6_part, IsIp, RefusesIp, RefusesIpv4, RefusesIpv6, ip_version_rows, ipv4_chain_refusal, ipv6_chain_refusal, of_ipv4_error, of_ipv6_error}
use Rattle.ep_ip.specs.Ipv4.{RefusesIpv4Header, RefusesIpv4Packet, ipv4_header_rows, of_header_error}
use Rattle.ep_ip.specs.Ipv6.{RefusesIpv6Header, RefusesIpv6Packet, ipv6_header_rows, of_header_error as of_ipv6_header_error}
use Rattle.ep_link.specs.Ethernet2.{ethernet2_bytes, ethernet2_header_len}
use Rattle.ep_link.specs.LinkSlices.{ethernet2, linux_sll as sll, ether_payload}
use Rattle.ep_link.specs.LinuxSll.{linux_sll_bytes, linux_sll_header_len, protocol_ether_type}
use Rattle.ep_base.specs.declared.len_source.LenSource.TheVariants as source
use Rattle.ep_packet.specs.declared.entry.Entry.{Entry}
use Rattle.ep_packet.specs.declared.entry.Entry.TheVariants.{Ethernet as ethernet, LinuxSll as linux_sll, EtherType as ether_type, Ip as ip}
use Rattle.ep_packet.specs.declared.err.slice_error.SliceError.{SliceError}
use Rattle.ep_packet.specs.declared.err.slice_error.SliceError.TheVariants.{Len}
use Rattle.ep_packet.specs.Frame.{any_ip, most_link_exts}
use Rattle.ep_packet.specs.FrameRefusals.{RefusesFrame, RefusesNetPart, RefusesTransportAfterNet, ip_refusal, ipv4_refusal, ipv6_refusal, net_payload_offset}
use Rattle.ep_packet.specs.Layers.{NetLayer, ip_layer, net_payload}
use Rattle.ep_packet.proofs.LayerLawLemmas.{frame_law}
use Rattle.ep_lax.specs.LaxLayers.{LaxLayers, error_with_layer}
use Rattle.ep_ip.specs.LaxIp.{RefusesIpHeader, of_ipv4_header, of_ipv6_header}
use Rattle.ep_lax.specs.LaxRefusals.{RefusesLax, ip_header_refusal}
use Rattle.ep_lax.specs.Lax.{IsLax, IsLaxNet}
use Rattle.ep_lax.specs.LaxStops.{IsStrictStop, RefusesWithErrorOrByLength, StopsFor, is_by_length}
use Rattle.ep_ip.proofs.LaxIpLemmas.{rows_of_ipv4, rows_of_ipv6}
use Rattle.ep_lax.proofs.LaxEntryLemmas.{lax_decided}
use Rattle.ep_lax.proofs.LaxStopLemmas.{StopsIn, inside_stops, ipv4_chain_stops, ipv4_header_row, ipv4_inside_stops, ipv4_length_rows, ipv6_chain_stops, ipv6_header_row, ipv6_inside_stops, ipv6_length_rows}
use Rattle.ep_lax.proofs.LaxErrorLayerLemmas.{HasItsLayer, lax_reported}
use Rattle.ep_lax.proofs.StrictLemmas.{frame_is_complete}

-- ---- first header of an IP packet of either version

-- If one of the first two rows of a table applies, it rejects like any table with the same first rows.
same_rows : {E F : Type 0} (first second : Bool) (a b : E) (these : List (Bool × E)) (c d : F)
    (those : List (Bool × F)) (error : E)
    → (first ≡ false → second ≡ false → ⊥) → first_row ((first, a) ∷ (second, b) ∷ these) ≡ Some error
    → ((error ≡ a) × (first_row ((first, c) ∷ (second, d) ∷ those) ≡ Some c))
    ⊎ ((error ≡ b) × (first_row ((first, c) ∷ (second, d) ∷ those) ≡ Some d))
same_rows true second a b these c d those error one refused = inl (cc, refl)
same_rows false true a b these c d those error one refused = inr (cc, refl)
same_rows false false a b these c d those error one refused = absurd (one refl refl)

-- Two rows that do not apply reject nothing.
none_refused : {E : Type 0} (first second : Bool) (a b error : E)
    → first_row ((first, a) ∷ (second, b) ∷ []) ≡ Some error → first ≡ false → second ≡ false → ⊥
none_refused first second a b error refused not_first not_second =
    absurd (let none : first_row ((first, a) ∷ (second, b) ∷ []) ≡ None =
    (λ i. first_row ((not_first i, a) ∷ (not_second i, b) ∷ [])) in cc)

-- Adding an offset of 0 does not change an error.
at_zero : (error : LenError) → record error { layer_start_offset = error.layer_start_offset + 0 } ≡ error
at_zero error i = record error { layer_start_offset = add-zero error.layer_start_offset i }

-- Lax slicing rejects the IPv4 header with the error of strict slicing.
ipv4_header_reported : (error : Ipv4HeaderError)
    → ip_refusal 0 (of_ipv4_error (of_header_error error)) ≡ ip_header_refusal (of_ipv4_header error)
ipv4_header_reported (ipv4_header_error.Len error) = ap Len (at_zero error)
ipv4_header_reported (ipv4_header_error.Content (ipv4_content.UnexpectedVersion version)) = refl
ipv4_header_reported (ipv4_header_error.Content (ipv4_content.HeaderLengthSmallerThanHeader ihl)) = refl

ipv6_header_reported : (error : Ipv6HeaderError)
    → ip_refusal 0 (of_ipv6_error (of_ipv6_header_error error)) ≡ ip_header_refusal (of_ipv6_header error)
ipv6_header_reported (ipv6_header_error.Len error) = ap Len (at_zero error)
ipv6_header_reported (ipv6_header_error.Content (ipv6_content.UnexpectedVersion version)) = refl

-- Lax slicing rejects the first header with this error.
abbrev RefusesFirst : List ℕ → SliceError → Type 0
RefusesFirst bytes = RefusesAs ip_header_refusal (RefusesIpHeader bytes)

-- Bytes of neither IP version are rejected with the error of strict slicing.
version_reported : (bytes : List ℕ) (error : IpSliceError) → Refuses (ip_version_rows bytes) error
    → RefusesFirst bytes (ip_refusal 0 error)
version_reported bytes error refused =
    let version = version_of bytes in
    let empty = lax_error.Len (len_error 1 0 source.Slice layer.IpHeader) in
    let unknown = lax_error.Content (content.UnsupportedIpVersion version) in
    elim (same_rows (length bytes == 0) (not (version == 4 || version == 6)) _ _ [] empty unknown
    (if version == 4 then rows_as of_ipv4_header (ipv4_header_rows bytes)
    else rows_as of_ipv6_header (ipv6_header_rows bytes)) error
    (none_refused (length bytes == 0) (not (version == 4 || version == 6)) _ _ error refused) refused) [
      | inl first ↦ (empty, first.1, ap (ip_refusal 0) first.0)
      | inr second ↦ (unknown, second.1, ap (ip_refusal 0) second.0)
    ]

ipv4_first : (bytes : List ℕ) (error : Ipv4SliceError) → version_of bytes ≡ 4
    → RefusesAs of_header_error (RefusesIpv4Header bytes) error
    → RefusesFirst bytes (ip_refusal 0 (of_ipv4_error error))
ipv4_first bytes error version (row, refused, same) = (
  of_ipv4_header row,
  rows_of_ipv4 bytes version ∙ first_row-as_some of_ipv4_header (ipv4_header_rows bytes) row refused,
  ap (λ (e : Ipv4SliceError). ip_refusal 0 (of_ipv4_error e)) same ∙ ipv4_header_reported row,
)

ipv6_first : (bytes : List ℕ) (error : Ipv6SliceError) → version_of bytes ≡ 6
    → RefusesAs of_ipv6_header_error (RefusesIpv6Header bytes) error
    → RefusesFirst bytes (ip_refusal 0 (of_ipv6_error error))
ipv6_first bytes error version (row, refused, same) = (
  of_ipv6_header row,
  rows_of_ipv6 bytes version ∙ first_row-as_some of_ipv6_header (ipv6_header_rows bytes) row refused,
  ap (λ (e : Ipv6SliceError). ip_refusal 0 (of_ipv6_error e)) same ∙ ipv6_header_reported row,
)

-- ---- IP packets of either version

-- Converting the error of a packet to that of either version does not change whether a length field caused it.
ipv4_row : (error : Ipv4SliceError)
    → is_by_length (ipv4_refusal 0 error) ≡ is_by_length (ip_refusal 0 (of_ipv4_error error))
ipv4_row (ipv4_error.Len error) = refl
ipv4_row (ipv4_error.Header (ipv4_content.UnexpectedVersion version)) = refl
ipv4_row (ipv4_error.Header (ipv4_content.HeaderLengthSmallerThanHeader ihl)) = refl
ipv4_row (ipv4_error.Exts error) = refl

ipv6_row : (error : Ipv6SliceError)
    → is_by_length (ipv6_refusal 0 error) ≡ is_by_length (ip_refusal 0 (of_ipv6_error error))
ipv6_row (ipv6_error.Len error) = refl
ipv6_row (ipv6_error.Header (ipv6_content.UnexpectedVersion version)) = refl
ipv6_row (ipv6_error.Exts error) = refl

-- An error of an extension header is the same among the errors of either version.
ipv4_chain_same : (header : Ipv4Header) (error : AuthSliceError)
    → ipv4_refusal 0 (ipv4_chain_refusal header error) ≡ ip_refusal 0 (of_ipv4_error (ipv4_chain_refusal header error))
ipv4_chain_same header (auth_error.Len error) = refl
ipv4_chain_same header (auth_error.Content error) = refl

ipv6_chain_same : (header : Ipv6Header) (after : List ℕ) (error : ExtsSliceError)
    → ipv6_refusal 0 (ipv6_chain_refusal header after error)
    ≡ ip_refusal 0 (of_ipv6_error (ipv6_chain_refusal header after error))
ipv6_chain_same header after (exts_error.Len error) = refl
ipv6_chain_same header after (exts_error.Content error) = refl

-- The first header is rejected with this error, or slicing stops at it.
abbrev TellsIp : List ℕ → SliceError → Type 0
TellsIp bytes error = RefusesFirst bytes error ⊎ StopsIn (IsLaxNet 0 false (Some any_ip) bytes) error

ipv4_tells : (bytes : List ℕ) → AreBytes bytes → version_of bytes ≡ 4 → (error : Ipv4SliceError)
    → RefusesIpv4 slices bytes error → is_by_length (ip_refusal 0 (of_ipv4_error error)) ≡ false
    → TellsIp bytes (ip_refusal 0 (of_ipv4_error error))
ipv4_tells bytes fits version error (inl refused) by_other =
    inl (ipv4_first bytes error version (ipv4_header_row 0 bytes error refused (ipv4_row error ∙ by_other)))
ipv4_tells bytes fits version error (inr (cut, is, why)) by_other =
    let stops = ipv4_chain_stops 0 bytes fits cut is error why in
    let same : ipv4_refusal 0 error ≡ ip_refusal 0 (of_ipv4_error error) =
    ap (ipv4_refusal 0) why.2 ∙ ipv4_chain_same cut.header why.0
    ∙ ap (λ (e : Ipv4SliceError). ip_refusal 0 (of_ipv4_error e)) (sym why.2) in
    inr (stops.0, inl stops.1, stops.2 ∙ ap (λ (e : SliceError). Some (error_with_layer e)) same)

ipv6_tells : (bytes : List ℕ) → AreBytes bytes → version_of bytes ≡ 6 → (error : Ipv6SliceError)
    → RefusesIpv6 slices bytes error → is_by_length (ip_refusal 0 (of_ipv6_error error)) ≡ false
    → TellsIp bytes (ip_refusal 0 (of_ipv6_error error))
ipv6_tells bytes fits version error (inl refused) by_other =
    inl (ipv6_first bytes error version (ipv6_header_row 0 bytes error refused (ipv6_row error ∙ by_other)))
ipv6_tells bytes fits version error (inr (cut, is, why)) by_other =
    let stops = ipv6_chain_stops 0 bytes fits cut is error why in
    let same : ipv6_refusal 0 error ≡ ip_refusal 0 (of_ipv6_error error) =
    ap (ipv6_refusal 0) why.2 ∙ ipv6_chain_same cut.header cut.payload why.0
    ∙ ap (λ (e : Ipv6SliceError). ip_refusal 0 (of_ipv6_error e)) (sym why.2) in
    inr (stops.0, inr stops.1, stops.2 ∙ ap (λ (e : SliceError). Some (error_with_layer e)) same)

either_tells : (bytes : List ℕ) → AreBytes bytes → (error : IpSliceError) → RefusesIp slices bytes error
    → is_by_length (ip_refusal 0 error) ≡ false → TellsIp bytes (ip_refusal 0 error)
either_tells bytes fits error (inl refused) by_other = inl (version_reported bytes error refused)
either_tells bytes fits error (inr (inl (version, (row, refused, same)))) by_other =
    subst (λ (e : IpSliceError). TellsIp bytes (ip_refusal 0 e)) (sym same)
    (ipv4_tells bytes fits version row refused
    (ap (λ (e : IpSliceError). is_by_length (ip_refusal 0 e)) (sym same) ∙ by_other))
either_tells bytes fits error (inr (inr (version, (row, refused, same)))) by_other =
    subst (λ (e : IpSliceError). TellsIp bytes (ip_refusal 0 e)) (sym same)
    (ipv6_tells bytes fits version row refused
    (ap (λ (e : IpSliceError). is_by_length (ip_refusal 0 e)) (sym same) ∙ by_other))

-- In a valid packet slicing stops at a rejected transport layer.
after_tells : (bytes : List ℕ) (part : IpPart) (error : SliceError) → IsIp slices bytes part
    → RefusesTransportAfterNet slices (0 + net_payload_offset (ip_layer part)) (net_payload (ip_layer part)) error
    → is_by_length error ≡ false → StopsIn (IsLaxNet 0 false (Some any_ip) bytes) error
after_tells bytes (ipv4_part packet) error is refused by_other =
    let stops = ipv4_inside_stops 0 bytes packet error is refused by_other in (stops.0, inl stops.1, stops.2)
after_tells bytes (ipv6_part packet) error is refused by_other =
    let stops = ipv6_inside_stops 0 bytes packet error is refused by_other in (stops.0, inr stops.1, stops.2)

ip_tells : (bytes : List ℕ) → AreBytes bytes → (error : SliceError)
    → RefusesNetPart slices 0 (Some any_ip) bytes error → is_by_length error ≡ false → TellsIp bytes error
ip_tells bytes fits error (inl (row, refused, same)) by_other =
    subst (TellsIp bytes) (sym same)
    (either_tells bytes fits row refused (ap is_by_length (sym same) ∙ by_other))
ip_tells bytes fits error (inr (layer, (part, is, same), refused)) by_other =
    inr (after_tells bytes part error is
    (subst (λ (l : NetLayer). RefusesTransportAfterNet slices (0 + net_payload_offset l) (net_payload l) error) same refused)
    by_other)

-- ---- entries

-- Lax slicing reports every error of strict slicing that is not caused by a length field.
pub frame_tells : (entry : Entry) (bytes : List ℕ) → AreBytes bytes → (error : SliceError)
    → RefusesFrame entry bytes error → is_by_length error ≡ false
    → RefusesLax entry bytes error ⊎ StopsFor entry bytes error
frame_tells ethernet bytes fits error (inl refused) by_other = inl refused
frame_tells ethernet bytes fits error (inr (frame, is, refused)) by_other =
    let payload = AreBytes-payload bytes (ethernet2_bytes frame.header) frame.payload frame.left fits is.parts in
    let stops = inside_stops most_link_exts ethernet2_header_len (Some frame.header.ether_type) frame.payload payload
    error refused by_other in
    inr (
      record { link = Some (ethernet2 frame.header frame.payload); link_exts = stops.extensions; net = stops.net },
      (frame, is, refl, stops.is),
      stops.stop,
    )
frame_tells linux_sll bytes fits error (inl refused) by_other = inl refused
frame_tells linux_sll bytes fits error (inr (frame, is, refused)) by_other =
    let payload = AreBytes-payload bytes (linux_sll_bytes frame.header) frame.payload frame.left fits is.parts in
    let stops = inside_stops most_link_exts linux_sll_header_len (protocol_ether_type frame.header.protocol_type)
    frame.payload payload error refused by_other in
    inr (
      record { link = Some (sll frame.header frame.payload); link_exts = stops.extensions; net = stops.net },
      (frame, is, refl, stops.is),
      stops.stop,
    )
frame_tells (ether_type type) bytes fits error refused by_other =
    let stops = inside_stops most_link_exts 0 (Some type) bytes fits error refused by_other in
    inr (
      record {
        link = Some (ether_payload type source.Slice bytes);
        link_exts = stops.extensions;
        net = stops.net;
      },
      (refl, stops.is),
      stops.stop,
    )
frame_tells ip bytes fits error refused by_other =
    elim (ip_tells bytes fits error refused by_other) [
      | inl first ↦ inl first
      | inr stops ↦ inr (
        record { link = None; link_exts = []; net = stops.0 },
        (refl, refl, stops.1),
        stops.2,
      )
    ]

-- ---- from lax to strict slicing

-- Strict slicing rejects the header of an IP packet with the same error as lax slicing.
first_back : (bytes : List ℕ) (error : LaxHeaderSliceError) → RefusesIpHeader bytes error
    → (refusal : IpSliceError) × RefusesIp slices bytes refusal × (ip_header_refusal error ≡ ip_refusal 0 refusal)
first_back bytes error refused =
    elim (cases_eq (version_of bytes) 4) [
      | inl version ↦
          let row = refused_under of_ipv4_header (ipv4_header_rows bytes) error
          (sym (rows_of_ipv4 bytes version) ∙ refused) in
          let packet : RefusesIpv4Packet bytes (of_header_error row.0) =
          first_row-append_some (rows_as of_header_error (ipv4_header_rows bytes)) (ipv4_length_rows bytes)
          (of_header_error row.0)
          (first_row-as_some of_header_error (ipv4_header_rows bytes) row.0 row.1) in (
            of_ipv4_error (of_header_error row.0),
            inr (inl (version, (of_header_error row.0, inl packet, refl))),
            ap ip_header_refusal row.2 ∙ sym (ipv4_header_reported row.0),
          )
      | inr not_4 ↦ elim (cases_eq (version_of bytes) 6) [
        | inl version ↦
            let row = refused_under of_ipv6_header (ipv6_header_rows bytes) error
            (sym (rows_of_ipv6 bytes version) ∙ refused) in
            let packet : RefusesIpv6Packet bytes (of_ipv6_header_error row.0) =
            first_row-append_some (rows_as of_ipv6_header_error (ipv6_header_rows bytes)) (ipv6_length_rows bytes)
            (of_ipv6_header_error row.0)
            (first_row-as_some of_ipv6_header_error (ipv6_header_rows bytes) row.0 row.1) in (
              of_ipv6_error (of_ipv6_header_error row.0),
              inr (inr (version, (of_ipv6_header_error row.0, inl packet, refl))),
              ap ip_header_refusal row.2 ∙ sym (ipv6_header_reported row.0),
            )
        | inr not_6 ↦
            let version = version_of bytes in
            let empty = ip_error.Len (len_error 1 0 source.Slice layer.IpHeader) in
            let unknown = ip_error.IpHeaders (headers_error.Ip (content.UnsupportedIpVersion version)) in
            let is_unknown : not (version == 4 || version == 6) ≡ true =
            (λ i. not (ne_eqb version 4 not_4 i || ne_eqb version 6 not_6 i)) in
            elim (same_rows (length bytes == 0) (not (version == 4 || version == 6)) _ _
            (if version == 4 then rows_as of_ipv4_header (ipv4_header_rows bytes)
            else rows_as of_ipv6_header (ipv6_header_rows bytes)) empty unknown [] error
            (λ some known. absurd (let one = sym known ∙ is_unknown in cc)) refused) [
              | inl first ↦ (empty, inl first.1, ap ip_header_refusal first.0)
              | inr second ↦ (unknown, inl second.1, ap ip_header_refusal second.0)
            ]
      ]
    ]

-- Strict slicing rejects the first header with the same error as lax slicing.
pub first_is_strict : (entry : Entry) (bytes : List ℕ) (error : SliceError) → RefusesLax entry bytes error
    → RefusesFrame entry bytes error
first_is_strict ethernet bytes error refused = inl refused
first_is_strict linux_sll bytes error refused = inl refused
first_is_strict (ether_type type) bytes error refused = absurd refused
first_is_strict ip bytes error (row, refused, same) =
    let back = first_back bytes row refused in inl (back.0, back.1, same ∙ back.2)

-- An error at which lax slicing stops is one of strict slicing, unless this rejects the bytes for a length field.
stop_is_strict : (entry : Entry) (bytes : List ℕ) → AreBytes bytes → (read : LaxLayers) → IsLax entry bytes read
    → (stop : SliceError × Layer) → read.net.inside.stop ≡ Some stop → RefusesWithErrorOrByLength entry bytes stop.0
stop_is_strict entry bytes fits read is stop same =
    elim (frame_law entry bytes fits).some [
      | inl frame ↦
          let complete = frame_is_complete entry bytes frame.0 frame.1 in
          let one = (lax_decided entry bytes fits).one_value read complete.0 is complete.1 in
          let none = ap (λ (l : LaxLayers). l.net.inside.stop) one ∙ complete.3.stop in
          absurd (let one = sym none ∙ same in cc)
      | inr (refusal, refused) ↦ elim (cases_Bool (is_by_length refusal)) [
        | inl by_length ↦ (refusal, refused, inr by_length)
        | inr by_other ↦ elim (frame_tells entry bytes fits refusal refused by_other) [
          | inl first ↦ absurd ((lax_decided entry bytes fits).not_both read refusal is first)
          | inr stops ↦
              let one = (lax_decided entry bytes fits).one_value stops.0 read stops.1 is in
              let reported_so : Some (error_with_layer refusal) ≡ Some stop =
              sym stops.2 ∙ ap (λ (l : LaxLayers). l.net.inside.stop) one ∙ same in
              (refusal, refused, inl (first_of refusal stop reported_so))
        ]
      ]
    ]
  where
    first_of : (refusal : SliceError) (stop : SliceError × Layer) → Some (error_with_layer refusal) ≡ Some stop
        → refusal ≡ stop.0
    first_of refusal stop reported_so = let one : error_with_layer refusal ≡ stop = cc in ap (λ (s : SliceError × Layer). s.0) one

-- Each error at which lax slicing stops, with its layer, is one of strict slicing, unless a length field hides it.
pub stops_are_strict : (entry : Entry) (bytes : List ℕ) → AreBytes bytes → (read : LaxLayers) → IsLax entry bytes read
    → (stop : SliceError × Layer) → read.net.inside.stop ≡ Some stop → IsStrictStop entry bytes stop
stops_are_strict entry bytes fits read is stop same =
    let row = subst HasItsLayer same (lax_reported entry bytes read is) in
    record { layer = row.0; row = row.1; strict = stop_is_strict entry bytes fits read is stop same }
