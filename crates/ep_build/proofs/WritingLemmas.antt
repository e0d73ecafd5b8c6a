-- Results of the functions that write a frame, from those of the functions they call.
use Rattle.std.proofs.Common.{◌≡◌, ℕ, ◌+◌, ◌-◌, ◌^◌, ◌<◌, ◌≤◌, Bool, true, false, List, [], ◌∷◌, ◌++◌, length}
use Rattle.std.proofs.Common.{Some, None, Result, Ok, Err, refl, sym, ap, subst, ◌∙◌, inl, inr, arith}
use Rattle.std.specs.Prelude.{OnOk, OnErr, is_err, ◌↔◌, if◌then◌else◌, nat_lt, slice_index}
use Rattle.std.specs.Result.{IsOk}
use Rattle.std.proofs.lemmas.Grind.{common_steps}
use Rattle.std.proofs.lemmas.Bool.{cases_lt}
use Rattle.std.proofs.lemmas.List.{append_assoc, get_or_past, length-append}
use Rattle.ep_base.specs.Bytes.{AreBytes}
use Rattle.ep_base.proofs.BytesLemmas.{AreBytes-back}
use Rattle.ep_ext.specs.Chains.{FitParts}
use Rattle.ep_ext.specs.ExtensionParts.{ExtensionPart}
use Rattle.ep_base.specs.declared.err.ip_exts.ExtsWalkError.{ExtsWalkError}
use Rattle.ep_base.specs.declared.err.ip_exts.ExtsWalkError.TheVariants as walk_error
use Rattle.ep_base.specs.Tables.{Refuses, first_row, rows_as}
use Rattle.ep_base.specs.declared.err.value_too_big.ValueTooBigError.{ValueTooBigError}
use Rattle.ep_base.specs.declared.ether_type.EtherType.{EtherType}
use Rattle.ep_base.specs.declared.ip_number.IpNumber.{IpNumber}
use Rattle.ep_base.proofs.TableLemmas.{first_row-append_none, first_row-as_none}
use Rattle.ep_packet.specs.IpHeaders.{FitIpHeaders, LeadThrough, RefusesLeading, ip_headers_len, of_walk_error}
use Rattle.ep_packet.specs.declared.err.headers_write_error.HeadersWriteError.{HeadersWriteError}
use Rattle.ep_packet.specs.declared.err.headers_write_error.HeadersWriteError.TheVariants as write_error
use Rattle.ep_packet.proofs.IpHeadersLemmas.{not_refused, one_way}
use Rattle.ep_packet.specs.IpHeaders.{headers_for, ip_extensions_len, ip_headers_parts, ip_headers_type, linked_headers}
use Rattle.ep_packet.specs.IpHeaders.{most_after_header, payload_len_rows, too_long, written_headers}
use Rattle.ep_packet.specs.declared.ip_headers.IpHeaders.{IpHeaders}
use Rattle.ep_packet.specs.declared.ip_headers.IpHeaders.TheVariants as version
use Rattle.ep_transport.specs.TransportHeaders.{transport_bytes}
use Rattle.ep_transport.specs.TransportHeaders.{transport_header_len}
use Rattle.ep_transport.specs.declared.transport_header.TransportHeader.{TransportHeader}
use Rattle.ep_transport.specs.declared.transport_header.TransportHeader.TheVariants as transport
use Rattle.ep_build.specs.BuildErrors.{IsBuildable, is_icmpv6_in_ipv4}
use Rattle.ep_build.specs.BuiltFragments.{IsFragmentReadBack}
use Rattle.ep_build.specs.BuiltFrames.{FrameHeaders, as_ether_type, built_frame, ip_frame_headers, transport_frame_headers}
use Rattle.ep_build.specs.BuiltFrames.{link_with_type, link_part_bytes, link_part_len, transport_between, transport_number}
use Rattle.ep_build.specs.BuiltFrames.{with_checksum_after, with_length}
use Rattle.ep_build.specs.declared.err.build_write_error.BuildWriteError.{BuildWriteError}
use Rattle.ep_build.specs.declared.err.build_write_error.BuildWriteError.TheVariants as error
use Rattle.ep_build.specs.declared.link_part.LinkPart.{LinkPart}
use Rattle.ep_build.specs.Fits.{FitsLink, FitsTransport}
use Rattle.ep_build.specs.Placing.{ArePrepared}
use Rattle.ep_packet.specs.IpHeaders.{FitsIpHeader}
use Rattle.ep_build.specs.ReadBack.{IsReadBack, message_of}
use Rattle.ep_build.proofs.LengthLemmas.{between_len, headers_for_len, linked_len}
use Rattle.ep_build.proofs.SizeLemmas.{headers_len, link_len}
use Rattle.ep_build.proofs.ReadBackLemmas.{fragment_read_back, read_back}

-- The clause of a successful result holds.
pub on_ok : {A E : Type 0} (answer : Result A E) (P : Type 0) → IsOk answer → OnOk answer P → P
on_ok (Ok a) P present ok = ok
on_ok (Err e) P present ok = absurd (cc)

-- The clause of a failed result holds.
pub on_err : {A E : Type 0} (answer : Result A E) (P : Type 0) → is_err answer ≡ true → OnErr answer P → P
on_err (Ok a) P failed err = absurd (cc)
on_err (Err e) P failed err = err

-- A conditional value with a true condition is its first branch.
pub chosen : {A : Type 0} (choice : Bool) (value one other : A) → choice ≡ true
    → value ≡ (if choice then one else other) → value ≡ one
chosen choice value one other so is = is ∙ ap (λ (b : Bool). if b then one else other) so

-- A function that fails only if the capacity is too small succeeds if it is enough.
pub succeeds : {A E : Type 0} (answer : Result A E) (space needed : ℕ) → OnErr answer (space < needed) → needed ≤ space
    → IsOk answer
succeeds (Ok a) space needed full enough = refl
succeeds (Err e) space needed full enough = absurd (omega (arith, full, enough))

-- Writing headers that lead through all their parts succeeds if the buffer has the capacity.
pub headers_succeed : (headers : IpHeaders) (last len space : ℕ) (answer : Result (Unit {0}) HeadersWriteError)
    → LeadThrough headers (ip_headers_parts headers) last → FitsIpHeader headers → len + ip_headers_len headers ≤ space
    → ((error : ExtsWalkError) → RefusesLeading headers error ↔ (answer ≡ Err (of_walk_error error)))
    → (answer ≡ Err write_error.OutOfMemory → (parts : List ExtensionPart) × (end : ℕ) × LeadThrough headers parts end
    × (space < len + length (written_headers headers parts))) → IsOk answer
headers_succeed headers last len space (Ok done) leads fits enough leading full = refl
headers_succeed headers last len space (Err write_error.OutOfMemory) leads fits enough leading full =
    let wanting = full refl in
    let same = one_way headers wanting.0 (ip_headers_parts headers) wanting.1 last wanting.2 leads in
    let written : length (written_headers headers wanting.0) ≡ ip_headers_len headers =
    ap (λ (p : List ExtensionPart). length (written_headers headers p)) same.0 ∙ headers_len headers fits in
    absurd (omega (arith, enough, wanting.3, written))
headers_succeed headers last len space (Err (write_error.Ipv4Exts error)) leads fits enough leading full =
    absurd (not_refused headers _ last (walk_error.Ipv4Exts error) leads ((leading (walk_error.Ipv4Exts error)).1 refl))
headers_succeed headers last len space (Err (write_error.Ipv6Exts error)) leads fits enough leading full =
    absurd (not_refused headers _ last (walk_error.Ipv6Exts error) leads ((leading (walk_error.Ipv6Exts error)).1 refl))

-- The buffer after appending the parts of a frame one by one.
pub joined : (before prefix written middle payload first second last : List ℕ) → first ≡ before ++ (prefix ++ written)
    → second ≡ first ++ middle → last ≡ second ++ payload
    → last ≡ before ++ (prefix ++ (written ++ (middle ++ payload)))
joined before prefix written middle payload first second last a b c =
    c ∙ ap (λ (l : List ℕ). l ++ payload) (b ∙ ap (λ (l : List ℕ). l ++ middle) a)
    ∙ append_assoc (before ++ (prefix ++ written)) middle payload
    ∙ append_assoc before (prefix ++ written) (middle ++ payload)
    ∙ ap (λ (l : List ℕ). before ++ l) (append_assoc prefix written (middle ++ payload))

pub appended : (new middle old bytes frame : List ℕ) → new ≡ middle ++ bytes → middle ≡ old → bytes ≡ frame
    → new ≡ old ++ frame
appended new middle old bytes frame is same complete =
    is ∙ ap (λ (b : List ℕ). b ++ bytes) same ∙ ap (λ (b : List ℕ). old ++ b) complete

-- A list is bytes if each item is one; past the end the index returns 0, a byte.
pub are_bytes : (bytes : List ℕ) → ((i : ℕ) → i < length bytes → slice_index bytes i < 256) → AreBytes bytes
are_bytes bytes fits = λ i. elim (cases_lt i (length bytes)) [
  | inl present ↦ fits i present
  | inr past ↦ omega (arith, get_or_past bytes i 0 past)
]

-- ---- table of lengths

-- The table of linked headers is that of the headers.
pub rows_linked : (headers : IpHeaders) (last : IpNumber) (len : ℕ)
    → payload_len_rows (linked_headers headers last) len ≡ payload_len_rows headers len
rows_linked (version.Ipv4 header extensions) last len =
    ap (λ (n : ℕ). (
      nat_lt (2 ^ 64 - 1) (len + n),
      too_long (version.Ipv4 header extensions) len (most_after_header (version.Ipv4 header extensions) - n),
    )
    ∷ (
      nat_lt (most_after_header (version.Ipv4 header extensions)) (len + n),
      too_long (version.Ipv4 header extensions) (len + n) (most_after_header (version.Ipv4 header extensions)),
    )
    ∷ []) (linked_len (version.Ipv4 header extensions) last)
rows_linked (version.Ipv6 header extensions) last len =
    ap (λ (n : ℕ). (
      nat_lt (2 ^ 64 - 1) (len + n),
      too_long (version.Ipv6 header extensions) len (65535 - n),
    )
    ∷ (nat_lt 65535 (len + n), too_long (version.Ipv6 header extensions) (len + n) 65535)
    ∷ []) (linked_len (version.Ipv6 header extensions) last)

passes : {E : Type 0} (total most : ℕ) (first second : E) → most ≤ 65535 → total ≤ most
    → first_row ((nat_lt (2 ^ 64 - 1) total, first) ∷ (nat_lt most total, second) ∷ []) ≡ None
passes total most first second small fits = grind (arith, common_steps)

most_is_small : (headers : IpHeaders) → most_after_header headers ≤ 65535
most_is_small (version.Ipv4 header extensions) = omega arith
most_is_small (version.Ipv6 header extensions) = omega arith

-- The table has no error for a length that the field can count.
pub counted : (headers : IpHeaders) (len : ℕ) → len + ip_extensions_len headers ≤ most_after_header headers
    → first_row (payload_len_rows headers len) ≡ None
counted headers len fits = passes
    (len + ip_extensions_len headers)
    (most_after_header headers)
    _
    _
    (most_is_small headers)
    fits

second_row : {E : Type 0} (total most : ℕ) (first second : E) → total < 2 ^ 64 → most < total
    → first_row ((nat_lt (2 ^ 64 - 1) total, first) ∷ (nat_lt most total, second) ∷ []) ≡ Some second
second_row total most first second small long = grind (arith, common_steps)

-- For a header without extension headers, the error of a length above the maximum has that length.
pub too_long_alone : (headers : IpHeaders) (len : ℕ) (error : ValueTooBigError ℕ) → ip_extensions_len headers ≡ 0
    → len < 2 ^ 64 → most_after_header headers < len → error ≡ too_long headers len (most_after_header headers)
    → Refuses (payload_len_rows headers len) error
too_long_alone headers len error alone small long is =
    let most = most_after_header headers in
    let total : len + ip_extensions_len headers ≡ len = omega (arith, alone) in
    second_row (len + ip_extensions_len headers) most _ _ (omega (arith, total, small)) (omega (arith, total, long))
    ∙ ap (λ (n : ℕ). Some (too_long headers n most)) total ∙ ap (λ (e : ValueTooBigError ℕ). Some e) (sym is)

-- ---- table of the builder

abbrev icmpv6_rows : Bool → List (Bool × BuildWriteError)
icmpv6_rows b = (b, error.Icmpv6InIpv4) ∷ []

icmpv6_row_none : (b : Bool) → b ≡ false → first_row (icmpv6_rows b) ≡ None
icmpv6_row_none true is = absurd (cc)
icmpv6_row_none false is = refl

pub transport_passes : (link : LinkPart) (headers : IpHeaders) (after : TransportHeader) (len : ℕ)
    → first_row (payload_len_rows headers (transport_header_len after + len)) ≡ None
    → is_icmpv6_in_ipv4 headers after ≡ false
    → IsBuildable (transport_frame_headers link headers after) len
transport_passes link headers after len none carried =
    let rows = payload_len_rows headers (transport_header_len after + len) in
    first_row-append_none (rows_as error.PayloadLen rows) (icmpv6_rows (is_icmpv6_in_ipv4 headers after))
    (first_row-as_none error.PayloadLen rows none)
    ∙ icmpv6_row_none (is_icmpv6_in_ipv4 headers after) carried

-- ---- checksums

-- Filling in the length keeps the kind of a transport header.
pub carried_with_length : (headers : IpHeaders) (len : ℕ) (after : TransportHeader)
    → is_icmpv6_in_ipv4 headers (with_length len after) ≡ is_icmpv6_in_ipv4 headers after
carried_with_length (version.Ipv4 ip extensions) len (transport.Udp header) = refl
carried_with_length (version.Ipv4 ip extensions) len (transport.Tcp header) = refl
carried_with_length (version.Ipv4 ip extensions) len (transport.Icmpv4 header) = refl
carried_with_length (version.Ipv4 ip extensions) len (transport.Icmpv6 header) = refl
carried_with_length (version.Ipv6 ip extensions) len after = refl

-- Linking the headers before a transport header does not change whether it is ICMPv6 after IPv4.
pub carried_linked : (headers : IpHeaders) (last : IpNumber) (len : ℕ) (after : TransportHeader)
    → is_icmpv6_in_ipv4 (headers_for headers last len) after ≡ is_icmpv6_in_ipv4 headers after
carried_linked (version.Ipv4 ip extensions) last len (transport.Udp header) = refl
carried_linked (version.Ipv4 ip extensions) last len (transport.Tcp header) = refl
carried_linked (version.Ipv4 ip extensions) last len (transport.Icmpv4 header) = refl
carried_linked (version.Ipv4 ip extensions) last len (transport.Icmpv6 header) = refl
carried_linked (version.Ipv6 ip extensions) last len after = refl

-- Linked headers have the addresses of the headers.
pub summed_linked : (headers : IpHeaders) (last : IpNumber) (len : ℕ) (payload : List ℕ) (after : TransportHeader)
    → with_checksum_after (headers_for headers last len) payload after
    ≡ with_checksum_after headers payload after
summed_linked (version.Ipv4 ip extensions) last len payload (transport.Udp header) = refl
summed_linked (version.Ipv4 ip extensions) last len payload (transport.Tcp header) = refl
summed_linked (version.Ipv4 ip extensions) last len payload (transport.Icmpv4 header) = refl
summed_linked (version.Ipv4 ip extensions) last len payload (transport.Icmpv6 header) = refl
summed_linked (version.Ipv6 ip extensions) last len payload (transport.Udp header) = refl
summed_linked (version.Ipv6 ip extensions) last len payload (transport.Tcp header) = refl
summed_linked (version.Ipv6 ip extensions) last len payload (transport.Icmpv4 header) = refl
summed_linked (version.Ipv6 ip extensions) last len payload (transport.Icmpv6 header) = refl

-- ---- frame

-- The frame of content after headers that are linked to a transport header.
abbrev built_content : LinkPart → IpHeaders → TransportHeader → List ℕ → List ℕ
built_content link headers after content =
    let written = headers_for headers (record { 0 = transport_number after }) (length content) in
    link_part_bytes (link_with_type link (as_ether_type (ip_headers_type headers)))
    ++ (written_headers written (ip_headers_parts written) ++ content)

-- Linked headers, a filled in transport header and the payload are the frame.
pub is_transport_frame : (link : LinkPart) (headers linked : IpHeaders) (after filled : TransportHeader)
    (last : IpNumber) (len : ℕ) (type : EtherType) (payload : List ℕ) → linked ≡ headers_for headers last len
    → last.0 ≡ transport_number after → filled ≡ transport_between headers payload after
    → len ≡ length (transport_bytes filled ++ payload) → type.0 ≡ ip_headers_type headers
    → link_part_bytes (link_with_type link type)
    ++ (written_headers linked (ip_headers_parts linked) ++ (transport_bytes filled ++ payload))
    ≡ built_frame (transport_frame_headers link headers after) payload
is_transport_frame link headers linked after filled last len type payload is number between counts typed =
    let content = transport_bytes filled ++ payload in
    let complete : linked ≡ headers_for headers (record { 0 = transport_number after }) (length content) =
    is ∙ ap (λ (n : ℕ). headers_for headers last n) counts
    ∙ ap (λ (n : ℕ). headers_for headers (record { 0 = n }) (length content)) number in
    ap (λ (n : ℕ). link_part_bytes (link_with_type link (as_ether_type n))
    ++ (written_headers linked (ip_headers_parts linked) ++ content)) typed
    ∙ ap (λ (h : IpHeaders). link_part_bytes (link_with_type link (as_ether_type (ip_headers_type headers)))
    ++ (written_headers h (ip_headers_parts h) ++ content)) complete
    ∙ ap (λ (t : TransportHeader). built_content link headers after (transport_bytes t ++ payload)) between

-- Linked headers and the payload are the frame, without a transport header.
pub is_ip_frame : (link : LinkPart) (headers linked : IpHeaders) (last : IpNumber) (type : EtherType) (payload : List ℕ)
    → linked ≡ headers_for headers last (length payload) → type.0 ≡ ip_headers_type headers
    → link_part_bytes (link_with_type link type) ++ (written_headers linked (ip_headers_parts linked) ++ payload)
    ≡ built_frame (ip_frame_headers link headers last) payload
is_ip_frame link headers linked last type payload is typed =
    ap (λ (n : ℕ). link_part_bytes (link_with_type link (as_ether_type n))
    ++ (written_headers linked (ip_headers_parts linked) ++ payload)) typed
    ∙ ap (λ (h : IpHeaders). link_part_bytes (link_with_type link (as_ether_type (ip_headers_type headers)))
    ++ (written_headers h (ip_headers_parts h) ++ payload)) is

-- A transport header is as long as its length states.
pub transport_len : (header : TransportHeader) → FitsTransport header
    → length (transport_bytes header) ≡ transport_header_len header
transport_len (transport.Udp header) fits = refl
transport_len (transport.Tcp header) fits = grind (arith, common_steps)
transport_len (transport.Icmpv4 header) fits = fits
transport_len (transport.Icmpv6 header) fits = fits

-- A transport header that is filled in after linked headers is the one written between headers and payload.
between_is : (headers linked : IpHeaders) (after set filled : TransportHeader) (last : IpNumber) (len : ℕ)
    (payload : List ℕ) → linked ≡ headers_for headers last len → set ≡ with_length (length payload) after
    → filled ≡ with_checksum_after linked payload set → filled ≡ transport_between headers payload after
between_is headers linked after set filled last len payload is sets sums =
    let with_len = with_length (length payload) after in
    sums ∙ ap (with_checksum_after linked payload) sets
    ∙ ap (λ (h : IpHeaders). with_checksum_after h payload with_len) is
    ∙ summed_linked headers last len payload with_len

-- The length for which the headers were linked is that of the content.
content_is : (headers : IpHeaders) (after filled : TransportHeader) (len : ℕ) (payload : List ℕ)
    → filled ≡ transport_between headers payload after → len ≡ transport_header_len after + length payload
    → FitsTransport filled → len ≡ length (transport_bytes filled ++ payload)
content_is headers after filled len payload between counts fits =
    let same : transport_header_len filled ≡ transport_header_len after =
    ap transport_header_len between ∙ between_len headers payload after in
    omega (arith, counts, same, transport_len filled fits, length-append (transport_bytes filled) payload)

-- A transport header that is filled in after linked headers is prepared.
pub are_prepared : (link : LinkPart) (headers linked : IpHeaders) (after set filled : TransportHeader)
    (last : IpNumber) (len : ℕ) (type : EtherType) (payload : List ℕ) (link_size headers_size : ℕ)
    → linked ≡ headers_for headers last len → last.0 ≡ transport_number after
    → set ≡ with_length (length payload) after → is_icmpv6_in_ipv4 linked set ≡ false
    → filled ≡ with_checksum_after linked payload set → len ≡ transport_header_len after + length payload
    → FitsTransport filled → type.0 ≡ ip_headers_type headers → first_row (payload_len_rows headers len) ≡ None
    → FitsLink link → FitsIpHeader linked → link_size ≡ link_part_len link → headers_size ≡ ip_headers_len linked
    → ArePrepared link headers after payload linked filled type (link_size + headers_size + len)
are_prepared link headers linked after set filled last len type payload link_size headers_size is number sets carried
    sums counts fits typed none fits_link fits_header link_is headers_is =
    let with_len = with_length (length payload) after in
    let between = between_is headers linked after set filled last len payload is sets sums in
    let not_icmpv6 : is_icmpv6_in_ipv4 headers after ≡ false =
    sym (carried_with_length headers (length payload) after) ∙ sym (carried_linked headers last len with_len)
    ∙ ap (λ (h : IpHeaders). is_icmpv6_in_ipv4 h with_len) (sym is) ∙ ap (is_icmpv6_in_ipv4 linked) (sym sets)
    ∙ carried in
    let filled_len = ap transport_header_len between ∙ between_len headers payload after in
    let linked_len = ap ip_headers_len is ∙ headers_for_len headers last len in
    record {
      buildable = transport_passes link headers after (length payload)
          (subst (λ (n : ℕ). first_row (payload_len_rows headers n) ≡ None) counts none) not_icmpv6;
      is_linked = is ∙ ap (λ (n : ℕ). headers_for headers last n) counts
          ∙ ap (λ (n : ℕ). headers_for headers (record { 0 = n }) (transport_header_len after + length payload)) number;
      is_filled = between;
      typed = typed;
      fits_link = fits_link;
      fits_header = fits_header;
      fits_transport = fits;
      parts = omega (arith, link_is, headers_is, counts, filled_len);
      size_is = omega (arith, link_is, headers_is, counts, linked_len);
    }

-- Prepared headers and the payload are the frame.
pub prepared_frame : (link : LinkPart) (headers : IpHeaders) (after : TransportHeader) (payload : List ℕ)
    (linked : IpHeaders) (filled : TransportHeader) (type : EtherType) (size : ℕ)
    → ArePrepared link headers after payload linked filled type size
    → link_part_bytes (link_with_type link type)
    ++ (written_headers linked (ip_headers_parts linked) ++ (transport_bytes filled ++ payload))
    ≡ built_frame (transport_frame_headers link headers after) payload
prepared_frame link headers after payload linked filled type size made =
    let len = transport_header_len after + length payload in
    is_transport_frame link headers linked after filled (record { 0 = transport_number after }) len type payload
    made.is_linked refl made.is_filled
    (content_is headers after filled len payload made.is_filled refl made.fits_transport) made.typed

-- Prepared headers and the payload have the length of the frame.
pub prepared_len : (link : LinkPart) (headers : IpHeaders) (after : TransportHeader) (payload : List ℕ)
    (linked : IpHeaders) (filled : TransportHeader) (type : EtherType) (size : ℕ)
    → ArePrepared link headers after payload linked filled type size
    → size ≡ length (built_frame (transport_frame_headers link headers after) payload)
prepared_len link headers after payload linked filled type size made =
    let prefix = link_part_bytes (link_with_type link type) in
    let written = written_headers linked (ip_headers_parts linked) in
    omega (
      arith,
      made.parts,
      ap length (prepared_frame link headers after payload linked filled type size made),
      length-append prefix (written ++ (transport_bytes filled ++ payload)),
      length-append written (transport_bytes filled ++ payload),
      length-append (transport_bytes filled) payload,
      link_len link type made.fits_link,
      headers_len linked made.fits_header,
      transport_len filled made.fits_transport,
    )

-- The buffer has the frame of the headers appended.
abbrev pub Appends : FrameHeaders → List ℕ → List ℕ → List ℕ → Type 0
Appends kept payload old new = IsBuildable kept (length payload) × (new ≡ old ++ built_frame kept payload)

-- ---- reading back

fit_both : (headers : IpHeaders) → FitsIpHeader headers → FitParts (ip_headers_parts headers) → FitIpHeaders headers
fit_both (version.Ipv4 header extensions) header_fits parts_fit = (header_fits, parts_fit)
fit_both (version.Ipv6 header extensions) header_fits parts_fit = (header_fits, parts_fit)

-- The frame of linked headers is read back as the fragment it was built from.
pub fragment_back : (link : LinkPart) (headers linked : IpHeaders) (last : IpNumber) (payload : List ℕ)
    → linked ≡ headers_for headers last (length payload) → FitsLink link → FitsIpHeader linked
    → FitParts (ip_headers_parts linked) → IsFragmentReadBack link headers last payload
fragment_back link headers linked last payload is fits_link header_fits parts_fit =
    fragment_read_back link headers last payload fits_link
    (subst FitIpHeaders is (fit_both linked header_fits parts_fit))

-- The frame of prepared headers is read back.
pub prepared_back : (link : LinkPart) (headers : IpHeaders) (after : TransportHeader) (payload : List ℕ)
    (linked : IpHeaders) (filled : TransportHeader) (type : EtherType) (size : ℕ)
    → ArePrepared link headers after payload linked filled type size → FitParts (ip_headers_parts linked)
    → AreBytes (link_part_bytes (link_with_type link type) ++ (written_headers linked (ip_headers_parts linked)
    ++ (transport_bytes filled ++ payload))) → IsReadBack link headers after payload
prepared_back link headers after payload linked filled type size made parts_fit bytes =
    let len = transport_header_len after + length payload in
    let message_is : transport_bytes filled ++ payload ≡ message_of headers after payload =
    ap (λ (t : TransportHeader). transport_bytes t ++ payload) made.is_filled in
    let linked_is : linked ≡ headers_for headers (record { 0 = transport_number after })
    (length (message_of headers after payload)) =
    made.is_linked ∙ ap (λ (n : ℕ). headers_for headers (record { 0 = transport_number after }) n)
    (content_is headers after filled len payload made.is_filled refl made.fits_transport ∙ ap length message_is) in
    let message_bytes = AreBytes-back (written_headers linked (ip_headers_parts linked))
    (transport_bytes filled ++ payload) (AreBytes-back (link_part_bytes (link_with_type link type)) _ bytes) in
    read_back link headers after payload made.fits_link
    (subst FitIpHeaders linked_is (fit_both linked made.fits_header parts_fit))
    (subst FitsTransport made.is_filled made.fits_transport) (subst AreBytes message_is message_bytes)
