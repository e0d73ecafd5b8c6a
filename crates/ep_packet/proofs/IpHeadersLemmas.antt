-- Owned IP headers: reading them from a packet, and reading back written ones.
use Rattle.std.proofs.Common.{◌≡◌, ◌⊎◌, ◌↔◌, ℕ, ◌+◌, ◌-◌, ◌^◌, ◌<◌, ◌==◌, ◌&&◌, ◌≤◌, false, if◌then◌else◌, List, []}
use Rattle.std.proofs.Common.{◌∷◌, ◌++◌, length, Option, Some, None, Result, Ok, Err, refl, sym, ap, subst}
use Rattle.std.proofs.Common.{◌∙◌, inl, inr, arith}
use Rattle.std.specs.Prelude.{IfOk, IfErr, IsOk, IsOkAnd, MatchResult, nat_lt}
use Rattle.std.specs.Option.{option_map}
use Rattle.std.proofs.lemmas.Result.{MatchResult-weaker}
use Rattle.std.proofs.lemmas.Bool.{cases_eq}
use Rattle.std.proofs.lemmas.Grind.{common_steps}
use Rattle.std.proofs.lemmas.List.{append-nil, append_assoc, length-append}
use Rattle.ep_base.specs.Bytes.{AreBytes}
use Rattle.ep_base.specs.Readings.{Reading, headers as by_value, slices, len_error}
use Rattle.ep_base.specs.Tables.{IsDecided, Refuses, RefusesAs, first_row, parts_of}
use Rattle.ep_base.specs.declared.err.ip_exts.ExtsWalkError.{ExtsWalkError}
use Rattle.ep_base.specs.declared.err.ip_exts.ExtsWalkError.TheVariants as walk_error
use Rattle.ep_base.specs.declared.err.ipv4_exts.ExtsWalkError.{ExtsWalkError as Ipv4WalkError}
use Rattle.ep_base.specs.declared.err.ipv6_exts.ExtsWalkError.{ExtsWalkError as Ipv6WalkError}
use Rattle.ep_base.specs.declared.err.ip.HeaderError.TheVariants as content
use Rattle.ep_base.specs.declared.err.ip.HeadersError.TheVariants as headers_error
use Rattle.ep_base.specs.declared.err.ip.HeadersSliceError.{HeadersSliceError}
use Rattle.ep_base.specs.declared.err.ip.HeadersSliceError.TheVariants as headers_slice_error
use Rattle.ep_base.specs.declared.err.ip.SliceError.TheVariants as slice_error
use Rattle.ep_base.specs.declared.err.value_too_big.ValueTooBigError.{ValueTooBigError}
use Rattle.ep_base.specs.declared.err.value_type.ValueType.TheVariants as value_type
use Rattle.ep_base.specs.declared.ip_payload_slice.IpPayloadSlice.{IpPayloadSlice}
use Rattle.ep_base.specs.IpPayload.{IpPayload}
use Rattle.ep_base.specs.declared.err.layer.Layer.TheVariants as layer
use Rattle.ep_base.specs.declared.ip_number.IpNumber.{IpNumber}
use Rattle.ep_base.specs.declared.len_source.LenSource.TheVariants as source
use Rattle.ep_base.proofs.DecidedLemmas.{refused_as}
use Rattle.ep_ext.specs.declared.ip_auth_header.IpAuthHeader.{IpAuthHeader}
use Rattle.ep_ext.specs.declared.ipv4_exts.Ipv4Extensions.{Ipv4Extensions}
use Rattle.ep_ext.specs.declared.ipv6_exts.Ipv6Extensions.{Ipv6Extensions}
use Rattle.ep_ext.specs.Chains.{IsChainAfter, IsExtensionChain, FitParts, chain_of}
use Rattle.ep_ext.specs.Chains.{chain_fragments, ipv4, ipv6, is_ipv6_extension, parts_bytes}
use Rattle.ep_ext.specs.ExtensionParts.{ExtensionPart, part_next}
use Rattle.ep_ext.specs.declared.ipv4_exts_slice.Ipv4ExtensionsSlice.{Ipv4ExtensionsSlice}
use Rattle.ep_ext.specs.IpAuthSlices.{ip_auth_slice_header}
use Rattle.ep_ext.specs.Ipv4Chains.{ipv4_first, ipv4_linked, ipv4_parts, ipv4_slice_parts, ipv4_walk}
use Rattle.ep_ext.specs.Ipv6Chains.{RefusesWalk, ipv6_first, ipv6_linked, ipv6_parts}
use Rattle.ep_ext.proofs.LinkLemmas.{linked_chain, linked_chain_4, linked_value, linked_walk, linked_walk_4}
use Rattle.ep_ext.proofs.WalkLemmas.{one_walk, one_walk_refusal, walks_not_refused}
use Rattle.ep_ext.proofs.WalkLengthLemmas.{walk_len}
use Rattle.ep_ip.specs.declared.ipv4_header.Ipv4Header.{Ipv4Header}
use Rattle.ep_ip.specs.declared.ipv6_header.Ipv6Header.{Ipv6Header}
use Rattle.ep_ip.specs.IpPackets.{IpPacket, IpPart, ipv4_part, ipv6_part, IsIp, IsIpv4, IsIpv6, RefusesIp}
use Rattle.ep_ip.specs.IpPackets.{ip_version_rows}
use Rattle.ep_ip.specs.Ipv4.{FitsIpv4, ipv4_bytes, ipv4_checksum, ipv4_header_len}
use Rattle.ep_ip.specs.Ip.{version_of}
use Rattle.ep_ip.specs.Ipv6.{FitsIpv6, IsIpv6Packet, ipv6_bytes, ipv6_payload_source}
use Rattle.ep_ip.proofs.PacketLemmas.{ip_decided, shown_packet}
use Rattle.ep_packet.specs.declared.err.headers_write_error.HeadersWriteError.{HeadersWriteError}
use Rattle.ep_packet.specs.declared.err.headers_write_error.HeadersWriteError.TheVariants as write_error
use Rattle.ep_packet.specs.declared.ip_headers.IpHeaders.{IpHeaders}
use Rattle.ep_packet.specs.declared.ip_headers.IpHeaders.TheVariants as variant
use Rattle.ep_packet.specs.IpHeaders.{AreOfPart, AreReadAs, EndsExtensions, FitIpHeaders, HasBytes, LeadThrough}
use Rattle.ep_packet.specs.IpHeaders.{RefusesLeading, headers_for, ip_extensions_len, ip_headers_parts}
use Rattle.ep_packet.specs.IpHeaders.{most_after_header, payload_len_rows, with_payload_len, ipv4_extensions_of}
use Rattle.ep_packet.specs.IpHeaders.{of_slice_error, of_walk_error, payload_of_headers, with_checksum, written_headers}

-- ---- a correct result shows the only value

-- If each result of a decided grammar is correct, the value that the bytes are is returned.
pub only_by : {A V E : Type 0} {Is : V → Type 0} {Refuses : E → Type 0} (Shows : V → A → Type 0) → IsDecided Is Refuses
    → (answer : Result A E) → IfOk answer (λ a. (value : V) × Is value × Shows value a) → IfErr answer Refuses
    → (value : V) → Is value → IsOkAnd answer (Shows value)
only_by Shows decided (Ok a) ok err value is = subst (λ v. Shows v a) (decided.one_value ok.0 value ok.1 is) ok.2
only_by Shows decided (Err e) ok err value is = absurd (decided.not_both value e is err)

-- Bytes are IP headers of one version, or are rejected.
pub headers_decided : (bytes : List ℕ) → AreBytes bytes
    → IsDecided (IsIp by_value bytes) (RefusesAs of_slice_error (RefusesIp by_value bytes))
headers_decided bytes fits = refused_as of_slice_error (ip_decided by_value bytes fits)

-- ---- an IPv4 chain is one in both readings

chain_in : (reading other : Reading) (taken : List ℕ) (number : ℕ) (bytes : List ℕ) (parts : List ExtensionPart)
    (last : ℕ) (rest : List ℕ) → IsChainAfter ipv4 reading taken number bytes parts last rest
    → IsChainAfter ipv4 other taken number bytes parts last rest
chain_in reading other taken number bytes [] last rest is = is
chain_in reading other taken number bytes (part ∷ parts) last rest is = (
  is.0,
  (is.1.0, is.1.1, chain_in reading other (number ∷ taken) (part_next part) is.1.0 parts last rest is.1.2),
)

pub ipv4_by_value : (bytes : List ℕ) (packet : IpPacket Ipv4Header) → IsIpv4 slices bytes packet
    → IsIpv4 by_value bytes packet
ipv4_by_value bytes packet is = record {
  content = is.content;
  cut = is.cut;
  chain = chain_in slices by_value [] packet.header.protocol.0 is.content packet.extensions packet.payload.number
      packet.payload.bytes is.chain;
  fragmented = is.fragmented;
  source = is.source;
}

-- The owned IPv4 extension headers of an authentication header, if any, are that header.
auth_value : (auth : Option IpAuthHeader)
    → ipv4_extensions_of (ipv4_parts (record { auth = auth })) ≡ record { auth = auth }
auth_value None = refl
auth_value (Some header) = refl

-- The owned value of the authentication header in a slice, if any.
pub ipv4_slice_value : (extensions : Ipv4ExtensionsSlice)
    → ipv4_extensions_of (ipv4_slice_parts extensions)
    ≡ record { auth = option_map ip_auth_slice_header extensions.auth }
ipv4_slice_value extensions = auth_value (option_map ip_auth_slice_header extensions.auth)

pub ipv4_value : (extensions : Ipv4Extensions) → ipv4_extensions_of (ipv4_parts extensions) ≡ extensions
ipv4_value extensions = auth_value extensions.auth

-- ---- next header values

one_number : (walk : Result IpNumber Ipv4WalkError) (a b : IpNumber) → walk ≡ Ok a → walk ≡ Ok b → a ≡ b
one_number walk a b first second = cc

one_error : (walk : Result IpNumber Ipv4WalkError) (a b : Ipv4WalkError) → walk ≡ Err a → walk ≡ Err b → a ≡ b
one_error walk a b first second = cc

pub leads : (headers : IpHeaders) (last : IpNumber) (len : ℕ) → LeadThrough (headers_for headers last len)
    (ip_headers_parts (headers_for headers last len)) last.0
leads (variant.Ipv4 header extensions) last len = (refl, linked_walk_4 extensions last)
leads (variant.Ipv6 header extensions) last len = linked_walk extensions last

pub one_way : (headers : IpHeaders) (parts other : List ExtensionPart) (last end : ℕ)
    → LeadThrough headers parts last → LeadThrough headers other end → (parts ≡ other) × (last ≡ end)
one_way (variant.Ipv4 header extensions) parts other last end a b =
    let same = one_number (ipv4_walk extensions header.protocol) (record { 0 = last }) (record { 0 = end }) a.1 b.1 in
    (a.0 ∙ sym b.0, ap (λ (n : IpNumber). n.0) same)
one_way (variant.Ipv6 header extensions) parts other last end a b =
    one_walk extensions [] header.next_header.0 parts other last end a.0 b.0

-- Headers whose next header values lead through all headers have no error.
pub not_refused : (headers : IpHeaders) (parts : List ExtensionPart) (last : ℕ) (error : ExtsWalkError)
    → LeadThrough headers parts last → RefusesLeading headers error → ⊥
not_refused (variant.Ipv4 header extensions) parts last error leads refused =
    let both : Ok _ ≡ Err refused.0 = sym leads.1 ∙ refused.1 in absurd (cc)
not_refused (variant.Ipv6 header extensions) parts last error leads refused =
    walks_not_refused extensions header.next_header.0 parts last refused.0 leads refused.1

-- ---- writing and reading back

-- An IPv4 header, its chain and the payload are the header and the rest, without trailing bytes.
group : (prefix chain payload : List ℕ) → (prefix ++ chain) ++ payload ≡ (prefix ++ (chain ++ payload)) ++ []
group prefix chain payload =
    append_assoc prefix chain payload ∙ sym (append-nil (prefix ++ (chain ++ payload)))

ipv4_len : (header : Ipv4Header) → FitsIpv4 header → length (ipv4_bytes header) ≡ ipv4_header_len header
ipv4_len header fits = grind (arith, common_steps, fits.source_len, fits.destination_len)

-- A header fits its fields with the computed checksum too.
checked : (header : Ipv4Header) → FitsIpv4 header
    → FitsIpv4 (record header { header_checksum = ipv4_checksum header })
checked header fits = record {
  dscp = fits.dscp;
  ecn = fits.ecn;
  total_len = fits.total_len;
  identification = fits.identification;
  fragment_offset = fits.fragment_offset;
  time_to_live = fits.time_to_live;
  protocol = fits.protocol;
  header_checksum = omega arith;
  source_len = fits.source_len;
  source = fits.source;
  destination_len = fits.destination_len;
  destination = fits.destination;
  options_len = fits.options_len;
  options_words = fits.options_words;
  options = fits.options;
}

-- A packet without trailing bytes.
abbrev complete_packet : {Header : Type 0} → Header → List ExtensionPart → IpPayload → IpPacket Header
complete_packet header parts payload = record { header = header; extensions = parts; payload = payload; left = [] }

read_ipv4 : (header : Ipv4Header) (extensions : Ipv4Extensions) (last : IpNumber) (payload : List ℕ)
    → FitsIpv4 header → FitParts (ipv4_parts (ipv4_linked extensions last))
    → header.protocol ≡ ipv4_first extensions last
    → header.total_len ≡ ipv4_header_len header
    + (length payload + length (parts_bytes (ipv4_parts (ipv4_linked extensions last))))
    → (last.0 ≡ 51 → ⊥)
    → let written = variant.Ipv4 header (ipv4_linked extensions last) in
    AreReadAs (written_headers written (ip_headers_parts written) ++ payload) (with_checksum written)
    (payload_of_headers written last payload)
read_ipv4 header extensions last payload fits fit protocol total other =
    let present = record header { header_checksum = ipv4_checksum header } in
    let parts = ipv4_parts (ipv4_linked extensions last) in
    let content = parts_bytes parts ++ payload in
    let complete = checked header fits in
    let written = variant.Ipv4 header (ipv4_linked extensions last) in
    let is : IsIpv4 by_value (written_headers written parts ++ payload)
    (complete_packet present parts (payload_of_headers written last payload)) = record {
      content = content;
      cut = record {
        encoded = ipv4_bytes present;
        encodes = record { fits = complete; reserved = 0; flag = omega arith; same = refl };
        parts = group (ipv4_bytes present) (parts_bytes parts) payload;
        cut = omega (arith, total, ipv4_len present complete, length-append (parts_bytes parts) payload);
      };
      chain = subst (λ (n : IpNumber). IsExtensionChain ipv4 by_value n.0 content (chain_of parts last.0 payload))
          (sym protocol) (linked_chain_4 extensions last payload fit other);
      fragmented = refl;
      source = refl;
    } in
    record {
      part = ipv4_part _;
      is = is;
      same_headers = ap (variant.Ipv4 present) (ipv4_value (ipv4_linked extensions last));
      same_extensions = refl;
      same_payload = refl;
      nothing_left = refl;
    }

-- The source of the end of an IPv6 payload that the payload length counts is that field.
counted : (field len : ℕ) → field ≡ len
    → source.Ipv6HeaderPayloadLen ≡ (if (field == 0) && nat_lt 0 len then source.Slice else source.Ipv6HeaderPayloadLen)
counted field len same = grind (arith, common_steps)

abbrev IsCut : ℕ → List ℕ → List ℕ → Type 0
IsCut field content left = ((0 < field) × (field ≡ length content)) ⊎ ((field ≡ 0) × (left ≡ []))

cut_by_len : (field : ℕ) (content : List ℕ) → field ≡ length content → IsCut field content []
cut_by_len field content same = elim (cases_eq field 0) [
  | inl none ↦ inr (none, refl)
  | inr some ↦ inl (omega (arith, some), same)
]

read_ipv6 : (header : Ipv6Header) (extensions : Ipv6Extensions) (last : IpNumber) (payload : List ℕ)
    → FitsIpv6 header → FitParts (ipv6_parts (ipv6_linked extensions last))
    → header.next_header ≡ ipv6_first extensions last
    → header.payload_length ≡ length payload + length (parts_bytes (ipv6_parts (ipv6_linked extensions last)))
    → is_ipv6_extension last.0 ≡ false
    → let written = variant.Ipv6 header (ipv6_linked extensions last) in
    AreReadAs (written_headers written (ip_headers_parts written) ++ payload) (with_checksum written)
    (payload_of_headers written last payload)
read_ipv6 header extensions last payload fits fit next field other =
    let parts = ipv6_parts (ipv6_linked extensions last) in
    let content = parts_bytes parts ++ payload in
    let len : header.payload_length ≡ length content =
    omega (arith, field, length-append (parts_bytes parts) payload) in
    let written = variant.Ipv6 header (ipv6_linked extensions last) in
    let is : IsIpv6 by_value (written_headers written parts ++ payload)
    (complete_packet header parts (payload_of_headers written last payload)) = record {
      content = content;
      cut = record {
        fits = fits;
        parts = group (ipv6_bytes header) (parts_bytes parts) payload;
        cut = cut_by_len header.payload_length content len;
      };
      chain = subst (λ (n : IpNumber). IsExtensionChain ipv6 by_value n.0 content (chain_of parts last.0 payload))
          (sym next) (linked_chain extensions last payload fit other);
      fragmented = refl;
      source = counted header.payload_length (length content) len;
    } in
    record {
      part = ipv6_part _;
      is = is;
      same_headers = ap (variant.Ipv6 header) (linked_value extensions last);
      same_extensions = refl;
      same_payload = refl;
      nothing_left = refl;
    }

pub read : (headers : IpHeaders) (last : IpNumber) (payload : List ℕ)
    → FitIpHeaders (headers_for headers last (length payload)) → EndsExtensions headers last.0
    → let written = headers_for headers last (length payload) in
    AreReadAs (written_headers written (ip_headers_parts written) ++ payload) (with_checksum written)
    (payload_of_headers written last payload)
read (variant.Ipv4 header extensions) last payload fit other =
    read_ipv4 _ extensions last payload fit.0 fit.1 refl refl other
read (variant.Ipv6 header extensions) last payload fit other =
    read_ipv6 _ extensions last payload fit.0 fit.1 refl refl other

-- ---- errors of writing headers

-- IPv4 next header values without an error lead to a last number.
pub walk_end_4 : (walk : Result IpNumber Ipv4WalkError) → ((error : Ipv4WalkError) → walk ≡ Err error → ⊥)
    → (last : IpNumber) × (walk ≡ Ok last)
walk_end_4 (Ok last) never = (last, refl)
walk_end_4 (Err error) never = absurd (never error refl)

-- Headers have at most one error of their next header values.
pub one_refusal : (headers : IpHeaders) (error other : ExtsWalkError) → RefusesLeading headers error
    → RefusesLeading headers other → error ≡ other
one_refusal (variant.Ipv4 header extensions) error other a b =
    let same = one_error (ipv4_walk extensions header.protocol) a.0 b.0 a.1 b.1 in
    a.2 ∙ ap walk_error.Ipv4Exts same ∙ sym b.2
one_refusal (variant.Ipv6 header extensions) error other a b =
    a.2 ∙ ap walk_error.Ipv6Exts (one_walk_refusal extensions header.next_header.0 a.0 b.0 a.1 b.1) ∙ sym b.2

-- Different errors of next header values are different errors of writing.
same_walk_error : (error other : ExtsWalkError) → of_walk_error error ≡ of_walk_error other → error ≡ other
same_walk_error (walk_error.Ipv4Exts a) (walk_error.Ipv4Exts b) same = cc
same_walk_error (walk_error.Ipv4Exts a) (walk_error.Ipv6Exts b) same = absurd (cc)
same_walk_error (walk_error.Ipv6Exts a) (walk_error.Ipv4Exts b) same = absurd (cc)
same_walk_error (walk_error.Ipv6Exts a) (walk_error.Ipv6Exts b) same = cc

pub not_memory : (error : ExtsWalkError) → write_error.OutOfMemory ≡ of_walk_error error → ⊥
not_memory (walk_error.Ipv4Exts a) same = absurd (cc)
not_memory (walk_error.Ipv6Exts a) same = absurd (cc)

-- A result is an error of the next header values exactly if the headers have that error.
abbrev pub TellsLeading : IpHeaders → Result (Unit {0}) HeadersWriteError → Type 0
TellsLeading headers answer =
    (error : ExtsWalkError) → RefusesLeading headers error ↔ (answer ≡ Err (of_walk_error error))

pub tells_refusal : (headers : IpHeaders) (error : ExtsWalkError) → RefusesLeading headers error
    → TellsLeading headers (Err (of_walk_error error))
tells_refusal headers error refused other = (
  (λ also. ap (λ (e : ExtsWalkError). Err (of_walk_error e)) (one_refusal headers error other refused also)),
  (λ same.
      let inner : of_walk_error error ≡ of_walk_error other = cc in
      subst (RefusesLeading headers) (sym (same_walk_error other error (sym inner))) refused),
)

pub tells_memory : (headers : IpHeaders) → ((error : ExtsWalkError) → RefusesLeading headers error → ⊥)
    → TellsLeading headers (Err write_error.OutOfMemory)
tells_memory headers never other = (
  (λ refused. absurd (never other refused)),
  (λ same.
      let inner : write_error.OutOfMemory ≡ of_walk_error other = cc in
      absurd (not_memory other inner)),
)

pub tells_ok : (headers : IpHeaders) → ((error : ExtsWalkError) → RefusesLeading headers error → ⊥)
    → TellsLeading headers (Ok tt)
tells_ok headers never other = ((λ refused. absurd (never other refused)), (λ same. absurd (cc)))

-- If the extension headers of a version have no error, the headers have none.
pub never_4 : (headers : IpHeaders) (header : Ipv4Header) (extensions : Ipv4Extensions)
    → headers ≡ variant.Ipv4 header extensions
    → ((error : Ipv4WalkError) → ipv4_walk extensions header.protocol ≡ Err error → ⊥)
    → (error : ExtsWalkError) → RefusesLeading headers error → ⊥
never_4 headers header extensions is never error refused =
    let present = subst (λ (h : IpHeaders). RefusesLeading h error) is refused in never present.0 present.1

pub never_6 : (headers : IpHeaders) (header : Ipv6Header) (extensions : Ipv6Extensions)
    → headers ≡ variant.Ipv6 header extensions
    → ((error : Ipv6WalkError) → RefusesWalk extensions header.next_header.0 error → ⊥)
    → (error : ExtsWalkError) → RefusesLeading headers error → ⊥
never_6 headers header extensions is never error refused =
    let present = subst (λ (h : IpHeaders). RefusesLeading h error) is refused in never present.0 present.1

-- The extension headers that the next header values lead through are as long as all extension headers.
pub leading_len : (headers : IpHeaders) (parts : List ExtensionPart) (last : ℕ) → LeadThrough headers parts last
    → length (parts_bytes parts) ≡ ip_extensions_len headers
leading_len (variant.Ipv4 header extensions) parts last leads =
    ap (λ (p : List ExtensionPart). length (parts_bytes p)) leads.0
leading_len (variant.Ipv6 header extensions) parts last leads =
    walk_len extensions header.next_header.0 parts last leads

-- Writing extension headers that the next header values lead to succeeds if the buffer has capacity for them.
pub extensions_succeed : (headers : IpHeaders) (parts : List ExtensionPart) (last len space : ℕ)
    (answer : Result (Unit {0}) HeadersWriteError) → LeadThrough headers parts last
    → len + ip_extensions_len headers ≤ space → TellsLeading headers answer
    → (answer ≡ Err write_error.OutOfMemory → (other : List ExtensionPart) × (end : ℕ) × LeadThrough headers other end
    × (space < len + length (parts_bytes other))) → IsOk answer
extensions_succeed headers parts last len space (Ok done) leads enough leading full = refl
extensions_succeed headers parts last len space (Err write_error.OutOfMemory) leads enough leading full =
    let wanting = full refl in
    absurd (omega (arith, wanting.3, enough, leading_len headers wanting.0 wanting.1 wanting.2))
extensions_succeed headers parts last len space (Err (write_error.Ipv4Exts error)) leads enough leading full =
    absurd (not_refused headers parts last (walk_error.Ipv4Exts error) leads
    ((leading (walk_error.Ipv4Exts error)).1 refl))
extensions_succeed headers parts last len space (Err (write_error.Ipv6Exts error)) leads enough leading full =
    absurd (not_refused headers parts last (walk_error.Ipv6Exts error) leads
    ((leading (walk_error.Ipv6Exts error)).1 refl))

-- IPv4 headers whose next header values lead to `last` lead through all extension headers.
pub leads_4 : (headers : IpHeaders) (header : Ipv4Header) (extensions : Ipv4Extensions) (last : IpNumber)
    → headers ≡ variant.Ipv4 header extensions → ipv4_walk extensions header.protocol ≡ Ok last
    → LeadThrough headers (ipv4_parts extensions) last.0
leads_4 headers header extensions last is walk =
    subst (λ (h : IpHeaders). LeadThrough h (ipv4_parts extensions) last.0) (sym is) (refl, walk)

-- ---- length fields that cannot count a payload

pub sum_above : {E : Type 0} (len extensions most : ℕ) (first second : E) → len + extensions < 2 ^ 64
    → most < len + extensions
    → first_row ((nat_lt (2 ^ 64 - 1) (len + extensions), first) ∷ (nat_lt most (len + extensions), second) ∷ [])
    ≡ Some second
sum_above len extensions most first second fits above = grind (arith, common_steps)

-- Setting the IPv4 total length for header and content sets it for a payload of `len` bytes, or returns the error of
-- the table.
pub set_ipv4 : (headers : IpHeaders) (header new : Ipv4Header) (extensions : Ipv4Extensions) (len content : ℕ)
    (answer : Result (Unit {0}) (ValueTooBigError ℕ)) → headers ≡ variant.Ipv4 header extensions
    → content ≡ len + length (parts_bytes (ipv4_parts extensions)) → content < 2 ^ 64 → ipv4_header_len header ≤ 60
    → MatchResult answer
    (λ _. (ipv4_header_len header + content ≤ 65535)
    × (new ≡ record header { total_len = ipv4_header_len header + content }))
    (λ error. (65535 < ipv4_header_len header + content) × (new ≡ header) × (error ≡ record {
      actual = content;
      max_allowed = 65535 - ipv4_header_len header;
      value_type = value_type.Ipv4PayloadLength;
    }))
    → MatchResult answer
    (λ _. (len + ip_extensions_len headers ≤ most_after_header headers)
    × (variant.Ipv4 new extensions ≡ with_payload_len headers len))
    (λ error. (variant.Ipv4 new extensions ≡ headers) × Refuses (payload_len_rows headers len) error)
set_ipv4 headers header new extensions len content answer is sum fits short set =
    let more = length (parts_bytes (ipv4_parts extensions)) in
    let most = 65535 - ipv4_header_len header in
    let here = variant.Ipv4 header extensions in
    let error_of : ℕ → ValueTooBigError ℕ = λ n. record {
      actual = n;
      max_allowed = most;
      value_type = value_type.Ipv4PayloadLength;
    } in
    let weaker : MatchResult answer
    (λ _. (len + ip_extensions_len here ≤ most_after_header here)
    × (variant.Ipv4 new extensions ≡ with_payload_len here len))
    (λ error. (variant.Ipv4 new extensions ≡ here) × Refuses (payload_len_rows here len) error) =
    MatchResult-weaker answer set
    (λ _ counted. (
      omega (arith, counted.0, sum),
      ap (λ (h : Ipv4Header). variant.Ipv4 h extensions)
          (counted.1 ∙ ap (λ (n : ℕ). record header { total_len = ipv4_header_len header + n }) sum),
    ))
    (λ error refused. (
      ap (λ (h : Ipv4Header). variant.Ipv4 h extensions) refused.1,
      sum_above len more most _ (error_of (len + more)) (omega (arith, sum, fits))
          (omega (arith, sum, refused.0, short))
          ∙ ap Some (sym (refused.2 ∙ ap error_of sum)),
    )) in
    subst (λ (h : IpHeaders). MatchResult answer
    (λ _. (len + ip_extensions_len h ≤ most_after_header h) × (variant.Ipv4 new extensions ≡ with_payload_len h len))
    (λ error. (variant.Ipv4 new extensions ≡ h) × Refuses (payload_len_rows h len) error)) (sym is) weaker

-- ---- reading

-- An IPv6 packet whose extension headers are read as owned values.
pub ipv6_by_value : (bytes content left : List ℕ) (header : Ipv6Header) (parts : List ExtensionPart) (number : ℕ)
    (rest : List ℕ) → IsIpv6Packet bytes (parts_of header content left)
    → IsExtensionChain ipv6 by_value header.next_header.0 content (chain_of parts number rest)
    → IsIpv6 by_value bytes (shown_packet header (chain_of parts number rest) (chain_fragments parts)
    (ipv6_payload_source header content) left)
ipv6_by_value bytes content left header parts number rest cut chain =
    record { content = content; cut = cut; chain = chain; fragmented = refl; source = refl }

-- Headers and payload of a packet have the packet's protocol number and payload bytes.
pub has_bytes : (part : IpPart) (headers : IpHeaders) (payload : IpPayloadSlice) → AreOfPart part (headers, payload)
    → HasBytes part (headers, payload.ip_number, payload.payload.now)
has_bytes part headers payload of =
    (of.0, ap (λ (p : IpPayload). p.number) of.1, ap (λ (p : IpPayload). p.bytes) of.1)

row_empty : (bytes : List ℕ) → length bytes ≡ 0
    → Refuses (ip_version_rows bytes) (slice_error.Len (len_error 1 0 source.Slice layer.IpHeader))
row_empty bytes none = grind (arith, common_steps)

row_version : (bytes : List ℕ) → 0 < length bytes → (version_of bytes ≡ 4 → ⊥) → (version_of bytes ≡ 6 → ⊥)
    → Refuses (ip_version_rows bytes)
    (slice_error.IpHeaders (headers_error.Ip (content.UnsupportedIpVersion (version_of bytes))))
row_version bytes some not_4 not_6 = grind (arith, common_steps)

-- An empty slice is rejected.
pub empty_refused : (bytes : List ℕ) (error : HeadersSliceError) → length bytes ≡ 0
    → error ≡ headers_slice_error.Len (len_error 1 0 source.Slice layer.IpHeader)
    → RefusesAs of_slice_error (RefusesIp by_value bytes) error
empty_refused bytes error none same =
    (slice_error.Len (len_error 1 0 source.Slice layer.IpHeader), inl (row_empty bytes none), same)

-- Bytes of an unsupported IP version are rejected.
pub version_refused : (bytes : List ℕ) (version : ℕ) (error : HeadersSliceError)
    → error ≡ headers_slice_error.Content (headers_error.Ip (content.UnsupportedIpVersion version))
    → version ≡ version_of bytes → 0 < length bytes → (version ≡ 4 → ⊥) → (version ≡ 6 → ⊥)
    → RefusesAs of_slice_error (RefusesIp by_value bytes) error
version_refused bytes version error is same some not_4 not_6 = (
  slice_error.IpHeaders (headers_error.Ip (content.UnsupportedIpVersion (version_of bytes))),
  inl (row_version bytes some (λ four. not_4 (same ∙ four)) (λ six. not_6 (same ∙ six))),
  is ∙ ap (λ (v : ℕ). headers_slice_error.Content (headers_error.Ip (content.UnsupportedIpVersion v))) same,
)
