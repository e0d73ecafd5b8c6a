-- An IP packet with more bytes after it has the headers that it has without them, followed by further headers.
use Rattle.std.proofs.Common.{◌≡◌, ◌⊎◌, if◌then◌else◌, ℕ, ◌+◌, ◌≤◌, ◌<◌, Bool, true, false, List, [], ◌∷◌, ◌++◌, map, length, Option, Some, None, refl, sym, ap, subst, ◌∙◌, inl, inr, append_assoc, length-append, arith}
use Rattle.std.specs.Option.{option_map}
use Rattle.std.proofs.lemmas.Bool.{cases_lt}
use Rattle.std.proofs.lemmas.List.{append-nil, map-append}
use Rattle.ep_base.specs.Bytes.{AreBytes}
use Rattle.ep_base.specs.IpPayload.{IpPayload}
use Rattle.ep_base.specs.LaxCut.{LaxCut, IsLaxCut, cuts}
use Rattle.ep_base.specs.Readings.{Reading, slices}
use Rattle.ep_base.specs.declared.err.layer.Layer.{Layer}
use Rattle.ep_base.specs.declared.err.ipv6_exts.HeaderSliceError.{HeaderSliceError}
use Rattle.ep_base.specs.declared.len_source.LenSource.{LenSource}
use Rattle.ep_base.specs.declared.len_source.LenSource.TheVariants as source
use Rattle.ep_base.proofs.BytesLemmas.{AreBytes-prefix}
use Rattle.ep_base.proofs.LaxCutLemmas.{cuts_not, cuts_present, lax_cut_is_one}
use Rattle.ep_ext.specs.Chains.{IpVersion, ipv4, ipv6, ExtensionChain, chain_of, chain_fragments, demand_of, takes, IsChainAfter, RefusesChainAfter}
use Rattle.ep_ext.specs.ExtensionParts.{ExtensionPart, hop_by_hop, destination_options, routing, fragment, authentication, part_len, part_next, IsExtensionPart}
use Rattle.ep_ext.specs.ChainPrefixes.{BeginWithParts, IsLaxChain, IsLaxChainIn}
use Rattle.ep_ext.specs.RawExtension.{raw_extension_bytes}
use Rattle.ep_ext.proofs.ChainLemmas.{after_decided}
use Rattle.ep_ext.proofs.HeaderLawLemmas.{header_laws}
use Rattle.ep_ext.proofs.ChainLemmas.{taken_is_kind}
use Rattle.ep_ext.proofs.PartLemmas.{part_after_fits, part_decided, part_lens}
use Rattle.ep_ip.specs.declared.ipv4_header.Ipv4Header.{Ipv4Header}
use Rattle.ep_ip.specs.declared.ipv6_header.Ipv6Header.{Ipv6Header}
use Rattle.ep_ip.specs.IpPackets.{IpPacket}
use Rattle.ep_ip.specs.Ipv4.{IsIpv4Header, ipv4_header_len, is_ipv4_fragment}
use Rattle.ep_ip.specs.Ipv6.{IsIpv6Header, ipv6_bytes}
use Rattle.ep_packet.specs.declared.err.slice_error.SliceError.{SliceError}
use Rattle.ep_packet.specs.Offsets.{parts_len}
use Rattle.ep_packet.proofs.OffsetLemmas.{part_encoded, transport_encoded}
use Rattle.ep_ip.proofs.IpBytesLemmas.{encoded_len as ipv4_encoded_len, ipv6_len}
use Rattle.ep_transport.specs.TransportParts.{AreTransport, TransportLayer}
use Rattle.ep_packet.specs.FrameRefusals.{net_payload_offset}
use Rattle.ep_packet.specs.Layers.{NetLayer, ipv4_layer, ipv6_layer}
use Rattle.ep_lax.specs.Lax.{IsInsideIp, IsIpLayer, IsIpv4Net, IsIpv6Net, IsLaxTransport, chain_refusal}
use Rattle.ep_lax.specs.LaxHeaders.{LayerHeader, header_len, of_ipv4, of_ipv6, of_extension, net_headers, transport_headers, ShowsPrefix}
use Rattle.ep_ip.specs.LaxIp.{LaxIp, IsLaxIpv4After, IsLaxIpv6After, lax_ip_of, lax_ipv6_source, stop_after}
use Rattle.ep_lax.specs.LaxLayers.{LaxNet, LaxTransport, net_with, no_transport, error_with_layer}
use Rattle.ep_lax.proofs.FurtherHeaderLemmas.{EndAfter, ShowsComplete, complete_after, complete_before, complete_following, complete_limited, extensions_len, prefix_of_longer, header_in_prefix, headers_len, headers_len-append}
use Rattle.ep_ip.proofs.LaxIpLemmas.{after_ipv4_fits, after_ipv6_fits, cut_fits, rest_fits}
use Rattle.ep_lax.proofs.LaxLawLemmas.{ip_layer_is_one}
use Rattle.ep_lax.proofs.LaxOrderLemmas.{inside_in_order, transport_in_order}
use Rattle.ep_lax.proofs.NestedLengthLemmas.{chain_lens}
use Rattle.ep_lax.proofs.MoreTransportLemmas.{parts_more, payload_with, shows_after, shows_before, transport_more}

-- ---- payload limited by a length field

-- The payload that a field limits does not become shorter.
cut_grows : (least stated present more : ℕ) → (if cuts least stated present then stated else present)
    ≤ (if cuts least stated (present + more) then stated else present + more)
cut_grows least stated present more =
    elim (cases_lt stated least) [
      | inl short ↦ by_cuts false false (cuts_not least stated present (inl short))
          (cuts_not least stated (present + more) (inl short)) (omega arith)
      | inr enough ↦ elim (cases_lt present stated) [
        | inl long ↦ elim (cases_lt (present + more) stated) [
          | inl longer ↦ by_cuts false false (cuts_not least stated present (inr long))
              (cuts_not least stated (present + more) (inr longer)) (omega arith)
          | inr within ↦ by_cuts false true (cuts_not least stated present (inr long))
              (cuts_present least stated (present + more) enough within) (omega arith)
        ]
        | inr within ↦ by_cuts true true (cuts_present least stated present enough within)
            (cuts_present least stated (present + more) enough (omega arith)) (omega arith)
      ]
    ]
  where
    by_cuts : (here further : Bool) → cuts least stated present ≡ here → cuts least stated (present + more) ≡ further
        → (if here then stated else present) ≤ (if further then stated else present + more)
        → (if cuts least stated present then stated else present)
        ≤ (if cuts least stated (present + more) then stated else present + more)
    by_cuts here further is goes_on less =
        subst (λ (h : Bool). (if h then stated else present) ≤ (if cuts least stated (present + more) then stated else present + more))
        (sym is)
        (subst (λ (f : Bool). (if here then stated else present) ≤ (if f then stated else present + more)) (sym goes_on) less)

pub cut_more : (least stated : ℕ) (named : LenSource) (outer inner : Bool) (len : ℕ) (following more : List ℕ)
    (cut longer : LaxCut) → IsLaxCut least stated named outer len following cut
    → IsLaxCut least stated named inner len (following ++ more) longer
    → (rest : List ℕ) × (longer.payload ≡ cut.payload ++ rest)
cut_more least stated named outer inner len following more cut longer is present =
    let all : len + length (following ++ more) ≡ len + length following + length more =
    omega (arith, length-append following more) in
    let end : len + length longer.payload ≡ (if cuts least stated (len + length following + length more) then stated
    else len + length following + length more) =
    present.ends ∙ ap (λ (n : ℕ). if cuts least stated n then stated else n) all in
    let grows = cut_grows least stated (len + length following) (length more) in
    let within : length cut.payload ≤ length longer.payload = omega (arith, is.ends, end, grows) in
    prefix_of_longer cut.payload (cut.left ++ more) longer.payload longer.left
    (sym (parts_more following cut.payload cut.left more is.parts) ∙ present.parts) within

-- Either no length field limits the bytes after a header, or it limits them and longer bytes to the same number.
pub cut_limits : (least stated : ℕ) (named : LenSource) (outer inner : Bool) (len : ℕ) (following more : List ℕ)
    (cut longer : LaxCut) → IsLaxCut least stated named outer len following cut
    → IsLaxCut least stated named inner len (following ++ more) longer
    → (length following ≤ length cut.payload) ⊎ (length longer.payload ≤ length cut.payload)
cut_limits least stated named outer inner len following more cut longer is present =
    let here = len + length following in
    let all = len + length (following ++ more) in
    let nowhere : (stated < least) ⊎ (here < stated) → length following ≤ length cut.payload =
    λ why. omega (arith, is.ends ∙ ap (λ (b : Bool). if b then stated else here) (cuts_not least stated here why)) in
    elim (cases_lt stated least) [
      | inl short ↦ inl (nowhere (inl short))
      | inr enough ↦ elim (cases_lt here stated) [
        | inl long ↦ inl (nowhere (inr long))
        | inr within ↦ inr (omega (
          arith,
          is.ends ∙ ap (λ (b : Bool). if b then stated else here) (cuts_present least stated here enough within),
          present.ends ∙ ap (λ (b : Bool). if b then stated else all)
              (cuts_present least stated all enough (omega (arith, within, length-append following more))),
        ))
      ]
    ]

-- ---- chains of extension headers

pub part_more : (number : ℕ) (bytes more : List ℕ) (part : ExtensionPart) (following : List ℕ)
    → IsExtensionPart number bytes part following → IsExtensionPart number (bytes ++ more) part (following ++ more)
part_more number bytes more (hop_by_hop header) following is =
    (is.0, record { fits = is.1.fits; parts = parts_more bytes (raw_extension_bytes header) following more is.1.parts })
part_more number bytes more (destination_options header) following is =
    (is.0, record { fits = is.1.fits; parts = parts_more bytes (raw_extension_bytes header) following more is.1.parts })
part_more number bytes more (routing header) following is =
    (is.0, record { fits = is.1.fits; parts = parts_more bytes (raw_extension_bytes header) following more is.1.parts })
part_more number bytes more (fragment header) following is = (
  is.0,
  record {
    encoded = is.1.encoded;
    encodes = is.1.encodes;
    parts = parts_more bytes is.1.encoded following more is.1.parts;
  },
)
part_more number bytes more (authentication header) following is = (
  is.0,
  record {
    encoded = is.1.encoded;
    encodes = is.1.encodes;
    parts = parts_more bytes is.1.encoded following more is.1.parts;
  },
)

-- An extension header that ends in a prefix of its bytes is the first extension header of the prefix, too.
part_less : (number : ℕ) (bytes more : List ℕ) (part : ExtensionPart) (following : List ℕ)
    → IsExtensionPart number (bytes ++ more) part following → part_len part ≤ length bytes
    → (after : List ℕ) × IsExtensionPart number bytes part after
part_less number bytes more (hop_by_hop header) following is within =
    let len = part_encoded (hop_by_hop header) (raw_extension_bytes header) (is.1.fits, refl) in
    let after = header_in_prefix (raw_extension_bytes header) following bytes more is.1.parts (omega (arith, within, len)) in
    (after.0, (is.0, record { fits = is.1.fits; parts = after.1 }))
part_less number bytes more (destination_options header) following is within =
    let len = part_encoded (destination_options header) (raw_extension_bytes header) (is.1.fits, refl) in
    let after = header_in_prefix (raw_extension_bytes header) following bytes more is.1.parts (omega (arith, within, len)) in
    (after.0, (is.0, record { fits = is.1.fits; parts = after.1 }))
part_less number bytes more (routing header) following is within =
    let len = part_encoded (routing header) (raw_extension_bytes header) (is.1.fits, refl) in
    let after = header_in_prefix (raw_extension_bytes header) following bytes more is.1.parts (omega (arith, within, len)) in
    (after.0, (is.0, record { fits = is.1.fits; parts = after.1 }))
part_less number bytes more (fragment header) following is within =
    let len = part_encoded (fragment header) is.1.encoded is.1.encodes in
    let after = header_in_prefix is.1.encoded following bytes more is.1.parts (omega (arith, within, len)) in
    (after.0, (is.0, record { encoded = is.1.encoded; encodes = is.1.encodes; parts = after.1 }))
part_less number bytes more (authentication header) following is within =
    let len = part_encoded (authentication header) is.1.encoded is.1.encodes in
    let after = header_in_prefix is.1.encoded following bytes more is.1.parts (omega (arith, within, len)) in
    (after.0, (is.0, record { encoded = is.1.encoded; encodes = is.1.encodes; parts = after.1 }))

-- A chain stays the same when bytes are appended.
pub chain_more : (version : IpVersion) (taken : List ℕ) (number : ℕ) (bytes more : List ℕ) (parts : List ExtensionPart)
    (last : ℕ) (rest : List ℕ) → IsChainAfter version slices taken number bytes parts last rest
    → IsChainAfter version slices taken number (bytes ++ more) parts last (rest ++ more)
chain_more version taken number bytes more [] last rest is = (is.0, is.1, ap (λ (l : List ℕ). l ++ more) is.2)
chain_more version taken number bytes more (part ∷ parts) last rest is = (
  is.0,
  (
    is.1.0 ++ more,
    part_more number bytes more part is.1.0 is.1.1,
    chain_more version (number ∷ taken) (part_next part) is.1.0 more parts last rest is.1.2,
  ),
)

-- Lax parsing of bytes after the visited headers, up to the first rejected header.
abbrev IsPrefixAfter : IpVersion → List ℕ → ℕ → ℕ → List ℕ → ExtensionChain → Option HeaderSliceError → Type 0
IsPrefixAfter version taken offset number bytes chain None =
    IsChainAfter version slices taken number bytes chain.parts chain.last chain.rest
IsPrefixAfter version taken offset number bytes chain (Some error) =
    RefusesChainAfter version slices taken offset number bytes chain.parts error
    × BeginWithParts number bytes chain.parts chain.last chain.rest

-- After a rejected extension header of `len` bytes, which comes after `parts`, the same header is rejected with more
-- bytes, too, or it does not end within the `len` bytes.
abbrev StopsBefore : {E : Type 0} → ℕ → List ExtensionPart → List ExtensionPart → Option E → Type 0
StopsBefore {E} len parts [] stop = (error : E) × (stop ≡ Some error)
StopsBefore {E} len parts (next ∷ others) stop = len < parts_len parts + part_len next

record MorePrefix (version : IpVersion) (taken : List ℕ) (offset number : ℕ) (bytes : List ℕ)
    (parts : List ExtensionPart) : Type 0 where
  others : List ExtensionPart
  last : ℕ
  rest : List ℕ
  stop : Option HeaderSliceError
  is : IsPrefixAfter version taken offset number bytes (chain_of (parts ++ others) last rest) stop

-- A result of lax parsing, and the header at which the first `len` bytes stop.
record StoppedPrefix (version : IpVersion) (taken : List ℕ) (offset number len : ℕ) (bytes : List ℕ)
    (parts : List ExtensionPart) : Type 0 where
  prefix : MorePrefix version taken offset number bytes parts
  stops : StopsBefore len parts prefix.others prefix.stop

-- There is a result of lax parsing.
prefix_present : (version : IpVersion) (taken : List ℕ) (offset number : ℕ) (bytes : List ℕ) → AreBytes bytes
    → MorePrefix version taken offset number bytes []
prefix_present version taken offset number bytes fits =
    elim (after_decided header_laws (length bytes + 1) version slices taken offset number bytes (omega arith) fits).some [
      | inl found ↦
          record { others = found.0.parts; last = found.0.last; rest = found.0.rest; stop = None; is = found.1 }
      | inr refused ↦
          let following = stand taken offset number bytes refused.1.0 refused.0 refused.1.1 in
          record {
            others = refused.1.0;
            last = following.0;
            rest = following.1;
            stop = Some refused.0;
            is = (refused.1.1, following.2);
          }
    ]
  where
    stand : (taken : List ℕ) (offset number : ℕ) (bytes : List ℕ) (parts : List ExtensionPart)
        (error : HeaderSliceError) → RefusesChainAfter version slices taken offset number bytes parts error
        → (last : ℕ) × (rest : List ℕ) × BeginWithParts number bytes parts last rest
    stand taken offset number bytes [] error refused = (number, bytes, (refl, refl))
    stand taken offset number bytes (part ∷ parts) error refused =
        let more = stand (number ∷ taken) (offset + part_len part) (part_next part) refused.1.0 parts error
        refused.1.2 in
        (more.0, more.1, (refused.1.0, refused.1.1, more.2))

-- A result of lax parsing with one header before it.
prefix_with : (version : IpVersion) (taken : List ℕ) (offset number : ℕ) (bytes : List ℕ) (part : ExtensionPart)
    (following : List ℕ) (chain : ExtensionChain) (stop : Option HeaderSliceError)
    → demand_of version slices taken number ≡ takes → IsExtensionPart number bytes part following
    → IsPrefixAfter version (number ∷ taken) (offset + part_len part) (part_next part) following chain stop
    → IsPrefixAfter version taken offset number bytes (chain_of (part ∷ chain.parts) chain.last chain.rest) stop
prefix_with version taken offset number bytes part following chain None demand is prefix = (demand, (following, is, prefix))
prefix_with version taken offset number bytes part following chain (Some error) demand is prefix =
    ((demand, (following, is, prefix.0)), (following, is, prefix.1))

-- A header that is rejected, but that more bytes begin with, does not end within the first bytes.
part_stops : (version : IpVersion) (taken : List ℕ) (offset number : ℕ) (bytes more : List ℕ)
    (error : HeaderSliceError) → AreBytes bytes → RefusesChainAfter version slices taken offset number bytes [] error
    → (part : ExtensionPart) (after : List ℕ) → demand_of version slices taken number ≡ takes
    → IsExtensionPart number (bytes ++ more) part after → length bytes < part_len part
part_stops version taken offset number bytes more error fits (inl refused) part after demand is =
    absurd (let one = sym demand ∙ refused.0 in cc)
part_stops version taken offset number bytes more error fits (inr refused) part after demand is =
    elim (cases_lt (length bytes) (part_len part)) [
      | inl short ↦ short
      | inr within ↦
          let here = part_less number bytes more part after is within in
          absurd ((part_decided header_laws number bytes fits (taken_is_kind version slices taken number demand)).not_both
          (part, here.0) refused.1.0 here.1 refused.1.1)
    ]

-- A header that is rejected, and the headers that more bytes have in its place.
first_stops : (version : IpVersion) (taken : List ℕ) (offset number : ℕ) (bytes more : List ℕ)
    (error : HeaderSliceError) → AreBytes bytes → RefusesChainAfter version slices taken offset number bytes [] error
    → (others : List ExtensionPart) (last : ℕ) (rest : List ℕ) (stop : Option HeaderSliceError)
    → IsPrefixAfter version taken offset number (bytes ++ more) (chain_of others last rest) stop
    → StopsBefore (length bytes) [] others stop
first_stops version taken offset number bytes more error fits (inl refused) [] last rest None is =
    absurd (let one = sym is.0 ∙ refused.0 in cc)
first_stops version taken offset number bytes more error fits (inr refused) [] last rest None is =
    absurd (let one = sym is.0 ∙ refused.0 in cc)
first_stops version taken offset number bytes more error fits refused [] last rest (Some again) is = (again, refl)
first_stops version taken offset number bytes more error fits refused (part ∷ others) last rest None is =
    omega (arith, part_stops version taken offset number bytes more error fits refused part is.1.0 is.0 is.1.1)
first_stops version taken offset number bytes more error fits refused (part ∷ others) last rest (Some again) is =
    omega (arith, part_stops version taken offset number bytes more error fits refused part is.0.1.0 is.0.0 is.0.1.1)

-- The headers before a rejected header are also valid with more bytes after it.
refused_more : (version : IpVersion) (taken : List ℕ) (offset number : ℕ) (bytes more : List ℕ)
    (parts : List ExtensionPart) (error : HeaderSliceError) → AreBytes (bytes ++ more)
    → RefusesChainAfter version slices taken offset number bytes parts error
    → StoppedPrefix version taken offset number (length bytes) (bytes ++ more) parts
refused_more version taken offset number bytes more [] error fits refused =
    let prefix = prefix_present version taken offset number (bytes ++ more) fits in
    record {
      prefix = prefix;
      stops = first_stops version taken offset number bytes more error (AreBytes-prefix bytes more fits) refused
          prefix.others prefix.last prefix.rest prefix.stop prefix.is;
    }
refused_more version taken offset number bytes more (part ∷ parts) error fits refused =
    let following = refused.1.0 ++ more in
    let here = part_more number bytes more part refused.1.0 refused.1.1 in
    let next = refused_more version (number ∷ taken) (offset + part_len part) (part_next part) refused.1.0 more parts
    error (part_after_fits number (bytes ++ more) part following here fits) refused.1.2 in
    let prefix = next.prefix in
    let lens = part_lens number bytes part refused.1.0 refused.1.1 in
    record {
      prefix = record {
        others = prefix.others;
        last = prefix.last;
        rest = prefix.rest;
        stop = prefix.stop;
        is = prefix_with version taken offset number (bytes ++ more) part following
            (chain_of (parts ++ prefix.others) prefix.last prefix.rest) prefix.stop refused.0 here prefix.is;
      };
      stops = after_part prefix.others prefix.stop (omega (arith, lens.0)) next.stops;
    }
  where
    after_part : (others : List ExtensionPart) (stop : Option HeaderSliceError)
        → length bytes ≡ part_len part + length refused.1.0 → StopsBefore (length refused.1.0) parts others stop
        → StopsBefore (length bytes) (part ∷ parts) others stop
    after_part [] stop len stops = stops
    after_part (next ∷ others) stop len stops = omega (arith, len, stops)

prefix_chain : (version : IpVersion) (number : ℕ) (bytes : List ℕ) (chain : ExtensionChain)
    (stop : Option HeaderSliceError) → IsPrefixAfter version [] 0 number bytes chain stop
    → IsLaxChain version number bytes chain stop
prefix_chain version number bytes chain None is = is
prefix_chain version number bytes chain (Some error) is = is

-- ---- a packet

-- The headers of a packet are its own header and its extension headers.
pub record IpHeaders {Header : Type 0} (layer_of : IpPacket Header → NetLayer) : Type 0 where
  pub head : Header → LayerHeader
  pub are : (packet : IpPacket Header)
      → net_headers (Some (layer_of packet)) ≡ head packet.header ∷ map of_extension packet.extensions

-- Packets with equal header and extension headers have equal headers.
same_headers : {Header : Type 0} (layer_of : IpPacket Header → NetLayer) → IpHeaders layer_of
    → (shown read : IpPacket Header) → shown.header ≡ read.header → shown.extensions ≡ read.extensions
    → net_headers (Some (layer_of shown)) ≡ net_headers (Some (layer_of read))
same_headers layer_of heads shown read same parts =
    heads.are shown ∙ (λ i. heads.head (same i) ∷ map of_extension (parts i)) ∙ sym (heads.are read)

-- The headers of a packet with more extension headers are the headers of the other one, followed by these.
headers_with : {Header : Type 0} (layer_of : IpPacket Header → NetLayer) → (heads : IpHeaders layer_of)
    → (shown read : IpPacket Header) (others : List ExtensionPart) (inner : List LayerHeader)
    → read.header ≡ shown.header → read.extensions ≡ shown.extensions ++ others
    → net_headers (Some (layer_of read)) ++ inner
    ≡ net_headers (Some (layer_of shown)) ++ (map of_extension others ++ inner)
headers_with layer_of heads shown read others inner same parts =
    let more : List LayerHeader = map of_extension others in
    ap (λ (l : List LayerHeader). l ++ inner) (heads.are read
    ∙ (λ i. heads.head (same i) ∷ map of_extension (parts i))
    ∙ ap (λ (l : List LayerHeader). heads.head shown.header ∷ l) (map-append of_extension shown.extensions others)
    ∙ ap (λ (l : List LayerHeader). l ++ more) (sym (heads.are shown)))
    ∙ append_assoc (net_headers (Some (layer_of shown))) more inner

-- The headers of a network layer and of the layers in it.
abbrev pub inner_headers : LaxNet → List LayerHeader
inner_headers net = net_headers net.layer ++ transport_headers net.inside.layer

-- A network layer with the layers in it that has the headers of a prefix of its bytes. The prefix has `len` bytes.
pub record MoreNet (len : ℕ) (Is : LaxNet → Type 0) (net : LaxNet) : Type 0 where
  pub read : LaxNet
  pub is : Is read
  pub shows : ShowsPrefix (inner_headers net) net.inside.stop (inner_headers read) read.inside.stop
  pub complete : ShowsComplete len (inner_headers net) (inner_headers read)

-- ---- the first further header of a packet

-- The number of bytes after the IP header: extension headers and payload.
abbrev content_len : {Header : Type 0} → IpPacket Header → ℕ
content_len packet = parts_len packet.extensions + length packet.payload.bytes

-- The bytes are as long as the extension headers that they begin with and the rest.
prefix_lens : (number : ℕ) (bytes : List ℕ) (parts : List ExtensionPart) (last : ℕ) (rest : List ℕ)
    → BeginWithParts number bytes parts last rest → length bytes ≡ parts_len parts + length rest
prefix_lens number bytes [] last rest are = omega (arith, ap length are.1)
prefix_lens number bytes (part ∷ parts) last rest are =
    let here = part_lens number bytes part are.0 are.1 in
    omega (arith, here.0, prefix_lens (part_next part) are.0 parts last rest are.2)

pub chain_len : (version : IpVersion) (reading : Reading) (number : ℕ) (bytes : List ℕ) (chain : ExtensionChain)
    (refused : Option HeaderSliceError) → IsLaxChainIn version reading number bytes chain refused
    → length bytes ≡ parts_len chain.parts + length chain.rest
chain_len version reading number bytes chain None is =
    chain_lens version reading [] number bytes chain.parts chain.last chain.rest is
chain_len version reading number bytes chain (Some error) is =
    prefix_lens number bytes chain.parts chain.last chain.rest is.1

-- The transport header is not longer than the bytes that begin with it.
transport_fits : (bytes : List ℕ) (transport : Option TransportLayer) → AreTransport bytes transport
    → headers_len (transport_headers transport) ≤ length bytes
transport_fits bytes None are = omega arith
transport_fits bytes (Some layer) are =
    omega (
      arith,
      ap length are.parts,
      length-append are.header (layer.payload ++ are.left),
      transport_encoded (Some layer) are.header are.encodes,
    )

-- The further headers of a packet come after the same IP header.
packet_complete : {Header : Type 0} (layer_of : IpPacket Header → NetLayer) → (heads : IpHeaders layer_of)
    → (shown read : IpPacket Header) (inside found : LaxTransport) (space : ℕ) → read.header ≡ shown.header
    → ShowsComplete (content_len shown) (map of_extension shown.extensions ++ transport_headers inside.layer)
    (map of_extension read.extensions ++ transport_headers found.layer)
    → AreTransport read.payload.bytes found.layer
    → (space ≤ content_len shown) ⊎ (content_len read ≤ content_len shown)
    → ShowsComplete (header_len (heads.head shown.header) + space)
    (net_headers (Some (layer_of shown)) ++ transport_headers inside.layer)
    (net_headers (Some (layer_of read)) ++ transport_headers found.layer)
packet_complete layer_of heads shown read inside found space same complete are limit =
    let first = transport_headers inside.layer in
    let all = transport_headers found.layer in
    let len = header_len (heads.head shown.header) + space in
    let fits : headers_len (map of_extension read.extensions ++ all) ≤ content_len read = omega (
      arith,
      headers_len-append (map of_extension read.extensions) all,
      extensions_len read.extensions,
      transport_fits read.payload.bytes found.layer are,
    ) in
    let content = complete_limited (content_len shown) (content_len read) space (map of_extension shown.extensions ++ first)
    (map of_extension read.extensions ++ all) complete fits limit in
    let after = complete_after space (heads.head shown.header) (map of_extension shown.extensions ++ first)
    (map of_extension read.extensions ++ all) content in
    subst (λ (l : List LayerHeader). ShowsComplete len (l ++ first) (net_headers (Some (layer_of read)) ++ all))
    (sym (heads.are shown))
    (subst (λ (l : List LayerHeader). ShowsComplete len
    ((heads.head shown.header ∷ map of_extension shown.extensions) ++ first) (l ++ all))
    (sym (heads.are read ∙ (λ i. heads.head (same i) ∷ map of_extension read.extensions))) after)

-- The headers after those before a rejected extension header.
stopped_end : {E : Type 0} (len : ℕ) (parts others : List ExtensionPart) (stop : Option E) (inner : List LayerHeader)
    → StopsBefore len parts others stop → ((error : E) → stop ≡ Some error → inner ≡ [])
    → EndAfter len (map of_extension parts) (map of_extension others ++ inner)
stopped_end len parts [] stop inner stops none =
    subst (EndAfter len (map of_extension parts)) (sym (none stops.0 stops.1)) tt
stopped_end len parts (next ∷ others) stop inner stops none = omega (arith, stops, extensions_len parts)

-- After a rejected extension header there is no transport layer.
no_transport_header : (version : IpVersion) (offset len : ℕ) (incomplete : Bool) (payload : IpPayload)
    (stop : Option HeaderSliceError) (inside : LaxTransport) → IsInsideIp version offset len incomplete payload stop inside
    → (error : HeaderSliceError) → stop ≡ Some error → transport_headers inside.layer ≡ []
no_transport_header version offset len incomplete payload stop inside is error same =
    let none = subst (λ (s : Option HeaderSliceError). IsInsideIp version offset len incomplete payload s inside) same is in
    ap (λ (l : LaxTransport). transport_headers l.layer) none

-- The further headers of a packet come after a rejected extension header.
stopped_complete : {Header : Type 0} (version : IpVersion) (offset place : ℕ) (offset_len place_len : ℕ)
    (shown read : LaxIp Header) (others : List ExtensionPart) (error : HeaderSliceError) (inside found : LaxTransport)
    → shown.stop ≡ Some error → read.packet.extensions ≡ shown.packet.extensions ++ others
    → StopsBefore (content_len shown.packet) shown.packet.extensions others read.stop
    → IsInsideIp version offset offset_len shown.incomplete shown.packet.payload shown.stop inside
    → IsInsideIp version place place_len read.incomplete read.packet.payload read.stop found
    → ShowsComplete (content_len shown.packet) (map of_extension shown.packet.extensions ++ transport_headers inside.layer)
    (map of_extension read.packet.extensions ++ transport_headers found.layer)
stopped_complete version offset place offset_len place_len shown read others error inside found stopped parts stops is
    present =
    let before : List LayerHeader = map of_extension shown.packet.extensions in
    let more : List LayerHeader = map of_extension others in
    let inner = transport_headers found.layer in
    let none = no_transport_header version offset offset_len shown.incomplete shown.packet.payload shown.stop inside is
    error stopped in
    let same : before ++ transport_headers inside.layer ≡ before =
    ap (λ (l : List LayerHeader). before ++ l) none ∙ append-nil before in
    subst (λ (l : List LayerHeader). ShowsComplete (content_len shown.packet) l
    (map of_extension read.packet.extensions ++ inner)) (sym same)
    (complete_before (content_len shown.packet) before (more ++ inner) (map of_extension read.packet.extensions ++ inner)
    (ap (λ (l : List LayerHeader). l ++ inner)
    (ap (λ (l : List ExtensionPart). map of_extension l) parts ∙ map-append of_extension shown.packet.extensions others)
    ∙ append_assoc before more inner)
    (stopped_end (content_len shown.packet) shown.packet.extensions others read.stop inner stops
    (no_transport_header version place place_len read.incomplete read.packet.payload read.stop found present)))

-- The headers of network layers made of these parts.
nets_complete : (len : ℕ) (layer longer : NetLayer) (incomplete outer : Bool) (inside found : LaxTransport)
    (net read : LaxNet) → net ≡ net_with layer incomplete inside → read ≡ net_with longer outer found
    → ShowsComplete len (net_headers (Some layer) ++ transport_headers inside.layer)
    (net_headers (Some longer) ++ transport_headers found.layer)
    → ShowsComplete len (inner_headers net) (inner_headers read)
nets_complete len layer longer incomplete outer inside found net read same present complete =
    subst (λ (n : LaxNet). ShowsComplete len (inner_headers n) (inner_headers read)) (sym same)
    (subst (λ (n : LaxNet). ShowsComplete len (inner_headers (net_with layer incomplete inside)) (inner_headers n))
    (sym present) complete)

-- ---- packets

-- If slicing stopped after a network layer, its headers can be followed by any further headers.
shows_stopped : (net : LaxNet) (layer : NetLayer) (incomplete : Bool) (refusal : SliceError × Layer)
    (more headers : List LayerHeader) (stop : Option (SliceError × Layer))
    → net ≡ net_with layer incomplete (no_transport incomplete (Some refusal))
    → headers ≡ net_headers (Some layer) ++ more → ShowsPrefix (inner_headers net) net.inside.stop headers stop
shows_stopped net layer incomplete refusal more headers stop same parts =
    subst (λ (n : LaxNet). ShowsPrefix (inner_headers n) n.inside.stop headers stop) (sym same)
    (subst (λ (l : List LayerHeader). ShowsPrefix l (Some refusal) headers stop)
    (sym (append-nil (net_headers (Some layer))))
    (shows_before (net_headers (Some layer)) more headers refusal stop parts))

-- A packet with a rejected last extension header, and another with its headers and further ones.
packet_stopped : {Header : Type 0} (version : IpVersion) (layer_of : IpPacket Header → NetLayer)
    → (heads : IpHeaders layer_of) → (offset place : ℕ) (shown read : LaxIp Header) (error : HeaderSliceError)
    (others : List ExtensionPart) (net : LaxNet) (space : ℕ) → shown.stop ≡ Some error
    → read.packet.header ≡ shown.packet.header → read.packet.extensions ≡ shown.packet.extensions ++ others
    → StopsBefore (content_len shown.packet) shown.packet.extensions others read.stop
    → (space ≤ content_len shown.packet) ⊎ (content_len read.packet ≤ content_len shown.packet)
    → AreBytes read.packet.payload.bytes → IsIpLayer version layer_of offset shown net
    → MoreNet (header_len (heads.head shown.packet.header) + space) (IsIpLayer version layer_of place read) net
packet_stopped version layer_of heads offset place shown read error others net space stops same parts next limit fits
    layer =
    let one = ip_layer_is_one version layer_of place read fits in
    let inner = transport_headers one.is.0.layer in
    let inside = subst (λ (s : Option HeaderSliceError). IsInsideIp version offset
    (net_payload_offset (layer_of shown.packet)) shown.incomplete shown.packet.payload s layer.0) stops layer.1 in
    record {
      read = one.value;
      is = one.is;
      shows = shows_stopped net (layer_of shown.packet) shown.incomplete (error_with_layer (chain_refusal version offset error))
          (map of_extension others ++ inner) (inner_headers one.value) one.value.inside.stop
          (layer.2 ∙ ap (net_with (layer_of shown.packet) shown.incomplete) inside)
          (ap inner_headers one.is.2
          ∙ headers_with layer_of heads shown.packet read.packet others inner same parts);
      complete = nets_complete (header_len (heads.head shown.packet.header) + space) (layer_of shown.packet)
          (layer_of read.packet) shown.incomplete read.incomplete layer.0 one.is.0 net one.value layer.2 one.is.2
          (packet_complete layer_of heads shown.packet read.packet layer.0 one.is.0 space same
          (stopped_complete version offset place (net_payload_offset (layer_of shown.packet))
          (net_payload_offset (layer_of read.packet)) shown read others error layer.0 one.is.0 stops parts next layer.1
          one.is.1)
          (inside_in_order version place (net_payload_offset (layer_of read.packet)) read.incomplete
          read.packet.payload read.stop one.is.0 one.is.1) limit);
    }

-- A packet, and one with the same headers and more bytes after its payload.
packet_entire : {Header : Type 0} (version : IpVersion) (layer_of : IpPacket Header → NetLayer)
    → (heads : IpHeaders layer_of) → (offset place : ℕ) (shown read : LaxIp Header) (rest : List ℕ) (net : LaxNet)
    (space : ℕ) → shown.stop ≡ None → read.stop ≡ None → read.packet.header ≡ shown.packet.header
    → read.packet.extensions ≡ shown.packet.extensions
    → payload_with shown.packet.payload read.packet.payload.source rest ≡ read.packet.payload
    → (space ≤ content_len shown.packet) ⊎ (content_len read.packet ≤ content_len shown.packet)
    → AreBytes read.packet.payload.bytes → IsIpLayer version layer_of offset shown net
    → MoreNet (header_len (heads.head shown.packet.header) + space) (IsIpLayer version layer_of place read) net
packet_entire version layer_of heads offset place shown read rest net space stops goes_on same parts payload limit fits
    layer =
    let shown_len = net_payload_offset (layer_of shown.packet) in
    let read_len = net_payload_offset (layer_of read.packet) in
    let inside = subst (λ (s : Option HeaderSliceError). IsInsideIp version offset shown_len shown.incomplete
    shown.packet.payload s layer.0) stops layer.1 in
    let found = transport_more (offset + shown_len) (place + read_len) shown.incomplete read.incomplete
    shown.packet.payload read.packet.payload.source rest
    (subst AreBytes (sym (ap (λ (p : IpPayload). p.bytes) payload)) fits) layer.0 inside in
    let transport = subst (λ (p : IpPayload). IsLaxTransport (place + read_len) read.incomplete p found.read) payload
    found.is in
    let longer = net_with (layer_of read.packet) read.incomplete found.read in
    record {
      read = longer;
      is = (
        found.read,
        subst (λ (s : Option HeaderSliceError). IsInsideIp version place read_len read.incomplete read.packet.payload s
            found.read) (sym goes_on) transport,
        refl,
      );
      shows = subst (λ (n : LaxNet). ShowsPrefix (inner_headers n) n.inside.stop (inner_headers longer) found.read.stop)
          (sym layer.2)
          (subst (λ (l : List LayerHeader). ShowsPrefix (l ++ transport_headers layer.0.layer) layer.0.stop
          (inner_headers longer) found.read.stop) (same_headers layer_of heads read.packet shown.packet same parts)
          (shows_after (net_headers (Some (layer_of read.packet))) (transport_headers layer.0.layer)
          (transport_headers found.read.layer) layer.0.stop found.read.stop found.shows));
      complete = nets_complete (header_len (heads.head shown.packet.header) + space) (layer_of shown.packet)
          (layer_of read.packet) shown.incomplete read.incomplete layer.0 found.read net longer layer.2 refl
          (packet_complete layer_of heads shown.packet read.packet layer.0 found.read space same
          (subst (λ (n : ℕ). ShowsComplete (n + length shown.packet.payload.bytes)
          (map of_extension shown.packet.extensions ++ transport_headers layer.0.layer)
          (map of_extension read.packet.extensions ++ transport_headers found.read.layer))
          (extensions_len shown.packet.extensions)
          (subst (λ (l : List ExtensionPart). ShowsComplete
          (headers_len (map of_extension shown.packet.extensions) + length shown.packet.payload.bytes)
          (map of_extension shown.packet.extensions ++ transport_headers layer.0.layer)
          (map of_extension l ++ transport_headers found.read.layer)) (sym parts)
          (complete_following (length shown.packet.payload.bytes) (map of_extension shown.packet.extensions)
          (transport_headers layer.0.layer) (transport_headers found.read.layer) found.complete)))
          (transport_in_order (place + read_len) read.incomplete read.packet.payload found.read transport) limit);
    }

-- The limit of a number of bytes, for equal numbers.
content_limit : (space here present content longer : ℕ) → here ≡ content → present ≡ longer
    → (space ≤ here) ⊎ (present ≤ here) → (space ≤ content) ⊎ (longer ≤ content)
content_limit space here present content longer same same_longer (inl all) = inl (omega (arith, all, same))
content_limit space here present content longer same same_longer (inr limit) = inr (omega (arith, limit, same, same_longer))

-- Errors that are converted stop where they did.
stops_as : (convert : HeaderSliceError → HeaderSliceError) (len : ℕ) (parts others : List ExtensionPart)
    (stop : Option HeaderSliceError) → StopsBefore len parts others stop
    → StopsBefore len parts others (option_map convert stop)
stops_as convert len parts [] stop stops = (convert stops.0, ap (option_map convert) stops.1)
stops_as convert len parts (next ∷ others) stop stops = stops

-- A packet with this header, and bytes after it that begin with those of another packet, has the headers of that
-- packet.
record MorePacket {Header : Type 0} (version : IpVersion) (layer_of : IpPacket Header → NetLayer) (place : ℕ)
    (header : Header) (all len number : ℕ) (fragmented : List ExtensionPart → Bool) (end : LenSource) (cut : LaxCut)
    (net : LaxNet) : Type 0 where
  chain : ExtensionChain
  refused : Option HeaderSliceError
  prefix : IsLaxChain version number cut.payload chain refused
  more : MoreNet all
      (IsIpLayer version layer_of place (lax_ip_of header len (fragmented chain.parts) end cut chain refused)) net

packet_more : {Header : Type 0} (version : IpVersion) (layer_of : IpPacket Header → NetLayer)
    → (heads : IpHeaders layer_of) → (offset place : ℕ) (header : Header) (len number : ℕ)
    (fragmented : List ExtensionPart → Bool) (limit end : LenSource) (cut longer : LaxCut) (rest : List ℕ) (all space : ℕ)
    → all ≡ header_len (heads.head header) + space
    → (space ≤ length cut.payload) ⊎ (length longer.payload ≤ length cut.payload)
    → longer.payload ≡ cut.payload ++ rest → AreBytes longer.payload → (chain : ExtensionChain)
    (refused : Option HeaderSliceError) → IsLaxChain version number cut.payload chain refused → (net : LaxNet)
    → IsIpLayer version layer_of offset (lax_ip_of header len (fragmented chain.parts) limit cut chain refused) net
    → MorePacket version layer_of place header all len number fragmented end longer net
packet_more version layer_of heads offset place header len number fragmented limit end cut longer rest all space bytes_len
    within parts fits chain None prefix net layer =
    let following = chain_of chain.parts chain.last (chain.rest ++ rest) in
    let holds : IsLaxChain version number longer.payload following None =
    subst (λ (l : List ℕ). IsLaxChain version number l following None) (sym parts)
    (chain_more version [] number cut.payload rest chain.parts chain.last chain.rest prefix) in
    let shown = lax_ip_of header len (fragmented chain.parts) limit cut chain None in
    let read = lax_ip_of header len (fragmented chain.parts) end longer following None in
    record {
      chain = following;
      refused = None;
      prefix = holds;
      more = subst (λ (n : ℕ). MoreNet n (IsIpLayer version layer_of place read) net) (sym bytes_len)
          (packet_entire version layer_of heads offset place shown read rest net space refl refl refl refl refl
          (content_limit space (length cut.payload) (length longer.payload) (content_len shown.packet)
          (content_len read.packet) (chain_len version slices number cut.payload chain None prefix)
          (chain_len version slices number longer.payload following None holds) within)
          (rest_fits version slices number longer.payload following None fits holds) layer);
    }
packet_more version layer_of heads offset place header len number fragmented limit end cut longer rest all space bytes_len
    within parts fits chain (Some error) prefix net layer =
    let found = refused_more version [] 0 number cut.payload rest chain.parts error (subst AreBytes parts fits)
    prefix.0 in
    let others = found.prefix.others in
    let stop = found.prefix.stop in
    let following = chain_of (chain.parts ++ others) found.prefix.last found.prefix.rest in
    let holds : IsLaxChain version number longer.payload following stop =
    subst (λ (l : List ℕ). IsLaxChain version number l following stop) (sym parts)
    (prefix_chain version number (cut.payload ++ rest) following stop found.prefix.is) in
    let shown = lax_ip_of header len (fragmented chain.parts) limit cut chain (Some error) in
    let read = lax_ip_of header len (fragmented following.parts) end longer following stop in
    let here = chain_len version slices number cut.payload chain (Some error) prefix in
    record {
      chain = following;
      refused = stop;
      prefix = holds;
      more = subst (λ (n : ℕ). MoreNet n (IsIpLayer version layer_of place read) net) (sym bytes_len)
          (packet_stopped version layer_of heads offset place shown read (stop_after len limit error) others net space refl
          refl refl
          (stops_as (stop_after len end) (content_len shown.packet) chain.parts others stop
          (subst (λ (n : ℕ). StopsBefore n chain.parts others stop) here found.stops))
          (content_limit space (length cut.payload) (length longer.payload) (content_len shown.packet)
          (content_len read.packet) here (chain_len version slices number longer.payload following stop holds) within)
          (rest_fits version slices number longer.payload following stop fits holds) layer);
    }

-- ---- IP versions

abbrev pub ipv4_heads : IpHeaders ipv4_layer
ipv4_heads = record { head = of_ipv4; are = λ packet. refl }

abbrev pub ipv6_heads : IpHeaders ipv6_layer
ipv6_heads = record { head = of_ipv6; are = λ packet. refl }

-- An IPv4 packet made of these parts.
ipv4_after : (outer : Bool) (read : Ipv4Header × List ℕ) (cut : LaxCut) (chain : ExtensionChain)
    (refused : Option HeaderSliceError)
    → IsLaxCut (ipv4_header_len read.0) read.0.total_len source.Ipv4HeaderTotalLen outer (ipv4_header_len read.0) read.1
    cut
    → IsLaxChain ipv4 read.0.protocol.0 cut.payload chain refused
    → IsLaxIpv4After outer read
    (lax_ip_of read.0 (ipv4_header_len read.0) (is_ipv4_fragment read.0) cut.source cut chain refused)
ipv4_after outer read cut chain refused cuts prefix =
    record { cut = cut; chain = chain; refused = refused; cuts = cuts; is_chain = prefix; is = refl }

pub ipv4_more : (offset place : ℕ) (outer inner : Bool) (bytes more : List ℕ) (net : LaxNet)
    → AreBytes (bytes ++ more) → IsIpv4Net offset outer bytes net
    → MoreNet (length bytes) (IsIpv4Net place inner (bytes ++ more)) net
ipv4_more offset place outer inner bytes more net fits is =
    let header = is.1.0.0 in
    let following = is.1.2 in
    let len = ipv4_header_len header in
    let read : Ipv4Header × List ℕ = (header, is.1.0.1 ++ more) in
    let holds : IsIpv4Header (bytes ++ more) read = record {
      encoded = is.1.1.encoded;
      encodes = is.1.1.encodes;
      parts = parts_more bytes is.1.1.encoded is.1.0.1 more is.1.1.parts;
    } in
    let cut = lax_cut_is_one len header.total_len source.Ipv4HeaderTotalLen inner len read.1 (omega arith) in
    let rest = cut_more len header.total_len source.Ipv4HeaderTotalLen outer inner len is.1.0.1 more following.cut
    cut.value following.cuts cut.is in
    let limit = cut_limits len header.total_len source.Ipv4HeaderTotalLen outer inner len is.1.0.1 more following.cut
    cut.value following.cuts cut.is in
    let all : length bytes ≡ len + length is.1.0.1 = omega (
      arith,
      ap length is.1.1.parts,
      length-append is.1.1.encoded is.1.0.1,
      ipv4_encoded_len is.1.1.encoded header is.1.1.encodes,
    ) in
    let payload = cut_fits len header.total_len source.Ipv4HeaderTotalLen inner len read.1 cut.value
    (after_ipv4_fits (bytes ++ more) read fits holds) cut.is in
    let layer = subst (λ (lax : LaxIp Ipv4Header). IsIpLayer ipv4 ipv4_layer offset lax net) following.is is.2 in
    let found = packet_more ipv4 ipv4_layer ipv4_heads offset place header len header.protocol.0
    (λ (parts : List ExtensionPart). is_ipv4_fragment header) following.cut.source cut.value.source following.cut cut.value
    rest.0 (length bytes) (length is.1.0.1) all limit rest.1 payload following.chain following.refused following.is_chain net layer in
    record {
      read = found.more.read;
      is = (
        lax_ip_of header len (is_ipv4_fragment header) cut.value.source cut.value found.chain found.refused,
        (read, holds, ipv4_after inner read cut.value found.chain found.refused cut.is found.prefix),
        found.more.is,
      );
      shows = found.more.shows;
      complete = found.more.complete;
    }

-- An IPv6 packet made of these parts.
ipv6_after : (outer : Bool) (read : Ipv6Header × List ℕ) (cut : LaxCut) (chain : ExtensionChain)
    (refused : Option HeaderSliceError)
    → IsLaxCut 41 (40 + read.0.payload_length) source.Ipv6HeaderPayloadLen outer 40 read.1 cut
    → IsLaxChain ipv6 read.0.next_header.0 cut.payload chain refused
    → IsLaxIpv6After outer read
    (lax_ip_of read.0 40 (chain_fragments chain.parts) (lax_ipv6_source read.0 cut) cut chain refused)
ipv6_after outer read cut chain refused cuts prefix =
    record { cut = cut; chain = chain; refused = refused; cuts = cuts; is_chain = prefix; is = refl }

pub ipv6_more : (offset place : ℕ) (outer inner : Bool) (bytes more : List ℕ) (net : LaxNet)
    → AreBytes (bytes ++ more) → IsIpv6Net offset outer bytes net
    → MoreNet (length bytes) (IsIpv6Net place inner (bytes ++ more)) net
ipv6_more offset place outer inner bytes more net fits is =
    let header = is.1.0.0 in
    let following = is.1.2 in
    let stated = 40 + header.payload_length in
    let read : Ipv6Header × List ℕ = (header, is.1.0.1 ++ more) in
    let holds : IsIpv6Header (bytes ++ more) read = record {
      fits = is.1.1.fits;
      parts = parts_more bytes (ipv6_bytes header) is.1.0.1 more is.1.1.parts;
    } in
    let cut = lax_cut_is_one 41 stated source.Ipv6HeaderPayloadLen inner 40 read.1 (omega arith) in
    let rest = cut_more 41 stated source.Ipv6HeaderPayloadLen outer inner 40 is.1.0.1 more following.cut cut.value
    following.cuts cut.is in
    let limit = cut_limits 41 stated source.Ipv6HeaderPayloadLen outer inner 40 is.1.0.1 more following.cut cut.value
    following.cuts cut.is in
    let all : length bytes ≡ 40 + length is.1.0.1 = omega (
      arith,
      ap length is.1.1.parts,
      length-append (ipv6_bytes header) is.1.0.1,
      ipv6_len header is.1.1.fits,
    ) in
    let payload = cut_fits 41 stated source.Ipv6HeaderPayloadLen inner 40 read.1 cut.value
    (after_ipv6_fits (bytes ++ more) read fits holds) cut.is in
    let layer = subst (λ (lax : LaxIp Ipv6Header). IsIpLayer ipv6 ipv6_layer offset lax net) following.is is.2 in
    let found = packet_more ipv6 ipv6_layer ipv6_heads offset place header 40 header.next_header.0 chain_fragments
    (lax_ipv6_source header following.cut) (lax_ipv6_source header cut.value) following.cut cut.value rest.0 (length bytes)
    (length is.1.0.1) all limit rest.1 payload
    following.chain following.refused following.is_chain net layer in
    record {
      read = found.more.read;
      is = (
        lax_ip_of header 40 (chain_fragments found.chain.parts) (lax_ipv6_source header cut.value) cut.value found.chain
            found.refused,
        (read, holds, ipv6_after inner read cut.value found.chain found.refused cut.is found.prefix),
        found.more.is,
      );
      shows = found.more.shows;
      complete = found.more.complete;
    }
