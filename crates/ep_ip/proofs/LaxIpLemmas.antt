-- An IP packet is sliced laxly in exactly one way, and the contracts of the calls that slice it.
use Rattle.std.proofs.Common.{◌≡◌, ◌==◌, ◌||◌, not, if◌then◌else◌, ℕ, ◌+◌, ◌≤◌, ◌<◌, Bool, true, false, List, [], ◌∷◌, ◌++◌, length, drop, Option, Some, None, refl, sym, ap, subst, ◌∙◌, inl, inr, arith, length-append}
use Rattle.std.proofs.lemmas.Bool.{ne_eqb}
use Rattle.std.proofs.lemmas.Grind.{common_steps}
use Rattle.std.specs.Option.{option_map}
use Rattle.std.proofs.lemmas.List.{drop_at, get_or_past}
use Rattle.ep_base.specs.Bytes.{AreBytes}
use Rattle.ep_base.specs.LaxCut.{LaxCut, IsLaxCut}
use Rattle.ep_base.specs.Readings.{Reading}
use Rattle.ep_base.specs.Tables.{IsDecided, IsOne, first_row, rows_as}
use Rattle.ep_base.specs.declared.len_source.LenSource.{LenSource}
use Rattle.ep_base.specs.declared.len_source.LenSource.TheVariants as source
use Rattle.ep_base.specs.declared.err.ipv4.HeaderSliceError.{HeaderSliceError as Ipv4HeaderError}
use Rattle.ep_base.specs.declared.err.ipv6.HeaderSliceError.{HeaderSliceError as Ipv6HeaderError}
use Rattle.ep_base.specs.declared.err.ipv6_exts.HeaderSliceError.{HeaderSliceError}
use Rattle.ep_base.specs.declared.err.ipv6_exts.HeaderError.TheVariants as content
use Rattle.ep_base.specs.declared.err.ipv6_exts.HeaderSliceError.TheVariants as header_error
use Rattle.ep_base.specs.declared.err.layer.Layer.{Layer}
use Rattle.ep_base.proofs.BytesLemmas.{AreBytes-back, AreBytes-prefix}
use Rattle.ep_base.proofs.DecidedLemmas.{IsBoth, one_as, one_then}
use Rattle.ep_base.proofs.LaxCutLemmas.{lax_cut_is_one}
use Rattle.ep_base.proofs.TableLemmas.{decided, one_value, refused_is_not}
use Rattle.ep_ext.specs.Chains.{IpVersion, ipv4, ipv6, ExtensionChain, IsChainAfter, chain_fragments, offset_of, parts_bytes}
use Rattle.ep_ext.specs.ExtensionParts.{ExtensionPart, hop_by_hop, destination_options, routing, fragment, authentication, part_bytes, part_len, part_next}
use Rattle.ep_ext.specs.ChainPrefixes.{BeginWithParts, IsLaxChainIn, chain_stop, chain_stop_layer}
use Rattle.ep_ext.proofs.ChainBytesLemmas.{chain_len}
use Rattle.ep_ext.proofs.PartLemmas.{auth_len, part_after_fits, part_lens}
use Rattle.ep_ext.proofs.PrefixLemmas.{LaxChain, HasPrefixIn, lax_chain_is_one}
use Rattle.ep_ip.specs.declared.ipv4_header.Ipv4Header.{Ipv4Header}
use Rattle.ep_ip.specs.declared.ipv6_header.Ipv6Header.{Ipv6Header}
use Rattle.ep_ip.specs.Ip.{version_of}
use Rattle.ep_ip.specs.Ipv4.{IsIpv4Header, RefusesIpv4Header, ipv4_header_len, ipv4_header_rows, is_ipv4_fragment}
use Rattle.ep_ip.specs.Ipv6.{IsIpv6Header, RefusesIpv6Header, ipv6_bytes, ipv6_header_rows}
use Rattle.ep_ip.proofs.ExtensionLawLemmas.{refused_within}
use Rattle.ep_ip.proofs.Ipv4Lemmas.{ipv4_header_is_read}
use Rattle.ep_ip.proofs.Ipv6Lemmas.{ipv6_header_is_read}
use Rattle.ep_ip.specs.LaxIp.{LaxIp, IsLaxIpv4In, IsLaxIpv4AfterIn, IsLaxIpv6In, IsLaxIpv6AfterIn, ip_header_rows, lax_ip_of, lax_ipv6_source, of_ipv4_header, of_ipv6_header, stop_after}

-- ---- unique result

-- The limited payload of bytes consists of bytes.
pub cut_fits : (least stated : ℕ) (named : LenSource) (outer : Bool) (header_len : ℕ) (after : List ℕ) (cut : LaxCut)
    → AreBytes after → IsLaxCut least stated named outer header_len after cut → AreBytes cut.payload
cut_fits least stated named outer header_len after cut fits is =
    AreBytes-prefix cut.payload cut.left (subst AreBytes is.parts fits)

-- The result after an IPv4 header is unique.
pub ipv4_after_is_one : (reading : Reading) (outer : Bool) (read : Ipv4Header × List ℕ) → AreBytes read.1
    → IsOne (IsLaxIpv4AfterIn reading outer read)
ipv4_after_is_one reading outer read fits =
    let len = ipv4_header_len read.0 in
    let IsCut : LaxCut → Type 0 =
    IsLaxCut len read.0.total_len source.Ipv4HeaderTotalLen outer len read.1 in
    let HasFront4 : LaxCut → LaxChain → Type 0 = λ cut. HasPrefixIn ipv4 reading read.0.protocol.0 cut.payload in
    one_as {Is = IsBoth IsCut HasFront4}
    (λ (value : LaxCut × LaxChain).
    lax_ip_of read.0 len (is_ipv4_fragment read.0) value.0.source value.0 value.1.0 value.1.1)
    (one_then {Is = IsCut} {Next = HasFront4}
    (lax_cut_is_one len read.0.total_len source.Ipv4HeaderTotalLen outer len read.1 (omega arith))
    (λ cut is. lax_chain_is_one ipv4 reading read.0.protocol.0 cut.payload
    (cut_fits len read.0.total_len source.Ipv4HeaderTotalLen outer len read.1 cut fits is)))
    (record {
      present = λ value is. record {
        cut = value.0;
        chain = value.1.0;
        refused = value.1.1;
        cuts = is.0;
        is_chain = is.1;
        is = refl;
      };
      back = λ lax is. ((is.cut, (is.chain, is.refused)), (is.cuts, is.is_chain), is.is);
    })

-- The result after an IPv6 header is unique.
pub ipv6_after_is_one : (reading : Reading) (outer : Bool) (read : Ipv6Header × List ℕ) → AreBytes read.1
    → IsOne (IsLaxIpv6AfterIn reading outer read)
ipv6_after_is_one reading outer read fits =
    let stated = 40 + read.0.payload_length in
    let IsCut : LaxCut → Type 0 = IsLaxCut 41 stated source.Ipv6HeaderPayloadLen outer 40 read.1 in
    let HasFront6 : LaxCut → LaxChain → Type 0 = λ cut. HasPrefixIn ipv6 reading read.0.next_header.0 cut.payload in
    one_as {Is = IsBoth IsCut HasFront6}
    (λ (value : LaxCut × LaxChain).
    lax_ip_of read.0 40 (chain_fragments value.1.0.parts) (lax_ipv6_source read.0 value.0) value.0 value.1.0 value.1.1)
    (one_then {Is = IsCut} {Next = HasFront6}
    (lax_cut_is_one 41 stated source.Ipv6HeaderPayloadLen outer 40 read.1 (omega arith))
    (λ cut is. lax_chain_is_one ipv6 reading read.0.next_header.0 cut.payload
    (cut_fits 41 stated source.Ipv6HeaderPayloadLen outer 40 read.1 cut fits is)))
    (record {
      present = λ value is. record {
        cut = value.0;
        chain = value.1.0;
        refused = value.1.1;
        cuts = is.0;
        is_chain = is.1;
        is = refl;
      };
      back = λ lax is. ((is.cut, (is.chain, is.refused)), (is.cuts, is.is_chain), is.is);
    })

-- The bytes after a header are bytes.
pub after_ipv4_fits : (bytes : List ℕ) (read : Ipv4Header × List ℕ) → AreBytes bytes → IsIpv4Header bytes read
    → AreBytes read.1
after_ipv4_fits bytes read fits is = AreBytes-back is.encoded read.1 (subst AreBytes is.parts fits)

pub after_ipv6_fits : (bytes : List ℕ) (read : Ipv6Header × List ℕ) → AreBytes bytes → IsIpv6Header bytes read
    → AreBytes read.1
after_ipv6_fits bytes read fits is = AreBytes-back (ipv6_bytes read.0) read.1 (subst AreBytes is.parts fits)

-- The IPv4 packet in the bytes is unique.
pub one_lax_ipv4 : (reading : Reading) (outer : Bool) (bytes : List ℕ) → AreBytes bytes → (lax other : LaxIp Ipv4Header)
    → IsLaxIpv4In reading outer bytes lax → IsLaxIpv4In reading outer bytes other → lax ≡ other
one_lax_ipv4 reading outer bytes fits lax other a b =
    let same = one_value ipv4_header_is_read bytes a.0 b.0 a.1 b.1 in
    let one = ipv4_after_is_one reading outer b.0 (after_ipv4_fits bytes b.0 fits b.1) in
    let moved = subst (λ (read : Ipv4Header × List ℕ). IsLaxIpv4AfterIn reading outer read lax) same a.2 in
    one.only lax moved ∙ sym (one.only other b.2)

-- The IPv6 packet in the bytes is unique.
pub one_lax_ipv6 : (reading : Reading) (outer : Bool) (bytes : List ℕ) → AreBytes bytes → (lax other : LaxIp Ipv6Header)
    → IsLaxIpv6In reading outer bytes lax → IsLaxIpv6In reading outer bytes other → lax ≡ other
one_lax_ipv6 reading outer bytes fits lax other a b =
    let same = one_value ipv6_header_is_read bytes a.0 b.0 a.1 b.1 in
    let one = ipv6_after_is_one reading outer b.0 (after_ipv6_fits bytes b.0 fits b.1) in
    let moved = subst (λ (read : Ipv6Header × List ℕ). IsLaxIpv6AfterIn reading outer read lax) same a.2 in
    one.only lax moved ∙ sym (one.only other b.2)

-- Bytes with a rejected IPv4 header are not a packet.
pub refused_no_lax_ipv4 : (reading : Reading) (outer : Bool) (bytes : List ℕ) (error : Ipv4HeaderError) → RefusesIpv4Header bytes error
    → (lax : LaxIp Ipv4Header) → IsLaxIpv4In reading outer bytes lax → ⊥
refused_no_lax_ipv4 reading outer bytes error refused lax is = refused_is_not ipv4_header_is_read bytes is.0 error refused is.1

pub refused_no_lax_ipv6 : (reading : Reading) (outer : Bool) (bytes : List ℕ) (error : Ipv6HeaderError) → RefusesIpv6Header bytes error
    → (lax : LaxIp Ipv6Header) → IsLaxIpv6In reading outer bytes lax → ⊥
refused_no_lax_ipv6 reading outer bytes error refused lax is = refused_is_not ipv6_header_is_read bytes is.0 error refused is.1

-- ---- lengths of headers

-- The wire format of an extension header has the header's length.
part_bytes_len : (part : ExtensionPart) → length (part_bytes part) ≡ part_len part
part_bytes_len (hop_by_hop header) = grind (arith, common_steps)
part_bytes_len (destination_options header) = grind (arith, common_steps)
part_bytes_len (routing header) = grind (arith, common_steps)
part_bytes_len (fragment header) = refl
part_bytes_len (authentication header) = auth_len 0 header

-- The length of the bytes is that of the headers at their start plus the rest.
preceding_len : (number : ℕ) (bytes : List ℕ) (parts : List ExtensionPart) (last : ℕ) (rest : List ℕ)
    → BeginWithParts number bytes parts last rest → length bytes ≡ length (parts_bytes parts) + length rest
preceding_len number bytes [] last rest is = omega (arith, ap length is.1)
preceding_len number bytes (part ∷ parts) last rest is = omega (
  arith,
  (part_lens number bytes part is.0 is.1).0,
  part_bytes_len part,
  length-append (part_bytes part) (parts_bytes parts),
  preceding_len (part_next part) is.0 parts last rest is.2,
)

-- The length of bytes read laxly is that of the headers plus the rest.
pub lax_chain_len : (version : IpVersion) (reading : Reading) (number : ℕ) (bytes : List ℕ) (chain : ExtensionChain)
    (stop : Option HeaderSliceError) → IsLaxChainIn version reading number bytes chain stop
    → length bytes ≡ length (parts_bytes chain.parts) + length chain.rest
lax_chain_len version reading number bytes chain None is = chain_len version reading number bytes chain is
lax_chain_len version reading number bytes chain (Some error) is =
    preceding_len number bytes chain.parts chain.last chain.rest is.1

-- ---- bytes are a packet or are rejected

-- The bytes after a chain are bytes.
chain_rest_fits : (version : IpVersion) (reading : Reading) (taken : List ℕ) (number : ℕ) (bytes : List ℕ) (parts : List ExtensionPart)
    (last : ℕ) (rest : List ℕ) → AreBytes bytes → IsChainAfter version reading taken number bytes parts last rest
    → AreBytes rest
chain_rest_fits version reading taken number bytes [] last rest fits is = subst AreBytes (sym is.2) fits
chain_rest_fits version reading taken number bytes (part ∷ parts) last rest fits is =
    chain_rest_fits version reading (number ∷ taken) (part_next part) is.1.0 parts last rest
    (part_after_fits number bytes part is.1.0 is.1.1 fits) is.1.2

prefix_rest_fits : (number : ℕ) (bytes : List ℕ) (parts : List ExtensionPart) (last : ℕ) (rest : List ℕ)
    → AreBytes bytes → BeginWithParts number bytes parts last rest → AreBytes rest
prefix_rest_fits number bytes [] last rest fits is = subst AreBytes (sym is.1) fits
prefix_rest_fits number bytes (part ∷ parts) last rest fits is =
    prefix_rest_fits (part_next part) is.0 parts last rest (part_after_fits number bytes part is.0 is.1 fits) is.2

pub rest_fits : (version : IpVersion) (reading : Reading) (number : ℕ) (bytes : List ℕ) (chain : ExtensionChain)
    (stop : Option HeaderSliceError) → AreBytes bytes → IsLaxChainIn version reading number bytes chain stop
    → AreBytes chain.rest
rest_fits version reading number bytes chain None fits is =
    chain_rest_fits version reading [] number bytes chain.parts chain.last chain.rest fits is
rest_fits version reading number bytes chain (Some error) fits is =
    prefix_rest_fits number bytes chain.parts chain.last chain.rest fits is.1

pub lax_ipv4_fits : (reading : Reading) (outer : Bool) (bytes : List ℕ) (lax : LaxIp Ipv4Header) → AreBytes bytes
    → IsLaxIpv4In reading outer bytes lax → AreBytes lax.packet.payload.bytes
lax_ipv4_fits reading outer bytes lax fits is =
    let read = is.0 in
    let after = is.2 in
    let len = ipv4_header_len read.0 in
    let content = cut_fits len read.0.total_len source.Ipv4HeaderTotalLen outer len read.1 after.cut
    (after_ipv4_fits bytes read fits is.1) after.cuts in
    subst (λ (l : LaxIp Ipv4Header). AreBytes l.packet.payload.bytes) (sym after.is)
    (rest_fits ipv4 reading read.0.protocol.0 after.cut.payload after.chain after.refused content after.is_chain)

pub lax_ipv6_fits : (reading : Reading) (outer : Bool) (bytes : List ℕ) (lax : LaxIp Ipv6Header) → AreBytes bytes
    → IsLaxIpv6In reading outer bytes lax → AreBytes lax.packet.payload.bytes
lax_ipv6_fits reading outer bytes lax fits is =
    let read = is.0 in
    let after = is.2 in
    let content = cut_fits 41 (40 + read.0.payload_length) source.Ipv6HeaderPayloadLen outer 40 read.1 after.cut
    (after_ipv6_fits bytes read fits is.1) after.cuts in
    subst (λ (l : LaxIp Ipv6Header). AreBytes l.packet.payload.bytes) (sym after.is)
    (rest_fits ipv6 reading read.0.next_header.0 after.cut.payload after.chain after.refused content after.is_chain)

-- Bytes either begin with an IPv4 packet, or their header is rejected.
pub lax_ipv4_decided : (reading : Reading) (outer : Bool) (bytes : List ℕ) → AreBytes bytes
    → IsDecided (IsLaxIpv4In reading outer bytes) (RefusesIpv4Header bytes)
lax_ipv4_decided reading outer bytes fits =
    let law = decided ipv4_header_is_read bytes fits in
    record {
      some = elim law.some [
        | inl found ↦
            let one = ipv4_after_is_one reading outer found.0 (after_ipv4_fits bytes found.0 fits found.1) in
            inl (one.value, (found.0, found.1, one.is))
        | inr refused ↦ inr refused
      ];
      one_value = one_lax_ipv4 reading outer bytes fits;
      one_error = law.one_error;
      not_both = λ lax error is refused. refused_no_lax_ipv4 reading outer bytes error refused lax is;
    }

pub lax_ipv6_decided : (reading : Reading) (outer : Bool) (bytes : List ℕ) → AreBytes bytes
    → IsDecided (IsLaxIpv6In reading outer bytes) (RefusesIpv6Header bytes)
lax_ipv6_decided reading outer bytes fits =
    let law = decided ipv6_header_is_read bytes fits in
    record {
      some = elim law.some [
        | inl found ↦
            let one = ipv6_after_is_one reading outer found.0 (after_ipv6_fits bytes found.0 fits found.1) in
            inl (one.value, (found.0, found.1, one.is))
        | inr refused ↦ inr refused
      ];
      one_value = one_lax_ipv6 reading outer bytes fits;
      one_error = law.one_error;
      not_both = λ lax error is refused. refused_no_lax_ipv6 reading outer bytes error refused lax is;
    }

-- ---- IP header of either version

-- A packet begins with its version.
pub lax_ipv4_version : (reading : Reading) (outer : Bool) (bytes : List ℕ) (lax : LaxIp Ipv4Header)
    → IsLaxIpv4In reading outer bytes lax → version_of bytes ≡ 4
lax_ipv4_version reading outer bytes lax is =
    let none = (ipv4_header_is_read.is_read bytes is.0 is.1).0 in grind (arith, common_steps)

pub lax_ipv6_version : (reading : Reading) (outer : Bool) (bytes : List ℕ) (lax : LaxIp Ipv6Header)
    → IsLaxIpv6In reading outer bytes lax → version_of bytes ≡ 6
lax_ipv6_version reading outer bytes lax is =
    let none = (ipv6_header_is_read.is_read bytes is.0 is.1).0 in grind (arith, common_steps)

-- Bytes with a version are not empty.
not_empty : (bytes : List ℕ) → 0 < version_of bytes → (length bytes == 0) ≡ false
not_empty bytes some = ne_eqb (length bytes) 0 (λ none. omega (arith, get_or_past bytes 0 0 (omega arith)))

-- A table whose first two rows do not apply rejects as the chosen rows after them.
after_rows : {E : Type 0} (empty other chosen wanted : Bool) (first second : E) (these those : List (Bool × E))
    → empty ≡ false → other ≡ false → chosen ≡ wanted
    → first_row ((empty, first) ∷ (other, second) ∷ (if chosen then these else those))
    ≡ first_row (if wanted then these else those)
after_rows empty other chosen wanted first second these those is_some is_known is_chosen i =
    first_row ((is_some i, first) ∷ (is_known i, second) ∷ (if is_chosen i then these else those))

rows_of : (bytes : List ℕ) (version : ℕ) → version_of bytes ≡ version → 0 < version
    → not (version == 4 || version == 6) ≡ false
    → first_row (ip_header_rows bytes) ≡ first_row (if version == 4 then rows_as of_ipv4_header (ipv4_header_rows bytes)
    else rows_as of_ipv6_header (ipv6_header_rows bytes))
rows_of bytes version same some known =
    after_rows (length bytes == 0) (not (version_of bytes == 4 || version_of bytes == 6)) (version_of bytes == 4)
    (version == 4) _ _ (rows_as of_ipv4_header (ipv4_header_rows bytes))
    (rows_as of_ipv6_header (ipv6_header_rows bytes)) (not_empty bytes (omega (arith, same, some)))
    (ap (λ (n : ℕ). not (n == 4 || n == 6)) same ∙ known) (ap (λ (n : ℕ). n == 4) same)

pub rows_of_ipv4 : (bytes : List ℕ) → version_of bytes ≡ 4
    → first_row (ip_header_rows bytes) ≡ first_row (rows_as of_ipv4_header (ipv4_header_rows bytes))
rows_of_ipv4 bytes version = rows_of bytes 4 version (omega arith) refl

pub rows_of_ipv6 : (bytes : List ℕ) → version_of bytes ≡ 6
    → first_row (ip_header_rows bytes) ≡ first_row (rows_as of_ipv6_header (ipv6_header_rows bytes))
rows_of_ipv6 bytes version = rows_of bytes 6 version (omega arith) refl

-- A table whose second row applies rejects with one error.
pub refused_present : {E : Type 0} (empty other : Bool) (first second : E) (rows : List (Bool × E)) → other ≡ true
    → (error : E) × (first_row ((empty, first) ∷ (other, second) ∷ rows) ≡ Some error)
refused_present true other first second rows unknown = (first, refl)
refused_present false other first second rows unknown =
    (second, λ i. first_row ((unknown i, second) ∷ rows))

pub one_refusal : {E : Type 0} (answer : Option E) (e f : E) → answer ≡ Some e → answer ≡ Some f → e ≡ f
one_refusal answer e f a b = cc

-- ---- contracts of the calls

-- A rejected extension header starts within the bytes after the IP header.
pub stop_within : (version : IpVersion) (reading : Reading) (number : ℕ) (content : List ℕ) (chain : ExtensionChain)
    (stop : Option HeaderSliceError) → IsLaxChainIn version reading number content chain stop → (error : HeaderSliceError)
    → stop ≡ Some error → offset_of error ≤ length content
stop_within version reading number content chain stop prefix error same =
    let here : IsLaxChainIn version reading number content chain (Some error) =
    subst (IsLaxChainIn version reading number content chain) same prefix in
    refused_within version reading number content error (chain.parts, here.0)

-- An error reported with its layer is the one at which parsing stopped.
pub reported_stop : (stop : Option HeaderSliceError) (error_with_layer : HeaderSliceError × Layer)
    → option_map chain_stop stop ≡ Some error_with_layer → stop ≡ Some error_with_layer.0
reported_stop None error_with_layer same = absurd (cc same)
reported_stop (Some error) error_with_layer same =
    let pair : chain_stop error ≡ error_with_layer = cc in λ i. Some (pair i).0

-- The layer of an error does not change when it is placed after a header.
same_layer : (n : ℕ) (end : LenSource) (error : HeaderSliceError)
    → chain_stop_layer (stop_after n end error) ≡ chain_stop_layer error
same_layer n end (header_error.Len error) = refl
same_layer n end (header_error.Content content.HopByHopNotAtStart) = refl
same_layer n end (header_error.Content (content.IpAuth error)) = refl

-- An error reported with its layer is placed after a header.
pub reported_after : (n : ℕ) (end : LenSource) (refused : Option (HeaderSliceError × Layer))
    (read : HeaderSliceError × Layer) → refused ≡ Some read → (stop : Option HeaderSliceError)
    → refused ≡ option_map chain_stop stop → (shown : HeaderSliceError) → shown ≡ stop_after n end read.0
    → Some (shown, read.1) ≡ option_map chain_stop (option_map (stop_after n end) stop)
reported_after n end refused read is None stops shown shown_is = absurd (let one = sym is ∙ stops in cc)
reported_after n end refused read is (Some error) stops shown shown_is =
    let both : Some read ≡ Some (chain_stop error) = sym is ∙ stops in
    let pair : read ≡ chain_stop error = cc in
    let first : shown ≡ stop_after n end error = shown_is ∙ ap (stop_after n end) (λ i. (pair i).0) in
    let second : read.1 ≡ chain_stop_layer (stop_after n end error) = (λ i. (pair i).1) ∙ sym (same_layer n end error) in
    λ i. Some (first i, second i)

-- An IPv4 packet built from its parsed parts.
pub ipv4_assembled : (reading : Reading) (outer : Bool) (bytes prefix rest : List ℕ) (header : Ipv4Header)
    → bytes ≡ prefix ++ rest → IsIpv4Header bytes (header, rest) → (n : ℕ) → n ≡ length prefix
    → n ≡ ipv4_header_len header → (stated : ℕ) → stated ≡ header.total_len
    → (cut : LaxCut) → IsLaxCut n stated source.Ipv4HeaderTotalLen outer n (drop n bytes) cut
    → (number : ℕ) → number ≡ header.protocol.0 → (chain : ExtensionChain) (refused : Option HeaderSliceError)
    → IsLaxChainIn ipv4 reading number cut.payload chain refused
    → (fragmented : Bool) → fragmented ≡ is_ipv4_fragment header → (stop : Option HeaderSliceError)
    → stop ≡ option_map (stop_after n cut.source) refused
    → IsLaxIpv4In reading outer bytes (record (lax_ip_of header n fragmented cut.source cut chain refused) { stop = stop })
ipv4_assembled reading outer bytes prefix rest header parts holds n len header_len stated says_is cut cuts number number_is
    chain refused chain_is fragmented fragmented_is stop stop_is =
    let after : drop n bytes ≡ rest = ap (drop n) parts ∙ drop_at prefix rest n (sym len) in
    let own = ipv4_header_len header in
    let cuts_after : IsLaxCut n stated source.Ipv4HeaderTotalLen outer n rest cut =
    subst (λ (b : List ℕ). IsLaxCut n stated source.Ipv4HeaderTotalLen outer n b cut) after cuts in
    let cuts_total : IsLaxCut n header.total_len source.Ipv4HeaderTotalLen outer n rest cut =
    subst (λ (s : ℕ). IsLaxCut n s source.Ipv4HeaderTotalLen outer n rest cut) says_is cuts_after in (
      (header, rest),
      holds,
      record {
        cut = cut;
        chain = chain;
        refused = refused;
        cuts = subst (λ (k : ℕ). IsLaxCut k header.total_len source.Ipv4HeaderTotalLen outer k rest cut) header_len
            cuts_total;
        is_chain = subst (λ (k : ℕ). IsLaxChainIn ipv4 reading k cut.payload chain refused) number_is chain_is;
        is = λ i. record (lax_ip_of header (header_len i) (fragmented_is i) cut.source cut chain refused) {
          stop = (stop_is ∙ ap (λ (k : ℕ). option_map (stop_after k cut.source) refused) header_len) i;
        };
      },
    )

-- An IPv6 packet built from its parsed parts.
pub ipv6_assembled : (reading : Reading) (outer : Bool) (bytes prefix rest : List ℕ) (header : Ipv6Header)
    → bytes ≡ prefix ++ rest → IsIpv6Header bytes (header, rest) → 40 ≡ length prefix
    → (stated : ℕ) → stated ≡ 40 + header.payload_length
    → (cut : LaxCut) → IsLaxCut 41 stated source.Ipv6HeaderPayloadLen outer 40 (drop 40 bytes) cut
    → (number : ℕ) → number ≡ header.next_header.0 → (chain : ExtensionChain) (refused : Option HeaderSliceError)
    → IsLaxChainIn ipv6 reading number cut.payload chain refused
    → (fragmented : Bool) → fragmented ≡ chain_fragments chain.parts
    → (end : LenSource) → end ≡ lax_ipv6_source header cut
    → IsLaxIpv6In reading outer bytes (lax_ip_of header 40 fragmented end cut chain refused)
ipv6_assembled reading outer bytes prefix rest header parts holds len stated says_is cut cuts number number_is chain refused
    chain_is fragmented fragmented_is end end_is =
    let after : drop 40 bytes ≡ rest = ap (drop 40) parts ∙ drop_at prefix rest 40 (sym len) in
    let cuts_after : IsLaxCut 41 stated source.Ipv6HeaderPayloadLen outer 40 rest cut =
    subst (λ (b : List ℕ). IsLaxCut 41 stated source.Ipv6HeaderPayloadLen outer 40 b cut) after cuts in (
      (header, rest),
      holds,
      record {
        cut = cut;
        chain = chain;
        refused = refused;
        cuts = subst (λ (s : ℕ). IsLaxCut 41 s source.Ipv6HeaderPayloadLen outer 40 rest cut) says_is cuts_after;
        is_chain = subst (λ (k : ℕ). IsLaxChainIn ipv6 reading k cut.payload chain refused) number_is chain_is;
        is = λ i. lax_ip_of header 40 (fragmented_is i) (end_is i) cut chain refused;
      },
    )
