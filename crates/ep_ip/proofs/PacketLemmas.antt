-- Bytes either are exactly one IP packet with its extension headers, or are rejected with exactly one error.
use Rattle.std.proofs.Common.{◌≡◌, ◌⊎◌, ℕ, Bool, Some, None, List, [], ◌∷◌, refl, sym, subst, ◌∙◌, inl, inr, arith}
use Rattle.std.proofs.lemmas.Bool.{cases_eq}
use Rattle.std.proofs.lemmas.Grind.{common_steps}
use Rattle.std.proofs.lemmas.Option.{none-some}
use Rattle.ep_base.specs.Bytes.{AreBytes}
use Rattle.ep_base.specs.Readings.{Reading, slices, len_error}
use Rattle.ep_base.specs.Tables.{IsDecided, Parts, parts_of, Refuses, RefusesAs, first_row, rows_as}
use Rattle.ep_base.specs.declared.err.layer.Layer.TheVariants as layer
use Rattle.ep_base.specs.declared.len_source.LenSource.{LenSource}
use Rattle.ep_base.specs.declared.len_source.LenSource.TheVariants as source
use Rattle.ep_base.specs.declared.err.ip.HeaderError.TheVariants as ip_content
use Rattle.ep_base.specs.declared.err.ip.HeadersError.TheVariants as headers_error
use Rattle.ep_base.specs.declared.err.ip.SliceError.{SliceError}
use Rattle.ep_base.specs.declared.err.ip.SliceError.TheVariants as slice_error
use Rattle.ep_base.specs.declared.err.ip_auth.HeaderError.TheVariants as auth_content
use Rattle.ep_base.specs.declared.err.ip_auth.HeaderSliceError.{HeaderSliceError as AuthSliceError}
use Rattle.ep_base.specs.declared.err.ip_auth.HeaderSliceError.TheVariants as auth_error
use Rattle.ep_base.specs.declared.err.ipv6_exts.HeaderError.TheVariants as content
use Rattle.ep_base.specs.declared.err.ipv6_exts.HeaderSliceError.{HeaderSliceError as ExtsSliceError}
use Rattle.ep_base.specs.declared.err.ipv6_exts.HeaderSliceError.TheVariants as exts_error
use Rattle.ep_base.proofs.BytesLemmas.{AreBytes-payload}
use Rattle.ep_base.proofs.DecidedLemmas.{IsImage, IsBoth, RefusesEither, same_image, decided_as, decided_then, refused_as}
use Rattle.ep_base.proofs.TableLemmas.{AllErrors, decided, refusal_is}
use Rattle.ep_ext.specs.IpAuth.{ip_auth_rows}
use Rattle.ep_ext.specs.ExtensionParts.{ExtensionPart, RefusesExtensionPart, auth_refusal}
use Rattle.ep_ext.specs.Chains.{IpVersion, ipv4, ipv6, ExtensionChain, chain_of, chain_fragments, ends, takes, misplaced, demand_of}
use Rattle.ep_ext.specs.Chains.{IsExtensionChain, RefusesExtensionChain, RefusesChainAfter}
use Rattle.ep_ext.proofs.ChainLemmas.{further_zero}
use Rattle.ep_ip.specs.declared.ipv4_header.Ipv4Header.{Ipv4Header}
use Rattle.ep_ip.specs.declared.ipv6_header.Ipv6Header.{Ipv6Header}
use Rattle.ep_ip.specs.Ip.{version_of}
use Rattle.ep_ip.specs.Ipv4.{IsIpv4Packet, is_ipv4_fragment}
use Rattle.ep_ip.specs.Ipv6.{IsIpv6Packet, ipv6_payload_source, ipv6_bytes}
use Rattle.ep_ip.specs.IpPackets.{IpPacket, IsIpv4, RefusesIpv4, RefusesIpv4Chain, ipv4_chain_refusal}
use Rattle.ep_ip.specs.IpPackets.{IsIpv6, RefusesIpv6, RefusesIpv6Chain, ipv6_chain_refusal}
use Rattle.ep_ip.specs.IpPackets.{IpPart, ipv4_part, ipv6_part, IsIp, RefusesIp, ip_version_rows, of_ipv4_error, of_ipv6_error}
use Rattle.ep_ip.proofs.ExtensionLawLemmas.{extension_chain}
use Rattle.ep_ip.proofs.Ipv4Lemmas.{ipv4_packet_is_read}
use Rattle.ep_ip.proofs.Ipv6Lemmas.{ipv6_packet_is_read}

-- ---- a packet limited by its length field, and the chain in it, of either version

-- A packet limited by its length field, with a chain of extension headers that starts with the header's next header.
abbrev IsCutAndChain : {H : Type 0} → IpVersion → Reading → (H → ℕ) → (Parts H → Type 0)
    → Parts H × ExtensionChain → Type 0
IsCutAndChain version reading number IsCut =
    IsBoth IsCut (λ cut. IsExtensionChain version reading (number cut.header) cut.payload)

-- If packets and chains are decided, packets with their chains are decided too, and rejected if either is rejected.
pub packet_decided : {H E : Type 0} (version : IpVersion) (reading : Reading) (number : H → ℕ)
    {IsCut : Parts H → Type 0} {RefusesCut : E → Type 0} {RefusesChain : Parts H → E → Type 0}
    {IsPacket : IpPacket H → Type 0} (packet_of : Parts H × ExtensionChain → IpPacket H)
    → IsDecided IsCut RefusesCut
    → ((cut : Parts H) → IsCut cut → IsDecided (IsExtensionChain version reading (number cut.header) cut.payload)
    (RefusesChain cut))
    → IsImage (IsCutAndChain version reading number IsCut) IsPacket packet_of
    → IsDecided IsPacket (RefusesEither IsCut RefusesCut RefusesChain)
packet_decided version reading number packet_of cut chain image =
    decided_as packet_of (λ error. error) (decided_then cut chain) image (same_image (λ e r. r) (λ e r. r))

-- a packet built from its parts
abbrev pub shown_packet : {H : Type 0} → H → ExtensionChain → Bool → LenSource → List ℕ → IpPacket H
shown_packet header chain fragmented source left = record {
  header = header;
  extensions = chain.parts;
  payload = record { number = chain.last; fragmented = fragmented; source = source; bytes = chain.rest };
  left = left;
}

-- ---- an IPv4 chain is rejected if and only if its authentication header is

-- an error of a chain as an error of the authentication header; the value for other errors is arbitrary
auth_of : ExtsSliceError → AuthSliceError
auth_of (exts_error.Len error) = auth_error.Len error
auth_of (exts_error.Content content.HopByHopNotAtStart) = auth_error.Content auth_content.ZeroPayloadLen
auth_of (exts_error.Content (content.IpAuth error)) = auth_error.Content error

auth_of_same : (refusal : AuthSliceError) → refusal ≡ auth_of (auth_refusal refusal)
unfolding auth_of
auth_of_same (auth_error.Len error) = refl
auth_of_same (auth_error.Content error) = refl

abbrev IsAuth : ExtsSliceError → Type 0
IsAuth error = error ≡ auth_refusal (auth_of error)

rows_auth : (bytes : List ℕ) → AllErrors IsAuth (rows_as auth_refusal (ip_auth_rows bytes))
unfolding auth_of
rows_auth bytes = (refl, (refl, (refl, tt)))

-- An error of an IPv4 chain is an error of the authentication header, as it is the only extension header of IPv4.
auth_only : (reading : Reading) (number : ℕ) (bytes : List ℕ) (parts : List ExtensionPart) (error : ExtsSliceError)
    → RefusesChainAfter ipv4 reading [] 0 number bytes parts error → IsAuth error
auth_only reading number bytes [] error (inl refused) = absurd (never number refused.0)
  where
    never : (number : ℕ) → demand_of ipv4 reading [] number ≡ misplaced → ⊥
    never number wrong = grind (arith, common_steps)
auth_only reading number bytes [] error (inr refused) =
    let refusal = refused.1.0 in
    let is_51 : number ≡ 51 = taken_number number refused.0 in
    let row = subst (λ (n : ℕ). RefusesExtensionPart n bytes refusal) is_51 refused.1.1 in
    let auth = refusal_is IsAuth (rows_as auth_refusal (ip_auth_rows bytes)) (rows_auth bytes) refusal row in
    subst IsAuth (further_zero refusal ∙ sym refused.1.2) auth
  where
    taken_number : (number : ℕ) → demand_of ipv4 reading [] number ≡ takes → number ≡ 51
    taken_number number taken = grind (arith, common_steps)
auth_only reading number bytes (part ∷ parts) error refused = absurd (no_second _ _ _ parts refused.1.2)
  where
    no_second : (offset next : ℕ) (after : List ℕ) (parts : List ExtensionPart)
        → RefusesChainAfter ipv4 reading (number ∷ []) offset next after parts error → ⊥
    no_second offset next after [] (inl refused) = let end : ends ≡ misplaced = refused.0 in cc
    no_second offset next after [] (inr refused) = let end : ends ≡ takes = refused.0 in cc
    no_second offset next after (part ∷ parts) refused = let end : ends ≡ takes = refused.0 in cc

authentication_chain : (reading : Reading) (number : ℕ) (bytes : List ℕ) → AreBytes bytes
    → IsDecided (IsExtensionChain ipv4 reading number bytes)
    (λ refusal. RefusesExtensionChain ipv4 reading number bytes (auth_refusal refusal))
authentication_chain reading number bytes fits =
    let Refuses = RefusesExtensionChain ipv4 reading number bytes in
    decided_as (λ chain. chain) auth_of (extension_chain ipv4 reading number bytes fits)
    (same_image (λ chain is. is) (λ chain is. is)) (record {
      present = λ error refused. subst Refuses (auth_only reading number bytes refused.0 error refused.1) refused;
      back = λ refusal refused. (auth_refusal refusal, refused, auth_of_same refusal);
    })

-- ---- IPv4

ipv4_packet_of : Parts Ipv4Header × ExtensionChain → IpPacket Ipv4Header
ipv4_packet_of read =
    shown_packet read.0.header read.1 (is_ipv4_fragment read.0.header) source.Ipv4HeaderTotalLen read.0.left

ipv4_image : (reading : Reading) (bytes : List ℕ) → IsImage
    (IsCutAndChain ipv4 reading (λ (header : Ipv4Header). header.protocol.0) (IsIpv4Packet bytes))
    (IsIpv4 reading bytes) ipv4_packet_of
unfolding ipv4_packet_of
ipv4_image reading bytes = record {
  present = λ read is. record {
    content = read.0.payload;
    cut = is.0;
    chain = is.1;
    fragmented = refl;
    source = refl;
  };
  back = λ packet is. (
    (
      parts_of packet.header is.content packet.left,
      chain_of packet.extensions packet.payload.number packet.payload.bytes,
    ),
    (is.cut, is.chain),
    λ i. record packet {
      payload = record packet.payload { fragmented = is.fragmented i; source = is.source i };
    },
  );
}

-- The content of a packet consists of bytes.
pub ipv4_content_fits : (bytes : List ℕ) (cut : Parts Ipv4Header) → AreBytes bytes → IsIpv4Packet bytes cut
    → AreBytes cut.payload
ipv4_content_fits bytes cut fits is = AreBytes-payload bytes is.encoded cut.payload cut.left fits is.parts

ipv4_chain_decided : (reading : Reading) (bytes : List ℕ) → AreBytes bytes → (cut : Parts Ipv4Header)
    → IsIpv4Packet bytes cut
    → IsDecided (IsExtensionChain ipv4 reading cut.header.protocol.0 cut.payload) (RefusesIpv4Chain reading cut)
ipv4_chain_decided reading bytes fits cut is =
    refused_as (ipv4_chain_refusal cut.header)
    (authentication_chain reading cut.header.protocol.0 cut.payload (ipv4_content_fits bytes cut fits is))

pub ipv4_decided : (reading : Reading) (bytes : List ℕ) → AreBytes bytes
    → IsDecided (IsIpv4 reading bytes) (RefusesIpv4 reading bytes)
ipv4_decided reading bytes fits =
    packet_decided ipv4 reading (λ (header : Ipv4Header). header.protocol.0) ipv4_packet_of
    (decided ipv4_packet_is_read bytes fits) (ipv4_chain_decided reading bytes fits) (ipv4_image reading bytes)

-- The packet of a slice is the only one.
pub ipv4_shown : (bytes : List ℕ) → AreBytes bytes → (cut : Parts Ipv4Header) → IsIpv4Packet bytes cut
    → (number : ℕ) → number ≡ cut.header.protocol.0 → (chain : ExtensionChain)
    → IsExtensionChain ipv4 slices number cut.payload chain
    → (fragmented : Bool) → fragmented ≡ is_ipv4_fragment cut.header
    → (packet : IpPacket Ipv4Header) → IsIpv4 slices bytes packet
    → shown_packet cut.header chain fragmented source.Ipv4HeaderTotalLen packet.left ≡ packet
ipv4_shown bytes fits cut cut_is number same chain chain_is fragmented fragmented_is packet is =
    let shown = shown_packet cut.header chain fragmented source.Ipv4HeaderTotalLen cut.left in
    let here : IsIpv4 slices bytes shown = record {
      content = cut.payload;
      cut = cut_is;
      chain = subst (λ (n : ℕ). IsExtensionChain ipv4 slices n cut.payload chain) same chain_is;
      fragmented = fragmented_is;
      source = refl;
    } in
    let one = (ipv4_decided slices bytes fits).one_value shown packet here is in
    λ i. record (one i) { left = packet.left }

-- Bytes whose content is rejected are no packet.
pub ipv4_refused : (bytes : List ℕ) → AreBytes bytes → (cut : Parts Ipv4Header) → IsIpv4Packet bytes cut
    → (number : ℕ) → number ≡ cut.header.protocol.0 → (refusal : AuthSliceError)
    → RefusesExtensionChain ipv4 slices number cut.payload (auth_refusal refusal)
    → (packet : IpPacket Ipv4Header) → IsIpv4 slices bytes packet → ⊥
ipv4_refused bytes fits cut cut_is number same refusal refused packet is =
    let here = subst (λ (n : ℕ). RefusesExtensionChain ipv4 slices n cut.payload (auth_refusal refusal)) same refused in
    (ipv4_decided slices bytes fits).not_both packet (ipv4_chain_refusal cut.header refusal) is
    (inr (cut, cut_is, (refusal, here, refl)))

-- ---- IPv6

ipv6_packet_of : Parts Ipv6Header × ExtensionChain → IpPacket Ipv6Header
ipv6_packet_of read =
    shown_packet read.0.header read.1 (chain_fragments read.1.parts)
    (ipv6_payload_source read.0.header read.0.payload) read.0.left

ipv6_image : (reading : Reading) (bytes : List ℕ) → IsImage
    (IsCutAndChain ipv6 reading (λ (header : Ipv6Header). header.next_header.0) (IsIpv6Packet bytes))
    (IsIpv6 reading bytes) ipv6_packet_of
unfolding ipv6_packet_of
ipv6_image reading bytes = record {
  present = λ read is. record {
    content = read.0.payload;
    cut = is.0;
    chain = is.1;
    fragmented = refl;
    source = refl;
  };
  back = λ packet is. (
    (
      parts_of packet.header is.content packet.left,
      chain_of packet.extensions packet.payload.number packet.payload.bytes,
    ),
    (is.cut, is.chain),
    λ i. record packet {
      payload = record packet.payload { fragmented = is.fragmented i; source = is.source i };
    },
  );
}

-- The content of a packet consists of bytes.
pub ipv6_content_fits : (bytes : List ℕ) (cut : Parts Ipv6Header) → AreBytes bytes → IsIpv6Packet bytes cut
    → AreBytes cut.payload
ipv6_content_fits bytes cut fits is =
    AreBytes-payload bytes (ipv6_bytes cut.header) cut.payload cut.left fits is.parts

ipv6_chain_decided : (reading : Reading) (bytes : List ℕ) → AreBytes bytes → (cut : Parts Ipv6Header)
    → IsIpv6Packet bytes cut
    → IsDecided (IsExtensionChain ipv6 reading cut.header.next_header.0 cut.payload) (RefusesIpv6Chain reading cut)
ipv6_chain_decided reading bytes fits cut is =
    refused_as (ipv6_chain_refusal cut.header cut.payload)
    (extension_chain ipv6 reading cut.header.next_header.0 cut.payload (ipv6_content_fits bytes cut fits is))

pub ipv6_decided : (reading : Reading) (bytes : List ℕ) → AreBytes bytes
    → IsDecided (IsIpv6 reading bytes) (RefusesIpv6 reading bytes)
ipv6_decided reading bytes fits =
    packet_decided ipv6 reading (λ (header : Ipv6Header). header.next_header.0) ipv6_packet_of
    (decided ipv6_packet_is_read bytes fits) (ipv6_chain_decided reading bytes fits) (ipv6_image reading bytes)

-- The packet of a slice is the only one.
pub ipv6_shown : (bytes : List ℕ) → AreBytes bytes → (cut : Parts Ipv6Header) → IsIpv6Packet bytes cut
    → (number : ℕ) → number ≡ cut.header.next_header.0 → (chain : ExtensionChain)
    → IsExtensionChain ipv6 slices number cut.payload chain
    → (fragmented : Bool) → fragmented ≡ chain_fragments chain.parts
    → (source : LenSource) → source ≡ ipv6_payload_source cut.header cut.payload
    → (packet : IpPacket Ipv6Header) → IsIpv6 slices bytes packet
    → shown_packet cut.header chain fragmented source packet.left ≡ packet
ipv6_shown bytes fits cut cut_is number same chain chain_is fragmented fragmented_is source source_is packet is =
    let shown = shown_packet cut.header chain fragmented source cut.left in
    let here : IsIpv6 slices bytes shown = record {
      content = cut.payload;
      cut = cut_is;
      chain = subst (λ (n : ℕ). IsExtensionChain ipv6 slices n cut.payload chain) same chain_is;
      fragmented = fragmented_is;
      source = source_is;
    } in
    let one = (ipv6_decided slices bytes fits).one_value shown packet here is in
    λ i. record (one i) { left = packet.left }

-- Bytes whose content is rejected are no packet.
pub ipv6_refused : (bytes : List ℕ) → AreBytes bytes → (cut : Parts Ipv6Header) → IsIpv6Packet bytes cut
    → (number : ℕ) → number ≡ cut.header.next_header.0 → (refusal : ExtsSliceError)
    → RefusesExtensionChain ipv6 slices number cut.payload refusal
    → (packet : IpPacket Ipv6Header) → IsIpv6 slices bytes packet → ⊥
ipv6_refused bytes fits cut cut_is number same refusal refused packet is =
    let here = subst (λ (n : ℕ). RefusesExtensionChain ipv6 slices n cut.payload refusal) same refused in
    (ipv6_decided slices bytes fits).not_both packet (ipv6_chain_refusal cut.header cut.payload refusal) is
    (inr (cut, cut_is, (refusal, here, refl)))

-- ---- either version

-- Bytes of version 4 or 6 are not rejected for their version.
pub version_rows_none : (bytes : List ℕ) → (version_of bytes ≡ 4) ⊎ (version_of bytes ≡ 6)
    → first_row (ip_version_rows bytes) ≡ None
version_rows_none bytes version = grind (arith, common_steps)

-- Bytes of no supported version are rejected.
version_rows_some : (bytes : List ℕ) → (version_of bytes ≡ 4 → ⊥) → (version_of bytes ≡ 6 → ⊥)
    → (error : SliceError) × Refuses (ip_version_rows bytes) error
version_rows_some [] not_4 not_6 = (slice_error.Len (len_error 1 0 source.Slice layer.IpHeader), refl)
version_rows_some (byte ∷ bytes) not_4 not_6 = (
  slice_error.IpHeaders (headers_error.Ip (ip_content.UnsupportedIpVersion (version_of (byte ∷ bytes)))),
  grind (arith, common_steps),
)

pub ipv4_version : (reading : Reading) (bytes : List ℕ) (packet : IpPacket Ipv4Header) → IsIpv4 reading bytes packet
    → version_of bytes ≡ 4
ipv4_version reading bytes packet is =
    let none = (ipv4_packet_is_read.is_read bytes _ is.cut).0 in grind (arith, common_steps)

pub ipv6_version : (reading : Reading) (bytes : List ℕ) (packet : IpPacket Ipv6Header) → IsIpv6 reading bytes packet
    → version_of bytes ≡ 6
ipv6_version reading bytes packet is =
    let none = (ipv6_packet_is_read.is_read bytes _ is.cut).0 in grind (arith, common_steps)

-- If bytes have version 4, an IP packet at their start is an IPv4 packet.
pub ipv4_back : (reading : Reading) (bytes : List ℕ) → version_of bytes ≡ 4 → (part : IpPart) → IsIp reading bytes part
    → (packet : IpPacket Ipv4Header) × IsIpv4 reading bytes packet × (part ≡ ipv4_part packet)
ipv4_back reading bytes version (ipv4_part packet) is = (packet, is, refl)
ipv4_back reading bytes version (ipv6_part packet) is =
    absurd (omega (arith, version, ipv6_version reading bytes packet is))

pub ipv6_back : (reading : Reading) (bytes : List ℕ) → version_of bytes ≡ 6 → (part : IpPart) → IsIp reading bytes part
    → (packet : IpPacket Ipv6Header) × IsIpv6 reading bytes packet × (part ≡ ipv6_part packet)
ipv6_back reading bytes version (ipv4_part packet) is =
    absurd (omega (arith, version, ipv4_version reading bytes packet is))
ipv6_back reading bytes version (ipv6_part packet) is = (packet, is, refl)

ipv4_refused_back : (reading : Reading) (bytes : List ℕ) → version_of bytes ≡ 4 → (error : SliceError)
    → RefusesIp reading bytes error → RefusesAs of_ipv4_error (RefusesIpv4 reading bytes) error
ipv4_refused_back reading bytes version error (inl row) =
    absurd (none-some error (sym (version_rows_none bytes (inl version)) ∙ row))
ipv4_refused_back reading bytes version error (inr (inl refused)) = refused.1
ipv4_refused_back reading bytes version error (inr (inr refused)) = absurd (omega (arith, version, refused.0))

ipv6_refused_back : (reading : Reading) (bytes : List ℕ) → version_of bytes ≡ 6 → (error : SliceError)
    → RefusesIp reading bytes error → RefusesAs of_ipv6_error (RefusesIpv6 reading bytes) error
ipv6_refused_back reading bytes version error (inl row) =
    absurd (none-some error (sym (version_rows_none bytes (inr version)) ∙ row))
ipv6_refused_back reading bytes version error (inr (inl refused)) = absurd (omega (arith, version, refused.0))
ipv6_refused_back reading bytes version error (inr (inr refused)) = refused.1

-- Bytes of no supported version are no packet.
no_version : (reading : Reading) (bytes : List ℕ) → (version_of bytes ≡ 4 → ⊥) → (version_of bytes ≡ 6 → ⊥)
    → (part : IpPart) → IsIp reading bytes part → ⊥
no_version reading bytes not_4 not_6 (ipv4_part packet) is = not_4 (ipv4_version reading bytes packet is)
no_version reading bytes not_4 not_6 (ipv6_part packet) is = not_6 (ipv6_version reading bytes packet is)

no_version_refused : (reading : Reading) (bytes : List ℕ) → (version_of bytes ≡ 4 → ⊥) → (version_of bytes ≡ 6 → ⊥)
    → (error : SliceError) → RefusesIp reading bytes error → Refuses (ip_version_rows bytes) error
no_version_refused reading bytes not_4 not_6 error (inl row) = row
no_version_refused reading bytes not_4 not_6 error (inr (inl refused)) = absurd (not_4 refused.0)
no_version_refused reading bytes not_4 not_6 error (inr (inr refused)) = absurd (not_6 refused.0)

some_same : (error other : SliceError) → Some error ≡ Some other → error ≡ other
some_same error other same = cc

pub ip_decided : (reading : Reading) (bytes : List ℕ) → AreBytes bytes
    → IsDecided (IsIp reading bytes) (RefusesIp reading bytes)
ip_decided reading bytes fits =
    elim (cases_eq (version_of bytes) 4) [
      | inl version ↦ decided_as ipv4_part (λ error. error)
          (refused_as of_ipv4_error (ipv4_decided reading bytes fits))
          (record { present = λ packet is. is; back = ipv4_back reading bytes version })
          (same_image (λ error refused. inr (inl (version, refused))) (ipv4_refused_back reading bytes version))
      | inr not_4 ↦ elim (cases_eq (version_of bytes) 6) [
        | inl version ↦ decided_as ipv6_part (λ error. error)
            (refused_as of_ipv6_error (ipv6_decided reading bytes fits))
            (record { present = λ packet is. is; back = ipv6_back reading bytes version })
            (same_image (λ error refused. inr (inr (version, refused))) (ipv6_refused_back reading bytes version))
        | inr not_6 ↦ record {
          some = let row = version_rows_some bytes not_4 not_6 in inr (row.0, inl row.1);
          one_value = λ part other a b. absurd (no_version reading bytes not_4 not_6 part a);
          one_error = λ error other a b. some_same error other
              (sym (no_version_refused reading bytes not_4 not_6 error a)
              ∙ no_version_refused reading bytes not_4 not_6 other b);
          not_both = λ part error a b. no_version reading bytes not_4 not_6 part a;
        }
      ]
    ]
