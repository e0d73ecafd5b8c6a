-- Errors of IP packets count the missing bytes.
use Rattle.std.proofs.Common.{◌≡◌, ℕ, ◌+◌, ◌*◌, ◌==◌, if◌then◌else◌, Bool, true, false, List, [], ◌++◌, length, refl, sym, ap, subst, inl, inr, arith, length-append}
use Rattle.std.specs.Prelude.{⊤, ◌&&◌, nat_lt}
use Rattle.std.proofs.lemmas.Grind.{common_steps}
use Rattle.ep_base.specs.Bytes.{word_at}
use Rattle.ep_base.specs.Readings.{Reading, limited_by, len_error}
use Rattle.ep_base.specs.Missing.{CountsMissing, IsOfAvailableBytes, ReportsMissing}
use Rattle.ep_base.proofs.MissingLemmas.{counted, not_counted, not_payload, not_total, refusal_where, tells_missing}
use Rattle.ep_base.specs.declared.err.layer.Layer.TheVariants as layer
use Rattle.ep_base.specs.declared.len_source.LenSource.{LenSource}
use Rattle.ep_base.specs.declared.len_source.LenSource.TheVariants as source
use Rattle.ep_base.specs.declared.err.ip.SliceError.{SliceError as IpSliceError}
use Rattle.ep_base.specs.declared.err.ip.SliceError.TheVariants as ip_error
use Rattle.ep_base.specs.declared.err.ip_auth.HeaderSliceError.{HeaderSliceError as AuthSliceError}
use Rattle.ep_base.specs.declared.err.ip_auth.HeaderSliceError.TheVariants as auth_error
use Rattle.ep_base.specs.declared.err.ipv4.HeaderError.TheVariants as ipv4_content
use Rattle.ep_base.specs.declared.err.ipv4.HeaderSliceError.{HeaderSliceError as Ipv4HeaderSliceError}
use Rattle.ep_base.specs.declared.err.ipv4.HeaderSliceError.TheVariants as ipv4_header_error
use Rattle.ep_base.specs.declared.err.ipv4.SliceError.{SliceError as Ipv4SliceError}
use Rattle.ep_base.specs.declared.err.ipv4.SliceError.TheVariants as ipv4_error
use Rattle.ep_base.specs.declared.err.ipv6.HeaderError.TheVariants as ipv6_content
use Rattle.ep_base.specs.declared.err.ipv6.HeaderSliceError.{HeaderSliceError as Ipv6HeaderSliceError}
use Rattle.ep_base.specs.declared.err.ipv6.HeaderSliceError.TheVariants as ipv6_header_error
use Rattle.ep_base.specs.declared.err.ipv6.SliceError.{SliceError as Ipv6SliceError}
use Rattle.ep_base.specs.declared.err.ipv6.SliceError.TheVariants as ipv6_error
use Rattle.ep_base.specs.declared.err.ipv6_exts.HeaderSliceError.{HeaderSliceError as ExtsSliceError}
use Rattle.ep_base.specs.declared.err.ipv6_exts.HeaderSliceError.TheVariants as exts_error
use Rattle.ep_ext.specs.Chains.{ipv4, ipv6}
use Rattle.ep_ext.specs.ExtensionParts.{auth_refusal}
use Rattle.ep_ext.proofs.MissingLemmas.{Misses, chain_misses}
use Rattle.ep_ip.specs.declared.ipv4_header.Ipv4Header.{Ipv4Header}
use Rattle.ep_ip.specs.declared.ipv6_header.Ipv6Header.{Ipv6Header}
use Rattle.ep_ip.specs.Ipv4.{RefusesIpv4Header, RefusesIpv4Packet, ihl_of, ipv4_header_rows, ipv4_packet_rows}
use Rattle.ep_ip.specs.Ipv6.{IsIpv6Packet, RefusesIpv6Header, RefusesIpv6Packet, ipv6_bytes, ipv6_header_rows, ipv6_packet_rows, ipv6_payload_source}
use Rattle.ep_ip.specs.IpPackets.{IpPacket, IsIpv6, RefusesIp, RefusesIpv4, RefusesIpv6, ip_version_rows, ipv4_chain_refusal, ipv6_chain_refusal, of_ipv4_error, of_ipv6_error}
use Rattle.ep_base.specs.Tables.{Parts, parts_of}
use Rattle.ep_ip.proofs.IpBytesLemmas.{ipv6_len}

-- ---- IPv4

abbrev Ipv4HeaderCounts : ℕ → Ipv4HeaderSliceError → Type 0
Ipv4HeaderCounts limit (ipv4_header_error.Len error) = CountsMissing limit error
Ipv4HeaderCounts limit (ipv4_header_error.Content error) = ⊤

abbrev pub Ipv4Counts : ℕ → Ipv4SliceError → Type 0
Ipv4Counts limit (ipv4_error.Len error) = CountsMissing limit error
Ipv4Counts limit (ipv4_error.Header error) = ⊤
Ipv4Counts limit (ipv4_error.Exts error) = ⊤

pub ipv4_header_tells : ReportsMissing (λ bytes error. RefusesIpv4Header bytes (ipv4_header_error.Len error))
ipv4_header_tells = tells_missing (λ bytes error. RefusesIpv4Header bytes (ipv4_header_error.Len error))
    (λ bytes error refused. refusal_where (Ipv4HeaderCounts (length bytes)) (ipv4_header_rows bytes) (
      counted bytes 20 source.Slice layer.Ipv4Header,
      (λ holds. tt, (λ holds. tt, (counted bytes (4 * ihl_of bytes) source.Slice layer.Ipv4Header, tt))),
    )
    (ipv4_header_error.Len error) refused)

ipv4_packet_counts : (bytes : List ℕ) (error : Ipv4SliceError) → RefusesIpv4Packet bytes error
    → Ipv4Counts (length bytes) error
ipv4_packet_counts bytes error refused = refusal_where (Ipv4Counts (length bytes)) (ipv4_packet_rows bytes) (
  counted bytes 20 source.Slice layer.Ipv4Header,
  (
    λ holds. tt,
    (
      λ holds. tt,
      (
        counted bytes (4 * ihl_of bytes) source.Slice layer.Ipv4Header,
        (
          λ holds. not_counted (length bytes) (4 * ihl_of bytes) (word_at bytes 2) source.Ipv4HeaderTotalLen
              layer.Ipv4Packet not_total,
          (counted bytes (word_at bytes 2) source.Slice layer.Ipv4Packet, tt),
        ),
      ),
    ),
  ),
)
    error refused

pub ipv4_packet_tells : ReportsMissing (λ bytes error. RefusesIpv4Packet bytes (ipv4_error.Len error))
ipv4_packet_tells = tells_missing (λ bytes error. RefusesIpv4Packet bytes (ipv4_error.Len error))
    (λ bytes error refused. ipv4_packet_counts bytes (ipv4_error.Len error) refused)

-- The total length is the limit of the bytes after the header.
ipv4_chain_counts : (limit content : ℕ) (header : Ipv4Header) (error : AuthSliceError)
    → Misses content (auth_refusal error) → Ipv4Counts limit (ipv4_chain_refusal header error)
ipv4_chain_counts limit content header (auth_error.Len error) misses =
    λ at_hand inexact.
    absurd (not_total (subst (λ (s : LenSource). IsOfAvailableBytes (limited_by source.Ipv4HeaderTotalLen s)) misses.1
    at_hand))
ipv4_chain_counts limit content header (auth_error.Content error) misses = tt

pub ipv4_counts : (reading : Reading) (bytes : List ℕ) (error : Ipv4SliceError) → RefusesIpv4 reading bytes error
    → Ipv4Counts (length bytes) error
ipv4_counts reading bytes error (inl refused) = ipv4_packet_counts bytes error refused
ipv4_counts reading bytes error (inr (cut, is, why)) =
    subst (Ipv4Counts (length bytes)) (sym why.2)
    (ipv4_chain_counts (length bytes) (length cut.payload) cut.header why.0
    (chain_misses ipv4 reading cut.header.protocol.0 cut.payload (auth_refusal why.0) why.1))

pub ipv4_tells : (reading : Reading) → ReportsMissing (λ bytes error. RefusesIpv4 reading bytes (ipv4_error.Len error))
ipv4_tells reading = tells_missing (λ bytes error. RefusesIpv4 reading bytes (ipv4_error.Len error))
    (λ bytes error refused. ipv4_counts reading bytes (ipv4_error.Len error) refused)

-- ---- IPv6

abbrev Ipv6HeaderCounts : ℕ → Ipv6HeaderSliceError → Type 0
Ipv6HeaderCounts limit (ipv6_header_error.Len error) = CountsMissing limit error
Ipv6HeaderCounts limit (ipv6_header_error.Content error) = ⊤

abbrev pub Ipv6Counts : ℕ → Ipv6SliceError → Type 0
Ipv6Counts limit (ipv6_error.Len error) = CountsMissing limit error
Ipv6Counts limit (ipv6_error.Header error) = ⊤
Ipv6Counts limit (ipv6_error.Exts error) = ⊤

pub ipv6_header_tells : ReportsMissing (λ bytes error. RefusesIpv6Header bytes (ipv6_header_error.Len error))
ipv6_header_tells = tells_missing (λ bytes error. RefusesIpv6Header bytes (ipv6_header_error.Len error))
    (λ bytes error refused. refusal_where (Ipv6HeaderCounts (length bytes)) (ipv6_header_rows bytes)
    (counted bytes 40 source.Slice layer.Ipv6Header, (λ holds. tt, tt)) (ipv6_header_error.Len error) refused)

ipv6_packet_counts : (bytes : List ℕ) (error : Ipv6SliceError) → RefusesIpv6Packet bytes error
    → Ipv6Counts (length bytes) error
ipv6_packet_counts bytes error refused = refusal_where (Ipv6Counts (length bytes)) (ipv6_packet_rows bytes) (
  counted bytes 40 source.Slice layer.Ipv6Header,
  (λ holds. tt, (counted bytes (40 + word_at bytes 4) source.Slice layer.Ipv6Packet, tt)),
)
    error refused

pub ipv6_packet_tells : ReportsMissing (λ bytes error. RefusesIpv6Packet bytes (ipv6_error.Len error))
ipv6_packet_tells = tells_missing (λ bytes error. RefusesIpv6Packet bytes (ipv6_error.Len error))
    (λ bytes error refused. ipv6_packet_counts bytes (ipv6_error.Len error) refused)

source_zero : (zero some : Bool)
    → IsOfAvailableBytes (if zero && some then source.Slice else source.Ipv6HeaderPayloadLen) → zero ≡ true
source_zero true some at_hand = refl
source_zero false some at_hand = absurd (not_payload at_hand)

is_zero : (n : ℕ) → (n == 0) ≡ true → n ≡ 0
is_zero n test = grind (arith, common_steps)

-- If the end of the slice is the limit of the content, there are no trailing bytes.
left_nothing : (bytes : List ℕ) (cut : Parts Ipv6Header) → IsIpv6Packet bytes cut
    → IsOfAvailableBytes (ipv6_payload_source cut.header cut.payload) → cut.left ≡ []
left_nothing bytes cut is at_hand =
    let zero = is_zero cut.header.payload_length
    (source_zero (cut.header.payload_length == 0) (nat_lt 0 (length cut.payload)) at_hand) in
    elim is.cut [
      | inl counted ↦ absurd (omega (arith, counted.0, zero))
      | inr complete ↦ complete.1
    ]

ipv6_chain_counts : (bytes : List ℕ) (cut : Parts Ipv6Header) → IsIpv6Packet bytes cut → (error : ExtsSliceError)
    → Misses (length cut.payload) error
    → Ipv6Counts (length bytes) (ipv6_chain_refusal cut.header cut.payload error)
ipv6_chain_counts bytes cut is (exts_error.Len error) misses =
    λ at_hand inexact.
    let limit = ipv6_payload_source cut.header cut.payload in
    let complete = left_nothing bytes cut is
    (subst (λ (s : LenSource). IsOfAvailableBytes (limited_by limit s)) misses.1 at_hand) in
    record {
      available = omega (
        arith,
        misses.0.available,
        ap length is.parts,
        ap length complete,
        length-append (ipv6_bytes cut.header ++ cut.payload) cut.left,
        length-append (ipv6_bytes cut.header) cut.payload,
        ipv6_len cut.header is.fits,
      );
      needed = misses.0.needed;
    }
ipv6_chain_counts bytes cut is (exts_error.Content error) misses = tt

pub ipv6_counts : (reading : Reading) (bytes : List ℕ) (error : Ipv6SliceError) → RefusesIpv6 reading bytes error
    → Ipv6Counts (length bytes) error
ipv6_counts reading bytes error (inl refused) = ipv6_packet_counts bytes error refused
ipv6_counts reading bytes error (inr (cut, is, why)) =
    subst (Ipv6Counts (length bytes)) (sym why.2)
    (ipv6_chain_counts bytes cut is why.0
    (chain_misses ipv6 reading cut.header.next_header.0 cut.payload why.0 why.1))

pub ipv6_tells : (reading : Reading) → ReportsMissing (λ bytes error. RefusesIpv6 reading bytes (ipv6_error.Len error))
ipv6_tells reading = tells_missing (λ bytes error. RefusesIpv6 reading bytes (ipv6_error.Len error))
    (λ bytes error refused. ipv6_counts reading bytes (ipv6_error.Len error) refused)

-- If the end of the slice is the limit of the payload, there are no trailing bytes.
pub open_payload : (reading : Reading) (bytes : List ℕ) (packet : IpPacket Ipv6Header) → IsIpv6 reading bytes packet
    → IsOfAvailableBytes packet.payload.source → packet.left ≡ []
open_payload reading bytes packet is at_hand =
    left_nothing bytes (parts_of packet.header is.content packet.left) is.cut
    (subst IsOfAvailableBytes is.source at_hand)

-- ---- either version

abbrev pub IpCounts : ℕ → IpSliceError → Type 0
IpCounts limit (ip_error.Len error) = CountsMissing limit error
IpCounts limit (ip_error.IpHeaders error) = ⊤

no_bytes : (bytes : List ℕ) → (length bytes == 0) ≡ true
    → CountsMissing (length bytes) (len_error 1 0 source.Slice layer.IpHeader)
no_bytes bytes none at_hand inexact =
    let empty = is_zero (length bytes) none in
    record { available = omega (arith, empty); needed = omega arith }

of_ipv4 : (limit : ℕ) (error : Ipv4SliceError) → Ipv4Counts limit error → IpCounts limit (of_ipv4_error error)
of_ipv4 limit (ipv4_error.Len error) counts = counts
of_ipv4 limit (ipv4_error.Header (ipv4_content.UnexpectedVersion version)) counts = tt
of_ipv4 limit (ipv4_error.Header (ipv4_content.HeaderLengthSmallerThanHeader ihl)) counts = tt
of_ipv4 limit (ipv4_error.Exts error) counts = tt

of_ipv6 : (limit : ℕ) (error : Ipv6SliceError) → Ipv6Counts limit error → IpCounts limit (of_ipv6_error error)
of_ipv6 limit (ipv6_error.Len error) counts = counts
of_ipv6 limit (ipv6_error.Header (ipv6_content.UnexpectedVersion version)) counts = tt
of_ipv6 limit (ipv6_error.Exts error) counts = tt

pub ip_counts : (reading : Reading) (bytes : List ℕ) (error : IpSliceError) → RefusesIp reading bytes error
    → IpCounts (length bytes) error
ip_counts reading bytes error (inl refused) =
    refusal_where (IpCounts (length bytes)) (ip_version_rows bytes) (no_bytes bytes, (λ holds. tt, tt)) error refused
ip_counts reading bytes error (inr (inl refused)) =
    subst (IpCounts (length bytes)) (sym refused.1.2)
    (of_ipv4 (length bytes) refused.1.0 (ipv4_counts reading bytes refused.1.0 refused.1.1))
ip_counts reading bytes error (inr (inr refused)) =
    subst (IpCounts (length bytes)) (sym refused.1.2)
    (of_ipv6 (length bytes) refused.1.0 (ipv6_counts reading bytes refused.1.0 refused.1.1))

pub ip_tells : (reading : Reading) → ReportsMissing (λ bytes error. RefusesIp reading bytes (ip_error.Len error))
ip_tells reading = tells_missing (λ bytes error. RefusesIp reading bytes (ip_error.Len error))
    (λ bytes error refused. ip_counts reading bytes (ip_error.Len error) refused)
