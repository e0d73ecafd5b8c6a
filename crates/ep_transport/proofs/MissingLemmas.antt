-- Errors of transport layers count the missing bytes.
use Rattle.std.proofs.Common.{◌≡◌, ◌⊎◌, ℕ, ◌*◌, ◌==◌, Bool, true, false, List, [], ◌∷◌, length, Option, Some, None, refl, inl, inr}
use Rattle.std.specs.Prelude.{⊤, nat_lt}
use Rattle.ep_base.specs.Bytes.{word_at}
use Rattle.ep_base.specs.IpNumbers.{icmpv4_number, icmpv6_number, tcp_number, udp_number}
use Rattle.ep_base.specs.Readings.{Reading, slices, headers, len_error}
use Rattle.ep_base.specs.Missing.{CountsMissing, ReportsMissing}
use Rattle.ep_base.specs.Tables.{rows_as}
use Rattle.ep_base.proofs.MissingLemmas.{AllWhere, counted, either_where, not_counted, not_udp, refusal_where, tells_missing}
use Rattle.ep_base.specs.declared.err.len_error.LenError.{LenError}
use Rattle.ep_base.specs.declared.err.layer.Layer.{Layer}
use Rattle.ep_base.specs.declared.err.layer.Layer.TheVariants as layer
use Rattle.ep_base.specs.declared.len_source.LenSource.TheVariants as source
use Rattle.ep_base.specs.declared.err.tcp.HeaderSliceError.{HeaderSliceError}
use Rattle.ep_base.specs.declared.err.tcp.HeaderSliceError.TheVariants.{Len, Content}
use Rattle.ep_transport.specs.declared.icmpv4.kind.Icmpv4Kind.{Icmpv4Kind}
use Rattle.ep_transport.specs.declared.icmpv4.kind.Icmpv4Kind.TheVariants as kind
use Rattle.ep_transport.specs.Icmpv4.{RefusesIcmpv4, icmpv4_kind_at, icmpv4_rows, icmpv4_timestamp_rows}
use Rattle.ep_transport.specs.Icmpv6.{RefusesIcmpv6, icmpv6_rows}
use Rattle.ep_transport.specs.Tcp.{RefusesTcp, data_offset_of, tcp_rows}
use Rattle.ep_transport.specs.Udp.{RefusesUdp, RefusesUdpHeader, udp_header_rows, udp_rows}
use Rattle.ep_transport.specs.TransportParts.{RefusesTransportPart, transport_rows, udp_part_rows}

-- A length error counts the bytes up to the end of the slice if that is its limit; the only other limit is the length
-- field of UDP.
abbrev Counts : ℕ → LenError → Type 0
Counts limit error =
    CountsMissing limit error × ((error.len_source ≡ source.Slice) ⊎ (error.len_source ≡ source.UdpHeaderLen))

abbrev TransportCounts : ℕ → HeaderSliceError → Type 0
TransportCounts limit (Len error) = Counts limit error
TransportCounts limit (Content error) = ⊤

-- The error for too few bytes counts them.
row : (bytes : List ℕ) (required : ℕ) (place : Layer) → nat_lt (length bytes) required ≡ true
    → Counts (length bytes) (len_error required (length bytes) source.Slice place)
row bytes required place below = (counted bytes required source.Slice place below, inl refl)

-- The error for a length field of UDP that is too small has that field as its limit.
field_row : (bytes : List ℕ)
    → Counts (length bytes) (len_error 8 (word_at bytes 4) source.UdpHeaderLen layer.UdpHeader)
field_row bytes = (not_counted (length bytes) 8 (word_at bytes 4) source.UdpHeaderLen layer.UdpHeader not_udp, inr refl)

-- The error for a message that must have exactly 20 bytes is exempt from counting.
request_row : (bound n : ℕ) → Counts bound (len_error 20 n source.Slice layer.Icmpv4Timestamp)
request_row bound n = (λ at_hand inexact. absurd (inexact (inl refl)), inl refl)

reply_row : (bound n : ℕ) → Counts bound (len_error 20 n source.Slice layer.Icmpv4TimestampReply)
reply_row bound n = (λ at_hand inexact. absurd (inexact (inr refl)), inl refl)

timestamp_rows : (of : Option Icmpv4Kind) (bound n : ℕ) → AllWhere (Counts bound) (icmpv4_timestamp_rows of n)
timestamp_rows None bound n = tt
timestamp_rows (Some kind.TimestampRequest) bound n = (λ holds. request_row bound n, tt)
timestamp_rows (Some kind.TimestampReply) bound n = (λ holds. reply_row bound n, tt)
timestamp_rows (Some _) bound n = tt

-- If all errors of a table count, they do so after conversion by `Len`.
named : (limit : ℕ) (rows : List (Bool × LenError)) → AllWhere (Counts limit) rows
    → AllWhere (TransportCounts limit) (rows_as Len rows)
named limit [] all = tt
named limit (row ∷ rows) all = (all.0, named limit rows all.1)

-- ---- the tables

udp_header_all : (bytes : List ℕ) → AllWhere (Counts (length bytes)) (udp_header_rows bytes)
udp_header_all bytes = (row bytes 8 layer.UdpHeader, tt)

udp_all : (bytes : List ℕ) → AllWhere (Counts (length bytes)) (udp_rows bytes)
udp_all bytes =
    (row bytes 8 layer.UdpHeader, (λ holds. field_row bytes, (row bytes (word_at bytes 4) layer.UdpPayload, tt)))

udp_part_all : (reading : Reading) (bytes : List ℕ) → AllWhere (Counts (length bytes)) (udp_part_rows reading bytes)
udp_part_all slices bytes = udp_all bytes
udp_part_all headers bytes = udp_header_all bytes

tcp_all : (bytes : List ℕ) → AllWhere (TransportCounts (length bytes)) (tcp_rows bytes)
tcp_all bytes =
    (row bytes 20 layer.TcpHeader, (λ holds. tt, (row bytes (4 * data_offset_of bytes) layer.TcpHeader, tt)))

icmpv4_all : (bytes : List ℕ) → AllWhere (Counts (length bytes)) (icmpv4_rows bytes)
icmpv4_all bytes = (row bytes 8 layer.Icmpv4, timestamp_rows (icmpv4_kind_at bytes) (length bytes) (length bytes))

icmpv6_all : (bytes : List ℕ) → AllWhere (Counts (length bytes)) (icmpv6_rows bytes)
icmpv6_all bytes = (row bytes 8 layer.Icmpv6, tt)

transport_all : (reading : Reading) (number : ℕ) (bytes : List ℕ)
    → AllWhere (TransportCounts (length bytes)) (transport_rows reading number bytes)
transport_all reading number bytes =
    let Such = TransportCounts (length bytes) in
    either_where Such (number == udp_number) (rows_as Len (udp_part_rows reading bytes)) _
    (named (length bytes) (udp_part_rows reading bytes) (udp_part_all reading bytes))
    (either_where Such (number == tcp_number) (tcp_rows bytes) _ (tcp_all bytes)
    (either_where Such (number == icmpv4_number) (rows_as Len (icmpv4_rows bytes)) _
    (named (length bytes) (icmpv4_rows bytes) (icmpv4_all bytes))
    (either_where Such (number == icmpv6_number) (rows_as Len (icmpv6_rows bytes)) []
    (named (length bytes) (icmpv6_rows bytes) (icmpv6_all bytes)) tt)))

-- The length errors of the transport layer of an IP payload count the missing bytes.
pub transport_counts : (reading : Reading) (number : ℕ) (fragmented : Bool) (bytes : List ℕ) (error : HeaderSliceError)
    → RefusesTransportPart reading number fragmented bytes error → TransportCounts (length bytes) error
transport_counts reading number true bytes error refused =
    refusal_where (TransportCounts (length bytes)) [] tt error refused
transport_counts reading number false bytes error refused =
    refusal_where (TransportCounts (length bytes)) (transport_rows reading number bytes)
    (transport_all reading number bytes) error refused

-- ---- missing bytes

pub udp_header_tells : ReportsMissing RefusesUdpHeader
udp_header_tells = tells_missing RefusesUdpHeader
    (λ bytes error refused.
    (refusal_where (Counts (length bytes)) (udp_header_rows bytes) (udp_header_all bytes) error refused).0)

pub udp_tells : ReportsMissing RefusesUdp
udp_tells = tells_missing RefusesUdp
    (λ bytes error refused. (refusal_where (Counts (length bytes)) (udp_rows bytes) (udp_all bytes) error refused).0)

pub tcp_tells : ReportsMissing (λ bytes error. RefusesTcp bytes (Len error))
tcp_tells = tells_missing (λ bytes error. RefusesTcp bytes (Len error))
    (λ bytes error refused.
    (refusal_where (TransportCounts (length bytes)) (tcp_rows bytes) (tcp_all bytes) (Len error) refused).0)

pub icmpv4_tells : ReportsMissing RefusesIcmpv4
icmpv4_tells = tells_missing RefusesIcmpv4
    (λ bytes error refused.
    (refusal_where (Counts (length bytes)) (icmpv4_rows bytes) (icmpv4_all bytes) error refused).0)

pub icmpv6_tells : ReportsMissing RefusesIcmpv6
icmpv6_tells = tells_missing RefusesIcmpv6
    (λ bytes error refused.
    (refusal_where (Counts (length bytes)) (icmpv6_rows bytes) (icmpv6_all bytes) error refused).0)

pub transport_tells : (reading : Reading) (number : ℕ) (fragmented : Bool)
    → ReportsMissing (λ bytes error. RefusesTransportPart reading number fragmented bytes (Len error))
transport_tells reading number fragmented =
    tells_missing (λ bytes error. RefusesTransportPart reading number fragmented bytes (Len error))
    (λ bytes error refused. (transport_counts reading number fragmented bytes (Len error) refused).0)
