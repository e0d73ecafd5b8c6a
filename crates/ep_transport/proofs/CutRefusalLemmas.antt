-- A truncated transport layer is rejected for the missing bytes.
use Rattle.std.proofs.Common.{◌≡◌, ℕ, ◌*◌, ◌/◌, ◌<◌, ◌==◌, Bool, true, false, not, List, [], ◌++◌, length, Option, Some, None, refl, ap, subst, arith, length-append}
use Rattle.std.specs.Prelude.{◌&&◌, nat_lt}
use Rattle.std.proofs.lemmas.Grind.{common_steps}
use Rattle.ep_base.specs.Bytes.{word_at}
use Rattle.ep_base.specs.IpNumbers.{icmpv4_number, icmpv6_number, tcp_number, udp_number}
use Rattle.ep_base.specs.Readings.{Reading, headers, len_error, slices}
use Rattle.ep_base.specs.Missing.{IsTruncationError, ReportsTruncation, slice_end}
use Rattle.ep_base.specs.Tables.{rows_as}
use Rattle.ep_base.proofs.CutRefusalLemmas.{BesideRows, byte_beside, cut_first, cut_then, either_beside, named_beside, refused_beside, same_then, word_beside}
use Rattle.ep_base.specs.declared.err.len_error.LenError.{LenError}
use Rattle.ep_base.specs.declared.err.layer.Layer.{Layer}
use Rattle.ep_base.specs.declared.err.layer.Layer.TheVariants as layer
use Rattle.ep_base.specs.declared.len_source.LenSource.TheVariants as source
use Rattle.ep_base.specs.declared.err.tcp.HeaderSliceError.{HeaderSliceError}
use Rattle.ep_base.specs.declared.err.tcp.HeaderSliceError.TheVariants.{Len}
use Rattle.ep_transport.specs.declared.icmpv4.kind.Icmpv4Kind.{Icmpv4Kind}
use Rattle.ep_transport.specs.declared.icmpv4.kind.Icmpv4Kind.TheVariants as kind
use Rattle.ep_transport.specs.Icmpv4.{IsIcmpv4, RefusesIcmpv4, icmpv4_kind_at, icmpv4_kind_of, icmpv4_rows, icmpv4_timestamp_rows}
use Rattle.ep_transport.specs.Icmpv6.{IsIcmpv6, RefusesIcmpv6, icmpv6_rows}
use Rattle.ep_transport.specs.Tcp.{IsTcp, RefusesTcp, data_offset_of, tcp_rows}
use Rattle.ep_transport.specs.TransportParts.{IsTransportPart, RefusesTransportPart, transport_part_rows, transport_rows, udp_part_rows}
use Rattle.ep_transport.specs.Udp.{IsUdp, IsUdpHeader, RefusesUdp, RefusesUdpHeader, udp_header_rows, udp_rows}
use Rattle.ep_transport.proofs.Icmpv4Lemmas.{icmpv4_is_read}
use Rattle.ep_transport.proofs.Icmpv6Lemmas.{icmpv6_is_read}
use Rattle.ep_transport.proofs.TcpLemmas.{tcp_is_read}
use Rattle.ep_transport.proofs.TransportLemmas.{transport_is_read}
use Rattle.ep_transport.proofs.UdpLemmas.{udp_header_is_read, udp_is_read}

-- The error is one for the bytes missing from `prefix`.
abbrev Beside : List ℕ → List ℕ → HeaderSliceError → Type 0
Beside prefix back = IsTruncationError Len slice_end (length prefix) (length (prefix ++ back))

-- The error, converted by `named`, is one for the bytes missing from `prefix`.
abbrev BesideAs : {E : Type 0} → (LenError → E) → List ℕ → List ℕ → LenError → Type 0
BesideAs named prefix back error = IsTruncationError named slice_end (length prefix) (length (prefix ++ back)) (named error)

-- ---- the tables

udp_header_beside : {E : Type 0} (named : LenError → E) (prefix back : List ℕ)
    → BesideRows (BesideAs named prefix back) (udp_header_rows prefix) (udp_header_rows (prefix ++ back))
udp_header_beside named prefix back = cut_first named slice_end prefix back 8 layer.UdpHeader refl (λ present. tt)

udp_beside : {E : Type 0} (named : LenError → E) (prefix back : List ℕ)
    → BesideRows (BesideAs named prefix back) (udp_rows prefix) (udp_rows (prefix ++ back))
udp_beside named prefix back =
    cut_first named slice_end prefix back 8 layer.UdpHeader refl (λ present.
    let field = word_beside prefix back 4 (omega (arith, present)) in
    same_then (ap (λ (n : ℕ). nat_lt 0 n && nat_lt n 8) field)
    (cut_then named slice_end prefix back (word_at prefix 4) (word_at (prefix ++ back) 4) layer.UdpPayload refl field tt))

udp_part_beside : {E : Type 0} (named : LenError → E) (reading : Reading) (prefix back : List ℕ)
    → BesideRows (BesideAs named prefix back) (udp_part_rows reading prefix) (udp_part_rows reading (prefix ++ back))
udp_part_beside named slices prefix back = udp_beside named prefix back
udp_part_beside named headers prefix back = udp_header_beside named prefix back

tcp_beside : (prefix back : List ℕ) → BesideRows (Beside prefix back) (tcp_rows prefix) (tcp_rows (prefix ++ back))
tcp_beside prefix back =
    cut_first Len slice_end prefix back 20 layer.TcpHeader refl (λ present.
    let field = byte_beside prefix back 12 (omega (arith, present)) in
    same_then (ap (λ (b : ℕ). nat_lt (b / 16) 5) field)
    (cut_then Len slice_end prefix back (4 * data_offset_of prefix) (4 * data_offset_of (prefix ++ back)) layer.TcpHeader
    refl (ap (λ (b : ℕ). 4 * (b / 16)) field) tt))

-- The error for a message that must have exactly 20 bytes and is truncated is one for the missing bytes.
exact_row : {E : Type 0} (named : LenError → E) (prefix back : List ℕ) (place : Layer)
    → not (length (prefix ++ back) == 20) ≡ false
    → not (length prefix == 20) ≡ true → BesideAs named prefix back (len_error 20 (length prefix) source.Slice place)
exact_row named prefix back place exact other =
    let complete : length (prefix ++ back) ≡ 20 = grind (arith, common_steps) in
    let below : length prefix < 20 = grind (arith, common_steps, complete, other, length-append prefix back) in
    record {
      missing = len_error 20 (length prefix) source.Slice place;
      is = refl;
      short = record { available = omega arith; needed = below; within = omega (arith, complete) };
      source = refl;
    }

timestamp_beside : {E : Type 0} (named : LenError → E) (prefix back : List ℕ) (of : Option Icmpv4Kind)
    → BesideRows (BesideAs named prefix back)
    (icmpv4_timestamp_rows of (length prefix)) (icmpv4_timestamp_rows of (length (prefix ++ back)))
timestamp_beside named prefix back None = tt
timestamp_beside named prefix back (Some kind.TimestampRequest) =
    λ exact. (exact_row named prefix back layer.Icmpv4Timestamp exact, λ last. tt)
timestamp_beside named prefix back (Some kind.TimestampReply) =
    λ exact. (exact_row named prefix back layer.Icmpv4TimestampReply exact, λ last. tt)
timestamp_beside named prefix back (Some _) = tt

icmpv4_beside : {E : Type 0} (named : LenError → E) (prefix back : List ℕ)
    → BesideRows (BesideAs named prefix back) (icmpv4_rows prefix) (icmpv4_rows (prefix ++ back))
icmpv4_beside named prefix back =
    cut_first named slice_end prefix back 8 layer.Icmpv4 refl (λ present.
    let type = byte_beside prefix back 0 (omega (arith, present)) in
    let code = byte_beside prefix back 1 (omega (arith, present)) in
    let same : icmpv4_kind_at prefix ≡ icmpv4_kind_at (prefix ++ back) = λ i. icmpv4_kind_of (type i) (code i) in
    subst (λ (of : Option Icmpv4Kind). BesideRows (BesideAs named prefix back)
    (icmpv4_timestamp_rows (icmpv4_kind_at prefix)
    (length prefix)) (icmpv4_timestamp_rows of (length (prefix ++ back)))) same
    (timestamp_beside named prefix back (icmpv4_kind_at prefix)))

icmpv6_beside : {E : Type 0} (named : LenError → E) (prefix back : List ℕ)
    → BesideRows (BesideAs named prefix back) (icmpv6_rows prefix) (icmpv6_rows (prefix ++ back))
icmpv6_beside named prefix back = cut_first named slice_end prefix back 8 layer.Icmpv6 refl (λ present. tt)

transport_beside : (reading : Reading) (number : ℕ) (prefix back : List ℕ)
    → BesideRows (Beside prefix back) (transport_rows reading number prefix)
    (transport_rows reading number (prefix ++ back))
transport_beside reading number prefix back =
    let Such = Beside prefix back in
    either_beside Such (number == udp_number) _ _ _ _
    (named_beside Such Len (udp_part_rows reading prefix) (udp_part_rows reading (prefix ++ back))
    (udp_part_beside Len reading prefix back))
    (either_beside Such (number == tcp_number) _ _ _ _ (tcp_beside prefix back)
    (either_beside Such (number == icmpv4_number) _ _ _ _
    (named_beside Such Len (icmpv4_rows prefix) (icmpv4_rows (prefix ++ back)) (icmpv4_beside Len prefix back))
    (either_beside Such (number == icmpv6_number) (rows_as Len (icmpv6_rows prefix)) []
    (rows_as Len (icmpv6_rows (prefix ++ back))) []
    (named_beside Such Len (icmpv6_rows prefix) (icmpv6_rows (prefix ++ back)) (icmpv6_beside Len prefix back)) tt)))

part_beside : (reading : Reading) (number : ℕ) (fragmented : Bool) (prefix back : List ℕ)
    → BesideRows (Beside prefix back) (transport_part_rows reading number fragmented prefix)
    (transport_part_rows reading number fragmented (prefix ++ back))
part_beside reading number true prefix back = tt
part_beside reading number false prefix back = transport_beside reading number prefix back

pub transport_with_trailing_bytes : (reading : Reading) (number : ℕ) (fragmented : Bool)
    → ReportsTruncation (IsTransportPart reading number fragmented) (RefusesTransportPart reading number fragmented) Len
    (λ part. slice_end)
transport_with_trailing_bytes reading number fragmented prefix back fits part is error refused =
    refused_beside (Beside prefix back) (transport_part_rows reading number fragmented prefix)
    (transport_part_rows reading number fragmented (prefix ++ back)) (part_beside reading number fragmented prefix back)
    ((transport_is_read reading number fragmented).is_read (prefix ++ back) part is).0 error refused

-- ---- each layer

pub udp_header_cut : ReportsTruncation IsUdpHeader RefusesUdpHeader (λ (error : LenError). error) (λ read. slice_end)
udp_header_cut prefix back fits read is error refused =
    refused_beside (BesideAs (λ (e : LenError). e) prefix back) (udp_header_rows prefix) (udp_header_rows (prefix ++ back))
    (udp_header_beside (λ (e : LenError). e) prefix back) (udp_header_is_read.is_read (prefix ++ back) read is).0 error
    refused

pub udp_cut : ReportsTruncation IsUdp RefusesUdp (λ (error : LenError). error) (λ datagram. slice_end)
udp_cut prefix back fits datagram is error refused =
    refused_beside (BesideAs (λ (e : LenError). e) prefix back) (udp_rows prefix) (udp_rows (prefix ++ back))
    (udp_beside (λ (e : LenError). e) prefix back) (udp_is_read.is_read (prefix ++ back) datagram is).0 error refused

pub tcp_cut : ReportsTruncation IsTcp RefusesTcp Len (λ segment. slice_end)
tcp_cut prefix back fits segment is error refused =
    refused_beside (Beside prefix back) (tcp_rows prefix) (tcp_rows (prefix ++ back)) (tcp_beside prefix back)
    (tcp_is_read.is_read (prefix ++ back) segment is).0 error refused

pub icmpv4_cut : ReportsTruncation IsIcmpv4 RefusesIcmpv4 (λ (error : LenError). error) (λ message. slice_end)
icmpv4_cut prefix back fits message is error refused =
    refused_beside (BesideAs (λ (e : LenError). e) prefix back) (icmpv4_rows prefix) (icmpv4_rows (prefix ++ back))
    (icmpv4_beside (λ (e : LenError). e) prefix back) (icmpv4_is_read.is_read (prefix ++ back) message is).0 error refused

pub icmpv6_cut : ReportsTruncation IsIcmpv6 RefusesIcmpv6 (λ (error : LenError). error) (λ message. slice_end)
icmpv6_cut prefix back fits message is error refused =
    refused_beside (BesideAs (λ (e : LenError). e) prefix back) (icmpv6_rows prefix) (icmpv6_rows (prefix ++ back))
    (icmpv6_beside (λ (e : LenError). e) prefix back) (icmpv6_is_read.is_read (prefix ++ back) message is).0 error refused
