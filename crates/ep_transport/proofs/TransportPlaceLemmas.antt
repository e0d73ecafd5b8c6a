-- An error of the transport layer names a layer that starts with the IP payload.
use Rattle.std.proofs.Common.{◌≡◌, ℕ, ◌==◌, Bool, true, false, if◌then◌else◌, List, [], length, Option, Some, None, refl}
use Rattle.ep_base.specs.Readings.{Reading, slices, headers}
use Rattle.ep_base.specs.IpNumbers.{icmpv4_number, icmpv6_number, tcp_number, udp_number}
use Rattle.ep_base.specs.Tables.{rows_as}
use Rattle.ep_base.proofs.TableLemmas.{AllErrors, refusal_is}
use Rattle.ep_base.specs.declared.err.tcp.HeaderSliceError.{HeaderSliceError}
use Rattle.ep_base.specs.declared.err.tcp.HeaderSliceError.TheVariants as error
use Rattle.ep_transport.specs.declared.icmpv4.kind.Icmpv4Kind.{Icmpv4Kind}
use Rattle.ep_transport.specs.declared.icmpv4.kind.Icmpv4Kind.TheVariants as kind
use Rattle.ep_transport.specs.Icmpv4.{icmpv4_kind_at, icmpv4_rows, icmpv4_timestamp_rows}
use Rattle.ep_transport.specs.Icmpv6.{icmpv6_rows}
use Rattle.ep_transport.specs.Tcp.{tcp_rows}
use Rattle.ep_transport.specs.TransportParts.{RefusesTransportPart, transport_rows, udp_part_rows}

-- the start of the layer that an error names
abbrev pub transport_start : HeaderSliceError → ℕ
transport_start (error.Len refusal) = refusal.layer_start_offset
transport_start (error.Content refusal) = 0

-- All errors of these rows name a layer that starts at 0.
abbrev AllAtStart : List (Bool × HeaderSliceError) → Type 0
AllAtStart rows = AllErrors (λ (refusal : HeaderSliceError). transport_start refusal ≡ 0) rows

timestamps_at_start : (of : Option Icmpv4Kind) (n : ℕ) → AllAtStart (rows_as error.Len (icmpv4_timestamp_rows of n))
timestamps_at_start None n = tt
timestamps_at_start (Some kind.TimestampRequest) n = (refl, tt)
timestamps_at_start (Some kind.TimestampReply) n = (refl, tt)
timestamps_at_start (Some _) n = tt

-- If the errors of two tables are at the start, so are those of the table that a condition selects.
either_at_start : (condition : Bool) (rows others : List (Bool × HeaderSliceError)) → AllAtStart rows
    → AllAtStart others → AllAtStart (if condition then rows else others)
either_at_start true rows others all also = all
either_at_start false rows others all also = also

udp_at_start : (reading : Reading) (bytes : List ℕ) → AllAtStart (rows_as error.Len (udp_part_rows reading bytes))
udp_at_start slices bytes = (refl, (refl, (refl, tt)))
udp_at_start headers bytes = (refl, tt)

rows_at_start : (reading : Reading) (number : ℕ) (bytes : List ℕ) → AllAtStart (transport_rows reading number bytes)
rows_at_start reading number bytes =
    either_at_start (number == udp_number) (rows_as error.Len (udp_part_rows reading bytes)) _
    (udp_at_start reading bytes)
    (either_at_start (number == tcp_number) (tcp_rows bytes) _ (refl, (refl, (refl, tt)))
    (either_at_start (number == icmpv4_number) (rows_as error.Len (icmpv4_rows bytes)) _
    (refl, timestamps_at_start (icmpv4_kind_at bytes) (length bytes))
    (either_at_start (number == icmpv6_number) (rows_as error.Len (icmpv6_rows bytes)) [] (refl, tt) tt)))

pub at_start : (reading : Reading) (number : ℕ) (fragmented : Bool) (bytes : List ℕ) (refusal : HeaderSliceError)
    → RefusesTransportPart reading number fragmented bytes refusal → transport_start refusal ≡ 0
at_start reading number true bytes refusal refused =
    refusal_is (λ (r : HeaderSliceError). transport_start r ≡ 0) [] tt refusal refused
at_start reading number false bytes refusal refused =
    refusal_is (λ (r : HeaderSliceError). transport_start r ≡ 0) (transport_rows reading number bytes)
    (rows_at_start reading number bytes) refusal refused
