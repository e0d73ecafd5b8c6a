-- The transport layer in the readings `headers` and `slices`, and its trailing bytes.
use Rattle.std.proofs.Common.{◌≡◌, ◌⊎◌, ℕ, ◌==◌, Bool, true, false, if◌then◌else◌, List, [], ◌∷◌, ◌++◌, Option, Some, None, refl, sym, ap, ◌∙◌, inl, inr}
use Rattle.std.proofs.lemmas.Option.{none-some}
use Rattle.std.specs.Prelude.{◌&&◌, nat_lt, length}
use Rattle.ep_base.specs.Bytes.{AreBytes, word_at}
use Rattle.ep_base.specs.Readings.{Reading, slices, headers, len_error}
use Rattle.ep_base.specs.IpNumbers.{icmpv4_number, icmpv6_number, tcp_number, udp_number}
use Rattle.ep_base.specs.Tables.{IsDecided, Parts, first_row, parts_of, rows_as}
use Rattle.ep_base.proofs.DecidedLemmas.{decided_as, decided_by, decided_then, same_image}
use Rattle.ep_base.proofs.MissingLemmas.{first_row-either}
use Rattle.ep_base.proofs.TableLemmas.{AllErrors, decided, first_row-append_some, refusal_is}
use Rattle.ep_base.specs.declared.err.layer.Layer.TheVariants as layer
use Rattle.ep_base.specs.declared.len_source.LenSource.TheVariants as source
use Rattle.ep_base.specs.declared.err.tcp.HeaderSliceError.{HeaderSliceError}
use Rattle.ep_base.specs.declared.err.tcp.HeaderSliceError.TheVariants.{Len}
use Rattle.ep_transport.specs.declared.udp_header.UdpHeader.{UdpHeader}
use Rattle.ep_transport.specs.declared.transport_header.TransportHeader.{TransportHeader}
use Rattle.ep_transport.specs.declared.transport_header.TransportHeader.TheVariants.{Udp, Tcp, Icmpv4, Icmpv6}
use Rattle.ep_transport.specs.Icmpv4.{icmpv4_rows}
use Rattle.ep_transport.specs.Icmpv6.{icmpv6_rows}
use Rattle.ep_transport.specs.Tcp.{tcp_rows}
use Rattle.ep_transport.specs.Udp.{IsUdp, udp_header_rows}
use Rattle.ep_transport.specs.TransportParts.{TransportLayer, HasNoHeader, AreTrailingBytesAfter, IsLeftBy, IsTransportWithTrailingBytes, IsTransportLayer, IsTransportPart, IsUdpLengthError, RefusesTransportPart}
use Rattle.ep_transport.proofs.TransportLemmas.{no_rows, transport_is_read}
use Rattle.ep_transport.proofs.UdpLemmas.{udp_is_read}

-- ---- errors

-- the errors for IP numbers other than UDP, equal in both readings
abbrev other_rows : ℕ → List ℕ → List (Bool × HeaderSliceError)
other_rows number bytes =
    if number == tcp_number then tcp_rows bytes
    else if number == icmpv4_number then rows_as Len (icmpv4_rows bytes)
    else if number == icmpv6_number then rows_as Len (icmpv6_rows bytes)
    else []

-- the errors of the length field of UDP
abbrev udp_length_rows : List ℕ → List (Bool × HeaderSliceError)
udp_length_rows bytes =
    let field = word_at bytes 4 in
    (nat_lt 0 field && nat_lt field 8, Len (len_error 8 field source.UdpHeaderLen layer.UdpHeader))
    ∷ (nat_lt (length bytes) field, Len (len_error field (length bytes) source.Slice layer.UdpPayload))
    ∷ []

all_of_udp_length : (bytes : List ℕ) → AllErrors IsUdpLengthError (udp_length_rows bytes)
all_of_udp_length bytes = (inl refl, (inr refl, tt))

-- If the first of two tables is extended by more rows, it still rejects with the same error.
longer : (condition : Bool) (prefix back others : List (Bool × HeaderSliceError)) (error : HeaderSliceError)
    → first_row (if condition then prefix else others) ≡ Some error
    → first_row (if condition then prefix ++ back else others) ≡ Some error
longer true prefix back others error refused = first_row-append_some prefix back error refused
longer false prefix back others error refused = refused

-- If only the extended table rejects, one of the added rows does.
shorter : (condition : Bool) (prefix back others : List (Bool × HeaderSliceError)) (error : HeaderSliceError)
    → first_row (if condition then prefix ++ back else others) ≡ Some error
    → (first_row (if condition then prefix else others) ≡ Some error) ⊎ (first_row back ≡ Some error)
shorter true prefix back others error refused = first_row-either prefix back error refused
shorter false prefix back others error refused = inl refused

-- Bytes rejected in the reading `headers` are rejected in `slices`.
pub refused_in_slices : (number : ℕ) (fragmented : Bool) (bytes : List ℕ) (error : HeaderSliceError)
    → RefusesTransportPart headers number fragmented bytes error
    → RefusesTransportPart slices number fragmented bytes error
refused_in_slices number true bytes error refused = refused
refused_in_slices number false bytes error refused =
    longer (number == udp_number) (rows_as Len (udp_header_rows bytes)) (udp_length_rows bytes)
    (other_rows number bytes) error refused

-- Bytes rejected only in the reading `slices` are rejected for the length field of UDP.
pub refused_in_slices_alone : (number : ℕ) (fragmented : Bool) (bytes : List ℕ) (error : HeaderSliceError)
    → RefusesTransportPart slices number fragmented bytes error
    → RefusesTransportPart headers number fragmented bytes error ⊎ IsUdpLengthError error
refused_in_slices_alone number true bytes error refused = inl refused
refused_in_slices_alone number false bytes error refused =
    elim (shorter (number == udp_number) (rows_as Len (udp_header_rows bytes)) (udp_length_rows bytes)
    (other_rows number bytes) error refused) [
      | inl also ↦ inl also
      | inr alone ↦ inr (refusal_is IsUdpLengthError (udp_length_rows bytes) (all_of_udp_length bytes) error alone)
    ]

-- Bytes of an IP number without a transport header are not rejected.
pub no_header_not_refused : (reading : Reading) (number : ℕ) (fragmented : Bool) (bytes : List ℕ)
    (error : HeaderSliceError) → HasNoHeader number → RefusesTransportPart reading number fragmented bytes error → ⊥
no_header_not_refused reading number true bytes error other refused = none-some error refused
no_header_not_refused reading number false bytes error other refused =
    none-some error (sym (ap first_row (no_rows reading number bytes other)) ∙ refused)

-- ---- trailing bytes

nothing_left : IsDecided (λ (left : List ℕ). left ≡ []) (λ (error : HeaderSliceError). ⊥)
nothing_left = decided_by [] refl (λ other none. none) (λ error never. never)

udp_left : (bytes : List ℕ) → AreBytes bytes → (header : UdpHeader) (payload left : List ℕ)
    → IsUdp bytes (parts_of header payload left)
    → IsDecided (λ (other : List ℕ). IsUdp bytes (parts_of header payload other)) (λ (error : HeaderSliceError). ⊥)
udp_left bytes fits header payload left is =
    decided_by left is
    (λ other other_is. ap (λ (datagram : Parts UdpHeader). datagram.left)
    ((decided udp_is_read bytes fits).one_value (parts_of header payload other) (parts_of header payload left)
    other_is is))
    (λ error never. never)

left_after : (reading : Reading) (number : ℕ) (bytes : List ℕ) → AreBytes bytes → (header : TransportHeader)
    (payload : List ℕ) → IsTransportLayer reading number bytes header payload
    → IsDecided (AreTrailingBytesAfter reading bytes header payload) (λ (error : HeaderSliceError). ⊥)
left_after slices number bytes fits (Udp header) payload is = udp_left bytes fits header payload is.1.0 is.1.1
left_after headers number bytes fits (Udp header) payload is = nothing_left
left_after reading number bytes fits (Tcp header) payload is = nothing_left
left_after reading number bytes fits (Icmpv4 header) payload is = nothing_left
left_after reading number bytes fits (Icmpv6 header) payload is = nothing_left

left_by : (reading : Reading) (number : ℕ) (fragmented : Bool) (bytes : List ℕ) → AreBytes bytes
    → (part : Option TransportLayer) → IsTransportPart reading number fragmented bytes part
    → IsDecided (IsLeftBy reading bytes part) (λ (error : HeaderSliceError). ⊥)
left_by reading number fragmented bytes fits None is = nothing_left
left_by reading number fragmented bytes fits (Some layer) is =
    left_after reading number bytes fits layer.header layer.payload is.1

-- Bytes either have exactly one transport layer, or none, with exactly one list of trailing bytes, or are rejected.
pub cut_decided : (reading : Reading) (number : ℕ) (fragmented : Bool) (bytes : List ℕ) → AreBytes bytes
    → IsDecided (IsTransportWithTrailingBytes reading number fragmented bytes)
    (RefusesTransportPart reading number fragmented bytes)
cut_decided reading number fragmented bytes fits =
    decided_as (λ (read : Option TransportLayer × List ℕ). read) (λ (error : HeaderSliceError). error)
    (decided_then (decided (transport_is_read reading number fragmented) bytes fits)
    (left_by reading number fragmented bytes fits))
    (same_image (λ read is. is) (λ read is. is))
    (record {
      present = λ error refused. elim refused [ inl part ↦ part | inr left ↦ absurd left.2 ];
      back = λ error refused. (error, inl refused, refl);
    })
