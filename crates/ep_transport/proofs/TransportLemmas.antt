-- An IP payload either has exactly one transport layer, or none, or is rejected with exactly one error.
use Rattle.std.proofs.Common.{◌≡◌, ◌==◌, ℕ, Bool, true, false, if◌then◌else◌, List, [], ◌++◌, Option, Some, None, refl, sym, ap, subst, ◌∙◌, inl, inr, append_assoc}
use Rattle.std.proofs.lemmas.Bool.{cases_eq, cond-false, ne_eqb}
use Rattle.std.proofs.lemmas.List.{append-nil}
use Rattle.ep_base.specs.Bytes.{AreBytes}
use Rattle.ep_base.specs.IpNumbers.{icmpv4_number, tcp_number, udp_number, icmpv6_number}
use Rattle.ep_base.specs.Readings.{Reading, slices, headers}
use Rattle.ep_base.specs.Tables.{Parts, parts_of, first_row}
use Rattle.ep_base.specs.declared.err.len_error.LenError.{LenError}
use Rattle.ep_base.specs.declared.err.tcp.HeaderSliceError.TheVariants.{Len}
use Rattle.ep_base.proofs.TableLemmas.{IsReadBy, first_row-as_none, first_row-as_some, first_row-none_as}
use Rattle.ep_transport.specs.declared.udp_header.UdpHeader.{UdpHeader}
use Rattle.ep_transport.specs.declared.tcp_header.TcpHeader.{TcpHeader}
use Rattle.ep_transport.specs.declared.icmpv4_header.Icmpv4Header.{Icmpv4Header}
use Rattle.ep_transport.specs.declared.icmpv6_header.Icmpv6Header.{Icmpv6Header}
use Rattle.ep_transport.specs.declared.transport_header.TransportHeader.{TransportHeader}
use Rattle.ep_transport.specs.declared.transport_header.TransportHeader.TheVariants.{Udp, Tcp, Icmpv4, Icmpv6}
use Rattle.ep_transport.specs.Udp.{udp_bytes}
use Rattle.ep_transport.specs.Tcp.{tcp_parts}
use Rattle.ep_transport.specs.Icmpv4.{icmpv4_parts, icmpv4_rows}
use Rattle.ep_transport.specs.Icmpv6.{icmpv6_parts, icmpv6_rows}
use Rattle.ep_transport.specs.TransportHeaders.{EncodesTransportHeader}
use Rattle.ep_transport.specs.TransportParts.{TransportLayer, transport_layer, HasNoHeader, IsTransportLayer, IsTransportPart, RefusesTransportPart, IsUdpPart, AreTransport, transport_part_rows, transport_rows, udp_part_rows}
use Rattle.ep_transport.proofs.UdpLemmas.{udp_is_read, udp_header_is_read, udp_read, udp_header_read}
use Rattle.ep_transport.proofs.TcpLemmas.{tcp_is_read}
use Rattle.ep_transport.proofs.Icmpv4Lemmas.{icmpv4_is_read}
use Rattle.ep_transport.proofs.Icmpv6Lemmas.{icmpv6_is_read}

-- ---- reading

-- the UDP datagram read from the bytes
abbrev pub udp_part_read : Reading → List ℕ → TransportLayer
udp_part_read slices bytes = let read = udp_read bytes in transport_layer (Udp read.header) read.payload
udp_part_read headers bytes = let read = udp_header_read bytes in transport_layer (Udp read.0) read.1

-- the TCP segment read from the bytes
abbrev pub tcp_part_read : List ℕ → TransportLayer
tcp_part_read bytes = let read = tcp_parts bytes in transport_layer (Tcp read.header) read.payload

-- the ICMP message read from the bytes
abbrev pub icmpv4_part_read : List ℕ → TransportLayer
icmpv4_part_read bytes = let read = icmpv4_parts bytes in transport_layer (Icmpv4 read.header) read.payload

abbrev pub icmpv6_part_read : List ℕ → TransportLayer
icmpv6_part_read bytes = let read = icmpv6_parts bytes in transport_layer (Icmpv6 read.header) read.payload

-- the transport layer read from an IP payload that is no fragment
abbrev pub transport_read : Reading → ℕ → List ℕ → Option TransportLayer
transport_read reading number bytes =
    if number == udp_number then Some (udp_part_read reading bytes)
    else if number == tcp_number then Some (tcp_part_read bytes)
    else if number == icmpv4_number then Some (icmpv4_part_read bytes)
    else if number == icmpv6_number then Some (icmpv6_part_read bytes)
    else None

-- the transport layer read from an IP payload
abbrev pub transport_part_read : Reading → ℕ → Bool → List ℕ → Option TransportLayer
transport_part_read reading number fragmented bytes = if fragmented then None else transport_read reading number bytes

-- ---- IP numbers

-- the cases of an IP number: one with a transport header, or another
data Numbered (n : ℕ) : Type 0 where
  is_udp : n ≡ udp_number → Numbered n
  is_tcp : n ≡ tcp_number → Numbered n
  is_icmpv4 : n ≡ icmpv4_number → Numbered n
  is_icmpv6 : n ≡ icmpv6_number → Numbered n
  is_none : HasNoHeader n → Numbered n

numbered : (n : ℕ) → Numbered n
numbered n = elim (cases_eq n udp_number) [
  | inl same ↦ is_udp same
  | inr not_udp ↦ elim (cases_eq n tcp_number) [
    | inl same ↦ is_tcp same
    | inr not_tcp ↦ elim (cases_eq n icmpv4_number) [
      | inl same ↦ is_icmpv4 same
      | inr not_icmpv4 ↦ elim (cases_eq n icmpv6_number) [
        | inl same ↦ is_icmpv6 same
        | inr not_icmpv6 ↦ is_none (not_udp, not_tcp, not_icmpv4, not_icmpv6)
      ]
    ]
  ]
]

-- An IP number without a transport header has no errors, and nothing is read.
pub no_rows : (reading : Reading) (number : ℕ) (bytes : List ℕ) → HasNoHeader number
    → transport_rows reading number bytes ≡ []
no_rows reading number bytes other =
    cond-false (number == udp_number) _ _ (ne_eqb number udp_number other.0)
    ∙ cond-false (number == tcp_number) _ _ (ne_eqb number tcp_number other.1)
    ∙ cond-false (number == icmpv4_number) _ _ (ne_eqb number icmpv4_number other.2)
    ∙ cond-false (number == icmpv6_number) _ _ (ne_eqb number icmpv6_number other.3)

no_read : (reading : Reading) (number : ℕ) (bytes : List ℕ) → HasNoHeader number
    → transport_read reading number bytes ≡ None
no_read reading number bytes other =
    cond-false (number == udp_number) _ _ (ne_eqb number udp_number other.0)
    ∙ cond-false (number == tcp_number) _ _ (ne_eqb number tcp_number other.1)
    ∙ cond-false (number == icmpv4_number) _ _ (ne_eqb number icmpv4_number other.2)
    ∙ cond-false (number == icmpv6_number) _ _ (ne_eqb number icmpv6_number other.3)

-- ---- bytes that no row rejects are the layer read from them

-- Bytes of this IP number that no row rejects are the layer read from them.
abbrev Reads : Reading → List ℕ → ℕ → Type 0
Reads reading bytes number =
    first_row (transport_rows reading number bytes) ≡ None
    → IsTransportPart reading number false bytes (transport_read reading number bytes)

udp_reads : (reading : Reading) (bytes : List ℕ) → AreBytes bytes → Reads reading bytes udp_number
udp_reads slices bytes fits none = (
  refl,
  (
    refl,
    (
      (udp_read bytes).left,
      udp_is_read.reads bytes fits (first_row-none_as Len (udp_part_rows slices bytes) none),
    ),
  ),
)
udp_reads headers bytes fits none =
    (refl, (refl, udp_header_is_read.reads bytes fits (first_row-none_as Len (udp_part_rows headers bytes) none)))

tcp_reads : (reading : Reading) (bytes : List ℕ) → AreBytes bytes → Reads reading bytes tcp_number
tcp_reads reading bytes fits none = (refl, (refl, tcp_is_read.reads bytes fits none))

icmpv4_reads : (reading : Reading) (bytes : List ℕ) → AreBytes bytes → Reads reading bytes icmpv4_number
icmpv4_reads reading bytes fits none =
    (refl, (refl, icmpv4_is_read.reads bytes fits (first_row-none_as Len (icmpv4_rows bytes) none)))

icmpv6_reads : (reading : Reading) (bytes : List ℕ) → AreBytes bytes → Reads reading bytes icmpv6_number
icmpv6_reads reading bytes fits none =
    (refl, (refl, icmpv6_is_read.reads bytes fits (first_row-none_as Len (icmpv6_rows bytes) none)))

reads : (reading : Reading) (number : ℕ) (fragmented : Bool) (bytes : List ℕ) → AreBytes bytes
    → first_row (transport_part_rows reading number fragmented bytes) ≡ None
    → IsTransportPart reading number fragmented bytes (transport_part_read reading number fragmented bytes)
reads reading number true bytes fits none = inl refl
reads reading number false bytes fits none =
    elim (numbered number) [
      | is_udp same ↦ subst (Reads reading bytes) (sym same) (udp_reads reading bytes fits) none
      | is_tcp same ↦ subst (Reads reading bytes) (sym same) (tcp_reads reading bytes fits) none
      | is_icmpv4 same ↦ subst (Reads reading bytes) (sym same) (icmpv4_reads reading bytes fits) none
      | is_icmpv6 same ↦ subst (Reads reading bytes) (sym same) (icmpv6_reads reading bytes fits) none
      | is_none other ↦
          let P : Option TransportLayer → Type 0 = λ part. IsTransportPart reading number false bytes part in
          subst P (sym (no_read reading number bytes other)) (inr other)
    ]

-- ---- the bytes of a layer are rejected by no row, and are read as that layer

-- The bytes of a layer with this IP number are rejected by no row, and are read as that layer.
abbrev IsReadAt : Reading → List ℕ → TransportLayer → ℕ → Type 0
IsReadAt reading bytes layer number =
    (first_row (transport_rows reading number bytes) ≡ None) × (Some layer ≡ transport_read reading number bytes)

udp_part_is_read : (reading : Reading) (bytes : List ℕ) (header : UdpHeader) (payload : List ℕ)
    → IsUdpPart reading bytes header payload
    → IsReadAt reading bytes (transport_layer (Udp header) payload) udp_number
udp_part_is_read slices bytes header payload is =
    let read = udp_is_read.is_read bytes (parts_of header payload is.0) is.1 in (
      first_row-as_none Len (udp_part_rows slices bytes) read.0,
      ap (λ (datagram : Parts UdpHeader). Some (transport_layer (Udp datagram.header) datagram.payload)) read.1,
    )
udp_part_is_read headers bytes header payload is =
    let read = udp_header_is_read.is_read bytes (header, payload) is in (
      first_row-as_none Len (udp_part_rows headers bytes) read.0,
      ap (λ (prefix : UdpHeader × List ℕ). Some (transport_layer (Udp prefix.0) prefix.1)) read.1,
    )

layer_is_read : (reading : Reading) (number : ℕ) (bytes : List ℕ) (header : TransportHeader) (payload : List ℕ)
    → IsTransportLayer reading number bytes header payload
    → IsReadAt reading bytes (transport_layer header payload) number
layer_is_read reading number bytes (Udp header) payload is =
    subst (IsReadAt reading bytes (transport_layer (Udp header) payload)) (sym is.0)
    (udp_part_is_read reading bytes header payload is.1)
layer_is_read reading number bytes (Tcp header) payload is =
    let read = tcp_is_read.is_read bytes (parts_of header payload []) is.1 in
    let at_tcp : IsReadAt reading bytes (transport_layer (Tcp header) payload) tcp_number = (
      read.0,
      ap (λ (segment : Parts TcpHeader). Some (transport_layer (Tcp segment.header) segment.payload)) read.1,
    ) in
    subst (IsReadAt reading bytes (transport_layer (Tcp header) payload)) (sym is.0) at_tcp
layer_is_read reading number bytes (Icmpv4 header) payload is =
    let read = icmpv4_is_read.is_read bytes (parts_of header payload []) is.1 in
    let at_icmpv4 : IsReadAt reading bytes (transport_layer (Icmpv4 header) payload) icmpv4_number = (
      first_row-as_none Len (icmpv4_rows bytes) read.0,
      ap (λ (message : Parts Icmpv4Header). Some (transport_layer (Icmpv4 message.header) message.payload)) read.1,
    ) in
    subst (IsReadAt reading bytes (transport_layer (Icmpv4 header) payload)) (sym is.0) at_icmpv4
layer_is_read reading number bytes (Icmpv6 header) payload is =
    let read = icmpv6_is_read.is_read bytes (parts_of header payload []) is.1 in
    let at_icmpv6 : IsReadAt reading bytes (transport_layer (Icmpv6 header) payload) icmpv6_number = (
      first_row-as_none Len (icmpv6_rows bytes) read.0,
      ap (λ (message : Parts Icmpv6Header). Some (transport_layer (Icmpv6 message.header) message.payload)) read.1,
    ) in
    subst (IsReadAt reading bytes (transport_layer (Icmpv6 header) payload)) (sym is.0) at_icmpv6

is_read : (reading : Reading) (number : ℕ) (fragmented : Bool) (bytes : List ℕ) (part : Option TransportLayer)
    → IsTransportPart reading number fragmented bytes part
    → (first_row (transport_part_rows reading number fragmented bytes) ≡ None)
    × (part ≡ transport_part_read reading number fragmented bytes)
is_read reading number fragmented bytes None (inl fragment) =
    let P : Bool → Type 0 =
    λ f. (first_row (transport_part_rows reading number f bytes) ≡ None)
    × (None ≡ transport_part_read reading number f bytes) in
    subst P (sym fragment) (refl, refl)
is_read reading number true bytes None (inr other) = (refl, refl)
is_read reading number false bytes None (inr other) =
    (ap first_row (no_rows reading number bytes other), sym (no_read reading number bytes other))
is_read reading number fragmented bytes (Some layer) is =
    let P : Bool → Type 0 =
    λ f. (first_row (transport_part_rows reading number f bytes) ≡ None)
    × (Some layer ≡ transport_part_read reading number f bytes) in
    subst P (sym is.0) (layer_is_read reading number bytes layer.header layer.payload is.1)

pub transport_is_read : (reading : Reading) (number : ℕ) (fragmented : Bool)
    → IsReadBy (IsTransportPart reading number fragmented) (transport_part_rows reading number fragmented)
    (transport_part_read reading number fragmented)
transport_is_read reading number fragmented =
    record { reads = reads reading number fragmented; is_read = is_read reading number fragmented }

-- ---- errors

-- If the bytes are rejected as an ICMP message, an IP payload with that IP number is rejected too.
pub icmpv4_refused : (reading : Reading) (number : ℕ) (fragmented : Bool) (bytes : List ℕ) (error : LenError)
    → fragmented ≡ false → number ≡ icmpv4_number → first_row (icmpv4_rows bytes) ≡ Some error
    → RefusesTransportPart reading number fragmented bytes (Len error)
icmpv4_refused reading number fragmented bytes error complete same refused =
    let P : Bool → ℕ → Type 0 = λ f n. RefusesTransportPart reading n f bytes (Len error) in
    let at_icmpv4 : P false icmpv4_number = first_row-as_some Len (icmpv4_rows bytes) error refused in
    subst (λ f. P f number) (sym complete) (subst (P false) (sym same) at_icmpv4)

-- ---- bytes

-- The bytes are this header, its payload, and trailing bytes.
record AreLayer (bytes : List ℕ) (header : TransportHeader) (payload : List ℕ) : Type 0 where
  encoded : List ℕ
  left : List ℕ
  encodes : EncodesTransportHeader header encoded
  parts : bytes ≡ encoded ++ (payload ++ left)

-- A header and payload without trailing bytes are such bytes.
complete_layer : (bytes encoded payload : List ℕ) (header : TransportHeader) → EncodesTransportHeader header encoded
    → bytes ≡ encoded ++ payload → AreLayer bytes header payload
complete_layer bytes encoded payload header encodes parts = record {
  encoded = encoded;
  left = [];
  encodes = encodes;
  parts = parts ∙ ap (λ (s : List ℕ). encoded ++ s) (sym (append-nil payload));
}

layer_bytes : (reading : Reading) (number : ℕ) (bytes : List ℕ) (header : TransportHeader) (payload : List ℕ)
    → IsTransportLayer reading number bytes header payload → AreLayer bytes header payload
layer_bytes slices number bytes (Udp header) payload is =
    let datagram = is.1.1 in
    record {
      encoded = udp_bytes header;
      left = is.1.0;
      encodes = (datagram.fits, refl);
      parts = datagram.parts ∙ append_assoc (udp_bytes header) payload is.1.0;
    }
layer_bytes headers number bytes (Udp header) payload is =
    complete_layer bytes (udp_bytes header) payload (Udp header) (is.1.fits, refl) is.1.parts
layer_bytes reading number bytes (Tcp header) payload is =
    complete_layer bytes is.1.encoded payload (Tcp header) is.1.encodes is.1.parts
layer_bytes reading number bytes (Icmpv4 header) payload is =
    complete_layer bytes is.1.encoded payload (Icmpv4 header) is.1.encodes is.1.parts
layer_bytes reading number bytes (Icmpv6 header) payload is =
    complete_layer bytes is.1.encoded payload (Icmpv6 header) is.1.encodes is.1.parts

pub transport_bytes_are : (reading : Reading) (number : ℕ) (fragmented : Bool) (bytes : List ℕ)
    (part : Option TransportLayer)
    → IsTransportPart reading number fragmented bytes part → AreTransport bytes part
transport_bytes_are reading number fragmented bytes None is =
    record { header = []; left = []; encodes = refl; parts = sym (append-nil bytes) }
transport_bytes_are reading number fragmented bytes (Some layer) is =
    let are = layer_bytes reading number bytes layer.header layer.payload is.1 in
    record { header = are.encoded; left = are.left; encodes = are.encodes; parts = are.parts }
