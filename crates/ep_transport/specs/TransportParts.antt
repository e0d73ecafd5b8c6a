-- The transport layer of an IP payload, by its IP number.
use Rattle.std.specs.Prelude.{◌≡◌, ◌≢◌, ◌==◌, ℕ, ◌⊎◌, if◌then◌else◌, Bool, true, false, List, [], ◌++◌, Option, Some, None}
use Rattle.ep_base.specs.IpNumbers.{icmpv4_number, tcp_number, udp_number, icmpv6_number}
use Rattle.ep_base.specs.Readings.{Reading, slices, headers}
use Rattle.ep_base.specs.Tables.{Refuses, parts_of, rows_as}
use Rattle.ep_base.specs.declared.err.tcp.HeaderSliceError.{HeaderSliceError}
use Rattle.ep_base.specs.declared.err.tcp.HeaderSliceError.TheVariants.{Len, Content}
use Rattle.ep_base.specs.declared.err.len_error.LenError.{LenError}
use Rattle.ep_transport.specs.declared.udp_header.UdpHeader.{UdpHeader}
use Rattle.ep_transport.specs.declared.transport_header.TransportHeader.{TransportHeader}
use Rattle.ep_transport.specs.declared.transport_header.TransportHeader.TheVariants as header
use Rattle.ep_transport.specs.declared.transport_slice.TransportSlice.{TransportSlice}
use Rattle.ep_transport.specs.declared.transport_slice.TransportSlice.TheVariants as slice
use Rattle.ep_transport.specs.TransportHeaders.{EncodesTransportHeader}
use Rattle.ep_transport.specs.Udp.{IsOfUdpLength, IsUdp, IsUdpHeader, udp_header_rows, udp_rows}
use Rattle.ep_transport.specs.UdpSlices.{udp_slice_bytes, udp_slice_header, udp_slice_payload}
use Rattle.ep_transport.specs.Tcp.{IsTcp, tcp_rows}
use Rattle.ep_transport.specs.TcpSlices.{tcp_slice_bytes, tcp_slice_header, tcp_slice_payload}
use Rattle.ep_transport.specs.Icmpv4.{IsIcmpv4, icmpv4_rows}
use Rattle.ep_transport.specs.Icmpv4Slices.{icmpv4_slice_bytes, icmpv4_slice_header, icmpv4_slice_payload}
use Rattle.ep_transport.specs.Icmpv6.{IsIcmpv6, icmpv6_rows}
use Rattle.ep_transport.specs.Icmpv6Slices.{icmpv6_slice_bytes, icmpv6_slice_header, icmpv6_slice_payload}

-- a transport layer: its header and its payload
pub record TransportLayer : Type 0 where
  pub header : TransportHeader
  pub payload : List ℕ

-- the transport layer with this header and payload
abbrev pub transport_layer : TransportHeader → List ℕ → TransportLayer
transport_layer header payload = record { header = header; payload = payload }

-- the payload of a transport layer
abbrev pub transport_payload : TransportLayer → List ℕ
transport_payload layer = layer.payload

-- ---- transport layers

-- The bytes are a UDP datagram. In the reading `headers` its length field does not limit the payload.
abbrev pub IsUdpPart : Reading → List ℕ → UdpHeader → List ℕ → Type 0
IsUdpPart slices bytes header payload = (left : List ℕ) × IsUdp bytes (parts_of header payload left)
IsUdpPart headers bytes header payload = IsUdpHeader bytes (header, payload)

-- The bytes of an IP payload with this IP number are this header and payload. In the reading `slices`, trailing bytes
-- may follow a UDP datagram.
abbrev pub IsTransportLayer : Reading → ℕ → List ℕ → TransportHeader → List ℕ → Type 0
IsTransportLayer reading number bytes (header.Udp header) payload =
    (number ≡ udp_number) × IsUdpPart reading bytes header payload
IsTransportLayer reading number bytes (header.Tcp header) payload =
    (number ≡ tcp_number) × IsTcp bytes (parts_of header payload [])
IsTransportLayer reading number bytes (header.Icmpv4 header) payload =
    (number ≡ icmpv4_number) × IsIcmpv4 bytes (parts_of header payload [])
IsTransportLayer reading number bytes (header.Icmpv6 header) payload =
    (number ≡ icmpv6_number) × IsIcmpv6 bytes (parts_of header payload [])

-- The IP number is none of UDP, TCP, ICMP and ICMPv6.
abbrev pub HasNoHeader : ℕ → Type 0
HasNoHeader number =
    (number ≢ udp_number) × (number ≢ tcp_number) × (number ≢ icmpv4_number) × (number ≢ icmpv6_number)

-- The bytes of an IP payload with this IP number have this transport layer, or none. A fragment has no transport layer.
abbrev pub IsTransportPart : Reading → ℕ → Bool → List ℕ → Option TransportLayer → Type 0
IsTransportPart reading number fragmented bytes None = (fragmented ≡ true) ⊎ HasNoHeader number
IsTransportPart reading number fragmented bytes (Some layer) =
    (fragmented ≡ false) × IsTransportLayer reading number bytes layer.header layer.payload

-- The trailing bytes after a layer with this header and payload are `left`. Only the length field of UDP leaves any, in
-- the reading `slices`.
abbrev pub AreTrailingBytesAfter : Reading → List ℕ → TransportHeader → List ℕ → List ℕ → Type 0
AreTrailingBytesAfter slices bytes (header.Udp header) payload left = IsUdp bytes (parts_of header payload left)
AreTrailingBytesAfter headers bytes (header.Udp header) payload left = left ≡ []
AreTrailingBytesAfter reading bytes (header.Tcp header) payload left = left ≡ []
AreTrailingBytesAfter reading bytes (header.Icmpv4 header) payload left = left ≡ []
AreTrailingBytesAfter reading bytes (header.Icmpv6 header) payload left = left ≡ []

-- The trailing bytes after the transport layer are `left`. Without a layer, all bytes are payload.
abbrev pub IsLeftBy : Reading → List ℕ → Option TransportLayer → List ℕ → Type 0
IsLeftBy reading bytes None left = left ≡ []
IsLeftBy reading bytes (Some layer) left = AreTrailingBytesAfter reading bytes layer.header layer.payload left

-- The bytes of an IP payload have this transport layer, or none, and these trailing bytes.
abbrev pub IsTransportWithTrailingBytes : Reading → ℕ → Bool → List ℕ → Option TransportLayer × List ℕ → Type 0
IsTransportWithTrailingBytes reading number fragmented bytes read =
    IsTransportPart reading number fragmented bytes read.0 × IsLeftBy reading bytes read.0 read.1

-- ---- errors

-- the errors of UDP, in the order of the checks
abbrev pub udp_part_rows : Reading → List ℕ → List (Bool × LenError)
udp_part_rows slices bytes = udp_rows bytes
udp_part_rows headers bytes = udp_header_rows bytes

-- the errors for this IP number, in the order of the checks
abbrev pub transport_rows : Reading → ℕ → List ℕ → List (Bool × HeaderSliceError)
transport_rows reading number bytes =
    if number == udp_number then rows_as Len (udp_part_rows reading bytes)
    else if number == tcp_number then tcp_rows bytes
    else if number == icmpv4_number then rows_as Len (icmpv4_rows bytes)
    else if number == icmpv6_number then rows_as Len (icmpv6_rows bytes)
    else []

-- the errors for an IP payload with this IP number, in the order of the checks; none for a fragment
abbrev pub transport_part_rows : Reading → ℕ → Bool → List ℕ → List (Bool × HeaderSliceError)
transport_part_rows reading number fragmented bytes = if fragmented then [] else transport_rows reading number bytes

-- The transport layer of an IP payload is rejected with this error.
abbrev pub RefusesTransportPart : Reading → ℕ → Bool → List ℕ → HeaderSliceError → Type 0
RefusesTransportPart reading number fragmented bytes = Refuses (transport_part_rows reading number fragmented bytes)

-- The error is one of the length field of UDP.
abbrev pub IsUdpLengthError : HeaderSliceError → Type 0
IsUdpLengthError (Len error) = IsOfUdpLength error
IsUdpLengthError (Content error) = ⊥

-- ---- bytes of a transport layer

-- The bytes are the transport header, with any value of reserved bits and unused bytes; they are empty without a layer.
abbrev pub EncodesTransport : Option TransportLayer → List ℕ → Type 0
EncodesTransport None bytes = bytes ≡ []
EncodesTransport (Some layer) bytes = EncodesTransportHeader layer.header bytes

-- the payload of the transport layer, or all bytes if there is none
abbrev pub payload_in : List ℕ → Option TransportLayer → List ℕ
payload_in bytes None = bytes
payload_in bytes (Some layer) = layer.payload

-- The bytes are the transport header, its payload, and any trailing bytes (only the length field of UDP leaves some).
-- Without a layer, they are the payload alone.
pub record AreTransport (bytes : List ℕ) (part : Option TransportLayer) : Type 0 where
  pub header : List ℕ
  pub left : List ℕ
  pub encodes : EncodesTransport part header
  pub parts : bytes ≡ header ++ (payload_in bytes part ++ left)

-- ---- contents of a slice

-- the header and payload of the layer in a slice
abbrev pub transport_layer_of : TransportSlice → TransportLayer
transport_layer_of (slice.Udp datagram) =
    transport_layer (header.Udp (udp_slice_header datagram)) (udp_slice_payload datagram)
transport_layer_of (slice.Tcp segment) =
    transport_layer (header.Tcp (tcp_slice_header segment)) (tcp_slice_payload segment)
transport_layer_of (slice.Icmpv4 message) =
    transport_layer (header.Icmpv4 (icmpv4_slice_header message)) (icmpv4_slice_payload message)
transport_layer_of (slice.Icmpv6 message) =
    transport_layer (header.Icmpv6 (icmpv6_slice_header message)) (icmpv6_slice_payload message)

-- the bytes of the layer in a slice, header and payload
abbrev pub transport_slice_bytes : TransportSlice → List ℕ
transport_slice_bytes (slice.Udp datagram) = udp_slice_bytes datagram
transport_slice_bytes (slice.Tcp segment) = tcp_slice_bytes segment
transport_slice_bytes (slice.Icmpv4 message) = icmpv4_slice_bytes message
transport_slice_bytes (slice.Icmpv6 message) = icmpv6_slice_bytes message
