-- ICMP (RFC 792; the codes of type 3: RFC 1122, 3.2.2.1, RFC 1812, 5.2.7.1; its MTU: RFC 1191, 4).
use Rattle.std.specs.Prelude.{◌≡◌, ℕ, ◌<◌, ◌^◌, ◌⊎◌, ◌==◌, ⊤, Bool, not, nat_lt, if◌then◌else◌, Option, Some, None, List, [], ◌∷◌, ◌++◌, length, take, drop, slice_index, slice_range}
use Rattle.std.specs.Int.{w16, w32, to_be_bytes}
use Rattle.ep_base.specs.Bytes.{AreBytes, long_at, word_at}
use Rattle.ep_base.specs.Readings.{len_error}
use Rattle.ep_base.specs.Tables.{Refuses, Parts, parts_of}
use Rattle.ep_base.specs.declared.err.len_error.LenError.{LenError}
use Rattle.ep_base.specs.declared.err.layer.Layer.TheVariants as layer
use Rattle.ep_base.specs.declared.len_source.LenSource.TheVariants as source
use Rattle.ep_transport.specs.declared.icmpv4.kind.Icmpv4Kind.{Icmpv4Kind}
use Rattle.ep_transport.specs.declared.icmpv4.kind.Icmpv4Kind.TheVariants as kind
use Rattle.ep_transport.specs.declared.icmpv4.time_exceeded_code.TimeExceededCode.{TimeExceededCode}
use Rattle.ep_transport.specs.declared.icmpv4.time_exceeded_code.TimeExceededCode.TheVariants as exceeded
use Rattle.ep_transport.specs.declared.icmpv4.timestamp_message.TimestampMessage.{TimestampMessage}
use Rattle.ep_transport.specs.declared.icmpv4_type.Icmpv4Type.{Icmpv4Type}
use Rattle.ep_transport.specs.declared.icmpv4_type.Icmpv4Type.TheVariants as message
use Rattle.ep_transport.specs.declared.icmpv4_header.Icmpv4Header.{Icmpv4Header}
use Rattle.ep_transport.specs.Icmp.{kind_in, FitsEcho, echo_bytes, echo_of}

-- ---- table of kinds

-- the type of a kind of message, and its maximum code
abbrev pub icmpv4_row : Icmpv4Kind → ℕ × ℕ
icmpv4_row kind.EchoReply = (0, 0)
icmpv4_row kind.DestinationUnreachable = (3, 15)
icmpv4_row kind.Redirect = (5, 3)
icmpv4_row kind.EchoRequest = (8, 0)
icmpv4_row kind.TimeExceeded = (11, 1)
icmpv4_row kind.ParameterProblem = (12, 2)
icmpv4_row kind.TimestampRequest = (13, 0)
icmpv4_row kind.TimestampReply = (14, 0)

-- all kinds of messages that are decoded
abbrev pub icmpv4_kinds : List Icmpv4Kind
icmpv4_kinds =
    kind.EchoReply ∷ kind.DestinationUnreachable ∷ kind.Redirect ∷ kind.EchoRequest ∷ kind.TimeExceeded
    ∷ kind.ParameterProblem ∷ kind.TimestampRequest ∷ kind.TimestampReply ∷ []

-- the kind of message with this type and code, or `None` if it is not decoded
abbrev pub icmpv4_kind_of : ℕ → ℕ → Option Icmpv4Kind
icmpv4_kind_of type code = kind_in icmpv4_row icmpv4_kinds type code

-- the length of the header of a kind of message in bytes
abbrev pub icmpv4_len : Option Icmpv4Kind → ℕ
icmpv4_len (Some kind.TimestampRequest) = 20
icmpv4_len (Some kind.TimestampReply) = 20
icmpv4_len _ = 8

-- ---- values of each kind

-- the number of a time exceeded code
abbrev pub icmpv4_exceeded_u8 : TimeExceededCode → ℕ
icmpv4_exceeded_u8 exceeded.TtlExceededInTransit = 0
icmpv4_exceeded_u8 exceeded.FragmentReassemblyTimeExceeded = 1

-- the time exceeded code with this number, which is 0 or 1
abbrev pub icmpv4_exceeded_of : ℕ → TimeExceededCode
icmpv4_exceeded_of code =
    if code == 0 then exceeded.TtlExceededInTransit else exceeded.FragmentReassemblyTimeExceeded

-- the kind of a message; `None` for `Unknown`
abbrev pub icmpv4_kind : Icmpv4Type → Option Icmpv4Kind
icmpv4_kind (message.Unknown type code bytes5to8) = None
icmpv4_kind (message.EchoReply echo) = Some kind.EchoReply
icmpv4_kind (message.DestinationUnreachable code next_hop_mtu) = Some kind.DestinationUnreachable
icmpv4_kind (message.Redirect code gateway) = Some kind.Redirect
icmpv4_kind (message.EchoRequest echo) = Some kind.EchoRequest
icmpv4_kind (message.TimeExceeded code) = Some kind.TimeExceeded
icmpv4_kind (message.ParameterProblem code pointer) = Some kind.ParameterProblem
icmpv4_kind (message.TimestampRequest times) = Some kind.TimestampRequest
icmpv4_kind (message.TimestampReply times) = Some kind.TimestampReply

-- the type of a message, byte 0
abbrev pub icmpv4_type_u8 : Icmpv4Type → ℕ
icmpv4_type_u8 (message.Unknown type code bytes5to8) = type
icmpv4_type_u8 (message.EchoReply echo) = (icmpv4_row kind.EchoReply).0
icmpv4_type_u8 (message.DestinationUnreachable code next_hop_mtu) = (icmpv4_row kind.DestinationUnreachable).0
icmpv4_type_u8 (message.Redirect code gateway) = (icmpv4_row kind.Redirect).0
icmpv4_type_u8 (message.EchoRequest echo) = (icmpv4_row kind.EchoRequest).0
icmpv4_type_u8 (message.TimeExceeded code) = (icmpv4_row kind.TimeExceeded).0
icmpv4_type_u8 (message.ParameterProblem code pointer) = (icmpv4_row kind.ParameterProblem).0
icmpv4_type_u8 (message.TimestampRequest times) = (icmpv4_row kind.TimestampRequest).0
icmpv4_type_u8 (message.TimestampReply times) = (icmpv4_row kind.TimestampReply).0

-- the code of a message, byte 1
abbrev pub icmpv4_code_u8 : Icmpv4Type → ℕ
icmpv4_code_u8 (message.Unknown type code bytes5to8) = code
icmpv4_code_u8 (message.EchoReply echo) = 0
icmpv4_code_u8 (message.DestinationUnreachable code next_hop_mtu) = code
icmpv4_code_u8 (message.Redirect code gateway) = code
icmpv4_code_u8 (message.EchoRequest echo) = 0
icmpv4_code_u8 (message.TimeExceeded code) = icmpv4_exceeded_u8 code
icmpv4_code_u8 (message.ParameterProblem code pointer) = code
icmpv4_code_u8 (message.TimestampRequest times) = 0
icmpv4_code_u8 (message.TimestampReply times) = 0

-- ---- bytes of a header

-- bytes 4 to 19 of a timestamp message
abbrev pub timestamp_bytes : TimestampMessage → List ℕ
timestamp_bytes times =
    to_be_bytes w16 times.id ++ to_be_bytes w16 times.seq ++ to_be_bytes w32 times.originate_timestamp
    ++ to_be_bytes w32 times.receive_timestamp ++ to_be_bytes w32 times.transmit_timestamp

-- the header from byte 4 on, with the bytes `unused` in the positions that the type does not use
abbrev pub icmpv4_rest_with : List ℕ → Icmpv4Type → List ℕ
icmpv4_rest_with unused (message.Unknown type code bytes5to8) = bytes5to8
icmpv4_rest_with unused (message.EchoReply echo) = echo_bytes echo
icmpv4_rest_with unused (message.DestinationUnreachable code next_hop_mtu) =
    if code == 4 then take 2 unused ++ to_be_bytes w16 next_hop_mtu else unused
icmpv4_rest_with unused (message.Redirect code gateway) = gateway
icmpv4_rest_with unused (message.EchoRequest echo) = echo_bytes echo
icmpv4_rest_with unused (message.TimeExceeded code) = unused
icmpv4_rest_with unused (message.ParameterProblem code pointer) =
    if code == 0 then pointer ∷ drop 1 unused else unused
icmpv4_rest_with unused (message.TimestampRequest times) = timestamp_bytes times
icmpv4_rest_with unused (message.TimestampReply times) = timestamp_bytes times

-- the wire bytes of a header, with the bytes `unused` in the positions that the type does not use
abbrev pub icmpv4_bytes_with : List ℕ → Icmpv4Header → List ℕ
icmpv4_bytes_with unused header =
    icmpv4_type_u8 header.icmp_type ∷ icmpv4_code_u8 header.icmp_type
    ∷ (to_be_bytes w16 header.checksum ++ icmpv4_rest_with unused header.icmp_type)

-- the wire bytes of a header as written, with unused bytes 0
abbrev pub icmpv4_bytes : Icmpv4Header → List ℕ
icmpv4_bytes header = icmpv4_bytes_with (0 ∷ 0 ∷ 0 ∷ 0 ∷ []) header

-- the bytes of a message with the checksum field set to 0
abbrev pub icmpv4_message : Icmpv4Header → List ℕ → List ℕ
icmpv4_message header payload = icmpv4_bytes (record header { checksum = 0 }) ++ payload

-- ---- messages

-- Each field of a timestamp message fits its width: identifier and sequence number 16 bits, timestamps 32 bits.
pub record FitsTimestamp (times : TimestampMessage) : Type 0 where
  pub id : times.id < 2 ^ 16
  pub seq : times.seq < 2 ^ 16
  pub originate_timestamp : times.originate_timestamp < 2 ^ 32
  pub receive_timestamp : times.receive_timestamp < 2 ^ 32
  pub transmit_timestamp : times.transmit_timestamp < 2 ^ 32

-- Each field of the message but the code fits its width, and an MTU or pointer that is not written is 0. The code is
-- checked only for `Unknown`; `FitsIcmpv4` limits the others.
abbrev pub FitsIcmpv4Fields : Icmpv4Type → Type 0
FitsIcmpv4Fields (message.Unknown type code bytes5to8) =
    (type < 256) × (code < 256) × (length bytes5to8 ≡ 4) × AreBytes bytes5to8
FitsIcmpv4Fields (message.EchoReply echo) = FitsEcho echo
FitsIcmpv4Fields (message.DestinationUnreachable code next_hop_mtu) =
    (next_hop_mtu < 2 ^ 16) × ((code ≡ 4) ⊎ (next_hop_mtu ≡ 0))
FitsIcmpv4Fields (message.Redirect code gateway) = (length gateway ≡ 4) × AreBytes gateway
FitsIcmpv4Fields (message.EchoRequest echo) = FitsEcho echo
FitsIcmpv4Fields (message.TimeExceeded code) = ⊤
FitsIcmpv4Fields (message.ParameterProblem code pointer) = (pointer < 256) × ((code ≡ 0) ⊎ (pointer ≡ 0))
FitsIcmpv4Fields (message.TimestampRequest times) = FitsTimestamp times
FitsIcmpv4Fields (message.TimestampReply times) = FitsTimestamp times

-- Parsing can return this header: its fields fit, and its type and code belong to its kind. `Unknown` has a type and
-- code that are not in the table.
pub record FitsIcmpv4 (header : Icmpv4Header) : Type 0 where
  pub checksum : header.checksum < 2 ^ 16
  pub fields : FitsIcmpv4Fields header.icmp_type
  pub kind : icmpv4_kind_of (icmpv4_type_u8 header.icmp_type) (icmpv4_code_u8 header.icmp_type)
      ≡ icmpv4_kind header.icmp_type

-- The bytes are the header, with any value of the bytes that its type does not use.
pub record EncodesIcmpv4 (bytes : List ℕ) (header : Icmpv4Header) : Type 0 where
  pub fits : FitsIcmpv4 header
  pub unused : List ℕ
  pub four : length unused ≡ 4
  pub same : bytes ≡ icmpv4_bytes_with unused header

-- A timestamp message, whose header has 20 bytes, has no payload.
abbrev pub EndsIcmpv4 : Icmpv4Type → List ℕ → Type 0
EndsIcmpv4 type payload = icmpv4_len (icmpv4_kind type) ≡ 20 → payload ≡ []

-- The bytes are a message: a header, and its payload up to the end.
pub record IsIcmpv4 (bytes : List ℕ) (read : Parts Icmpv4Header) : Type 0 where
  pub encoded : List ℕ
  pub encodes : EncodesIcmpv4 encoded read.header
  pub parts : bytes ≡ encoded ++ read.payload
  pub ends : EndsIcmpv4 read.header.icmp_type read.payload
  pub whole : read.left ≡ []

-- the kind of message by the type and code in its bytes
abbrev pub icmpv4_kind_at : List ℕ → Option Icmpv4Kind
icmpv4_kind_at bytes = icmpv4_kind_of (slice_index bytes 0) (slice_index bytes 1)

-- the error for a timestamp message of `n` bytes, which must have exactly 20
abbrev pub icmpv4_timestamp_rows : Option Icmpv4Kind → ℕ → List (Bool × LenError)
icmpv4_timestamp_rows (Some kind.TimestampRequest) n =
    (not (n == 20), len_error 20 n source.Slice layer.Icmpv4Timestamp) ∷ []
icmpv4_timestamp_rows (Some kind.TimestampReply) n =
    (not (n == 20), len_error 20 n source.Slice layer.Icmpv4TimestampReply) ∷ []
icmpv4_timestamp_rows _ n = []

-- the errors for bytes that are no message, in the order of the checks
abbrev pub icmpv4_rows : List ℕ → List (Bool × LenError)
icmpv4_rows bytes =
    (nat_lt (length bytes) 8, len_error 8 (length bytes) source.Slice layer.Icmpv4)
    ∷ icmpv4_timestamp_rows (icmpv4_kind_at bytes) (length bytes)

-- The bytes are rejected as a message with this error: that of the first row that holds.
abbrev pub RefusesIcmpv4 : List ℕ → LenError → Type 0
RefusesIcmpv4 bytes = Refuses (icmpv4_rows bytes)

-- ---- reading

-- the identifier, sequence number and timestamps read from the bytes of a timestamp message (RFC 792)
abbrev pub timestamp_of : List ℕ → TimestampMessage
timestamp_of bytes = record {
  id = word_at bytes 4;
  seq = word_at bytes 6;
  originate_timestamp = long_at bytes 8;
  receive_timestamp = long_at bytes 12;
  transmit_timestamp = long_at bytes 16;
}

-- the type, code and fields read from the bytes of a message of this kind
abbrev pub icmpv4_value_of : Option Icmpv4Kind → List ℕ → Icmpv4Type
icmpv4_value_of None bytes = message.Unknown (slice_index bytes 0) (slice_index bytes 1) (slice_range bytes 4 8)
icmpv4_value_of (Some kind.EchoReply) bytes = message.EchoReply (echo_of bytes)
icmpv4_value_of (Some kind.DestinationUnreachable) bytes =
    let code = slice_index bytes 1 in
    message.DestinationUnreachable code (if code == 4 then word_at bytes 6 else 0)
icmpv4_value_of (Some kind.Redirect) bytes = message.Redirect (slice_index bytes 1) (slice_range bytes 4 8)
icmpv4_value_of (Some kind.EchoRequest) bytes = message.EchoRequest (echo_of bytes)
icmpv4_value_of (Some kind.TimeExceeded) bytes = message.TimeExceeded (icmpv4_exceeded_of (slice_index bytes 1))
icmpv4_value_of (Some kind.ParameterProblem) bytes =
    let code = slice_index bytes 1 in
    message.ParameterProblem code (if code == 0 then slice_index bytes 4 else 0)
icmpv4_value_of (Some kind.TimestampRequest) bytes = message.TimestampRequest (timestamp_of bytes)
icmpv4_value_of (Some kind.TimestampReply) bytes = message.TimestampReply (timestamp_of bytes)

-- the header read from the start of the bytes
abbrev pub icmpv4_header_of : List ℕ → Icmpv4Header
icmpv4_header_of bytes = record {
  icmp_type = icmpv4_value_of (icmpv4_kind_at bytes) bytes;
  checksum = word_at bytes 2;
}

-- the header and payload read from the bytes of a message
abbrev pub icmpv4_parts : List ℕ → Parts Icmpv4Header
icmpv4_parts bytes = parts_of (icmpv4_header_of bytes) (drop (icmpv4_len (icmpv4_kind_at bytes)) bytes) []
