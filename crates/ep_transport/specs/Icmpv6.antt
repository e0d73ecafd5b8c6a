-- ICMPv6 (RFC 4443).
use Rattle.std.specs.Prelude.{◌≡◌, ℕ, ◌+◌, ◌<◌, ◌^◌, ◌==◌, ⊤, Bool, nat_lt, if◌then◌else◌, Option, Some, None, List, [], ◌∷◌, ◌++◌, length, drop, slice_index, slice_range}
use Rattle.std.specs.Int.{w16, w32, to_be_bytes}
use Rattle.ep_base.specs.Bytes.{AreBytes, long_at, word_at}
use Rattle.ep_base.specs.Checksum.{checksum_of}
use Rattle.ep_base.specs.IpNumbers.{icmpv6_number}
use Rattle.ep_base.specs.Readings.{len_error}
use Rattle.ep_base.specs.Tables.{Refuses, Parts, parts_of}
use Rattle.ep_base.specs.declared.err.len_error.LenError.{LenError}
use Rattle.ep_base.specs.declared.err.layer.Layer.TheVariants as layer
use Rattle.ep_base.specs.declared.len_source.LenSource.TheVariants as source
use Rattle.ep_transport.specs.declared.icmpv6.kind.Icmpv6Kind.{Icmpv6Kind}
use Rattle.ep_transport.specs.declared.icmpv6.kind.Icmpv6Kind.TheVariants as kind
use Rattle.ep_transport.specs.declared.icmpv6.time_exceeded_code.TimeExceededCode.{TimeExceededCode}
use Rattle.ep_transport.specs.declared.icmpv6.time_exceeded_code.TimeExceededCode.TheVariants as exceeded
use Rattle.ep_transport.specs.declared.icmpv6_type.Icmpv6Type.{Icmpv6Type}
use Rattle.ep_transport.specs.declared.icmpv6_type.Icmpv6Type.TheVariants as message
use Rattle.ep_transport.specs.declared.icmpv6_header.Icmpv6Header.{Icmpv6Header}
use Rattle.ep_transport.specs.Icmp.{kind_in, FitsEcho, echo_bytes, echo_of}
use Rattle.ep_transport.specs.PseudoHeaders.{pseudo_header_ipv6}

-- ---- table of kinds

-- the type of a kind of message, and its maximum code
abbrev pub icmpv6_row : Icmpv6Kind → ℕ × ℕ
icmpv6_row kind.DestinationUnreachable = (1, 6)
icmpv6_row kind.PacketTooBig = (2, 0)
icmpv6_row kind.TimeExceeded = (3, 1)
icmpv6_row kind.ParameterProblem = (4, 2)
icmpv6_row kind.EchoRequest = (128, 0)
icmpv6_row kind.EchoReply = (129, 0)

-- all kinds of messages that are decoded
abbrev pub icmpv6_kinds : List Icmpv6Kind
icmpv6_kinds =
    kind.DestinationUnreachable ∷ kind.PacketTooBig ∷ kind.TimeExceeded ∷ kind.ParameterProblem ∷ kind.EchoRequest
    ∷ kind.EchoReply ∷ []

-- the kind of message with this type and code, or `None` if it is not decoded
abbrev pub icmpv6_kind_of : ℕ → ℕ → Option Icmpv6Kind
icmpv6_kind_of type code = kind_in icmpv6_row icmpv6_kinds type code

-- ---- values of each kind

-- the number of a time exceeded code
abbrev pub icmpv6_exceeded_u8 : TimeExceededCode → ℕ
icmpv6_exceeded_u8 exceeded.HopLimitExceeded = 0
icmpv6_exceeded_u8 exceeded.FragmentReassemblyTimeExceeded = 1

-- the time exceeded code with this number, which is 0 or 1
abbrev pub icmpv6_exceeded_of : ℕ → TimeExceededCode
icmpv6_exceeded_of code = if code == 0 then exceeded.HopLimitExceeded else exceeded.FragmentReassemblyTimeExceeded

-- the kind of a message; `None` for `Unknown`
abbrev pub icmpv6_kind : Icmpv6Type → Option Icmpv6Kind
icmpv6_kind (message.Unknown type code bytes5to8) = None
icmpv6_kind (message.DestinationUnreachable code) = Some kind.DestinationUnreachable
icmpv6_kind (message.PacketTooBig mtu) = Some kind.PacketTooBig
icmpv6_kind (message.TimeExceeded code) = Some kind.TimeExceeded
icmpv6_kind (message.ParameterProblem code pointer) = Some kind.ParameterProblem
icmpv6_kind (message.EchoRequest echo) = Some kind.EchoRequest
icmpv6_kind (message.EchoReply echo) = Some kind.EchoReply

-- the type of a message, byte 0
abbrev pub icmpv6_type_u8 : Icmpv6Type → ℕ
icmpv6_type_u8 (message.Unknown type code bytes5to8) = type
icmpv6_type_u8 (message.DestinationUnreachable code) = (icmpv6_row kind.DestinationUnreachable).0
icmpv6_type_u8 (message.PacketTooBig mtu) = (icmpv6_row kind.PacketTooBig).0
icmpv6_type_u8 (message.TimeExceeded code) = (icmpv6_row kind.TimeExceeded).0
icmpv6_type_u8 (message.ParameterProblem code pointer) = (icmpv6_row kind.ParameterProblem).0
icmpv6_type_u8 (message.EchoRequest echo) = (icmpv6_row kind.EchoRequest).0
icmpv6_type_u8 (message.EchoReply echo) = (icmpv6_row kind.EchoReply).0

-- the code of a message, byte 1
abbrev pub icmpv6_code_u8 : Icmpv6Type → ℕ
icmpv6_code_u8 (message.Unknown type code bytes5to8) = code
icmpv6_code_u8 (message.DestinationUnreachable code) = code
icmpv6_code_u8 (message.PacketTooBig mtu) = 0
icmpv6_code_u8 (message.TimeExceeded code) = icmpv6_exceeded_u8 code
icmpv6_code_u8 (message.ParameterProblem code pointer) = code
icmpv6_code_u8 (message.EchoRequest echo) = 0
icmpv6_code_u8 (message.EchoReply echo) = 0

-- ---- bytes of a header

-- bytes 4 to 7 of the header, with the bytes `unused` in the positions that the type does not use
abbrev pub icmpv6_rest_with : List ℕ → Icmpv6Type → List ℕ
icmpv6_rest_with unused (message.Unknown type code bytes5to8) = bytes5to8
icmpv6_rest_with unused (message.DestinationUnreachable code) = unused
icmpv6_rest_with unused (message.PacketTooBig mtu) = to_be_bytes w32 mtu
icmpv6_rest_with unused (message.TimeExceeded code) = unused
icmpv6_rest_with unused (message.ParameterProblem code pointer) = to_be_bytes w32 pointer
icmpv6_rest_with unused (message.EchoRequest echo) = echo_bytes echo
icmpv6_rest_with unused (message.EchoReply echo) = echo_bytes echo

-- the wire bytes of a header, with the bytes `unused` in the positions that the type does not use
abbrev pub icmpv6_bytes_with : List ℕ → Icmpv6Header → List ℕ
icmpv6_bytes_with unused header =
    icmpv6_type_u8 header.icmp_type ∷ icmpv6_code_u8 header.icmp_type
    ∷ (to_be_bytes w16 header.checksum ++ icmpv6_rest_with unused header.icmp_type)

-- the wire bytes of a header as written, with unused bytes 0
abbrev pub icmpv6_bytes : Icmpv6Header → List ℕ
icmpv6_bytes header = icmpv6_bytes_with (0 ∷ 0 ∷ 0 ∷ 0 ∷ []) header

-- the bytes of a message with the checksum field set to 0
abbrev pub icmpv6_message : Icmpv6Header → List ℕ → List ℕ
icmpv6_message header payload = icmpv6_bytes (record header { checksum = 0 }) ++ payload

-- the checksum of a message between these addresses
abbrev pub icmpv6_checksum : List ℕ → List ℕ → Icmpv6Header → List ℕ → ℕ
icmpv6_checksum source destination header payload =
    checksum_of (pseudo_header_ipv6 source destination icmpv6_number (8 + length payload)
    ++ icmpv6_message header payload)

-- ---- messages

-- Each field of the message but the code fits its width. The code is checked only for `Unknown`; `FitsIcmpv6` limits
-- the others.
abbrev pub FitsIcmpv6Fields : Icmpv6Type → Type 0
FitsIcmpv6Fields (message.Unknown type code bytes5to8) =
    (type < 256) × (code < 256) × (length bytes5to8 ≡ 4) × AreBytes bytes5to8
FitsIcmpv6Fields (message.DestinationUnreachable code) = ⊤
FitsIcmpv6Fields (message.PacketTooBig mtu) = mtu < 2 ^ 32
FitsIcmpv6Fields (message.TimeExceeded code) = ⊤
FitsIcmpv6Fields (message.ParameterProblem code pointer) = pointer < 2 ^ 32
FitsIcmpv6Fields (message.EchoRequest echo) = FitsEcho echo
FitsIcmpv6Fields (message.EchoReply echo) = FitsEcho echo

-- Parsing can return this header: its fields fit, and its type and code belong to its kind. `Unknown` has a type and
-- code that are not in the table.
pub record FitsIcmpv6 (header : Icmpv6Header) : Type 0 where
  pub checksum : header.checksum < 2 ^ 16
  pub fields : FitsIcmpv6Fields header.icmp_type
  pub kind : icmpv6_kind_of (icmpv6_type_u8 header.icmp_type) (icmpv6_code_u8 header.icmp_type)
      ≡ icmpv6_kind header.icmp_type

-- The bytes are the header, with any value of the bytes that its type does not use.
pub record EncodesIcmpv6 (bytes : List ℕ) (header : Icmpv6Header) : Type 0 where
  pub fits : FitsIcmpv6 header
  pub unused : List ℕ
  pub four : length unused ≡ 4
  pub same : bytes ≡ icmpv6_bytes_with unused header

-- The bytes are a message: a header, and its payload up to the end.
pub record IsIcmpv6 (bytes : List ℕ) (read : Parts Icmpv6Header) : Type 0 where
  pub encoded : List ℕ
  pub encodes : EncodesIcmpv6 encoded read.header
  pub parts : bytes ≡ encoded ++ read.payload
  pub whole : read.left ≡ []

-- the error for bytes that are no message
abbrev pub icmpv6_rows : List ℕ → List (Bool × LenError)
icmpv6_rows bytes = (nat_lt (length bytes) 8, len_error 8 (length bytes) source.Slice layer.Icmpv6) ∷ []

-- The bytes are rejected as a message with this error.
abbrev pub RefusesIcmpv6 : List ℕ → LenError → Type 0
RefusesIcmpv6 bytes = Refuses (icmpv6_rows bytes)

-- ---- reading

-- the kind of message by the type and code in its bytes
abbrev pub icmpv6_kind_at : List ℕ → Option Icmpv6Kind
icmpv6_kind_at bytes = icmpv6_kind_of (slice_index bytes 0) (slice_index bytes 1)

-- the type, code and fields read from the bytes of a message of this kind
abbrev pub icmpv6_value_of : Option Icmpv6Kind → List ℕ → Icmpv6Type
icmpv6_value_of None bytes = message.Unknown (slice_index bytes 0) (slice_index bytes 1) (slice_range bytes 4 8)
icmpv6_value_of (Some kind.DestinationUnreachable) bytes = message.DestinationUnreachable (slice_index bytes 1)
icmpv6_value_of (Some kind.PacketTooBig) bytes = message.PacketTooBig (long_at bytes 4)
icmpv6_value_of (Some kind.TimeExceeded) bytes = message.TimeExceeded (icmpv6_exceeded_of (slice_index bytes 1))
icmpv6_value_of (Some kind.ParameterProblem) bytes =
    message.ParameterProblem (slice_index bytes 1) (long_at bytes 4)
icmpv6_value_of (Some kind.EchoRequest) bytes = message.EchoRequest (echo_of bytes)
icmpv6_value_of (Some kind.EchoReply) bytes = message.EchoReply (echo_of bytes)

-- the header read from the start of the bytes
abbrev pub icmpv6_header_of : List ℕ → Icmpv6Header
icmpv6_header_of bytes = record {
  icmp_type = icmpv6_value_of (icmpv6_kind_at bytes) bytes;
  checksum = word_at bytes 2;
}

-- the header and payload read from the bytes of a message
abbrev pub icmpv6_parts : List ℕ → Parts Icmpv6Header
icmpv6_parts bytes = parts_of (icmpv6_header_of bytes) (drop 8 bytes) []
