-- Extension header of IPv6 with an uninterpreted payload: Hop-by-Hop Options, Destination Options and Routing headers
-- (RFC 8200, 4.3, 4.4 and 4.6).
use Rattle.std.specs.Prelude.{◌≡◌, ℕ, ◌+◌, ◌-◌, ◌*◌, ◌/◌, ◌%◌, ◌^◌, ◌<◌, ◌≤◌, nat_lt, Bool, List, [], ◌∷◌, ◌++◌, length, drop, slice_index}
use Rattle.ep_base.specs.Bytes.{AreBytes}
use Rattle.ep_base.specs.Readings.{len_error}
use Rattle.ep_base.specs.Tables.{Refuses}
use Rattle.ep_base.specs.declared.ip_number.IpNumber.{IpNumber}
use Rattle.ep_base.specs.declared.len_source.LenSource.TheVariants as source
use Rattle.ep_base.specs.declared.err.layer.Layer.TheVariants as layer
use Rattle.ep_base.specs.declared.err.len_error.LenError.{LenError}
use Rattle.ep_ext.specs.declared.err.ipv6_exts.ext_payload_len_error.ExtPayloadLenError.{ExtPayloadLenError}
use Rattle.ep_ext.specs.declared.err.ipv6_exts.ext_payload_len_error.ExtPayloadLenError.TheVariants as payload_error
use Rattle.ep_ext.specs.declared.ipv6_raw_ext_header.Ipv6RawExtHeader.{Ipv6RawExtHeader}

-- ---- wire format

-- The header with this next header field and this payload.
abbrev pub raw_extension_with : IpNumber → List ℕ → Ipv6RawExtHeader
raw_extension_with next_header payload = record { next_header = next_header; payload = payload }

-- The payload of a header.
abbrev pub raw_extension_payload : Ipv6RawExtHeader → List ℕ
raw_extension_payload header = header.payload

-- The length of a header in bytes.
abbrev pub raw_extension_len : Ipv6RawExtHeader → ℕ
raw_extension_len header = 2 + length (raw_extension_payload header)

-- The wire format of a header. Byte 1 is the length of the header in units of 8 bytes, not counting the first unit.
abbrev pub raw_extension_bytes : Ipv6RawExtHeader → List ℕ
raw_extension_bytes header =
    header.next_header.0 ∷ (raw_extension_len header / 8 - 1) ∷ raw_extension_payload header

-- ---- valid headers

-- Each field fits its width on the wire, and the header is in units of 8 bytes that the length field can count.
pub record FitsRawExtension (header : Ipv6RawExtHeader) : Type 0 where
  pub next_header : header.next_header.0 < 2 ^ 8
  pub payload_least : 6 ≤ length (raw_extension_payload header)
  pub payload_len : length (raw_extension_payload header) ≤ 2046
  pub payload_units : (length (raw_extension_payload header) + 2) % 8 ≡ 0
  pub payload : AreBytes (raw_extension_payload header)

-- The bytes are a header, followed by the rest.
pub record IsRawExtension (bytes : List ℕ) (read : Ipv6RawExtHeader × List ℕ) : Type 0 where
  pub fits : FitsRawExtension read.0
  pub parts : bytes ≡ raw_extension_bytes read.0 ++ read.1

-- ---- parsing

-- The length of the header in bytes that the length field (byte 1) states.
abbrev pub raw_extension_len_of : List ℕ → ℕ
raw_extension_len_of bytes = 8 * (slice_index bytes 1 + 1)

-- Refusal table of an options or routing header.
abbrev pub raw_extension_rows : List ℕ → List (Bool × LenError)
raw_extension_rows bytes =
    (nat_lt (length bytes) 8, len_error 8 (length bytes) source.Slice layer.Ipv6ExtHeader)
    ∷ (
      nat_lt (length bytes) (raw_extension_len_of bytes),
      len_error (raw_extension_len_of bytes) (length bytes) source.Slice layer.Ipv6ExtHeader,
    )
    ∷ []

-- The bytes do not begin with an options or routing header, for this reason.
abbrev pub RefusesRawExtension : List ℕ → LenError → Type 0
RefusesRawExtension bytes error = Refuses (raw_extension_rows bytes) error

-- The header that consists of all of the bytes.
abbrev pub raw_extension_of : List ℕ → Ipv6RawExtHeader
raw_extension_of bytes = raw_extension_with (record { 0 = slice_index bytes 0 }) (drop 2 bytes)

-- ---- invalid payloads

-- Refusal table of a payload of `len` bytes.
abbrev pub raw_payload_rows : ℕ → List (Bool × ExtPayloadLenError)
raw_payload_rows len =
    (nat_lt len 6, payload_error.TooSmall len)
    ∷ (nat_lt 2046 len, payload_error.TooBig len)
    ∷ (nat_lt 0 ((len + 2) % 8), payload_error.Unaligned len)
    ∷ []

-- The bytes are not a payload, for this reason.
abbrev pub RefusesRawPayload : List ℕ → ExtPayloadLenError → Type 0
RefusesRawPayload payload error = Refuses (raw_payload_rows (length payload)) error
