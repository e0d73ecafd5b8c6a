-- Authentication header of IP (RFC 4302, 2).
use Rattle.std.specs.Prelude.{◌≡◌, ℕ, ◌+◌, ◌-◌, ◌*◌, ◌/◌, ◌%◌, ◌^◌, ◌<◌, ◌≤◌, ◌==◌, nat_lt, Bool, List, [], ◌∷◌, ◌++◌, length, drop, slice_index, slice_range}
use Rattle.std.specs.Int.{w16, w32, to_be_bytes, from_be_bytes}
use Rattle.ep_base.specs.Bytes.{AreBytes}
use Rattle.ep_base.specs.Readings.{len_error}
use Rattle.ep_base.specs.Tables.{Refuses}
use Rattle.ep_base.specs.declared.ip_number.IpNumber.{IpNumber}
use Rattle.ep_base.specs.declared.len_source.LenSource.TheVariants as source
use Rattle.ep_base.specs.declared.err.layer.Layer.TheVariants as layer
use Rattle.ep_base.specs.declared.err.ip_auth.HeaderError.TheVariants as content
use Rattle.ep_base.specs.declared.err.ip_auth.HeaderSliceError.{HeaderSliceError}
use Rattle.ep_base.specs.declared.err.ip_auth.HeaderSliceError.TheVariants as header_error
use Rattle.ep_ext.specs.declared.err.ip_auth.icv_len_error.IcvLenError.{IcvLenError}
use Rattle.ep_ext.specs.declared.err.ip_auth.icv_len_error.IcvLenError.TheVariants as icv_error
use Rattle.ep_ext.specs.declared.ip_auth_header.IpAuthHeader.{IpAuthHeader}

-- ---- wire format

-- The header with these fields and this integrity check value.
abbrev pub ip_auth_with : IpNumber → ℕ → ℕ → List ℕ → IpAuthHeader
ip_auth_with next_header spi sequence_number icv =
    record { next_header = next_header; spi = spi; sequence_number = sequence_number; icv = icv }

-- The integrity check value of a header.
abbrev pub ip_auth_icv : IpAuthHeader → List ℕ
ip_auth_icv header = header.icv

-- The length of a header in bytes.
abbrev pub ip_auth_len : IpAuthHeader → ℕ
ip_auth_len header = 12 + length (ip_auth_icv header)

-- The wire format of a header with these two reserved bytes. Byte 1 is the length of the header in 4-byte words, minus
-- 2.
abbrev pub ip_auth_bytes_with : ℕ → IpAuthHeader → List ℕ
ip_auth_bytes_with reserved header =
    header.next_header.0 ∷ (ip_auth_len header / 4 - 2) ∷ [] ++ to_be_bytes w16 reserved
    ++ to_be_bytes w32 header.spi ++ to_be_bytes w32 header.sequence_number ++ ip_auth_icv header

-- The wire format of a header, with reserved bytes 0.
abbrev pub ip_auth_bytes : IpAuthHeader → List ℕ
ip_auth_bytes header = ip_auth_bytes_with 0 header

-- ---- valid headers

-- Each field fits its width on the wire, and the integrity check value is in 4-byte words that the length field can
-- count.
pub record FitsIpAuth (header : IpAuthHeader) : Type 0 where
  pub next_header : header.next_header.0 < 2 ^ 8
  pub spi : header.spi < 2 ^ 32
  pub sequence_number : header.sequence_number < 2 ^ 32
  pub icv_len : length (ip_auth_icv header) ≤ 1016
  pub icv_words : length (ip_auth_icv header) % 4 ≡ 0
  pub icv : AreBytes (ip_auth_icv header)

-- The bytes are the wire format of the header, with any reserved bytes.
pub record EncodesIpAuth (bytes : List ℕ) (header : IpAuthHeader) : Type 0 where
  pub fits : FitsIpAuth header
  pub reserved : ℕ
  pub bits : reserved < 2 ^ 16
  pub same : bytes ≡ ip_auth_bytes_with reserved header

-- The bytes are a header, followed by the rest.
pub record IsIpAuth (bytes : List ℕ) (read : IpAuthHeader × List ℕ) : Type 0 where
  pub encoded : List ℕ
  pub encodes : EncodesIpAuth encoded read.0
  pub parts : bytes ≡ encoded ++ read.1

-- ---- parsing

-- The length of the header in bytes that the length field (byte 1) states.
abbrev pub ip_auth_len_of : List ℕ → ℕ
ip_auth_len_of bytes = 4 * (slice_index bytes 1 + 2)

-- Refusal table of an authentication header.
abbrev pub ip_auth_rows : List ℕ → List (Bool × HeaderSliceError)
ip_auth_rows bytes =
    (nat_lt (length bytes) 12, header_error.Len (len_error 12 (length bytes) source.Slice layer.IpAuthHeader))
    ∷ (slice_index bytes 1 == 0, header_error.Content content.ZeroPayloadLen)
    ∷ (
      nat_lt (length bytes) (ip_auth_len_of bytes),
      header_error.Len (len_error (ip_auth_len_of bytes) (length bytes) source.Slice layer.IpAuthHeader),
    )
    ∷ []

-- The bytes do not begin with an authentication header, for this reason.
abbrev pub RefusesIpAuth : List ℕ → HeaderSliceError → Type 0
RefusesIpAuth bytes error = Refuses (ip_auth_rows bytes) error

-- The header that consists of all of the bytes.
abbrev pub ip_auth_of : List ℕ → IpAuthHeader
ip_auth_of bytes = ip_auth_with
    (record { 0 = slice_index bytes 0 })
    (from_be_bytes w32 (slice_range bytes 4 8))
    (from_be_bytes w32 (slice_range bytes 8 12))
    (drop 12 bytes)

-- ---- invalid integrity check values

-- Refusal table of an integrity check value of `len` bytes.
abbrev pub icv_rows : ℕ → List (Bool × IcvLenError)
icv_rows len =
    (nat_lt 1016 len, icv_error.TooBig len)
    ∷ (nat_lt 0 (len % 4), icv_error.Unaligned len)
    ∷ []

-- The bytes are not an integrity check value, for this reason.
abbrev pub RefusesIcv : List ℕ → IcvLenError → Type 0
RefusesIcv icv error = Refuses (icv_rows (length icv)) error
