-- Fragment header of IPv6 (RFC 8200, 4.5).
use Rattle.std.specs.Prelude.{◌≡◌, ℕ, ◌+◌, ◌*◌, ◌/◌, ◌%◌, ◌^◌, ◌<◌, ◌==◌, ◌||◌, nat_lt, Bool, List, [], ◌∷◌, ◌++◌, length, slice_index, slice_range}
use Rattle.std.specs.Int.{w16, w32, to_be_bytes, from_be_bytes}
use Rattle.ep_base.specs.Bytes.{word_at, bit}
use Rattle.ep_base.specs.Readings.{len_error}
use Rattle.ep_base.specs.Tables.{Refuses}
use Rattle.ep_base.specs.declared.len_source.LenSource.TheVariants as source
use Rattle.ep_base.specs.declared.err.layer.Layer.TheVariants as layer
use Rattle.ep_base.specs.declared.err.len_error.LenError.{LenError}
use Rattle.ep_ext.specs.declared.ipv6_fragment_header.Ipv6FragmentHeader.{Ipv6FragmentHeader}

-- ---- wire format

-- The wire format of a header with this reserved byte and these two reserved bits. Bytes 2 and 3 are the fragment
-- offset, the reserved bits and the M flag (more fragments).
abbrev pub fragment_header_bytes_with : ℕ → ℕ → Ipv6FragmentHeader → List ℕ
fragment_header_bytes_with reserved_byte reserved_bits header =
    header.next_header.0 ∷ reserved_byte ∷ []
    ++ to_be_bytes w16 (2 ^ 3 * header.fragment_offset + 2 * reserved_bits + bit header.more_fragments)
    ++ to_be_bytes w32 header.identification

-- The wire format of a header, with reserved bits 0.
abbrev pub fragment_header_bytes : Ipv6FragmentHeader → List ℕ
fragment_header_bytes header = fragment_header_bytes_with 0 0 header

-- ---- valid headers

-- Each field fits its width on the wire.
pub record FitsFragmentHeader (header : Ipv6FragmentHeader) : Type 0 where
  pub next_header : header.next_header.0 < 2 ^ 8
  pub fragment_offset : header.fragment_offset < 2 ^ 13
  pub identification : header.identification < 2 ^ 32

-- The bytes are the wire format of the header, with any reserved bits.
pub record EncodesFragmentHeader (bytes : List ℕ) (header : Ipv6FragmentHeader) : Type 0 where
  pub fits : FitsFragmentHeader header
  pub reserved_byte : ℕ
  pub byte : reserved_byte < 2 ^ 8
  pub reserved_bits : ℕ
  pub bits : reserved_bits < 2 ^ 2
  pub same : bytes ≡ fragment_header_bytes_with reserved_byte reserved_bits header

-- The bytes are a header, followed by the rest.
pub record IsFragmentHeader (bytes : List ℕ) (read : Ipv6FragmentHeader × List ℕ) : Type 0 where
  pub encoded : List ℕ
  pub encodes : EncodesFragmentHeader encoded read.0
  pub parts : bytes ≡ encoded ++ read.1

-- True if a packet with this header carries a fragment: more fragments follow, or the fragment offset is above 0.
abbrev pub is_ipv6_fragment : Ipv6FragmentHeader → Bool
is_ipv6_fragment header = header.more_fragments || nat_lt 0 header.fragment_offset

-- ---- parsing

-- Refusal table of a fragment header.
abbrev pub fragment_header_rows : List ℕ → List (Bool × LenError)
fragment_header_rows bytes =
    (nat_lt (length bytes) 8, len_error 8 (length bytes) source.Slice layer.Ipv6FragHeader)
    ∷ []

-- The bytes do not begin with a fragment header, for this reason.
abbrev pub RefusesFragmentHeader : List ℕ → LenError → Type 0
RefusesFragmentHeader bytes error = Refuses (fragment_header_rows bytes) error

-- The header at the start of the bytes.
abbrev pub fragment_header_of : List ℕ → Ipv6FragmentHeader
fragment_header_of bytes = record {
  next_header = record { 0 = slice_index bytes 0 };
  fragment_offset = word_at bytes 2 / 8;
  more_fragments = slice_index bytes 3 % 2 == 1;
  identification = from_be_bytes w32 (slice_range bytes 4 8);
}
