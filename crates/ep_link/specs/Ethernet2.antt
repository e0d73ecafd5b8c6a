-- Ethernet II (IEEE 802.3, clause 3).
use Rattle.std.specs.Prelude.{◌≡◌, ℕ, ◌<◌, ◌^◌, Bool, nat_lt, List, [], ◌∷◌, ◌++◌, length, drop, slice_range}
use Rattle.std.specs.Int.{w16, to_be_bytes}
use Rattle.ep_base.specs.Bytes.{AreBytes, word_at}
use Rattle.ep_base.specs.Readings.{len_error}
use Rattle.ep_base.specs.Tables.{Parts, Refuses, parts_of}
use Rattle.ep_base.specs.declared.err.len_error.LenError.{LenError}
use Rattle.ep_base.specs.declared.err.layer.Layer.TheVariants as layer
use Rattle.ep_base.specs.declared.len_source.LenSource.TheVariants as source
use Rattle.ep_link.specs.declared.link.ethernet2_header.Ethernet2Header.{Ethernet2Header}

-- The addresses have 6 bytes each, and the ether type has 16 bits.
pub record FitsEthernet2 (header : Ethernet2Header) : Type 0 where
  pub source_length : length header.source ≡ 6
  pub source_bytes : AreBytes header.source
  pub destination_length : length header.destination ≡ 6
  pub destination_bytes : AreBytes header.destination
  pub ether_type : header.ether_type.0 < 2 ^ 16

-- The length of a header in bytes.
abbrev pub ethernet2_header_len : ℕ
ethernet2_header_len = 14

-- The wire bytes of a header.
abbrev pub ethernet2_bytes : Ethernet2Header → List ℕ
ethernet2_bytes header = header.destination ++ header.source ++ to_be_bytes w16 header.ether_type.0

-- The bytes are a header and its payload, without trailing bytes.
pub record IsEthernet2 (bytes : List ℕ) (frame : Parts Ethernet2Header) : Type 0 where
  pub fits : FitsEthernet2 frame.header
  pub parts : bytes ≡ (ethernet2_bytes frame.header ++ frame.payload) ++ frame.left
  pub cut : frame.left ≡ []

-- The refusal table of Ethernet II frames.
abbrev pub ethernet2_rows : List ℕ → List (Bool × LenError)
ethernet2_rows bytes =
    (nat_lt (length bytes) 14, len_error 14 (length bytes) source.Slice layer.Ethernet2Header) ∷ []

-- The bytes are rejected with the error of the row if it holds.
abbrev pub RefusesEthernet2 : List ℕ → LenError → Type 0
RefusesEthernet2 bytes = Refuses (ethernet2_rows bytes)

-- The header at the start of at least 14 bytes.
abbrev pub ethernet2_header_of : List ℕ → Ethernet2Header
ethernet2_header_of bytes = record {
  source = slice_range bytes 6 12;
  destination = slice_range bytes 0 6;
  ether_type = record { 0 = word_at bytes 12 };
}

-- The frame that the bytes are, and the bytes after it.
abbrev pub ethernet2_parts : List ℕ → List ℕ → Parts Ethernet2Header
ethernet2_parts bytes left = parts_of (ethernet2_header_of bytes) (drop 14 bytes) left
