-- UDP (RFC 768).
use Rattle.std.specs.Prelude.{◌≡◌, ℕ, ◌+◌, ◌<◌, ◌^◌, ◌⊎◌, ◌&&◌, nat_lt, List, [], ◌∷◌, ◌++◌, length, drop, Bool}
use Rattle.std.specs.Int.{w16, to_be_bytes}
use Rattle.ep_base.specs.Bytes.{word_at}
use Rattle.ep_base.specs.LaxCut.{LaxCut, IsLaxCut}
use Rattle.ep_base.specs.Readings.{len_error}
use Rattle.ep_base.specs.Tables.{Refuses, Parts}
use Rattle.ep_base.specs.declared.err.len_error.LenError.{LenError}
use Rattle.ep_base.specs.declared.err.layer.Layer.TheVariants as layer
use Rattle.ep_base.specs.declared.len_source.LenSource.TheVariants as source
use Rattle.ep_transport.specs.declared.udp_header.UdpHeader.{UdpHeader}

-- Each field fits 16 bits.
pub record FitsUdp (header : UdpHeader) : Type 0 where
  pub source_port : header.source_port < 2 ^ 16
  pub destination_port : header.destination_port < 2 ^ 16
  pub length : header.length < 2 ^ 16
  pub checksum : header.checksum < 2 ^ 16

-- the 8 wire bytes of a header
abbrev pub udp_bytes : UdpHeader → List ℕ
udp_bytes header =
    to_be_bytes w16 header.source_port ++ to_be_bytes w16 header.destination_port
    ++ to_be_bytes w16 header.length ++ to_be_bytes w16 header.checksum

-- ---- header

-- The bytes are a header, followed by the rest.
pub record IsUdpHeader (bytes : List ℕ) (read : UdpHeader × List ℕ) : Type 0 where
  pub fits : FitsUdp read.0
  pub parts : bytes ≡ udp_bytes read.0 ++ read.1

-- the error for bytes that do not begin with a header
abbrev pub udp_header_rows : List ℕ → List (Bool × LenError)
udp_header_rows bytes = (nat_lt (length bytes) 8, len_error 8 (length bytes) source.Slice layer.UdpHeader) ∷ []

-- The bytes are rejected as a header with this error.
abbrev pub RefusesUdpHeader : List ℕ → LenError → Type 0
RefusesUdpHeader bytes = Refuses (udp_header_rows bytes)

-- the header read from the first 8 bytes
abbrev pub udp_header_of : List ℕ → UdpHeader
udp_header_of bytes = record {
  source_port = word_at bytes 0;
  destination_port = word_at bytes 2;
  length = word_at bytes 4;
  checksum = word_at bytes 6;
}

-- ---- datagrams

-- The bytes are a datagram and the trailing bytes after the end that its length field sets. If the length field is 0,
-- there are no trailing bytes.
pub record IsUdp (bytes : List ℕ) (datagram : Parts UdpHeader) : Type 0 where
  pub fits : FitsUdp datagram.header
  pub parts : bytes ≡ (udp_bytes datagram.header ++ datagram.payload) ++ datagram.left
  pub cut : (datagram.header.length ≡ 8 + length datagram.payload)
      ⊎ ((datagram.header.length ≡ 0) × (datagram.left ≡ []))

-- the errors for bytes that do not begin with a datagram, in the order of the checks
abbrev pub udp_rows : List ℕ → List (Bool × LenError)
udp_rows bytes =
    let field = word_at bytes 4 in
    udp_header_rows bytes
    ++ (nat_lt 0 field && nat_lt field 8, len_error 8 field source.UdpHeaderLen layer.UdpHeader)
    ∷ (nat_lt (length bytes) field, len_error field (length bytes) source.Slice layer.UdpPayload)
    ∷ []

-- The bytes are rejected as a datagram with this error: that of the first row that holds.
abbrev pub RefusesUdp : List ℕ → LenError → Type 0
RefusesUdp bytes = Refuses (udp_rows bytes)

-- the header and payload read from the bytes of a datagram, with these trailing bytes
abbrev pub udp_parts : List ℕ → List ℕ → Parts UdpHeader
udp_parts bytes left = record { header = udp_header_of bytes; payload = drop 8 bytes; left = left }

-- The error is one of the length field: it is below the header's length, or above the number of bytes.
abbrev pub IsOfUdpLength : LenError → Type 0
IsOfUdpLength error = (error.len_source ≡ source.UdpHeaderLen) ⊎ (error.layer ≡ layer.UdpPayload)

-- ---- datagrams that may be truncated

-- The bytes are a header, a payload that the length field limits if its value allows, and trailing bytes. `outer`
-- states whether the bytes are already known to be incomplete.
pub record IsLaxUdp (outer : Bool) (bytes : List ℕ) (read : UdpHeader × LaxCut) : Type 0 where
  pub rest : List ℕ
  pub header : IsUdpHeader bytes (read.0, rest)
  pub cut : IsLaxCut 8 read.0.length source.UdpHeaderLen outer 8 rest read.1
