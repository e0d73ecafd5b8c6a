-- TCP (RFC 9293, section 3.1; the flag NS: RFC 3540).
use Rattle.std.specs.Prelude.{◌≡◌, ℕ, ◌+◌, ◌-◌, ◌*◌, ◌/◌, ◌%◌, ◌^◌, ◌<◌, ◌≤◌, ◌==◌, Bool, false, nat_lt, List, [], ◌∷◌, ◌++◌, length, take, drop, slice_index}
use Rattle.std.specs.Int.{w16, w32, to_be_bytes}
use Rattle.ep_base.specs.Bytes.{AreBytes, word_at, long_at, bit}
use Rattle.ep_base.specs.Readings.{len_error}
use Rattle.ep_base.specs.Tables.{Refuses, Parts, parts_of}
use Rattle.ep_base.specs.declared.err.layer.Layer.TheVariants as layer
use Rattle.ep_base.specs.declared.len_source.LenSource.TheVariants as source
use Rattle.ep_base.specs.declared.err.tcp.HeaderError.TheVariants.{DataOffsetTooSmall}
use Rattle.ep_base.specs.declared.err.tcp.HeaderSliceError.{HeaderSliceError}
use Rattle.ep_base.specs.declared.err.tcp.HeaderSliceError.TheVariants.{Len, Content}
use Rattle.ep_transport.specs.declared.tcp_header.TcpHeader.{TcpHeader}

-- Each field fits its width on the wire.
pub record FitsTcp (header : TcpHeader) : Type 0 where
  pub source_port : header.source_port < 2 ^ 16
  pub destination_port : header.destination_port < 2 ^ 16
  pub sequence_number : header.sequence_number < 2 ^ 32
  pub acknowledgment_number : header.acknowledgment_number < 2 ^ 32
  pub window_size : header.window_size < 2 ^ 16
  pub checksum : header.checksum < 2 ^ 16
  pub urgent_pointer : header.urgent_pointer < 2 ^ 16
  pub options_len : length header.options ≤ 40
  pub options_words : length header.options % 4 ≡ 0
  pub options : AreBytes header.options

-- the length of a header in bytes
abbrev pub tcp_header_len : TcpHeader → ℕ
tcp_header_len header = 20 + length header.options

-- the data offset: the length of a header in words of 4 bytes
abbrev pub tcp_data_offset : TcpHeader → ℕ
tcp_data_offset header = tcp_header_len header / 4

-- the flags of byte 13
abbrev pub tcp_flags : TcpHeader → ℕ
tcp_flags header =
    2 ^ 7 * bit header.cwr + 2 ^ 6 * bit header.ece + 2 ^ 5 * bit header.urg + 2 ^ 4 * bit header.ack
    + 2 ^ 3 * bit header.psh + 2 ^ 2 * bit header.rst + 2 ^ 1 * bit header.syn + bit header.fin

-- the wire bytes of a header with these three reserved bits; byte 12 is the data offset, these bits and the flag NS
abbrev pub tcp_bytes_with : ℕ → TcpHeader → List ℕ
tcp_bytes_with reserved header =
    to_be_bytes w16 header.source_port ++ to_be_bytes w16 header.destination_port
    ++ to_be_bytes w32 header.sequence_number ++ to_be_bytes w32 header.acknowledgment_number
    ++ (2 ^ 4 * tcp_data_offset header + 2 ^ 1 * reserved + bit header.ns) ∷ tcp_flags header ∷ []
    ++ to_be_bytes w16 header.window_size ++ to_be_bytes w16 header.checksum ++ to_be_bytes w16 header.urgent_pointer
    ++ header.options

-- the wire bytes of a header as written, with the reserved bits 0
abbrev pub tcp_bytes : TcpHeader → List ℕ
tcp_bytes header = tcp_bytes_with 0 header

-- ---- segments

-- The bytes are the header, with any value of the reserved bits.
pub record EncodesTcp (bytes : List ℕ) (header : TcpHeader) : Type 0 where
  pub fits : FitsTcp header
  pub reserved : ℕ
  pub three_bits : reserved < 2 ^ 3
  pub same : bytes ≡ tcp_bytes_with reserved header

-- The bytes are a segment: a header, and its payload up to the end.
pub record IsTcp (bytes : List ℕ) (segment : Parts TcpHeader) : Type 0 where
  pub encoded : List ℕ
  pub encodes : EncodesTcp encoded segment.header
  pub parts : bytes ≡ encoded ++ segment.payload
  pub whole : segment.left ≡ []

-- the data offset, the upper 4 bits of byte 12
abbrev pub data_offset_of : List ℕ → ℕ
data_offset_of bytes = slice_index bytes 12 / 16

-- the errors for bytes that are no segment, in the order of the checks
abbrev pub tcp_rows : List ℕ → List (Bool × HeaderSliceError)
tcp_rows bytes =
    let offset = data_offset_of bytes in
    (nat_lt (length bytes) 20, Len (len_error 20 (length bytes) source.Slice layer.TcpHeader))
    ∷ (nat_lt offset 5, Content (DataOffsetTooSmall offset))
    ∷ (nat_lt (length bytes) (4 * offset), Len (len_error (4 * offset) (length bytes) source.Slice layer.TcpHeader))
    ∷ []

-- The bytes are rejected as a segment with this error: that of the first row that holds.
abbrev pub RefusesTcp : List ℕ → HeaderSliceError → Type 0
RefusesTcp bytes = Refuses (tcp_rows bytes)

-- ---- reading

-- the flag in bit `i` of byte 13
abbrev pub flag_at : List ℕ → ℕ → Bool
flag_at bytes i = slice_index bytes 13 / 2 ^ i % 2 == 1

-- the header read from the start of the bytes
abbrev pub tcp_header_of : List ℕ → TcpHeader
tcp_header_of bytes = record {
  source_port = word_at bytes 0;
  destination_port = word_at bytes 2;
  sequence_number = long_at bytes 4;
  acknowledgment_number = long_at bytes 8;
  ns = slice_index bytes 12 % 2 == 1;
  fin = flag_at bytes 0;
  syn = flag_at bytes 1;
  rst = flag_at bytes 2;
  psh = flag_at bytes 3;
  ack = flag_at bytes 4;
  urg = flag_at bytes 5;
  ece = flag_at bytes 6;
  cwr = flag_at bytes 7;
  window_size = word_at bytes 14;
  checksum = word_at bytes 16;
  urgent_pointer = word_at bytes 18;
  options = take (4 * data_offset_of bytes - 20) (drop 20 bytes);
}

-- the header and payload read from the bytes of a segment
abbrev pub tcp_parts : List ℕ → Parts TcpHeader
tcp_parts bytes = parts_of (tcp_header_of bytes) (drop (4 * data_offset_of bytes) bytes) []

-- ---- values

-- the default header: all fields are 0, false or empty
abbrev pub default_tcp_header : TcpHeader
default_tcp_header = record {
  source_port = 0;
  destination_port = 0;
  sequence_number = 0;
  acknowledgment_number = 0;
  ns = false;
  fin = false;
  syn = false;
  rst = false;
  psh = false;
  ack = false;
  urg = false;
  ece = false;
  cwr = false;
  window_size = 0;
  checksum = 0;
  urgent_pointer = 0;
  options = [];
}
