-- IPv4 (RFC 791, section 3.1).
use Rattle.std.specs.Prelude.{◌≡◌, ℕ, ◌+◌, ◌-◌, ◌*◌, ◌/◌, ◌%◌, ◌^◌, ◌<◌, ◌≤◌}
use Rattle.std.specs.Prelude.{Bool, true, false, ◌==◌, nat_lt, not, ◌||◌}
use Rattle.std.specs.Prelude.{List, [], ◌∷◌, ◌++◌, length, take, drop, slice_index}
use Rattle.std.specs.Int.{w16, to_be_bytes}
use Rattle.ep_base.specs.Bytes.{AreBytes, word_at, bit}
use Rattle.ep_base.specs.Checksum.{checksum_of}
use Rattle.ep_base.specs.Readings.{len_error}
use Rattle.ep_base.specs.Tables.{Parts, Refuses, rows_as}
use Rattle.ep_base.specs.declared.err.layer.Layer.TheVariants as layer
use Rattle.ep_base.specs.declared.len_source.LenSource.TheVariants as source
use Rattle.ep_base.specs.declared.err.ipv4.HeaderError.TheVariants as content
use Rattle.ep_base.specs.declared.err.ipv4.HeaderSliceError.{HeaderSliceError}
use Rattle.ep_base.specs.declared.err.ipv4.HeaderSliceError.TheVariants as header_error
use Rattle.ep_base.specs.declared.err.ipv4.SliceError.{SliceError}
use Rattle.ep_base.specs.declared.err.ipv4.SliceError.TheVariants as slice_error
use Rattle.ep_base.specs.declared.ip_number.IpNumber.{IpNumber}
use Rattle.ep_ip.specs.declared.ipv4_header.Ipv4Header.{Ipv4Header}
use Rattle.ep_ip.specs.Ip.{version_of}

-- Each field fits its width on the wire.
pub record FitsIpv4 (header : Ipv4Header) : Type 0 where
  pub dscp : header.dscp < 2 ^ 6
  pub ecn : header.ecn < 2 ^ 2
  pub total_len : header.total_len < 2 ^ 16
  pub identification : header.identification < 2 ^ 16
  pub fragment_offset : header.fragment_offset < 2 ^ 13
  pub time_to_live : header.time_to_live < 2 ^ 8
  pub protocol : header.protocol.0 < 2 ^ 8
  pub header_checksum : header.header_checksum < 2 ^ 16
  pub source_len : length header.source ≡ 4
  pub source : AreBytes header.source
  pub destination_len : length header.destination ≡ 4
  pub destination : AreBytes header.destination
  pub options_len : length header.options ≤ 40
  pub options_words : length header.options % 4 ≡ 0
  pub options : AreBytes header.options

-- the length of a header in bytes
abbrev pub ipv4_header_len : Ipv4Header → ℕ
ipv4_header_len header = 20 + length header.options

-- bytes 6 and 7 as a 16-bit number: the reserved flag, Don't Fragment, More Fragments, and the fragment offset
abbrev pub ipv4_flags_with : ℕ → Ipv4Header → ℕ
ipv4_flags_with reserved header =
    2 ^ 15 * reserved + 2 ^ 14 * bit header.dont_fragment + 2 ^ 13 * bit header.more_fragments + header.fragment_offset

-- the wire bytes of a header with this reserved flag; the first byte is the version and the header length (IHL) in
-- words of 4 bytes
abbrev pub ipv4_bytes_with : ℕ → Ipv4Header → List ℕ
ipv4_bytes_with reserved header =
    (2 ^ 4 * 4 + ipv4_header_len header / 4) ∷ (2 ^ 2 * header.dscp + header.ecn) ∷ []
    ++ to_be_bytes w16 header.total_len ++ to_be_bytes w16 header.identification
    ++ to_be_bytes w16 (ipv4_flags_with reserved header)
    ++ header.time_to_live ∷ header.protocol.0 ∷ [] ++ to_be_bytes w16 header.header_checksum
    ++ header.source ++ header.destination ++ header.options

-- the wire bytes of a header as written, with the reserved flag 0
abbrev pub ipv4_bytes : Ipv4Header → List ℕ
ipv4_bytes header = ipv4_bytes_with 0 header

-- the header checksum: the Internet checksum of the header's bytes with the checksum field set to 0
abbrev pub ipv4_checksum : Ipv4Header → ℕ
ipv4_checksum header = checksum_of (ipv4_bytes (record header { header_checksum = 0 }))

-- The bytes are the header, with any value of the reserved flag.
pub record EncodesIpv4 (bytes : List ℕ) (header : Ipv4Header) : Type 0 where
  pub fits : FitsIpv4 header
  pub reserved : ℕ
  pub flag : reserved < 2
  pub same : bytes ≡ ipv4_bytes_with reserved header

-- the header length in words of 4 bytes (IHL), the lower 4 bits of the first byte
abbrev pub ihl_of : List ℕ → ℕ
ihl_of bytes = slice_index bytes 0 % 16

-- ---- header

-- The bytes are a header, followed by the rest.
pub record IsIpv4Header (bytes : List ℕ) (read : Ipv4Header × List ℕ) : Type 0 where
  pub encoded : List ℕ
  pub encodes : EncodesIpv4 encoded read.0
  pub parts : bytes ≡ encoded ++ read.1

-- the errors for bytes that do not begin with a header, in the order of the checks
abbrev pub ipv4_header_rows : List ℕ → List (Bool × HeaderSliceError)
ipv4_header_rows bytes =
    let len = length bytes in
    let version = version_of bytes in
    let ihl = ihl_of bytes in
    (nat_lt len 20, header_error.Len (len_error 20 len source.Slice layer.Ipv4Header))
    ∷ (not (version == 4), header_error.Content (content.UnexpectedVersion version))
    ∷ (nat_lt ihl 5, header_error.Content (content.HeaderLengthSmallerThanHeader ihl))
    ∷ (nat_lt len (4 * ihl), header_error.Len (len_error (4 * ihl) len source.Slice layer.Ipv4Header))
    ∷ []

-- The bytes are rejected as a header with this error: that of the first row that holds.
abbrev pub RefusesIpv4Header : List ℕ → HeaderSliceError → Type 0
RefusesIpv4Header bytes = Refuses (ipv4_header_rows bytes)

-- the 4 bytes from index `i` on
abbrev pub four_at : List ℕ → ℕ → List ℕ
four_at bytes i =
    slice_index bytes i ∷ slice_index bytes (i + 1) ∷ slice_index bytes (i + 2) ∷ slice_index bytes (i + 3) ∷ []

-- the header read from the start of the bytes
abbrev pub ipv4_header_of : List ℕ → Ipv4Header
ipv4_header_of bytes = record {
  dscp = slice_index bytes 1 / 4;
  ecn = slice_index bytes 1 % 4;
  total_len = word_at bytes 2;
  identification = word_at bytes 4;
  dont_fragment = slice_index bytes 6 / 64 % 2 == 1;
  more_fragments = slice_index bytes 6 / 32 % 2 == 1;
  fragment_offset = word_at bytes 6 % 8192;
  time_to_live = slice_index bytes 8;
  protocol = record { 0 = slice_index bytes 9 };
  header_checksum = word_at bytes 10;
  source = four_at bytes 12;
  destination = four_at bytes 16;
  options = take (4 * ihl_of bytes - 20) (drop 20 bytes);
}

-- ---- packets, with the authentication header as part of the payload

-- The bytes are a packet and the trailing bytes after its total length, such as padding.
pub record IsIpv4Packet (bytes : List ℕ) (packet : Parts Ipv4Header) : Type 0 where
  pub encoded : List ℕ
  pub encodes : EncodesIpv4 encoded packet.header
  pub parts : bytes ≡ (encoded ++ packet.payload) ++ packet.left
  pub cut : packet.header.total_len ≡ length encoded + length packet.payload

-- an error of the header as an error of the packet
abbrev pub of_header_error : HeaderSliceError → SliceError
of_header_error (header_error.Len error) = slice_error.Len error
of_header_error (header_error.Content error) = slice_error.Header error

-- the errors for bytes that do not begin with a packet, in the order of the checks
abbrev pub ipv4_packet_rows : List ℕ → List (Bool × SliceError)
ipv4_packet_rows bytes =
    let len = length bytes in
    let header_len = 4 * ihl_of bytes in
    let total_len = word_at bytes 2 in
    let short = len_error header_len total_len source.Ipv4HeaderTotalLen layer.Ipv4Packet in
    rows_as of_header_error (ipv4_header_rows bytes)
    ++ (nat_lt total_len header_len, slice_error.Len short)
    ∷ (nat_lt len total_len, slice_error.Len (len_error total_len len source.Slice layer.Ipv4Packet))
    ∷ []

-- The bytes are rejected as a packet with this error: that of the first row that holds.
abbrev pub RefusesIpv4Packet : List ℕ → SliceError → Type 0
RefusesIpv4Packet bytes = Refuses (ipv4_packet_rows bytes)

-- whether the packet carries a fragment of a longer payload
abbrev pub is_ipv4_fragment : Ipv4Header → Bool
is_ipv4_fragment header = header.more_fragments || nat_lt 0 header.fragment_offset

-- ---- new headers

-- the default header: all fields are 0, except that Don't Fragment is set and the protocol is 255 (reserved)
abbrev pub default_ipv4_header : Ipv4Header
default_ipv4_header = record {
  dscp = 0;
  ecn = 0;
  total_len = 0;
  identification = 0;
  dont_fragment = true;
  more_fragments = false;
  fragment_offset = 0;
  time_to_live = 0;
  protocol = record { 0 = 255 };
  header_checksum = 0;
  source = 0 ∷ 0 ∷ 0 ∷ 0 ∷ [];
  destination = 0 ∷ 0 ∷ 0 ∷ 0 ∷ [];
  options = [];
}

-- a header with these fields, without options; the remaining fields have their default values
abbrev pub new_ipv4_header : ℕ → ℕ → IpNumber → List ℕ → List ℕ → Ipv4Header
new_ipv4_header payload_len time_to_live protocol source destination = record default_ipv4_header {
  total_len = 20 + payload_len;
  time_to_live = time_to_live;
  protocol = protocol;
  source = source;
  destination = destination;
}
