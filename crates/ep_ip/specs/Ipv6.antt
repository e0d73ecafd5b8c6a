-- IPv6 (RFC 8200, section 3).
use Rattle.std.specs.Prelude.{◌≡◌, ℕ, ◌+◌, ◌*◌, ◌/◌, ◌%◌, ◌^◌, ◌<◌, ◌⊎◌, if◌then◌else◌}
use Rattle.std.specs.Prelude.{Bool, ◌==◌, nat_lt, not, ◌&&◌}
use Rattle.std.specs.Prelude.{List, [], ◌∷◌, ◌++◌, length, take, drop, replicate, slice_index}
use Rattle.std.specs.Int.{w16, w32, to_be_bytes}
use Rattle.ep_base.specs.Bytes.{AreBytes, word_at}
use Rattle.ep_base.specs.Readings.{len_error}
use Rattle.ep_base.specs.Tables.{Parts, Refuses, rows_as}
use Rattle.ep_base.specs.declared.err.layer.Layer.TheVariants as layer
use Rattle.ep_base.specs.declared.err.len_error.LenError.{LenError}
use Rattle.ep_base.specs.declared.len_source.LenSource.{LenSource}
use Rattle.ep_base.specs.declared.len_source.LenSource.TheVariants as source
use Rattle.ep_base.specs.declared.err.ipv6.HeaderError.TheVariants as content
use Rattle.ep_base.specs.declared.err.ipv6.HeaderSliceError.{HeaderSliceError}
use Rattle.ep_base.specs.declared.err.ipv6.HeaderSliceError.TheVariants as header_error
use Rattle.ep_base.specs.declared.err.ipv6.SliceError.{SliceError}
use Rattle.ep_base.specs.declared.err.ipv6.SliceError.TheVariants as slice_error
use Rattle.ep_ip.specs.declared.ipv6_header.Ipv6Header.{Ipv6Header}
use Rattle.ep_ip.specs.Ip.{version_of}

-- Each field fits its width on the wire.
pub record FitsIpv6 (header : Ipv6Header) : Type 0 where
  pub traffic_class : header.traffic_class < 2 ^ 8
  pub flow_label : header.flow_label < 2 ^ 20
  pub payload_length : header.payload_length < 2 ^ 16
  pub next_header : header.next_header.0 < 2 ^ 8
  pub hop_limit : header.hop_limit < 2 ^ 8
  pub source_len : length header.source ≡ 16
  pub source : AreBytes header.source
  pub destination_len : length header.destination ≡ 16
  pub destination : AreBytes header.destination

-- the 40 wire bytes of a header; the first 4 are the version (4 bits), the traffic class (8) and the flow label (20)
abbrev pub ipv6_bytes : Ipv6Header → List ℕ
ipv6_bytes header =
    to_be_bytes w32 (2 ^ 28 * 6 + 2 ^ 20 * header.traffic_class + header.flow_label)
    ++ to_be_bytes w16 header.payload_length ++ header.next_header.0 ∷ header.hop_limit ∷ []
    ++ header.source ++ header.destination

-- ---- header

-- The bytes are a header, followed by the rest.
pub record IsIpv6Header (bytes : List ℕ) (read : Ipv6Header × List ℕ) : Type 0 where
  pub fits : FitsIpv6 read.0
  pub parts : bytes ≡ ipv6_bytes read.0 ++ read.1

-- the errors for bytes that do not begin with a header, in the order of the checks
abbrev pub ipv6_header_rows : List ℕ → List (Bool × HeaderSliceError)
ipv6_header_rows bytes =
    let len = length bytes in
    let version = version_of bytes in
    (nat_lt len 40, header_error.Len (len_error 40 len source.Slice layer.Ipv6Header))
    ∷ (not (version == 6), header_error.Content (content.UnexpectedVersion version))
    ∷ []

-- The bytes are rejected as a header with this error: that of the first row that holds.
abbrev pub RefusesIpv6Header : List ℕ → HeaderSliceError → Type 0
RefusesIpv6Header bytes = Refuses (ipv6_header_rows bytes)

-- the header read from the first 40 bytes
abbrev pub ipv6_header_of : List ℕ → Ipv6Header
ipv6_header_of bytes = record {
  traffic_class = 16 * (slice_index bytes 0 % 16) + slice_index bytes 1 / 16;
  flow_label = (65536 * slice_index bytes 1 + word_at bytes 2) % 1048576;
  payload_length = word_at bytes 4;
  next_header = record { 0 = slice_index bytes 6 };
  hop_limit = slice_index bytes 7;
  source = take 16 (drop 8 bytes);
  destination = take 16 (drop 24 bytes);
}

-- ---- packets, with the extension headers as part of the payload

-- The bytes are a packet and the trailing bytes after its payload length, such as padding. If the payload length is 0,
-- there are no trailing bytes.
pub record IsIpv6Packet (bytes : List ℕ) (packet : Parts Ipv6Header) : Type 0 where
  pub fits : FitsIpv6 packet.header
  pub parts : bytes ≡ (ipv6_bytes packet.header ++ packet.payload) ++ packet.left
  pub cut : ((0 < packet.header.payload_length) × (packet.header.payload_length ≡ length packet.payload))
      ⊎ ((packet.header.payload_length ≡ 0) × (packet.left ≡ []))

-- an error of the header as an error of the packet
abbrev pub of_header_error : HeaderSliceError → SliceError
of_header_error (header_error.Len error) = slice_error.Len error
of_header_error (header_error.Content error) = slice_error.Header error

-- the errors for bytes that do not begin with a packet, in the order of the checks
abbrev pub ipv6_packet_rows : List ℕ → List (Bool × SliceError)
ipv6_packet_rows bytes =
    let len = length bytes in
    let packet_len = 40 + word_at bytes 4 in
    rows_as of_header_error (ipv6_header_rows bytes)
    ++ (nat_lt len packet_len, slice_error.Len (len_error packet_len len source.Slice layer.Ipv6Packet))
    ∷ []

-- The bytes are rejected as a packet with this error: that of the first row that holds.
abbrev pub RefusesIpv6Packet : List ℕ → SliceError → Type 0
RefusesIpv6Packet bytes = Refuses (ipv6_packet_rows bytes)

-- the source of the payload's length: the slice if the payload length is 0 and the payload is not empty, else the
-- payload length
abbrev pub ipv6_payload_source : Ipv6Header → List ℕ → LenSource
ipv6_payload_source header payload =
    if (header.payload_length == 0) && nat_lt 0 (length payload) then source.Slice else source.Ipv6HeaderPayloadLen

-- the limit that the error reports if a packet that starts at byte `start` is truncated: the end of the slice, or the
-- payload length if it is 0 and the bytes end with the header
abbrev pub ipv6_truncation_limit : ℕ → Ipv6Header → LenError → LenSource
ipv6_truncation_limit start header error =
    if (error.layer_start_offset == start + 40) && ((error.len == 0) && (header.payload_length == 0))
    then source.Ipv6HeaderPayloadLen else source.Slice

-- ---- new headers

-- the default header: all fields are 0, except that the next header is 255 (reserved)
abbrev pub default_ipv6_header : Ipv6Header
default_ipv6_header = record {
  traffic_class = 0;
  flow_label = 0;
  payload_length = 0;
  next_header = record { 0 = 255 };
  hop_limit = 0;
  source = replicate 16 0;
  destination = replicate 16 0;
}
