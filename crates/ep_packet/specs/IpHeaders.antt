-- Owned IP headers: the IPv4 or IPv6 header with its extension headers.
use Rattle.std.specs.Prelude.{◌≡◌, ℕ, ◌+◌, ◌-◌, ◌^◌, nat_lt, Bool, false, List, [], ◌∷◌, ◌++◌, length, Option, Some}
use Rattle.std.specs.Prelude.{None, Ok, Err}
use Rattle.ep_base.specs.EtherTypes.{ipv4_type, ipv6_type}
use Rattle.ep_base.specs.IpNumbers.{authentication_number}
use Rattle.ep_base.specs.IpPayload.{IpPayload, ip_payload_of}
use Rattle.ep_base.specs.Readings.{headers as by_value}
use Rattle.ep_base.specs.Tables.{RefusesAs}
use Rattle.ep_base.specs.declared.ip_number.IpNumber.{IpNumber}
use Rattle.ep_base.specs.declared.ip_payload_slice.IpPayloadSlice.{IpPayloadSlice}
use Rattle.ep_base.specs.declared.len_source.LenSource.{LenSource}
use Rattle.ep_base.specs.declared.len_source.LenSource.TheVariants as source
use Rattle.ep_base.specs.declared.err.ip.HeadersSliceError.{HeadersSliceError}
use Rattle.ep_base.specs.declared.err.ip.HeadersSliceError.TheVariants as headers_slice_error
use Rattle.ep_base.specs.declared.err.ip.SliceError.{SliceError}
use Rattle.ep_base.specs.declared.err.ip.SliceError.TheVariants as slice_error
use Rattle.ep_base.specs.declared.err.ip_exts.ExtsWalkError.{ExtsWalkError}
use Rattle.ep_base.specs.declared.err.ip_exts.ExtsWalkError.TheVariants as walk_error
use Rattle.ep_base.specs.declared.err.ipv4_exts.ExtsWalkError.{ExtsWalkError as Ipv4WalkError}
use Rattle.ep_base.specs.declared.err.ipv6_exts.ExtsWalkError.{ExtsWalkError as Ipv6WalkError}
use Rattle.ep_base.specs.declared.err.value_too_big.ValueTooBigError.{ValueTooBigError}
use Rattle.ep_base.specs.declared.err.value_type.ValueType.{ValueType}
use Rattle.ep_base.specs.declared.err.value_type.ValueType.TheVariants as value_type
use Rattle.ep_ext.specs.declared.ipv4_exts.Ipv4Extensions.{Ipv4Extensions}
use Rattle.ep_ext.specs.declared.ipv6_exts.Ipv6Extensions.{Ipv6Extensions}
use Rattle.ep_ext.specs.Chains.{FitParts, chain_fragments, is_ipv6_extension, parts_bytes}
use Rattle.ep_ext.specs.ExtensionParts.{ExtensionPart}
use Rattle.ep_ext.specs.Ipv4Chains.{ipv4_first, ipv4_linked, ipv4_parts, ipv4_walk}
use Rattle.ep_ext.specs.Ipv6Chains.{RefusesWalk, WalksAll, extensions_of, ipv6_first, ipv6_linked, ipv6_parts}
use Rattle.ep_ip.specs.declared.ipv4_header.Ipv4Header.{Ipv4Header}
use Rattle.ep_ip.specs.declared.ipv6_header.Ipv6Header.{Ipv6Header}
use Rattle.ep_ip.specs.IpPackets.{IpPart, IsIp, ip_left, ipv4_part, ipv6_part}
use Rattle.ep_ip.specs.Ipv4.{FitsIpv4, ipv4_bytes, ipv4_checksum, ipv4_header_len, is_ipv4_fragment}
use Rattle.ep_ip.specs.Ipv4.{default_ipv4_header}
use Rattle.ep_ip.specs.Ipv6.{FitsIpv6, ipv6_bytes}
use Rattle.ep_packet.specs.declared.ip_headers.IpHeaders.{IpHeaders}
use Rattle.ep_packet.specs.declared.ip_headers.IpHeaders.TheVariants as variant
use Rattle.ep_packet.specs.declared.err.headers_write_error.HeadersWriteError.{HeadersWriteError}
use Rattle.ep_packet.specs.declared.err.headers_write_error.HeadersWriteError.TheVariants as write_error

-- ---- headers of a packet

-- The owned extension headers of an IPv4 packet: the authentication header in the chain, if any.
abbrev pub ipv4_extensions_of : List ExtensionPart → Ipv4Extensions
ipv4_extensions_of parts = record { auth = (extensions_of parts).auth }

-- The owned headers of a packet.
abbrev pub ip_headers_of : IpPart → IpHeaders
ip_headers_of (ipv4_part packet) = variant.Ipv4 packet.header (ipv4_extensions_of packet.extensions)
ip_headers_of (ipv6_part packet) = variant.Ipv6 packet.header (extensions_of packet.extensions)

-- Empty headers, to be overwritten.
abbrev pub blank_headers : IpHeaders
blank_headers = variant.Ipv4 default_ipv4_header (record { auth = None })

-- The payload of a packet.
abbrev pub ip_part_payload : IpPart → IpPayload
ip_part_payload (ipv4_part packet) = packet.payload
ip_part_payload (ipv6_part packet) = packet.payload

-- The extension headers of a packet, in their order.
abbrev pub ip_part_extensions : IpPart → List ExtensionPart
ip_part_extensions (ipv4_part packet) = packet.extensions
ip_part_extensions (ipv6_part packet) = packet.extensions

-- The headers and the payload are those of the packet.
abbrev pub AreOfPart : IpPart → IpHeaders × IpPayloadSlice → Type 0
AreOfPart part read = (read.0 ≡ ip_headers_of part) × (ip_payload_of read.1 ≡ ip_part_payload part)

-- The headers, and the protocol number and bytes of the payload, are those of the packet.
abbrev pub HasBytes : IpPart → IpHeaders × IpNumber × List ℕ → Type 0
HasBytes part read =
    (read.0 ≡ ip_headers_of part) × (read.1.0 ≡ (ip_part_payload part).number)
    × (read.2 ≡ (ip_part_payload part).bytes)

-- The error of slicing an IP packet, as an error of reading IP headers.
abbrev pub of_slice_error : SliceError → HeadersSliceError
of_slice_error (slice_error.Len error) = headers_slice_error.Len error
of_slice_error (slice_error.IpHeaders error) = headers_slice_error.Content error

-- ---- parts and properties of headers

-- The header and the extension headers, if they are IPv4.
abbrev pub ipv4_headers_in : IpHeaders → Option (Ipv4Header × Ipv4Extensions)
ipv4_headers_in (variant.Ipv4 header extensions) = Some (header, extensions)
ipv4_headers_in (variant.Ipv6 header extensions) = None

-- The header and the extension headers, if they are IPv6.
abbrev pub ipv6_headers_in : IpHeaders → Option (Ipv6Header × Ipv6Extensions)
ipv6_headers_in (variant.Ipv4 header extensions) = None
ipv6_headers_in (variant.Ipv6 header extensions) = Some (header, extensions)

-- The ether type of the headers' IP version.
abbrev pub ip_headers_type : IpHeaders → ℕ
ip_headers_type (variant.Ipv4 header extensions) = ipv4_type
ip_headers_type (variant.Ipv6 header extensions) = ipv6_type

-- All extension headers, in the order in which `linked_headers` links them (RFC 8200, 4.1).
abbrev pub ip_headers_parts : IpHeaders → List ExtensionPart
ip_headers_parts (variant.Ipv4 header extensions) = ipv4_parts extensions
ip_headers_parts (variant.Ipv6 header extensions) = ipv6_parts extensions

-- True if the IPv4 header or the IPv6 fragment header states that the packet carries one fragment of a larger payload.
abbrev pub headers_fragment : IpHeaders → Bool
headers_fragment (variant.Ipv4 header extensions) = is_ipv4_fragment header
headers_fragment (variant.Ipv6 header extensions) = chain_fragments (ipv6_parts extensions)

-- Each field of the header fits its width on the wire.
abbrev pub FitsIpHeader : IpHeaders → Type 0
FitsIpHeader (variant.Ipv4 header extensions) = FitsIpv4 header
FitsIpHeader (variant.Ipv6 header extensions) = FitsIpv6 header

-- Each field of the header and of its extension headers fits its width on the wire.
abbrev pub FitIpHeaders : IpHeaders → Type 0
FitIpHeaders headers = FitsIpHeader headers × FitParts (ip_headers_parts headers)

-- ---- lengths

-- Length of the extension headers in bytes.
abbrev pub ip_extensions_len : IpHeaders → ℕ
ip_extensions_len headers = length (parts_bytes (ip_headers_parts headers))

-- Length of the header in bytes.
abbrev pub ip_header_len : IpHeaders → ℕ
ip_header_len (variant.Ipv4 header extensions) = ipv4_header_len header
ip_header_len (variant.Ipv6 header extensions) = 40

-- Length of all headers in bytes.
abbrev pub ip_headers_len : IpHeaders → ℕ
ip_headers_len headers = ip_header_len headers + ip_extensions_len headers

-- Greatest number of bytes after the header that its length field can count. The IPv4 total length counts the header
-- too.
abbrev pub most_after_header : IpHeaders → ℕ
most_after_header (variant.Ipv4 header extensions) = 65535 - ipv4_header_len header
most_after_header (variant.Ipv6 header extensions) = 65535

-- The kind of value that the length field counts, for errors.
abbrev pub payload_len_type : IpHeaders → ValueType
payload_len_type (variant.Ipv4 header extensions) = value_type.Ipv4PayloadLength
payload_len_type (variant.Ipv6 header extensions) = value_type.Ipv6PayloadLength

-- The headers with the length field set for `len` bytes after the header.
abbrev pub with_content_len : IpHeaders → ℕ → IpHeaders
with_content_len (variant.Ipv4 header extensions) len =
    variant.Ipv4 (record header { total_len = ipv4_header_len header + len }) extensions
with_content_len (variant.Ipv6 header extensions) len =
    variant.Ipv6 (record header { payload_length = len }) extensions

-- The headers with the length field set for a payload of `len` bytes.
abbrev pub with_payload_len : IpHeaders → ℕ → IpHeaders
with_payload_len headers len = with_content_len headers (len + ip_extensions_len headers)

-- The error of a length above the maximum of the length field.
abbrev pub too_long : IpHeaders → ℕ → ℕ → ValueTooBigError ℕ
too_long headers actual max_allowed =
    record { actual = actual; max_allowed = max_allowed; value_type = payload_len_type headers }

-- Refusal table of the length field for the extension headers and a payload of `len` bytes. If their sum overflows a
-- `usize`, the error has the length of the payload alone, with the maximum less the extension headers.
abbrev pub payload_len_rows : IpHeaders → ℕ → List (Bool × ValueTooBigError ℕ)
payload_len_rows headers len =
    let extensions = ip_extensions_len headers in
    let most = most_after_header headers in
    (nat_lt (2 ^ 64 - 1) (len + extensions), too_long headers len (most - extensions))
    ∷ (nat_lt most (len + extensions), too_long headers (len + extensions) most)
    ∷ []

-- ---- next header values

-- The headers with the next header values linked from the header through all extension headers to `last`.
abbrev pub linked_headers : IpHeaders → IpNumber → IpHeaders
linked_headers (variant.Ipv4 header extensions) last =
    variant.Ipv4 (record header { protocol = ipv4_first extensions last }) (ipv4_linked extensions last)
linked_headers (variant.Ipv6 header extensions) last =
    variant.Ipv6 (record header { next_header = ipv6_first extensions last }) (ipv6_linked extensions last)

-- The next header values lead from the header through these extension headers, which are all, to the last number.
abbrev pub LeadThrough : IpHeaders → List ExtensionPart → ℕ → Type 0
LeadThrough (variant.Ipv4 header extensions) parts last =
    (parts ≡ ipv4_parts extensions) × (ipv4_walk extensions header.protocol ≡ Ok (record { 0 = last }))
LeadThrough (variant.Ipv6 header extensions) parts last = WalksAll extensions header.next_header.0 parts last

-- The next header values do not lead from the header through all extension headers.
abbrev pub RefusesLeading : IpHeaders → ExtsWalkError → Type 0
RefusesLeading (variant.Ipv4 header extensions) error =
    RefusesAs walk_error.Ipv4Exts (λ refusal. ipv4_walk extensions header.protocol ≡ Err refusal) error
RefusesLeading (variant.Ipv6 header extensions) error =
    RefusesAs walk_error.Ipv6Exts (RefusesWalk extensions header.next_header.0) error

-- An error of following the next header values, as an error of writing headers.
abbrev pub of_walk_error : ExtsWalkError → HeadersWriteError
of_walk_error (walk_error.Ipv4Exts error) = write_error.Ipv4Exts error
of_walk_error (walk_error.Ipv6Exts error) = write_error.Ipv6Exts error

-- The error of the IPv4 extension header, if it is one.
abbrev pub ipv4_walk_error_in : HeadersWriteError → Option Ipv4WalkError
ipv4_walk_error_in write_error.OutOfMemory = None
ipv4_walk_error_in (write_error.Ipv4Exts error) = Some error
ipv4_walk_error_in (write_error.Ipv6Exts error) = None

-- The error of the IPv6 extension headers, if it is one.
abbrev pub ipv6_walk_error_in : HeadersWriteError → Option Ipv6WalkError
ipv6_walk_error_in write_error.OutOfMemory = None
ipv6_walk_error_in (write_error.Ipv4Exts error) = None
ipv6_walk_error_in (write_error.Ipv6Exts error) = Some error

-- ---- bytes

-- The headers with the IPv4 checksum that is written; IPv6 has none.
abbrev pub with_checksum : IpHeaders → IpHeaders
with_checksum (variant.Ipv4 header extensions) =
    variant.Ipv4 (record header { header_checksum = ipv4_checksum header }) extensions
with_checksum (variant.Ipv6 header extensions) = variant.Ipv6 header extensions

-- Bytes of the header, with its checksum field as it is.
abbrev pub ip_header_bytes : IpHeaders → List ℕ
ip_header_bytes (variant.Ipv4 header extensions) = ipv4_bytes header
ip_header_bytes (variant.Ipv6 header extensions) = ipv6_bytes header

-- Bytes of the headers as they are written, with the extension headers in this order.
abbrev pub written_headers : IpHeaders → List ExtensionPart → List ℕ
written_headers headers parts = ip_header_bytes (with_checksum headers) ++ parts_bytes parts

-- ---- writing and reading back

-- The headers linked to the last protocol number, with the length field set for a payload of `len` bytes.
abbrev pub headers_for : IpHeaders → IpNumber → ℕ → IpHeaders
headers_for headers last len = with_payload_len (linked_headers headers last) len

-- The number is no extension header of the IP version.
abbrev pub EndsExtensions : IpHeaders → ℕ → Type 0
EndsExtensions (variant.Ipv4 header extensions) number = number ≡ authentication_number → ⊥
EndsExtensions (variant.Ipv6 header extensions) number = is_ipv6_extension number ≡ false

-- The length field that limits the payload.
abbrev pub length_field_of : IpHeaders → LenSource
length_field_of (variant.Ipv4 header extensions) = source.Ipv4HeaderTotalLen
length_field_of (variant.Ipv6 header extensions) = source.Ipv6HeaderPayloadLen

-- The bytes as the payload of the headers.
abbrev pub payload_of_headers : IpHeaders → IpNumber → List ℕ → IpPayload
payload_of_headers headers last bytes = record {
  number = last.0;
  fragmented = headers_fragment headers;
  source = length_field_of headers;
  bytes = bytes;
}

-- The bytes are a packet with these headers, in the order of RFC 8200, 4.1, and this payload, without trailing bytes
-- after its length field's limit.
pub record AreReadAs (bytes : List ℕ) (read : IpHeaders) (payload : IpPayload) : Type 0 where
  pub part : IpPart
  pub is : IsIp by_value bytes part
  pub same_headers : ip_headers_of part ≡ read
  pub same_extensions : ip_part_extensions part ≡ ip_headers_parts read
  pub same_payload : ip_part_payload part ≡ payload
  pub nothing_left : ip_left part ≡ []
