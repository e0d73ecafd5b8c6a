-- Extension headers of IP, of any kind (RFC 4302, 2; RFC 8200, 4).
use Rattle.std.specs.Prelude.{◌≡◌, ℕ, ◌==◌, Bool, false, if◌then◌else◌, List, [], ◌∷◌, Option, Some, None}
use Rattle.ep_base.specs.IpNumbers.{hop_by_hop_number, routing_number, fragment_number, authentication_number, destination_options_number}
use Rattle.ep_base.specs.Tables.{Refuses, rows_as}
use Rattle.ep_base.specs.declared.err.ip_auth.HeaderSliceError.{HeaderSliceError as AuthSliceError}
use Rattle.ep_base.specs.declared.err.ip_auth.HeaderSliceError.TheVariants as auth_error
use Rattle.ep_base.specs.declared.err.ipv6_exts.HeaderError.TheVariants as content
use Rattle.ep_base.specs.declared.err.ipv6_exts.HeaderSliceError.{HeaderSliceError}
use Rattle.ep_base.specs.declared.err.ipv6_exts.HeaderSliceError.TheVariants as header_error
use Rattle.ep_ext.specs.declared.ip_auth_header.IpAuthHeader.{IpAuthHeader}
use Rattle.ep_ext.specs.declared.ipv6_fragment_header.Ipv6FragmentHeader.{Ipv6FragmentHeader}
use Rattle.ep_ext.specs.declared.ipv6_raw_ext_header.Ipv6RawExtHeader.{Ipv6RawExtHeader}
use Rattle.ep_ext.specs.IpAuth.{IsIpAuth, FitsIpAuth, EncodesIpAuth, ip_auth_rows, ip_auth_bytes, ip_auth_len}
use Rattle.ep_ext.specs.FragmentHeader.{IsFragmentHeader, FitsFragmentHeader, EncodesFragmentHeader, fragment_header_rows, fragment_header_bytes, is_ipv6_fragment}
use Rattle.ep_ext.specs.RawExtension.{IsRawExtension, FitsRawExtension, raw_extension_rows, raw_extension_bytes, raw_extension_len}

-- An extension header, by kind.
pub data ExtensionPart : Type 0 where
  hop_by_hop : Ipv6RawExtHeader → ExtensionPart
  destination_options : Ipv6RawExtHeader → ExtensionPart
  routing : Ipv6RawExtHeader → ExtensionPart
  fragment : Ipv6FragmentHeader → ExtensionPart
  authentication : IpAuthHeader → ExtensionPart

-- The list of a header, if present.
abbrev pub optional_part : {H : Type 0} → (H → ExtensionPart) → Option H → List ExtensionPart
optional_part kind None = []
optional_part kind (Some header) = kind header ∷ []

-- The IP number of the header's kind.
abbrev pub part_number : ExtensionPart → ℕ
part_number (hop_by_hop header) = hop_by_hop_number
part_number (destination_options header) = destination_options_number
part_number (routing header) = routing_number
part_number (fragment header) = fragment_number
part_number (authentication header) = authentication_number

-- The next header field.
abbrev pub part_next : ExtensionPart → ℕ
part_next (hop_by_hop header) = header.next_header.0
part_next (destination_options header) = header.next_header.0
part_next (routing header) = header.next_header.0
part_next (fragment header) = header.next_header.0
part_next (authentication header) = header.next_header.0

-- The wire format of the header, with reserved bits 0.
abbrev pub part_bytes : ExtensionPart → List ℕ
part_bytes (hop_by_hop header) = raw_extension_bytes header
part_bytes (destination_options header) = raw_extension_bytes header
part_bytes (routing header) = raw_extension_bytes header
part_bytes (fragment header) = fragment_header_bytes header
part_bytes (authentication header) = ip_auth_bytes header

-- The length of the header in bytes.
abbrev pub part_len : ExtensionPart → ℕ
part_len (hop_by_hop header) = raw_extension_len header
part_len (destination_options header) = raw_extension_len header
part_len (routing header) = raw_extension_len header
part_len (fragment header) = 8
part_len (authentication header) = ip_auth_len header

-- Each field fits its width on the wire.
abbrev pub FitsPart : ExtensionPart → Type 0
FitsPart (hop_by_hop header) = FitsRawExtension header
FitsPart (destination_options header) = FitsRawExtension header
FitsPart (routing header) = FitsRawExtension header
FitsPart (fragment header) = FitsFragmentHeader header
FitsPart (authentication header) = FitsIpAuth header

-- The bytes are the wire format of the header, with any reserved bits.
abbrev pub EncodesPart : List ℕ → ExtensionPart → Type 0
EncodesPart bytes (hop_by_hop header) = FitsRawExtension header × (bytes ≡ raw_extension_bytes header)
EncodesPart bytes (destination_options header) = FitsRawExtension header × (bytes ≡ raw_extension_bytes header)
EncodesPart bytes (routing header) = FitsRawExtension header × (bytes ≡ raw_extension_bytes header)
EncodesPart bytes (fragment header) = EncodesFragmentHeader bytes header
EncodesPart bytes (authentication header) = EncodesIpAuth bytes header

-- True if this is a fragment header of a packet that carries a fragment.
abbrev pub part_fragments : ExtensionPart → Bool
part_fragments (hop_by_hop header) = false
part_fragments (destination_options header) = false
part_fragments (routing header) = false
part_fragments (fragment header) = is_ipv6_fragment header
part_fragments (authentication header) = false

-- The bytes are a header of the kind with this IP number, followed by the rest.
abbrev pub IsExtensionPart : ℕ → List ℕ → ExtensionPart → List ℕ → Type 0
IsExtensionPart number bytes (hop_by_hop header) rest =
    (number ≡ hop_by_hop_number) × IsRawExtension bytes (header, rest)
IsExtensionPart number bytes (destination_options header) rest =
    (number ≡ destination_options_number) × IsRawExtension bytes (header, rest)
IsExtensionPart number bytes (routing header) rest =
    (number ≡ routing_number) × IsRawExtension bytes (header, rest)
IsExtensionPart number bytes (fragment header) rest =
    (number ≡ fragment_number) × IsFragmentHeader bytes (header, rest)
IsExtensionPart number bytes (authentication header) rest =
    (number ≡ authentication_number) × IsIpAuth bytes (header, rest)

-- The error of an authentication header, as an error of the IPv6 extension headers.
abbrev pub auth_refusal : AuthSliceError → HeaderSliceError
auth_refusal (auth_error.Len error) = header_error.Len error
auth_refusal (auth_error.Content error) = header_error.Content (content.IpAuth error)

-- Refusal table of a header of the kind with this IP number.
abbrev pub extension_part_rows : ℕ → List ℕ → List (Bool × HeaderSliceError)
extension_part_rows number bytes =
    if number == authentication_number then rows_as auth_refusal (ip_auth_rows bytes)
    else if number == fragment_number then rows_as header_error.Len (fragment_header_rows bytes)
    else rows_as header_error.Len (raw_extension_rows bytes)

-- The bytes do not begin with a header of the kind with this IP number, for this reason.
abbrev pub RefusesExtensionPart : ℕ → List ℕ → HeaderSliceError → Type 0
RefusesExtensionPart number bytes error = Refuses (extension_part_rows number bytes) error
