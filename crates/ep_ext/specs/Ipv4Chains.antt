-- Extension headers of IPv4, owned and in slices: an authentication header, or none (RFC 4302, 3.1.1).
use Rattle.std.specs.Prelude.{ℕ, ◌==◌, if◌then◌else◌, List, [], Option, Some, None, Result, Ok, Err, option_map}
use Rattle.ep_base.specs.IpNumbers.{authentication_number}
use Rattle.ep_base.specs.declared.err.ipv4_exts.ExtsWalkError.{ExtsWalkError}
use Rattle.ep_base.specs.declared.err.ipv4_exts.ExtsWalkError.TheVariants as walk_error
use Rattle.ep_base.specs.declared.ip_number.IpNumber.{IpNumber}
use Rattle.ep_ext.specs.declared.ip_auth_header.IpAuthHeader.{IpAuthHeader}
use Rattle.ep_ext.specs.declared.ip_auth_header_slice.IpAuthHeaderSlice.{IpAuthHeaderSlice}
use Rattle.ep_ext.specs.declared.ipv4_exts.Ipv4Extensions.{Ipv4Extensions}
use Rattle.ep_ext.specs.declared.ipv4_exts_slice.Ipv4ExtensionsSlice.{Ipv4ExtensionsSlice}
use Rattle.ep_ext.specs.ExtensionParts.{ExtensionPart, authentication, optional_part}
use Rattle.ep_ext.specs.IpAuthSlices.{ip_auth_slice_bytes, ip_auth_slice_header}

-- The headers of an owned value.
abbrev pub ipv4_parts : Ipv4Extensions → List ExtensionPart
ipv4_parts extensions = optional_part authentication extensions.auth

-- The headers in slices.
abbrev pub ipv4_slice_parts : Ipv4ExtensionsSlice → List ExtensionPart
ipv4_slice_parts extensions = optional_part authentication (option_map ip_auth_slice_header extensions.auth)

-- The bytes of an authentication header, empty if absent.
abbrev pub optional_auth_bytes : Option IpAuthHeaderSlice → List ℕ
optional_auth_bytes None = []
optional_auth_bytes (Some header) = ip_auth_slice_bytes header

-- The bytes of the headers in slices.
abbrev pub ipv4_slice_bytes : Ipv4ExtensionsSlice → List ℕ
ipv4_slice_bytes extensions = optional_auth_bytes extensions.auth

-- ---- linking and walking

-- The IP number of the payload after an optional authentication header, or the error that the first IP number does not
-- refer to the header.
abbrev pub ipv4_walk_by : Option IpAuthHeader → IpNumber → Result IpNumber ExtsWalkError
ipv4_walk_by None first = Ok first
ipv4_walk_by (Some header) first =
    if first.0 == authentication_number then Ok header.next_header
    else Err (walk_error.ExtNotReferenced (record { 0 = authentication_number }))

-- The IP number of the payload after the headers, or the error that the first IP number does not refer to them.
abbrev pub ipv4_walk : Ipv4Extensions → IpNumber → Result IpNumber ExtsWalkError
ipv4_walk extensions first = ipv4_walk_by extensions.auth first

-- The first IP number, if the payload after an optional authentication header has the number `last`.
abbrev pub ipv4_first_by : Option IpAuthHeader → IpNumber → IpNumber
ipv4_first_by None last = last
ipv4_first_by (Some header) last = record { 0 = authentication_number }

-- The first IP number, if the payload after the headers has the number `last`.
abbrev pub ipv4_first : Ipv4Extensions → IpNumber → IpNumber
ipv4_first extensions last = ipv4_first_by extensions.auth last

-- The authentication header with this next header field.
abbrev pub ip_auth_leading_to : IpNumber → IpAuthHeader → IpAuthHeader
ip_auth_leading_to next header = record header { next_header = next }

-- The headers with the next header field set to `last`.
abbrev pub ipv4_linked : Ipv4Extensions → IpNumber → Ipv4Extensions
ipv4_linked extensions last = record { auth = option_map (ip_auth_leading_to last) extensions.auth }
