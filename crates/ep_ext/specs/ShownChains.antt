-- The extension headers at the start of bytes, as a function (RFC 8200, 4).
use Rattle.std.specs.Prelude.{ℕ, zero, suc, ◌==◌, ◌&&◌, Bool, if◌then◌else◌, List, [], ◌∷◌, length, take, drop, slice_index, is_none}
use Rattle.ep_base.specs.IpNumbers.{hop_by_hop_number, routing_number, fragment_number, authentication_number}
use Rattle.ep_base.specs.Tables.{first_row}
use Rattle.ep_ext.specs.IpAuth.{ip_auth_of, ip_auth_len_of}
use Rattle.ep_ext.specs.FragmentHeader.{fragment_header_of}
use Rattle.ep_ext.specs.RawExtension.{raw_extension_of, raw_extension_len_of}
use Rattle.ep_ext.specs.ExtensionParts.{ExtensionPart, hop_by_hop, destination_options, routing, fragment, authentication, extension_part_rows}
use Rattle.ep_ext.specs.Chains.{is_ipv6_extension}

-- The header of the kind with this IP number that consists of all of the bytes.
abbrev pub part_of : ℕ → List ℕ → ExtensionPart
part_of number bytes =
    if number == hop_by_hop_number then hop_by_hop (raw_extension_of bytes)
    else if number == routing_number then routing (raw_extension_of bytes)
    else if number == fragment_number then fragment (fragment_header_of bytes)
    else if number == authentication_number then authentication (ip_auth_of bytes)
    else destination_options (raw_extension_of bytes)

-- The length in bytes of the header at the start of the bytes, whose kind is given by its IP number.
abbrev pub part_len_of : ℕ → List ℕ → ℕ
part_len_of number bytes =
    if number == authentication_number then ip_auth_len_of bytes
    else if number == fragment_number then 8
    else raw_extension_len_of bytes

-- True if the bytes begin with a header of the kind with this IP number.
abbrev pub begins_part : ℕ → List ℕ → Bool
begins_part number bytes = is_ipv6_extension number && is_none (first_row (extension_part_rows number bytes))

-- The headers at the start of the bytes, at most `most`. The first byte of each is its next header field.
unfoldable pub shown_parts_in : ℕ → ℕ → List ℕ → List ExtensionPart
shown_parts_in zero number bytes = []
shown_parts_in (suc most) number bytes =
    if begins_part number bytes
    then part_of number (take (part_len_of number bytes) bytes)
    ∷ shown_parts_in most (slice_index bytes 0) (drop (part_len_of number bytes) bytes)
    else []

-- The headers at the start of the bytes; there are no more of them than bytes.
unfoldable pub shown_parts : ℕ → List ℕ → List ExtensionPart
shown_parts number bytes = shown_parts_in (length bytes) number bytes
