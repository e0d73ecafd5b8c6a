-- The headers that slices of IPv6 extension headers contain.
use Rattle.std.specs.Prelude.{◌≡◌, ℕ, List, [], ◌∷◌, ◌++◌, Option, Some, None}
use Rattle.ep_ext.specs.declared.ipv6_ext_slice.Ipv6ExtensionSlice.{Ipv6ExtensionSlice}
use Rattle.ep_ext.specs.declared.ipv6_ext_slice.Ipv6ExtensionSlice.TheVariants as slice
use Rattle.ep_ext.specs.declared.ipv6_exts_slice.Ipv6ExtensionsSlice.{Ipv6ExtensionsSlice}
use Rattle.ep_ext.specs.declared.ipv6_exts_slice_iter.Ipv6ExtensionSliceIter.{Ipv6ExtensionSliceIter}
use Rattle.ep_ext.specs.IpAuthSlices.{ip_auth_slice_bytes, ip_auth_slice_header}
use Rattle.ep_ext.specs.FragmentHeaderSlices.{fragment_slice_bytes, fragment_slice_header}
use Rattle.ep_ext.specs.RawExtensionSlices.{raw_extension_slice_bytes, raw_extension_slice_header}
use Rattle.ep_ext.specs.ExtensionParts.{ExtensionPart, hop_by_hop, destination_options, routing, fragment, authentication, part_next}
use Rattle.ep_ext.specs.ShownChains.{shown_parts}

-- The owned header.
abbrev pub extension_slice_part : Ipv6ExtensionSlice → ExtensionPart
extension_slice_part (slice.HopByHop header) = hop_by_hop (raw_extension_slice_header header)
extension_slice_part (slice.Routing header) = routing (raw_extension_slice_header header)
extension_slice_part (slice.Fragment header) = fragment (fragment_slice_header header)
extension_slice_part (slice.DestinationOptions header) = destination_options (raw_extension_slice_header header)
extension_slice_part (slice.Authentication header) = authentication (ip_auth_slice_header header)

-- Bytes of the header.
abbrev pub extension_slice_bytes : Ipv6ExtensionSlice → List ℕ
extension_slice_bytes (slice.HopByHop header) = raw_extension_slice_bytes header
extension_slice_bytes (slice.Routing header) = raw_extension_slice_bytes header
extension_slice_bytes (slice.Fragment header) = fragment_slice_bytes header
extension_slice_bytes (slice.DestinationOptions header) = raw_extension_slice_bytes header
extension_slice_bytes (slice.Authentication header) = ip_auth_slice_bytes header

-- Bytes of all headers.
abbrev pub ipv6_slice_bytes : Ipv6ExtensionsSlice → List ℕ
ipv6_slice_bytes extensions = extensions.shown.slice.now

-- The IP number of the first header, or of the payload if there are no headers.
abbrev pub ipv6_slice_number : Ipv6ExtensionsSlice → ℕ
ipv6_slice_number extensions = extensions.shown.first.0

-- All headers.
abbrev pub ipv6_slice_parts : Ipv6ExtensionsSlice → List ExtensionPart
ipv6_slice_parts extensions = shown_parts (ipv6_slice_number extensions) (ipv6_slice_bytes extensions)

-- The IP number of the next header of an iterator, or of the payload after the last one.
abbrev pub number_left : Ipv6ExtensionSliceIter → ℕ
number_left iterator = iterator.number.0

-- The bytes from the next header of an iterator on.
abbrev pub bytes_left : Ipv6ExtensionSliceIter → List ℕ
bytes_left iterator = iterator.rest.now

-- The headers that an iterator has not returned yet.
abbrev pub parts_left : Ipv6ExtensionSliceIter → List ExtensionPart
parts_left iterator = shown_parts (number_left iterator) (bytes_left iterator)

-- A new iterator has all headers, their bytes, and the IP number of the first one.
pub record BeginsIteration (extensions : Ipv6ExtensionsSlice) (iterator : Ipv6ExtensionSliceIter) : Type 0 where
  pub number : number_left iterator ≡ ipv6_slice_number extensions
  pub parts : parts_left iterator ≡ ipv6_slice_parts extensions
  pub bytes : bytes_left iterator ≡ ipv6_slice_bytes extensions

-- A call of `next` returns the next header, which is a prefix of the remaining bytes, and advances to the next IP
-- number and bytes. Without remaining headers it returns none, and nothing changes.
abbrev pub YieldsExtension : Ipv6ExtensionSliceIter → Option Ipv6ExtensionSlice → Ipv6ExtensionSliceIter → Type 0
YieldsExtension iterator None after = (parts_left iterator ≡ []) × (parts_left after ≡ [])
    × (bytes_left after ≡ bytes_left iterator) × (number_left after ≡ number_left iterator)
YieldsExtension iterator (Some header) after =
    (parts_left iterator ≡ extension_slice_part header ∷ parts_left after)
    × (bytes_left iterator ≡ extension_slice_bytes header ++ bytes_left after)
    × (number_left after ≡ part_next (extension_slice_part header))
