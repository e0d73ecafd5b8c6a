-- Owned extension headers of IPv6 (RFC 8200, 4.1): at most one of each kind, and a second Destination Options header
-- after a routing header.
use Rattle.std.specs.Prelude.{◌≡◌, ℕ, ◌==◌, ◌&&◌, Bool, false, not, if◌then◌else◌, List, [], ◌∷◌, ◌++◌, Option, Some, None, option_map, is_some}
use Rattle.ep_base.specs.IpNumbers.{hop_by_hop_number, routing_number, fragment_number, authentication_number, destination_options_number}
use Rattle.ep_base.specs.declared.err.ipv6_exts.ExtsWalkError.{ExtsWalkError}
use Rattle.ep_base.specs.declared.err.ipv6_exts.ExtsWalkError.TheVariants as walk_error
use Rattle.ep_base.specs.declared.ip_number.IpNumber.{IpNumber}
use Rattle.ep_ext.specs.declared.ipv6_fragment_header.Ipv6FragmentHeader.{Ipv6FragmentHeader}
use Rattle.ep_ext.specs.declared.ipv6_raw_ext_header.Ipv6RawExtHeader.{Ipv6RawExtHeader}
use Rattle.ep_ext.specs.declared.ipv6_exts.Ipv6Extensions.{Ipv6Extensions}
use Rattle.ep_ext.specs.declared.ipv6_routing_exts.Ipv6RoutingExtensions.{Ipv6RoutingExtensions}
use Rattle.ep_ext.specs.ExtensionParts.{ExtensionPart, hop_by_hop, destination_options, routing, fragment, authentication, optional_part, part_next}
use Rattle.ep_ext.specs.Chains.{FitParts, is_taken, is_first}
use Rattle.ep_ext.specs.Ipv4Chains.{ip_auth_leading_to}

-- ---- headers of a value

-- The value without headers.
abbrev pub no_ipv6_extensions : Ipv6Extensions
no_ipv6_extensions = record {
  hop_by_hop_options = None;
  destination_options = None;
  routing = None;
  fragment = None;
  auth = None;
}

-- The routing header.
abbrev pub routing_header : Ipv6RoutingExtensions → Ipv6RawExtHeader
routing_header exts = exts.routing

-- Each field of a routing header, and of the destination options after it, fits its width on the wire.
abbrev pub FitRouting : Ipv6RoutingExtensions → Type 0
FitRouting exts = FitParts (routing exts.routing
    ∷ optional_part destination_options exts.final_destination_options)

-- The destination options after a routing header, if present.
abbrev pub final_by : Option Ipv6RoutingExtensions → Option Ipv6RawExtHeader
final_by None = None
final_by (Some exts) = exts.final_destination_options

-- All headers in the order in which they are linked (RFC 8200, 4.1).
abbrev pub ipv6_parts : Ipv6Extensions → List ExtensionPart
ipv6_parts extensions =
    optional_part hop_by_hop extensions.hop_by_hop_options
    ++ optional_part destination_options extensions.destination_options
    ++ optional_part routing (option_map routing_header extensions.routing)
    ++ optional_part fragment extensions.fragment
    ++ optional_part authentication extensions.auth
    ++ optional_part destination_options (final_by extensions.routing)

-- The headers with destination options added: after the routing header if there is one, else before it.
abbrev pub with_destination : Ipv6Extensions → Ipv6RawExtHeader → Option Ipv6RoutingExtensions → Ipv6Extensions
with_destination extensions header None = record extensions { destination_options = Some header }
with_destination extensions header (Some exts) =
    record extensions { routing = Some (record exts { final_destination_options = Some header }) }

-- The headers with one header added.
abbrev pub with_part : Ipv6Extensions → ExtensionPart → Ipv6Extensions
with_part extensions (hop_by_hop header) = record extensions { hop_by_hop_options = Some header }
with_part extensions (destination_options header) = with_destination extensions header extensions.routing
with_part extensions (routing header) =
    record extensions { routing = Some (record { routing = header; final_destination_options = None }) }
with_part extensions (fragment header) = record extensions { fragment = Some header }
with_part extensions (authentication header) = record extensions { auth = Some header }

-- The headers with more headers added, one after another.
abbrev pub with_parts : Ipv6Extensions → List ExtensionPart → Ipv6Extensions
with_parts extensions [] = extensions
with_parts extensions (part ∷ parts) = with_parts (with_part extensions part) parts

-- The owned value with the headers of a chain.
abbrev pub extensions_of : List ExtensionPart → Ipv6Extensions
extensions_of parts = with_parts no_ipv6_extensions parts

-- True if there are destination options: those after the routing header if there is one, else those before it.
abbrev pub has_destination : Ipv6Extensions → Option Ipv6RoutingExtensions → Bool
has_destination extensions None = is_some extensions.destination_options
has_destination extensions (Some exts) = is_some exts.final_destination_options

-- True if there is a header of the kind with this IP number.
abbrev pub has_kind : Ipv6Extensions → ℕ → Bool
has_kind extensions number =
    if number == hop_by_hop_number then is_some extensions.hop_by_hop_options
    else if number == routing_number then is_some extensions.routing
    else if number == fragment_number then is_some extensions.fragment
    else if number == authentication_number then is_some extensions.auth
    else if number == destination_options_number then has_destination extensions extensions.routing
    else false

-- The IP number as a natural number.
abbrev pub number_of : IpNumber → ℕ
number_of number = number.0

-- ---- linking

-- The IP number of a header if it is present, else of what follows it.
abbrev pub number_before : {H : Type 0} → Option H → ℕ → IpNumber → IpNumber
number_before None number next = next
number_before (Some header) number next = record { 0 = number }

-- The IP number after the authentication header, if the payload has the number `last`.
abbrev pub after_auth : Ipv6Extensions → IpNumber → IpNumber
after_auth extensions last = number_before (final_by extensions.routing) destination_options_number last

-- The IP number after the fragment header.
abbrev pub after_fragment : Ipv6Extensions → IpNumber → IpNumber
after_fragment extensions last = number_before extensions.auth authentication_number (after_auth extensions last)

-- The IP number after the routing header.
abbrev pub after_routing : Ipv6Extensions → IpNumber → IpNumber
after_routing extensions last = number_before extensions.fragment fragment_number (after_fragment extensions last)

-- The IP number after the destination options before the routing header.
abbrev pub after_destination : Ipv6Extensions → IpNumber → IpNumber
after_destination extensions last = number_before extensions.routing routing_number (after_routing extensions last)

-- The IP number after the Hop-by-Hop options.
abbrev pub after_hop_by_hop : Ipv6Extensions → IpNumber → IpNumber
after_hop_by_hop extensions last =
    number_before extensions.destination_options destination_options_number (after_destination extensions last)

-- The first IP number, if the payload after the headers has the number `last`.
abbrev pub ipv6_first : Ipv6Extensions → IpNumber → IpNumber
ipv6_first extensions last =
    number_before extensions.hop_by_hop_options hop_by_hop_number (after_hop_by_hop extensions last)

-- The options or routing header with this next header field.
abbrev pub raw_leading_to : IpNumber → Ipv6RawExtHeader → Ipv6RawExtHeader
raw_leading_to next header = record header { next_header = next }

-- The fragment header with this next header field.
abbrev pub fragment_leading_to : IpNumber → Ipv6FragmentHeader → Ipv6FragmentHeader
fragment_leading_to next header = record header { next_header = next }

-- The routing headers with the next header field of the final destination options set to `last`.
abbrev pub final_leading_to : IpNumber → Ipv6RoutingExtensions → Ipv6RoutingExtensions
final_leading_to last exts =
    record exts { final_destination_options = option_map (raw_leading_to last) exts.final_destination_options }

-- The routing headers with the next header field of the routing header set to `next`.
abbrev pub routing_alone_leading_to : IpNumber → Ipv6RoutingExtensions → Ipv6RoutingExtensions
routing_alone_leading_to next exts = record exts { routing = raw_leading_to next exts.routing }

-- The routing headers with the next header fields of the routing header set to `next` and of the final destination
-- options set to `last`.
abbrev pub routing_leading_to : IpNumber → IpNumber → Ipv6RoutingExtensions → Ipv6RoutingExtensions
routing_leading_to next last exts = routing_alone_leading_to next (final_leading_to last exts)

-- The headers with their next header fields set: each refers to the next header in order, and the last one to `last`.
abbrev pub ipv6_linked : Ipv6Extensions → IpNumber → Ipv6Extensions
ipv6_linked extensions last = record {
  hop_by_hop_options = option_map (raw_leading_to (after_hop_by_hop extensions last)) extensions.hop_by_hop_options;
  destination_options = option_map (raw_leading_to (after_destination extensions last)) extensions.destination_options;
  routing = option_map (routing_leading_to (after_routing extensions last) last) extensions.routing;
  fragment = option_map (fragment_leading_to (after_fragment extensions last)) extensions.fragment;
  auth = option_map (ip_auth_leading_to (after_auth extensions last)) extensions.auth;
}

-- ---- walking

-- The unvisited header that a walk continues with at this IP number. Destination options are the final ones once a
-- routing header has been visited, and Hop-by-Hop options are visited only as the first header.
abbrev pub header_for : Ipv6Extensions → List ℕ → ℕ → Option ExtensionPart
header_for extensions taken number =
    if is_taken taken number then None
    else if number == hop_by_hop_number
    then (if is_first taken then option_map hop_by_hop extensions.hop_by_hop_options else None)
    else if number == routing_number then option_map routing (option_map routing_header extensions.routing)
    else if number == fragment_number then option_map fragment extensions.fragment
    else if number == authentication_number then option_map authentication extensions.auth
    else if number == destination_options_number
    then (if is_taken taken routing_number
    then option_map destination_options (final_by extensions.routing)
    else option_map destination_options extensions.destination_options)
    else None

-- A walk from this IP number, after the visited headers, visits these headers and ends at the last number.
abbrev pub IsWalkAfter : Ipv6Extensions → List ℕ → ℕ → List ExtensionPart → ℕ → Type 0
IsWalkAfter extensions taken number [] last = (header_for extensions taken number ≡ None) × (last ≡ number)
IsWalkAfter extensions taken number (part ∷ parts) last =
    (header_for extensions taken number ≡ Some part)
    × IsWalkAfter extensions (number ∷ taken) (part_next part) parts last

-- True if a header is present and was not visited.
abbrev pub is_left : {H G : Type 0} → Option H → Option G → Bool
is_left header walked = is_some header && not (is_some walked)

-- The IP number of the first header, in order of linking, that is in the first value and not in the second.
abbrev pub missing_number : Ipv6Extensions → Ipv6Extensions → Option ℕ
missing_number extensions walked =
    if is_left extensions.hop_by_hop_options walked.hop_by_hop_options then Some hop_by_hop_number
    else if is_left extensions.destination_options walked.destination_options then Some destination_options_number
    else if is_left extensions.routing walked.routing then Some routing_number
    else if is_left extensions.fragment walked.fragment then Some fragment_number
    else if is_left extensions.auth walked.auth then Some authentication_number
    else if is_left (final_by extensions.routing) (final_by walked.routing) then Some destination_options_number
    else None

-- The error of a walk that ended at the number `last` and left out the header with the number `missing`.
abbrev pub walk_refusal : ℕ → ℕ → ExtsWalkError
walk_refusal missing last =
    if missing == hop_by_hop_number && last == hop_by_hop_number then walk_error.HopByHopNotAtStart
    else walk_error.ExtNotReferenced (record { 0 = missing })

-- The next header fields lead from the first IP number through these headers, which are all headers of the value, to
-- the last number.
abbrev pub WalksAll : Ipv6Extensions → ℕ → List ExtensionPart → ℕ → Type 0
WalksAll extensions first parts last =
    IsWalkAfter extensions [] first parts last × (missing_number extensions (extensions_of parts) ≡ None)

-- The headers of a walk and the IP number at which it ends.
abbrev pub IsWalk : Ipv6Extensions → ℕ → List ExtensionPart × ℕ → Type 0
IsWalk extensions first walk = WalksAll extensions first walk.0 walk.1

-- The next header fields do not lead from the first IP number through all headers, for this reason.
abbrev pub RefusesWalk : Ipv6Extensions → ℕ → ExtsWalkError → Type 0
RefusesWalk extensions first error =
    (parts : List ExtensionPart) × (last missing : ℕ) × IsWalkAfter extensions [] first parts last
    × (missing_number extensions (extensions_of parts) ≡ Some missing) × (error ≡ walk_refusal missing last)
