-- State of a walk along the next header fields of IPv6 extension headers.
use Rattle.std.specs.Prelude.{ℕ, ◌==◌, ◌&&◌, not, true, false, if◌then◌else◌, Option, Some, None, option_map, is_some}
use Rattle.ep_base.specs.IpNumbers.{hop_by_hop_number, routing_number, fragment_number, authentication_number, destination_options_number}
use Rattle.ep_ext.specs.declared.ipv6_exts.Ipv6Extensions.{Ipv6Extensions}
use Rattle.ep_ext.specs.declared.ipv6_exts_walk.HeaderRef.{HeaderRef}
use Rattle.ep_ext.specs.declared.ipv6_exts_walk.HeaderRef.TheVariants as header
use Rattle.ep_ext.specs.declared.ipv6_exts_walk.VisitedHeaders.{VisitedHeaders}
use Rattle.ep_ext.specs.ExtensionParts.{ExtensionPart, hop_by_hop, destination_options, routing, fragment, authentication}
use Rattle.ep_ext.specs.Ipv6Chains.{routing_header, final_by}

-- The header of a reference.
abbrev pub header_ref_part : HeaderRef → ExtensionPart
header_ref_part (header.HopByHop borrowed) = hop_by_hop borrowed.now
header_ref_part (header.DestinationOptions borrowed) = destination_options borrowed.now
header_ref_part (header.Routing borrowed) = routing borrowed.now
header_ref_part (header.Fragment borrowed) = fragment borrowed.now
header_ref_part (header.Authentication borrowed) = authentication borrowed.now

-- The marks after a header is visited.
abbrev pub marked : VisitedHeaders → ExtensionPart → VisitedHeaders
marked marks (hop_by_hop header) = record marks { any = true; hop_by_hop = true }
marked marks (destination_options header) =
    if marks.routing then record marks { any = true; final_destination_options = true }
    else record marks { any = true; destination_options = true }
marked marks (routing header) = record marks { any = true; routing = true; final_destination_options = false }
marked marks (fragment header) = record marks { any = true; fragment = true }
marked marks (authentication header) = record marks { any = true; auth = true }

-- The unvisited header that the IP number refers to.
abbrev pub header_at : Ipv6Extensions → VisitedHeaders → ℕ → Option ExtensionPart
header_at extensions marks number =
    if number == hop_by_hop_number
    then (if marks.any then None else option_map hop_by_hop extensions.hop_by_hop_options)
    else if number == routing_number
    then (if marks.routing then None else option_map routing (option_map routing_header extensions.routing))
    else if number == fragment_number
    then (if marks.fragment then None else option_map fragment extensions.fragment)
    else if number == authentication_number
    then (if marks.auth then None else option_map authentication extensions.auth)
    else if number == destination_options_number
    then (if marks.routing
    then (if marks.final_destination_options then None
    else option_map destination_options (final_by extensions.routing))
    else (if marks.destination_options then None
    else option_map destination_options extensions.destination_options))
    else None

-- The IP number of the first unvisited header, in order of linking.
abbrev pub missing_at : Ipv6Extensions → VisitedHeaders → Option ℕ
missing_at extensions marks =
    if is_some extensions.hop_by_hop_options && not marks.hop_by_hop then Some hop_by_hop_number
    else if is_some extensions.destination_options && not marks.destination_options then Some destination_options_number
    else if is_some extensions.routing && not marks.routing then Some routing_number
    else if is_some extensions.fragment && not marks.fragment then Some fragment_number
    else if is_some extensions.auth && not marks.auth then Some authentication_number
    else if is_some (final_by extensions.routing) && not marks.final_destination_options
    then Some destination_options_number
    else None
