-- The extension headers of owned IPv6 headers, each as a list of one or none.
use Rattle.std.proofs.Common.{List}
use Rattle.std.specs.Option.{option_map}
use Rattle.ep_ext.specs.ExtensionParts.{ExtensionPart, authentication, destination_options, fragment, hop_by_hop}
use Rattle.ep_ext.specs.ExtensionParts.{optional_part, routing}
use Rattle.ep_ext.specs.Ipv6Chains.{final_by, routing_header}
use Rattle.ep_ext.specs.declared.ipv6_exts.Ipv6Extensions.{Ipv6Extensions}

pub record HeaderLists : Type 0 where
  pub hop : List ExtensionPart
  pub destination : List ExtensionPart
  pub after : List ExtensionPart
  pub fragments : List ExtensionPart
  pub auth : List ExtensionPart
  pub final : List ExtensionPart

abbrev pub header_lists : Ipv6Extensions → HeaderLists
header_lists extensions = record {
  hop = optional_part hop_by_hop extensions.hop_by_hop_options;
  destination = optional_part destination_options extensions.destination_options;
  after = optional_part routing (option_map routing_header extensions.routing);
  fragments = optional_part fragment extensions.fragment;
  auth = optional_part authentication extensions.auth;
  final = optional_part destination_options (final_by extensions.routing);
}
