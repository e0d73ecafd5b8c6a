-- The fragment of a larger IP payload in a frame, and its identification (RFC 791, 3.2; RFC 8200, 4.5).
use Rattle.std.specs.Prelude.{ℕ, Bool, if◌then◌else◌, List, [], ◌∷◌, Option, Some, None}
use Rattle.std.specs.Option.{option_and_then}
use Rattle.ep_base.specs.IpPayload.{IpPayload}
use Rattle.ep_ext.specs.declared.ipv6_fragment_header.Ipv6FragmentHeader.{Ipv6FragmentHeader}
use Rattle.ep_ext.specs.ExtensionParts.{ExtensionPart, hop_by_hop, destination_options, routing, fragment, authentication}
use Rattle.ep_ext.specs.FragmentHeader.{is_ipv6_fragment}
use Rattle.ep_ip.specs.declared.ipv4_header.Ipv4Header.{Ipv4Header}
use Rattle.ep_ip.specs.declared.ipv6_header.Ipv6Header.{Ipv6Header}
use Rattle.ep_ip.specs.Ipv4.{is_ipv4_fragment}
use Rattle.ep_packet.specs.Layers.{Layers, NetLayer, ipv4, ipv6, arp}
use Rattle.ep_packet.specs.VlanTags.{vlan_ids_in}

-- IP version, source and destination address, and identification of a packet that carries a fragment.
pub data FragmentId : Type 0 where
  ipv4_id : List ℕ → List ℕ → ℕ → FragmentId
  ipv6_id : List ℕ → List ℕ → ℕ → FragmentId

-- A fragment: the keys of the payload it belongs to (VLAN identifiers from the outside in, identification of the
-- packet, protocol number of the payload), its offset in units of 8 bytes, whether more fragments follow, and its
-- bytes.
pub record FrameFragment : Type 0 where
  pub vlan_ids : List ℕ
  pub id : FragmentId
  pub payload_number : ℕ
  pub offset : ℕ
  pub more : Bool
  pub bytes : List ℕ

-- The first fragment header in a list of extension headers.
abbrev pub first_fragment : List ExtensionPart → Option Ipv6FragmentHeader
first_fragment [] = None
first_fragment (hop_by_hop header ∷ parts) = first_fragment parts
first_fragment (destination_options header ∷ parts) = first_fragment parts
first_fragment (routing header ∷ parts) = first_fragment parts
first_fragment (fragment header ∷ parts) = Some header
first_fragment (authentication header ∷ parts) = first_fragment parts

-- The fragment in an IPv4 packet, if its header states that it is one.
abbrev pub ipv4_fragment : List ℕ → Ipv4Header → IpPayload → Option FrameFragment
ipv4_fragment vlan_ids header payload =
    if is_ipv4_fragment header
    then Some (record {
      vlan_ids = vlan_ids;
      id = ipv4_id header.source header.destination header.identification;
      payload_number = payload.number;
      offset = header.fragment_offset;
      more = header.more_fragments;
      bytes = payload.bytes;
    })
    else None

-- The fragment in an IPv6 packet with this fragment header, if the fragment header states that it is one.
abbrev pub ipv6_fragment : List ℕ → Ipv6Header → IpPayload → Ipv6FragmentHeader → Option FrameFragment
ipv6_fragment vlan_ids header payload part =
    if is_ipv6_fragment part
    then Some (record {
      vlan_ids = vlan_ids;
      id = ipv6_id header.source header.destination part.identification;
      payload_number = payload.number;
      offset = part.fragment_offset;
      more = part.more_fragments;
      bytes = payload.bytes;
    })
    else None

-- The fragment in a network layer. In IPv6 the first fragment header counts.
abbrev pub net_fragment : List ℕ → NetLayer → Option FrameFragment
net_fragment vlan_ids (ipv4 header extensions payload) = ipv4_fragment vlan_ids header payload
net_fragment vlan_ids (ipv6 header extensions payload) =
    option_and_then (ipv6_fragment vlan_ids header payload) (first_fragment extensions)
net_fragment vlan_ids (arp packet) = None

-- The fragment in a frame.
abbrev pub fragment_of : Layers → Option FrameFragment
fragment_of layers = option_and_then (net_fragment (vlan_ids_in layers.link_exts)) layers.net
