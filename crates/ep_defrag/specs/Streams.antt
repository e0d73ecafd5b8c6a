-- The streams of fragments: the identifier of a stream, and when two identifiers are equal.
use Rattle.std.specs.Prelude.{ℕ, Bool, false, ◌&&◌, ◌==◌, nat_eq, List}
use Rattle.std.specs.Cmp.Lexicographic.{pointwise}
use Rattle.ep_base.specs.declared.ip_number.IpNumber.{IpNumber}
use Rattle.ep_base.specs.declared.len_source.LenSource.{LenSource}
use Rattle.ep_base.specs.declared.len_source.LenSource.TheVariants.{Ipv4HeaderTotalLen, Ipv6HeaderPayloadLen}
use Rattle.ep_packet.specs.FrameFragments.{FragmentId, ipv4_id, ipv6_id, FrameFragment}
use Rattle.ep_defrag.specs.declared.ip_frag_id.IpFragVersionSpecId.{IpFragVersionSpecId}
use Rattle.ep_defrag.specs.declared.ip_frag_id.IpFragVersionSpecId.TheVariants.{Ipv4, Ipv6}
use Rattle.ep_defrag.specs.declared.ip_frag_id.IpFragId.{IpFragId}
use Rattle.ep_defrag.specs.IpFragments.{IpFragment, fragment_with}

-- a fragment with its packet's fields: the VLAN identifiers in their order, the IP version with the addresses and the
-- identification, the protocol number of the payload, and the fragment itself
pub record PacketFragment : Type 0 where
  pub vlan_ids : List ℕ
  pub ip : IpFragVersionSpecId
  pub payload_ip_number : IpNumber
  pub fragment : IpFragment

-- IP version, addresses and identification, as a part of a stream's identifier
abbrev pub version_named : FragmentId → IpFragVersionSpecId
version_named (ipv4_id source destination identification) = Ipv4 source destination identification
version_named (ipv6_id source destination identification) = Ipv6 source destination identification

-- fragment that the layers of a frame carry
abbrev pub packet_fragment : FrameFragment → PacketFragment
packet_fragment found = record {
  vlan_ids = found.vlan_ids;
  ip = version_named found.id;
  payload_ip_number = record { 0 = found.payload_number };
  fragment = fragment_with found.offset found.more found.bytes;
}

-- identifier of its stream, with the channel
abbrev pub name_of : {C : Type 0} → PacketFragment → C → IpFragId C
name_of carried channel = record {
  vlan_ids = record { items = carried.vlan_ids };
  ip = carried.ip;
  payload_ip_number = carried.payload_ip_number;
  channel_id = channel;
}

-- whether two lists of numbers are equal
abbrev pub same_numbers : List ℕ → List ℕ → Bool
same_numbers a b = pointwise nat_eq a b

-- whether versions, addresses and identifications are equal
abbrev pub same_version : IpFragVersionSpecId → IpFragVersionSpecId → Bool
same_version (Ipv4 source destination identification) (Ipv4 other_source other_destination other) =
    same_numbers source other_source && same_numbers destination other_destination && identification == other
same_version (Ipv6 source destination identification) (Ipv6 other_source other_destination other) =
    same_numbers source other_source && same_numbers destination other_destination && identification == other
same_version (Ipv4 source destination identification) (Ipv6 other_source other_destination other) = false
same_version (Ipv6 source destination identification) (Ipv4 other_source other_destination other) = false

-- whether two identifiers are equal in all parts, the channel by its own equality
abbrev pub same_stream : {C : Type 0} → (C → C → Bool) → IpFragId C → IpFragId C → Bool
same_stream eq a b =
    same_numbers a.vlan_ids.items b.vlan_ids.items && same_version a.ip b.ip
    && a.payload_ip_number.0 == b.payload_ip_number.0 && eq a.channel_id b.channel_id

-- length field of the IP version, which limits a stream's fragments unless it is an IPv6 payload length of 0
abbrev pub source_of : IpFragVersionSpecId → LenSource
source_of (Ipv4 source destination identification) = Ipv4HeaderTotalLen
source_of (Ipv6 source destination identification) = Ipv6HeaderPayloadLen
