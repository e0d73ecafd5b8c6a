-- Details of headers besides their addresses, each part with a leading space.
use Rattle.std.specs.Prelude.{ℕ, Bool, if◌then◌else◌, List, [], ◌++◌, codes}
use Rattle.std.specs.Fmt.{decimal}
use Rattle.etherparse.specs.Types.Ipv4Header.{Ipv4Header}
use Rattle.etherparse.specs.Types.Ipv6Header.{Ipv6Header}
use Rattle.etherparse.specs.Types.SingleVlanHeader.{SingleVlanHeader}

-- a text if its flag is set
abbrev pub flag_details : Bool → List ℕ → List ℕ
flag_details set text = if set then text else []

-- the time to live, the identification and the don't-fragment flag of an IPv4 header (RFC 791, 3.1)
unfoldable pub ipv4_fields_text : ℕ → ℕ → Bool → List ℕ
ipv4_fields_text time_to_live identification dont_fragment =
    (codes " ttl " ++ decimal time_to_live) ++ (codes " id " ++ decimal identification)
    ++ flag_details dont_fragment (codes " df")

-- the details of an IPv4 header
abbrev pub ipv4_details : Ipv4Header → List ℕ
ipv4_details header = ipv4_fields_text header.time_to_live header.identification header.dont_fragment

-- the hop limit and the flow label of an IPv6 header (RFC 8200, 3)
unfoldable pub ipv6_fields_text : ℕ → ℕ → List ℕ
ipv6_fields_text hop_limit flow_label = (codes " hop-limit " ++ decimal hop_limit) ++ (codes " flow " ++ decimal flow_label)

-- the details of an IPv6 header
abbrev pub ipv6_details : Ipv6Header → List ℕ
ipv6_details header = ipv6_fields_text header.hop_limit header.flow_label

-- the priority and the drop eligible indicator of a VLAN tag (IEEE 802.1Q, 9.6)
unfoldable pub vlan_fields_text : ℕ → Bool → List ℕ
vlan_fields_text priority drop_eligible = (codes " pcp " ++ decimal priority) ++ flag_details drop_eligible (codes " dei")

-- the details of a VLAN tag
abbrev pub vlan_details : SingleVlanHeader → List ℕ
vlan_details tag = vlan_fields_text tag.pcp tag.drop_eligible_indicator
