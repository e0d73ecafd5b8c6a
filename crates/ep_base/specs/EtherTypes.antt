-- Ether types of the layers that are parsed (IEEE 802.3, 3.2.6; IEEE 802.1Q, 9.5; IEEE 802.1AE, 9.4).
use Rattle.std.specs.Prelude.{ℕ}

-- IPv4
abbrev pub ipv4_type : ℕ
ipv4_type = 0x0800

-- ARP
abbrev pub arp_type : ℕ
arp_type = 0x0806

-- IPv6
abbrev pub ipv6_type : ℕ
ipv6_type = 0x86DD

-- a customer VLAN tag
abbrev pub vlan_type : ℕ
vlan_type = 0x8100

-- a service VLAN tag of provider bridging
abbrev pub provider_bridging_type : ℕ
provider_bridging_type = 0x88A8

-- a VLAN tag with the older number that was used for double tagged frames
abbrev pub double_vlan_type : ℕ
double_vlan_type = 0x9100

-- a MACsec tag
abbrev pub macsec_type : ℕ
macsec_type = 0x88E5
