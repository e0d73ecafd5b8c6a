-- Answer of `etherparse_2_fields`: the headers at the places that a description names, and their fields.
use Rattle.std.specs.Prelude.{◌≡◌, ◌≤◌, ℕ, ◌+◌, Bool, true, List, [], ◌∷◌, length, ◌⊎◌}
use Rattle.etherparse.specs.Arp.{Arp, IsArp}
use Rattle.etherparse.specs.Ethernet2.{IsEthernet2}
use Rattle.etherparse.specs.Icmpv4.{IsIcmpv4}
use Rattle.etherparse.specs.Icmpv6.{IsIcmpv6}
use Rattle.etherparse.specs.Ipv4.{IsIpv4Header}
use Rattle.etherparse.specs.Ipv6.{IsIpv6Header}
use Rattle.etherparse.specs.LinuxSll.{IsLinuxSll}
use Rattle.etherparse.specs.Macsec.{IsMacsecHeader}
use Rattle.etherparse.specs.Tables.{Parts}
use Rattle.etherparse.specs.Tcp.{IsTcp}
use Rattle.etherparse.specs.Types.Ethernet2Header.{Ethernet2Header}
use Rattle.etherparse.specs.Types.Icmpv4Header.{Icmpv4Header}
use Rattle.etherparse.specs.Types.Icmpv6Header.{Icmpv6Header}
use Rattle.etherparse.specs.Types.Ipv4Header.{Ipv4Header}
use Rattle.etherparse.specs.Types.Ipv6Header.{Ipv6Header}
use Rattle.etherparse.specs.Types.LinuxSllHeader.{LinuxSllHeader}
use Rattle.etherparse.specs.Types.MacsecHeader.{MacsecHeader}
use Rattle.etherparse.specs.Types.SingleVlanHeader.{SingleVlanHeader}
use Rattle.etherparse.specs.Types.TcpHeader.{TcpHeader}
use Rattle.etherparse.specs.Types.UdpHeader.{UdpHeader}
use Rattle.etherparse.specs.Udp.{IsUdpHeader}
use Rattle.etherparse.specs.Vlan.{IsVlan}
use Rattle.etherparse_c.specs.declared.fields.ArpFields.{ArpFields}
use Rattle.etherparse_c.specs.declared.fields.Fields.{Fields}
use Rattle.etherparse_c.specs.declared.fields.IpFields.{IpFields}
use Rattle.etherparse_c.specs.declared.fields.LinkFields.{LinkFields}
use Rattle.etherparse_c.specs.declared.fields.TagFields.{TagFields}
use Rattle.etherparse_c.specs.declared.fields.TransportFields.{TransportFields}
use Rattle.etherparse_c.specs.declared.packet.Ip.{Ip}
use Rattle.etherparse_c.specs.declared.packet.LinkExt.{LinkExt}
use Rattle.etherparse_c.specs.declared.packet.Packet.{Packet}
use Rattle.etherparse_c.specs.declared.packet.Part.{Part}
use Rattle.etherparse_c.specs.declared.packet.Payload.{Payload}
use Rattle.etherparse_c.specs.Fields.{arp_fields, ethernet2_fields, icmpv4_fields, icmpv6_fields, ipv4_fields}
use Rattle.etherparse_c.specs.Fields.{ipv6_fields, linux_sll_fields, macsec_fields, no_arp_fields, no_fields}
use Rattle.etherparse_c.specs.Fields.{no_ip_fields, no_link_fields, no_tag_fields, port_fields}
use Rattle.etherparse_c.specs.Fields.{tcp_fields, udp_fields, vlan_fields}
use Rattle.etherparse_c.specs.Places.{bytes_at}

-- ---- headers of some bytes

-- The bytes are an Ethernet II header and more bytes, and these are its fields.
abbrev pub HasEthernet2 : LinkFields → List ℕ → Type 0
HasEthernet2 fields bytes =
    (frame : Parts Ethernet2Header) × IsEthernet2 bytes frame × (fields ≡ ethernet2_fields frame.header)

-- The bytes are a Linux cooked capture header and more bytes, and these are its fields.
abbrev pub HasLinuxSll : LinkFields → List ℕ → Type 0
HasLinuxSll fields bytes =
    (packet : Parts LinuxSllHeader) × IsLinuxSll bytes packet × (fields ≡ linux_sll_fields packet.header)

-- The bytes are a VLAN tag and more bytes, and these are its fields.
abbrev pub HasVlan : TagFields → List ℕ → Type 0
HasVlan fields bytes =
    (tagged : Parts SingleVlanHeader) × IsVlan bytes tagged × (fields ≡ vlan_fields tagged.header)

-- The bytes are a MACsec tag and more bytes, and these are its fields.
abbrev pub HasMacsec : TagFields → List ℕ → Type 0
HasMacsec fields bytes =
    (read : MacsecHeader × List ℕ) × IsMacsecHeader bytes read × (fields ≡ macsec_fields read.0)

-- The bytes are an IPv4 header and more bytes, and these are its fields, for a header at this offset.
abbrev pub HasIpv4 : ℕ → Ip → IpFields → List ℕ → Type 0
HasIpv4 offset described fields bytes =
    (read : Ipv4Header × List ℕ) × IsIpv4Header bytes read × (fields ≡ ipv4_fields offset described read.0)

-- The bytes are an IPv6 header and more bytes, and these are its fields.
abbrev pub HasIpv6 : Ip → IpFields → List ℕ → Type 0
HasIpv6 described fields bytes =
    (read : Ipv6Header × List ℕ) × IsIpv6Header bytes read × (fields ≡ ipv6_fields described read.0)

-- The bytes are an ARP packet and more bytes, and these are its fields, for a packet at this offset.
abbrev pub HasArp : ℕ → ArpFields → List ℕ → Type 0
HasArp offset fields bytes = (read : Arp × List ℕ) × IsArp bytes read × (fields ≡ arp_fields offset read.0)

-- The bytes are a UDP header and more bytes, and these are its fields.
abbrev pub HasUdp : TransportFields → List ℕ → Type 0
HasUdp fields bytes = (read : UdpHeader × List ℕ) × IsUdpHeader bytes read × (fields ≡ udp_fields read.0)

-- The bytes are a TCP header and more bytes, and these are its fields, for a header at this offset.
abbrev pub HasTcp : ℕ → TransportFields → List ℕ → Type 0
HasTcp offset fields bytes =
    (segment : Parts TcpHeader) × IsTcp bytes segment × (fields ≡ tcp_fields offset segment.header)

-- The bytes are an ICMP message, and these are the fields of its header.
abbrev pub HasIcmpv4 : TransportFields → List ℕ → Type 0
HasIcmpv4 fields bytes =
    (message : Parts Icmpv4Header) × IsIcmpv4 bytes message × (fields ≡ icmpv4_fields bytes message.header)

-- The bytes are an ICMPv6 message, and these are the fields of its header.
abbrev pub HasIcmpv6 : TransportFields → List ℕ → Type 0
HasIcmpv6 fields bytes =
    (message : Parts Icmpv6Header) × IsIcmpv6 bytes message × (fields ≡ icmpv6_fields bytes message.header)

-- ---- headers at described places

-- The place ends within the bytes, and `Holds` is true of the bytes there.
abbrev pub HoldsAt : List ℕ → ℕ → ℕ → (List ℕ → Type 0) → Type 0
HoldsAt bytes offset len Holds = (offset + len ≤ length bytes) × Holds (bytes_at bytes offset len)

-- The described link header is at its place in the bytes, with these fields; without a link header they are 0.
abbrev pub IsLinkAt : Part → List ℕ → LinkFields → Type 0
IsLinkAt link bytes fields =
    ((link.kind ≡ 0) × (fields ≡ no_link_fields))
    ⊎ ((link.kind ≡ 1) × HoldsAt bytes link.offset link.len (HasEthernet2 fields))
    ⊎ ((link.kind ≡ 2) × HoldsAt bytes link.offset link.len (HasLinuxSll fields))

-- The described tag is at its place in the bytes, with these fields; without a tag they are 0.
abbrev pub IsTagAt : LinkExt → List ℕ → TagFields → Type 0
IsTagAt tag bytes fields =
    ((tag.kind ≡ 0) × (fields ≡ no_tag_fields))
    ⊎ ((tag.kind ≡ 1) × HoldsAt bytes tag.offset tag.len (HasVlan fields))
    ⊎ ((tag.kind ≡ 2) × HoldsAt bytes tag.offset tag.len (HasMacsec fields))

-- Each of the described tags is at its place in the bytes, with its fields.
abbrev pub AreTagsAt : List LinkExt → List ℕ → List TagFields → Type 0
AreTagsAt [] bytes [] = Unit {0}
AreTagsAt [] bytes (fields ∷ others) = ⊥
AreTagsAt (tag ∷ tags) bytes [] = ⊥
AreTagsAt (tag ∷ tags) bytes (fields ∷ others) = IsTagAt tag bytes fields × AreTagsAt tags bytes others

-- The described network header is at its place in the bytes, with these fields of IP or ARP; the others are 0.
abbrev pub IsNetAt : Part → Ip → List ℕ → IpFields → ArpFields → Type 0
IsNetAt net described bytes ip arp =
    ((net.kind ≡ 0) × ((ip ≡ no_ip_fields) × (arp ≡ no_arp_fields)))
    ⊎ ((net.kind ≡ 1) × ((ip ≡ no_ip_fields) × HoldsAt bytes net.offset net.len (HasArp net.offset arp)))
    ⊎ ((net.kind ≡ 4) × (HoldsAt bytes net.offset net.len (HasIpv4 net.offset described ip) × (arp ≡ no_arp_fields)))
    ⊎ ((net.kind ≡ 6) × (HoldsAt bytes net.offset net.len (HasIpv6 described ip) × (arp ≡ no_arp_fields)))

-- The described payload is at its place in the bytes, and these are the ports of a truncated transport header that it
-- begins with; the other fields are 0.
abbrev pub ArePortsAt : Ip → Payload → List ℕ → TransportFields → Type 0
ArePortsAt described payload bytes fields =
    HoldsAt bytes payload.offset payload.len (λ payload. fields ≡ port_fields described payload)

-- The described transport header is at its place in the bytes, with these fields; without a transport header they are
-- 0, but for the ports of a truncated one.
abbrev pub IsTransportAt : Part → Ip → Payload → List ℕ → TransportFields → Type 0
IsTransportAt transport described payload bytes fields =
    ((transport.kind ≡ 0) × ArePortsAt described payload bytes fields)
    ⊎ ((transport.kind ≡ 1) × HoldsAt bytes transport.offset transport.len (HasIcmpv4 fields))
    ⊎ ((transport.kind ≡ 6) × HoldsAt bytes transport.offset transport.len (HasTcp transport.offset fields))
    ⊎ ((transport.kind ≡ 17) × HoldsAt bytes transport.offset transport.len (HasUdp fields))
    ⊎ ((transport.kind ≡ 58) × HoldsAt bytes transport.offset transport.len (HasIcmpv6 fields))

-- Each described header is at its place in the bytes, and these are the fields of all headers. The verdicts on checksums
-- are 0, since this call reads no payload.
pub record AreFields (packet : Packet) (bytes : List ℕ) (fields : Fields) : Type 0 where
  pub link : IsLinkAt packet.link bytes fields.link
  pub tags : AreTagsAt packet.link_exts bytes fields.tags
  pub net : IsNetAt packet.net packet.ip bytes fields.ip fields.arp
  pub transport : IsTransportAt packet.transport packet.ip packet.payload bytes fields.transport
  pub header_checksum : fields.header_checksum ≡ 0
  pub transport_checksum : fields.transport_checksum ≡ 0

-- Contract of a call that returns whether it reads a value: `Is` holds of the value and of no other, or of none.
pub record ReadsOnly {Value : Type 0} (Is : Value → Type 0) (read : Bool) (value : Value) : Type 0 where
  pub found : read ≡ true → Is value
  pub only : (other : Value) → Is other → (read ≡ true) × (other ≡ value)

-- The status is 0, and the described headers are at their places in the bytes, with these fields and no others; or it
-- is 2, the bytes do not have the described headers at their places, and all fields are 0.
abbrev pub IsFieldsAnswer : Packet → List ℕ → ℕ → Fields → Type 0
IsFieldsAnswer packet bytes status fields =
    ((status ≡ 0) × AreFields packet bytes fields × ((other : Fields) → AreFields packet bytes other → other ≡ fields))
    ⊎ ((status ≡ 2) × (fields ≡ no_fields) × ((other : Fields) → ¬ AreFields packet bytes other))
