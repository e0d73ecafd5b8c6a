-- The laws of each layer: bytes are one value of it, or are rejected with one error.
use Rattle.std.proofs.Common.{◌≡◌, ◌⊎◌, ℕ, Bool, List, ◌++◌, Option}
use Rattle.ep_base.specs.Bytes.{AreBytes}
use Rattle.ep_base.specs.Readings.{Reading}
use Rattle.ep_base.specs.Tables.{IsDecided}
use Rattle.ep_base.specs.declared.ether_type.EtherType.{EtherType}
use Rattle.ep_link.specs.Arp.{IsArp, RefusesArp}
use Rattle.ep_link.specs.Ethernet2.{IsEthernet2, RefusesEthernet2}
use Rattle.ep_base.specs.declared.err.macsec.HeaderSliceError.{HeaderSliceError as ExtensionError}
use Rattle.ep_link.specs.LinkExtensions.{LinkExtension, BeginsLinkExtension, EncodesTag, IsLinkExtension, RefusesLinkExtension, extension_payload}
use Rattle.ep_link.specs.LinuxSll.{IsLinuxSll, RefusesLinuxSll}
use Rattle.ep_ip.specs.declared.ipv4_header.Ipv4Header.{Ipv4Header}
use Rattle.ep_ip.specs.declared.ipv6_header.Ipv6Header.{Ipv6Header}
use Rattle.ep_ip.specs.IpBytes.{AreIpv4Bytes, AreIpv6Bytes}
use Rattle.ep_ip.specs.IpPackets.{IpPacket, IsIpv4, RefusesIpv4, IsIpv6, RefusesIpv6, IsIp, RefusesIp}
use Rattle.ep_transport.specs.TransportParts.{TransportLayer, AreTransport, IsTransportPart, RefusesTransportPart}

-- A link extension, and the trailing bytes that its short length excludes.
abbrev pub ExtensionPart : Type 0
ExtensionPart = LinkExtension × List ℕ

-- The laws of the link extensions.
pub record ExtensionLaws : Type 0 where
  pub cases : (type : EtherType) → BeginsLinkExtension type ⊎ (¬ BeginsLinkExtension type)
  pub decided : (type : EtherType) (bytes : List ℕ) → AreBytes bytes → BeginsLinkExtension type
      → IsDecided (IsLinkExtension type bytes) (RefusesLinkExtension type bytes)
  pub begins : (type : EtherType) (bytes : List ℕ) (part : ExtensionPart)
      → IsLinkExtension type bytes part → BeginsLinkExtension type
  pub refused : (type : EtherType) (bytes : List ℕ) (error : ExtensionError)
      → RefusesLinkExtension type bytes error → BeginsLinkExtension type
  pub bytes : (type : EtherType) (bytes : List ℕ) (part : ExtensionPart) → IsLinkExtension type bytes part
      → (tag : List ℕ) × EncodesTag part.0 tag × (bytes ≡ (tag ++ extension_payload part.0) ++ part.1)

-- The laws of all layers.
pub record Deciders : Type 0 where
  pub ethernet2 : (bytes : List ℕ) → AreBytes bytes → IsDecided (IsEthernet2 bytes) (RefusesEthernet2 bytes)
  pub linux_sll : (bytes : List ℕ) → AreBytes bytes → IsDecided (IsLinuxSll bytes) (RefusesLinuxSll bytes)
  pub extension : ExtensionLaws
  pub arp : (bytes : List ℕ) → AreBytes bytes → IsDecided (IsArp bytes) (RefusesArp bytes)
  pub ipv4 : (reading : Reading) (bytes : List ℕ) → AreBytes bytes
      → IsDecided (IsIpv4 reading bytes) (RefusesIpv4 reading bytes)
  pub ipv6 : (reading : Reading) (bytes : List ℕ) → AreBytes bytes
      → IsDecided (IsIpv6 reading bytes) (RefusesIpv6 reading bytes)
  pub ip : (reading : Reading) (bytes : List ℕ) → AreBytes bytes
      → IsDecided (IsIp reading bytes) (RefusesIp reading bytes)
  pub ipv4_bytes : (reading : Reading) (bytes : List ℕ) (packet : IpPacket Ipv4Header) → IsIpv4 reading bytes packet
      → AreIpv4Bytes bytes packet
  pub ipv6_bytes : (reading : Reading) (bytes : List ℕ) (packet : IpPacket Ipv6Header) → IsIpv6 reading bytes packet
      → AreIpv6Bytes bytes packet
  pub transport : (reading : Reading) (number : ℕ) (fragmented : Bool) (bytes : List ℕ) → AreBytes bytes
      → IsDecided (IsTransportPart reading number fragmented bytes)
      (RefusesTransportPart reading number fragmented bytes)
  pub transport_bytes : (reading : Reading) (number : ℕ) (fragmented : Bool) (bytes : List ℕ)
      (part : Option TransportLayer) → IsTransportPart reading number fragmented bytes part → AreTransport bytes part
