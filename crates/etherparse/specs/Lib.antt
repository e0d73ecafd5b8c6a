-- The definitions that the library's contracts name, and the definitions that these depend on, from the innermost crate
-- to the outermost. The name of each file is unique in the library.
pub mod Types
-- numbers, lengths and errors that the layers share
pub use Rattle.ep_base.specs.Bounded
pub use Rattle.ep_base.specs.Bytes
pub use Rattle.ep_base.specs.Checksum
pub use Rattle.ep_base.specs.NumberComparisons
pub use Rattle.ep_base.specs.EtherTypes
pub use Rattle.ep_base.specs.IpNumbers
pub use Rattle.ep_base.specs.IpPayload
pub use Rattle.ep_base.specs.Readings
pub use Rattle.ep_base.specs.Missing
pub use Rattle.ep_base.specs.Names
pub use Rattle.ep_base.specs.Padding
pub use Rattle.ep_base.specs.Tables
-- link layers, link extensions and ARP
pub use Rattle.ep_link.specs.Arp
pub use Rattle.ep_link.specs.ArpSlices
pub use Rattle.ep_link.specs.EtherPayloads
pub use Rattle.ep_link.specs.Ethernet2
pub use Rattle.ep_link.specs.Ethernet2Slices
pub use Rattle.ep_link.specs.LinkExtensions
pub use Rattle.ep_link.specs.LinkSlices
pub use Rattle.ep_link.specs.LinuxSll
pub use Rattle.ep_link.specs.LinuxSllSlices
pub use Rattle.ep_link.specs.Macsec
pub use Rattle.ep_link.specs.MacsecSlices
pub use Rattle.ep_link.specs.Vlan
pub use Rattle.ep_link.specs.VlanSlices
-- extension headers of IP
pub use Rattle.ep_ext.specs.Chains
pub use Rattle.ep_ext.specs.ExtensionParts
pub use Rattle.ep_ext.specs.FragmentHeader
pub use Rattle.ep_ext.specs.FragmentHeaderSlices
pub use Rattle.ep_ext.specs.IpAuth
pub use Rattle.ep_ext.specs.IpAuthSlices
pub use Rattle.ep_ext.specs.Ipv4Chains
pub use Rattle.ep_ext.specs.Ipv6Chains
pub use Rattle.ep_ext.specs.Ipv6ExtensionSlices
pub use Rattle.ep_ext.specs.RawExtension
pub use Rattle.ep_ext.specs.RawExtensionSlices
pub use Rattle.ep_ext.specs.ShownChains
pub use Rattle.ep_ext.specs.Walks
-- IP
pub use Rattle.ep_ip.specs.Ip
pub use Rattle.ep_ip.specs.IpBytes
pub use Rattle.ep_ip.specs.IpPackets
pub use Rattle.ep_ip.specs.IpSlices
pub use Rattle.ep_ip.specs.Ipv4
pub use Rattle.ep_ip.specs.Ipv4Slices
pub use Rattle.ep_ip.specs.Ipv6
pub use Rattle.ep_ip.specs.Ipv6Slices
-- transport layers
pub use Rattle.ep_transport.specs.Icmp
pub use Rattle.ep_transport.specs.Icmpv4
pub use Rattle.ep_transport.specs.Icmpv4Slices
pub use Rattle.ep_transport.specs.Icmpv6
pub use Rattle.ep_transport.specs.Icmpv6Slices
pub use Rattle.ep_transport.specs.PseudoHeaders
pub use Rattle.ep_transport.specs.Tcp
pub use Rattle.ep_transport.specs.TcpOptionBytes
pub use Rattle.ep_transport.specs.TcpOptionSteps
pub use Rattle.ep_transport.specs.TcpSlices
pub use Rattle.ep_transport.specs.TransportHeaders
pub use Rattle.ep_transport.specs.TransportNumbers
pub use Rattle.ep_transport.specs.TransportParts
pub use Rattle.ep_transport.specs.Udp
pub use Rattle.ep_transport.specs.UdpSlices
-- whole packets
pub use Rattle.ep_packet.specs.PacketComparisons
pub use Rattle.ep_packet.specs.FrameCuts
pub use Rattle.ep_packet.specs.FrameFragments
pub use Rattle.ep_packet.specs.Frame
pub use Rattle.ep_packet.specs.FrameBytes
pub use Rattle.ep_packet.specs.HeadersWalk
pub use Rattle.ep_packet.specs.IpHeaders
pub use Rattle.ep_packet.specs.LayerErrors
pub use Rattle.ep_packet.specs.Layers
pub use Rattle.ep_packet.specs.NetHeaders
pub use Rattle.ep_packet.specs.PayloadStarts
pub use Rattle.ep_packet.specs.NetSlices
pub use Rattle.ep_packet.specs.Offsets
pub use Rattle.ep_packet.specs.PacketHeaders
pub use Rattle.ep_packet.specs.PayloadParts
pub use Rattle.ep_packet.specs.Payloads
pub use Rattle.ep_packet.specs.FrameRefusals
pub use Rattle.ep_packet.specs.ShownBytes
pub use Rattle.ep_packet.specs.TwoParsers
pub use Rattle.ep_packet.specs.UncutTags
pub use Rattle.ep_packet.specs.Verdicts
pub use Rattle.ep_packet.specs.FrameVerdicts
pub use Rattle.ep_packet.specs.VlanTags
pub use Rattle.ep_packet.specs.Walk
-- lax parsing of truncated packets
pub use Rattle.ep_base.specs.LaxCut
pub use Rattle.ep_ext.specs.ChainPrefixes
pub use Rattle.ep_ip.specs.LaxIp
pub use Rattle.ep_packet.specs.LaxIpHeaders
pub use Rattle.ep_lax.specs.LaxMacsec
pub use Rattle.ep_lax.specs.LaxSlices
pub use Rattle.ep_lax.specs.LaxLayers
pub use Rattle.ep_lax.specs.Lax
pub use Rattle.ep_lax.specs.LaxRefusals
pub use Rattle.ep_lax.specs.LaxViews
pub use Rattle.ep_lax.specs.LaxPackets
pub use Rattle.ep_lax.specs.LaxVerdicts
pub use Rattle.ep_lax.specs.LaxPayloads
pub use Rattle.ep_lax.specs.LaxPayloadParts
pub use Rattle.ep_lax.specs.LaxPacketHeaders
pub use Rattle.ep_lax.specs.StrictFrames
pub use Rattle.ep_lax.specs.LaxHeaders
pub use Rattle.ep_lax.specs.LengthFields
pub use Rattle.ep_lax.specs.MissingBytes
pub use Rattle.ep_lax.specs.WholeFrames
pub use Rattle.ep_lax.specs.Truncation
pub use Rattle.ep_lax.specs.LaxStops
pub use Rattle.ep_lax.specs.LaxComparisons
pub use Rattle.ep_lax.specs.QuotedPackets
pub use Rattle.ep_lax.specs.LaxHeaderComparisons
-- building
pub use Rattle.ep_build.specs.AppendedFrames
pub use Rattle.ep_build.specs.BuildErrors
pub use Rattle.ep_build.specs.BuiltFragments
pub use Rattle.ep_build.specs.BuiltFrames
pub use Rattle.ep_build.specs.Fits
pub use Rattle.ep_build.specs.KeptFields
pub use Rattle.ep_build.specs.Placing
pub use Rattle.ep_build.specs.ReadBack
pub use Rattle.ep_build.specs.Steps
-- reassembly of fragments
pub use Rattle.ep_defrag.specs.Buffers
pub use Rattle.ep_defrag.specs.BuiltCuts
pub use Rattle.ep_defrag.specs.Calls
pub use Rattle.ep_defrag.specs.DefragComparisons
pub use Rattle.ep_defrag.specs.Completing
pub use Rattle.ep_defrag.specs.PayloadCuts
pub use Rattle.ep_defrag.specs.IpFragments
pub use Rattle.ep_defrag.specs.FrameCalls
pub use Rattle.ep_defrag.specs.Isolation
pub use Rattle.ep_defrag.specs.NameHashes
pub use Rattle.ep_defrag.specs.Pools
pub use Rattle.ep_defrag.specs.Ranges
pub use Rattle.ep_defrag.specs.FragmentRefusals
pub use Rattle.ep_defrag.specs.Capacities
pub use Rattle.ep_defrag.specs.Runs
pub use Rattle.ep_defrag.specs.Streams
pub use Rattle.ep_defrag.specs.IpDefragErrorTexts
pub use Rattle.ep_defrag.specs.BoundedLimits
pub use Rattle.ep_defrag.specs.BoundedErrorTexts
pub use Rattle.ep_defrag.specs.BoundedOverlaps
pub use Rattle.ep_defrag.specs.BoundedSteps
pub use Rattle.ep_defrag.specs.BoundedDiscards
pub use Rattle.ep_defrag.specs.BoundedRuns
pub use Rattle.ep_defrag.specs.BoundedCounts
pub use Rattle.ep_defrag.specs.BoundedGiven
pub use Rattle.ep_defrag.specs.BoundedNames
pub use Rattle.ep_defrag.specs.BoundedAnswers
pub use Rattle.ep_defrag.specs.BoundedPools
-- constants of modules
pub use Rattle.ep_base.specs.declared.ether_type.TheConstants as EtherTypeConstants
pub use Rattle.ep_base.specs.declared.ip_number.TheConstants as IpNumberConstants
pub use Rattle.ep_transport.specs.declared.icmpv4.TheConstants as Icmpv4Constants
pub use Rattle.ep_transport.specs.declared.icmpv6.TheConstants as Icmpv6Constants
pub use Rattle.ep_defrag.specs.declared.TheConstants as DefragConstants
pub use Rattle.ep_defrag.specs.declared.bounded_limits.TheConstants as BoundedConstants
