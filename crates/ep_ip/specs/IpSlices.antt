-- Contents of IP slices of either version.
use Rattle.std.specs.Prelude.{⊤, ℕ, List}
use Rattle.ep_base.specs.IpPayload.{IpPayload}
use Rattle.ep_ip.specs.declared.ip_slice.IpSlice.{IpSlice}
use Rattle.ep_ip.specs.declared.ip_slice.IpSlice.TheVariants as slice
use Rattle.ep_ip.specs.IpPackets.{IpPart, ipv4_part, ipv6_part}
use Rattle.ep_ip.specs.Ipv4Slices.{ShowSameIpv4, ipv4_slice_bytes, ipv4_slice_packet, ipv4_slice_payload}
use Rattle.ep_ip.specs.Ipv6Slices.{FollowsIpv6Header, ShowSameIpv6, ipv6_slice_bytes, ipv6_slice_packet, ipv6_slice_payload}

-- the bytes of a packet
abbrev pub ip_slice_bytes : IpSlice → List ℕ
ip_slice_bytes (slice.Ipv4 packet) = ipv4_slice_bytes packet
ip_slice_bytes (slice.Ipv6 packet) = ipv6_slice_bytes packet

-- the payload of a packet
abbrev pub ip_slice_payload : IpSlice → IpPayload
ip_slice_payload (slice.Ipv4 packet) = ipv4_slice_payload packet
ip_slice_payload (slice.Ipv6 packet) = ipv6_slice_payload packet

-- the packet of a slice with these trailing bytes
abbrev pub ip_slice_packet : IpSlice → List ℕ → IpPart
ip_slice_packet (slice.Ipv4 packet) left = ipv4_part (ipv4_slice_packet packet left)
ip_slice_packet (slice.Ipv6 packet) left = ipv6_part (ipv6_slice_packet packet left)

-- For IPv6, the type of the first extension header is the header's next header.
abbrev pub FollowsIpHeader : IpSlice → Type 0
FollowsIpHeader (slice.Ipv4 packet) = ⊤
FollowsIpHeader (slice.Ipv6 packet) = FollowsIpv6Header packet

-- The packets have one version and equal contents.
abbrev pub ShowSameIp : IpSlice → IpSlice → Type 0
ShowSameIp (slice.Ipv4 a) (slice.Ipv4 b) = ShowSameIpv4 a b
ShowSameIp (slice.Ipv4 a) (slice.Ipv6 b) = ⊥
ShowSameIp (slice.Ipv6 a) (slice.Ipv4 b) = ⊥
ShowSameIp (slice.Ipv6 a) (slice.Ipv6 b) = ShowSameIpv6 a b
