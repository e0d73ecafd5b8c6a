-- Number of missing bytes of a payload, by the length fields of the headers before it.
use Rattle.std.specs.Prelude.{ℕ, ◌+◌, ◌-◌, if◌then◌else◌, nat_lt, List, length, Option, Some, None}
use Rattle.ep_ip.specs.Ipv4.{ipv4_header_len}
use Rattle.ep_transport.specs.declared.transport_header.TransportHeader.{TransportHeader}
use Rattle.ep_transport.specs.declared.transport_header.TransportHeader.TheVariants as header
use Rattle.ep_transport.specs.TransportParts.{TransportLayer}
use Rattle.ep_packet.specs.Layers.{Layers, NetLayer, arp, ipv4, ipv6}
use Rattle.ep_packet.specs.Offsets.{parts_len}

-- The number of missing bytes of a payload: the length that a length field states, less the lengths of the headers that
-- it includes and of the available payload; 0 if it is less than their sum.
abbrev pub bytes_missing : ℕ → ℕ → List ℕ → ℕ
bytes_missing stated headers payload = stated - headers - length payload

-- The number of missing bytes of an IP payload, by the total length of IPv4, which includes all headers (RFC 791, 3.1),
-- or by the payload length of IPv6, which includes the extension headers (RFC 8200, 3). 0 for ARP, whose header has no
-- such field.
abbrev pub net_missing : NetLayer → ℕ
net_missing (ipv4 header extensions payload) =
    bytes_missing header.total_len (ipv4_header_len header + parts_len extensions) payload.bytes
net_missing (ipv6 header extensions payload) =
    bytes_missing header.payload_length (parts_len extensions) payload.bytes
net_missing (arp packet) = 0

-- The number of missing bytes of the payload of a network layer; 0 without one.
abbrev pub missing_in : Option NetLayer → ℕ
missing_in (Some net) = net_missing net
missing_in None = 0

-- The number of missing bytes of the payload of a transport layer, where `outer` bytes of the IP payload are missing:
-- for UDP by its own length field (RFC 768), unless that is less than the header, and for others by that of IP.
abbrev pub header_missing : ℕ → TransportHeader → List ℕ → ℕ
header_missing outer (header.Udp udp) payload =
    if nat_lt udp.length 8 then outer else bytes_missing udp.length 8 payload
header_missing outer (header.Tcp tcp) payload = outer
header_missing outer (header.Icmpv4 icmp) payload = outer
header_missing outer (header.Icmpv6 icmp) payload = outer

-- The number of missing bytes of the payload of a transport layer, or of the IP payload without one.
abbrev pub missing_within : ℕ → Option TransportLayer → ℕ
missing_within outer (Some layer) = header_missing outer layer.header layer.payload
missing_within outer None = outer

-- The number of missing bytes of the payload of the last layer.
abbrev pub missing_bytes : Layers → ℕ
missing_bytes layers = missing_within (missing_in layers.net) layers.transport
