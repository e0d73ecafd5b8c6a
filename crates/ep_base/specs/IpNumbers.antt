-- IP protocol numbers of the headers that are parsed (RFC 791, 3.1; RFC 8200, 3 and 4).
use Rattle.std.specs.Prelude.{ℕ}

-- the hop-by-hop options header of IPv6
abbrev pub hop_by_hop_number : ℕ
hop_by_hop_number = 0

-- ICMP for IPv4
abbrev pub icmpv4_number : ℕ
icmpv4_number = 1

-- TCP
abbrev pub tcp_number : ℕ
tcp_number = 6

-- UDP
abbrev pub udp_number : ℕ
udp_number = 17

-- the routing header of IPv6
abbrev pub routing_number : ℕ
routing_number = 43

-- the fragment header of IPv6
abbrev pub fragment_number : ℕ
fragment_number = 44

-- the authentication header
abbrev pub authentication_number : ℕ
authentication_number = 51

-- ICMP for IPv6
abbrev pub icmpv6_number : ℕ
icmpv6_number = 58

-- the destination options header of IPv6
abbrev pub destination_options_number : ℕ
destination_options_number = 60
