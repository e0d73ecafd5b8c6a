-- The IP number of a transport layer.
use Rattle.std.specs.Prelude.{ℕ}
use Rattle.ep_base.specs.IpNumbers.{icmpv4_number, tcp_number, udp_number, icmpv6_number}
use Rattle.ep_transport.specs.declared.transport_slice.TransportSlice.{TransportSlice}
use Rattle.ep_transport.specs.declared.transport_slice.TransportSlice.TheVariants as slice

-- the IP number of the layer in a slice
abbrev pub transport_slice_number : TransportSlice → ℕ
transport_slice_number (slice.Udp datagram) = udp_number
transport_slice_number (slice.Tcp segment) = tcp_number
transport_slice_number (slice.Icmpv4 message) = icmpv4_number
transport_slice_number (slice.Icmpv6 message) = icmpv6_number
