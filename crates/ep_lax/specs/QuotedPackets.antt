-- The packet that an ICMP error quotes: the start of the packet that caused the error.
use Rattle.std.specs.Prelude.{ℕ, ◌==◌, ◌||◌, nat_lt, if◌then◌else◌, Bool, List, Option, Some, None}
use Rattle.ep_transport.specs.declared.transport_header.TransportHeader.{TransportHeader}
use Rattle.ep_transport.specs.declared.transport_header.TransportHeader.TheVariants.{Udp, Tcp, Icmpv4, Icmpv6}
use Rattle.ep_transport.specs.Icmpv4.{icmpv4_type_u8}
use Rattle.ep_transport.specs.Icmpv6.{icmpv6_type_u8}
use Rattle.ep_transport.specs.TransportParts.{TransportLayer}

-- True for the types of ICMPv4 errors: destination unreachable, source quench, redirect, time exceeded and parameter
-- problem (RFC 792). After their 8-byte header, they quote a packet.
abbrev pub is_icmpv4_error : ℕ → Bool
is_icmpv4_error type = type == 3 || type == 4 || type == 5 || type == 11 || type == 12

-- True for the types of ICMPv6 errors, whose highest bit is 0 (RFC 4443, 2.1). After their 8-byte header, they quote a
-- packet (RFC 4443, 2.4 (c)).
abbrev pub is_icmpv6_error : ℕ → Bool
is_icmpv6_error type = nat_lt type 128

-- The payload, if it is a quoted packet.
abbrev pub payload_if : Bool → List ℕ → Option (List ℕ)
payload_if quoted payload = if quoted then Some payload else None

-- The payload after a transport header, if it is a quoted packet.
abbrev pub quoted_after_header : TransportHeader → List ℕ → Option (List ℕ)
quoted_after_header (Udp header) payload = None
quoted_after_header (Tcp header) payload = None
quoted_after_header (Icmpv4 header) payload = payload_if (is_icmpv4_error (icmpv4_type_u8 header.icmp_type)) payload
quoted_after_header (Icmpv6 header) payload = payload_if (is_icmpv6_error (icmpv6_type_u8 header.icmp_type)) payload

-- The bytes of the packet that a transport layer quotes, if it is an ICMP error.
abbrev pub quoted_in : TransportLayer → Option (List ℕ)
quoted_in layer = quoted_after_header layer.header layer.payload
