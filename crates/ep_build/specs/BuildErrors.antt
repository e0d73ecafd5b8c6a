-- The errors of building a frame.
use Rattle.std.specs.Prelude.{◌≡◌, ◌⊎◌, ℕ, ◌+◌, Bool, true, false, List, [], ◌∷◌, ◌++◌, Option, Some, None}
use Rattle.ep_base.specs.Tables.{Refuses, first_row, rows_as}
use Rattle.ep_base.specs.declared.err.ipv4_exts.ExtsWalkError.{ExtsWalkError as Ipv4WalkError}
use Rattle.ep_base.specs.declared.err.ipv6_exts.ExtsWalkError.{ExtsWalkError as Ipv6WalkError}
use Rattle.ep_base.specs.declared.err.value_too_big.ValueTooBigError.{ValueTooBigError}
use Rattle.ep_packet.specs.IpHeaders.{payload_len_rows}
use Rattle.ep_packet.specs.declared.ip_headers.IpHeaders.{IpHeaders}
use Rattle.ep_packet.specs.declared.ip_headers.IpHeaders.TheVariants as version
use Rattle.ep_transport.specs.TransportHeaders.{transport_header_len}
use Rattle.ep_transport.specs.declared.transport_header.TransportHeader.{TransportHeader}
use Rattle.ep_transport.specs.declared.transport_header.TransportHeader.TheVariants as transport
use Rattle.ep_build.specs.BuiltFrames.{FrameHeaders, Inside, ip_packet, transport_packet, arp_packet}
use Rattle.ep_build.specs.declared.err.build_write_error.BuildWriteError.{BuildWriteError}
use Rattle.ep_build.specs.declared.err.build_write_error.BuildWriteError.TheVariants as error

-- ---- refusal table

-- True if the transport header is ICMPv6 after IPv4 headers, which lack the addresses for its checksum.
abbrev pub is_icmpv6_in_ipv4 : IpHeaders → TransportHeader → Bool
is_icmpv6_in_ipv4 (version.Ipv4 header extensions) (transport.Udp datagram) = false
is_icmpv6_in_ipv4 (version.Ipv4 header extensions) (transport.Tcp segment) = false
is_icmpv6_in_ipv4 (version.Ipv4 header extensions) (transport.Icmpv4 message) = false
is_icmpv6_in_ipv4 (version.Ipv4 header extensions) (transport.Icmpv6 message) = true
is_icmpv6_in_ipv4 (version.Ipv6 header extensions) upper = false

-- Refusal table of the headers after the link part and `len` bytes of payload.
abbrev pub inside_rows : Inside → ℕ → List (Bool × BuildWriteError)
inside_rows (ip_packet headers last) len = rows_as error.PayloadLen (payload_len_rows headers len)
inside_rows (transport_packet headers upper) len =
    rows_as error.PayloadLen (payload_len_rows headers (transport_header_len upper + len))
    ++ (is_icmpv6_in_ipv4 headers upper, error.Icmpv6InIpv4)
    ∷ []
inside_rows (arp_packet packet) len = []

-- Refusal table of the headers of a frame and `len` bytes of payload.
abbrev pub build_rows : FrameHeaders → ℕ → List (Bool × BuildWriteError)
build_rows frame len = inside_rows frame.inside len

-- The error of the headers and `len` bytes of payload, by the table.
abbrev pub RefusesBuild : FrameHeaders → ℕ → BuildWriteError → Type 0
RefusesBuild frame len = Refuses (build_rows frame len)

-- No row of the table is met.
abbrev pub IsBuildable : FrameHeaders → ℕ → Type 0
IsBuildable frame len = first_row (build_rows frame len) ≡ None

-- The error of writing the frame: that of the table, or out of memory if no row is met.
abbrev pub IsBuildError : FrameHeaders → ℕ → BuildWriteError → Type 0
IsBuildError frame len refusal =
    RefusesBuild frame len refusal ⊎ ((refusal ≡ error.OutOfMemory) × IsBuildable frame len)

-- ---- parts of an error

-- The error of the length, if it is one.
abbrev pub payload_len_in : BuildWriteError → Option (ValueTooBigError ℕ)
payload_len_in (error.PayloadLen refusal) = Some refusal
payload_len_in error.Icmpv6InIpv4 = None
payload_len_in error.OutOfMemory = None
payload_len_in (error.Ipv4Exts refusal) = None
payload_len_in (error.Ipv6Exts refusal) = None
payload_len_in error.ArpHeaderNotMatch = None

-- The error of the IPv4 extension header, if it is one.
abbrev pub ipv4_exts_in : BuildWriteError → Option Ipv4WalkError
ipv4_exts_in (error.PayloadLen refusal) = None
ipv4_exts_in error.Icmpv6InIpv4 = None
ipv4_exts_in error.OutOfMemory = None
ipv4_exts_in (error.Ipv4Exts refusal) = Some refusal
ipv4_exts_in (error.Ipv6Exts refusal) = None
ipv4_exts_in error.ArpHeaderNotMatch = None

-- The error of the IPv6 extension headers, if it is one.
abbrev pub ipv6_exts_in : BuildWriteError → Option Ipv6WalkError
ipv6_exts_in (error.PayloadLen refusal) = None
ipv6_exts_in error.Icmpv6InIpv4 = None
ipv6_exts_in error.OutOfMemory = None
ipv6_exts_in (error.Ipv4Exts refusal) = None
ipv6_exts_in (error.Ipv6Exts refusal) = Some refusal
ipv6_exts_in error.ArpHeaderNotMatch = None
