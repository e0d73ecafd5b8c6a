-- Contents of an ICMPv6 slice.
use Rattle.std.specs.Prelude.{ℕ, List, drop}
use Rattle.ep_base.specs.Tables.{Parts}
use Rattle.ep_transport.specs.declared.icmpv6_header.Icmpv6Header.{Icmpv6Header}
use Rattle.ep_transport.specs.declared.icmpv6_slice.Icmpv6Slice.{Icmpv6Slice}
use Rattle.ep_transport.specs.Icmpv6.{icmpv6_header_of, icmpv6_parts}

-- the bytes of the message
abbrev pub icmpv6_slice_bytes : Icmpv6Slice → List ℕ
icmpv6_slice_bytes message = message.bytes.slice.now

-- the header of the message
abbrev pub icmpv6_slice_header : Icmpv6Slice → Icmpv6Header
icmpv6_slice_header message = icmpv6_header_of (icmpv6_slice_bytes message)

-- the bytes after the header
abbrev pub icmpv6_slice_payload : Icmpv6Slice → List ℕ
icmpv6_slice_payload message = drop 8 (icmpv6_slice_bytes message)

-- the header and payload of the message
abbrev pub icmpv6_slice_parts : Icmpv6Slice → Parts Icmpv6Header
icmpv6_slice_parts message = icmpv6_parts (icmpv6_slice_bytes message)
