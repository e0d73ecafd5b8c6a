-- Contents of an ICMP slice.
use Rattle.std.specs.Prelude.{ℕ, List, drop}
use Rattle.ep_base.specs.Tables.{Parts}
use Rattle.ep_transport.specs.declared.icmpv4_header.Icmpv4Header.{Icmpv4Header}
use Rattle.ep_transport.specs.declared.icmpv4_slice.Icmpv4Slice.{Icmpv4Slice}
use Rattle.ep_transport.specs.Icmpv4.{icmpv4_header_of, icmpv4_kind_at, icmpv4_len, icmpv4_parts}

-- the bytes of the message
abbrev pub icmpv4_slice_bytes : Icmpv4Slice → List ℕ
icmpv4_slice_bytes message = message.bytes.slice.now

-- the header of the message
abbrev pub icmpv4_slice_header : Icmpv4Slice → Icmpv4Header
icmpv4_slice_header message = icmpv4_header_of (icmpv4_slice_bytes message)

-- the length of the header in bytes
abbrev pub icmpv4_slice_header_len : Icmpv4Slice → ℕ
icmpv4_slice_header_len message = icmpv4_len (icmpv4_kind_at (icmpv4_slice_bytes message))

-- the bytes after the header
abbrev pub icmpv4_slice_payload : Icmpv4Slice → List ℕ
icmpv4_slice_payload message = drop (icmpv4_slice_header_len message) (icmpv4_slice_bytes message)

-- the header and payload of the message
abbrev pub icmpv4_slice_parts : Icmpv4Slice → Parts Icmpv4Header
icmpv4_slice_parts message = icmpv4_parts (icmpv4_slice_bytes message)
