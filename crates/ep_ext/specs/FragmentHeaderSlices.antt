-- The header that a slice of a fragment header contains.
use Rattle.std.specs.Prelude.{ℕ, List}
use Rattle.ep_ext.specs.declared.ipv6_fragment_header.Ipv6FragmentHeader.{Ipv6FragmentHeader}
use Rattle.ep_ext.specs.declared.ipv6_fragment_header_slice.Ipv6FragmentHeaderSlice.{Ipv6FragmentHeaderSlice}
use Rattle.ep_ext.specs.FragmentHeader.{fragment_header_of}

-- Bytes of the header.
abbrev pub fragment_slice_bytes : Ipv6FragmentHeaderSlice → List ℕ
fragment_slice_bytes slice = slice.bytes.slice.now

-- The owned header.
abbrev pub fragment_slice_header : Ipv6FragmentHeaderSlice → Ipv6FragmentHeader
fragment_slice_header slice = fragment_header_of (fragment_slice_bytes slice)
