-- The header that a slice of an options or routing header contains.
use Rattle.std.specs.Prelude.{ℕ, List}
use Rattle.ep_ext.specs.declared.ipv6_raw_ext_header.Ipv6RawExtHeader.{Ipv6RawExtHeader}
use Rattle.ep_ext.specs.declared.ipv6_raw_ext_header_slice.Ipv6RawExtHeaderSlice.{Ipv6RawExtHeaderSlice}
use Rattle.ep_ext.specs.RawExtension.{raw_extension_of}

-- Bytes of the header.
abbrev pub raw_extension_slice_bytes : Ipv6RawExtHeaderSlice → List ℕ
raw_extension_slice_bytes slice = slice.bytes.slice.now

-- The owned header.
abbrev pub raw_extension_slice_header : Ipv6RawExtHeaderSlice → Ipv6RawExtHeader
raw_extension_slice_header slice = raw_extension_of (raw_extension_slice_bytes slice)
