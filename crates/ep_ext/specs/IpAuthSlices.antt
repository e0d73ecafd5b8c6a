-- The header that a slice of an authentication header contains.
use Rattle.std.specs.Prelude.{ℕ, List}
use Rattle.ep_ext.specs.declared.ip_auth_header.IpAuthHeader.{IpAuthHeader}
use Rattle.ep_ext.specs.declared.ip_auth_header_slice.IpAuthHeaderSlice.{IpAuthHeaderSlice}
use Rattle.ep_ext.specs.IpAuth.{ip_auth_of}

-- Bytes of the header.
abbrev pub ip_auth_slice_bytes : IpAuthHeaderSlice → List ℕ
ip_auth_slice_bytes slice = slice.bytes.slice.now

-- The owned header.
abbrev pub ip_auth_slice_header : IpAuthHeaderSlice → IpAuthHeader
ip_auth_slice_header slice = ip_auth_of (ip_auth_slice_bytes slice)
