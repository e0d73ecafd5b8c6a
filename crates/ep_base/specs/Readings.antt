-- Definitions that all layers of a frame share.
use Rattle.std.specs.Prelude.{ℕ, ◌+◌}
use Rattle.ep_base.specs.declared.err.len_error.LenError.{LenError}
use Rattle.ep_base.specs.declared.err.layer.Layer.{Layer}
use Rattle.ep_base.specs.declared.len_source.LenSource.{LenSource}
use Rattle.ep_base.specs.declared.len_source.LenSource.TheVariants as source

-- How the bytes of a packet are read: as slices, where every extension header is parsed and every length field limits
-- the payload, or as owned headers, which have space for one extension header of each kind (of destination options also
-- for one after a routing header) and leave the limit of the UDP length to the caller.
pub data Reading : Type 0 where
  slices : Reading
  headers : Reading

-- The length error of a layer at byte 0 that needs `required` bytes and has `len`.
abbrev pub len_error : ℕ → ℕ → LenSource → Layer → LenError
len_error required len source layer =
    record { required_len = required; len = len; len_source = source; layer = layer; layer_start_offset = 0 }

-- The length source of a layer inside a payload whose end `outer` limits: the layer's own source, or `outer` if its
-- source is the end of the slice.
abbrev pub limited_by : LenSource → LenSource → LenSource
limited_by outer source.Slice = outer
limited_by outer source.MacsecShortLength = source.MacsecShortLength
limited_by outer source.Ipv4HeaderTotalLen = source.Ipv4HeaderTotalLen
limited_by outer source.Ipv6HeaderPayloadLen = source.Ipv6HeaderPayloadLen
limited_by outer source.UdpHeaderLen = source.UdpHeaderLen
limited_by outer source.ArpAddrLengths = source.ArpAddrLengths

-- The length error of a layer that follows `header_len` bytes of headers, in a payload whose end `outer` limits.
abbrev pub after_header : ℕ → LenSource → LenError → LenError
after_header header_len outer error = record error {
  layer_start_offset = error.layer_start_offset + header_len;
  len_source = limited_by outer error.len_source;
}
