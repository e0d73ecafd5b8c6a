-- Contents of a TCP slice.
use Rattle.std.specs.Prelude.{ℕ, ◌*◌, List, take, drop}
use Rattle.ep_base.specs.Tables.{Parts}
use Rattle.ep_transport.specs.declared.tcp_header.TcpHeader.{TcpHeader}
use Rattle.ep_transport.specs.declared.tcp_slice.TcpSlice.{TcpSlice}
use Rattle.ep_transport.specs.Tcp.{data_offset_of, tcp_header_of, tcp_parts}

-- the bytes of the segment
abbrev pub tcp_slice_bytes : TcpSlice → List ℕ
tcp_slice_bytes segment = segment.bytes.slice.now

-- the header of the segment
abbrev pub tcp_slice_header : TcpSlice → TcpHeader
tcp_slice_header segment = tcp_header_of (tcp_slice_bytes segment)

-- the length of the header in bytes
abbrev pub tcp_slice_header_len : TcpSlice → ℕ
tcp_slice_header_len segment = 4 * data_offset_of (tcp_slice_bytes segment)

-- the bytes of the header
abbrev pub tcp_slice_header_bytes : TcpSlice → List ℕ
tcp_slice_header_bytes segment = take (tcp_slice_header_len segment) (tcp_slice_bytes segment)

-- the bytes after the header
abbrev pub tcp_slice_payload : TcpSlice → List ℕ
tcp_slice_payload segment = drop (tcp_slice_header_len segment) (tcp_slice_bytes segment)

-- the header and payload of the segment
abbrev pub tcp_slice_parts : TcpSlice → Parts TcpHeader
tcp_slice_parts segment = tcp_parts (tcp_slice_bytes segment)
