-- Contents of Ethernet II slices.
use Rattle.std.specs.Prelude.{ℕ, List, drop}
use Rattle.ep_base.specs.Tables.{Parts}
use Rattle.ep_link.specs.declared.link.ethernet2_header.Ethernet2Header.{Ethernet2Header}
use Rattle.ep_link.specs.declared.link.ethernet2_slice.Ethernet2Slice.{Ethernet2Slice}
use Rattle.ep_link.specs.Ethernet2.{ethernet2_header_of, ethernet2_parts}

-- the bytes of the header and the payload
abbrev pub ethernet2_slice_bytes : Ethernet2Slice → List ℕ
ethernet2_slice_bytes slice = slice.bytes.slice.now

-- the header
abbrev pub ethernet2_slice_header : Ethernet2Slice → Ethernet2Header
ethernet2_slice_header slice = ethernet2_header_of (ethernet2_slice_bytes slice)

-- the payload
abbrev pub ethernet2_slice_payload : Ethernet2Slice → List ℕ
ethernet2_slice_payload slice = drop 14 (ethernet2_slice_bytes slice)

-- the header, the payload, and the bytes after the frame
abbrev pub ethernet2_slice_parts : Ethernet2Slice → List ℕ → Parts Ethernet2Header
ethernet2_slice_parts slice left = ethernet2_parts (ethernet2_slice_bytes slice) left
