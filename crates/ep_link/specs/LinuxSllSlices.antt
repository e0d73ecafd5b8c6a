-- Contents of Linux cooked capture slices.
use Rattle.std.specs.Prelude.{◌≡◌, ℕ, List, drop}
use Rattle.ep_base.specs.Tables.{Parts}
use Rattle.ep_link.specs.declared.link.linux_sll_header.LinuxSllHeader.{LinuxSllHeader}
use Rattle.ep_link.specs.declared.link.linux_sll_slice.LinuxSllSlice.{LinuxSllSlice}
use Rattle.ep_link.specs.declared.link.linux_sll_payload_slice.LinuxSllPayloadSlice.{LinuxSllPayloadSlice}
use Rattle.ep_link.specs.LinuxSll.{linux_sll_header_of, linux_sll_parts}

-- the bytes of the header and the payload
abbrev pub linux_sll_slice_bytes : LinuxSllSlice → List ℕ
linux_sll_slice_bytes slice = slice.bytes.slice.now

-- the header
abbrev pub linux_sll_slice_header : LinuxSllSlice → LinuxSllHeader
linux_sll_slice_header slice = linux_sll_header_of (linux_sll_slice_bytes slice)

-- the payload
abbrev pub linux_sll_slice_payload : LinuxSllSlice → List ℕ
linux_sll_slice_payload slice = drop 16 (linux_sll_slice_bytes slice)

-- the header, the payload, and the bytes after the packet
abbrev pub linux_sll_slice_parts : LinuxSllSlice → List ℕ → Parts LinuxSllHeader
linux_sll_slice_parts slice left = linux_sll_parts (linux_sll_slice_bytes slice) left

-- two payloads have equal bytes and the same protocol
abbrev pub ShowSameSllPayload : LinuxSllPayloadSlice → LinuxSllPayloadSlice → Type 0
ShowSameSllPayload a b = (a.protocol_type ≡ b.protocol_type) × (a.payload.now ≡ b.payload.now)
