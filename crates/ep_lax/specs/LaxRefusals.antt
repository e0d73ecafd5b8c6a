-- Rejection by lax slicing: the first header is invalid or truncated.
use Rattle.std.specs.Prelude.{ℕ, List}
use Rattle.ep_base.specs.Tables.{RefusesAs}
use Rattle.ep_base.specs.declared.err.ip.LaxHeaderSliceError.{LaxHeaderSliceError}
use Rattle.ep_base.specs.declared.err.ip.LaxHeaderSliceError.TheVariants as header_error
use Rattle.ep_ip.specs.LaxIp.{RefusesIpHeader}
use Rattle.ep_link.specs.Ethernet2.{RefusesEthernet2}
use Rattle.ep_link.specs.LinuxSll.{RefusesLinuxSll}
use Rattle.ep_packet.specs.declared.entry.Entry.{Entry}
use Rattle.ep_packet.specs.declared.entry.Entry.TheVariants.{Ethernet as ethernet, LinuxSll as linux_sll, EtherType as ether_type, Ip as ip}
use Rattle.ep_packet.specs.declared.err.slice_error.SliceError.{SliceError}
use Rattle.ep_packet.specs.declared.err.slice_error.SliceError.TheVariants.{Len, Ip}
use Rattle.ep_packet.specs.FrameRefusals.{linux_sll_refusal}

-- The error of an IP header as an error of a packet.
abbrev pub ip_header_refusal : LaxHeaderSliceError → SliceError
ip_header_refusal (header_error.Len error) = Len error
ip_header_refusal (header_error.Content error) = Ip error

-- The bytes are rejected by lax slicing with this error. Bytes that start after a link header, with a given ether type,
-- are never rejected.
abbrev pub RefusesLax : Entry → List ℕ → SliceError → Type 0
RefusesLax ethernet bytes = RefusesAs Len (RefusesEthernet2 bytes)
RefusesLax linux_sll bytes = RefusesAs linux_sll_refusal (RefusesLinuxSll bytes)
RefusesLax (ether_type type) bytes = λ error. ⊥
RefusesLax ip bytes = RefusesAs ip_header_refusal (RefusesIpHeader bytes)
