use Rattle.std.proofs.Common.{rules}
use Rattle.ep_transport.proofs.udp_slice.UdpSlice.checksum.Goals as goal

pub returns : goal.returns
returns c = search rules
