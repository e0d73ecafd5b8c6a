use Rattle.std.proofs.Common.{rules}
use Rattle.ep_transport.proofs.tcp_slice.TcpSlice.header_into.Goals as goal

pub returns : goal.returns
returns c = search rules
