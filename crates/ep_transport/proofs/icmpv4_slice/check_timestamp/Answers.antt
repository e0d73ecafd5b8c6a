use Rattle.std.proofs.Common.{rules}
use Rattle.ep_transport.proofs.icmpv4_slice.check_timestamp.Goals as goal

pub returns : goal.returns
returns c = search rules
