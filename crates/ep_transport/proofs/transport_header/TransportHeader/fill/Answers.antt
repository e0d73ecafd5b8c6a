use Rattle.std.proofs.Common.{arith}
use Rattle.ep_transport.proofs.transport_header.TransportHeader.fill.Goals as goal

pub returns-in-Ok-clause-ok : goal.returns-in-Ok-clause-ok
returns-in-Ok-clause-ok c = grind arith
