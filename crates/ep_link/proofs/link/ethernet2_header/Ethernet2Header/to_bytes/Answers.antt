use Rattle.std.proofs.Common.{arith}
use Rattle.ep_link.proofs.Ethernet2Lemmas.{cells_are_bytes}
use Rattle.ep_link.proofs.link.ethernet2_header.Ethernet2Header.to_bytes.Goals as goal

pub returns : goal.returns
returns c = rw c.to_be_bytes.ensures (cells_are_bytes c.args.self.now (omega arith) (omega arith))
