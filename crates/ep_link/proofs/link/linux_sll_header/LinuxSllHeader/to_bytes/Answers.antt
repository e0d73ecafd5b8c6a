use Rattle.std.proofs.Common.{arith}
use Rattle.ep_link.proofs.LinuxSllLemmas.{cells_are_bytes}
use Rattle.ep_link.proofs.link.linux_sll_header.LinuxSllHeader.to_bytes.Goals as goal

pub returns : goal.returns
returns c =
    rw (c.to_be_bytes.ensures, c.to_be_bytes-2.ensures, c.to_be_bytes-3.ensures, c.to_be_bytes-4.ensures)
    (rw c.number.ensures (cells_are_bytes c.args.self.now (omega arith)))
