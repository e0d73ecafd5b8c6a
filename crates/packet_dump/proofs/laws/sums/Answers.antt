use Rattle.packet_dump.proofs.PacketLemmas.{packets_len}
use Rattle.packet_dump.proofs.SummaryLemmas.{adds_up}
use Rattle.packet_dump.proofs.laws.sums.Goals as goal

pub returns-clause-packets : goal.returns-clause-packets
returns-clause-packets c = packets_len

pub returns-clause-rows : goal.returns-clause-rows
returns-clause-rows c = adds_up
