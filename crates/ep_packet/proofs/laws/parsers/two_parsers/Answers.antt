use Rattle.ep_packet.proofs.ReadingLemmas.{frame_reads}
use Rattle.ep_packet.proofs.laws.parsers.two_parsers.Goals as goal

pub returns : goal.returns
returns c = frame_reads c.chain_without_second_kind.ensures
