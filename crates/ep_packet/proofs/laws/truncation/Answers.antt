use Rattle.ep_packet.proofs.CutRefusalLemmas.{frame_cut}
use Rattle.ep_packet.proofs.laws.truncation.Goals as goal

pub returns : goal.returns
returns c = frame_cut
