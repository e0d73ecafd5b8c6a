use Rattle.ep_packet.proofs.FrameBytesLemmas.{frame_in_order}
use Rattle.ep_packet.proofs.LayerLawLemmas.{layer_laws}
use Rattle.ep_packet.proofs.laws.frame_bytes.Goals as goal

pub returns : goal.returns
returns c = frame_in_order layer_laws
