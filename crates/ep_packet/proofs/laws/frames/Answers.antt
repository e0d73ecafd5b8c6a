use Rattle.ep_base.specs.Readings.{slices}
use Rattle.ep_packet.proofs.FrameLemmas.{frames_decided}
use Rattle.ep_packet.proofs.LayerLawLemmas.{layer_laws}
use Rattle.ep_packet.proofs.laws.frames.Goals as goal

pub returns : goal.returns
returns c = record { slices = frames_decided layer_laws slices; readings = frames_decided layer_laws }
