use Rattle.ep_packet.proofs.FrameVerdictLemmas.{verdicts_shown}
use Rattle.ep_packet.proofs.laws.checksums.Goals as goal

pub returns : goal.returns
returns c = verdicts_shown
